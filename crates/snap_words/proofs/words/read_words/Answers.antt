use Rattle.std.proofs.Common.{◌∙◌, map, sym}
use Rattle.std.specs.Prelude.{string_bytes}
use Rattle.snap_words.specs.Givens.{given_by}
use Rattle.snap_words.specs.declared.words.WordsFault.TheVariants as fault
use Rattle.snap_words.proofs.Jobs.{fault_found, handed_on, job_found, numbers_found, refused_by_misuse, within_found}
use Rattle.snap_words.proofs.words.read_words.Goals as goal

-- the command doesn't take the words
pub returns-in_err-matches-clause-refused : goal.returns-in_err-matches-clause-refused
returns-in_err-matches-clause-refused c =
    let fault = c.in_err-matches.field-0.0 in
    let ws = map string_bytes c.args.words.now in
    handed_on ws c.from_residual.result fault c.from_residual.ensures.1 (refused_by_misuse ws fault c.in_err-matches.ensures.refused)

-- or none
pub job_for-requires : goal.job_for-requires
job_for-requires c = numbers_found (given_by c.of-given.result) c.in_ok-numbers.numbers (sym c.in_ok-numbers.ensures)

pub returns-clause-ok : goal.returns-clause-ok
returns-clause-ok c =
    let ws = map string_bytes c.args.words.now in
    let given = c.of-given.ensures ∙ c.in_ok-matches.ensures.arguments in
    job_found ws (given_by c.of-given.result) c.in_ok-numbers.numbers c.in_ok-job_for.field-0 c.in_ok-matches.ensures.taken given (sym c.in_ok-numbers.ensures) c.in_ok-job_for.ensures

pub returns-clause-within : goal.returns-clause-within
returns-clause-within c = within_found (given_by c.of-given.result) c.in_ok-numbers.numbers c.in_ok-job_for.field-0 (sym c.in_ok-numbers.ensures) c.in_ok-job_for.ensures

pub returns-in_err-numbers-clause-refused : goal.returns-in_err-numbers-clause-refused
returns-in_err-numbers-clause-refused c =
    let why = c.in_err-numbers.field-0.0 in
    let ws = map string_bytes c.args.words.now in
    let given = c.of-given.ensures ∙ c.in_ok-matches.ensures.arguments in
    handed_on ws c.from_residual-in_err-numbers.result (fault.Refused why) c.from_residual-in_err-numbers.ensures.1
    (fault_found ws (given_by c.of-given.result) why c.in_ok-matches.ensures.taken given (sym c.in_err-numbers.ensures))
