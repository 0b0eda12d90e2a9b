use Rattle.std.proofs.Common.{◌≡◌, ◌∙◌, ap, true}
use Rattle.std.specs.Prelude.{◌||◌, bytes_eq, string_bytes}
use Rattle.std.specs.BTreeSet.{contains_text}
use Rattle.std.proofs.lemmas.Map.Text.{btree_set_updates_text}
use Rattle.snap_plan.proofs.Names.{or_cond}
use Rattle.snap_plan.proofs.needs.Taken.add.Goals as goal

pub returns-clause-names : goal.returns-clause-names
returns-clause-names c = λ name.
    let file = c.in_ok-file.file in
    let updated = btree_set_updates_text (string_bytes file) c.args.self.now.names c.insert.new.self true c.in_ok-insert.ensures.updates name in
    let same : string_bytes file ≡ c.args.file.now = c.in_ok-file.ensures.ok ∙ c.text.ensures in
    updated ∙ or_cond (bytes_eq (string_bytes file) name) (contains_text c.args.self.now.names name)
    ∙ ap (λ bs. contains_text c.args.self.now.names name || bytes_eq bs name) same
