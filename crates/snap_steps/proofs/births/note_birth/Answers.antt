use Rattle.std.proofs.Common.{rules, refl, sym, subst, ◌≡◌}
use Rattle.snap_steps.specs.Asking.{about_of}
use Rattle.snap_steps.specs.Counting.{Among}
use Rattle.snap_steps.specs.Seen.{Known}
use Rattle.snap_rule.specs.declared.reader.Reading.TheVariants.{On}
use Rattle.snap_steps.specs.Steps.Births.{birth_noted}
use Rattle.snap_steps.proofs.Passing.{stays_pass, same_pairs}
use Rattle.snap_steps.proofs.Keeps.Births.{notes_birth}
use Rattle.snap_steps.proofs.births.note_birth.Goals as goal

pub load-requires-clause-step : goal.load-requires-clause-step
load-requires-clause-step c = let t = c.requires.way in
    notes_birth (about_of c.args.rows.now) c.args.rows.now.table.slots c.pass.inside.seat.id c.pass.inside.seat.me c.args.row c.args.key t.0 c.requires.row (search rules) (search rules) (search rules)

pub invariant_of-pass : goal.invariant_of-pass
invariant_of-pass c =
    let way : c.pass.inside.seat.me.0.way.reads ≡ On c.args.key c.requires.way.0 = search rules in
    let t = c.load.ensures.step c.args.row c.args.key c.requires.way.0 refl way in let m = c.pass.inside.seat.me in let w = birth_noted m.0 c.args.key c.args.row c.load.result in
    stays_pass m c.load.new.seat.me w c.pass.inside.who c.pass.inside.uses c.pass.inside.added c.pass.inside.taken c.pass.inside.added c.pass.inside.taken c.pass.inside.owed c.pass.inside.owed c.pass.invariant.owed_is c.pass.invariant t.0 refl refl refl refl (same_pairs m.0 w c.pass.inside.added c.pass.inside.taken refl refl c.pass.invariant.pairs)

pub returns-clause-past : goal.returns-clause-past
returns-clause-past c =
    let way : c.pass.inside.seat.me.0.way.reads ≡ On c.args.key c.requires.way.0 = search rules in
    let t = c.load.ensures.step c.args.row c.args.key c.requires.way.0 refl way in λ e some. t.1 e (subst (λ (k : Known). Among e k.view.words.present) (sym c.pass.view_is) some)
