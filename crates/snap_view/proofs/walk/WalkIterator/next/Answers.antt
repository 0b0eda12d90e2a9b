use Rattle.std.proofs.Common.{arith, length, refl, sym, ap, ◌∙◌, subst}
use Rattle.snap_prelude.specs.{after, at, Side}
use Rattle.snap_view.specs.{Nearest.IsNearestPair, Nearest.reaches, Walks.pairs_left}
use Rattle.snap_view.proofs.Walking.{walk_gives, walk_ends, walk_passes}
use Rattle.snap_view.proofs.walk.WalkIterator.next.Goals as goal
use Rattle.snap_view.proofs.walk.WalkIterator.next.Goals.{in_default-via-in-Some+else-reaches, in_default-via-in_default}

pub returns-in-Some-clause-steps : goal.returns-in-Some-clause-steps
returns-in-Some-clause-steps c =
    let lies = sym (c.reaches.ensures ∙ ap (λ (s : Side). reaches s c.self.inside.bound c.in-Some.key) c.other.ensures) ∙ c.if-reaches.true in
    ap pairs_left (sym c.self.view_is) ∙ walk_gives c.self.inside.view c.next_pair-found.new.self c.next_pair-found.ensures.clone c.next_pair-found.ensures.view c.self.inside.side c.self.inside.next c.in_ok-from.from c.self.inside.bound c.in_ok-from.was
    (c.in-Some.key, c.in-Some.value) c.behind-self-inside.result c.in-Some.ensures.nearest lies c.behind-self-inside.ensures

pub returns-in-Some-clause-goes : goal.returns-in-Some-clause-goes
returns-in-Some-clause-goes c =
    let step = returns-in-Some-clause-steps c in
    record { on = λ _. (tt, tt, omega (arith, ap length step)); keeps = tt; rests = λ _. tt }

pub returns-in_default-clause-steps : goal.returns-in_default-clause-steps
returns-in_default-clause-steps c = elim c.in_default.branch [
  | in_default-via-in-Some+else-reaches w ↦ (let lies = sym (w.reaches.ensures ∙ ap (λ (s : Side). reaches s c.self.inside.bound w.in-Some.key) w.other.ensures) ∙ w.if-reaches.false in (
    ap pairs_left (sym c.self.view_is) ∙ walk_passes c.self.inside.view c.next_pair-found.new.self c.next_pair-found.ensures.clone c.next_pair-found.ensures.view c.self.inside.side c.self.inside.next c.in_ok-from.from c.self.inside.bound c.in_ok-from.was
        (w.in-Some.key, w.in-Some.value) w.in-Some.ensures.nearest lies,
    refl,
  ))
  | in_default-via-in_default w ↦ (
    ap pairs_left (sym c.self.view_is) ∙ walk_ends c.self.inside.view c.next_pair-found.new.self c.next_pair-found.ensures.clone c.next_pair-found.ensures.view c.self.inside.side c.self.inside.next c.in_ok-from.from c.self.inside.bound c.in_ok-from.was
        (subst (IsNearestPair (at (after c.self.inside.view.base)) c.self.inside.side c.in_ok-from.from) w.in_default.is c.next_pair-found.ensures.nearest),
    refl,
  )
]
