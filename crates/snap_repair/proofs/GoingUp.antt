-- The ends of a way to which a repair may go: those of a search, and those that are kept.
use Rattle.std.proofs.Common.{◌≡◌, ◌≢◌, ◌∙◌, ◌∷◌, ◌<◌, ◌≤◌, ◌-◌, ℕ, List, Bool, cond, Option, None, Some, inl, inr, length, sym, ap, subst, arith, MatchOption, slice_get}
use Rattle.snap_prelude.proofs.Common.{All, dite, slice_get_within, times-append, ℕ_discrete}
use Rattle.std.proofs.lemmas.List.Elements.{All-get_or, All-pop}
use Rattle.std.proofs.lemmas.Option.{get_or_from_slice_get}
use Rattle.snap_repair.proofs.Mending.{births_not_full, mends_on, works_mends}
use Rattle.snap_repair.specs.{Mending.Looks, Rising.GoesTo, Rising.MayEndOn}
use Rattle.snap_prelude.specs.{Among, Becomes, Epoch, Field, KeepsReached, Known}
use Rattle.snap_prelude.specs.{led_to, link_field, On, read, Standing, times, View}
use Rattle.snap_search.specs.Prelude.{births_of, EndsOn, FindsEnd, GoesUp, GoesUpTo, IsStep, IsWay}
use Rattle.snap_search.specs.{declared.endings.Ending.Ending, declared.kept.Step.Step, declared.kept.Way.Way}
use Rattle.snap_shape.proofs.Children.{led_from}

-- an end that a search found
may_end : (rows : ℕ) (v : View) (key : ℕ) (e : Ending) → EndsOn rows v key e → MayEndOn rows v key e
may_end rows v key e ends = record {
  is_end = ends.is_end;
  place = λ here. ends.place ∙ ap (λ (b : Bool). On key (Standing (cond b e.above e.row) e.stamp e.side)) here;
}

goes_by_search : (rows : ℕ) (old new : Known) (key : ℕ) (e : Ending) → FindsEnd rows old new key e → GoesTo rows old new key e
goes_by_search rows old new key e found = record {
  mends = works_mends old new (Epoch found.epoch ∷ births_of key found.births) found.works found.seen (births_not_full old.view.rows key found.epoch found.births);
  holds = ap (λ (k : Known). k.view.holds) found.works.is;
  debt = ap (λ (k : Known). k.view.debt) found.works.is;
  ends = may_end rows new.view key e found.ends;
}

-- what is left of a way
pub left_way : (rows : ℕ) (v : View) (old new : Way) (e : Option Ending) → GoesUp old.steps.items new.steps.items e → IsWay rows v old → IsWay rows v new
left_way rows v old new None (inl none) are = subst (All (IsStep rows v)) (none.0 ∙ sym none.1) are
left_way rows v old new None (inr gone) are = (All-pop (IsStep rows v) old.steps.items new.steps.items (Some gone.0) gone.1 are).0
left_way rows v old new (Some e) up are = (All-pop (IsStep rows v) old.steps.items new.steps.items (Some up.last) up.are are).0

-- the lowest row that is kept
pub lowest_step : (rows : ℕ) (v : View) (steps : List Step) (s : Step) → slice_get steps (length steps - 1) ≡ Some s → All (IsStep rows v) steps → IsStep rows v s
lowest_step rows v steps s is are =
    let within : length steps - 1 < length steps = slice_get_within steps (length steps - 1) s is in
    subst (IsStep rows v) (get_or_from_slice_get steps (length steps - 1) s s is) (All-get_or (IsStep rows v) steps (length steps - 1) s within are)

-- and the end of a way that it gives
kept_ends : (rows : ℕ) (v : View) (key : ℕ) (old new : Way) (e : Ending) → GoesUpTo old.steps.items new.steps.items e → IsWay rows v old → MayEndOn rows v key e
kept_ends rows v key old new e up are =
    let split = All-pop (IsStep rows v) old.steps.items new.steps.items (Some up.last) up.are are in
    let last : IsStep rows v up.last = split.1 in
    let above : IsStep rows v up.above = lowest_step rows v new.steps.items up.above up.is_above split.0 in
    subst (MayEndOn rows v key) (sym up.is_end) (record {
      is_end = record {
        low = (last.low, above.low);
        reached = last.reached;
        above = above.reached;
        on_right = above.on_right;
        faces = last.on_right;
      };
      place = λ here. cc;
    })

pub may_end_up : (rows : ℕ) (v : View) (key : ℕ) (old new : Way) (e : Option Ending) → GoesUp old.steps.items new.steps.items e → IsWay rows v old → MatchOption e (Unit {0}) (λ x. MayEndOn rows v key x)
may_end_up rows v key old new None up are = tt
may_end_up rows v key old new (Some e) up are = kept_ends rows v key old new e up are

-- the child to which a kept row leads, and what is then kept of it
pub child_low : (rows : ℕ) (v : View) (s : Step) (f : Field) (x : ℕ) → IsStep rows v s → f ≡ link_field s.side → ((c : ℕ) → Among c (led_to v s.row f x) → c ≤ rows) → x ≤ rows
child_low rows v s f x step by bound = dite (ℕ_discrete x 0) (λ z. omega (arith, z)) (λ some. bound x (subst (λ (i : Field). Among x (led_to v s.row i x)) (sym by) (led_from v s.row x s.side step.reached step.on_right some)))

pub child_step : (rows : ℕ) (a b : Known) (w : View) (s t : Step) (f : Field) (x : ℕ) → IsStep rows a.view s → f ≡ link_field s.side → Becomes a b (read a.view s.row f x) → KeepsReached b.view w → x ≤ rows → t.row ≡ x → t.row ≢ 0 → IsStep rows w t
child_step rows a b w s t f x step by e kept low row some =
    let led : Among x (led_to a.view s.row f x) = subst (λ (i : Field). Among x (led_to a.view s.row i x)) (sym by) (led_from a.view s.row x s.side step.reached step.on_right (λ z. some (row ∙ z))) in
    let here : Among x b.view.trail.reached = omega (arith, led, ap (λ (k : Known). times x k.view.trail.reached) e, times-append x a.view.trail.reached (led_to a.view s.row f x)) in
    record {
      low = omega (arith, row, low);
      reached = inr (subst (λ (r : ℕ). Among r w.trail.reached) (sym row) (omega (arith, here, kept x)));
      on_right = λ z. absurd (some z);
    }

pub goes_by_way : (rows : ℕ) (a b : Known) (key : ℕ) (e : Ending) → Looks a b → MayEndOn rows b.view key e → GoesTo rows a b key e
goes_by_way rows a b key e s ends = record { mends = s.0.mends; holds = s.1; debt = s.0.debt; ends = ends }

pub goes_after : (rows : ℕ) (a b d : Known) (key : ℕ) (e : Ending) → Looks a b → FindsEnd rows b d key e → GoesTo rows a d key e
goes_after rows a b d key e s found =
    let g = goes_by_search rows b d key e found in
    record { mends = mends_on a b d s.0.mends g.mends; holds = g.holds ∙ s.1; debt = g.debt ∙ s.0.debt; ends = g.ends }
