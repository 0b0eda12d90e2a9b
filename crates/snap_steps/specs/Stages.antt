-- What a pass is doing at the gate, as numbers that add up over all views.
use Rattle.std.specs.Prelude.{ℕ, cond, ◌/◌, ◌==◌, ◌||◌, true, List, ◌∷◌}
use Rattle.snap_steps.specs.declared.view.Stage.{Stage}
use Rattle.snap_steps.specs.declared.view.Stage.TheVariants.{Idle, Writing, Closing}

abbrev pub in_write : Stage → ℕ
in_write Idle = 0
in_write (Writing made counted) = 1
in_write (Closing gate quiet cut) = 0

abbrev pub is_closing : Stage → ℕ
is_closing Idle = 0
is_closing (Writing made counted) = 0
is_closing (Closing gate quiet cut) = 1

abbrev pub is_quiet : Stage → ℕ
is_quiet Idle = 0
is_quiet (Writing made counted) = 0
is_quiet (Closing gate quiet cut) = cond quiet 1 0

-- closing, and the cut is still to come
abbrev pub may_cut : Stage → ℕ
may_cut Idle = 0
may_cut (Writing made counted) = 0
may_cut (Closing gate quiet cut) = cond cut 0 1

-- the entry of the write in progress stands in the history and is not counted
abbrev pub owes_count : Stage → ℕ
owes_count Idle = 0
owes_count (Writing made counted) = cond made (cond counted 0 1) 0
owes_count (Closing gate quiet cut) = 0

-- the write in progress has its entry counted
abbrev pub has_counted : Stage → ℕ
has_counted Idle = 0
has_counted (Writing made counted) = cond counted 1 0
has_counted (Closing gate quiet cut) = 0

-- the stage after a load of `left`
abbrev pub after_left : Stage → ℕ → Stage
after_left Idle r = Idle
after_left (Writing made counted) r = Writing made counted
after_left (Closing gate quiet cut) r = Closing gate (quiet || (r == gate / 2)) cut

abbrev pub after_cut : Stage → Stage
after_cut Idle = Idle
after_cut (Writing made counted) = Writing made counted
after_cut (Closing gate quiet cut) = Closing gate quiet true

-- closing, and the cut is made
abbrev pub has_cut : Stage → ℕ
has_cut Idle = 0
has_cut (Writing made counted) = 0
has_cut (Closing gate quiet cut) = cond cut 1 0

abbrev pub with_epoch : Stage → ℕ → List ℕ → List ℕ
with_epoch Idle n l = l
with_epoch (Writing made counted) n l = n ∷ l
with_epoch (Closing gate quiet cut) n l = l
