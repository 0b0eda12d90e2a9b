-- A write that goes on without its entry.
use Rattle.std.proofs.Common.{◌≡◌, inl, inr, ℕ, ◌<◌, ◌≤◌, List, [], ◌∷◌, ◌++◌, append_assoc, append-nil, refl, sym, ap, ◌∙◌, subst, arith}
use Rattle.snap_prelude.proofs.Common.{dite, one_other, removed_other, removed_same, ℕ_discrete}
use Rattle.snap_copy.specs.{Owning.IsCopied, declared.Wanted.Wanted}
use Rattle.snap_locks.specs.Held.{HasLocked, with_refusals}
use Rattle.snap_prelude.specs.{AllAre, Among, Becomes, Fact, In, KeepsReached, Known}
use Rattle.snap_prelude.specs.{locked, removed, times, unlocked, View, WordNote}
use Rattle.snap_search.specs.Prelude.{Works}
use Rattle.snap_search.proofs.{Walking.sees_on, Walking.times-append, Working.no_notes, Working.notes_on}
use Rattle.snap_update.specs.{Answers.GoesOn, Answers.LinksWhatItDraws, Answers.written, Held.IsAtWork, Held.IsReady}
use Rattle.snap_update.proofs.Holding.{removed_alone}

pub written_on : (old mid new : Known) → mid ≡ written old mid.view → new ≡ written mid new.view → new ≡ written old new.view
written_on old mid new a b = b ∙ ap (λ (k : Known). written k new.view) a

pub removed_added : (x r : ℕ) (l : List ℕ) → times r (removed x (x ∷ l)) ≤ times r l
removed_added x r l = dite (ℕ_discrete r x) (λ same. omega (arith, ap (λ (i : ℕ). times i (removed x (x ∷ l))) same, removed_same x (x ∷ l))) (λ ne. omega (arith, removed_other x r (x ∷ l) ne, one_other r x ne))

-- the one row of a list of its own is none of a list without it
pub alone_removed : (x r : ℕ) (l : List ℕ) → 0 < times r (x ∷ []) → times r (removed x l) ≡ 0
alone_removed x r l some_r = dite (ℕ_discrete r x) (λ same. ap (λ (i : ℕ). times i (removed x l)) same ∙ removed_same x l) (λ ne. absurd (omega (arith, some_r, one_other r x ne)))

pub alone_among : (x r : ℕ) (l : List ℕ) → 0 < times r (x ∷ []) → Among x l → Among r l
alone_among x r l some_r h = dite (ℕ_discrete r x) (λ same. subst (λ (i : ℕ). Among i l) (sym same) h) (λ ne. absurd (omega (arith, some_r, one_other r x ne)))

pub in_right : (n : WordNote) (l m : List WordNote) → In n m → In n (l ++ m)
in_right n [] m h = h
in_right n (x ∷ xs) m h = inr (in_right n xs m h)

pub in_left : (n : WordNote) (l m : List WordNote) → In n l → In n (l ++ m)
in_left n [] m h = absurd h
in_left n (x ∷ xs) m (inl e) = inl e
in_left n (x ∷ xs) m (inr h) = inr (in_left n xs m h)

-- rows that were linked stay so
both_linked : (v w : View) (r s : List ℕ) → ((n : ℕ) → 0 < times n r → (times n v.fresh.own ≡ 0) × Among n v.trail.reached) → ((n : ℕ) → 0 < times n s → (times n w.fresh.own ≡ 0) × Among n w.trail.reached) → ((n : ℕ) → times n w.fresh.own ≤ times n v.fresh.own) → KeepsReached v w
    → (n : ℕ) → 0 < times n (r ++ s) → (times n w.fresh.own ≡ 0) × Among n w.trail.reached
both_linked v w r s a b less kept n some_n = dite (ℕ_discrete (times n r) 0) (λ z. b n (omega (arith, some_n, times-append n r s))) (λ nz. let h = a n (omega arith) in (omega (arith, h.0, less n), omega (arith, h.1, kept n)))

pub links_on : (u v w : View) → LinksWhatItDraws u v → LinksWhatItDraws v w → KeepsReached v w → LinksWhatItDraws u w
links_on u v w a b kept = record {
  rows = a.rows ++ b.rows;
  drawn = b.drawn ∙ ap (λ (x : List ℕ). x ++ b.rows) a.drawn ∙ append_assoc u.drawn a.rows b.rows;
  linked = both_linked v w a.rows b.rows a.linked b.linked b.no_more kept;
  no_more = λ n. omega (arith, a.no_more n, b.no_more n);
}

-- work goes on with a write
pub goes_works : (old new : Known) (key : ℕ) (l : List WordNote) → Works old new l → GoesOn old new key [] l
goes_works old new key l w = record {
  is = w.is ∙ ap (λ (k : Known). written old k.view) (sym w.is);
  mine = ap (λ (k : Known). k.view.mine) w.is;
  stage = ap (λ (k : Known). k.view.stage) w.is;
  holds = ap (λ (k : Known). k.view.holds) w.is;
  debt = ap (λ (k : Known). k.view.debt) w.is;
  sees = w.sees;
  noted = w.noted;
  drawn = ap (λ (k : Known). k.view.drawn) w.is ∙ sym (append-nil old.view.drawn);
  linked = λ r some_r. absurd (omega arith);
  no_more = λ r. omega (arith, ap (λ (k : Known). times r k.view.fresh.own) w.is);
  reached = w.kept;
  present = w.present;
  copies = λ h. subst (AllAre key) (sym (ap (λ (k : Known). k.view.fresh.copies) w.is)) h;
}

pub goes_nowhere : (old : Known) (key : ℕ) → GoesOn old old key [] []
goes_nowhere old key = record {
  is = refl;
  mine = refl;
  stage = refl;
  holds = refl;
  debt = refl;
  sees = inl refl;
  noted = no_notes old.view old.view refl refl refl (λ h. h);
  drawn = sym (append-nil old.view.drawn);
  linked = λ r some_r. absurd (omega arith);
  no_more = λ r. omega arith;
  reached = λ r. omega arith;
  present = λ e h. h;
  copies = λ h. h;
}

pub goes_on : (old mid new : Known) (key : ℕ) (r s : List ℕ) (l m : List WordNote) → GoesOn old mid key r l → GoesOn mid new key s m → GoesOn old new key (r ++ s) (l ++ m)
goes_on old mid new key r s l m a b = record {
  is = written_on old mid new a.is b.is;
  mine = b.mine ∙ a.mine;
  stage = b.stage ∙ a.stage;
  holds = b.holds ∙ a.holds;
  debt = b.debt ∙ a.debt;
  sees = sees_on old.view mid.view new.view (ap (λ (k : Known). k.view.who) a.is) a.mine a.sees b.sees;
  noted = notes_on old.view mid.view new.view l m a.noted b.noted;
  drawn = b.drawn ∙ ap (λ (x : List ℕ). x ++ s) a.drawn ∙ append_assoc old.view.drawn r s;
  linked = both_linked mid.view new.view r s a.linked b.linked b.no_more b.reached;
  no_more = λ n. omega (arith, a.no_more n, b.no_more n);
  reached = λ n. omega (arith, a.reached n, b.reached n);
  present = λ e h. b.present e (a.present e h);
  copies = λ h. b.copies (a.copies h);
}

abbrev known : Known → View → Known
known k v = record { table = k.table; view = v }

-- between a lock and its release
freed : (old b : Known) (refused : List Fact) (key row : ℕ) (r : List ℕ) (l : List WordNote) → GoesOn (known old (locked (with_refusals old.view refused) row)) b key r l → old.view.holds ≡ [] → GoesOn old (known b (unlocked b.view row)) key r l
freed old b refused key row r l g free = record {
  is = ap (λ (k : Known). known k (unlocked k.view row)) g.is;
  mine = g.mine;
  stage = g.stage;
  holds = ap (removed row) (g.holds ∙ ap (λ (h : List ℕ). row ∷ h) free) ∙ removed_alone row ∙ sym free;
  debt = g.debt;
  sees = sees_on old.view (locked (with_refusals old.view refused) row) b.view refl refl (inl refl) g.sees;
  noted = g.noted;
  drawn = g.drawn;
  linked = g.linked;
  no_more = g.no_more;
  reached = g.reached;
  present = g.present;
  copies = g.copies;
}

pub goes_locked : (old a b new : Known) (key row : ℕ) (r : List ℕ) (l : List WordNote) → HasLocked old a row → GoesOn a b key r l → Becomes b new (unlocked b.view row) → old.view.holds ≡ [] → GoesOn old new key r l
goes_locked old a b new key row r l h g e free = subst (λ (k : Known). GoesOn old k key r l) (sym e) (freed old b h.refused key row r l (subst (λ (k : Known). GoesOn k b key r l) h.is g) free)

-- a copy was linked
pub copied_goes : (old new : Known) (key : ℕ) (at : Wanted) (copy : ℕ) (c : IsCopied old new key at copy) → GoesOn old new key (copy ∷ []) c.more
copied_goes old new key at copy c = record {
  is = c.is ∙ ap (λ (k : Known). written old k.view) (sym c.is);
  mine = ap (λ (k : Known). k.view.mine) c.is;
  stage = ap (λ (k : Known). k.view.stage) c.is;
  holds = ap (λ (k : Known). k.view.holds) c.is;
  debt = ap (λ (k : Known). k.view.debt) c.is;
  sees = c.sees;
  noted = c.noted;
  drawn = c.drawn;
  linked = λ r some_r. (ap (times r) c.own ∙ alone_removed copy r (copy ∷ old.view.fresh.own) some_r, alone_among copy r new.view.trail.reached some_r c.reached);
  no_more = λ r. omega (arith, ap (times r) c.own, removed_added copy r old.view.fresh.own);
  reached = c.kept;
  present = c.present;
  copies = λ h. subst (AllAre key) (sym c.copies) (refl, tt);
}

pub still_ready : (old mid : Known) (key : ℕ) (r : List ℕ) (l : List WordNote) → IsReady old.view key → GoesOn old mid key r l → IsReady mid.view key
still_ready old mid key r l h g = record { writing = g.stage ∙ h.writing; free = g.holds ∙ h.free; whole = ap (λ (k : Known). k.view.doing) g.is ∙ h.whole; owes = g.debt ∙ h.owes; copies = g.copies h.copies }

-- the rows that were drawn on the way
pub goes_links : (old new : Known) (key : ℕ) (r : List ℕ) (l : List WordNote) → GoesOn old new key r l → LinksWhatItDraws old.view new.view
goes_links old new key r l g = record { rows = r; drawn = g.drawn; linked = g.linked; no_more = g.no_more }

-- once the row is locked
pub at_work : (old mid : Known) (key row : ℕ) → IsReady old.view key → HasLocked old mid row → IsAtWork mid.view row key
at_work old mid key row h l = record {
  writing = ap (λ (k : Known). k.view.stage) l.is ∙ h.writing;
  held = ap (λ (k : Known). k.view.holds) l.is ∙ ap (λ (x : List ℕ). row ∷ x) h.free;
  whole = ap (λ (k : Known). k.view.doing) l.is ∙ h.whole;
  owes = ap (λ (k : Known). k.view.debt) l.is ∙ h.owes;
  copies = subst (λ (k : Known). AllAre key k.view.fresh.copies) (sym l.is) h.copies;
}
