-- A write at a row whose child is of an earlier epoch.
use Rattle.std.proofs.Common.{◌≡◌, ◌≢◌, ◌⊎◌, inl, inr, ℕ, List, [], ◌∷◌, sym, ap, ◌∙◌, subst, arith}
use Rattle.snap_copy.specs.{Owning.Lacks, Owning.Owns, declared.Wanted.Wanted}
use Rattle.snap_prelude.specs.{AllAre, Among, Becomes, Birth, Field, In, IsAbove, IsBorn, IsKnown, Known, link_field}
use Rattle.snap_prelude.specs.{Next, On, read, Right, Side, Stamp, Standing, times, WordNote}
use Rattle.snap_search.specs.Prelude.{IsReached, Works}
use Rattle.snap_search.proofs.Working.{works_on, word_works}
use Rattle.snap_update.specs.{Answers.GoesOn, Attempts.Brings, Held.Holds, Held.IsStill}
use Rattle.snap_update.specs.{declared.attempt.Attempt.TheVariants.Again}
use Rattle.snap_update.proofs.Going.{goes_on, goes_works, copied_goes}
use Rattle.snap_update.proofs.Holding.{held_once, knows_read, known_still}

-- the row is the place still, and its link leads to a child
pub above : (old a b : Known) (key row stamp x : ℕ) (side : Side) (f : Field) → Holds old.view row → IsReached old.view row → (row ≡ 0 → side ≡ Right) → AllAre key old.view.fresh.copies → old.view.way.place ≡ On key (Standing row stamp side) → IsStill old a row stamp → Becomes a b (read a.view row f x) → f ≡ link_field side → x ≢ 0
    → (child : ℕ) × (child ≢ 0) × IsAbove b.view key row side child
above old a b key row stamp x side f holds reached faces copies place still e by some_row =
    let held_a : a.view.holds ≡ row ∷ [] = ap (λ (k : Known). k.view.holds) still.works.is ∙ holds in (
      x,
      some_row,
      record {
        held = held_once b.view.holds row (ap (λ (k : Known). k.view.holds) e ∙ held_a);
        stamp = stamp;
        place = ap (λ (k : Known). k.view.way.place) e ∙ still.place ∙ place;
        still = known_still a b row f x row Stamp stamp e still.still;
        child_is = subst (λ (g : Field). IsKnown b.view.words.knows row g x) by (knows_read a b row f x (held_once a.view.holds row held_a) e);
        live = lives still.live reached;
        one_key = subst (AllAre key) (sym (ap (λ (k : Known). k.view.fresh.copies) e ∙ ap (λ (k : Known). k.view.fresh.copies) still.works.is)) copies;
      },
    )
  where
    came : Works a b []
    came = word_works a b row f x e

    lives : (row ≡ 0) ⊎ IsBorn a.view row → IsReached old.view row → ((row ≡ 0) × (side ≡ Right)) ⊎ ((Among row b.view.trail.reached) × IsBorn b.view row)
    lives (inl z) r = inl (z, faces z)
    lives (inr l) (inl z) = inl (z, faces z)
    lives (inr l) (inr r) = inr (
      omega (arith, r, still.works.kept row, came.kept row),
      record {
        birth = l.birth;
        is_birth = known_still a b row f x row Birth l.birth e l.is_birth;
        now = omega (arith, l.now, ap (λ (k : Known). times l.birth k.view.words.present) e);
        stamp = l.stamp;
        is_stamp = known_still a b row f x row Stamp l.stamp e l.is_stamp;
        unmarked = l.unmarked;
      },
    )

-- the work before the copy
pub looked : (old a b : Known) (row stamp x : ℕ) (f : Field) → IsStill old a row stamp → Becomes a b (read a.view row f x) → Works old b []
looked old a b row stamp x f still e = works_on old a b [] [] still.works (word_works a b row f x e)

pub brings_own : (rows : ℕ) (old mid new : Known) (key : ℕ) (at : Wanted) (c : ℕ) → Works old mid [] → Owns mid new key at c → Brings rows old new key Again
brings_own rows old mid new key at c w (inl h) = ([], [], goes_on old mid new key [] [] [] [] (goes_works old mid key [] w) (goes_works mid new key [] h.works), omega arith)
brings_own rows old mid new key at c w (inr h) = (c ∷ [], h.more, goes_on old mid new key [] (c ∷ []) [] h.more (goes_works old mid key [] w) (copied_goes mid new key at c h), omega arith)

pub brings_none : (rows : ℕ) (old mid new : Known) (key row : ℕ) (side : Side) → Works old mid [] → Lacks rows mid new row side → (more : List WordNote) × GoesOn old new key [] more × In (Next rows) more
brings_none rows old mid new key row side w h = (h.more, goes_works old new key h.more (works_on old mid new [] h.more w h.works), h.full)
