-- Depths that are refuted.
use Rattle.std.proofs.Common.{◌≡◌, ◌<◌, ℕ, Bool, true, false, true≢false, List, [], ◌∷◌, length, Option, Some, None, refl, ap, sym, ◌∙◌, subst, arith, inl, inr}
use Rattle.std.specs.Prelude.{map}
use Rattle.snap_model.specs.SortedMap.{Pairs}
use Rattle.snap_model.specs.declared.command.Command.{Command}
use Rattle.snap_model.specs.declared.command.Command.TheVariants as command
use Rattle.snap_model.specs.declared.command.Reply.{Reply}
use Rattle.snap_model.specs.declared.command.Reply.TheVariants as reply
use Rattle.snap_fits.specs.Fits.{Setting, Front, Clone, Told, WorkerFits, MeetsDepth, Meets, MeetsAll, CanBeDeep, next, start}
use Rattle.snap_fits.specs.Alone.{Maps, IsAlone, map_in_use, with_copy_in}
use Rattle.snap_fits.specs.Wrong.{OtherPairsFitNothing, TooDeepFitsNothing, CauselessFitsNothing, asked_for_the_depth, told_deep}
use Rattle.snap_fits.proofs.Alone.{alone_answers}
use Rattle.snap_fits.proofs.Wrong.{one, first_put}

-- what a depth tells of a clone of one pair
told_of_one : (s : Setting) (w : ℕ) (fronts : ℕ → Front) (depth pairs : ℕ) (settled : Bool) → IsAlone w fronts → WorkerFits s fronts w asked_for_the_depth (told_deep depth pairs settled) [] → (pairs ≡ 1) × CanBeDeep 1 depth settled
told_of_one s w fronts depth pairs settled alone h =
    let x = alone_answers s w fronts _ _ _ alone h in
    let e : x.0 ≡ one = first_put x.0 x.1 in
    let y = x.4 in
    let f : y.0 ≡ with_copy_in one 0 (Some (map_in_use one)) = y.1.1 ∙ ap (λ (b : Maps). with_copy_in b 0 (Some (map_in_use b))) e in
    let v = y.4 in
    let same : Some (map_in_use one) ≡ Some v.1.0 = sym (ap (λ (b : Maps). b.clones 0) f) ∙ v.1.1 in
    let same_map : map_in_use one ≡ v.1.0 = cc in
    let told = v.1.2 in
    let P : Pairs → Type 0 = λ m. CanBeDeep (length m) told.0 told.1 in
    let one_pair : CanBeDeep 1 told.0 told.1 = subst P (sym same_map) told.3 in
    let same_depth : told.0 ≡ depth = let e = told.2 in cc in
    let same_word : told.1 ≡ settled = let e = told.2 in cc in
    let many : pairs ≡ length v.1.0 = let e = told.2 in cc in
    let D : ℕ → Type 0 = λ d. CanBeDeep 1 d told.1 in
    let B : Bool → Type 0 = λ b. CanBeDeep 1 depth b in
    (many ∙ ap (λ (m : Pairs). length m) (sym same_map), subst B same_word (subst D same_depth one_pair))

pub other_pairs : OtherPairsFitNothing
other_pairs s w fronts alone h = let x = told_of_one s w fronts 1 2 true alone h in absurd (let e : 2 ≡ 1 = x.0 in omega arith)

pub too_deep : TooDeepFitsNothing
too_deep s w fronts alone h = let x = told_of_one s w fronts 3 1 true alone h in absurd (let low = x.1.shallow refl in omega arith)

module _ (s : Setting) (w : ℕ) (fronts : ℕ → Front) (left : (t : ℕ) → (fronts t).drawn < s.rows) (fresh : (t : ℕ) → (fronts t).worn ≡ false) where
  no_cause : (c : Option Clone) (m : ℕ) → ¬ MeetsDepth s fronts c (reply.Depth 1 1 false) m
  no_cause None m h = h
  no_cause (Some c) m h =
      let told = h.1 in
      let word : told.1 ≡ false = let e = told.2 in cc in
      elim (told.3.cause word) [
        | inl out ↦ absurd (let some = left c.table in omega arith)
        | inr worn ↦ absurd (true≢false (sym worn ∙ fresh c.table))
      ]

  no_told : (told : List Told) → map (λ (t : Told). t.command) told ≡ asked_for_the_depth → map (λ (t : Told). t.reply) told ≡ told_deep 1 1 false → ¬ MeetsAll s w fronts start told
  no_told [] e f h = absurd cc
  no_told (x ∷ []) e f h = absurd cc
  no_told (x ∷ y ∷ []) e f h = absurd cc
  no_told (x ∷ y ∷ z ∷ more) e f h =
      let q = next s (next s start x.command x.reply x.moment) y.command y.reply y.moment in
      let asks : z.command ≡ command.Depth 0 = cc in
      let says : z.reply ≡ reply.Depth 1 1 false = cc in
      let C : Command → Type 0 = λ c. Meets s w fronts q c z.reply z.moment in
      let R : Reply → Type 0 = λ r. Meets s w fronts q (command.Depth 0) r z.moment in
      no_cause (q.clones 0) z.moment (subst R says (subst C asks h.1.1.0))

pub causeless : CauselessFitsNothing
causeless s w fronts left fresh h = no_told s w fronts left fresh h.told h.trace.of_commands h.trace.of_replies h.fits.each
