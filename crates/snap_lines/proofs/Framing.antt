-- How a frame lies, and how it comes apart. Assumes `Logic`.
--     frame_is          the bytes and the alignment of a frame
--     opens_frame       a frame is the block, the room of its address, and what makes it whole with them
use Rattle.std.proofs.Common.{◌≡◌, ℕ, zero, ◌+◌, ◌-◌, ◌*◌, ◌/◌, ◌%◌, ◌^◌, ◌<◌, max, [], ◌∷◌, refl, sym, ap, subst, ◌∙◌, arith}
use native.Mathlib.Nat.{mod_self, sub-zero}
use seplogic.Ra.Ura.{Ura}
use mir.Syntax.{Ty, Tys, Width, w8, w16, w32, w64, w128, ty_int, ty_ptr, ty_array, tcons, tnil}
use mir.Val.{bytes}
use prog.Memory.{size, align, pad, up, capped}
use prog.Align.{Dv, dv→, align_w, align-bytes}
use prog.Capped.{capped_is}
use base.Logic.{SProp, ent, sep, emp, wand, apply∗}
use types.Logic.{Logic}
use types.Kit.{raw, ◌⊛◌, ◌$◌, ◌∵◌, !, qed, move, use1, use2, split, join, frame as fits_first, assume, done}
use Rattle.snap_lines.specs.Frames.{frame, note_at, frame_size, note}

abbrev gap : Ty
gap = ty_array (ty_int w128) 3

abbrev behind_gap : Ty → Tys
behind_gap τ = tcons τ (tcons ty_ptr tnil)

divides_48 : (w : Width) → Dv (bytes w) 48
divides_48 w8 = tt
divides_48 w16 = tt
divides_48 w32 = tt
divides_48 w64 = tt
divides_48 w128 = tt

at_most_16 : (w : Width) → max 16 (max (bytes w) (max 8 1)) ≡ 16
at_most_16 w8 = refl
at_most_16 w16 = refl
at_most_16 w32 = refl
at_most_16 w64 = refl
at_most_16 w128 = refl

already : (a n : ℕ) → Dv a n → up a n ≡ n
already a n d =
    let none : pad a n ≡ 0 = ap (λ (r : ℕ). (a - r) % a) (dv→ a n d) ∙ ap (λ (r : ℕ). r % a) (sub-zero a) ∙ mod_self a in
    ap (λ (r : ℕ). n + r) none ∙ omega arith

up_8 : (n : ℕ) → up 8 (48 + n) ≡ 48 + note_at n
up_8 n = omega arith

up_16 : (m : ℕ) → up 16 (48 + m + 8) ≡ (m + 71) / 16 * 16
up_16 m = omega arith

module _ (τ : Ty) where
  block_at : up (align τ) 48 ≡ 48
  block_at = already (align τ) 48 (subst (λ (k : ℕ). Dv k 48) (sym (align-bytes τ)) (divides_48 (align_w τ)))

  note_from : up 8 (up (align τ) 48 + size τ) ≡ 48 + note_at (size τ)
  note_from = ap (λ (k : ℕ). up 8 (k + size τ)) block_at ∙ up_8 (size τ)

  unit : align (frame τ) ≡ 16
  unit = ap (λ (k : ℕ). max 16 (max k (max 8 1))) (align-bytes τ) ∙ at_most_16 (align_w τ)

  whole : size (frame τ) ≡ frame_size (size τ)
  whole = (λ i. up (unit i) (note_from i + 8)) ∙ up_16 (note_at (size τ))

  pub frame_is : size τ < 2 ^ 62 → (capped (size (frame τ)) ≡ frame_size (size τ)) × (capped (align (frame τ)) ≡ 16)
  frame_is few =
      let small : frame_size (size τ) < 2 ^ 64 = omega (arith, few) in
      (ap capped whole ∙ capped_is (frame_size (size τ)) small, ap capped unit ∙ capped_is 16 (omega arith))

module _ {M : Type 1} {𝓤 : Ura M} (𝓛 : Logic 𝓤) (τ : Ty) (b x : ℕ) where
  open 𝓛 use {H}

  abbrev Whole : SProp 𝓤
  Whole = H.room (frame τ) b x

  abbrev Opened : ℕ → ℕ → SProp 𝓤
  Opened o o' = sep 𝓤 (H.room τ b o) (sep 𝓤 (H.room ty_ptr b o') (wand 𝓤 (sep 𝓤 (H.room τ b o) (H.room ty_ptr b o')) Whole))

  pub opens_frame : ent 𝓤 Whole (Opened (x + 48) (note τ b x))
  opens_frame =
      let o : ℕ = x + up (align τ) 48 in
      let o' : ℕ = x + up 8 (up (align τ) 48 + size τ) in
      let Gap : SProp 𝓤 = H.room gap b (x + up 16 zero) in
      let Block : SProp 𝓤 = H.room τ b o in
      let Note : SProp 𝓤 = H.room ty_ptr b o' in
      let All : SProp 𝓤 = sep 𝓤 Gap (sep 𝓤 Block (sep 𝓤 Note (emp 𝓤))) in
      let from : o ≡ x + 48 = ap (λ (k : ℕ). x + k) (block_at τ) in
      let from' : o' ≡ note τ b x = ap (λ (k : ℕ). x + k) (note_from τ) ∙ omega arith in
      subst (λ (u : ℕ × ℕ). ent 𝓤 Whole (Opened u.0 u.1)) (λ i. (from i, from' i))
      (qed 𝓛 (raw Whole ∷ []) ∵
      use1 𝓛 ((raw Gap ⊛ raw Block ⊛ raw Note ⊛ raw (emp 𝓤)) ⊛ raw (wand 𝓤 All Whole)) (𝓛.laws.room_fields [] (tcons gap (behind_gap τ)) b x) $
      split ! $ split ! $ move ! (1 ∷ []) $ split ! $ move ! (1 ∷ []) $ split ! $
      -- [the address; nothing; the block; the gap; the way back]
      move ! (2 ∷ 0 ∷ []) $ fits_first ! $ fits_first ! $ assume ! (raw Block ⊛ raw Note) $ split ! $
      move ! (1 ∷ 2 ∷ []) $ join ! $ move ! (1 ∷ 0 ∷ []) $ join ! $ move ! (1 ∷ 0 ∷ []) $ join ! $ use2 𝓛 (raw Whole) (apply∗ 𝓤 All Whole) $ done !)
