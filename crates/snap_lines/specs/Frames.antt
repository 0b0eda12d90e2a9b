-- A frame, which is asked for around a block, and the right to give the block back.
--     frame τ           48 bytes, a block for a τ, and an address
--     note_at n         how far behind the start of a block for n bytes the address stands
--     frame_size n      the bytes of its frame
--     frame_token holds τ p      the block at p lies in a frame at whose end the frame's address stands; with the block it makes the whole frame, which may be given back
use Rattle.std.specs.Prelude.{ℕ, ◌+◌, ◌*◌, ◌/◌, ◌^◌, []}
use mir.Syntax.{Ty, w128, ty_int, ty_ptr, ty_array, ty_struct, tcons, tnil}
use mir.Val.{vptr}
use prog.Memory.{size}
use base.Fraction.{full_share}
use base.Fml.{Fml, ffalse, feq, flt, fsep, fex, fwand, fat, froom}
use denote.RawPtr.{Ptr, block_ptr, null_ptr}

abbrev pub frame : Ty → Ty
frame τ = ty_struct [] (tcons (ty_array (ty_int w128) 3) (tcons τ (tcons ty_ptr tnil)))

abbrev pub note_at : ℕ → ℕ
note_at n = (n + 7) / 8 * 8

abbrev pub frame_size : ℕ → ℕ
frame_size n = (note_at n + 71) / 16 * 16

module _ (τ : Ty) (b x : ℕ) where
  -- where the address stands, of a frame at x
  abbrev pub note : ℕ
  note = x + 48 + note_at (size τ)

  -- what makes the frame whole: the block, and the room of the address
  abbrev pub closes_frame : Fml
  closes_frame = fwand (fsep (froom τ b (x + 48)) (froom ty_ptr b note)) (froom (frame τ) b x)

  abbrev pub frame_left : (Ty → Ptr → Fml) → Fml
  frame_left holds = fsep (fat full_share ty_ptr b note (vptr b x)) (fsep closes_frame (holds (frame τ) (block_ptr b x)))

abbrev pub frame_token : (Ty → Ptr → Fml) → Ty → Ptr → Fml
frame_token holds τ (block_ptr b o) = fex ℕ (λ x. fsep (feq ℕ o (x + 48)) (fsep (flt (size τ) (2 ^ 62)) (frame_left τ b x holds)))
frame_token holds τ null_ptr = ffalse
