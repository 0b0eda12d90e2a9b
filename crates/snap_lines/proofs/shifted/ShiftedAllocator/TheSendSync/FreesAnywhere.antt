-- The right to give a block back may go to another thread where that to give a frame back may.
use mir.Syntax.{Ty, Dict}
use base.Fml.{Fml}
use base.Shift.{Keyless}
use denote.RattleType.{RattleType}
use denote.RawPtr.{Ptr, block_ptr, null_ptr}
use denote.Param.Send.{Frees}
use Rattle.std.specs.declared.alloc.Allocator.{Ghosts}
use Rattle.snap_lines.specs.Frames.{frame, frame_token}
use Rattle.snap_lines.specs.contracts.shifted.ShiftedAllocator.TheImpl.{ghosts}

keyless : (holds : Ty → Ptr → Fml) → ((σ : Ty) (p : Ptr) → Keyless (holds σ p)) → (τ : Ty) (p : Ptr) → Keyless (frame_token holds τ p)
keyless holds k τ (block_ptr b o) = λ x. (tt, (tt, (tt, (((tt, tt), tt), k (frame τ) (block_ptr b x)))))
keyless holds k τ null_ptr = tt

module _ (A : RattleType) (g : Ghosts A.Denot) where
  pub frees : (d e : Dict) → Frees g g.dealloc_token → Frees (ghosts A g d e) (ghosts A g d e).dealloc_token
  frees d e f = record { frees = λ h. keyless (g.dealloc_token h.inner) (f.frees h.inner) }
