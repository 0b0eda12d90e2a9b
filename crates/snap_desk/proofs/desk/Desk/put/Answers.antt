use Rattle.std.proofs.Common.{List, refl, subst, sym}
use Rattle.snap_desk.proofs.Putting.{counted_push}
use Rattle.snap_desk.specs.Puts.{AreCountedFrom}
use Rattle.snap_outlet.specs.Posts.{put_at}
use Rattle.snap_outlet.specs.declared.piece.Piece.{Piece}
use Rattle.snap_desk.proofs.desk.Desk.put.Goals as goal

pub returns-clause-counted : goal.returns-clause-counted
returns-clause-counted g c = λ h.
    let n = c.saturating_add-number.result in let d = c.args.self.now in let s = c.in_ok-put_piece.ensures.put in
    subst (λ (ps : List Piece). AreCountedFrom d.who 0 ps n) (sym s.put)
    (counted_push d.who 0 d.pieces n (put_at d.post) _ h refl c.saturating_add-number.ensures c.saturating_add-number.ensures)
