use Rattle.std.proofs.Common.{◌∷◌, ◌++◌, [], List, ap, refl, sym, subst, ◌∙◌, append_assoc}
use Rattle.snap_outlet.specs.Posts.{parcels}
use Rattle.snap_outlet.specs.declared.piece.Piece.{Piece}
use Rattle.snap_desk.specs.Collecting.{Collects}
use Rattle.snap_desk.proofs.Gathering.{goes_on_more, no_more, rest_more}
use Rattle.snap_desk.proofs.collecting.Collector.collect_rest.Goals as goal

pub loop-piece-preserved : goal.loop-piece-preserved
loop-piece-preserved g c =
    let v = c.loop-piece.invariant in let first = v.collects in let done = first.0 in let piece = c.in-Some.piece in let after = c.collect.ensures.collects in let came = first.2 0 in
    record {
      taker = c.collect.ensures.taker ∙ v.taker;
      collects = (
        done ++ piece ∷ [],
        append_assoc done (piece ∷ []) c.pop_front.new.self.items ∙ ap (λ (l : List Piece). done ++ l) (sym c.in-Some.ensures.items) ∙ first.1,
        rest_more c.args.self.now c.loop-piece.self c.collect.new.self done piece (g.S.Shelf.files c.args.shelf.now) (g.S.Shelf.files c.loop-piece.shelf) (g.S.Shelf.files c.collect.new.shelf) (g.S.Shelf.write_faults c.args.shelf.now) (g.S.Shelf.write_faults c.loop-piece.shelf) (g.S.Shelf.write_faults c.collect.new.shelf) first.2 after,
      );
      goes_on = goes_on_more g.S.Shelf.files g.S.Shelf.read_faults c.args.self.now c.loop-piece.self c.loop-piece.self c.collect.new.self c.args.shelf.now c.loop-piece.shelf c.collect.new.shelf came.names refl v.goes_on c.collect.ensures.goes_on;
    }

pub returns-clause-collects : goal.returns-clause-collects
returns-clause-collects g c = λ sender.
    let v = c.loop-piece.invariant in let first = v.collects in let done = first.0 in
    subst (λ (l : List Piece). Collects c.args.self.now c.loop-piece.self (parcels sender l) (g.S.Shelf.files c.args.shelf.now) (g.S.Shelf.files c.loop-piece.shelf) (g.S.Shelf.write_faults c.args.shelf.now) (g.S.Shelf.write_faults c.loop-piece.shelf))
    (no_more done c.loop-piece.left.items c.pop_front.new.self.items c.pop_front.result c.args.rest.items c.pop_front.ensures.items c.in_default.is c.pop_front.ensures.rest first.1) (first.2 sender)
