use Rattle.std.proofs.Common.{◌∷◌, ◌++◌, [], List, ap, refl, sym, subst, ◌∙◌, append_assoc, length, arith, map}
use Rattle.std.proofs.lemmas.List.{map-append}
use Rattle.std.specs.Global.{Global}
use Rattle.std.specs.Vec.Iter.{into_iter_items}
use Rattle.std.specs.declared.collections.VecDeque.{VecDeque}
use Rattle.snap_outlet.specs.declared.piece.Piece.{Piece}
use Rattle.snap_desk.specs.Collecting.{Collects, rests_from}
use Rattle.snap_desk.proofs.Gathering.{goes_on_more, rests_more, rest_items}
use Rattle.snap_desk.proofs.collecting.Collector.collect_rests.Goals as goal

pub loop-rest-preserved : goal.loop-rest-preserved
loop-rest-preserved g c =
    let v = c.loop-rest.invariant in let rest = c.in-Some.rest in let steps = c.in-Some.ensures.steps in let came = v.collects in
    record {
      items = append_assoc c.loop-rest.yielded (rest ∷ []) (into_iter_items c.next.new.self) ∙ ap (λ (l : List (VecDeque Piece Global)). c.loop-rest.yielded ++ l) (sym steps.0) ∙ v.items;
      length = omega (arith, steps.1, v.length, ap length steps.0);
      taker = c.collect_rest.ensures.taker ∙ v.taker;
      collects = subst (λ (l : List (List Piece)). Collects c.args.self.now c.collect_rest.new.self (rests_from 0 l) (g.S.Shelf.files c.args.shelf.now) (g.S.Shelf.files c.collect_rest.new.shelf) (g.S.Shelf.write_faults c.args.shelf.now) (g.S.Shelf.write_faults c.collect_rest.new.shelf))
          (sym (map-append rest_items c.loop-rest.yielded (rest ∷ [])))
          (rests_more c.args.self.now c.loop-rest.self c.collect_rest.new.self (map rest_items c.loop-rest.yielded) rest.items (g.S.Shelf.files c.args.shelf.now) (g.S.Shelf.files c.loop-rest.shelf) (g.S.Shelf.files c.collect_rest.new.shelf) (g.S.Shelf.write_faults c.args.shelf.now) (g.S.Shelf.write_faults c.loop-rest.shelf) (g.S.Shelf.write_faults c.collect_rest.new.shelf) came c.collect_rest.ensures.collects);
      goes_on = goes_on_more g.S.Shelf.files g.S.Shelf.read_faults c.args.self.now c.loop-rest.self c.loop-rest.self c.collect_rest.new.self c.args.shelf.now c.loop-rest.shelf c.collect_rest.new.shelf came.names refl v.goes_on c.collect_rest.ensures.goes_on;
    }
