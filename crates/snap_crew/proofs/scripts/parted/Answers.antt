use Rattle.std.proofs.Common.{◌++◌, [], ◌∷◌, List, ℕ, length, ap, sym, ◌∙◌, append_assoc, arith}
use Rattle.std.specs.{Prelude.IsOk, Vec.Iter.into_iter_items}
use Rattle.std.proofs.lemmas.List.Elements.{All-push}
use Rattle.snap_prelude.proofs.Common.{map-append}
use Rattle.snap_prelude.specs.{Known}
use Rattle.snap_crew.specs.declared.leaving.Done.{Done}
use Rattle.snap_crew.proofs.scripts.parted.Goals as goal

pub loop-done-preserved : goal.loop-done-preserved
loop-done-preserved c =
    let v = c.loop-done.invariant in let done = c.in-Some.done in let ys = c.loop-done.yielded in let steps = c.in-Some.ensures.steps in
    record {
      items = append_assoc ys (done ∷ []) (into_iter_items c.next.new.self) ∙ ap (λ (l : List Done). ys ++ l) (sym steps.0) ∙ v.items;
      length = omega (arith, steps.1, v.length, ap length steps.0);
      receipts = c.in_ok-add.ensures.receipts ∙ ap (λ (l : List (List Known)). l ++ done.receipt ∷ []) v.receipts ∙ sym (map-append (λ (d : Done). d.receipt) ys (done ∷ []));
      fulls = c.in_ok-add.ensures.fulls ∙ ap (λ (l : List ℕ). l ++ done.full ∷ []) v.fulls ∙ sym (map-append (λ (d : Done). d.full) ys (done ∷ []));
      came = All-push (λ (d : Done). IsOk d.came) ys done v.came c.in_ok-add.ensures.came;
      written = c.add.ensures.written ∙ v.written;
    }

pub returns-clause-written : goal.returns-clause-written
returns-clause-written c = c.loop-done.invariant.written
