use Rattle.std.proofs.Common.{◌≡◌, ◌<◌, ◌+◌, length, sym, ap, slice_index_or, subst, ◌∙◌, arith}
use Rattle.snap_prelude.proofs.Common.{get_or_read, length-set}
use Rattle.snap_prelude.specs.{Known, Laid}
use Rattle.snap_service.specs.Prelude.{IsSeated, Joins, nobody, nowhere, pass_at}
use Rattle.snap_service.proofs.Ending.{fewer_is, joined_next, last_is, later_next, one_less, taken_seated}
use Rattle.snap_service.proofs.service.admit_all.Goals as goal

pub finish-receipt-requires-clause-table : goal.finish-receipt-requires-clause-table
finish-receipt-requires-clause-table c =
    let v = c.loop-pass.invariant in let left = c.loop-pass.left.items in let fewer = c.pop.new.self.items in let pass = c.in-Some.pass in let ended = c.args.ended.items in
    let place = c.len-place.result in let tables = c.args.tables.now in let items = c.in-Some.ensures.items in
    let at : place ≡ length fewer = omega (arith, c.len-place.ensures, c.pop.new.self.ok.0) in
    let within : place < length tables = omega (arith, at, one_less ended left fewer pass v.left items, v.many, c.requires.all_ended) in
    let seat : IsSeated c.index-tables-place.result pass = taken_seated tables ended left fewer pass place c.index-tables-place.result v.left items at within c.index-tables-place.is (c.requires.ended place within) in
    seat.of

pub finish-receipt-requires-clause-idle : goal.finish-receipt-requires-clause-idle
finish-receipt-requires-clause-idle c =
    let v = c.loop-pass.invariant in let left = c.loop-pass.left.items in let fewer = c.pop.new.self.items in let pass = c.in-Some.pass in let ended = c.args.ended.items in
    let place = c.len-place.result in let tables = c.args.tables.now in let items = c.in-Some.ensures.items in
    let at : place ≡ length fewer = omega (arith, c.len-place.ensures, c.pop.new.self.ok.0) in
    let within : place < length tables = omega (arith, at, one_less ended left fewer pass v.left items, v.many, c.requires.all_ended) in
    let seat : IsSeated c.index-tables-place.result pass = taken_seated tables ended left fewer pass place c.index-tables-place.result v.left items at within c.index-tables-place.is (c.requires.ended place within) in
    seat.idle.idle

pub admit-requires-clause-receipt : goal.admit-requires-clause-receipt
admit-requires-clause-receipt c =
    let v = c.loop-pass.invariant in let left = c.loop-pass.left.items in let fewer = c.pop.new.self.items in let pass = c.in-Some.pass in let ended = c.args.ended.items in
    let place = c.len-place.result in let tables = c.args.tables.now in let items = c.in-Some.ensures.items in
    let table = c.index-tables-place.result in let passes = c.loop-pass.passes.items in let old = c.index_mut.result.now in
    let at : place ≡ length fewer = omega (arith, c.len-place.ensures, c.pop.new.self.ok.0) in
    let one = one_less ended left fewer pass v.left items in
    let within : place < length tables = omega (arith, at, one, v.many, c.requires.all_ended) in
    let here : place < length passes = omega (arith, within, v.a_pass_each, c.requires.a_pass_each) in
    let seat : IsSeated table pass = taken_seated tables ended left fewer pass place table v.left items at within c.index-tables-place.is (c.requires.ended place within) in
    let first : IsSeated (slice_index_or tables place nowhere) (pass_at c.args.passes.now.items place) = c.requires.passes place within in
    let table_is : table ≡ slice_index_or tables place nowhere = get_or_read tables place table within c.index-tables-place.is nowhere in
    let old_is : old ≡ pass_at c.args.passes.now.items place = get_or_read passes place old here c.index_mut.ensures.value nobody ∙ v.later place (omega (arith, at, one)) in
    ap (λ (k : Known). k.table) c.finish-receipt.ensures ∙ seat.of.0 ∙ ap (λ (x : Laid). x.table) table_is ∙ sym first.of.0 ∙ sym (ap (λ (k : Known). k.table) old_is)

pub loop-pass-preserved : goal.loop-pass-preserved
loop-pass-preserved c =
    let v = c.loop-pass.invariant in let left = c.loop-pass.left.items in let fewer = c.pop.new.self.items in let pass = c.in-Some.pass in let ended = c.args.ended.items in
    let place = c.len-place.result in let passes = c.loop-pass.passes.items in let old = c.index_mut.result.now in let new = c.admit.new.pass in
    let one = one_less ended left fewer pass v.left c.in-Some.ensures.items in
    let at : place ≡ length fewer = omega (arith, c.len-place.ensures, c.pop.new.self.ok.0) in
    let plus : place + 1 ≡ length left = omega (arith, at, one) in
    let last : pass ≡ pass_at ended place = last_is ended left fewer pass v.left c.in-Some.ensures.items nobody ∙ ap (pass_at ended) (sym at) in
    let joins : Joins old pass new = subst (λ (k : Known). Joins old k new) c.finish-receipt.ensures c.admit.ensures in
    let within : place < length passes = omega (arith, plus, v.many, v.a_pass_each, c.requires.a_pass_each, c.requires.all_ended) in
    let first = c.args.passes.now.items in
    record {
      many = omega (arith, one, v.many);
      left = fewer_is ended left fewer pass v.left c.in-Some.ensures.items;
      a_pass_each = length-set passes place new ∙ v.a_pass_each;
      later = λ t l. later_next ended first passes (length left) place old pass new plus last within c.index_mut.ensures.value joins v.later v.joined t (omega (arith, l, at));
      joined = λ t l m. joined_next ended first passes (length left) place old pass new plus last within c.index_mut.ensures.value joins v.later v.joined t (omega (arith, l, at)) m;
    }
