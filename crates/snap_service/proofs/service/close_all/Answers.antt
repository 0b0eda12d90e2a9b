use Rattle.std.proofs.Common.{Bool, cond, ℕ, [], ◌∷◌, ◌++◌, ◌≡◌, ◌+◌, ◌<◌, length, length-append, sym, ap, subst, ◌∙◌, arith, slice_index_or}
use Rattle.snap_prelude.specs.{Known, Laid, SpeaksForAll}
use Rattle.snap_service.specs.Prelude.{IsSeated, nobody, nowhere, pass_at}
use Rattle.snap_service.proofs.Ending.{all_closed, closed_next, fewer_is, last_is, one_less}
use Rattle.snap_service.proofs.service.close_all.Goals as goal

pass_is : (c : goal.After-fronts-1) → c.in-Some.pass ≡ pass_at c.args.passes.items (length c.pop.new.self.items)
pass_is c = last_is c.args.passes.items c.loop-pass.left.items c.pop.new.self.items c.in-Some.pass c.loop-pass.invariant.left c.in-Some.ensures.items nobody

same_place : (c : goal.After-fronts-1) → length c.pop-in-Some.new.self.items ≡ length c.pop.new.self.items
same_place c = let v = c.loop-pass.invariant in omega (
  arith,
  v.same,
  one_less c.args.passes.items c.loop-pass.left.items c.pop.new.self.items c.in-Some.pass v.left c.in-Some.ensures.items,
  one_less c.args.tables.items c.loop-pass.open.items c.pop-in-Some.new.self.items c.in-Some-pop.table v.tables c.in-Some-pop.ensures.items,
)

table_is : (c : goal.After-fronts-1) → c.in-Some-pop.table ≡ slice_index_or c.args.tables.items (length c.pop.new.self.items) nowhere
table_is c = last_is c.args.tables.items c.loop-pass.open.items c.pop-in-Some.new.self.items c.in-Some-pop.table c.loop-pass.invariant.tables c.in-Some-pop.ensures.items nowhere
    ∙ ap (λ (n : ℕ). slice_index_or c.args.tables.items n nowhere) (same_place c)

within : (c : goal.After-fronts-1) → length c.pop.new.self.items < length c.args.tables.items
within c = let v = c.loop-pass.invariant in omega (arith, v.all, c.requires.a_pass_each, one_less c.args.passes.items c.loop-pass.left.items c.pop.new.self.items c.in-Some.pass v.left c.in-Some.ensures.items)

seat : (c : goal.After-fronts-1) → IsSeated c.in-Some-pop.table c.in-Some.pass
seat c = subst (λ (x : Laid). IsSeated x c.in-Some.pass) (sym (table_is c))
    (subst (IsSeated (slice_index_or c.args.tables.items (length c.pop.new.self.items) nowhere)) (sym (pass_is c)) (c.requires.passes (length c.pop.new.self.items) (within c)))

pub close-requires-clause-table : goal.close-requires-clause-table
close-requires-clause-table c = let s = seat c in s.of

pub close-requires-clause-idle : goal.close-requires-clause-idle
close-requires-clause-idle c = let s = seat c in s.idle.idle

pub close-requires-clause-all : goal.close-requires-clause-all
close-requires-clause-all c = subst (λ (k : Known). SpeaksForAll k.view) (sym (pass_is c)) (c.requires.all (length c.pop.new.self.items) (omega (arith, within c, c.requires.a_pass_each)))

pub loop-pass-preserved : goal.loop-pass-preserved
loop-pass-preserved c =
    let v = c.loop-pass.invariant in let fewer = c.pop.new.self.items in let opened = c.pop-in-Some.new.self.items in
    let one = one_less c.args.passes.items c.loop-pass.left.items fewer c.in-Some.pass v.left c.in-Some.ensures.items in
    let one2 = one_less c.args.tables.items c.loop-pass.open.items opened c.in-Some-pop.table v.tables c.in-Some-pop.ensures.items in
    let pushed = c.push.ensures.items ∙ ap (λ (b : Bool). cond b (c.loop-pass.fronts.items ++ c.close.result ∷ []) c.loop-pass.fronts.items) c.if-is_err.ensures.negation in
    let more : length c.push.new.self.items ≡ length c.loop-pass.fronts.items + 1 = ap length pushed ∙ length-append c.loop-pass.fronts.items (c.close.result ∷ []) in
    record {
      left = fewer_is c.args.passes.items c.loop-pass.left.items fewer c.in-Some.pass v.left c.in-Some.ensures.items;
      tables = fewer_is c.args.tables.items c.loop-pass.open.items opened c.in-Some-pop.table v.tables c.in-Some-pop.ensures.items;
      same = omega (arith, one, one2, v.same);
      all = omega (arith, more, one, v.all);
      space = omega (arith, v.space, c.push.ensures.capacity);
      closed = closed_next c.args.passes.items c.loop-pass.fronts.items c.push.new.self.items (length c.loop-pass.left.items) (length fewer) c.in-Some.pass c.close.result one v.all pushed
          (last_is c.args.passes.items c.loop-pass.left.items fewer c.in-Some.pass v.left c.in-Some.ensures.items nobody) c.close.ensures v.closed;
    }

pub returns : goal.returns
returns c = let v = c.loop-pass.invariant in let none = c.in_default.ensures in
    all_closed c.args.passes.items c.reverse.new.self.items c.loop-pass.fronts.items (omega (arith, v.all, none.cases.0, c.loop-pass.left.ok.0)) c.reverse.ensures.items (omega (arith, c.reverse.ensures.len, c.reverse.new.self.ok.0, c.loop-pass.fronts.ok.0)) v.closed
