use Rattle.std.proofs.Common.{◌≡◌, ◌<◌, ◌++◌, List, ℕ, length, take, Ok, ◌∙◌, ap, sym, subst, append-nil, arith}
use Rattle.std.proofs.lemmas.Bool.Decides.{nat_tests}
use Rattle.snap_io.specs.declared.failed.Failed.{Failed}
use Rattle.snap_io.specs.Shelves.{ReadsFrom}
use Rattle.snap_plan.specs.Reading.{IsWhole}
use Rattle.snap_plan.proofs.Fronts.{front_grows, front_ends}
use Rattle.snap_plan.proofs.reading.read_more.Goals as goal

pub returns-clause-front : goal.returns-clause-front
returns-clause-front g c =
    let files = g.S.Shelf.files c.args.shelf.now in
    let name = c.args.name.now in
    let at : c.len-at.result ≡ length c.args.bytes.now.items = omega (arith, c.args.bytes.now.ok.0) in
    let reads = subst (λ n. ReadsFrom {E = Failed} files name n (Ok c.in_ok-got.got) c.read.new.into) at c.in_ok-got.ensures.bytes in
    rw c.in_ok-extend_from_slice.ensures.items (front_grows files name c.args.bytes.now.items c.read.new.into c.in_ok-got.got c.requires.front reads)

pub returns-clause-end : goal.returns-clause-end
returns-clause-end g c is =
    let files = g.S.Shelf.files c.args.shelf.now in
    let name = c.args.name.now in
    let before : List ℕ = c.args.bytes.now.items in
    let none : c.in_ok-got.got ≡ 0 = grind (arith, nat_tests, is) in
    let at : c.len-at.result ≡ length before = omega (arith, c.args.bytes.now.ok.0) in
    let there = subst (λ n. ReadsFrom {E = Failed} files name n (Ok c.in_ok-got.got) c.read.new.into) at c.in_ok-got.ensures.bytes in
    let reads = subst (λ n. ReadsFrom {E = Failed} files name (length before) (Ok n) c.read.new.into) none there in
    let room : 0 < length c.read.new.into = omega (arith, c.requires.room, c.read.auto.into) in
    let same : c.extend_from_slice.new.self.items ≡ before = c.in_ok-extend_from_slice.ensures.items ∙ ap (λ n. before ++ take n c.read.new.into) none ∙ append-nil before in
    subst (IsWhole files name) (sym same) (front_ends files name before c.read.new.into c.requires.front reads room)
