use Rattle.std.proofs.Common.{rules, ◌≡◌, ◌≢◌, ℕ, ◌≤◌, [], ◌∷◌, refl, subst, sym, ap, ◌∙◌, arith, inl, inr}
use Rattle.snap_prelude.specs.{Among, Birth, IsKnown, Known, NoLink, On}
use Rattle.snap_search.specs.Prelude.{at_top}
use Rattle.snap_search.proofs.{Coming.stands, Walking.from_top, Working.stays_present, Working.stays_reached}
use Rattle.snap_search.proofs.{Working.walk_works, Finding.goes_down, Finding.notes_it}
use Rattle.snap_search.proofs.descent.look_for_place.Goals as goal

pub child_of-child-requires-clause-way : goal.child_of-child-requires-clause-way
child_of-child-requires-clause-way c = (c.args.pass.now, stands c.args.spot.now c.args.pass.now c.args.key c.requires.way)

pub returns-then-is_none : goal.returns-then-is_none
returns-then-is_none c =
    let k : ℕ = c.args.key in let s = c.args.spot.now in let old : Known = c.args.pass.now in let new : Known = c.child_of-child.new.pass in
    let none : c.child_of-child.result ≡ 0 = search rules in
    let w = (c.child_of-child.ensures.leads old (stands s old k c.requires.way)).1 none in let works = walk_works old new (On k (NoLink s.row s.stamp s.side)) w.walks in
    record {
      births = [];
      works = works;
      noted = tt;
      seen = w.seen;
      from = (w.from, c.requires.step.on_right);
      at = record {
        low = c.requires.step.low;
        reached = stays_reached old.view new.view s.row works.kept c.requires.step.reached;
        way = w.walks.at;
        present = stays_present old.view new.view s.row c.args.epoch works.lasting c.requires.present;
      };
    }

pub reach_child-requires-clause-way : goal.reach_child-requires-clause-way
reach_child-requires-clause-way c =
    let k : ℕ = c.args.key in let s = c.args.spot.now in let x : ℕ = c.child_of-child.result in let old : Known = c.args.pass.now in
    let ne : x ≢ 0 = search rules in
    let lead = c.child_of-child.ensures.leads old (stands s old k c.requires.way) in
    (old, lead.2 ne)

pub returns-in_default : goal.returns-in_default
returns-in_default c =
    let k : ℕ = c.args.key in let s = c.args.spot.now in let x : ℕ = c.child_of-child.result in let old : Known = c.args.pass.now in
    let ne : x ≢ 0 = search rules in
    let lead = c.child_of-child.ensures.leads old (stands s old k c.requires.way) in
    let t = c.top in let q = c.in_default.ensures.passes old (lead.2 ne) in
    let z = from_top old c.reach_child.new.pass k t.result q.walks t.ensures.row.0 t.ensures.row.1 t.ensures.side in record {
      births = [];
      works = walk_works old c.reach_child.new.pass (at_top k) q.walks;
      noted = tt;
      seen = q.seen;
      step = record { low = omega (arith, t.ensures.row.0); reached = inl t.ensures.row.0; on_right = λ z. t.ensures.side };
      present = inl t.ensures.row.0;
      at = z.at;
    }

pub note_birth-birth-requires-clause-reached : goal.note_birth-birth-requires-clause-reached
note_birth-birth-requires-clause-reached c = let ne : c.child_of-child.result ≢ 0 = search rules in let d = goes_down c.args.rows.now.rows c.args.spot.now c.args.pass.now c.child_of-child.new.pass c.reach_child.new.pass c.args.key c.child_of-child.result c.in-Some.next c.requires.way c.child_of-child.ensures.leads ne c.in-Some.ensures.passes in d.led.0.1

pub note_birth-birth-requires-clause-way : goal.note_birth-birth-requires-clause-way
note_birth-birth-requires-clause-way c = let ne : c.child_of-child.result ≢ 0 = search rules in let d = goes_down c.args.rows.now.rows c.args.spot.now c.args.pass.now c.child_of-child.new.pass c.reach_child.new.pass c.args.key c.child_of-child.result c.in-Some.next c.requires.way c.child_of-child.ensures.leads ne c.in-Some.ensures.passes in (d.point, d.way)

pub note_birth-birth-requires-clause-confirmed : goal.note_birth-birth-requires-clause-confirmed
note_birth-birth-requires-clause-confirmed c = let ne : c.child_of-child.result ≢ 0 = search rules in let d = goes_down c.args.rows.now.rows c.args.spot.now c.args.pass.now c.child_of-child.new.pass c.reach_child.new.pass c.args.key c.child_of-child.result c.in-Some.next c.requires.way c.child_of-child.ensures.leads ne c.in-Some.ensures.passes in d.led.1

pub returns-then-birth-epoch : goal.returns-then-birth-epoch
returns-then-birth-epoch c =
    let k : ℕ = c.args.key in let s = c.args.spot.now in let x : ℕ = c.child_of-child.result in let old : Known = c.args.pass.now in
    let ne : x ≢ 0 = search rules in
    let d = goes_down c.args.rows.now.rows s old c.child_of-child.new.pass c.reach_child.new.pass k x c.in-Some.next c.requires.way c.child_of-child.ensures.leads ne c.in-Some.ensures.passes in
    let b : ℕ = c.note_birth-birth.result in let new : Known = c.note_birth-birth.new.pass in let t = notes_it s old c.reach_child.new.pass new k x b d c.note_birth-birth.ensures.pass in let works = t.works in
    record {
      births = b ∷ [];
      works = works;
      noted = record { upper = []; older = b; are = refl; from = tt; is_older = c.if-birth-epoch.true };
      seen = t.seen;
      from = (t.place, c.requires.step.on_right);
      at = record {
        low = c.requires.step.low;
        reached = stays_reached old.view new.view s.row works.kept c.requires.step.reached;
        present = stays_present old.view new.view s.row c.args.epoch works.lasting c.requires.present;
        place = t.place;
        faces = c.requires.step.on_right;
        older = (
          x,
          d.point,
          ap (λ (q : Known). q.view.way.reads) c.note_birth-birth.ensures.pass ∙ d.way,
          d.comes,
          record { birth = b; is_birth = t.known; epoch = c.args.epoch; now = works.present c.args.epoch c.requires.epoch; older = c.if-birth-epoch.true },
        );
      };
    }

pub returns-in-Some-next : goal.returns-in-Some-next
returns-in-Some-next c =
    let k : ℕ = c.args.key in let s = c.args.spot.now in let x : ℕ = c.child_of-child.result in let old : Known = c.args.pass.now in
    let ne : x ≢ 0 = search rules in
    let lead = c.child_of-child.ensures.leads old (stands s old k c.requires.way) in
    let d = goes_down c.args.rows.now.rows s old c.child_of-child.new.pass c.reach_child.new.pass k x c.in-Some.next c.requires.way c.child_of-child.ensures.leads ne c.in-Some.ensures.passes in
    let b : ℕ = c.note_birth-birth.result in let new : Known = c.note_birth-birth.new.pass in let t = notes_it s old c.reach_child.new.pass new k x b d c.note_birth-birth.ensures.pass in
    let from : c.args.epoch ≤ b = c.if-birth-epoch.false in let past : b ≤ c.args.epoch = c.note_birth-birth.ensures.past c.args.epoch (d.works.present c.args.epoch c.requires.epoch) in
    let is : b ≡ c.args.epoch = omega arith in
    let by = rw c.in-Some-next.is at (c.in-Some.ensures.passes old (lead.2 ne)) in record {
      births = b ∷ [];
      works = t.works;
      noted = (from, tt);
      seen = t.seen;
      step = record {
        low = omega (arith, by.row, c.child_of-child.ensures.row);
        reached = inr (subst (λ (r : ℕ). Among r new.view.trail.reached) (sym by.row) t.reached);
        on_right = λ z. absurd (ne (sym by.row ∙ z));
      };
      present = inr (subst (λ (r : ℕ). IsKnown new.view.words.lasting r Birth c.args.epoch) (sym by.row) (subst (λ (y : ℕ). IsKnown new.view.words.lasting x Birth y) is t.known));
      at = ap (λ (q : Known). q.view.way.reads) c.note_birth-birth.ensures.pass ∙ by.walks.at;
    }

pub returns-in-None : goal.returns-in-None
returns-in-None c =
    let k : ℕ = c.args.key in let s = c.args.spot.now in let x : ℕ = c.child_of-child.result in let old : Known = c.args.pass.now in
    let ne : x ≢ 0 = search rules in
    let lead = c.child_of-child.ensures.leads old (stands s old k c.requires.way) in
    let d = goes_down c.args.rows.now.rows s old c.child_of-child.new.pass c.reach_child.new.pass k x c.in-Some.next c.requires.way c.child_of-child.ensures.leads ne c.in-Some.ensures.passes in
    let b : ℕ = c.note_birth-birth.result in let new : Known = c.note_birth-birth.new.pass in let t = notes_it s old c.reach_child.new.pass new k x b d c.note_birth-birth.ensures.pass in
    let from : c.args.epoch ≤ b = c.if-birth-epoch.false in let past : b ≤ c.args.epoch = c.note_birth-birth.ensures.past c.args.epoch (d.works.present c.args.epoch c.requires.epoch) in
    let is : b ≡ c.args.epoch = omega arith in let by = rw c.in-None.is at (c.in-Some.ensures.passes old (lead.2 ne)) in record {
      births = b ∷ [];
      works = t.works;
      noted = record { upper = []; are = ap (λ (y : ℕ). y ∷ []) is; from = tt };
      seen = t.seen;
      from = t.place;
      at = record {
        some_row = ne;
        low = c.child_of-child.ensures.row;
        reached = t.reached;
        way = ap (λ (q : Known). q.view.way.reads) c.note_birth-birth.ensures.pass ∙ by.walks.at;
        present = subst (λ (y : ℕ). IsKnown new.view.words.lasting x Birth y) is t.known;
      };
    }
