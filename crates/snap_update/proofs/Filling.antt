-- A row that is made a leaf, and the place at which it is linked.
use Rattle.std.proofs.Common.{◌≡◌, ◌⊎◌, inl, inr, ℕ, ◌+◌, ◌<◌, false, [], ◌∷◌, add-one, refl, sym, ap, ◌∙◌, subst, arith}
use Rattle.snap_copy.proofs.Copying.{wrote_still}
use Rattle.snap_prelude.specs.{Becomes, Birth, Field, Height, IsBorn, IsKnown, IsLeafPlace, Key, Known, link_field}
use Rattle.snap_prelude.specs.{NoLink, On, own_word_stored, read, same_field, Side, Stamp, times, Value}
use Rattle.snap_stamp.specs.declared.layout.Field.TheVariants.{Left, Right}
use Rattle.snap_update.specs.Held.{Holds, IsStill, MakesLeaf, stored_in}
use Rattle.snap_update.proofs.Holding.{held_once, knows_read, known_still}

wrote_now : (old new : Known) (r : ℕ) (f : Field) (x : ℕ) → Becomes old new (own_word_stored old.view r f x) → IsKnown new.view.fresh.wrote r f x
wrote_now old new r f x e = subst (λ (k : Known). IsKnown k.view.fresh.wrote r f x) (sym e) (inl (refl, refl, refl))

stored_once : (old new : Known) (r : ℕ) (f : Field) (x : ℕ) → Becomes old new (own_word_stored old.view r f x) → new ≡ stored_in old new.view
stored_once old new r f x e = e ∙ ap (λ (k : Known). stored_in old k.view) (sym e)

stored_on : (old mid new : Known) → mid ≡ stored_in old mid.view → new ≡ stored_in mid new.view → new ≡ stored_in old new.view
stored_on old mid new a b = b ∙ ap (λ (k : Known). stored_in k new.view) a

-- key, birth, height, the two links and the value
pub fills : (a b c d e f g : Known) (leaf key birth value : ℕ) → 0 < times leaf a.view.fresh.own → 0 < times birth a.view.words.present
    → Becomes a b (own_word_stored a.view leaf Key key) → Becomes b c (own_word_stored b.view leaf Birth birth) → Becomes c d (own_word_stored c.view leaf Height 1) → Becomes d e (own_word_stored d.view leaf Left 0) → Becomes e f (own_word_stored e.view leaf Right 0) → Becomes f g (own_word_stored f.view leaf Value (value + 1))
    → MakesLeaf a g leaf key value
fills a b c d e f g leaf key birth value own now s1 s2 s3 s4 s5 s6 =
    let o3 = stored_on a c d (stored_on a b c (stored_once a b leaf Key key s1) (stored_once b c leaf Birth birth s2)) (stored_once c d leaf Height 1 s3) in
    let o5 = stored_on a e f (stored_on a d e o3 (stored_once d e leaf Left 0 s4)) (stored_once e f leaf Right 0 s5) in
    let is = stored_on a f g o5 (stored_once f g leaf Value (value + 1) s6) in
    let last = λ (h : Field) (y : ℕ) (ne : same_field h Value ≡ false) (k : IsKnown f.view.fresh.wrote leaf h y). wrote_still f g leaf Value (value + 1) h y ne s6 k in
    let fifth = λ (h : Field) (y : ℕ) (ne : same_field h Right ≡ false) (k : IsKnown e.view.fresh.wrote leaf h y). wrote_still e f leaf Right 0 h y ne s5 k in
    let fourth = λ (h : Field) (y : ℕ) (ne : same_field h Left ≡ false) (k : IsKnown d.view.fresh.wrote leaf h y). wrote_still d e leaf Left 0 h y ne s4 k in
    let third = λ (h : Field) (y : ℕ) (ne : same_field h Height ≡ false) (k : IsKnown c.view.fresh.wrote leaf h y). wrote_still c d leaf Height 1 h y ne s3 k in record {
      is = is;
      leaf_is = record {
        own = omega (arith, own, ap (λ (k : Known). times leaf k.view.fresh.own) is);
        key = last Key key refl (fifth Key key refl (fourth Key key refl (third Key key refl (wrote_still b c leaf Birth birth Key key refl s2 (wrote_now a b leaf Key key s1)))));
        value = subst (λ (y : ℕ). IsKnown g.view.fresh.wrote leaf Value y) (add-one value) (wrote_now f g leaf Value (value + 1) s6);
        height = last Height 1 refl (fifth Height 1 refl (fourth Height 1 refl (wrote_now c d leaf Height 1 s3)));
        left = last Left 0 refl (fifth Left 0 refl (wrote_now d e leaf Left 0 s4));
        right = last Right 0 refl (wrote_now e f leaf Right 0 s5);
        birth = birth;
        is_birth = last Birth birth refl (fifth Birth birth refl (fourth Birth birth refl (third Birth birth refl (wrote_now b c leaf Birth birth s2))));
        now = omega (arith, now, ap (λ (k : Known). times birth k.view.words.present) is);
      };
    }

-- the row is the place still, and its link is 0
pub places : (old a b : Known) (key row stamp x : ℕ) (side : Side) (f : Field) → Holds old.view row → IsStill old a row stamp → Becomes a b (read a.view row f x) → f ≡ link_field side → x ≡ 0 → old.view.way.reads ≡ On key (NoLink row stamp side) → IsLeafPlace b.view key row (link_field side)
places old a b key row stamp x side f holds still e by none way =
    let held_a : a.view.holds ≡ row ∷ [] = ap (λ (k : Known). k.view.holds) still.works.is ∙ holds in record {
      held = held_once b.view.holds row (ap (λ (k : Known). k.view.holds) e ∙ held_a);
      stamp = stamp;
      side = side;
      way = inr (ap (λ (k : Known). k.view.way.reads) e ∙ still.at ∙ way);
      by_side = refl;
      still = known_still a b row f x row Stamp stamp e still.still;
      none = subst (λ (g : Field). IsKnown b.view.words.knows row g 0) by (subst (λ (y : ℕ). IsKnown b.view.words.knows row f y) none (knows_read a b row f x (held_once a.view.holds row held_a) e));
      live = lives still.live;
    }
  where
    lives : (row ≡ 0) ⊎ IsBorn a.view row → (row ≡ 0) ⊎ IsBorn b.view row
    lives (inl z) = inl z
    lives (inr l) = inr (record {
      birth = l.birth;
      is_birth = known_still a b row f x row Birth l.birth e l.is_birth;
      now = omega (arith, l.now, ap (λ (k : Known). times l.birth k.view.words.present) e);
      stamp = l.stamp;
      is_stamp = known_still a b row f x row Stamp l.stamp e l.is_stamp;
      unmarked = l.unmarked;
    })
