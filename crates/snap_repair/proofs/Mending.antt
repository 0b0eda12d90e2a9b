-- Work under locks, one step after another.
use Rattle.std.proofs.Common.{◌≡◌, ◌∙◌, ◌⊎◌, ◌++◌, ◌∷◌, inl, inr, ℕ, List, [], Bool, true, false, refl, sym, ap, subst, arith, append_assoc, append-nil, ⊎_elim, ◌||◌}
use Rattle.snap_prelude.proofs.Common.{dite, times-append, ℕ_discrete}
use Rattle.snap_locks.specs.Held.{HasLocked}
use Rattle.snap_copy.proofs.Copying.{epoch_not_full}
use Rattle.snap_repair.specs.Mending.{Firm, LinksWhatItDraws, Looks, Mends, MendsTo, NoWord, TellsFull, mended}
use Rattle.snap_prelude.specs.{Among, Becomes, Birth, born, Epoch, epoch_noted, Field, In, is_last, IsBelow, IsKnown}
use Rattle.snap_prelude.specs.{KeepsReached, Key, Known, link_field, Next, read, Side, Stamp, times, View, WordNote}
use Rattle.snap_search.specs.Prelude.{births_of, worked, Works}
use Rattle.snap_search.proofs.Working.{grows_on, grows_read, grows_same, no_notes, notes_on, with_more}
use Rattle.snap_shape.proofs.Touching.{loaded}
use Rattle.snap_shape.specs.{Grips.edge_at, Grips.HasGrip, Grips.IsEdge, Grips.IsOfNow, Shapes.KeepsRest}
use Rattle.snap_shape.specs.{declared.grip.Grip.Grip}
use Rattle.snap_steps.specs.declared.view.WordNote.TheVariants.{Birth as BirthNote}

pub no_rows : (v w : View) → w.drawn ≡ v.drawn → w.fresh.own ≡ v.fresh.own → LinksWhatItDraws v w
no_rows v w drawn own = record { rows = []; drawn = drawn ∙ sym (append-nil v.drawn); linked = λ r some_r. absurd (omega arith); no_more = λ r. omega (arith, ap (times r) own) }

pub links_on : (u v w : View) → KeepsReached v w → LinksWhatItDraws u v → LinksWhatItDraws v w → LinksWhatItDraws u w
links_on u v w kept a b = record {
  rows = a.rows ++ b.rows;
  drawn = b.drawn ∙ ap (λ (l : List ℕ). l ++ b.rows) a.drawn ∙ append_assoc u.drawn a.rows b.rows;
  linked = λ r some_r. dite (ℕ_discrete (times r a.rows) 0) (λ z. b.linked r (omega (arith, some_r, times-append r a.rows b.rows))) (λ nz. let h = a.linked r (omega arith) in (omega (arith, h.0, b.no_more r), omega (arith, h.1, kept r)));
  no_more = λ r. omega (arith, a.no_more r, b.no_more r);
}

in_right : (x : WordNote) (l m : List WordNote) → In x m → In x (l ++ m)
in_right x [] m h = h
in_right x (n ∷ ns) m h = inr (in_right x ns m h)

in_left : (x : WordNote) (l m : List WordNote) → In x l → In x (l ++ m)
in_left x [] m h = absurd h
in_left x (n ∷ ns) m (inl e) = inl e
in_left x (n ∷ ns) m (inr h) = inr (in_left x ns m h)

in_either : (x : WordNote) (l m : List WordNote) → In x (l ++ m) → In x l ⊎ In x m
in_either x [] m h = inr h
in_either x (n ∷ ns) m (inl e) = inl (inl e)
in_either x (n ∷ ns) m (inr h) = ⊎_elim (λ k. inl (inr k)) (λ k. inr k) (in_either x ns m h)

found_to : (full : Bool) (n : ℕ) (l m : List WordNote) → TellsFull false n l → TellsFull full n m → TellsFull full n (l ++ m)
found_to true n l m a b = in_right (Next n) l m b
found_to false n l m a b = λ h. ⊎_elim a b (in_either (Next n) l m h)

found_by : (full : Bool) (n : ℕ) (l m : List WordNote) → TellsFull full n l → TellsFull false n m → TellsFull full n (l ++ m)
found_by true n l m a b = in_left (Next n) l m a
found_by false n l m a b = λ h. ⊎_elim a b (in_either (Next n) l m h)

joined_mends : (full : Bool) (a b c : Known) (o p : Bool) → (x : MendsTo o a b) → (y : MendsTo p b c) → TellsFull full a.view.rows (x.more ++ y.more) → MendsTo full a c
joined_mends full a b c o p x y found = record {
  is = y.is ∙ ap (λ (k : Known). mended k c.view) x.is;
  whole = y.whole ∙ x.whole;
  links = links_on a.view b.view c.view y.reached x.links y.links;
  more = x.more ++ y.more;
  noted = notes_on a.view b.view c.view x.more y.more x.noted y.noted;
  found = found;
  reached = λ r. omega (arith, x.reached r, y.reached r);
  present = λ e h. y.present e (x.present e h);
  lasting = λ r f n h. y.lasting r f n (x.lasting r f n h);
  refused = grows_on a.view.words.refused b.view.words.refused c.view.words.refused x.refused y.refused;
}

same_size : (a b : Known) (o : Bool) → MendsTo o a b → b.view.rows ≡ a.view.rows
same_size a b o x = ap (λ (k : Known). k.view.rows) x.is

-- repairs one after another: after the first, and before the last, each draw found a row left
pub mends_to : (full : Bool) (a b c : Known) → Mends a b → MendsTo full b c → MendsTo full a c
mends_to full a b c x y = joined_mends full a b c false full x y (found_to full a.view.rows x.more y.more x.found (subst (λ (n : ℕ). TellsFull full n y.more) (same_size a b false x) y.found))

pub mends_by : (full : Bool) (a b c : Known) → MendsTo full a b → Mends b c → MendsTo full a c
mends_by full a b c x y = joined_mends full a b c full false x y (found_by full a.view.rows x.more y.more x.found (subst (λ (n : ℕ). TellsFull false n y.more) (same_size a b full x) y.found))

pub mends_on : (a b c : Known) → Mends a b → Mends b c → Mends a c
mends_on a b c x y = mends_to false a b c x y

pub firm_on : (a b c : Known) → Firm a b NoWord → Firm b c NoWord → Firm a c NoWord
firm_on a b c x y = record {
  mends = mends_on a b c x.mends y.mends;
  held = λ r h. y.held r (x.held r h);
  knows = λ q f n ne h. y.knows q f n ne (x.knows q f n ne h);
  heights = λ q d n h. y.heights q d n (x.heights q d n h);
  place = y.place ∙ x.place;
  debt = y.debt ∙ x.debt;
}

pub looks_on : (a b c : Known) → Looks a b → Looks b c → Looks a c
looks_on a b c x y = (firm_on a b c x.0 y.0, y.1 ∙ x.1)

abbrev known_as : Known → View → Known
known_as k v = record { table = k.table; view = v }

mended_by : (a b : Known) (w : View) → Becomes a b w → known_as a w ≡ mended a w → b ≡ mended a b.view
mended_by a b w e same = e ∙ same ∙ ap (λ (k : Known). mended a k.view) (sym e)

-- a search is a part of repairs where the pass has seen no more
pub works_mends : (a b : Known) (more : List WordNote) → Works a b more → b.view.seen ≡ a.view.seen → TellsFull false a.view.rows more → Mends a b
works_mends a b more w seen found = record {
  is = w.is ∙ (λ i. let k : Known = worked a b.view in record { table = k.table; view = record k.view { seen = seen i } }) ∙ sym (ap (λ (k : Known). mended a k.view) w.is);
  whole = ap (λ (k : Known). k.view.doing) w.is;
  links = no_rows a.view b.view (ap (λ (k : Known). k.view.drawn) w.is) (ap (λ (k : Known). k.view.fresh.own) w.is);
  more = more;
  noted = w.noted;
  found = found;
  reached = w.kept;
  present = w.present;
  lasting = w.lasting;
  refused = w.refused;
}

-- what a search notes tells of no full table
pub births_not_full : (rows key epoch : ℕ) (l : List ℕ) → In (Next rows) (Epoch epoch ∷ births_of key l) → ⊥
births_not_full rows key epoch l h = epoch_not_full rows epoch (births_of key l) (none l) h
  where
    none : (l : List ℕ) → In (Next rows) (births_of key l) → ⊥
    none [] h = h
    none (b ∷ bs) (inl e) = let z : Next rows ≡ BirthNote key b = e in cc
    none (b ∷ bs) (inr h) = none bs h

-- a load of a row's word
pub read_looks : (a b : Known) (r : ℕ) (f : Field) (x : ℕ) → Becomes a b (read a.view r f x) → Looks a b
read_looks a b r f x e = let s = loaded a b r f x e in (
  record {
    mends = record {
      is = mended_by a b (read a.view r f x) e refl;
      whole = ap (λ (k : Known). k.view.doing) e;
      links = no_rows a.view b.view (ap (λ (k : Known). k.view.drawn) e) (ap (λ (k : Known). k.view.fresh.own) e);
      more = [];
      found = λ h. h;
      noted = no_notes a.view b.view (ap (λ (k : Known). k.view.noted.notes) e) (ap (λ (k : Known). k.view.noted.handed) e) (ap (λ (k : Known). k.view.noted.epochs) e) (λ h. ap (λ (k : Known). k.view.noted.worn) e ∙ ap (λ (t : Bool). t || is_last f x) h);
      reached = s.reached;
      present = λ n h. subst (Among n) (sym s.present) h;
      lasting = λ q g y h. subst (λ (k : Known). IsKnown k.view.words.lasting q g y) (sym e) h;
      refused = grows_read a b r f x (ap (λ (k : Known). k.view.words.refused) e);
    };
    held = λ q h. subst (Among q) (sym s.holds) h;
    knows = λ q g y ne h. s.knows q g y (λ z. z) h;
    heights = λ q d h i. subst (λ (k : Known). IsBelow k.view.heights q d h) (sym e) i;
    place = ap (λ (k : Known). k.view.way.place) e;
    debt = ap (λ (k : Known). k.view.debt) e;
  },
  s.holds,
)

-- loads of three of its words
pub reads_looks : (a b c d : Known) (r : ℕ) (f g h : Field) (x y z : ℕ) → Becomes a b (read a.view r f x) → Becomes b c (read b.view r g y) → Becomes c d (read c.view r h z) → Looks a d
reads_looks a b c d r f g h x y z first second third = looks_on a c d (looks_on a b c (read_looks a b r f x first) (read_looks b c r g y second)) (read_looks c d r h z third)

-- a load of the epoch
pub epoch_looks : (a b : Known) (x : ℕ) → Becomes a b (epoch_noted a.view x) → Looks a b
epoch_looks a b x e = (
  record {
    mends = record {
      is = mended_by a b (epoch_noted a.view x) e refl;
      whole = ap (λ (k : Known). k.view.doing) e;
      links = no_rows a.view b.view (ap (λ (k : Known). k.view.drawn) e) (ap (λ (k : Known). k.view.fresh.own) e);
      more = Epoch x ∷ [];
      noted = record { notes = ap (λ (k : Known). k.view.noted.notes) e; handed = ap (λ (k : Known). k.view.noted.handed) e; epochs = ap (λ (k : Known). k.view.noted.epochs) e; worn = λ h. ap (λ (k : Known). k.view.noted.worn) e ∙ h };
      found = epoch_not_full a.view.rows x [] (λ z. z);
      reached = λ r. omega (arith, ap (λ (k : Known). times r k.view.trail.reached) e);
      present = λ n h. subst (λ (k : Known). Among n k.view.words.present) (sym e) (with_more a.view.stage x n a.view.words.present h);
      lasting = λ q g y h. subst (λ (k : Known). IsKnown k.view.words.lasting q g y) (sym e) h;
      refused = grows_same a.view.words.refused b.view.words.refused (ap (λ (k : Known). k.view.words.refused) e);
    };
    held = λ q h. subst (λ (k : Known). Among q k.view.holds) (sym e) h;
    knows = λ q g y ne h. subst (λ (k : Known). IsKnown k.view.words.knows q g y) (sym e) h;
    heights = λ q d h i. subst (λ (k : Known). IsBelow k.view.heights q d h) (sym e) i;
    place = ap (λ (k : Known). k.view.way.place) e;
    debt = ap (λ (k : Known). k.view.debt) e;
  },
  ap (λ (k : Known). k.view.holds) e,
)

-- a load of a birth
pub born_looks : (a b : Known) (r x : ℕ) → Becomes a b (born a.view r x) → Looks a b
born_looks a b r x e = let s = loaded a (known_as a (read a.view r Birth x)) r Birth x refl in (
  record {
    mends = record {
      is = mended_by a b (born a.view r x) e refl;
      whole = ap (λ (k : Known). k.view.doing) e;
      links = no_rows a.view b.view (ap (λ (k : Known). k.view.drawn) e) (ap (λ (k : Known). k.view.fresh.own) e);
      more = [];
      found = λ h. h;
      noted = no_notes a.view b.view (ap (λ (k : Known). k.view.noted.notes) e) (ap (λ (k : Known). k.view.noted.handed) e) (ap (λ (k : Known). k.view.noted.epochs) e) (λ h. ap (λ (k : Known). k.view.noted.worn) e ∙ ap (λ (t : Bool). t || is_last Birth x) h);
      reached = λ q. omega (arith, s.reached q, ap (λ (k : Known). times q k.view.trail.reached) e);
      present = λ n h. subst (λ (k : Known). Among n k.view.words.present) (sym e) h;
      lasting = λ q g y h. subst (λ (k : Known). IsKnown k.view.words.lasting q g y) (sym e) (inr h);
      refused = grows_same a.view.words.refused b.view.words.refused (ap (λ (k : Known). k.view.words.refused) e);
    };
    held = λ q h. subst (λ (k : Known). Among q k.view.holds) (sym e) h;
    knows = λ q g y ne h. subst (λ (k : Known). IsKnown k.view.words.knows q g y) (sym e) (s.knows q g y (λ z. z) h);
    heights = λ q d h i. subst (λ (k : Known). IsBelow k.view.heights q d h) (sym e) i;
    place = ap (λ (k : Known). k.view.way.place) e;
    debt = ap (λ (k : Known). k.view.debt) e;
  },
  ap (λ (k : Known). k.view.holds) e,
)

-- what is known of a row stays known
pub grip_firm : (a b : Known) (P : ℕ → Field → Type 0) (g : Grip) → Firm a b P → (P g.row Key → ⊥) → (P g.row Stamp → ⊥) → (P g.row Birth → ⊥) → HasGrip a.view g → HasGrip b.view g
grip_firm a b P g s key stamp birth h = record {
  held = s.held g.row h.held;
  is_key = s.knows g.row Key g.key key h.is_key;
  is_stamp = s.knows g.row Stamp g.stamp stamp h.is_stamp;
  unmarked = h.unmarked;
  own = own h.own;
}
  where
    own : (g.row ≡ 0) ⊎ IsOfNow a.view g.row → (g.row ≡ 0) ⊎ IsOfNow b.view g.row
    own (inl z) = inl z
    own (inr o) = inr (record { reached = omega (arith, o.reached, s.mends.reached g.row); birth = o.birth; is_birth = s.knows g.row Birth o.birth birth o.is_birth; now = s.mends.present o.birth o.now })

pub grip_looks : (a b : Known) (g : Grip) → Looks a b → HasGrip a.view g → HasGrip b.view g
grip_looks a b g s h = grip_firm a b NoWord g s.0 (λ z. z) (λ z. z) (λ z. z) h

pub edge_looks : (a b : Known) (upper lower : Grip) (d : Side) → Looks a b → IsEdge a.view (edge_at upper d lower) → IsEdge b.view (edge_at upper d lower)
edge_looks a b upper lower d s e = record {
  above = grip_looks a b upper s e.above;
  below = grip_looks a b lower s e.below;
  leads = s.0.knows upper.row (link_field d) lower.row (λ z. z) e.leads;
  is_row = e.is_row;
  on_right = e.on_right;
  apart = e.apart;
}

-- a change of the tree's shape is a part of repairs
pub keeps_mends : (a b : Known) (p r l : ℕ) → a.view.doing ≡ Rattle.snap_rule.specs.declared.change.Doing.TheVariants.Nothing → KeepsRest a b p r l → Mends a b
keeps_mends a b p r l whole k = record {
  is = k.is ∙ ap (λ (x : Known). mended a x.view) (sym k.is);
  whole = k.whole ∙ sym whole;
  links = no_rows a.view b.view (ap (λ (x : Known). x.view.drawn) k.is) (ap (λ (x : Known). x.view.fresh.own) k.is);
  more = [];
  found = λ h. h;
  noted = no_notes a.view b.view (ap (λ (x : Known). x.view.noted.notes) k.is) (ap (λ (x : Known). x.view.noted.handed) k.is) (ap (λ (x : Known). x.view.noted.epochs) k.is) k.worn;
  reached = k.reached;
  present = λ n h. subst (λ (x : Known). Among n x.view.words.present) (sym k.is) h;
  lasting = λ q g y h. subst (λ (x : Known). IsKnown x.view.words.lasting q g y) (sym k.is) h;
  refused = grows_same a.view.words.refused b.view.words.refused k.refused;
}

pub keeps_holds : (a b : Known) (p r l : ℕ) → KeepsRest a b p r l → b.view.holds ≡ a.view.holds
keeps_holds a b p r l k = ap (λ (x : Known). x.view.holds) k.is

-- a lock, and its release
pub locked_firm : (a b : Known) (r : ℕ) → HasLocked a b r → Firm a b NoWord × (b.view.holds ≡ r ∷ a.view.holds)
locked_firm a b r l = let e = l.is in (
  record {
    mends = record {
      is = e ∙ ap (λ (k : Known). mended a k.view) (sym e);
      whole = ap (λ (k : Known). k.view.doing) e;
      links = no_rows a.view b.view (ap (λ (k : Known). k.view.drawn) e) (ap (λ (k : Known). k.view.fresh.own) e);
      more = [];
      found = λ h. h;
      noted = no_notes a.view b.view (ap (λ (k : Known). k.view.noted.notes) e) (ap (λ (k : Known). k.view.noted.handed) e) (ap (λ (k : Known). k.view.noted.epochs) e) (λ h. ap (λ (k : Known). k.view.noted.worn) e ∙ h);
      reached = λ q. omega (arith, ap (λ (k : Known). times q k.view.trail.reached) e);
      present = λ n h. subst (λ (k : Known). Among n k.view.words.present) (sym e) h;
      lasting = λ q g y h. subst (λ (k : Known). IsKnown k.view.words.lasting q g y) (sym e) h;
      refused = (l.refused, (ap (λ (k : Known). k.view.words.refused) e));
    };
    held = λ q h. omega (arith, h, ap (λ (k : Known). times q k.view.holds) e);
    knows = λ q g y ne h. subst (λ (k : Known). IsKnown k.view.words.knows q g y) (sym e) h;
    heights = λ q d h i. subst (λ (k : Known). IsBelow k.view.heights q d h) (sym e) i;
    place = ap (λ (k : Known). k.view.way.place) e;
    debt = ap (λ (k : Known). k.view.debt) e;
  },
  ap (λ (k : Known). k.view.holds) e,
)
