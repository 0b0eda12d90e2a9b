-- The child of a held row, and the copy that takes its place.
use Rattle.std.proofs.Common.{◌≡◌, ◌≢◌, ◌⊎◌, inl, inr, Option, eqb-true, ℕ, ◌+◌, ◌<◌, ◌≤◌, Bool, true, false, cond, nat_lt, lt-ltb, List, [], ◌∷◌, ◌++◌, ◌==◌, ◌&&◌, ◌||◌, eq-eqb, refl, sym, ap, ◌∙◌, subst, arith}
use Rattle.snap_copy.specs.{Filling.CopiesWord, Filling.filled, Filling.Fills, Filling.FindsChild, Filling.Keeps}
use Rattle.snap_copy.specs.{Mending.NoWord, Owning.ChangesOnly, Owning.IsCopiedAt, Owning.IsOwn, Owning.Lacks}
use Rattle.snap_copy.specs.{Owning.LacksAt, Owning.OwnsAt, Owning.stayed, Owning.with_copy, declared.Wanted.Wanted}
use Rattle.snap_copy.proofs.Keeping.{keeps_on, read_keeps, learnt_keeps, stored_keeps, drew_keeps, noted_keeps, older_still, place_still}
use Rattle.snap_prelude.specs.{all_noted, AllLeft, Among, Becomes, Birth, born, copied, copies_for, Done, drew, Epoch}
use Rattle.snap_prelude.specs.{Extends, Fact, Field, forgotten, FoundFull, Gate, HasDrawn, HasWord, Height, In, is_last}
use Rattle.snap_prelude.specs.{IsBorn, IsCopyPlace, IsHeldLink, IsKnown, IsOlder, Key, Known, learnt, led_to}
use Rattle.snap_prelude.specs.{link_field, Next, notes_of, own_word_stored, place_of, read, removed, same_field}
use Rattle.snap_prelude.specs.{SeesMore, Side, times, Trouble, Value, View, WordNote}
use Rattle.snap_search.specs.Prelude.{worked, Works}
use Rattle.snap_search.proofs.Walking.{times-append}
use Rattle.snap_search.proofs.Working.{grows_on, grows_same, works_on, word_works, notes_on, no_notes}
use Rattle.snap_stamp.specs.declared.layout.Field.TheVariants.{Left, Right}
use Rattle.snap_prelude.proofs.Common.{held_link, one_place}
use Rattle.snap_steps.specs.declared.view.WordNote.TheVariants.{Birth as BirthNote, Left as LeftNote}

abbrev known_as : Known → View → Known
known_as k v = record { table = k.table; view = v }

kept_by : (old new : Known) (w : View) → Becomes old new w → Keeps old.view w → Keeps old.view new.view
kept_by old new w e k = subst (λ (x : Known). Keeps old.view x.view) (sym e) k

filled_on : (old mid new : Known) → mid ≡ filled old mid.view → new ≡ filled mid new.view → new ≡ filled old new.view
filled_on old mid new a b = b ∙ ap (λ (k : Known). filled k new.view) a

-- a store of one word leaves what was stored in the others
forgotten_keeps : (l : List Fact) (r : ℕ) (f g : Field) (y : ℕ) → same_field g f ≡ false → IsKnown l r g y → IsKnown (forgotten l r f) r g y
forgotten_keeps [] r f g y ne h = h
forgotten_keeps (x ∷ xs) r f g y ne h = go (x.row == r) refl (same_field x.field f) refl h (λ k. forgotten_keeps xs r f g y ne k)
  where
    go : (a : Bool) → (x.row == r) ≡ a → (b : Bool) → same_field x.field f ≡ b → ((x.row ≡ r) × (x.field ≡ g) × (x.word ≡ y)) ⊎ IsKnown xs r g y → (IsKnown xs r g y → IsKnown (forgotten xs r f) r g y) → IsKnown (cond (a && b) (forgotten xs r f) (x ∷ forgotten xs r f)) r g y
    go true ea true eb (inl e) on = let q : true ≡ false = sym eb ∙ ap (λ (z : Field). same_field z f) e.1 ∙ ne in absurd (cc)
    go true ea true eb (inr k) on = on k
    go true ea false eb (inl e) on = inl e
    go true ea false eb (inr k) on = inr (on k)
    go false ea b eb (inl e) on = inl e
    go false ea b eb (inr k) on = inr (on k)

pub wrote_still : (old new : Known) (r : ℕ) (f : Field) (x : ℕ) (g : Field) (y : ℕ) → same_field g f ≡ false → Becomes old new (own_word_stored old.view r f x) → IsKnown old.view.fresh.wrote r g y → IsKnown new.view.fresh.wrote r g y
wrote_still old new r f x g y ne e h = subst (λ (k : Known). IsKnown k.view.fresh.wrote r g y) (sym e) (inr (forgotten_keeps old.view.fresh.wrote r f g y ne h))

one_of : (n : ℕ) → Among n (n ∷ [])
one_of n = let one : times n (n ∷ []) ≡ 1 = ap (λ (b : Bool). cond b 1 0 + 0) (eq-eqb n n refl) in omega (arith, one)

both_yes : (a b : Bool) (l m : List ℕ) → a ≡ true → b ≡ true → cond a (cond b l m) [] ≡ l
both_yes a b l m ea eb = ap (λ (x : Bool). cond x (cond b l m) []) ea ∙ ap (λ (x : Bool). cond x l m) eb

last_yes : (a b c : Bool) (l : List ℕ) → a ≡ true → c ≡ true → cond a (cond b l (cond c l [])) [] ≡ l
last_yes a true c l ea ec = ap (λ (x : Bool). cond x l []) ea
last_yes a false c l ea ec = ap (λ (x : Bool). cond x (cond c l []) []) ea ∙ ap (λ (x : Bool). cond x l []) ec

-- a link below the held row leads to its child
leads : (v : View) (parent n : ℕ) (d : Side) (child : ℕ) → IsHeldLink v parent d child → 0 < n → Among n (led_to v parent (link_field d) n)
leads v parent n d child h pos = go d h.live
  where
    yes : nat_lt 0 n ≡ true
    yes = lt-ltb 0 n pos

    go : (e : Side) → ((parent ≡ 0) × (e ≡ Side.Right)) ⊎ ((Among parent v.trail.reached) × IsBorn v parent) → Among n (led_to v parent (link_field e) n)
    go Side.Left (inl z) = absurd (cc)
    go Side.Left (inr l) = subst (Among n) (sym (both_yes (nat_lt 0 n) (nat_lt 0 (times parent v.trail.reached)) (n ∷ []) (cond (parent == 0) [] []) yes (lt-ltb 0 (times parent v.trail.reached) l.0))) (one_of n)
    go Side.Right (inl z) = subst (Among n) (sym (last_yes (nat_lt 0 n) (nat_lt 0 (times parent v.trail.reached)) (parent == 0) (n ∷ []) yes (eq-eqb parent 0 z.0))) (one_of n)
    go Side.Right (inr l) = subst (Among n) (sym (both_yes (nat_lt 0 n) (nat_lt 0 (times parent v.trail.reached)) (n ∷ []) (cond (parent == 0) (n ∷ []) []) yes (lt-ltb 0 (times parent v.trail.reached) l.0))) (one_of n)

pub low_child : (v : View) (rows : ℕ) (parent word : ℕ) (d : Side) (f : Field) (child : ℕ) → child ≢ 0 → IsHeldLink v parent d child → f ≡ link_field d → ((x : ℕ) → IsKnown v.words.knows parent f x → word ≡ x) → ((c : ℕ) → Among c (led_to v parent f word) → c ≤ rows) → word ≤ rows
low_child v rows parent word d f child some_row h by known led =
    let same : word ≡ child = known child (subst (λ (g : Field). IsKnown v.words.knows parent g child) (sym by) h.child_is) in
    led word (subst (λ (g : Field). Among word (led_to v parent g word)) (sym by) (leads v parent word d child h (omega arith)))

pub child_found : (rows : ℕ) (old new : Known) (parent word c : ℕ) (d : Side) (f : Field) (child : ℕ) → child ≢ 0 → IsHeldLink old.view parent d child → f ≡ link_field d → Becomes old new (read old.view parent f word) → ((x : ℕ) → IsKnown old.view.words.knows parent f x → word ≡ x) → word ≤ rows → c ≡ word
    → FindsChild rows old new parent d c
child_found rows old new parent word c d f child some_row h by e known low is =
    let theirs : (x : ℕ) → IsKnown old.view.words.knows parent (link_field d) x → c ≡ x = λ (x : ℕ) (k : IsKnown old.view.words.knows parent (link_field d) x). is ∙ known x (subst (λ (g : Field). IsKnown old.view.words.knows parent g x) (sym by) k) in
    let same : c ≡ child = theirs child h.child_is in
    let step : Becomes old new (read old.view parent (link_field d) c) = e ∙ (λ i. known_as old (read old.view parent (by i) (sym is i))) in
    let led : Among c (led_to old.view parent (link_field d) c) = leads old.view parent c d child h (omega (arith, same, some_row)) in record {
      step = step;
      some_row = λ z. some_row (sym same ∙ z);
      low = omega (arith, is);
      reached = subst (λ (k : Known). Among c k.view.trail.reached) (sym step) (omega (arith, times-append c old.view.trail.reached (led_to old.view parent (link_field d) c), led));
      was = subst (IsKnown old.view.words.knows parent (link_field d)) (sym same) h.child_is;
      known = theirs;
    }

-- one field of the copy
pub word_copied : (old mid new : Known) (child copy x : ℕ) (f : Field) → Becomes old mid (learnt old.view child f x) → Becomes mid new (own_word_stored mid.view copy f x) → CopiesWord old new child copy f
word_copied old mid new child copy x f a b =
    let first : mid ≡ filled old mid.view = a ∙ ap (λ (k : Known). filled old k.view) (sym a) in
    let last : new ≡ filled mid new.view = b ∙ ap (λ (k : Known). filled mid k.view) (sym b) in
    let on = kept_by mid new (own_word_stored mid.view copy f x) b (stored_keeps mid.view copy f x) in record {
      is = filled_on old mid new first last;
      keeps = keeps_on old.view mid.view new.view (kept_by old mid (learnt old.view child f x) a (learnt_keeps old.view child f x)) on;
      word = record { word = x; theirs = on.lasting child f x (subst (λ (k : Known). IsKnown k.view.words.lasting child f x) (sym a) (inl (refl, refl, refl))); ours = subst (λ (k : Known). IsKnown k.view.fresh.wrote copy f x) (sym b) (inl (refl, refl, refl)) };
      others = λ g y ne h. wrote_still mid new copy f x g y ne b (subst (λ (k : Known). IsKnown k.view.fresh.wrote copy g y) (sym a) h);
    }

still_copied : (a b : Known) (child copy : ℕ) (f g : Field) → same_field g f ≡ false → CopiesWord a b child copy f → HasWord a.view copy child g → HasWord b.view copy child g
still_copied a b child copy f g ne c h = record { word = h.word; theirs = c.keeps.lasting child g h.word h.theirs; ours = c.others g h.word ne h.ours }

-- all fields, and the birth
pub copy_filled : (a b c d e f g : Known) (child copy epoch : ℕ) → Among copy a.view.fresh.own → Among epoch a.view.words.present → CopiesWord a b child copy Key → CopiesWord b c child copy Height → CopiesWord c d child copy Left → CopiesWord d e child copy Right → CopiesWord e f child copy Value → Becomes f g (own_word_stored f.view copy Birth epoch) → Fills a g child copy
copy_filled a b c d e f g child copy epoch own now s1 s2 s3 s4 s5 s6 =
    let k6 = kept_by f g (own_word_stored f.view copy Birth epoch) s6 (stored_keeps f.view copy Birth epoch) in
    let k = keeps_on a.view f.view g.view (keeps_on a.view e.view f.view (keeps_on a.view d.view e.view (keeps_on a.view c.view d.view (keeps_on a.view b.view c.view s1.keeps s2.keeps) s3.keeps) s4.keeps) s5.keeps) k6 in
    let i5 = filled_on a e f (filled_on a d e (filled_on a c d (filled_on a b c s1.is s2.is) s3.is) s4.is) s5.is in
    let is : g ≡ filled a g.view = filled_on a f g i5 (s6 ∙ ap (λ (x : Known). filled f x.view) (sym s6)) in
    let end = λ (h : Field) (ne : same_field h Birth ≡ false) (q : HasWord f.view copy child h). let r : HasWord g.view copy child h = record { word = q.word; theirs = k6.lasting child h q.word q.theirs; ours = wrote_still f g copy Birth epoch h q.word ne s6 q.ours } in r in record {
      is = is;
      keeps = k;
      copy_is = record {
        own = subst (Among copy) (sym (ap (λ (x : Known). x.view.fresh.own) is)) own;
        key = end Key refl (still_copied e f child copy Value Key refl s5 (still_copied d e child copy Right Key refl s4 (still_copied c d child copy Left Key refl s3 (still_copied b c child copy Height Key refl s2 s1.word))));
        height = end Height refl (still_copied e f child copy Value Height refl s5 (still_copied d e child copy Right Height refl s4 (still_copied c d child copy Left Height refl s3 s2.word)));
        left = end Left refl (still_copied e f child copy Value Left refl s5 (still_copied d e child copy Right Left refl s4 s3.word));
        right = end Right refl (still_copied e f child copy Value Right refl s5 s4.word);
        value = end Value refl s5.word;
        birth = epoch;
        is_birth = subst (λ (x : Known). IsKnown x.view.fresh.wrote copy Birth epoch) (sym s6) (inl (refl, refl, refl));
        now = k.present epoch now;
      };
    }

-- what the pass knows of the child once it has loaded its birth
pub record Looks (rows : ℕ) (old new : Known) (key : Option ℕ) (at : Wanted) (child birth : ℕ) : Type 0 where
  pub works : Works old new []
  pub now : Among at.epoch new.view.words.present
  pub known : IsKnown new.view.words.lasting child Birth birth
  pub place : IsCopyPlace new.view key at.parent at.side child
  pub was : IsKnown old.view.words.knows at.parent (link_field at.side) child
  pub past : birth ≤ at.epoch
  pub stays : ChangesOnly old new key NoWord
  pub low : child ≤ rows
  pub some_row : child ≢ 0
  pub reached : Among child new.view.trail.reached

born_works : (old new : Known) (r b : ℕ) → Becomes old new (born old.view r b) → Works old new []
born_works old new r b e = record {
  is = e ∙ ap (λ (k : Known). worked old k.view) (sym e);
  noted = no_notes old.view new.view (ap (λ (k : Known). k.view.noted.notes) e) (ap (λ (k : Known). k.view.noted.handed) e) (ap (λ (k : Known). k.view.noted.epochs) e) (λ h. ap (λ (k : Known). k.view.noted.worn) e ∙ ap (λ (t : Bool). t || is_last Birth b) h);
  sees = inl (ap (λ (k : Known). k.view.seen) e);
  kept = λ n. omega (arith, ap (λ (k : Known). times n k.view.trail.reached) e, times-append n old.view.trail.reached (led_to old.view r Birth b));
  lasting = λ n g y h. subst (λ (k : Known). IsKnown k.view.words.lasting n g y) (sym e) (inr h);
  present = λ y h. subst (λ (k : Known). Among y k.view.words.present) (sym e) h;
  refused = grows_same old.view.words.refused new.view.words.refused (ap (λ (k : Known). k.view.words.refused) e);
}

-- what a step keeps, where the pass changes in nothing else
stays_of : (old new : Known) (key : Option ℕ) → new ≡ stayed old new.view → Keeps old.view new.view → ChangesOnly old new key NoWord
stays_of old new key is k = record { is = is; copies = λ z. k.copies; knows = λ q f x ne h. k.knows q f x h; reached = k.reached; present = k.present; lasting = k.lasting; refused = k.refused }

pub stays_by : (old new : Known) (key : Option ℕ) (w : View) → Becomes old new w → known_as old w ≡ stayed old w → Keeps old.view w → ChangesOnly old new key NoWord
stays_by old new key w e same k = stays_of old new key (e ∙ same ∙ ap (λ (x : Known). stayed old x.view) (sym e)) (kept_by old new w e k)

pub stays_on : (a b c : Known) (key : Option ℕ) (changed : ℕ → Field → Type 0) → ChangesOnly a b key NoWord → ChangesOnly b c key changed → ChangesOnly a c key changed
stays_on a b c key changed x y = record {
  is = y.is ∙ ap (λ (k : Known). stayed k c.view) x.is;
  copies = λ z. y.copies z ∙ x.copies z;
  knows = λ q f n ne h. y.knows q f n ne (x.knows q f n (λ z. z) h);
  reached = λ r. omega (arith, x.reached r, y.reached r);
  present = λ e h. y.present e (x.present e h);
  lasting = λ r f n h. y.lasting r f n (x.lasting r f n h);
  refused = grows_on a.view.words.refused b.view.words.refused c.view.words.refused x.refused y.refused;
}

pub looks : (rows : ℕ) (old a new : Known) (key : Option ℕ) (at : Wanted) (child birth : ℕ) → Among at.epoch old.view.words.present → ((c : ℕ) × (c ≢ 0) × IsCopyPlace old.view key at.parent at.side c) → FindsChild rows old a at.parent at.side child → Becomes a new (born a.view child birth) → ((e : ℕ) → Among e a.view.words.present → birth ≤ e) → Looks rows old new key at child birth
looks rows old a new key at child birth now place f e past =
    let same = f.known place.0 (held_link old.view key at.parent at.side place.0 place.2).child_is in
    let k0 = kept_by old a (read old.view at.parent (link_field at.side) child) f.step (read_keeps old.view at.parent (link_field at.side) child) in
    let k1 = kept_by a new (born a.view child birth) e (learnt_keeps a.view child Birth birth) in
    let there = place_still old.view a.view key at.parent at.side child k0 (subst (IsCopyPlace old.view key at.parent at.side) (sym same) place.2) in
    let s0 = stays_by old a key (read old.view at.parent (link_field at.side) child) f.step refl (read_keeps old.view at.parent (link_field at.side) child) in
    let s1 = stays_by a new key (born a.view child birth) e refl (learnt_keeps a.view child Birth birth) in record {
      works = works_on old a new [] [] (word_works old a at.parent (link_field at.side) child f.step) (born_works a new child birth e);
      now = k1.present at.epoch (k0.present at.epoch now);
      known = subst (λ (k : Known). IsKnown k.view.words.lasting child Birth birth) (sym e) (inl (refl, refl, refl));
      place = place_still a.view new.view key at.parent at.side child k1 there;
      was = f.was;
      past = past at.epoch (k0.present at.epoch now);
      stays = stays_on old a new key NoWord s0 s1;
      low = f.low;
      some_row = f.some_row;
      reached = omega (arith, f.reached, k1.reached child);
    }

is_own : (rows : ℕ) (old new : Known) (key : Option ℕ) (at : Wanted) (child birth : ℕ) → Looks rows old new key at child birth → at.epoch ≤ birth → IsOwn old new [] at child
is_own rows old new key at child birth l from = let past = l.past in let is : birth ≡ at.epoch = omega arith in record {
  works = l.works;
  now = l.now;
  birth = subst (IsKnown new.view.words.lasting child Birth) is l.known;
  was = l.was;
  child_is = (held_link new.view key at.parent at.side child l.place).child_is;
}

pub is_older : (rows : ℕ) (old new : Known) (key : Option ℕ) (at : Wanted) (child birth : ℕ) → Looks rows old new key at child birth → birth < at.epoch → IsOlder new.view child
is_older rows old new key at child birth l less = record { birth = birth; is_birth = l.known; epoch = at.epoch; now = l.now; older = less }

-- the loads of a draw that found no row left
pub last_full : (rows : ℕ) (ns : List ℕ) → In (Next rows) (notes_of (ns ++ rows ∷ []))
last_full rows [] = inl refl
last_full rows (n ∷ ns) = inr (last_full rows ns)

pub full_works : (rows : ℕ) (old new : Known) (f : FoundFull rows old new) → Works old new (notes_of (f.0 ++ rows ∷ []))
full_works rows old new f = let e = f.2 in record {
  is = e ∙ ap (λ (k : Known). worked old k.view) (sym e);
  noted = record {
    notes = ap (λ (k : Known). k.view.noted.notes) e;
    handed = ap (λ (k : Known). k.view.noted.handed) e;
    epochs = ap (λ (k : Known). k.view.noted.epochs) e;
    worn = λ h. ap (λ (k : Known). k.view.noted.worn) e ∙ h;
  };
  sees = inl (ap (λ (k : Known). k.view.seen) e);
  kept = λ r. omega (arith, ap (λ (k : Known). times r k.view.trail.reached) e);
  lasting = λ n f x h. subst (λ (k : Known). IsKnown k.view.words.lasting n f x) (sym e) h;
  present = λ x h. subst (λ (k : Known). Among x k.view.words.present) (sym e) h;
  refused = grows_same old.view.words.refused new.view.words.refused (ap (λ (k : Known). k.view.words.refused) e);
}

lacks : (rows : ℕ) (old mid new : Known) (key : Option ℕ) (at : Wanted) (child birth : ℕ) → Looks rows old mid key at child birth → birth < at.epoch → FoundFull rows mid new → Lacks rows old new at.parent at.side
lacks rows old mid new key at child birth l less full = let after = full_works rows mid new full in record {
  child = child;
  older = record { birth = birth; is_birth = after.lasting child Birth birth l.known; epoch = at.epoch; now = after.present at.epoch l.now; older = less };
  child_is = subst (λ (k : Known). IsKnown k.view.words.knows at.parent (link_field at.side) child) (sym full.2) (held_link mid.view key at.parent at.side child l.place).child_is;
  more = notes_of (full.0 ++ rows ∷ []);
  works = works_on old mid new [] (notes_of (full.0 ++ rows ∷ [])) l.works after;
  full = last_full rows full.0;
}

pub with_copy_on : (old mid new : Known) → mid ≡ with_copy old mid.view → new ≡ with_copy mid new.view → new ≡ with_copy old new.view
with_copy_on old mid new a b = b ∙ ap (λ (k : Known). with_copy k new.view) a

abbrev next_of : WordNote → ℕ
next_of (Next n) = n
next_of (Gate n) = 0
next_of (LeftNote n) = 0
next_of (Done n) = 0
next_of (Epoch n) = 0
next_of (BirthNote k b) = 0
next_of Trouble = 0

-- loads that each found a row left tell of no full table
none_full : (rows : ℕ) (ns : List ℕ) → AllLeft rows ns → In (Next rows) (notes_of ns) → ⊥
none_full rows [] a h = h
none_full rows (n ∷ ns) a (inl e) = a.0 (sym (ap next_of e))
none_full rows (n ∷ ns) a (inr h) = none_full rows ns a.1 h

-- and neither does a note of the epoch
pub epoch_not_full : (rows x : ℕ) (l : List WordNote) → (In (Next rows) l → ⊥) → In (Next rows) (Epoch x ∷ l) → ⊥
epoch_not_full rows x l none (inl e) = let z : Next rows ≡ Epoch x = e in cc
epoch_not_full rows x l none (inr h) = none h

-- a row was drawn, filled and linked in the child's place
is_copied : (rows : ℕ) (old a b c new : Known) (key : Option ℕ) (at : Wanted) (child birth copy : ℕ) → old.view.rows ≡ rows → Looks rows old a key at child birth → birth < at.epoch → HasDrawn rows a b copy → Fills b c child copy → Becomes c new (copied c.view key at.parent (link_field at.side) copy) → IsCopiedAt old new key at.parent at.side copy
is_copied rows old a b c new key at child birth copy size l less drawn f e =
    let draw : Becomes a b (drew (all_noted a.view (notes_of drawn.0)) copy) = drawn.3 in
    let kb = kept_by a b (drew (all_noted a.view (notes_of drawn.0)) copy) draw (drew_keeps a.view (notes_of drawn.0) copy) in
    let first : a ≡ with_copy old a.view = l.works.is ∙ ap (λ (k : Known). with_copy old k.view) (sym l.works.is) in
    let second : b ≡ with_copy a b.view = draw ∙ ap (λ (k : Known). with_copy a k.view) (sym draw) in
    let third : c ≡ with_copy b c.view = f.is ∙ ap (λ (k : Known). with_copy b k.view) (sym f.is) in
    let last : new ≡ with_copy c new.view = e ∙ ap (λ (k : Known). with_copy c k.view) (sym e) in
    let older_c : IsOlder c.view child = older_still b.view c.view child f.keeps (older_still a.view b.view child kb (is_older rows old a key at child birth l less)) in record {
      is = with_copy_on old c new (with_copy_on old b c (with_copy_on old a b first second) third) last;
      child = child;
      was = l.was;
      older = subst (λ (k : Known). IsOlder k.view child) (sym e) (same_older c.view key at.parent (link_field at.side) copy child older_c);
      filled = c.view;
      holds = f.copy_is;
      linked = ap (λ (k : Known). k.view) e;
      drawn = ap (λ (k : Known). k.view.drawn) e ∙ ap (λ (k : Known). k.view.drawn) f.is ∙ ap (λ (k : Known). k.view.drawn) draw ∙ ap (λ (k : Known). k.view.drawn ++ copy ∷ []) l.works.is;
      own = ap (λ (k : Known). k.view.fresh.own) e ∙ ap (λ (k : Known). removed copy k.view.fresh.own) f.is ∙ ap (λ (k : Known). removed copy k.view.fresh.own) draw ∙ ap (λ (k : Known). removed copy (copy ∷ k.view.fresh.own)) l.works.is;
      more = notes_of drawn.0;
      noted = notes_on old.view a.view new.view [] (notes_of drawn.0) l.works.noted (record {
        notes = ap (λ (k : Known). k.view.noted.notes) e ∙ ap (λ (k : Known). k.view.noted.notes) f.is ∙ ap (λ (k : Known). k.view.noted.notes) draw;
        handed = ap (λ (k : Known). k.view.noted.handed) e ∙ ap (λ (k : Known). k.view.noted.handed) f.is ∙ ap (λ (k : Known). k.view.noted.handed) draw;
        epochs = ap (λ (k : Known). k.view.noted.epochs) e ∙ ap (λ (k : Known). k.view.noted.epochs) f.is ∙ ap (λ (k : Known). k.view.noted.epochs) draw;
        worn = λ h. ap (λ (k : Known). k.view.noted.worn) e ∙ f.keeps.worn (kb.worn h);
      });
      left = none_full old.view.rows drawn.0 (subst (λ (n : ℕ). AllLeft n drawn.0) (sym size) drawn.1);
      sees = sees l.works.sees (ap (λ (k : Known). k.view.seen) e ∙ ap (λ (k : Known). k.view.seen) f.is ∙ ap (λ (k : Known). k.view.seen) draw);
      kept = λ r. omega (arith, l.works.kept r, kb.reached r, f.keeps.reached r, ap (λ (k : Known). times r k.view.trail.reached) e);
      reached = subst (λ (k : Known). Among copy k.view.trail.reached) (sym e) (omega (arith, one_of copy));
      present = λ x h. subst (λ (k : Known). Among x k.view.words.present) (sym e) (f.keeps.present x (kb.present x (l.works.present x h)));
      child_is = subst (λ (k : Known). IsKnown k.view.words.knows at.parent (link_field at.side) copy) (sym e) (inl (refl, refl, refl));
      copies = ap (λ (k : Known). k.view.fresh.copies) e ∙ ap (λ (l : List ℕ). copies_for l key) (f.keeps.copies ∙ kb.copies ∙ ap (λ (k : Known). k.view.fresh.copies) l.works.is);
    }
  where
    same_older : (v : View) (key : Option ℕ) (parent : ℕ) (f : Field) (copy r : ℕ) → IsOlder v r → IsOlder (copied v key parent f copy) r
    same_older v key parent f copy r h = record { birth = h.birth; is_birth = h.is_birth; epoch = h.epoch; now = h.now; older = h.older }

    sees : SeesMore old.view a.view → new.view.seen ≡ a.view.seen → SeesMore old.view new.view
    sees (inl q) s = inl (s ∙ q)
    sees (inr x) s = inr (subst (Extends old.view) (sym s) x)

pub drawn_keeps : (rows : ℕ) (old new : Known) (copy : ℕ) → HasDrawn rows old new copy → Keeps old.view new.view
drawn_keeps rows old new copy d = kept_by old new (drew (all_noted old.view (notes_of d.0)) copy) d.3 (drew_keeps old.view (notes_of d.0) copy)

-- what is known of other words stays where one was forgotten
forgotten_else : (l : List Fact) (r : ℕ) (f : Field) (q : ℕ) (g : Field) (y : ℕ) → ((q ≡ r) × (g ≡ f) → ⊥) → IsKnown l q g y → IsKnown (forgotten l r f) q g y
forgotten_else [] r f q g y ne h = h
forgotten_else (x ∷ xs) r f q g y ne h = go (x.row == r) refl (same_field x.field f) refl h (λ k. forgotten_else xs r f q g y ne k)
  where
    go : (a : Bool) → (x.row == r) ≡ a → (b : Bool) → same_field x.field f ≡ b → ((x.row ≡ q) × (x.field ≡ g) × (x.word ≡ y)) ⊎ IsKnown xs q g y → (IsKnown xs q g y → IsKnown (forgotten xs r f) q g y) → IsKnown (cond (a && b) (forgotten xs r f) (x ∷ forgotten xs r f)) q g y
    go true ea true eb (inl e) on = absurd (ne (sym e.0 ∙ eqb-true x.row r ea, sym e.1 ∙ one_place x.field f (eqb-true (place_of x.field) (place_of f) eb)))
    go true ea true eb (inr k) on = on k
    go true ea false eb (inl e) on = inl e
    go true ea false eb (inr k) on = inr (on k)
    go false ea b eb (inl e) on = inl e
    go false ea b eb (inr k) on = inr (on k)

stays_copied : (old new : Known) (key : Option ℕ) (parent : ℕ) (d : Side) (copy : ℕ) → Becomes old new (copied old.view key parent (link_field d) copy) → ChangesOnly old new key (λ q f. (q ≡ parent) × (f ≡ link_field d))
stays_copied old new key parent d copy e = record {
  is = e ∙ ap (λ (k : Known). stayed old k.view) (sym e);
  copies = λ z. ap (λ (k : Known). k.view.fresh.copies) e ∙ ap (copies_for old.view.fresh.copies) z;
  knows = λ q g y ne h. subst (λ (k : Known). IsKnown k.view.words.knows q g y) (sym e) (inr (forgotten_else old.view.words.knows parent (link_field d) q g y ne h));
  reached = λ r. omega (arith, ap (λ (k : Known). times r k.view.trail.reached) e);
  present = λ x h. subst (λ (k : Known). Among x k.view.words.present) (sym e) h;
  lasting = λ q g y h. subst (λ (k : Known). IsKnown k.view.words.lasting q g y) (sym e) h;
  refused = grows_same old.view.words.refused new.view.words.refused (ap (λ (k : Known). k.view.words.refused) e);
}

-- the child is of this epoch
pub owns_own : (rows : ℕ) (old new : Known) (key : Option ℕ) (at : Wanted) (child birth : ℕ) → Looks rows old new key at child birth → at.epoch ≤ birth → OwnsAt rows old new key at child
owns_own rows old new key at child birth l from = let s = l.stays in record {
  owns = inl (is_own rows old new key at child birth l from);
  stays = record { is = s.is; copies = s.copies; knows = λ q f x ne h. s.knows q f x (λ z. z) h; reached = s.reached; present = s.present; lasting = s.lasting; refused = s.refused };
  low = l.low;
  is_row = l.some_row;
  reached = l.reached;
}

-- a copy took its place
pub owns_copy : (rows : ℕ) (old a b c new : Known) (key : Option ℕ) (at : Wanted) (child birth copy : ℕ) → old.view.rows ≡ rows → Looks rows old a key at child birth → birth < at.epoch → HasDrawn rows a b copy → Fills b c child copy → Becomes c new (copied c.view key at.parent (link_field at.side) copy) → OwnsAt rows old new key at copy
owns_copy rows old a b c new key at child birth copy size l less drawn f e =
    let w : View = drew (all_noted a.view (notes_of drawn.0)) copy in
    let s1 = stays_by a b key w drawn.3 refl (drew_keeps a.view (notes_of drawn.0) copy) in
    let s2 = stays_of b c key (f.is ∙ ap (λ (k : Known). stayed b k.view) (sym f.is)) f.keeps in
    let link : ℕ → Field → Type 0 = λ (q : ℕ) (g : Field). (q ≡ at.parent) × (g ≡ link_field at.side) in
    let is = is_copied rows old a b c new key at child birth copy size l less drawn f e in record {
      owns = inr is;
      stays = stays_on old a new key link l.stays (stays_on a b new key link s1 (stays_on b c new key link s2 (stays_copied c new key at.parent at.side copy e)));
      low = drawn.2.1;
      is_row = λ z. omega (arith, drawn.2.0, z);
      reached = is.reached;
    }

-- every row was handed out
pub lacks_at : (rows found : ℕ) (old mid new : Known) (key : Option ℕ) (at : Wanted) (child birth : ℕ) → Looks rows old mid key at child birth → birth < at.epoch → found ≡ rows → FoundFull rows mid new → LacksAt rows old new key at found
lacks_at rows found old mid new key at child birth l less all full = record {
  all = all;
  lacks = lacks rows old mid new key at child birth l less full;
  stays = stays_on old mid new key NoWord l.stays (stays_by mid new key (all_noted mid.view (notes_of (full.0 ++ rows ∷ []))) full.2 refl (noted_keeps mid.view (notes_of (full.0 ++ rows ∷ []))));
}
