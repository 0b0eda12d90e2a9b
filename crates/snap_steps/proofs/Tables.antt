-- The rule's part on tables, and what an evolving table leaves true.
use Rattle.snap_rule.proofs.Debts.Silent.{header_silent, lock_silent, own_silent}
use Rattle.snap_rule.specs.Debt.Step.{IsSilent}
use Rattle.snap_rule.proofs.Debts.Heights.{held_words}
use Rattle.snap_rule.specs.Heights.{KeepsHeights}
use Rattle.std.proofs.Common.{inl, inr, ℕ, ◌<◌, List, [], ◌∷◌, arith, ◌≡◌, ◌∙◌, ◌≢◌, refl, ap, sym, subst, ◌%◌}
use lib.ListN.{get_elem?}
use mathlib.Core.Logic.{dite}
use mathlib.Core.Option.{some}
use native.Mathlib.Decide.{ℕ_discrete}
use Rattle.snap_model.specs.History.{Begins}
use Rattle.snap_model.specs.declared.call.Entry.{Entry}
use Rattle.snap_rule.proofs.InChange.{doing_kept}
use Rattle.snap_rule.proofs.Readers.Kept.{point_kept}
use Rattle.snap_rule.proofs.LeftAlone.{header_apart, lock_apart, own_apart}
use Rattle.snap_rule.proofs.Parts.Present.{live_known}
use Rattle.snap_rule.proofs.Evolving.Silent.{header_evolves, lock_evolves, own_evolves}
use Rattle.snap_rule.proofs.Table.{header_keeps, lock_keeps, own_keeps}
use Rattle.snap_rule.proofs.Updates.{changed_same, changed_other}
use Rattle.snap_rule.specs.Doing.{Apart, Concerns, DoingOk}
use Rattle.snap_rule.specs.Evolves.{Evolves}
use Rattle.snap_rule.specs.Rule.{TableOk, IsLive}
use Rattle.snap_rule.specs.State.{In, State as Table, Beside}
use Rattle.snap_rule.specs.Views.{ReadingOk}
use Rattle.snap_rule.specs.declared.change.Doing.{Doing}
use Rattle.snap_rule.specs.declared.change.Doing.TheVariants.{Nothing, Unlinked, Shrunk, Lowered, Lifted, Turned}
use Rattle.snap_rule.specs.declared.reader.Reading.{Reading}
use Rattle.snap_rule.specs.declared.reader.Reading.TheVariants.{Resting, On}
use Rattle.snap_stamp.specs.Sides.{other}
use Rattle.snap_stamp.specs.Stamps.{IsUnlinked}
use Rattle.snap_stamp.specs.declared.layout.Field.{Field}
use Rattle.snap_stamp.specs.declared.layout.Field.TheVariants.{Left, Right, Lock, Key, Birth, Stamp, Height, Value}
use Rattle.snap_stamp.specs.declared.side.Side.{Side}
use Rattle.snap_steps.specs.Counting.{times}
use Rattle.snap_steps.proofs.Totals.{one_same, one_other}
use Rattle.snap_steps.specs.Rule.Epochs.{AllAre}
use Rattle.snap_steps.specs.declared.view.View.{View}
use Rattle.snap_steps.specs.Each.{Each}
use Rattle.snap_steps.specs.Rule.History.{IsIn}
use Rattle.snap_steps.specs.Rule.Ways.{IsOnWay}
use Rattle.snap_steps.specs.Rule.Changes.{at_link, changing}
use Rattle.snap_steps.specs.Memory.{row, Memory}
use Rattle.snap_steps.specs.States.{state_of, with_word}
use Rattle.snap_steps.proofs.Cells.{changed}
use Rattle.snap_steps.proofs.States.{sets}
use Rattle.snap_stamp.specs.declared.side.Side.TheVariants as sides
use Rattle.snap_rule.specs.Kinds.Words as word_kinds
use Rattle.snap_rule.specs.Updates as updates

pub in_times : (r : ℕ) (l : List ℕ) → In r l → 0 < times r l
in_times r [] h = absurd h
in_times r (x ∷ xs) (inl e) = omega (arith, one_same r x e)
in_times r (x ∷ xs) (inr h) = omega (arith, in_times r xs h)

pub times_in : (r : ℕ) (l : List ℕ) → 0 < times r l → In r l
times_in r [] h = absurd (omega arith)
times_in r (x ∷ xs) h = dite (ℕ_discrete r x) (λ e. inl e) (λ ne. inr (times_in r xs (omega (arith, one_other r x ne))))

pub all_are : (e x : ℕ) (l : List ℕ) → AllAre e l → 0 < times x l → x ≡ e
all_are e x [] h l = absurd (omega arith)
all_are e x (y ∷ ys) h l = dite (ℕ_discrete x y) (λ q. q ∙ h.0) (λ ne. all_are e x ys h.1 (omega (arith, one_other x y ne)))

-- the law for one way, and for those of all views
pub reading_evolves : (s s' : Table) → Evolves s s' → (seen : List Entry) (r : Reading) → Begins seen s.history → ReadingOk s seen r → ReadingOk s' seen r
reading_evolves s s' ev seen Resting b h = tt
reading_evolves s s' ev seen (On k t) b h = point_kept s s' ev seen k t b h

pub ways_evolve : (s s' : Table) (views : List View) → Evolves s s' → Each (IsIn s.history) views → Each (IsOnWay s) views → Each (IsOnWay s') views
ways_evolve s s' views ev seen ways j u at = reading_evolves s s' ev u.seen u.way.reads (seen j u at).0 (ways j u at)

-- a step evolves the table, keeps its rule, and leaves these rows alone
abbrev pub Moves : Table → Table → (ℕ → Type 0) → Type 0
Moves s s' away = Evolves s s' × TableOk s' × ((n : ℕ) → away n → Apart s s' n)

abbrev pub Anywhere : ℕ → Type 0
Anywhere n = Unit {0}

-- the changes that passes are in
pub doings_stay : (s s' : Table) (views : List View) → Each (λ v. DoingOk s v.doing) views → ((j : ℕ) (u : View) → get_elem? views j ≡ some u → (n : ℕ) → Concerns u.doing n → Apart s s' n) → Each (λ v. DoingOk s' v.doing) views
doings_stay s s' views h apart j u there = doing_kept s s' u.doing (apart j u there) (h j u there)

link_apart : (n m : ℕ) (d e : Side) → n ≢ m → at_link n d m e ≡ 0
link_apart n m sides.Left sides.Left ne = one_other n m ne
link_apart n m sides.Left sides.Right ne = refl
link_apart n m sides.Right sides.Left ne = refl
link_apart n m sides.Right sides.Right ne = one_other n m ne

-- who doesn't hold a row has put no word into its links
pub none_changing : (g : Doing) (holds : List ℕ) (n : ℕ) (d : Side) → ((m : ℕ) → Concerns g m → 0 < times m holds) → times n holds ≡ 0 → changing n d g ≡ 0
none_changing Nothing holds n d h none = refl
none_changing (Unlinked p e row only) holds n d h none = link_apart n p d e (λ q. omega (arith, none, h p refl, ap (λ (y : ℕ). times y holds) q))
none_changing (Shrunk p q row e raised) holds n d h none = refl
none_changing (Lowered p q row e raised) holds n d h none = link_apart n row d e (λ q. omega (arith, none, h row (inr (inl refl)), ap (λ (y : ℕ). times y holds) q))
none_changing (Lifted p q row e raised) holds n d h none =
    omega (arith, link_apart n row d e (λ q. omega (arith, none, h row (inr (inl refl)), ap (λ (y : ℕ). times y holds) q)), link_apart n raised d (other e) (λ q. omega (arith, none, h raised (inr (inr refl)), ap (λ (y : ℕ). times y holds) q)))
none_changing (Turned row) holds n d h none = refl

-- the header's words on writes
pub header_moves : (m m' : Memory) (g : Beside) (w : ℕ) → m'.rows ≡ m.rows → m'.epoch ≡ m.epoch → word_kinds.MayCount (state_of m g) m'.gate m'.left w → TableOk (state_of m g) → Moves (state_of m g) (state_of m' (record g { writers = w })) Anywhere
header_moves m m' g w rows epoch may ok =
    let s : Table = state_of m g in
    let path : word_kinds.header_stored s m'.gate m'.left w ≡ state_of m' (record g { writers = w }) = λ i. state_of (record m' { rows = sym rows i; epoch = sym epoch i }) (record g { writers = w }) in
    subst (λ (x : Table). Moves s x Anywhere) path (header_evolves s m'.gate m'.left w may, header_keeps s ok m'.gate m'.left w may, λ n _. header_apart s n m'.gate m'.left w)

-- they are silent
pub header_still : (m m' : Memory) (g : Beside) (w : ℕ) → m'.rows ≡ m.rows → m'.epoch ≡ m.epoch → IsSilent (state_of m g) (state_of m' (record g { writers = w }))
header_still m m' g w rows epoch =
    let s : Table = state_of m g in
    let path : word_kinds.header_stored s m'.gate m'.left w ≡ state_of m' (record g { writers = w }) = λ i. state_of (record m' { rows = sym rows i; epoch = sym epoch i }) (record g { writers = w }) in
    subst (IsSilent s) path (header_silent s m'.gate m'.left w)

-- a lock word
pub lock_still : (m : Memory) (g : Beside) (r n : ℕ) → r < Rattle.std.proofs.Common.length m.rows → IsSilent (state_of m g) (state_of (record m { rows = changed m.rows r Lock n }) g)
lock_still m g r n near = let s : Table = state_of m g in subst (IsSilent s) (sym (sets m g r Lock n near)) (lock_silent s r n)

pub lock_moves : (m : Memory) (g : Beside) (r n : ℕ) → r < Rattle.std.proofs.Common.length m.rows → g.writers ≢ 0 → TableOk (state_of m g) → Moves (state_of m g) (state_of (record m { rows = changed m.rows r Lock n }) g) Anywhere
lock_moves m g r n near writing ok = let s : Table = state_of m g in subst (λ (x : Table). Moves s x Anywhere) (sym (sets m g r Lock n near)) (lock_evolves s r n writing, lock_keeps s ok r n, λ y _. lock_apart s y r n)

same_words : {A : Type 0} (f : ℕ → A) (r y : ℕ) → updates.changed f r (f r) y ≡ f y
same_words f r y = dite (ℕ_discrete y r) (λ e. ap (updates.changed f r (f r)) e ∙ changed_same f r (f r) ∙ ap f (sym e)) (λ ne. changed_other f r (f r) y ne)

-- a word of a row that isn't linked: such a step is silent, and leaves all heights below live rows
abbrev pub OwnMoves : Table → Table → ℕ → Type 0
OwnMoves s s' r = Moves s s' (λ n. n ≢ r) × IsSilent s s' × ((n : ℕ) → IsLive s n → KeepsHeights s s' n)

own_word : (s : Table) (r : ℕ) (f : Field) (x : ℕ) → f ≢ Lock → f ≢ Stamp → word_kinds.MayStoreOwn s r → TableOk s → OwnMoves s (with_word s r f x) r
own_word s r f x no_lock no_stamp may ok = go f no_lock no_stamp
  where
    at : (k b h v : ℕ) (l : Side → ℕ) → OwnMoves s (word_kinds.own_stored s r k b h v l) r
    at k b h v l = ((own_evolves s r k b h v l ok.tree may, own_keeps s ok r k b h v l may, λ n ne. own_apart s n r k b h v l ne), own_silent s r k b h v l ok may, λ n live. (held_words.2 s r k b h v l n ok may live.stands).2)

    go : (f : Field) → f ≢ Lock → f ≢ Stamp → OwnMoves s (with_word s r f x) r
    go Key a b = subst (λ (z : Table). OwnMoves s z r) (λ i. record s { key = updates.changed s.key r x; birth = λ y. same_words s.birth r y i; height = λ y. same_words s.height r y i; value = λ y. same_words s.value r y i; link = λ y. same_words s.link r y i }) (at x (s.birth r) (s.height r) (s.value r) (s.link r))
    go Birth a b = subst (λ (z : Table). OwnMoves s z r) (λ i. record s { key = λ y. same_words s.key r y i; birth = updates.changed s.birth r x; height = λ y. same_words s.height r y i; value = λ y. same_words s.value r y i; link = λ y. same_words s.link r y i }) (at (s.key r) x (s.height r) (s.value r) (s.link r))
    go Height a b = subst (λ (z : Table). OwnMoves s z r) (λ i. record s { key = λ y. same_words s.key r y i; birth = λ y. same_words s.birth r y i; height = updates.changed s.height r x; value = λ y. same_words s.value r y i; link = λ y. same_words s.link r y i }) (at (s.key r) (s.birth r) x (s.value r) (s.link r))
    go Value a b = subst (λ (z : Table). OwnMoves s z r) (λ i. record s { key = λ y. same_words s.key r y i; birth = λ y. same_words s.birth r y i; height = λ y. same_words s.height r y i; value = updates.changed s.value r x; link = λ y. same_words s.link r y i }) (at (s.key r) (s.birth r) (s.height r) x (s.link r))
    go Left a b = subst (λ (z : Table). OwnMoves s z r) (λ i. record s { key = λ y. same_words s.key r y i; birth = λ y. same_words s.birth r y i; height = λ y. same_words s.height r y i; value = λ y. same_words s.value r y i; link = updates.relink s.link r sides.Left x }) (at (s.key r) (s.birth r) (s.height r) (s.value r) (updates.on_side (s.link r) sides.Left x))
    go Right a b = subst (λ (z : Table). OwnMoves s z r) (λ i. record s { key = λ y. same_words s.key r y i; birth = λ y. same_words s.birth r y i; height = λ y. same_words s.height r y i; value = λ y. same_words s.value r y i; link = updates.relink s.link r sides.Right x }) (at (s.key r) (s.birth r) (s.height r) (s.value r) (updates.on_side (s.link r) sides.Right x))
    go Lock a b = absurd (a refl)
    go Stamp a b = absurd (b refl)

pub own_moves : (m : Memory) (g : Beside) (r : ℕ) (f : Field) (x : ℕ) → r < Rattle.std.proofs.Common.length m.rows → f ≢ Lock → f ≢ Stamp → word_kinds.MayStoreOwn (state_of m g) r → TableOk (state_of m g) → OwnMoves (state_of m g) (state_of (record m { rows = changed m.rows r f x }) g) r
own_moves m g r f x near a b may ok = let s : Table = state_of m g in subst (λ (z : Table). OwnMoves s z r) (sym (sets m g r f x near)) (own_word s r f x a b may ok)

-- what a write knows of a row makes it live
pub live_row : (s : Table) (r birth stamp : ℕ) → TableOk s → In r s.linked → s.birth r ≡ birth → birth ≡ s.epoch → s.stamp r ≡ stamp → stamp % 2 ≡ 0 → IsLive s r
live_row s r birth stamp ok is b e w u = live_known s ok.present r is (b ∙ e) (λ (x : IsUnlinked (s.stamp r)). omega (arith, w, u, x))
