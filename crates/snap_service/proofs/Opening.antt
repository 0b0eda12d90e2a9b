-- New tables and the kits of their passes.
use Rattle.std.proofs.Common.{zero, suc, ◌≡◌, ◌<◌, ◌+◌, ℕ, List, [], ◌∷◌, ◌++◌, length, get_or, refl, ap, sym, ◌∙◌, subst, arith, length-append, All, replicate, slice_index_or}
use Rattle.snap_prelude.proofs.Common.{dite, get_or-map, length-map, map-append, ℕ_discrete}
use Rattle.atomic_table.specs.Seated.{TableId}
use Rattle.snap_prelude.specs.{first_passes, IsOpened, Known, Laid, newcomer}
use Rattle.snap_service.specs.Prelude.{AreDealt, AreNewKits, AreSeated, IsSeated, new_kit}
use Rattle.snap_service.specs.Prelude.{new_pass, nobody, nowhere, pass_at, table_at, Tables}

pub first_many : (table : TableId) (rows passes n : ℕ) → length (first_passes table rows passes n) ≡ n
first_many table rows passes zero = refl
first_many table rows passes (suc n) = omega (arith, length-append (first_passes table rows passes n) (record { table = table; view = newcomer rows passes n } ∷ []), first_many table rows passes n)

get_front : {X : Type 0} (xs ys : List X) (i : ℕ) (d : X) → i < length xs → get_or (xs ++ ys) i d ≡ get_or xs i d
get_front [] ys i d l = absurd (omega (arith, l))
get_front (x ∷ xs) ys zero d l = refl
get_front (x ∷ xs) ys (suc i) d l = get_front xs ys i d (omega (arith, l))

get_end : {X : Type 0} (xs : List X) (x d : X) → get_or (xs ++ x ∷ []) (length xs) d ≡ x
get_end [] x d = refl
get_end (y ∷ xs) x d = get_end xs x d

pub first_at : (table : TableId) (rows passes n i : ℕ) → i < n → pass_at (first_passes table rows passes n) i ≡ (let k : Known = record { table = table; view = newcomer rows passes i } in k)
first_at table rows passes zero i l = absurd (omega (arith, l))
first_at table rows passes (suc n) i l =
    let last : Known = record { table = table; view = newcomer rows passes n } in
    let all = first_passes table rows passes n in let many = first_many table rows passes n in
    dite (ℕ_discrete i n)
    (λ e. ap (λ (k : ℕ). get_or (all ++ last ∷ []) k nobody) (e ∙ sym many) ∙ get_end all last nobody ∙ ap (λ (k : ℕ). let p : Known = record { table = table; view = newcomer rows passes k } in p) (sym e))
    (λ ne. get_front all (last ∷ []) i nobody (omega (arith, many, l, ne)) ∙ first_at table rows passes n i (omega (arith, l, ne)))

pub kit_more : (laid : List Laid) (table : Laid) (passes : List Known) (rows kits i : ℕ) → IsOpened table passes rows kits → i < kits → new_kit laid i ++ pass_at passes i ∷ [] ≡ new_kit (laid ++ table ∷ []) i
kit_more laid table passes rows kits i o l =
    ap (λ (p : Known). new_kit laid i ++ p ∷ [])
    (ap (λ (ps : List Known). pass_at ps i) o.all ∙ first_at table.table rows kits kits i l ∙ ap (λ (r : ℕ). let p : Known = record { table = table.table; view = newcomer r kits i } in p) (sym o.rows_are) ∙ ap (λ (n : ℕ). let p : Known = record { table = table.table; view = newcomer table.rows n i } in p) (sym o.passes_are))
    ∙ sym (map-append (new_pass i) laid (table ∷ []))

-- the tables and kits so far
pub record IsFar (kits : List (List Known)) (laid : List Laid) (rows count n : ℕ) : Type 0 where
  pub many : length kits ≡ count
  pub each : (i : ℕ) (d : List Known) → i < count → slice_index_or kits i d ≡ new_kit laid i
  pub tables : length laid ≡ n
  pub rows_are : (t : ℕ) → t < length laid → (slice_index_or laid t nowhere).rows ≡ rows
  pub passes_are : (t : ℕ) → t < length laid → (slice_index_or laid t nowhere).passes ≡ count

none_kits : (count i : ℕ) (d : List Known) → i < count → slice_index_or (replicate count []) i d ≡ []
none_kits zero i d l = absurd (omega (arith, l))
none_kits (suc n) zero d l = refl
none_kits (suc n) (suc i) d l = none_kits n i d (omega (arith, l))

many_kits : (X : Type 0) (count : ℕ) (x : X) → length (replicate count x) ≡ count
many_kits X zero x = refl
many_kits X (suc n) x = ap suc (many_kits X n x) ∙ omega arith

pub none_far : (kits : List (List Known)) (laid : List Laid) (rows count : ℕ) → kits ≡ replicate count [] → laid ≡ [] → IsFar kits laid rows count 0
none_far kits laid rows count e f = record {
  many = ap length e ∙ many_kits (List Known) count [];
  each = λ i d l. ap (λ (ks : List (List Known)). slice_index_or ks i d) e ∙ none_kits count i d l ∙ sym (ap (λ (ls : List Laid). new_kit ls i) f);
  tables = ap length f;
  rows_are = λ t l. absurd (omega (arith, l, ap length f));
  passes_are = λ t l. absurd (omega (arith, l, ap length f));
}

pub more_far : (kits more : List (List Known)) (laid laid' : List Laid) (table : Laid) (passes : List Known) (rows count n : ℕ) → IsFar kits laid rows count n → IsOpened table passes rows count → AreDealt kits passes more → laid' ≡ laid ++ table ∷ [] → IsFar more laid' rows count (n + 1)
more_far kits more laid laid' table passes rows count n h o dealt e = subst (λ (ls : List Laid). IsFar more ls rows count (n + 1)) (sym e) (record {
  many = dealt.many ∙ h.many;
  each = λ i d l. dealt.each i d (omega (arith, l, h.many)) ∙ ap (λ (k : List Known). k ++ pass_at passes i ∷ []) (h.each i d l) ∙ kit_more laid table passes rows count i o l;
  tables = omega (arith, length-append laid (table ∷ []), h.tables);
  rows_are = λ t l. dite (ℕ_discrete t (length laid))
      (λ q. ap (λ (k : ℕ). (slice_index_or (laid ++ table ∷ []) k nowhere).rows) q ∙ ap (λ (x : Laid). x.rows) (get_end laid table nowhere) ∙ o.rows_are)
      (λ ne. ap (λ (x : Laid). x.rows) (get_front laid (table ∷ []) t nowhere (omega (arith, l, ne, length-append laid (table ∷ [])))) ∙ h.rows_are t (omega (arith, l, ne, length-append laid (table ∷ []))));
  passes_are = λ t l. dite (ℕ_discrete t (length laid))
      (λ q. ap (λ (k : ℕ). (slice_index_or (laid ++ table ∷ []) k nowhere).passes) q ∙ ap (λ (x : Laid). x.passes) (get_end laid table nowhere) ∙ o.passes_are)
      (λ ne. ap (λ (x : Laid). x.passes) (get_front laid (table ∷ []) t nowhere (omega (arith, l, ne, length-append laid (table ∷ [])))) ∙ h.passes_are t (omega (arith, l, ne, length-append laid (table ∷ []))));
})

new_seat : (w : ℕ) (rows : Laid) → IsSeated rows (new_pass w rows)
new_seat w rows = record { of = (refl, refl, refl); idle = record { idle = refl; free = refl; whole = refl }; passing = refl }

-- a new kit is one of its tables
pub new_seated : (tables : Tables) (w : ℕ) → AreSeated tables (new_kit tables.laid w)
new_seated tables w = record {
  a_pass_each = length-map tables.laid (new_pass w);
  each = λ t l. subst (IsSeated (table_at tables t)) (sym (get_or-map (new_pass w) tables.laid t nowhere nobody l)) (new_seat w (table_at tables t));
}

pub all_seated : (tables : Tables) (kits : List (List Known)) (count : ℕ) → AreNewKits tables.laid kits count → All (AreSeated tables) kits
all_seated tables kits count new i d l = subst (AreSeated tables) (sym (new.each i d (omega (arith, l, new.many)))) (new_seated tables i)

module _ (tables : Tables) (w : ℕ) (t : ℕ) (l : t < length (new_kit tables.laid w)) where
  pub new_at : pass_at (new_kit tables.laid w) t ≡ new_pass w (table_at tables t)
  new_at = get_or-map (new_pass w) tables.laid t nowhere nobody (omega (arith, l, length-map tables.laid (new_pass w)))
