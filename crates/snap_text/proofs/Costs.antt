-- How many bytes of a text its records take: a field takes its own bytes, and one more for the comma or the line's end
-- after it, which the last field of the text may lack.
use Rattle.std.proofs.Common.{◌≡◌, ◌≤◌, ◌+◌, ◌-◌, ◌++◌, ◌∙◌, ◌⊎◌, ℕ, zero, suc, List, [], ◌∷◌, Bool, true, false, cond, Some, None, length, sym, ap, refl, inl, inr, arith, length-append}
use Rattle.std.proofs.lemmas.List.{append-nil}
use Rattle.csv.specs.Machine.{Read, ends_at_end, field_after, fields_after, is_end, next_record, step}
use Rattle.csv.specs.Reading.{Reached, records, records_from}
use Rattle.csv.specs.declared.parser.Action.{Action}
use Rattle.csv.specs.declared.parser.Action.TheVariants as act
use Rattle.csv.specs.declared.parser.Config.{Config}
use Rattle.csv.specs.declared.parser.State.{State}
use Rattle.csv.specs.declared.parser.State.TheVariants as st
use Rattle.snap_text.specs.Loads.{Fields}

-- the bytes that fields take, with those after them
abbrev pub size : Fields → ℕ
size [] = 0
size (field ∷ fields) = length field + 1 + size fields

abbrev pub sizes : List Fields → ℕ
sizes [] = 0
sizes (fields ∷ rows) = size fields + sizes rows

size-push : (fields : Fields) (field : List ℕ) → size (fields ++ field ∷ []) ≡ size fields + length field + 1
size-push [] field = omega arith
size-push (f ∷ fields) field = omega (arith, size-push fields field)

pub sizes-push : (rows : List Fields) (fields : Fields) → sizes (rows ++ fields ∷ []) ≡ sizes rows + size fields
sizes-push [] fields = omega arith
sizes-push (r ∷ rows) fields = omega (arith, sizes-push rows fields)

-- a record was paid for by so many bytes, and leaves the others; the last one may owe one byte
record IsPaid (bytes : ℕ) (r : Read) : Type 0 where
  some : 1 ≤ size r.0
  paid : (size r.0 + length r.2 ≤ bytes) ⊎ ((r.1 ≡ st.StartRecord) × (r.2 ≡ []) × (size r.0 ≤ bytes + 1))

paid_by_more : (few bytes : ℕ) (r : Read) → few ≤ bytes → IsPaid few r → IsPaid bytes r
paid_by_more few bytes r le h = record {
  some = h.some;
  paid = elim h.paid [ inl cost ↦ inl (omega (arith, cost)) | inr last ↦ inr (last.0, last.1, omega (arith, last.2)) ];
}

same_read : (a b : Read) → Some a ≡ Some b → b ≡ a
same_read a b e = cc e

-- a record that was read from the fields and the field at hand, and the bytes from there
pays : (cfg : Config) (s : State) (fields : Fields) (field : List ℕ) (xs : List ℕ) (r : Read) → next_record cfg s fields field xs ≡ Some r
    → IsPaid (size fields + length field + length xs) r
unfolding next_record
pays cfg s fields field [] r e = at_end (ends_at_end s) e
  where
    at_end : (b : Bool) → cond b (Some (fields ++ field ∷ [], st.StartRecord, [])) None ≡ Some r → IsPaid (size fields + length field + 0) r
    at_end true e = rw (same_read _ r e) (record { some = omega (arith, size-push fields field); paid = inr (refl, refl, omega (arith, size-push fields field)) })
    at_end false e = absurd (cc e)
pays cfg s fields field (c ∷ rest) r e =
    by_action (step cfg s c).1 e (λ fields' field' e'. pays cfg (step cfg s c).0 fields' field' rest r e')
  where
    by_action : (a : Action)
        → cond (is_end a) (Some (fields_after a fields field, (step cfg s c).0, rest)) (next_record cfg (step cfg s c).0 (fields_after a fields field) (field_after a c field) rest) ≡ Some r
        → ((fields' : Fields) (field' : List ℕ) → next_record cfg (step cfg s c).0 fields' field' rest ≡ Some r → IsPaid (size fields' + length field' + length rest) r)
        → IsPaid (size fields + length field + suc (length rest)) r
    by_action act.EndRecord e more =
        rw (same_read _ r e) (record { some = omega (arith, size-push fields field); paid = inl (omega (arith, size-push fields field)) })
    by_action act.Skip e more = paid_by_more _ _ r (omega arith) (more fields field e)
    by_action act.Copy e more = paid_by_more _ _ r (omega (arith, length-append field (c ∷ []))) (more fields (field ++ c ∷ []) e)
    by_action act.EndField e more = paid_by_more _ _ r (omega (arith, size-push fields field)) (more (fields ++ field ∷ []) [] e)

-- the records of a text up to a place
pub record ArePaid (bytes : ℕ) (rows : List Fields) (s : State) (ys : List ℕ) : Type 0 where
  pub some : length rows ≤ sizes rows
  pub paid : (sizes rows + length ys ≤ bytes) ⊎ ((s ≡ st.StartRecord) × (ys ≡ []) × (sizes rows ≤ bytes + 1))

-- nothing is read from the end
no_more : (cfg : Config) (r : Read) (rows : List Fields) (s2 : State) (ys : List ℕ) → r.1 ≡ st.StartRecord → r.2 ≡ [] → Reached cfg r.1 r.2 rows s2 ys
    → (rows ≡ []) × (s2 ≡ st.StartRecord) × (ys ≡ [])
unfolding Reached next_record
no_more cfg r [] s2 ys start end h = (refl, sym h.0 ∙ start, sym h.1 ∙ end)
no_more cfg r (row ∷ rows) s2 ys start end h = let none = rw (start, end) at h.1 in absurd (cc none)

pub all_pay : (cfg : Config) (s : State) (xs : List ℕ) (rows : List Fields) (s2 : State) (ys : List ℕ) → Reached cfg s xs rows s2 ys → ArePaid (length xs) rows s2 ys
unfolding Reached
all_pay cfg s xs [] s2 ys h = record { some = omega arith; paid = inl (omega (arith, ap length h.1)) }
all_pay cfg s xs (row ∷ rows) s2 ys h =
    let (r, read, is, more) = h in
    joined r (ap size is) more (pays cfg s [] [] xs r read) (all_pay cfg r.1 r.2 rows s2 ys more)
  where
    joined : (r : Read) → size row ≡ size r.0 → Reached cfg r.1 r.2 rows s2 ys → IsPaid (0 + 0 + length xs) r → ArePaid (length r.2) rows s2 ys → ArePaid (length xs) (row ∷ rows) s2 ys
    joined r is more first others = record {
      some = omega (arith, first.some, others.some, is);
      paid = elim first.paid [
        | inl cost ↦ elim others.paid [
          | inl rest ↦ inl (omega (arith, cost, rest, is))
          | inr last ↦ inr (last.0, last.1, omega (arith, cost, last.2, is))
        ]
        | inr end ↦
            let none = no_more cfg r rows s2 ys end.0 end.1 more in
            let no_rows : sizes rows ≡ 0 = ap sizes none.0 in
            inr (none.1, none.2, omega (arith, end.2, no_rows, is))
      ];
    }

-- the records of a text after those up to a place
records_after : (cfg : Config) (rows : List Fields) (n k : ℕ) (s : State) (xs : List ℕ) (s2 : State) (ys : List ℕ) → length rows + k ≡ n → Reached cfg s xs rows s2 ys
    → records_from cfg n s xs ≡ rows ++ records_from cfg k s2 ys
unfolding Reached records_from
records_after cfg [] n k s xs s2 ys turns h =
    let same : n ≡ k = omega (arith, turns) in
    rw (same, h.0, h.1) refl
records_after cfg (row ∷ rows) zero k s xs s2 ys turns h = absurd (omega (arith, turns))
records_after cfg (row ∷ rows) (suc n) k s xs s2 ys turns h =
    let (r, read, is, more) = h in
    rw (read, is) (ap (λ (below : List Fields). r.0 ∷ below) (records_after cfg rows n k r.1 r.2 s2 ys (omega (arith, turns)) more))

no_record : (cfg : Config) (k : ℕ) (s : State) (ys : List ℕ) → next_record cfg s [] [] ys ≡ None → records_from cfg k s ys ≡ []
unfolding records_from
no_record cfg zero s ys end = refl
no_record cfg (suc k) s ys end = rw end refl

-- the records of a text begin with those up to a place
pub record Begin (rows all : List Fields) : Type 0 where
  pub others : List Fields
  pub is : all ≡ rows ++ others

pub first_records : (cfg : Config) (text : List ℕ) (rows : List Fields) (s : State) (ys : List ℕ) → Reached cfg st.StartRecord text rows s ys → Begin rows (records cfg text)
first_records cfg text rows s ys h =
    let paid = all_pay cfg st.StartRecord text rows s ys h in
    let few : length rows ≤ length text + 1 = elim paid.paid [ inl cost ↦ omega (arith, cost, paid.some) | inr last ↦ omega (arith, last.2, paid.some) ] in
    let turns : length rows + (length text + 1 - length rows) ≡ length text + 1 = omega (arith, few) in
    record { others = records_from cfg (length text + 1 - length rows) s ys; is = records_after cfg rows (length text + 1) (length text + 1 - length rows) st.StartRecord text s ys turns h }

-- and are these where no further one is read
pub all_records : (cfg : Config) (text : List ℕ) (rows : List Fields) (s : State) (ys : List ℕ) → Reached cfg st.StartRecord text rows s ys → next_record cfg s [] [] ys ≡ None
    → records cfg text ≡ rows
all_records cfg text rows s ys h end =
    let paid = all_pay cfg st.StartRecord text rows s ys h in
    let few : length rows ≤ length text + 1 = elim paid.paid [ inl cost ↦ omega (arith, cost, paid.some) | inr last ↦ omega (arith, last.2, paid.some) ] in
    let turns : length rows + (length text + 1 - length rows) ≡ length text + 1 = omega (arith, few) in
    let none = no_record cfg (length text + 1 - length rows) s ys end in
    records_after cfg rows (length text + 1) (length text + 1 - length rows) st.StartRecord text s ys turns h ∙ rw (none, append-nil rows) refl
