-- What became of all files, and what a run leaves.
use Rattle.snap_prelude.proofs.Common.{option_or}
use Rattle.std.specs.Option.{option_map}
use Rattle.std.proofs.Common.{◌≡◌, ◌⊎◌, ◌≤◌, ℕ, List, [], ◌++◌, Option, Some, None, Result, Ok, Err, length, inl, inr, sym, ◌∙◌, ap, subst, append_assoc, IfErr, OnErr, OnOk, unwrap_or}
use Rattle.snap_io.specs.Prelude.{Changes, Files, Rose}
use Rattle.snap_write.specs.Outputs.{HasBegun, HasFront, HasWritten, IsUnwritten, Outputs, blank, names_of, text_for}
use Rattle.snap_write.specs.declared.unwritten.Unwritten.{Unwritten}
use Rattle.snap_write.specs.declared.unwritten.Unwritten.TheVariants as why
use Rattle.snap_write.proofs.Causes.{rose_before, rose_behind, unwritten_wider}
use Rattle.snap_desk.proofs.Told.{reply_names}
use Rattle.snap_write.proofs.Written.{begun_blank, begun_more, blank_for, changes_after, changes_as, text_for-append, names_of-append}
use Rattle.snap_crew.specs.Prelude.{Answered, answers_in, exports_in, IsAfter, IsWrittenOr, replies_in}
use Rattle.snap_run.specs.{Outcomes.Leaves, Reports.IsReported, Worlds.World}
use Rattle.snap_run.proofs.{Pairs.Differ, Results.stop_left, Results.stop_right, Writes.both_written}
use Rattle.snap_run.proofs.{Writes.first_begun, Writes.second_begun}

-- empty files that are then written, or begun, and more files behind them
written_over_more : (ys more : Outputs) (f g h : Files) → HasWritten (blank (names_of ys)) f g → HasWritten (ys ++ more) g h → HasWritten (ys ++ more) f h
written_over_more ys more f g h first next name =
    join (text_for ys name) (first name ∙ ap (λ o. option_or o (f name)) (blank_for ys name)) (next name ∙ ap (λ o. option_or o (g name)) (text_for-append ys more name)) ∙ sym (ap (λ o. option_or o (f name)) (text_for-append ys more name))
  where
    join : (o : Option (List ℕ)) → g name ≡ option_or (option_map (λ _. []) o) (f name) → h name ≡ option_or (option_or o (text_for more name)) (g name) → h name ≡ option_or (option_or o (text_for more name)) (f name)
    join None was is = is ∙ ap (λ x. option_or (text_for more name) x) was
    join (Some t) was is = is

begun_over_more : (ys more : Outputs) (f g h : Files) → HasWritten (blank (names_of ys)) f g → HasBegun (ys ++ more) g h → HasBegun (ys ++ more) f h
begun_over_more ys more f g h first next name =
    subst (λ o. (h name ≡ f name) ⊎ HasFront o (h name)) (sym (text_for-append ys more name))
    (join (text_for ys name) (first name ∙ ap (λ o. option_or o (f name)) (blank_for ys name)) (subst (λ o. (h name ≡ g name) ⊎ HasFront o (h name)) (text_for-append ys more name) (next name)))
  where
    join : (o : Option (List ℕ)) → g name ≡ option_or (option_map (λ _. []) o) (f name) → (h name ≡ g name) ⊎ HasFront (option_or o (text_for more name)) (h name) → (h name ≡ f name) ⊎ HasFront (option_or o (text_for more name)) (h name)
    join None was (inl same) = inl (same ∙ was)
    join (Some t) was (inl same) = inr (0, same ∙ was)
    join o was (inr front) = inr front

module _ (bs : List Answered) (rest : Outputs) where
  abbrev all : Option (List (List ℕ)) → Outputs
  all o = answers_in o bs ++ rest

  abbrev made_names : Option (List (List ℕ)) → List (List ℕ)
  made_names o = unwrap_or o []

  split : (names : List (List ℕ)) → all (Some names) ≡ replies_in names bs ++ (exports_in bs ++ rest)
  split names = append_assoc (replies_in names bs) (exports_in bs) rest

  over_written : (o : Option (List (List ℕ))) → length (made_names o) ≤ length bs → (f g h : Files) → HasWritten (blank (made_names o)) f g → HasWritten (all o) g h → HasWritten (all o) f h
  over_written None few f g h first next = λ name. next name ∙ ap (λ x. option_or (text_for rest name) x) (first name)
  over_written (Some names) few f g h first next =
      subst (λ os. HasWritten os f h) (sym (split names))
      (written_over_more (replies_in names bs) (exports_in bs ++ rest) f g h (subst (λ ns. HasWritten (blank ns) f g) (sym (reply_names names bs few)) first) (subst (λ os. HasWritten os g h) (split names) next))

  over_begun : (o : Option (List (List ℕ))) → length (made_names o) ≤ length bs → (f g h : Files) → HasWritten (blank (made_names o)) f g → HasBegun (all o) g h → HasBegun (all o) f h
  over_begun None few f g h first next = λ name. elim (next name) as (λ _. (h name ≡ f name) ⊎ HasFront (text_for rest name) (h name)) [ inl same ↦ inl (same ∙ first name) | inr front ↦ inr front ]
  over_begun (Some names) few f g h first next =
      subst (λ os. HasBegun os f h) (sym (split names))
      (begun_over_more (replies_in names bs) (exports_in bs ++ rest) f g h (subst (λ ns. HasWritten (blank ns) f g) (sym (reply_names names bs few)) first) (subst (λ os. HasBegun os g h) (split names) next))

  only_begun : (o : Option (List (List ℕ))) → length (made_names o) ≤ length bs → (f g : Files) → HasBegun (blank (made_names o)) f g → HasBegun (all o) f g
  only_begun None few f g begun = λ name. elim (begun name) as (λ _. (g name ≡ f name) ⊎ HasFront (text_for rest name) (g name)) [ inl same ↦ inl same | inr front ↦ absurd front ]
  only_begun (Some names) few f g begun =
      subst (λ os. HasBegun os f g) (sym (split names))
      (begun_more (replies_in names bs) (exports_in bs ++ rest) f g (begun_blank (replies_in names bs) f g (subst (λ ns. HasBegun (blank ns) f g) (sym (reply_names names bs few)) begun)))

  first_stop : (o : Option (List (List ℕ))) → length (made_names o) ≤ length bs → (fault wider : Type 0) (w : Unwritten) → (fault → wider) → IsUnwritten (made_names o) fault w → IsUnwritten (names_of (all o)) wider w
  first_stop None few fault wider w rises u = unwritten_wider [] (names_of rest) fault wider w (λ name is. absurd cc) rises u
  first_stop (Some names) few fault wider w rises u =
      subst (λ ns. IsUnwritten ns wider w) (sym (ap names_of (split names) ∙ names_of-append (replies_in names bs) (exports_in bs ++ rest) ∙ ap (λ ns. ns ++ names_of (exports_in bs ++ rest)) (reply_names names bs few)))
      (stop_left names (names_of (exports_in bs ++ rest)) fault wider w rises u)

  pub settled : (o : Option (List (List ℕ))) → length (made_names o) ≤ length bs → (made written : Result (Unit {0}) Unwritten) (old mid new : Option Files) (w0 w1 w2 : ℕ) → w0 ≤ w1 → w1 ≤ w2
      → OnOk made (Changes old mid (HasWritten (blank (made_names o)))) → OnErr made (Changes old mid (HasBegun (blank (made_names o)))) → IfErr made (IsUnwritten (made_names o) (Rose w0 w1))
      → IsAfter made written (all o) mid new (Rose w1 w2) → IsWrittenOr (all o) old new (Rose w0 w2) written
  settled o few (Ok u) (Ok v) old mid new w0 w1 w2 l m made begun stops after = changes_after (HasWritten (blank (made_names o))) (HasWritten (all o)) (HasWritten (all o)) (over_written o few) old mid new made after
  settled o few (Ok u) (Err w) old mid new w0 w1 w2 l m made begun stops after = (
    changes_after (HasWritten (blank (made_names o))) (HasBegun (all o)) (HasBegun (all o)) (over_begun o few) old mid new made after.0,
    unwritten_wider (names_of (all o)) (names_of (all o)) (Rose w1 w2) (Rose w0 w2) w (λ name is. is) (λ rose. rose_behind w0 w1 w2 l rose) after.1,
  )
  settled o few (Err w) written old mid new w0 w1 w2 l m made begun stops after =
      subst (λ r. IsWrittenOr (all o) old new (Rose w0 w2) r) (sym after.1) (
        subst (λ x. Changes old x (HasBegun (all o))) (sym after.0) (changes_as (HasBegun (blank (made_names o))) (HasBegun (all o)) (only_begun o few) old mid begun),
        first_stop o few (Rose w0 w1) (Rose w0 w2) w (λ rose. rose_before w0 w1 w2 m rose) stops,
      )

-- files, and then more where these were written
pub both_after : (xs ys : Outputs) → Differ (names_of (xs ++ ys)) → (made first last : Result (Unit {0}) Unwritten) (old mid new : Option Files) (w0 w1 w2 : ℕ) → w0 ≤ w1 → w1 ≤ w2
    → IsAfter made first xs old mid (Rose w0 w1) → IsAfter first last ys mid new (Rose w1 w2) → IsAfter made last (xs ++ ys) old new (Rose w0 w2)
both_after xs ys differ (Err w) first last old mid new w0 w1 w2 l m (same, is) next = stopped first is next
  where
    stopped : (r : Result (Unit {0}) Unwritten) → r ≡ Err w → IsAfter r last ys mid new (Rose w1 w2) → (new ≡ old) × (last ≡ Err w)
    stopped (Ok u) is next = absurd cc
    stopped (Err v) is (again, ended) = (again ∙ same, ended ∙ is)
both_after xs ys differ (Ok u) (Ok v) (Ok z) old mid new w0 w1 w2 l m written more = both_written xs ys differ old mid new written more
both_after xs ys differ (Ok u) (Ok v) (Err w) old mid new w0 w1 w2 l m written (begun, stops) = (
  second_begun xs ys differ old mid new written begun,
  subst (λ ns. IsUnwritten ns (Rose w0 w2) w) (sym (names_of-append xs ys)) (stop_right (names_of xs) (names_of ys) (Rose w1 w2) (Rose w0 w2) w (λ rose. rose_behind w0 w1 w2 l rose) stops),
)
both_after xs ys differ (Ok u) (Err w) last old mid new w0 w1 w2 l m (begun, stops) (same, is) =
    subst (λ r. IsWrittenOr (xs ++ ys) old new (Rose w0 w2) r) (sym is) (
      subst (λ x. Changes old x (HasBegun (xs ++ ys))) (sym same) (first_begun xs ys differ old mid begun),
      subst (λ ns. IsUnwritten ns (Rose w0 w2) w) (sym (names_of-append xs ys)) (stop_left (names_of xs) (names_of ys) (Rose w0 w1) (Rose w0 w2) w (λ rose. rose_before w0 w1 w2 m rose) stops),
    )

-- what is left outside
pub leaves : (files : Outputs) (text : List ℕ) (full status : ℕ) (old now : World) (written : Result (Unit {0}) Unwritten) → IsWrittenOr files old.files now.files (Rose old.writing now.writing) written
    → IsReported old.printed now.printed (Rose old.printing now.printing) text full written status → Leaves status full files text old now
leaves files text full status old now (Ok u) written told = elim told [
  | inl z ↦ inl (z.0, z.1, record { written = written; said = z.2 })
  | inr rest ↦ elim rest [
    | inl z ↦ inr (inl (z.0, z.1, record { written = written; said = z.2 }))
    | inr z ↦ inr (inr (z.0, inr (record { faulted = z.1; written = written; said = z.2 })))
  ]
]
leaves files text full status old now (Err (why.File name)) written told =
    inr (inr (told.0, inl (record { faulted = (let u = written.1 in u.1); begun = written.0; name = name; named = (let u = written.1 in u.0); said = told.1 })))
leaves files text full status old now (Err why.Memory) written told = absurd told
