-- A kit to which every worker's was admitted speaks for all numbers, and what each worker did fits the closed tables.
use Rattle.snap_prelude.proofs.Common.{dite, one_same, ℕ_discrete}
use Rattle.std.proofs.Common.{◌≡◌, ◌<◌, ◌+◌, ℕ, List, [], ◌∷◌, ◌++◌, length, ap, sym, subst, ◌∙◌, arith, map, slice_index_or}
use Rattle.snap_fits.specs.Fits.{Front, Setting, Told, WorkerFits}
use Rattle.snap_prelude.specs.{admitted_of, Command, Ended, Known, numbers, numbers_of, own_number, Pairs, Reply, times}
use Rattle.snap_service.specs.Prelude.{Admits, AdmitsAll, AreSeated, AreTables, FitsAll}
use Rattle.snap_service.specs.Prelude.{fronts_of, IsUncut, pass_at, setting, Tables}
use Rattle.snap_service.proofs.Covered.{listed_number}
use Rattle.snap_crew.specs.Prelude.{Answered, AreOf, AreOfWorker, FitsIf, fulls_with, HasFit, lines_with, table_files}
use Rattle.snap_crew.proofs.Replying.{fulls_told, lines_told}

pub all_speak : (tables : Tables) (own : List Known) (receipts : List (List Known)) → AreTables tables → AreSeated tables own → IsUncut tables own → tables.kits ≡ length receipts + 1
    → ((i : ℕ) (d : List Known) → i < length receipts → AreSeated tables (slice_index_or receipts i d)) → ((i : ℕ) (d : List Known) → i < length receipts → AreOfWorker i (slice_index_or receipts i d))
    → ((i : ℕ) (d : List Known) → i < length receipts → Admits own (slice_index_or receipts i d)) → AdmitsAll own
all_speak tables own receipts ok seated uncut kits theirs numbered admits t l i low =
    let v = (pass_at own t).view in
    let lt : t < length tables.laid = omega (arith, l, seated.a_pass_each) in
    let sit = seated.each t lt in
    let passes : v.passes ≡ tables.kits = sit.of.2 ∙ ok.passes_are t lt in
    let all : numbers v ≡ v.who ∷ numbers_of v.admitted = ap (λ r. own_number r v.who ++ numbers_of v.admitted) sit.passing in
    dite (ℕ_discrete i v.who)
    (λ e. omega (arith, ap (times i) all, one_same i v.who e))
    (λ n.
    let li : i < length receipts = omega (arith, low, passes, kits, uncut.last t l, n) in
    let s = theirs i [] li in
    let lr : t < length (slice_index_or receipts i []) = omega (arith, lt, s.a_pass_each) in
    let a = admits i [] li t lr in
    let w = admitted_of (pass_at (slice_index_or receipts i []) t).view in
    let some = listed_number w v.admitted a.listed in
    let e : w.who ≡ i = numbered i [] li t lr in
    omega (arith, ap (times i) all, subst (λ (k : ℕ). 0 < times k (numbers_of v.admitted)) e some))

-- commands that fit, with the answers to them
pub fit_told : (s : Setting) (fronts : ℕ → Front) (w : ℕ) (cs : List Command) (rs : List Reply) (es : List (List ℕ × Pairs)) (answers : Answered) → WorkerFits s fronts w cs rs es → AreOf cs rs es answers → HasFit s fronts w cs answers
fit_told s fronts w cs rs es answers fit a = let trace = fit.trace in record {
  told = fit.told;
  ran = trace.of_commands;
  fits = fit.fits;
  answered = record {
    lines = a.lines ∙ sym (ap (λ (xs : List Command). lines_with xs rs) trace.of_commands) ∙ sym (ap (λ (xs : List Reply). lines_with (map (λ (t : Told). t.command) fit.told) xs) trace.of_replies) ∙ lines_told fit.told;
    files = a.files ∙ ap table_files (sym fit.exported);
    full = a.full ∙ sym (ap fulls_with trace.of_replies) ∙ fulls_told fit.told;
  };
}

pub fits_if : (tables : Tables) (own : List Known) (fronts : List Ended) (w : ℕ) (passes : List Known) → FitsAll tables own fronts → AreSeated tables passes → Admits own passes → FitsIf tables w passes fronts
fits_if tables own fronts w passes all seated admits loads cs first answers same h =
    let r = h.ran in
    fit_told (setting tables loads) (fronts_of fronts) w cs r.replies r.exports answers
    (all loads w h.state cs r.replies r.exports (h.on ∙ same) (subst (AreSeated tables) h.left seated) r.served (subst (λ (ps : List Known). Admits own ps) h.left admits))
    r.answered
