-- The two functions on sizes at a call, and a constant that is given with its bound (`large_lit`). Assumes `Logic`.
use Rattle.std.proofs.Common.{◌≡◌, ℕ, ◌^◌, ◌<◌, List, [], ◌∷◌, refl, ap, ◌∙◌, arith, w64}
use seplogic.Ra.Ura.{Ura}
use mir.Syntax.{Width, int_big}
use mir.Val.{Val, Fits, vint}
use base.Logic.{SProp, ent, guard, guard_i, emp, via, id⊢}
use base.Fml.{ftrue}
use prog.Memory.{Memory}
use prog.Routine.{Routine}
use types.Logic.{Logic}
use contract.Monad.{Fun, fact, fact_i}
use prog.Wp.{Env}
use types.Run.{Opd}
use types.Kit.{Item, ‵, raw, ◌⊛◌, some, later, ◌$◌, ◌∵◌, !, qed, move, use0, use1, drop, split, join, pick, fsplit, fjoin, feq_l, feq_i, flt_i, check, await, updating, now as at_once, done}
use denote.Builtin.{usize}
use denote.Steps.{only, nothing, heard}
use denote.Triple.Clauses.{Lasts, lasts}
use denote.Triple.Spec.{triple_of}
use denote.Triple.Statement.{Contract}
use Rattle.snap_lines.specs.Frames.{note_at, frame_size}
use Rattle.snap_lines.specs.contracts.shifted.note_place as place
use Rattle.snap_lines.specs.contracts.shifted.bytes_around as around

module _ {M : Type 1} {𝓤 : Ura M} {𝓛 : Logic 𝓤} {K : Type 0} {Γ : List (Item 𝓤)} {E : Env 𝓤 𝓛.H} where
  pub large_lit : K → {w : Width} {n : ℕ} → Fits w n → Opd K 𝓛 Γ E (int_big w n) (vint w n)
  large_lit t {w} {n} few = record { go = λ Kt h. via 𝓤 (Kt (vint w n)) h (guard_i 𝓤 (Fits w n) (Kt (vint w n)) few) }

module _ {M : Type 1} {𝓤 : Ura M} (𝓛 : Logic 𝓤) (at_mem : Memory → SProp 𝓤) (run : Routine → Fun 𝓤) where
  open 𝓛 use {H}

  abbrev pub Place : Contract 𝓤
  Place = triple_of 𝓛 place.signature (place.spec 𝓛 at_mem run)

  abbrev pub Around : Contract 𝓤
  Around = triple_of 𝓛 around.signature (around.spec 𝓛 at_mem run)

  module _ (n : ℕ) where
    abbrev pub at_place : Place.Ghost
    at_place = ((tt, tt, tt, (n, tt), (vint w64 n ∷ [], tt)), tt)

    abbrev pub at_around : Around.Ghost
    at_around = ((tt, tt, tt, (n, tt), (vint w64 n ∷ [], tt)), tt)

    pub Place-goes : n < 2 ^ 62 → ent 𝓤 (emp 𝓤) (Place.pre at_place)
    Place-goes few =
        qed 𝓛 [] ∵ use0 𝓛 (raw (fact 𝓤 (n < 2 ^ 62))) (fact_i 𝓤 (n < 2 ^ 62) (emp 𝓤) few) $ nothing ! $
        flt_i ! n (2 ^ 64) (omega (arith, few)) $ feq_i ! (List Val) (vint w64 n ∷ []) (vint w64 n ∷ []) refl $ fjoin ! $ fjoin ! $ nothing ! $ join ! $ join ! $ done !

    pub Around-goes : n < 2 ^ 62 → ent 𝓤 (emp 𝓤) (Around.pre at_around)
    Around-goes few =
        qed 𝓛 [] ∵ use0 𝓛 (raw (fact 𝓤 (n < 2 ^ 62))) (fact_i 𝓤 (n < 2 ^ 62) (emp 𝓤) few) $ nothing ! $
        flt_i ! n (2 ^ 64) (omega (arith, few)) $ feq_i ! (List Val) (vint w64 n ∷ []) (vint w64 n ∷ []) refl $ fjoin ! $ fjoin ! $ nothing ! $ join ! $ join ! $ done !

    pub Place-gives : (v : Val) → ent 𝓤 (Place.post at_place v) (H.⇛ (guard 𝓤 (v ≡ vint w64 (note_at n)) (emp 𝓤)))
    Place-gives v =
        qed 𝓛 (raw (Place.post at_place v) ∷ []) ∵ updating ! $
        use1 𝓛 (later (some (λ (j : ℕ). (‵ ftrue ⊛ ‵ (usize.own_val j (v ∷ []))) ⊛ some (λ (ls : Lasts place.ended tt (n, tt)). ‵ (lasts place.ended tt (n, tt) ls) ⊛ raw (fact 𝓤 (j ≡ note_at n)))))) (id⊢ 𝓤 _) $
        await ! tt $ pick ! (λ j. split ! $ move ! (1 ∷ []) $ pick ! (λ _. split ! $ drop ! $ heard ! (j ≡ note_at n) (λ said. split ! $ drop ! $ fsplit ! $ feq_l ! (λ e. drop ! $
        at_once ! $ check ! (ap only e ∙ ap (vint w64) said) $ done !))))

    pub Around-gives : (v : Val) → ent 𝓤 (Around.post at_around v) (H.⇛ (guard 𝓤 (v ≡ vint w64 (frame_size n)) (emp 𝓤)))
    Around-gives v =
        qed 𝓛 (raw (Around.post at_around v) ∷ []) ∵ updating ! $
        use1 𝓛 (later (some (λ (j : ℕ). (‵ ftrue ⊛ ‵ (usize.own_val j (v ∷ []))) ⊛ some (λ (ls : Lasts around.ended tt (n, tt)). ‵ (lasts around.ended tt (n, tt) ls) ⊛ raw (fact 𝓤 (j ≡ frame_size n)))))) (id⊢ 𝓤 _) $
        await ! tt $ pick ! (λ j. split ! $ move ! (1 ∷ []) $ pick ! (λ _. split ! $ drop ! $ heard ! (j ≡ frame_size n) (λ said. split ! $ drop ! $ fsplit ! $ feq_l ! (λ e. drop ! $
        at_once ! $ check ! (ap only e ∙ ap (vint w64) said) $ done !))))
