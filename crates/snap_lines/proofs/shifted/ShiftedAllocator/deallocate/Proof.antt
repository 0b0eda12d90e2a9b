-- The address behind the block leads to the frame, which goes back whole. Assumes `Logic`.
use Rattle.std.proofs.Common.{◌≡◌, ℕ, ◌+◌, ◌^◌, ◌<◌, List, [], ◌∷◌, refl, sym, ap, subst, ◌∙◌, arith, lit<, w64, Bor}
use seplogic.Ra.Ura.{Ura}
use mir.Syntax.{Ty, Args, Fn, a_type, dnil, dcons, ty_ptr}
use mir.Val.{Val, vint, vptr, vunit}
use mir.MapTy.{inst_fn}
use base.Logic.{SProp, ent, sep, emp, id⊢, never_e, apply∗}
use base.Fml.{Lft, Share, ftrue, ffalse, fsep, froom, flft}
use prog.Memory.{Memory, size, align, capped, up}
use prog.Capped.{capped_is}
use prog.Routine.{Routine}
use prog.Wp.{WpFn, Tables}
use types.Logic.{Logic}
use contract.BorrowLft.{◌⊑◌, ⊑_trans}
use contract.Monad.{Fun, fact}
use contract.Running.{tables, tables_of}
use sound.WpLaws.{fm_of, WpFn-mono}
use types.Kit.{Item, ‵, raw, ◌⊛◌, later, given, ◌$◌, ◌∵◌, !, qed, by, move, keep, drop, use0, use1, use2, split, split3, join, learn, rewrite, fsplit, fsplit3, fjoin, fpick, feq_i, feq_l, flt_l, suffices, await, done}
use types.Run.{stop, fld, addr, lit, bin, load, look, unit_lit, no_more, and_then, of_opd, returns, enter}
use types.ByLocal.{alloc_all, pass_all, free_all, look_at, get, through, sets, lands_as, is}
use denote.Builtin.{usize, RawPtr, RefOf}
use denote.Exit.{yes}
use denote.Opens.{unhide}
use denote.Param.{bounded, param}
use denote.Plain.{uint_vals, uint_Tells}
use denote.RattleType.{owns}
use denote.RawPtr.{Ptr, block_ptr, null_ptr, ptr_val, rawptr_vals, rawptr_Tells}
use denote.Ref.{shr_vals}
use denote.Signature.{Slot, plain, types_at}
use denote.Steps.{heard, nothing}
use denote.Triple.Call.{calls_at}
use denote.Triple.Clauses.{Ended, Clauses}
use denote.Triple.Spec.{triple_of}
use denote.Triple.Statement.{Triple}
use denote.Triple.Table.{entered, cited}
use denote.Triple.Walked.{Stays, stay_dropped, walk_of, ends_at, walked, Goes-dropped, walk_Meets}
use Rattle.std.proofs.alloc.Calls.{Al, α, seen, token, gives_key, Gives, at_gives, Gives-goes, Gives-Gives}
use Rattle.snap_lines.specs.Frames.{frame, note_at, frame_size, note, frame_token}
use Rattle.snap_lines.proofs.Framing.{frame_is}
use Rattle.snap_lines.proofs.Sizes.{Place, at_place, Place-goes, Place-gives, Around, at_around, Around-goes, Around-gives}
use Rattle.snap_lines.proofs.shifted.note_place.Symbol as place_symbol
use Rattle.snap_lines.proofs.shifted.note_place.Met as place_met
use Rattle.snap_lines.proofs.shifted.bytes_around.Symbol as around_symbol
use Rattle.snap_lines.proofs.shifted.bytes_around.Met as around_met
use Rattle.snap_lines.specs.contracts.shifted.Shifted as shifted
use Rattle.snap_lines.specs.contracts.shifted.ShiftedAllocator.deallocate as F
use Rattle.snap_lines.specs.contracts.shifted.ShiftedAllocator.deallocate.Key as key
use Rattle.snap_lines.proofs.shifted.ShiftedAllocator.deallocate.Statement as stated
use Rattle.snap_lines.proofs.shifted.ShiftedAllocator.deallocate.Code as code

module _ (Z : Al) where
  abbrev args : Args
  args = bounded (a_type ∷ []) (Z.row, tt) (dcons Z.d (dcons Z.drops dnil))

  abbrev here : Fn
  here = inst_fn args code.function

  abbrev self : Slot 2
  self = RefOf (0 ∷ []) tt (plain (λ _. shifted.the_row (param 0 Z.row))) (λ _. tt)

  abbrev ended : Ended
  ended = F.ended Z.row Z.g Z.d Z.drops

  abbrev stayed : Stays ended.signature.params ended.kept
  stayed = (stay_dropped self yes, (stay_dropped (plain (λ _. RawPtr)) yes, (stay_dropped (plain (λ _. usize)) yes, (stay_dropped (plain (λ _. usize)) yes, tt))))

module _ (Z : Al) {M : Type 1} {𝓤 : Ura M} (𝓛 : Logic 𝓤) (at_mem : Memory → SProp 𝓤) (run : Routine → Fun 𝓤) (𝓣 : Tables 𝓤 𝓛.H) (back : Triple 𝓤 (𝓣.C (gives_key Z)) (Gives Z 𝓛 at_mem run))
    (places : Triple 𝓤 (𝓣.C place_symbol.name) (Place 𝓛 at_mem run)) (around : Triple 𝓤 (𝓣.C around_symbol.name) (Around 𝓛 at_mem run)) where
  open 𝓛 use {H}

  abbrev held : Clauses 𝓤 (ended Z)
  held = F.clauses Z.row Z.g Z.d Z.drops 𝓛 at_mem run

  module _ (κ₁ κ₂ : Lft) (q₁ q₂ : Share) (inn : κ₁ ⊑ κ₂) (r : Bor (shifted.the_row Z.row).Denot) (n a : ℕ) (τ : Ty) where
    abbrev bound : Ptr → (walk_of 𝓛 (ended Z) (stayed Z) held).Ghost
    bound x = (((κ₁, (κ₂, tt)), (q₁, (q₂, tt)), (inn, tt), (r, (x, (n, (a, tt)))), (shr_vals r, (rawptr_vals x, (vint w64 n ∷ [], (vint w64 a ∷ [], tt))))), τ)

    abbrev vs : Ptr → List Val
    vs x = vptr r.ref_ptr.0 r.ref_ptr.1 ∷ ptr_val x ∷ vint w64 n ∷ vint w64 a ∷ []

    abbrev Post : Ptr → Val → SProp 𝓤
    Post x = (walk_of 𝓛 (ended Z) (stayed Z) held).post (bound x)

    abbrev entry : Ptr → Item 𝓤
    entry x = (‵ (flft κ₁ q₁) ⊛ ‵ (flft κ₂ q₂) ⊛ ‵ ftrue) ⊛ ‵ (owns (types_at (ended Z).signature.params (bound x).0.0) (bound x).0.3 (bound x).0.4)

    abbrev Said : Type 0
    Said = (capped (size τ) ≡ n) × (capped (align τ) ≡ a)

    walk : n < 2 ^ 64 → a < 2 ^ 64 → (x : Ptr) → ent 𝓤 ((walk_of 𝓛 (ended Z) (stayed Z) held).pre (bound x)) (WpFn 𝓤 H 𝓣.C 𝓣.Λ (here Z) (vs x) (Post x))
    walk fn fa null_ptr =
        qed 𝓛 (entry null_ptr ∷ (raw (fact 𝓤 (κ₂ ⊑ Z.row.lives)) ⊛ raw (fact 𝓤 Said) ⊛ ‵ (fsep ffalse ffalse)) ∷ []) ∵
        move ! (1 ∷ []) $ split3 ! $ move ! (2 ∷ []) $ fsplit ! $ keep ! (0 ∷ []) $ by ! (never_e 𝓤 _)
    walk fn fa (block_ptr b o) =
        let h : Z.row.Denot = r.now.inner in
        let p : ℕ × ℕ = (r.ref_ptr.0, r.ref_ptr.1 + up (align (α Z)) 0) in
        let v₀ : Ptr = block_ptr b o in
        qed 𝓛 (entry v₀ ∷ (raw (fact 𝓤 (κ₂ ⊑ Z.row.lives)) ⊛ raw (fact 𝓤 Said) ⊛ ‵ (fsep (froom τ b o) (frame_token (token Z h) τ v₀))) ∷ []) ∵
        move ! (1 ∷ []) $ split3 ! $ heard ! (κ₂ ⊑ Z.row.lives) (λ le. heard ! Said (λ said. fsplit ! $
        move ! (1 ∷ []) $ fpick ! (λ x. fsplit ! $ feq_l ! (λ lies. fsplit ! $ flt_l ! (λ few. fsplit3 ! $
        let same : size τ ≡ n = sym (capped_is (size τ) (omega (arith, few))) ∙ said.0 in
        let small : n < 2 ^ 62 = subst (λ (k : ℕ). k < 2 ^ 62) same few in
        let m : ℕ = note_at (size τ) in
        let l : ℕ = frame_size (size τ) in
        let fm : m < 2 ^ 64 = omega (arith, few) in
        let fl : l < 2 ^ 64 = omega (arith, few) in
        let All : SProp 𝓤 = sep 𝓤 (H.room τ b (x + 48)) (H.room ty_ptr b (note τ b x)) in
        let is_frame = frame_is τ few in
        let y : (Gives Z 𝓛 at_mem run).Ghost = at_gives Z 𝓛 at_mem run κ₁ q₁ p h b x l 16 (frame τ) in
        -- [the address; the way back; the token; the block; the entry]
        move ! (3 ∷ []) $ rewrite ! 0 (λ (k : ℕ). ‵ (froom τ b k)) lies refl $
        move ! (4 ∷ []) $ split ! $ split ! $ move ! (2 ∷ []) $ fsplit ! $ fsplit ! $ move ! (1 ∷ []) $ unhide ! $ fsplit ! $ fsplit ! $ use1 𝓛 (‵ (seen Z κ₁ p h)) (id⊢ 𝓤 _) $
        keep ! (7 ∷ 8 ∷ 9 ∷ 10 ∷ 0 ∷ 5 ∷ 6 ∷ []) $
        -- [the block; the address; the way back; the token; the handle; the tokens of its lifetimes]
        enter ! 𝓣.C 𝓣.Λ (here Z) (vs v₀) _ $ alloc_all ! (λ l₀. pass_all ! refl ((tt, tt), ((tt, tt), ((tt, record { fits = fn }), ((tt, record { fits = fa }), tt)))) $
        use0 𝓛 (raw ((Place 𝓛 at_mem run).pre (at_place 𝓛 at_mem run n))) (Place-goes 𝓛 at_mem run n small) $
        calls_at ! (fm_of 𝓤 H 𝓛.laws 𝓣) (Place 𝓛 at_mem run) places (at_place 𝓛 at_mem run n) (and_then ! (get ! refl) (no_more !)) (λ u.
        use1 𝓛 (later (given (u ≡ vint w64 (note_at n)) (raw (emp 𝓤)))) (Place-gives 𝓛 at_mem run n u) $ await ! tt $ learn ! (λ eu. drop ! $
        lands_as ! (eu ∙ ap (λ (k : ℕ). vint w64 (note_at k)) (sym same)) refl (tt, record { fits = fm }) $
        sets ! (is ! (bin ! (get ! refl) (get ! refl) tt) (ap (vptr b) (omega (arith, lies)))) refl (tt, tt) $
        sets ! (of_opd ! (get ! refl)) refl (tt, tt) $
        sets ! (addr ! (through ! refl (fld ! refl (stop !)))) refl (tt, tt) $
        sets ! (of_opd ! (load ! (through ! refl (stop !)) (look ! 1 refl))) refl (tt, tt) $
        use0 𝓛 (raw ((Around 𝓛 at_mem run).pre (at_around 𝓛 at_mem run n))) (Around-goes 𝓛 at_mem run n small) $
        calls_at ! (fm_of 𝓤 H 𝓛.laws 𝓣) (Around 𝓛 at_mem run) around (at_around 𝓛 at_mem run n) (and_then ! (get ! refl) (no_more !)) (λ w.
        use1 𝓛 (later (given (w ≡ vint w64 (frame_size n)) (raw (emp 𝓤)))) (Around-gives 𝓛 at_mem run n w) $ await ! tt $ learn ! (λ ew. drop ! $
        lands_as ! (ew ∙ ap (λ (k : ℕ). vint w64 (frame_size k)) (sym same)) refl (tt, record { fits = fl }) $
        move ! (1 ∷ []) $ use1 𝓛 (‵ (froom ty_ptr b (note τ b x))) (𝓛.laws.at_room ty_ptr b (note τ b x) (vptr b x)) $ move ! (1 ∷ 0 ∷ []) $ join ! $ use2 𝓛 (‵ (froom (frame τ) b x)) (apply∗ 𝓤 All (H.room (frame τ) b x)) $
        -- [the frame; its token; the handle; the tokens of its lifetimes]
        move ! (2 ∷ 3 ∷ []) $ join ! $ move ! (2 ∷ 0 ∷ []) $ join ! $ move ! (1 ∷ 0 ∷ []) $ join ! $
        use1 𝓛 (raw ((Gives Z 𝓛 at_mem run).pre y)) (Gives-goes Z 𝓛 at_mem run κ₁ q₁ p h (⊑_trans κ₁ κ₂ Z.row.lives inn le) b x l 16 (frame τ) is_frame.0 is_frame.1 fl (lit< tt)) $
        calls_at ! (fm_of 𝓤 H 𝓛.laws 𝓣) (Gives Z 𝓛 at_mem run) back y (and_then ! (get ! refl) (and_then ! (get ! refl) (and_then ! (get ! refl) (and_then ! (lit ! tt) (no_more !))))) (λ v.
        use1 𝓛 (later (given (v ≡ vunit) (‵ (flft κ₁ q₁)))) (Gives-Gives Z 𝓛 at_mem run κ₁ q₁ p h b x l 16 (frame τ) v) $ await ! tt $ learn ! (λ e.
        lands_as ! e refl (tt, tt) $ sets ! (of_opd ! (unit_lit !)) refl (tt, tt) $ returns ! (look_at ! 0 refl) $ free_all ! refl $
        suffices ! _ (ends_at 𝓛 (ended Z) (stayed Z) held (bound v₀) vunit tt (tt, (tt, (tt, (tt, tt)))) (tt, (tt, (tt, (tt, tt))))) $
        nothing ! $ feq_i ! (List Val) (vunit ∷ []) (vunit ∷ []) refl $ nothing ! $ nothing ! $ fjoin ! $ nothing ! $ fjoin ! $ nothing ! $ fjoin ! $ nothing ! $ fjoin ! $ join ! $
        move ! (2 ∷ 3 ∷ []) $ join ! $ join ! $ done !))))))))))))

pub deallocate_spec : {M : Type 1} → stated.statement M
unfolding tables_of
deallocate_spec 𝓤 𝓛 𝓜 𝓡 wired Y L g d d' met _ =
    let Z : Al = record { row = Y; laws = L; g = g; d = d; drops = d' } in
    let 𝓣 : Tables 𝓤 𝓛.H = tables_of 𝓤 𝓛.H 𝓜 (tables 𝓤 𝓛.H 𝓜 𝓡 𝓡.env) in
    let c = F.clauses Y g d d' 𝓛 𝓜.mem 𝓡.returns in
    let places = cited 𝓤 𝓛.H _ 𝓜 𝓡 𝓡.env place_symbol.name (𝓡.env place_symbol.name) refl (place_met.met 𝓤 𝓛 𝓜 𝓡 (code.calls-snap_lines::shifted::note_place 𝓡.env wired)) in
    let around = cited 𝓤 𝓛.H _ 𝓜 𝓡 𝓡.env around_symbol.name (𝓡.env around_symbol.name) refl (around_met.met 𝓤 𝓛 𝓜 𝓡 (code.calls-snap_lines::shifted::bytes_around 𝓡.env wired)) in
    entered 𝓤 𝓛.H (triple_of 𝓛 (F.signature Y) (F.spec Y g d d' 𝓛 𝓜.mem 𝓡.returns)) 𝓣.C 𝓣.Λ (key.name (args Z)) (here Z) (code.unfolded 𝓤 𝓛.H 𝓜 𝓡 wired (Y, tt) d d')
    (walk_Meets 𝓛 (ended Z) (stayed Z) (Goes-dropped 𝓛 2 (self Z) yes (λ κs x f. refl), (Goes-dropped 𝓛 2 (plain (λ _. RawPtr)) yes (λ κs x f. refl), (Goes-dropped 𝓛 2 (plain (λ _. usize)) yes (λ κs x f. refl), (Goes-dropped 𝓛 2 (plain (λ _. usize)) yes (λ κs x f. refl), tt)))) c (WpFn 𝓤 𝓛.H 𝓣.C 𝓣.Λ (here Z)) (WpFn-mono 𝓤 𝓛.H 𝓛.laws 𝓣 (here Z))
    (walked 𝓛 (ended Z) (stayed Z) c (WpFn 𝓤 𝓛.H 𝓣.C 𝓣.Λ (here Z)) (λ κs. (shr_vals, (rawptr_vals, (uint_vals w64, (uint_vals w64, tt))))) (λ κs. ((λ r vs s. s.0), (rawptr_Tells, (uint_Tells w64, (uint_Tells w64, tt)))))
    (λ κs qs bounds a τ are. walk Z 𝓛 𝓜.mem 𝓡.returns 𝓣 (met.deallocate d') places around κs.0 κs.1.0 qs.0 qs.1.0 bounds.0 a.0 a.1.1.0 a.1.1.1.0 τ are.1.1.0.1 are.1.1.1.0.1 a.1.0)))
