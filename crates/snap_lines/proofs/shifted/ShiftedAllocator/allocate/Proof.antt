-- It asks for a frame, puts the frame's address behind the block, and answers the block. Assumes `Logic`.
use Rattle.std.proofs.Common.{◌≡◌, ℕ, ◌+◌, ◌^◌, ◌<◌, true, false, List, [], ◌∷◌, Ok, Err, refl, sym, ap, ◌∙◌, arith, lit<, w64, Bor}
use lib.Dec.{nleb→lt}
use seplogic.Ra.Ura.{Ura}
use mir.Syntax.{Ty, Args, Fn, a_type, dnil, dcons, ty_ptr}
use mir.Val.{Val, vint, vptr}
use mir.MapTy.{inst_fn}
use base.Fraction.{full_share}
use base.Logic.{SProp, ent, emp, id⊢}
use base.Fml.{Lft, Share, Fml, ftrue, feq, flt, fsep, fat, froom, flft}
use prog.Memory.{Memory, size, align, capped, up}
use prog.Capped.{capped_is, capped_small}
use prog.Routine.{Routine}
use prog.Wp.{Env, Wp, WpFn, Tables, after_seq, at_return}
use types.Logic.{Logic}
use contract.BorrowLft.{◌⊑◌, ⊑_trans}
use contract.Monad.{Fun, fact}
use contract.Running.{tables, tables_of}
use sound.WpLaws.{fm_of, WpFn-mono}
use types.Kit.{‵, raw, ◌⊛◌, later, given, at_ret, any_q, Post as After, ⋆, ◌$◌, ◌∵◌, !, qed, by, move, keep, drop, use0, use1, use2, split, split3, join, learn, fsplit, fjoin, fjoin3, fpack, feq_i, flt_i, suffices, await, done}
use types.Match.{vrt, in_variant}
use types.Part.{whole, agg}
use types.Run.{stop, fld, addr, lit, bin, init, no_more, and_then, of_opd, assigns, first, branches, skips, switches_on, exec, returns, returns_within, enter}
use types.ByLocal.{alloc_all, pass_all, free_all, look_at, get, get_in, get_tag, through, sets, sets_last, lands_as, is, env}
use denote.Builtin.{usize, RefOf}
use denote.Exit.{yes}
use denote.Opens.{unhide}
use denote.Param.{bounded, param}
use denote.Plain.{uint_vals, uint_Tells}
use denote.RattleType.{owns}
use denote.RawPtr.{Ptr, block_ptr}
use denote.Ref.{shr_vals}
use denote.Signature.{Slot, plain, types_at}
use denote.Steps.{heard, nothing}
use denote.Triple.Call.{calls_at}
use denote.Triple.Clauses.{Ended, Clauses}
use denote.Triple.Spec.{triple_of}
use denote.Triple.Statement.{Triple}
use denote.Triple.Table.{entered, cited}
use denote.Triple.Walked.{Stays, stay_dropped, walk_of, ends_at, walked, Goes-dropped, walk_Meets}
use Rattle.std.specs.Allocator.{block_if_ok}
use Rattle.std.proofs.alloc.Calls.{Al, α, seen, token, Answer, answer_val, Answer-typed, Answer-Ok, Answer-err, takes_key, Takes, at_takes, Answered, Takes-goes, Takes-gives, answers}
use Rattle.std.proofs.alloc.Shapes.{after, head, arm_body}
use Rattle.snap_lines.specs.Frames.{frame, note_at, frame_size, note, closes_frame, frame_left, frame_token}
use Rattle.snap_lines.proofs.Framing.{frame_is, opens_frame}
use Rattle.snap_lines.proofs.Sizes.{large_lit, Place, at_place, Place-goes, Place-gives, Around, at_around, Around-goes, Around-gives}
use Rattle.snap_lines.proofs.shifted.note_place.Symbol as place_symbol
use Rattle.snap_lines.proofs.shifted.note_place.Met as place_met
use Rattle.snap_lines.proofs.shifted.bytes_around.Symbol as around_symbol
use Rattle.snap_lines.proofs.shifted.bytes_around.Met as around_met
use Rattle.snap_lines.specs.contracts.shifted.Shifted as shifted
use Rattle.snap_lines.specs.contracts.shifted.ShiftedAllocator.allocate as F
use Rattle.snap_lines.specs.contracts.shifted.ShiftedAllocator.allocate.Key as key
use Rattle.snap_lines.proofs.shifted.ShiftedAllocator.allocate.Statement as stated
use Rattle.snap_lines.proofs.shifted.ShiftedAllocator.allocate.Code as code

module _ (Z : Al) where
  abbrev args : Args
  args = bounded (a_type ∷ []) (Z.row, tt) (dcons Z.d (dcons Z.drops dnil))

  abbrev here : Fn
  here = inst_fn args code.function

  abbrev self : Slot 2
  self = RefOf (0 ∷ []) tt (plain (λ _. shifted.the_row (param 0 Z.row))) (λ _. tt)

  abbrev ended : Ended
  ended = F.ended Z.row Z.g Z.d Z.drops

  abbrev stayed : Stays ended.signature.params ended.kept
  stayed = (stay_dropped self yes, (stay_dropped (plain (λ _. usize)) yes, (stay_dropped (plain (λ _. usize)) yes, tt)))

module _ (Z : Al) {M : Type 1} {𝓤 : Ura M} (𝓛 : Logic 𝓤) (at_mem : Memory → SProp 𝓤) (run : Routine → Fun 𝓤) (𝓣 : Tables 𝓤 𝓛.H) (tk : Triple 𝓤 (𝓣.C (takes_key Z)) (Takes Z 𝓛 at_mem run))
    (places : Triple 𝓤 (𝓣.C place_symbol.name) (Place 𝓛 at_mem run)) (around : Triple 𝓤 (𝓣.C around_symbol.name) (Around 𝓛 at_mem run)) where
  open 𝓛 use {H}

  abbrev held : Clauses 𝓤 (ended Z)
  held = F.clauses Z.row Z.g Z.d Z.drops 𝓛 at_mem run

  module _ (κ₁ κ₂ : Lft) (q₁ q₂ : Share) (inn : κ₁ ⊑ κ₂) (r : Bor (shifted.the_row Z.row).Denot) (n a : ℕ) (τ : Ty) where
    abbrev bound : (walk_of 𝓛 (ended Z) (stayed Z) held).Ghost
    bound = (((κ₁, (κ₂, tt)), (q₁, (q₂, tt)), (inn, tt), (r, (n, (a, tt))), (shr_vals r, (vint w64 n ∷ [], (vint w64 a ∷ [], tt)))), τ)

    abbrev vs : List Val
    vs = vptr r.ref_ptr.0 r.ref_ptr.1 ∷ vint w64 n ∷ vint w64 a ∷ []

    abbrev Said : Type 0
    Said = (capped (size τ) ≡ n) × (capped (align τ) ≡ a)

    abbrev Post : Val → SProp 𝓤
    Post = (walk_of 𝓛 (ended Z) (stayed Z) held).post bound

    abbrev holds : Ty → Ptr → Fml
    holds = token Z r.now.inner

    exits : (v : Val) (res : Answer.Denot) → ent 𝓤 (⋆ 𝓛 (‵ (Answer.own_val res (v ∷ [])) ∷ ‵ (block_if_ok (frame_token holds) τ res) ∷ ‵ (flft κ₁ q₁) ∷ (‵ (flft κ₂ q₂) ⊛ ‵ ftrue) ∷ [])) (Post v)
    exits v res = qed 𝓛 (‵ (Answer.own_val res (v ∷ [])) ∷ ‵ (block_if_ok (frame_token holds) τ res) ∷ ‵ (flft κ₁ q₁) ∷ (‵ (flft κ₂ q₂) ⊛ ‵ ftrue) ∷ []) ∵
        suffices ! _ (ends_at 𝓛 (ended Z) (stayed Z) held bound v res (tt, (tt, (tt, tt))) (tt, (tt, (tt, tt)))) $
        nothing ! $ nothing ! $ fjoin ! $ nothing ! $ fjoin ! $ nothing ! $ fjoin ! $ join ! $ move ! (2 ∷ 3 ∷ []) $ join ! $ join ! $ done !

    refuses : ent 𝓤 (⋆ 𝓛 (‵ (flft κ₁ q₁) ∷ (‵ (flft κ₂ q₂) ⊛ ‵ ftrue) ∷ [])) (Post (answer_val false 0 0))
    refuses = qed 𝓛 (‵ (flft κ₁ q₁) ∷ (‵ (flft κ₂ q₂) ⊛ ‵ ftrue) ∷ []) ∵ nothing ! $ use0 𝓛 (‵ (Answer.own_val (Err (record {})) (answer_val false 0 0 ∷ []))) (Answer-err 𝓛) $ by ! (exits (answer_val false 0 0) (Err (record {})))

    -- the parts of the frame at x, and the block
    hands_out : size τ < 2 ^ 62 → (b x : ℕ) → ent 𝓤 (⋆ 𝓛 (‵ (froom τ b (x + 48)) ∷ ‵ (fat full_share ty_ptr b (note τ b x) (vptr b x)) ∷ ‵ (closes_frame τ b x) ∷ ‵ (holds (frame τ) (block_ptr b x)) ∷ ‵ (flft κ₁ q₁) ∷ (‵ (flft κ₂ q₂) ⊛ ‵ ftrue) ∷ []))
        (Post (answer_val true b (x + 48)))
    hands_out few b x =
        let o : ℕ = x + 48 in
        qed 𝓛 (‵ (froom τ b o) ∷ ‵ (fat full_share ty_ptr b (note τ b x) (vptr b x)) ∷ ‵ (closes_frame τ b x) ∷ ‵ (holds (frame τ) (block_ptr b x)) ∷ ‵ (flft κ₁ q₁) ∷ (‵ (flft κ₂ q₂) ⊛ ‵ ftrue) ∷ []) ∵
        move ! (1 ∷ 2 ∷ 3 ∷ []) $ fjoin3 ! $ flt_i ! (size τ) (2 ^ 62) few $ fjoin ! $ feq_i ! ℕ o o refl $ fjoin ! $
        fpack ! ℕ (λ (y : ℕ). fsep (feq ℕ o (y + 48)) (fsep (flt (size τ) (2 ^ 62)) (frame_left τ b y holds))) x $ move ! (1 ∷ 0 ∷ []) $ fjoin ! $
        use0 𝓛 (‵ (Answer.own_val (Ok (block_ptr b o)) (answer_val true b o ∷ []))) (Answer-Ok 𝓛 b o) $ by ! (exits (answer_val true b o) (Ok (block_ptr b o)))

    walk : n < 2 ^ 64 → a < 2 ^ 64 → ent 𝓤 ((walk_of 𝓛 (ended Z) (stayed Z) held).pre bound) (WpFn 𝓤 H 𝓣.C 𝓣.Λ (here Z) vs Post)
    walk fn fa =
        let h : Z.row.Denot = r.now.inner in
        let p : ℕ × ℕ = (r.ref_ptr.0, r.ref_ptr.1 + up (align (α Z)) 0) in
        qed 𝓛 (((‵ (flft κ₁ q₁) ⊛ ‵ (flft κ₂ q₂) ⊛ ‵ ftrue) ⊛ ‵ (owns (types_at (ended Z).signature.params bound.0.0) bound.0.3 bound.0.4)) ∷ (raw (fact 𝓤 (κ₂ ⊑ Z.row.lives)) ⊛ raw (fact 𝓤 Said)) ∷ []) ∵
        move ! (1 ∷ []) $ split ! $ heard ! (κ₂ ⊑ Z.row.lives) (λ le. heard ! Said (λ said.
        split ! $ split ! $ move ! (2 ∷ []) $ fsplit ! $ fsplit ! $ move ! (1 ∷ []) $ unhide ! $ fsplit ! $ fsplit ! $ use1 𝓛 (‵ (seen Z κ₁ p h)) (id⊢ 𝓤 _) $ keep ! (0 ∷ 5 ∷ 6 ∷ []) $
        enter ! 𝓣.C 𝓣.Λ (here Z) vs _ $ alloc_all ! (λ l₀. pass_all ! refl ((tt, tt), ((tt, record { fits = fn }), ((tt, record { fits = fa }), tt))) $ let En : Env 𝓤 H = env (here Z).locals l₀ in
        let Then : After 𝓤 H = any_q (after_seq 𝓤 H (Wp 𝓤 H 𝓣.C 𝓣.Λ En (after 6 (here Z).body) (at_return 𝓤 H En Post)) (at_return 𝓤 H En Post)) in
        sets ! (bin ! (large_lit ! (record { fits = omega arith })) (get ! refl) tt) refl (tt, tt) $
        first ! $ branches ! (get ! refl)
        (λ large. drop ! $ sets ! (agg ! (no_more !)) refl (tt, tt) $ sets ! (agg ! (and_then ! (lit ! tt) (and_then ! (get ! refl) (no_more !)))) refl (Answer-typed false 0 0) $
        returns_within ! Post refl (look_at ! 0 refl) $ free_all ! refl $ by ! refuses)
        (λ less.
        let small : n < 2 ^ 62 = nleb→lt (2 ^ 62) n less in
        let short : size τ < 2 ^ 63 = capped_small (size τ) (omega (arith, said.0, small)) in
        let same : size τ ≡ n = sym (capped_is (size τ) (omega (arith, short))) ∙ said.0 in
        let few : size τ < 2 ^ 62 = omega (arith, same, small) in
        let m : ℕ = note_at (size τ) in
        let l : ℕ = frame_size (size τ) in
        let fm : m < 2 ^ 64 = omega (arith, few) in
        let fl : l < 2 ^ 64 = omega (arith, few) in
        let is_frame = frame_is τ few in
        let y : (Takes Z 𝓛 at_mem run).Ghost = at_takes Z 𝓛 at_mem run κ₁ q₁ p h l 16 (frame τ) in
        skips ! $ exec ! 𝓣.C 𝓣.Λ En (after 2 (here Z).body) (at_ret En Post) $
        sets ! (addr ! (through ! refl (fld ! refl (stop !)))) refl (tt, tt) $
        use0 𝓛 (raw ((Around 𝓛 at_mem run).pre (at_around 𝓛 at_mem run n))) (Around-goes 𝓛 at_mem run n small) $
        calls_at ! (fm_of 𝓤 H 𝓛.laws 𝓣) (Around 𝓛 at_mem run) around (at_around 𝓛 at_mem run n) (and_then ! (get ! refl) (no_more !)) (λ w.
        use1 𝓛 (later (given (w ≡ vint w64 (frame_size n)) (raw (emp 𝓤)))) (Around-gives 𝓛 at_mem run n w) $ await ! tt $ learn ! (λ ew. drop ! $
        lands_as ! (ew ∙ ap (λ (k : ℕ). vint w64 (frame_size k)) (sym same)) refl (tt, record { fits = fl }) $
        use2 𝓛 (raw ((Takes Z 𝓛 at_mem run).pre y)) (Takes-goes Z 𝓛 at_mem run κ₁ q₁ p h (⊑_trans κ₁ κ₂ Z.row.lives inn le) l 16 (frame τ) is_frame.0 is_frame.1 fl (lit< tt)) $
        calls_at ! (fm_of 𝓤 H 𝓛.laws 𝓣) (Takes Z 𝓛 at_mem run) tk y (and_then ! (get ! refl) (and_then ! (get ! refl) (and_then ! (lit ! tt) (no_more !)))) (λ v.
        use1 𝓛 (later (raw (Answered Z 𝓛 at_mem run h (frame τ) v) ⊛ ‵ (flft κ₁ q₁))) (Takes-gives Z 𝓛 at_mem run κ₁ q₁ p h l 16 (frame τ) v) $ await ! tt $ split ! $
        answers Z ! at_mem run h (frame τ) v
        (λ b x e. lands_as ! e refl (Answer-typed true b x) $
        first ! $ switches_on ! (get_tag ! (vrt ! refl (fld ! refl (stop !))) (whole !)) $ exec ! 𝓣.C 𝓣.Λ En (arm_body 0 (head (after 5 (here Z).body))) Then $
        sets ! (of_opd ! (get_in ! (vrt ! refl (fld ! refl (stop !))) (in_variant ! 0 0 refl refl (whole !)))) refl (tt, tt) $
        sets ! (is ! (bin ! (get ! refl) (lit ! tt) tt) (ap (vptr b) (omega arith))) refl (tt, tt) $
        use0 𝓛 (raw ((Place 𝓛 at_mem run).pre (at_place 𝓛 at_mem run n))) (Place-goes 𝓛 at_mem run n small) $
        calls_at ! (fm_of 𝓤 H 𝓛.laws 𝓣) (Place 𝓛 at_mem run) places (at_place 𝓛 at_mem run n) (and_then ! (get ! refl) (no_more !)) (λ u.
        use1 𝓛 (later (given (u ≡ vint w64 (note_at n)) (raw (emp 𝓤)))) (Place-gives 𝓛 at_mem run n u) $ await ! tt $ learn ! (λ eu. drop ! $
        lands_as ! (eu ∙ ap (λ (k : ℕ). vint w64 (note_at k)) (sym same)) refl (tt, record { fits = fm }) $
        sets ! (is ! (bin ! (get ! refl) (get ! refl) tt) (ap (vptr b) (omega arith))) refl (tt, tt) $
        sets ! (of_opd ! (get ! refl)) refl (tt, tt) $
        use1 𝓛 (‵ (froom τ b (x + 48)) ⊛ ‵ (froom ty_ptr b (note τ b x)) ⊛ ‵ (closes_frame τ b x)) (opens_frame 𝓛 τ b x) $ split3 ! $
        -- [the block; the address; the way back; the token; the tokens of the lifetimes]
        assigns ! (of_opd ! (get ! refl)) (through ! refl (stop !)) (init ! 1 refl (tt, tt)) $
        sets_last ! (agg ! (and_then ! (lit ! tt) (and_then ! (get ! refl) (no_more !)))) refl (Answer-typed true b (x + 48)) $
        exec ! 𝓣.C 𝓣.Λ En (after 6 (here Z).body) (at_ret En Post) $ sets ! (of_opd ! (get ! refl)) refl (Answer-typed true b (x + 48)) $
        returns ! (look_at ! 0 refl) $ free_all ! refl $ by ! (hands_out few b x))))
        (λ e. lands_as ! e refl (Answer-typed false 0 0) $
        first ! $ switches_on ! (get_tag ! (vrt ! refl (fld ! refl (stop !))) (whole !)) $ exec ! 𝓣.C 𝓣.Λ En (arm_body 1 (head (after 5 (here Z).body))) Then $
        sets ! (of_opd ! (get_in ! (vrt ! refl (fld ! refl (stop !))) (in_variant ! 1 0 refl refl (whole !)))) refl (tt, tt) $
        sets_last ! (agg ! (and_then ! (lit ! tt) (and_then ! (get ! refl) (no_more !)))) refl (Answer-typed false 0 0) $
        exec ! 𝓣.C 𝓣.Λ En (after 6 (here Z).body) (at_ret En Post) $ sets ! (of_opd ! (get ! refl)) refl (Answer-typed false 0 0) $
        returns ! (look_at ! 0 refl) $ free_all ! refl $ by ! refuses))))))))

pub allocate_spec : {M : Type 1} → stated.statement M
unfolding tables_of
allocate_spec 𝓤 𝓛 𝓜 𝓡 wired Y L g d d' met _ =
    let Z : Al = record { row = Y; laws = L; g = g; d = d; drops = d' } in
    let 𝓣 : Tables 𝓤 𝓛.H = tables_of 𝓤 𝓛.H 𝓜 (tables 𝓤 𝓛.H 𝓜 𝓡 𝓡.env) in
    let c = F.clauses Y g d d' 𝓛 𝓜.mem 𝓡.returns in
    let places = cited 𝓤 𝓛.H _ 𝓜 𝓡 𝓡.env place_symbol.name (𝓡.env place_symbol.name) refl (place_met.met 𝓤 𝓛 𝓜 𝓡 (code.calls-snap_lines::shifted::note_place 𝓡.env wired)) in
    let around = cited 𝓤 𝓛.H _ 𝓜 𝓡 𝓡.env around_symbol.name (𝓡.env around_symbol.name) refl (around_met.met 𝓤 𝓛 𝓜 𝓡 (code.calls-snap_lines::shifted::bytes_around 𝓡.env wired)) in
    entered 𝓤 𝓛.H (triple_of 𝓛 (F.signature Y) (F.spec Y g d d' 𝓛 𝓜.mem 𝓡.returns)) 𝓣.C 𝓣.Λ (key.name (args Z)) (here Z) (code.unfolded 𝓤 𝓛.H 𝓜 𝓡 wired (Y, tt) d d')
    (walk_Meets 𝓛 (ended Z) (stayed Z) (Goes-dropped 𝓛 2 (self Z) yes (λ κs x f. refl), (Goes-dropped 𝓛 2 (plain (λ _. usize)) yes (λ κs x f. refl), (Goes-dropped 𝓛 2 (plain (λ _. usize)) yes (λ κs x f. refl), tt))) c (WpFn 𝓤 𝓛.H 𝓣.C 𝓣.Λ (here Z)) (WpFn-mono 𝓤 𝓛.H 𝓛.laws 𝓣 (here Z))
    (walked 𝓛 (ended Z) (stayed Z) c (WpFn 𝓤 𝓛.H 𝓣.C 𝓣.Λ (here Z)) (λ κs. (shr_vals, (uint_vals w64, (uint_vals w64, tt)))) (λ κs. ((λ r vs s. s.0), (uint_Tells w64, (uint_Tells w64, tt))))
    (λ κs qs bounds a τ are. walk Z 𝓛 𝓜.mem 𝓡.returns 𝓣 (met.allocate d') places around κs.0 κs.1.0 qs.0 qs.1.0 bounds.0 a.0 a.1.0 a.1.1.0 τ are.1.0.1 are.1.1.0.1)))
