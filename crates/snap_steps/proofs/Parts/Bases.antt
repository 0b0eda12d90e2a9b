-- Clones, once the table has evolved.
use Rattle.std.proofs.Common.{◌≡◌, ◌∙◌, ◌<◌, inl, inr, lit<, refl, ℕ, List, [], ◌∷◌, ◌++◌, sym, ap, arith, append_assoc, append-nil, subst, Bool, true, false}
use Rattle.snap_model.specs.History.{Begins}
use Rattle.snap_rule.proofs.Readers.Kept.{image_kept}
use Rattle.snap_rule.specs.Evolves.{Evolves}
use Rattle.snap_rule.specs.State.{State as Table}
use Rattle.snap_rule.specs.Tree.{Tree, root}
use Rattle.snap_rule.specs.Tree.Tree.{empty, node}
use Rattle.snap_stamp.specs.declared.side.Side.TheVariants.{Right}
use Rattle.snap_steps.specs.Clones.{parts_of, built, first_tree, tree_of}
use Rattle.snap_steps.specs.Counting.{total}
use Rattle.snap_steps.specs.Each.{Each}
use Rattle.snap_steps.specs.Roles.{no_base}
use Rattle.snap_steps.specs.Rule.{Kept}
use Rattle.snap_steps.specs.Rule.Bases.{KeepsCause, IsBase, KnowsBase}
use Rattle.snap_steps.specs.Stages.{has_cut, in_write, is_quiet, after_left}
use Rattle.snap_steps.specs.States.{state_of}
use Rattle.snap_steps.specs.declared.rule.About.{About}
use Rattle.snap_steps.specs.declared.view.Balance.{Balance}
use Rattle.snap_steps.specs.declared.view.Balance.TheVariants.{Settled, RowsOut, StampOut}
use Rattle.snap_steps.specs.declared.view.Base.{Base}
use Rattle.snap_steps.specs.declared.view.Part.{Part}
use Rattle.snap_steps.specs.declared.view.Part.TheVariants.{Top}
use Rattle.snap_steps.specs.declared.view.Stage.{Stage}
use Rattle.snap_steps.specs.declared.view.Stage.TheVariants.{Idle, Writing, Closing}
use Rattle.snap_steps.specs.declared.view.View.{View}
use Rattle.snap_steps.proofs.Prefixes.{begins_more}
use Rattle.snap_steps.proofs.Totals.{term_le}

-- the parts of a tree make the tree
built-parts : (t : Tree) (more : List Part) (trees : List Tree) → built (parts_of t ++ more) trees ≡ built more (t ∷ trees)
built-parts empty more trees = refl
built-parts (node n a b) more trees =
    let top : List Part = Top n.row n.key n.value n.height ∷ [] in
    ap (λ (l : List Part). built l trees) (append_assoc (parts_of a) (parts_of b ++ top) more) ∙ built-parts a ((parts_of b ++ top) ++ more) trees
    ∙ ap (λ (l : List Part). built l (a ∷ trees)) (append_assoc (parts_of b) top more) ∙ built-parts b (top ++ more) (a ∷ trees)

pub tree_of-parts : (t : Tree) → tree_of (parts_of t) ≡ t
unfolding tree_of
tree_of-parts t = ap (λ (l : List Part). first_tree (built l [])) (sym (append-nil (parts_of t))) ∙ ap first_tree (built-parts t [] [])

-- where nothing was cut
pub no_base_is : (s : Table) → IsBase s no_base
unfolding tree_of
no_base_is s = record { begins = record { rest = s.history; is = refl }; image = record { top = refl; reads = tt; rows = tt }; clone = record { legal = tt; ordered = tt; tells = refl; short = lit< tt }; cause = tt }

cause_kept : (s s' : Table) → Evolves s s' → (b : Balance) → KeepsCause s b → KeepsCause s' b
cause_kept s s' ev Settled h = tt
cause_kept s s' ev RowsOut h = tt
cause_kept s s' ev (StampOut row) h = record { linked = ev.linked row h.linked; last = omega (arith, h.last, ev.stamp row (inr h.linked)) }

begins_on : {A : Type 0} (xs ys zs : List A) → Begins xs ys → Begins ys zs → Begins xs zs
begins_on xs ys zs a b = subst (Begins xs) b.is (begins_more xs ys b.rest a)

pub base_evolves : (s s' : Table) → Evolves s s' → (b : Base) → IsBase s b → IsBase s' b
base_evolves s s' ev b h = let t : Tree = tree_of b.parts in record { begins = begins_on b.history s.history s'.history h.begins ev.history; image = image_kept s s' ev (root t) t h.image; clone = h.clone; cause = cause_kept s s' ev b.balance h.cause }

-- no entry is made where no pass is in a write
pub bases_evolve : (about : About) (words : List ℕ) (views : List View) (k : Kept about words views) (s' : Table) → Evolves (state_of k.m k.g) s' → (total (λ v. in_write v.stage) views ≡ 0 → s'.history ≡ k.g.history) → Each (KnowsBase s') views
bases_evolve about words views k s' ev still j u at =
    let s : Table = state_of k.m k.g in let p = k.based j u at in (
      base_evolves s s' ev u.base p.0,
      λ cut. let q = p.1 cut in let some : 0 < total (λ v. is_quiet v.stage) views = omega (arith, q.0, term_le (λ v. is_quiet v.stage) views j u at) in
          (q.0, (ev.quiet (k.writers ∙ k.gated.quiet some) 0 (inl refl)).0.link Right ∙ q.1, still (k.gated.quiet some) ∙ q.2),
    )

-- the cut of a closing stays, and nothing else is taken for one
abbrev pub CutStays : Stage → Stage → Type 0
CutStays old new = has_cut new ≡ 1 → (has_cut old ≡ 1) × (is_quiet old ≡ 1 → is_quiet new ≡ 1)

pub left_cut : (st : Stage) (r : ℕ) → CutStays st (after_left st r)
left_cut Idle r z = (z, λ q. q)
left_cut (Writing made counted) r z = (z, λ q. q)
left_cut (Closing gate quiet cut) r z = (z, go quiet)
  where
    go : (b : Bool) → is_quiet (Closing gate b cut) ≡ 1 → is_quiet (after_left (Closing gate b cut) r) ≡ 1
    go true q = q
    go false q = absurd (omega (arith, q))
