-- Heights below a row: which steps keep them, and what was loaded of them.
use Rattle.std.proofs.Common.{◌≡◌, ◌≢◌, ℕ, zero, suc, inl, inr, refl, ap, ap₂, sym, ◌∙◌, subst, arith}
use Rattle.snap_stamp.specs.declared.side.Side.{Side}
use Rattle.snap_rule.specs.Tree.{value_word}
use Rattle.snap_stamp.specs.declared.side.Side.TheVariants.{Left, Right}
use Rattle.snap_rule.specs.State.{State, In}
use Rattle.snap_rule.specs.Rule.{TableOk, IsParent}
use Rattle.snap_rule.specs.Doing.{Apart}
use Rattle.snap_rule.specs.Kinds.Words.{height_stored}
use Rattle.snap_rule.specs.Settled.{height_at, child_height, IsSettled}
use Rattle.snap_rule.specs.Laws.Heights.{HeldWords}
use Rattle.snap_rule.specs.Heights.{KeepsHeights, Loaded, LoadedOk, ShowsSettled}
use Rattle.snap_model.specs.History.{call_value}
use Rattle.snap_rule.proofs.Updates.{changed_other}
use Rattle.snap_rule.proofs.Trees.Unique.{child_stands}
use Rattle.snap_rule.proofs.Parts.Tree.{one_link, top_link}
use Rattle.snap_rule.proofs.Debts.{balanced_same}
use Rattle.snap_rule.proofs.Debts.Turns.{height_at_other}
use Rattle.snap_rule.specs.State.Change.{plain}
use Rattle.snap_rule.proofs.Debts.Trees.{true_link}

-- heights of children, under a lock
pub heights_apart : (s s' : State) (n : ℕ) → Apart s s' n → ((m : ℕ) → s'.height m ≡ s.height m) → KeepsHeights s s' n
heights_apart s s' n a same d = ap (height_at s'.height) (a.links d) ∙ at (s.links n d)
  where
    at : (c : ℕ) → height_at s'.height c ≡ height_at s.height c
    at zero = refl
    at (suc c) = same (suc c)

pub heights_height : (s : State) (parent : ℕ) (p : Side) (row h n : ℕ) (d : Side) → TableOk s → IsParent s parent p → s.links parent p ≡ row → row ≢ 0
    → IsParent s n d → n ≢ parent
    → child_height (height_stored s row h) n d ≡ child_height s n d
heights_height s parent p row h n d ok live child z at y = height_at_other s.height row h (s.links n d) (not_row at)
  where
    not_row : IsParent s n d → s.links n d ≢ row
    not_row (inl q) e = y (q.0 ∙ sym (top_link s ok.tree ok.links parent p row live child z (sym ok.tree.root ∙ sym (ap₂ s.links q.0 q.1) ∙ e)).0)
    not_row (inr l) e = y (one_link s ok.tree ok.links parent p row live child z n d l.stands e).0

pub held_words : HeldWords
held_words = (
  (λ s row e n z. (changed_other s.value row (value_word (call_value e.call)) n z, refl, λ d. refl)),
  (λ s row h n z. (refl, changed_other s.height row h n z)),
  (λ s row k b h v l n ok may i.
      let fresh : n ≢ row = λ e. may.fresh (subst (λ (x : ℕ). In x s.linked) e (ok.tree.rows n i).0) in (
        changed_other s.value row v n fresh,
        changed_other s.height row h n fresh,
        λ d. height_at_other s.height row h (s.links n d) (λ e. may.fresh (subst (λ (x : ℕ). In x s.linked) e (ok.tree.rows (s.links n d) (child_stands s s.links s.tree n d ok.tree.reads i (λ z. let p = may.is_row in omega arith))).0)),
      )),
)

pub loaded_settled : (s : State) (n : ℕ) (x : Loaded) → LoadedOk s n x → ShowsSettled x → IsSettled s n
loaded_settled s n x ok h = (
  balanced_same x.height x.left_height x.right_height (s.height n) (child_height s n Left) (child_height s n Right) ok.height ok.left_height ok.right_height h.0,
  elim h.1 [ inl v ↦ inl (λ z. v (sym ok.value ∙ z)) | inr c ↦ inr ((λ z. c.0 (sym ok.left ∙ z)), (λ z. c.1 (sym ok.right ∙ z))) ],
)

at_positive : (f : ℕ → ℕ) (c : ℕ) → c ≢ 0 → height_at f c ≡ f c
at_positive f zero z = absurd (z refl)
at_positive f (suc c) z = refl

pub child_loaded : (s : State) (n : ℕ) (d : Side) (c : ℕ) → TableOk s → IsParent s n d → s.pending n d ≡ plain → s.link n d ≡ c
    → (s.links n d ≡ c) × (c ≡ 0 → child_height s n d ≡ 0) × (c ≢ 0 → child_height s n d ≡ s.height c)
child_loaded s n d c ok live e q =
    let g : s.links n d ≡ c = sym (true_link s n d ok live e) ∙ q in
    (g, (λ z. ap (height_at s.height) (g ∙ z)), (λ z. ap (height_at s.height) g ∙ at_positive s.height c z))
