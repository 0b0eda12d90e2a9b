use Rattle.std.proofs.Common.{rules, ◌≡◌, ◌+◌, ◌∙◌, ℕ, Some, None, Bool, false, true, IsTrue, sym, subst, arith}
use Rattle.snap_prelude.specs.{ArePlaced, Cloned, image}
use Rattle.snap_view.specs.Tops.{HasTree}
use Rattle.snap_view.proofs.Balances.{HeightAt, has_left, has_right, none_left, none_right, some_height, none_balanced, none_needed}
use Rattle.snap_view.proofs.table_view.TableView.+settled_height.Goals as goal
use Rattle.snap_view.proofs.table_view.TableView.+settled_height.Goals.{else-is_balanced-via-then-is_balanced+else-is_needed, else-is_balanced-via-else-is_balanced}

none_so : (b : Bool) → b ≡ false → IsTrue b → ⊥
none_so b e h = let q : false ≡ true = sym e ∙ h in cc

pub settled_height-requires : goal.settled_height-requires
settled_height-requires g t c =
    let r = c.requires in let at : HasTree (image c.args.self.now) c.in-Some.copy.left = has_left (image c.args.self.now) r.tree c.in-Some.copy r.within (c.in-Some.ensures.top r.tree r.within r.at) in
    let here = subst (λ (k : Cloned). HasTree (image k) c.in-Some.copy.left) (sym c.row_at.ensures.view) at in
    λ κs live. (omega (arith, c.in_ok-below-in-Some.ensures, c.decreases), (live, here))

pub returns-in_err-left-in-Some-clause-height : goal.returns-in_err-left-in-Some-clause-height
returns-in_err-left-in-Some-clause-height g t c =
    let h = subst (λ (k : Cloned). HeightAt (image k) c.in-Some.copy.left c.in_ok-below-in-Some.below None) c.row_at.ensures.view c.in_err-left-in-Some.ensures.height in
    subst (HeightAt (image c.args.self.now) c.args.row c.args.levels) (sym c.from_residual-in_err-left-in-Some.ensures) (none_left (image c.args.self.now) c.args.row c.args.levels c.in-Some.copy c.in-Some.ensures.top c.in_ok-below-in-Some.below (omega (arith, c.in_ok-below-in-Some.ensures)) h)

pub settled_height-requires-in-Some : goal.settled_height-requires-in-Some
settled_height-requires-in-Some g t c =
    let r = c.requires in let at : HasTree (image c.args.self.now) c.in-Some.copy.right = has_right (image c.args.self.now) r.tree c.in-Some.copy r.within (c.in-Some.ensures.top r.tree r.within r.at) in
    let here = subst (λ (k : Cloned). HasTree (image k) c.in-Some.copy.right) (sym (c.settled_height.ensures.view ∙ c.row_at.ensures.view)) at in
    λ κs live. (omega (arith, c.in_ok-below-in-Some.ensures, c.decreases), (live, here))

pub returns-in_err-right-in-Some-clause-height : goal.returns-in_err-right-in-Some-clause-height
returns-in_err-right-in-Some-clause-height g t c =
    let h = subst (λ (k : Cloned). HeightAt (image k) c.in-Some.copy.right c.in_ok-below-in-Some.below None) (c.settled_height.ensures.view ∙ c.row_at.ensures.view) c.in_err-right-in-Some.ensures.height in
    subst (HeightAt (image c.args.self.now) c.args.row c.args.levels) (sym c.from_residual-in_err-right-in-Some.ensures) (none_right (image c.args.self.now) c.args.row c.args.levels c.in-Some.copy c.in-Some.ensures.top c.in_ok-below-in-Some.below (omega (arith, c.in_ok-below-in-Some.ensures)) h)

pub returns-then-is_needed-clause-height : goal.returns-then-is_needed-clause-height
returns-then-is_needed-clause-height g t c =
    let now : Cloned = c.args.self.now in let below : ℕ = c.in_ok-below-in-Some.below in
    let a = subst (λ (k : Cloned). HeightAt (image k) c.in-Some.copy.left below (Some c.in_ok-left-in-Some.left)) c.row_at.ensures.view c.in_ok-left-in-Some.ensures.height in
    let b = subst (λ (k : Cloned). HeightAt (image k) c.in-Some.copy.right below (Some c.in_ok-right-in-Some.right)) (c.settled_height.ensures.view ∙ c.row_at.ensures.view) c.in_ok-right-in-Some.ensures.height in
    some_height (image now) c.args.row c.args.levels c.in-Some.copy c.in-Some.ensures.top below (omega (arith, c.in_ok-below-in-Some.ensures)) c.in_ok-left-in-Some.left c.in_ok-right-in-Some.right a b (search rules) (search rules)

pub returns-else-is_balanced-clause-height : goal.returns-else-is_balanced-clause-height
returns-else-is_balanced-clause-height g t c =
    let now : Cloned = c.args.self.now in let below : ℕ = c.in_ok-below-in-Some.below in let is : c.args.levels ≡ below + 1 = omega (arith, c.in_ok-below-in-Some.ensures) in
    let a = subst (λ (k : Cloned). HeightAt (image k) c.in-Some.copy.left below (Some c.in_ok-left-in-Some.left)) c.row_at.ensures.view c.in_ok-left-in-Some.ensures.height in
    let b = subst (λ (k : Cloned). HeightAt (image k) c.in-Some.copy.right below (Some c.in_ok-right-in-Some.right)) (c.settled_height.ensures.view ∙ c.row_at.ensures.view) c.in_ok-right-in-Some.ensures.height in
    let placed = subst (λ (k : Cloned). ArePlaced k.rows (image k)) c.self.view_is c.self.invariant.placed in
    elim c.else-is_balanced.branch [
      | else-is_balanced-via-then-is_balanced+else-is_needed w ↦ none_needed (image now) c.args.row c.args.levels c.in-Some.copy c.in-Some.ensures.top below is c.in_ok-left-in-Some.left c.in_ok-right-in-Some.right a b now.rows placed (λ h. none_so w.is_needed.result w.if-is_needed.false (w.is_needed.ensures.1 h))
      | else-is_balanced-via-else-is_balanced w ↦ none_balanced (image now) c.args.row c.args.levels c.in-Some.copy c.in-Some.ensures.top below is c.in_ok-left-in-Some.left c.in_ok-right-in-Some.right a b (λ h. none_so c.is_balanced.result w.if-is_balanced.false (c.is_balanced.ensures.1 h))
    ]
