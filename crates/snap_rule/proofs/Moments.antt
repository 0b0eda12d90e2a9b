-- Prefixes of histories, and moments between two histories.
use Rattle.std.proofs.Common.{List, [], ◌++◌, ap, sym, ◌∙◌, append_assoc, append-nil}
use Rattle.snap_model.specs.History.{Begins}
use Rattle.snap_rule.specs.Moments.{AtSome}
use Rattle.snap_model.specs.declared.call.Entry.{Entry}

pub begins_refl : (xs : List Entry) → Begins xs xs
begins_refl xs = record { rest = []; is = append-nil xs }

pub begins_trans : (xs ys zs : List Entry) → Begins xs ys → Begins ys zs → Begins xs zs
begins_trans xs ys zs a b = record {
  rest = a.rest ++ b.rest;
  is = sym (append_assoc xs a.rest b.rest) ∙ ap (λ (l : List Entry). l ++ b.rest) a.is ∙ b.is;
}

module _ (seen h h' : List Entry) (Q : List Entry → Type 0) where
  -- a moment stays one while the history grows
  pub later_history : Begins h h' → AtSome seen h Q → AtSome seen h' Q
  later_history g a = record { moment = a.moment; later = a.later; made = begins_trans a.moment h h' a.made g; holds = a.holds }

-- the moment of now
pub now : (seen h : List Entry) (Q : List Entry → Type 0) → Begins seen h → Q h → AtSome seen h Q
now seen h Q b q = record { moment = h; later = b; made = begins_refl h; holds = q }

pub at_moment : (seen h : List Entry) (Q R : List Entry → Type 0) → ((p : List Entry) → Q p → R p) → AtSome seen h Q → AtSome seen h R
at_moment seen h Q R f a = record { moment = a.moment; later = a.later; made = a.made; holds = f a.moment a.holds }

-- who has seen less may take the same moment
pub seen_less : (seen seen' h : List Entry) (Q : List Entry → Type 0) → Begins seen seen' → AtSome seen' h Q → AtSome seen h Q
seen_less seen seen' h Q b a = record { moment = a.moment; later = begins_trans seen seen' a.moment b a.later; made = a.made; holds = a.holds }
