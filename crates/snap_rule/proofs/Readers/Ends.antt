-- The loads that end a part of a reader's way.
use Rattle.std.proofs.Common.{◌≡◌, ℕ, inr, List, Option, Some, None, refl, ap, sym, ◌∙◌}
use Rattle.snap_rule.specs.Moments.{AtSome}
use Rattle.snap_model.specs.History.{told}
use Rattle.snap_model.specs.declared.call.Entry.{Entry}
use Rattle.snap_stamp.specs.Sides.{Toward}
use Rattle.snap_rule.specs.Tree.{value_word, value_of}
use Rattle.snap_stamp.specs.declared.side.Side.{Side}
use Rattle.snap_rule.specs.State.{State}
use Rattle.snap_rule.specs.Reader.{ReaderOk}
use Rattle.snap_rule.specs.declared.reader.Point.TheVariants.{Standing, NoLink, Relinked, Confirmed, ConfirmedNone, Matched}
use Rattle.snap_rule.specs.Rule.{LinksOk}
use Rattle.snap_rule.proofs.Moments.{at_moment}

-- n's stamp is confirmed, after a link 0 and after a row
pub none_confirmed : (s : State) (seen : List Entry) (k n v : ℕ) (d : Side) → ReaderOk s seen k (NoLink n v d) → s.stamp n ≡ v
    → ReaderOk s seen k ConfirmedNone
none_confirmed s seen k n v d h e = record { begins = h.begins; at_point = h.at_point.1 e }

pub row_confirmed : (s : State) (seen : List Entry) (k n v c w : ℕ) → ReaderOk s seen k (Relinked n v c w) → s.stamp n ≡ v
    → ReaderOk s seen k (Confirmed c w)
row_confirmed s seen k n v c w h e = record { begins = h.begins; at_point = (h.at_point.1, h.at_point.2 e) }

-- c's key is another, or the key
pub key_differs : (s : State) (links_ok : LinksOk s) (seen : List Entry) (k c w : ℕ) (d : Side) → ReaderOk s seen k (Confirmed c w)
    → Toward d k (s.key c)
    → ReaderOk s seen k (Standing c w d)
key_differs s links_ok seen k c w d h t = record {
  begins = h.begins;
  at_point = record { stamp = h.at_point.0.stamp; faces = inr ((λ e. links_ok.no_zero (rw e at h.at_point.0.linked)), t); placed = h.at_point.1.placed };
}

pub key_matches : (s : State) (seen : List Entry) (k c w : ℕ) → ReaderOk s seen k (Confirmed c w) → s.key c ≡ k → ReaderOk s seen k (Matched c)
key_matches s seen k c w h e = record { begins = h.begins; at_point = (h.at_point.0.linked, e, h.at_point.1.tells e) }

value_of_word : (o : Option ℕ) → value_of (value_word o) ≡ o
value_of_word None = refl
value_of_word (Some v) = refl

-- the answers
pub value_loaded : (s : State) (seen : List Entry) (k c : ℕ) → ReaderOk s seen k (Matched c)
    → AtSome seen s.history (λ p. value_of (s.value c) ≡ told p k)
value_loaded s seen k c h = at_moment seen s.history (λ p. s.value c ≡ value_word (told p k)) (λ p. value_of (s.value c) ≡ told p k) (λ p e. ap value_of e ∙ value_of_word (told p k)) h.at_point.2

pub none_answered : (s : State) (seen : List Entry) (k : ℕ) → ReaderOk s seen k ConfirmedNone → AtSome seen s.history (λ p. None ≡ told p k)
none_answered s seen k h = at_moment seen s.history (λ p. told p k ≡ None) (λ p. None ≡ told p k) (λ p e. sym e) h.at_point
