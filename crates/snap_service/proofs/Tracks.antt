-- What the calls of a table do to what counts of a pass.
use Rattle.std.proofs.Common.{◌≡◌, ◌≤◌, ◌<◌, ◌+◌, ℕ, Bool, true, false, List, [], ◌∷◌, ◌++◌, length, Option, inl, inr, refl, ap, sym, ◌∙◌, subst, arith, append_assoc, length-append, ◌⊎◌, ◌||◌}
use Rattle.snap_fits.specs.Fits.{IsNewKey, made_by}
use Rattle.snap_fits.specs.Steps as steps
use Rattle.snap_fits.proofs.Prefixes.{begins_is, begins_length}
use Rattle.snap_prelude.specs.{Begins, Call, call_key, calls_of, Cloned, Entry, Known}
use Rattle.snap_prelude.specs.{Pairs, Put, Remove, SeesMore, TakesBack, View, WordNote}
use Rattle.snap_model.specs.History.{told}
use Rattle.snap_search.specs.Prelude.{Reads}
use Rattle.snap_prelude.proofs.Common.{of_mine}
use Rattle.snap_table.specs.{Calls.Refuses, Calls.Replies, Clones.Cuts}
use Rattle.snap_update.specs.Answers.{PutsAbsent, NeedsRow}
use Rattle.snap_service.specs.Prelude.{PutAll, track_of}
use Rattle.snap_service.proofs.Notes.{handed_grows, epochs_grow, in_handed, in_epochs, some_epoch}

-- one entry more
begins_more : (xs ys : List Entry) (e : Entry) → Begins xs ys → Begins xs (ys ++ e ∷ [])
begins_more xs ys e b = record { rest = b.rest ++ e ∷ []; is = sym (append_assoc xs b.rest (e ∷ [])) ∙ ap (λ (l : List Entry). l ++ e ∷ []) b.is }

pub wrote : (old new : Known) (call : Call) (was : Option ℕ) → Replies old new call was → steps.TrackWrites (track_of old) (track_of new) call was
wrote old new call was h =
    let e : Entry = made_by old.view.who call was in
    let who : new.view.who ≡ old.view.who = ap (λ (k : Known). k.view.who) h.is in
    let cuts : new.view.cuts ≡ old.view.cuts = ap (λ (k : Known). k.view.cuts) h.is in
    let more : length old.view.seen ≤ length h.log = begins_length old.view.seen h.log h.enters.goes_on in
    let long : length new.view.seen ≡ length h.log + 1 = ap length h.seen ∙ length-append h.log (e ∷ []) in
    record {
      on = record {
        who = who;
        own = λ _. ap (λ (i : ℕ). calls_of new.view.seen i) who ∙ ap (λ (l : List Entry). calls_of l old.view.who) h.seen ∙ of_mine h.log e old.view.who refl
            ∙ ap (λ (l : List Entry). l ++ e ∷ []) h.enters.own ∙ sym h.mine;
        seen = subst (λ (l : List Entry). Begins old.view.seen l) (sym h.seen) (begins_more old.view.seen h.log e h.enters.goes_on);
        handed = omega (arith, h.noted.handed, handed_grows old.view.noted.handed h.more);
        epochs = omega (arith, h.noted.epochs, epochs_grow old.view.noted.epochs h.more);
        cuts = begins_is old.view.cuts new.view.cuts (sym cuts);
        worn = h.noted.worn;
      };
      longer = omega arith;
      last = record { before = h.log; is = h.seen };
      mine = h.mine;
      cuts = cuts;
    }

-- what was seen goes on, with the same own entries
sees : (old new : View) → SeesMore old new → Begins old.seen new.seen
sees old new (inl e) = begins_is old.seen new.seen (sym e)
sees old new (inr x) = x.goes_on

sees_own : (old new : View) → SeesMore old new → calls_of old.seen old.who ≡ old.mine → calls_of new.seen old.who ≡ old.mine
sees_own old new (inl e) own = ap (λ (l : List Entry). calls_of l old.who) e ∙ own
sees_own old new (inr x) own = x.own

new_key : (call : Call) (h : List Entry) → PutsAbsent call h → IsNewKey call h
unfolding told
new_key (Put k v) h a = a
new_key (Remove k) h a = a

cause : (call : Call) (seen : List Entry) (epoch handed : ℕ) (drawn : List ℕ) (more : List WordNote) (epochs : ℕ) → epoch ≤ epochs → NeedsRow call seen epoch drawn more → IsNewKey call seen ⊎ (0 < epochs)
cause call seen epoch handed drawn more epochs low (inl a) = inl (new_key call seen a)
cause call seen epoch handed drawn more epochs low (inr n) = inr (let s = some_epoch (call_key call) epoch (length drawn) more n in omega arith)

pub refused : (rows : ℕ) (old new : Known) (call : Call) → Refuses rows old new call → steps.TrackRefuses rows (track_of old) (track_of new) call
refused rows old new call h =
    let who : new.view.who ≡ old.view.who = ap (λ (k : Known). k.view.who) h.is in
    let cuts : new.view.cuts ≡ old.view.cuts = ap (λ (k : Known). k.view.cuts) h.is in
    record {
      on = record {
        who = who;
        own = λ o. ap (λ (i : ℕ). calls_of new.view.seen i) who ∙ sees_own old.view new.view h.sees o ∙ sym h.mine;
        seen = sees old.view new.view h.sees;
        handed = omega (arith, h.noted.handed, handed_grows old.view.noted.handed h.more);
        epochs = omega (arith, h.noted.epochs, epochs_grow old.view.noted.epochs h.more);
        cuts = begins_is old.view.cuts new.view.cuts (sym cuts);
        worn = h.noted.worn;
      };
      mine = h.mine;
      cuts = cuts;
      full = omega (arith, h.noted.handed, in_handed old.view.noted.handed rows h.more h.full);
      cause = cause call new.view.seen h.epoch 0 h.links.rows h.more new.view.noted.epochs (omega (arith, h.noted.epochs, in_epochs old.view.noted.epochs h.epoch h.more h.epoch_noted)) h.cause;
    }

pub read : (old new : Known) (key : ℕ) (answer : Option ℕ) → Reads old new key answer → steps.TrackReads (track_of old) (track_of new) key answer
unfolding told
read old new key answer h =
    let who : new.view.who ≡ old.view.who = ap (λ (k : Known). k.view.who) h.is in
    let mine : new.view.mine ≡ old.view.mine = ap (λ (k : Known). k.view.mine) h.is in
    let cuts : new.view.cuts ≡ old.view.cuts = ap (λ (k : Known). k.view.cuts) h.is in
    let handed : new.view.noted.handed ≡ old.view.noted.handed = ap (λ (k : Known). k.view.noted.handed) h.is in
    let epochs : new.view.noted.epochs ≡ old.view.noted.epochs = ap (λ (k : Known). k.view.noted.epochs) h.is in
    record {
      on = record {
        who = who;
        own = λ _. ap (λ (i : ℕ). calls_of new.view.seen i) who ∙ h.extends.own ∙ sym mine;
        seen = h.extends.goes_on;
        handed = omega arith;
        epochs = omega arith;
        cuts = begins_is old.view.cuts new.view.cuts (sym cuts);
        worn = λ e. ap (λ (k : Known). k.view.noted.worn) h.is ∙ e;
      };
      mine = mine;
      cuts = cuts;
      told = h.tells;
    }

pub cut : (old new : Known) (clone : Cloned) → Cuts old new clone → steps.TrackCuts (track_of old) (track_of new) clone.base clone.next
cut old new clone c =
    let h = c.cut in
    let who : new.view.who ≡ old.view.who = ap (λ (k : Known). k.view.who) h.is in
    let mine : new.view.mine ≡ old.view.mine = ap (λ (k : Known). k.view.mine) h.is in
    let epochs : new.view.noted.epochs ≡ old.view.noted.epochs = ap (λ (k : Known). k.view.noted.epochs) h.is in
    record {
      on = record {
        who = who;
        own = λ _. ap (λ (i : ℕ). calls_of new.view.seen i) who ∙ ap (λ (l : List Entry). calls_of l old.view.who) h.seen ∙ h.extends.own ∙ sym mine;
        seen = subst (λ (l : List Entry). Begins old.view.seen l) (sym h.seen) h.extends.goes_on;
        handed = omega (arith, h.noted.handed, handed_grows old.view.noted.handed h.more);
        epochs = omega arith;
        cuts = record { rest = length clone.base ∷ []; is = sym h.cuts };
        worn = λ e. ap (λ (k : Known). k.view.noted.worn) h.is ∙ e;
      };
      whole = h.seen;
      handed = omega (arith, h.noted.handed, in_handed old.view.noted.handed clone.next h.more h.loaded);
      mine = mine;
      cuts = h.cuts;
    }

-- a view was given back
pub learnt : (old new : Known) (clone : Cloned) → TakesBack old new clone → steps.Learns (track_of old) (track_of new)
learnt old new clone h =
    let is = h.pass in
    let who : new.view.who ≡ old.view.who = ap (λ (k : Known). k.view.who) is in
    let mine : new.view.mine ≡ old.view.mine = ap (λ (k : Known). k.view.mine) is in
    let cuts : new.view.cuts ≡ old.view.cuts = ap (λ (k : Known). k.view.cuts) is in
    let seen : new.view.seen ≡ h.seen = ap (λ (k : Known). k.view.seen) is in
    record {
      on = record {
        who = who;
        own = λ _. ap (λ (i : ℕ). calls_of new.view.seen i) who ∙ ap (λ (l : List Entry). calls_of l old.view.who) seen ∙ h.extends.own ∙ sym mine;
        seen = subst (λ (l : List Entry). Begins old.view.seen l) (sym seen) h.extends.goes_on;
        handed = omega (arith, ap (λ (k : Known). k.view.noted.handed) is);
        epochs = omega (arith, ap (λ (k : Known). k.view.noted.epochs) is);
        cuts = begins_is old.view.cuts new.view.cuts (sym cuts);
        worn = λ e. ap (λ (k : Known). k.view.noted.worn) is ∙ ap (λ (b : Bool). b || clone.worn) e;
      };
      mine = mine;
      cuts = cuts;
    }

pub or_true : (b : Bool) → (b || true) ≡ true
or_true true = refl
or_true false = refl

pub worn_learnt : (old new : Known) (clone : Cloned) → TakesBack old new clone → clone.worn ≡ true → new.view.noted.worn ≡ true
worn_learnt old new clone h e = ap (λ (k : Known). k.view.noted.worn) h.pass ∙ ap (λ (b : Bool). old.view.noted.worn || b) e ∙ or_true old.view.noted.worn

pub put_all : (old : Known) (xs : Pairs) (new : Known) → PutAll old xs new → steps.PutsAll (track_of old) xs (track_of new)
put_all old [] new h = ap track_of h
put_all old (x ∷ xs) new h = (track_of h.0, (h.1.0, wrote old h.0 (Put x.0 x.1) h.1.0 h.1.1), put_all h.0 xs new h.2)
