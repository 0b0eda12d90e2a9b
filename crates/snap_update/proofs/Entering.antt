-- The entry of a write, what comes before it, and the release of the lock after it.
use Rattle.std.proofs.Common.{◌≡◌, inl, inr, ℕ, ◌≤◌, List, [], ◌∷◌, ◌++◌, append-nil, Option, None, refl, sym, ap, ◌∙◌, subst, arith}
use Rattle.snap_locks.specs.Held.{HasLocked, with_refusals}
use Rattle.snap_prelude.specs.{all_noted, Becomes, Begins, Call, calls_of, drew, Enters, Entry, entry_of, Fact, Field}
use Rattle.snap_prelude.specs.{HasDrawn, hung, IsLegal, Known, locked, made_entry, no_more_reached, notes_of, Put}
use Rattle.snap_prelude.specs.{removed, same_rows, SeesMore, stored, times, unlocked, View, WordNote}
use Rattle.snap_search.proofs.{Walking.begins_on, Working.no_notes, Working.notes_on}
use Rattle.snap_rule.specs.declared.debt.Debt.{Debt}
use Rattle.snap_update.specs.Answers.{GoesOn, LinksWhatItDraws, Made, Writes}
use Rattle.snap_update.specs.Held.{MakesLeaf, stored_in}
use Rattle.snap_update.proofs.Going.{written_on, removed_added, alone_removed, goes_links, links_on}
use Rattle.snap_update.proofs.Holding.{removed_alone}

abbrev known : Known → View → Known
known k v = record { table = k.table; view = v }

-- an entry that may be made after more was seen may be made before
enters_from : (v w : View) (h : List Entry) (call : Call) (reply : Option ℕ) → w.who ≡ v.who → w.mine ≡ v.mine → SeesMore v w → Enters w h (entry_of w.who call reply) → Enters v h (entry_of v.who call reply)
enters_from v w h call reply who mine sees e = record {
  goes_on = begins sees e.goes_on;
  legal = subst (λ (i : ℕ). IsLegal (h ++ entry_of i call reply ∷ [])) who e.legal;
  own = ap (calls_of h) (sym who) ∙ e.own ∙ mine;
}
  where
    begins : SeesMore v w → Begins w.seen h → Begins v.seen h
    begins (inl q) b = subst (λ (l : List Entry). Begins l h) q b
    begins (inr x) b = begins_on v.seen w.seen h x.goes_on b

pub no_links : (v w : View) → w.drawn ≡ v.drawn → ((r : ℕ) → times r w.fresh.own ≤ times r v.fresh.own) → LinksWhatItDraws v w
no_links v w drawn own = record { rows = []; drawn = drawn ∙ sym (append-nil v.drawn); linked = λ r some_r. absurd (omega arith); no_more = own }

-- a write that went on before it made its entry
pub made_after : (old mid new : Known) (key : ℕ) (r : List ℕ) (l : List WordNote) (call : Call) (reply : Option ℕ) → GoesOn old mid key r l → Made mid new call reply → Made old new call reply
made_after old mid new key r l call reply g m =
    let who : mid.view.who ≡ old.view.who = ap (λ (k : Known). k.view.who) g.is in
    let same = ap (λ (i : ℕ). entry_of i call reply) who in record {
      is = written_on old mid new g.is m.is;
      log = m.log;
      enters = enters_from old.view mid.view m.log call reply who g.mine g.sees m.enters;
      seen = m.seen ∙ ap (λ (e : Entry). m.log ++ e ∷ []) same;
      mine = m.mine ∙ (λ i. g.mine i ++ same i ∷ []);
      stage = m.stage;
      more = l ++ m.more;
      noted = notes_on old.view mid.view new.view l m.more g.noted m.noted;
      links = links_on old.view mid.view new.view (goes_links old mid key r l g) m.links m.reached;
      reached = λ n. omega (arith, g.reached n, m.reached n);
    }

pub writes_after : (old mid new : Known) (key : ℕ) (r : List ℕ) (l : List WordNote) (call : Call) (reply : Option ℕ) → GoesOn old mid key r l → Writes mid new call reply → Writes old new call reply
writes_after old mid new key r l call reply g m = record { made = made_after old mid new key r l call reply g m.made; holds = m.holds ∙ g.holds }

-- a write whose row is locked before it and freed after it
freed : (old b : Known) (refused : List Fact) (row : ℕ) (call : Call) (reply : Option ℕ) → Writes (known old (locked (with_refusals old.view refused) row)) b call reply → old.view.holds ≡ [] → Writes old (known b (unlocked b.view row)) call reply
freed old b refused row call reply w free = let m = w.made in record {
  made = record {
    is = ap (λ (k : Known). known k (unlocked k.view row)) m.is;
    log = m.log;
    enters = record { goes_on = m.enters.goes_on; legal = m.enters.legal; own = m.enters.own };
    seen = m.seen;
    mine = m.mine;
    stage = m.stage;
    more = m.more;
    noted = m.noted;
    links = record { rows = m.links.rows; drawn = m.links.drawn; linked = m.links.linked; no_more = m.links.no_more };
    reached = m.reached;
  };
  holds = ap (removed row) (w.holds ∙ ap (λ (h : List ℕ). row ∷ h) free) ∙ removed_alone row ∙ sym free;
}

pub writes_locked : (old a b new : Known) (row : ℕ) (call : Call) (reply : Option ℕ) → HasLocked old a row → Writes a b call reply → Becomes b new (unlocked b.view row) → old.view.holds ≡ [] → Writes old new call reply
writes_locked old a b new row call reply h w e free = subst (λ (k : Known). Writes old k call reply) (sym e) (freed old b h.refused row call reply (subst (λ (k : Known). Writes k b call reply) h.is w) free)

-- the entry is made, whatever is known of held rows then, and owed
makes_entry : (old new : Known) (call : Call) (reply : Option ℕ) (log : List Entry) (knows : List Fact) (debt : Debt) → Enters old.view log (entry_of old.view.who call reply) → Becomes old new (record (made_entry old.view log (entry_of old.view.who call reply)) { words = record old.view.words { knows = knows }; debt = debt }) → Writes old new call reply
makes_entry old new call reply log knows debt enters e =
    let w : View = record (made_entry old.view log (entry_of old.view.who call reply)) { words = record old.view.words { knows = knows }; debt = debt } in
    let whole : Writes old (known old w) call reply = record {
      made = record {
        is = refl;
        log = log;
        enters = enters;
        seen = refl;
        mine = refl;
        stage = refl;
        more = [];
        noted = no_notes old.view w refl refl refl (λ h. h);
        links = no_links old.view w refl (λ r. omega arith);
        reached = λ r. omega arith;
      };
      holds = refl;
    } in subst (λ (k : Known). Writes old k call reply) (sym e) whole

-- the entry at the row that has the key: its value word was stored, or was 0
pub stores_here : (old new : Known) (call : Call) (reply : Option ℕ) (log : List Entry) (row x : ℕ) → Enters old.view log (entry_of old.view.who call reply) → Becomes old new (stored old.view log (entry_of old.view.who call reply) row x) → Writes old new call reply
stores_here old new call reply log row x =
    let w : View = stored old.view log (entry_of old.view.who call reply) row x in
    makes_entry old new call reply log w.words.knows w.debt

pub confirms_here : (old new : Known) (call : Call) (reply : Option ℕ) (log : List Entry) → Enters old.view log (entry_of old.view.who call reply) → Becomes old new (made_entry old.view log (entry_of old.view.who call reply)) → Writes old new call reply
confirms_here old new call reply log = makes_entry old new call reply log old.view.words.knows old.view.debt

-- the pass once it drew the leaf, made it one, and linked it
abbrev filled : View → List WordNote → ℕ → View → View
filled v l leaf w = let u : View = drew (all_noted v l) leaf in record u { trail = no_more_reached u.trail w.trail; fresh = same_rows u.fresh w.fresh }

hangs_at : (old : Known) (l : List WordNote) (leaf : ℕ) (w : View) (call : Call) (parent : ℕ) (field : Field) (log : List Entry) → Enters (filled old.view l leaf w) log (entry_of old.view.who call None) → Writes old (known old (hung (filled old.view l leaf w) log (entry_of old.view.who call None) parent field leaf)) call None
hangs_at old l leaf w call parent field log enters = record {
  made = record {
    is = refl;
    log = log;
    enters = record { goes_on = enters.goes_on; legal = enters.legal; own = enters.own };
    seen = refl;
    mine = refl;
    stage = refl;
    more = l;
    noted = record { notes = refl; handed = refl; epochs = refl; worn = λ h. h };
    links = record {
      rows = leaf ∷ [];
      drawn = refl;
      linked = λ r some_r. (alone_removed leaf r (leaf ∷ old.view.fresh.own) some_r, omega (arith, some_r));
      no_more = λ r. removed_added leaf r old.view.fresh.own;
    };
    reached = λ r. omega arith;
  };
  holds = refl;
}

pub hangs : (rows : ℕ) (old a b new : Known) (leaf key value parent : ℕ) (field : Field) (log : List Entry) → HasDrawn rows old a leaf → MakesLeaf a b leaf key value → Enters b.view log (entry_of b.view.who (Put key value) None) → Becomes b new (hung b.view log (entry_of b.view.who (Put key value) None) parent field leaf) → Writes old new (Put key value) None
hangs rows old a b new leaf key value parent field log d f enters e =
    let l : List WordNote = notes_of d.0 in let call : Call = Put key value in
    let is : (let k : Known = known old (filled old.view l leaf b.view) in b ≡ k) = f.is ∙ ap (λ (k : Known). stored_in k b.view) d.3 in
    let whole : (let k : Known = known old (hung (filled old.view l leaf b.view) log (entry_of old.view.who call None) parent field leaf) in new ≡ k) = e ∙ ap (λ (k : Known). known k (hung k.view log (entry_of k.view.who call None) parent field leaf)) is in
    subst (λ (k : Known). Writes old k call None) (sym whole) (hangs_at old l leaf b.view call parent field log (subst (λ (k : Known). Enters k.view log (entry_of k.view.who call None)) is enters))
