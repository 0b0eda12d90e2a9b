-- What a pass reads behind its own put.
use Rattle.std.proofs.Common.{◌≡◌, ℕ, List, [], ◌∷◌, ◌++◌, Option, refl, ap, sym, ◌∙◌}
use Rattle.std.proofs.lemmas.List.{append_assoc, append-nil}
use Rattle.snap_model.specs.History.{told}
use Rattle.snap_prelude.specs.{Entry, entry_of, Known, Put}
use Rattle.snap_prelude.proofs.Common.{told_other, told_same}
use Rattle.snap_search.specs.Prelude.{Reads}
use Rattle.snap_table.specs.Calls.{Replies}
use Rattle.map_tour.specs.Tour.{ReadsOwn, Spares}

-- entries at other keys change nothing at this one
told_spared : (h more : List Entry) (key : ℕ) → Spares key more → told (h ++ more) key ≡ told h key
told_spared h [] key s = ap (λ (l : List Entry). told l key) (append-nil h)
told_spared h (e ∷ es) key s =
    ap (λ (l : List Entry). told l key) (sym (append_assoc h (e ∷ []) es)) ∙ told_spared (h ++ e ∷ []) es key s.1 ∙ told_other h e key s.0

pub reads_own : (old mid new : Known) (key value : ℕ) (reply answer : Option ℕ) → Replies old mid (Put key value) reply → Reads mid new key answer → ReadsOwn new key value answer
reads_own old mid new key value reply answer p r =
    let own : Entry = entry_of old.view.who (Put key value) reply in
    let rest : List Entry = r.extends.goes_on.rest in
    record {
      before = p.log;
      own = own;
      since = rest;
      seen = sym r.extends.goes_on.is ∙ ap (λ (l : List Entry). l ++ rest) p.seen ∙ append_assoc p.log (own ∷ []) rest;
      who = sym (ap (λ (k : Known). k.view.who) r.is ∙ ap (λ (k : Known). k.view.who) p.is);
      puts = refl;
      tells = r.tells;
      alone = λ s. r.tells ∙ ap (λ (l : List Entry). told l key) (sym r.extends.goes_on.is) ∙ told_spared mid.view.seen rest key s ∙ ap (λ (l : List Entry). told l key) p.seen ∙ told_same p.log own;
    }
