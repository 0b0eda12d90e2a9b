use Rattle.std.proofs.Common.{rules, ◌≡◌, ◌∙◌, ◌+◌, ap, subst, sym, [], ℕ, None, Option, add-one}
use Rattle.snap_prelude.specs.{Becomes, Call, call_of, Key, Known, Put, read, Remove, Value, value_of}
use Rattle.snap_search.specs.Prelude.{Works}
use Rattle.snap_search.proofs.Working.{works_on, word_works}
use Rattle.snap_update.specs.{Answers.Writes, Held.IsStill}
use Rattle.snap_update.proofs.{Entering.confirms_here, Entering.stores_here, Entering.writes_after, Going.goes_works}
use Rattle.snap_update.proofs.here.store_here.Goals as goal

-- the loads before the entry
loaded : (old a b : Known) (row stamp key : ℕ) → IsStill old a row stamp → Becomes a b (read a.view row Key key) → Works old b []
loaded old a b row stamp key s k = works_on old a b [] [] s.works (word_works a b row Key key k)

with_value : (old b d : Known) (row word : ℕ) → Works old b [] → Becomes b d (read b.view row Value word) → Works old d []
with_value old b d row word w v = works_on old b d [] [] w (word_works b d row Value word v)

pub returns-then-load_word-eq0 : goal.returns-then-load_word-eq0
returns-then-load_word-eq0 c =
    let old : Known = c.args.pass.now in let b : Known = c.load_key-key.new.pass in let d : Known = c.load_word.new.pass in let new : Known = c.confirm_absent.new.pass in
    let key : ℕ = c.load_key-key.result in
    let works = with_value old b d c.args.row c.load_word.result (loaded old c.live_stamp.new.pass b c.args.row c.in-Some.field-0 key c.in-Some.ensures c.load_key-key.ensures.pass) c.load_word.ensures.pass in
    let same : c.in-Remove.wanted ≡ key = search rules in
    let is : c.args.call.now ≡ Remove key = c.in-Remove.is ∙ ap (λ (k : ℕ). Remove k) same in
    let e = c.confirm_absent.ensures in
    subst (λ (x : Call). Writes old new x None) (sym is) (writes_after old d new key [] [] (Remove key) None (goes_works old d key [] works) (confirms_here d new (Remove key) None e.0 e.1 e.2))

pub returns-else-wanted-key : goal.returns-else-wanted-key
returns-else-wanted-key c =
    let old : Known = c.args.pass.now in let b : Known = c.load_key-key.new.pass in let new : Known = c.store_value.new.pass in
    let key : ℕ = c.load_key-key.result in let put : Call = Put key c.in-Put.value in let was : Option ℕ = value_of c.store_value.result in
    let works = loaded old c.live_stamp.new.pass b c.args.row c.in-Some.field-0 key c.in-Some.ensures c.load_key-key.ensures.pass in
    let same : c.in-Put.wanted ≡ key = search rules in
    let is : c.args.call.now ≡ put = c.in-Put.is ∙ ap (λ (k : ℕ). Put k c.in-Put.value) same in
    let e = c.store_value.ensures.entry in
    let made : Writes b new (call_of key (c.in-Put.value + 1)) was = stores_here b new (call_of key (c.in-Put.value + 1)) was e.0 c.args.row (c.in-Put.value + 1) e.1 e.2 in
    let as_put : Writes b new put was = subst (λ (n : ℕ). Writes b new (call_of key n) was) (add-one c.in-Put.value) made in
    subst (λ (r : Option ℕ). Writes old new c.args.call.now r) (sym c.value_of.ensures)
    (subst (λ (x : Call). Writes old new x was) (sym is) (writes_after old b new key [] [] put was (goes_works old b key [] works) as_put))

pub returns-else-load_word-eq0 : goal.returns-else-load_word-eq0
returns-else-load_word-eq0 c =
    let old : Known = c.args.pass.now in let b : Known = c.load_key-key.new.pass in let d : Known = c.load_word.new.pass in let new : Known = c.store_value-in-Remove.new.pass in
    let key : ℕ = c.load_key-key.result in let was : Option ℕ = value_of c.store_value-in-Remove.result in
    let works = with_value old b d c.args.row c.load_word.result (loaded old c.live_stamp.new.pass b c.args.row c.in-Some.field-0 key c.in-Some.ensures c.load_key-key.ensures.pass) c.load_word.ensures.pass in
    let same : c.in-Remove.wanted ≡ key = search rules in
    let is : c.args.call.now ≡ Remove key = c.in-Remove.is ∙ ap (λ (k : ℕ). Remove k) same in
    let e = c.store_value-in-Remove.ensures.entry in
    let made : Writes d new (Remove key) was = stores_here d new (Remove key) was e.0 c.args.row 0 e.1 e.2 in
    subst (λ (r : Option ℕ). Writes old new c.args.call.now r) (sym c.value_of-in-Remove.ensures)
    (subst (λ (x : Call). Writes old new x was) (sym is) (writes_after old d new key [] [] (Remove key) was (goes_works old d key [] works) made))
