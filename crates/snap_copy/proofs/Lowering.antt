-- What a repair gets of a copy, or of a child that needs none.
use Rattle.std.proofs.Common.{⊎_elim, ◌≡◌, ◌⊎◌, ◌∙◌, ◌≤◌, inl, inr, None, Bool, true, false, ℕ, List, [], ◌∷◌, ◌++◌, append-nil, refl, sym, ap, subst, arith}
use Rattle.snap_prelude.proofs.Common.{dite, one_other, removed_other, removed_same, ℕ_discrete}
use Rattle.snap_copy.specs.Lowering.{IsOwnNow, LacksRows, OwnsLower, wanted}
use Rattle.snap_copy.specs.Mending.{Firm, LinksWhatItDraws, Mends, MendsTo, NoWord, TellsFull, mended}
use Rattle.snap_copy.proofs.Copying.{epoch_not_full, stays_by, stays_on, with_copy_on}
use Rattle.snap_copy.proofs.Keeping.{epoch_keeps, place_still}
use Rattle.snap_copy.specs.Owning.{IsCopiedAt, IsOwn, Lacks, LacksAt, OwnsAt, ChangesOnly, stayed, with_copy}
use Rattle.snap_copy.specs.declared.Wanted.{Wanted}
use Rattle.snap_prelude.specs.{all_handed, Among, Becomes, copies_for, Done, Epoch, epoch_noted, Field, Gate}
use Rattle.snap_prelude.specs.{handed_after, HasHeight, In, IsBelow, IsBelowTilt, IsBorn, IsKnown, IsTilt, IsWriting}
use Rattle.snap_prelude.specs.{Known, link_field, Next, NotesMore, other, removed, Side, times, Trouble, View, WordNote}
use Rattle.snap_search.specs.Prelude.{Works}
use Rattle.snap_search.proofs.Walking.{sees_on}
use Rattle.snap_search.proofs.Working.{epoch_now, epoch_works, notes_on, works_on}
use Rattle.snap_steps.specs.declared.view.WordNote.TheVariants.{Left, Birth}

-- the place of a repair's copy
tilt_place : (v : View) (upper parent : ℕ) (d : Side) → Among parent v.holds → (Among parent v.trail.reached) × IsBorn v parent → (t : IsTilt v upper parent d) → IsBelowTilt v parent d t.child
tilt_place v upper parent d held live t = record { held = held; live = live; child_is = t.leads; upper = upper; tilt = t }

-- and it is that still once the epoch was loaded
pub place_after : (old a : Known) (e upper parent : ℕ) (d : Side) → Becomes old a (epoch_noted old.view e) → Among parent old.view.holds → (Among parent old.view.trail.reached) × IsBorn old.view parent → (t : IsTilt old.view upper parent d) → IsBelowTilt a.view parent d t.child
place_after old a e upper parent d load held live t = subst (λ (k : Known). IsBelowTilt k.view parent d t.child) (sym load) (place_still old.view (epoch_noted old.view e) None parent d t.child (epoch_keeps old.view e) (tilt_place old.view upper parent d held live t))

-- the epoch that was loaded is that of the write
pub epoch_after : (old a : Known) (e : ℕ) → IsWriting old.view → Becomes old a (epoch_noted old.view e) → Among e a.view.words.present
epoch_after old a e writing load = subst (λ (k : Known). Among e k.view.words.present) (sym load) (epoch_now old.view.stage writing.0 writing.1 e old.view.words.present writing.2)

-- a note of a word that was handed out
most_after : (h : ℕ) (n : WordNote) → h ≤ handed_after h n
most_after h (Next n) = omega arith
most_after h (Gate g) = omega arith
most_after h (Left a) = omega arith
most_after h (Done d) = omega arith
most_after h (Epoch e) = omega arith
most_after h (Birth k b) = omega arith
most_after h Trouble = omega arith

least_handed : (h : ℕ) (l : List WordNote) → h ≤ all_handed h l
least_handed h [] = omega arith
least_handed h (n ∷ ns) = omega (arith, most_after h n, least_handed (handed_after h n) ns)

noted_handed : (h x : ℕ) (l : List WordNote) → In (Next x) l → x ≤ all_handed h l
noted_handed h x [] z = absurd z
noted_handed h x (n ∷ ns) (inl e) = let here : x ≤ handed_after h n = subst (λ (m : WordNote). x ≤ handed_after h m) e (omega arith) in omega (arith, here, least_handed (handed_after h n) ns)
noted_handed h x (n ∷ ns) (inr k) = noted_handed (handed_after h n) x ns k

none_linked : (v w : View) → w.drawn ≡ v.drawn → w.fresh.own ≡ v.fresh.own → LinksWhatItDraws v w
none_linked v w drawn own = record { rows = []; drawn = drawn ∙ sym (append-nil v.drawn); linked = λ r some_r. absurd (omega arith); no_more = λ r. omega (arith, ap (times r) own) }

removed_added : (x r : ℕ) (l : List ℕ) → times r (removed x (x ∷ l)) ≤ times r l
removed_added x r l = dite (ℕ_discrete r x) (λ same. omega (arith, ap (λ (i : ℕ). times i (removed x (x ∷ l))) same, removed_same x (x ∷ l))) (λ ne. omega (arith, removed_other x r (x ∷ l) ne, one_other r x ne))

one_linked : (old new : Known) (parent : ℕ) (d : Side) (copy : ℕ) → IsCopiedAt old new None parent d copy → LinksWhatItDraws old.view new.view
one_linked old new parent d copy c = record {
  rows = copy ∷ [];
  drawn = c.drawn;
  linked = λ r some_r. dite (ℕ_discrete r copy) (λ same. (ap (times r) c.own ∙ (λ i. times (same i) (removed copy (copy ∷ old.view.fresh.own))) ∙ removed_same copy (copy ∷ old.view.fresh.own), subst (λ (n : ℕ). Among n new.view.trail.reached) (sym same) c.reached)) (λ ne. absurd (omega (arith, some_r, one_other r copy ne)));
  no_more = λ r. omega (arith, ap (times r) c.own, removed_added copy r old.view.fresh.own);
}

-- with the keys of its copies as they were
abbrev with_copies : Known → View → List ℕ → Known
with_copies k w l = record { table = k.table; view = record (stayed k w).view { fresh = record (stayed k w).view.fresh { copies = l } } }

stays_mended : (old new : Known) (changed : ℕ → Field → Type 0) → ChangesOnly old new None changed → new ≡ mended old new.view
stays_mended old new changed s =
    let e : new ≡ with_copies old new.view old.view.fresh.copies = s.is ∙ ap (with_copies old new.view) (s.copies refl) in
    e ∙ ap (λ (k : Known). mended old k.view) (sym e)

abbrev stays_mends : (full : Bool) (old new : Known) (changed : ℕ → Field → Type 0) (more : List WordNote) → ChangesOnly old new None changed → LinksWhatItDraws old.view new.view → NotesMore old.view new.view more → TellsFull full old.view.rows more → MendsTo full old new
stays_mends full old new changed more s links noted found = record {
  is = stays_mended old new changed s;
  whole = ap (λ (k : Known). k.view.doing) s.is;
  links = links;
  more = more;
  noted = noted;
  found = found;
  reached = s.reached;
  present = s.present;
  lasting = s.lasting;
  refused = s.refused;
}

stays_firm : (old new : Known) (changed : ℕ → Field → Type 0) → ChangesOnly old new None changed → Mends old new → Firm old new changed
stays_firm old new changed s m = record {
  mends = m;
  held = λ r h. subst (λ (k : Known). Among r k.view.holds) (sym s.is) h;
  knows = s.knows;
  heights = λ q d h i. subst (λ (k : Known). IsBelow k.view.heights q d h) (sym s.is) i;
  place = ap (λ (k : Known). k.view.way.place) s.is;
  debt = ap (λ (k : Known). k.view.debt) s.is;
}

-- the load of the epoch that comes before
module _ (old a new : Known) (e : ℕ) (load : Becomes old a (epoch_noted old.view e)) where
  loaded : Works old a (Epoch e ∷ [])
  loaded = epoch_works old a e load

  pub stays_after : (changed : ℕ → Field → Type 0) → ChangesOnly a new None changed → ChangesOnly old new None changed
  stays_after changed s = stays_on old a new None changed (stays_by old a None (epoch_noted old.view e) load refl (epoch_keeps old.view e)) s

  knew : (q : ℕ) (f : Field) (x : ℕ) → IsKnown a.view.words.knows q f x → IsKnown old.view.words.knows q f x
  knew q f x h = subst (λ (k : Known). IsKnown k.view.words.knows q f x) load h

  own_after : (at : Wanted) (child : ℕ) → IsOwn a new [] at child → IsOwn old new (Epoch e ∷ []) at child
  own_after at child h = record {
    works = works_on old a new (Epoch e ∷ []) [] loaded h.works;
    now = h.now;
    birth = h.birth;
    was = knew at.parent (link_field at.side) child h.was;
    child_is = h.child_is;
  }

  copied_after : (parent : ℕ) (d : Side) (copy : ℕ) → IsCopiedAt a new None parent d copy → IsCopiedAt old new None parent d copy
  copied_after parent d copy c = record {
    is = with_copy_on old a new (load ∙ ap (λ (k : Known). with_copy old k.view) (sym load)) c.is;
    child = c.child;
    was = knew parent (link_field d) c.child c.was;
    older = c.older;
    filled = c.filled;
    holds = c.holds;
    linked = c.linked;
    drawn = c.drawn ∙ ap (λ (k : Known). k.view.drawn ++ copy ∷ []) load;
    own = c.own ∙ ap (λ (k : Known). removed copy (copy ∷ k.view.fresh.own)) load;
    more = Epoch e ∷ c.more;
    noted = notes_on old.view a.view new.view (Epoch e ∷ []) c.more loaded.noted c.noted;
    left = epoch_not_full old.view.rows e c.more (subst (λ (k : Known). In (Next k.view.rows) c.more → ⊥) load c.left);
    sees = sees_on old.view a.view new.view (ap (λ (k : Known). k.view.who) load) (ap (λ (k : Known). k.view.mine) load) loaded.sees c.sees;
    kept = λ r. omega (arith, loaded.kept r, c.kept r);
    reached = c.reached;
    present = λ x h. c.present x (loaded.present x h);
    child_is = c.child_is;
    copies = c.copies ∙ ap (λ (k : Known). copies_for k.view.fresh.copies None) load;
  }

  pub lacks_after : (parent : ℕ) (d : Side) → (rows : ℕ) → Lacks rows a new parent d → Lacks rows old new parent d
  lacks_after parent d rows l = record {
    child = l.child;
    older = l.older;
    child_is = l.child_is;
    more = Epoch e ∷ l.more;
    works = works_on old a new (Epoch e ∷ []) l.more loaded l.works;
    full = inr l.full;
  }

  pub owns_lower : (rows parent : ℕ) (d : Side) (child : ℕ) → OwnsAt rows a new None (wanted parent d e) child → OwnsLower rows old new parent d child
  owns_lower rows parent d child o = record {
    firm = stays_firm old new link stays (mends owns);
    holds = ap (λ (k : Known). k.view.holds) stays.is;
    leads = leads owns;
    low = o.low;
    is_row = o.is_row;
    reached = o.reached;
    owns = owns;
  }
    where
      link : ℕ → Field → Type 0
      link q g = (q ≡ parent) × (g ≡ link_field d)

      stays : ChangesOnly old new None link
      stays = stays_after link o.stays

      with_load : IsOwn a new [] (wanted parent d e) child ⊎ IsCopiedAt a new None parent d child → IsOwnNow old new parent d child ⊎ IsCopiedAt old new None parent d child
      with_load (inl h) = inl (e, own_after (wanted parent d e) child h)
      with_load (inr c) = inr (copied_after parent d child c)

      owns : IsOwnNow old new parent d child ⊎ IsCopiedAt old new None parent d child
      owns = with_load o.owns

      mends : IsOwnNow old new parent d child ⊎ IsCopiedAt old new None parent d child → Mends old new
      mends (inl h) = let w = h.1.works in stays_mends false old new link (Epoch h.0 ∷ []) stays (none_linked old.view new.view (ap (λ (k : Known). k.view.drawn) w.is) (ap (λ (k : Known). k.view.fresh.own) w.is)) w.noted (epoch_not_full old.view.rows h.0 [] (λ z. z))
      mends (inr c) = stays_mends false old new link c.more stays (one_linked old new parent d child c) c.noted c.left

      leads : IsOwnNow old new parent d child ⊎ IsCopiedAt old new None parent d child → IsKnown new.view.words.knows parent (link_field d) child
      leads (inl h) = h.1.child_is
      leads (inr c) = c.child_is

-- the row leans still
tilt_stays : (old new : Known) (upper parent : ℕ) (d : Side) → ChangesOnly old new None NoWord → IsTilt old.view upper parent d → IsTilt new.view upper parent d
tilt_stays old new upper parent d s t = let l = t.leans in record {
  higher = t.higher;
  leans = record { held = subst (λ (k : Known). Among upper k.view.holds) (sym s.is) l.held; high = l.high; low = l.low; is_high = height t.higher l.high l.is_high; is_low = height (other t.higher) l.low l.is_low; tilts = l.tilts };
  at = ⊎_elim (λ z. inl z) (λ z. inr (knows upper (link_field t.higher) parent z.0, z.1)) t.at;
  child = t.child;
  some_child = t.some_child;
  leads = knows parent (link_field d) t.child t.leads;
}
  where
    knows : (q : ℕ) (f : Field) (x : ℕ) → IsKnown old.view.words.knows q f x → IsKnown new.view.words.knows q f x
    knows q f x h = s.knows q f x (λ z. z) h

    height : (e : Side) (x : ℕ) → HasHeight old.view upper e x → HasHeight new.view upper e x
    height e x h = ⊎_elim (λ z. inl (knows upper (link_field e) 0 z.0, z.1)) (λ z. inr (subst (λ (k : Known). IsBelow k.view.heights upper e x) (sym s.is) z)) h

pub lacks_rows : (rows found : ℕ) (old a new : Known) (e parent upper : ℕ) (d : Side) → Becomes old a (epoch_noted old.view e) → old.view.rows ≡ rows → IsTilt old.view upper parent d → LacksAt rows a new None (wanted parent d e) found → LacksRows rows old new parent d found
lacks_rows rows found old a new e parent upper d load size tilt l =
    let lacks : Lacks rows old new parent d = lacks_after old a new e load parent d rows l.lacks in let w = lacks.works in
    let stays : ChangesOnly old new None NoWord = stays_after old a new e load NoWord l.stays in record {
      mends = stays_mends true old new NoWord lacks.more stays (none_linked old.view new.view (ap (λ (k : Known). k.view.drawn) w.is) (ap (λ (k : Known). k.view.fresh.own) w.is)) w.noted (subst (λ (n : ℕ). In (Next n) lacks.more) (sym size) lacks.full);
      holds = ap (λ (k : Known). k.view.holds) stays.is;
      wants = record { child = lacks.child; child_is = lacks.child_is; older = lacks.older; upper = upper; tilt = tilt_stays old new upper parent d stays tilt };
      all = l.all;
      full = omega (arith, noted_handed old.view.noted.handed rows lacks.more lacks.full, w.noted.handed);
    }
