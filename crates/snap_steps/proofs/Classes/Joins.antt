-- Two seats that are joined.
use Rattle.snap_rule.specs.Debt.{DebtOk}
use Rattle.snap_steps.proofs.Parts.Debts.{debts_same}
use Rattle.std.proofs.Common.{subst, ◌≡◌, ℕ, ◌+◌, ◌≤◌, List, length, set, sym, refl, ap, ◌∙◌, arith, false, true, ⊎_elim}
use lib.ListN.{get_elem?}
use mathlib.Core.Option.{some}
use Rattle.snap_steps.specs.Counting.{times}
use Rattle.snap_steps.specs.Histories.{longer}
use Rattle.snap_steps.specs.Rule.Changes.{changing}
use Rattle.snap_steps.specs.Roles.{gone, is_counted, is_opening}
use Rattle.snap_steps.specs.Numbers.{all_uses, all_cuts, all_drawn, times_drawn}
use Rattle.snap_steps.specs.Stages.{in_write, is_closing, is_quiet, may_cut, owes_count, has_counted}
use Rattle.snap_steps.specs.Rule.Uses.{HasFewUses}
use Rattle.snap_steps.specs.Rule.Names.{names}
use Rattle.snap_steps.specs.Rule.History.{AreTheirs, whole}
use Rattle.snap_steps.specs.Rule.{Kept}
use Rattle.snap_steps.proofs.Tables.{none_changing}
use Rattle.snap_steps.specs.declared.view.View.{View}
use Rattle.snap_steps.specs.declared.view.Role.TheVariants.{Opening, Passing, Spent}
use Rattle.snap_steps.specs.declared.view.Stage.TheVariants.{Idle}
use Rattle.snap_steps.specs.declared.rule.About.{About}
use Rattle.snap_steps.proofs.Totals.{terms_le}
use Rattle.snap_steps.proofs.Prefixes.{begins_length}
use Rattle.snap_steps.proofs.Histories.{longer_begins, longer_length, of_between}
use Rattle.snap_steps.proofs.EachView.{each_join, total_join, before}
use Rattle.snap_steps.proofs.Parts.History.{whole_grows, whole_over}
use Rattle.snap_steps.proofs.Parts.Bases.{no_base_is}
use Rattle.snap_steps.specs.States.{state_of}
use Rattle.snap_steps.specs.declared.view.Admitted.{Admitted}
use Rattle.snap_steps.proofs.Parts.Worn.{or_cases}
use Rattle.snap_steps.specs.Steps.Seats.{learned}
use Rattle.snap_steps.proofs.Parts.Marks.{none_lowers}
use Rattle.snap_steps.specs.Rule.Marks.{lowers}

-- the view of a pass to which a seat was joined, and which speaks for these numbers beside its own
abbrev pub joined_with : View → View → List Admitted → View
joined_with v u more = record (learned v u) { admitted = more }

-- two seats are joined. The second counts in no write, and its numbers, uses, cuts and draws go over to the first
pub joining : (about : About) (words : List ℕ) (views : List View) (k : Kept about words views) (id : ℕ) (v : View) (at : get_elem? views id ≡ some v) (other : ℕ) (u : View) (apart : ¬ (other ≡ id)) (more : List Admitted) (there : get_elem? (set views id (joined_with v u more)) other ≡ some u)
    → v.role ≡ Passing → is_opening u.role ≡ 0 → u.stage ≡ Idle
    → ((i : ℕ) → names i (joined_with v u more) ≡ names i v + names i u) → all_uses (joined_with v u more) ≡ all_uses v + all_uses u → all_cuts (joined_with v u more) ≡ all_cuts v + all_cuts u
    → ((r : ℕ) → times_drawn r (joined_with v u more) ≡ times_drawn r v + times_drawn r u) → all_drawn (joined_with v u more) ≡ all_drawn v + all_drawn u → HasFewUses (joined_with v u more)
    → AreTheirs k.g.history more → AreTheirs (longer v.seen u.seen) more → Kept about words (set (set views id (joined_with v u more)) other gone)
joining about words views k id v at other u apart more there passing not_opening idle numbered used cut drawn many few theirs seen_theirs =
    let b : View = joined_with v u more in
    let sum = total_join views id v b at other u gone apart there in
    let before_u = before views id v b at other u gone apart there in
    let a = (k.history.seen id v at).0 in let c = (k.history.seen other u before_u).0 in
    let long = longer_begins v.seen u.seen k.g.history a c in
    let own = (k.history.mine id v at).0 (ap is_counted passing) in
    let longer_than = longer_length v.seen u.seen in
    let b_log : length b.seen ≤ length k.g.history = begins_length (longer v.seen u.seen) k.g.history long.0 in
    let free : (r : ℕ) → times r u.holds ≡ 0 = λ r. omega (arith, k.locked.writing other u before_u r, ap in_write idle) in
    let hv = k.notes id v at in let hu = k.notes other u before_u in
    record {
      m = k.m;
      g = k.g;
      memory = k.memory;
      about_known = each_join views id v b at other u gone apart there k.about_known (λ x p. p) (k.about_known id v at) (λ e. absurd (omega arith));
      named = record {
        once = λ i. omega (arith, sum (names i), k.named.once i, numbered i);
        below = λ i l. omega (arith, sum (names i), k.named.below i l, numbered i);
        one_opener = omega (arith, k.named.one_opener, sum (λ x. is_opening x.role), ap is_opening passing);
        unissued = each_join views id v b at other u gone apart there k.named.unissued (λ x p hands i l. omega (arith, sum (names i), p hands i l, numbered i)) (λ (hands : v.role ≡ Opening). let z : Passing ≡ Opening = sym passing ∙ hands in cc) (λ (hands : Spent ≡ Opening). cc);
      };
      history = record {
        legal = k.history.legal;
        seen = each_join views id v b at other u gone apart there k.history.seen (λ x p. p) (long.0, (a, (c, tt))) (record { rest = k.g.history; is = refl }, tt);
        longest = omega (arith, k.history.longest, sum (whole k.g.history), whole_grows k.g.history v b refl longer_than.0 b_log, whole_over k.g.history u b passing not_opening longer_than.1 b_log, terms_le (whole k.g.history) views id other v u apart at before_u);
        mine = each_join views id v b at other u gone apart there k.history.mine (λ x p. p) ((λ e. (own.0, of_between v.seen b.seen k.g.history v.who long.1 long.0 own.1)), theirs, seen_theirs) ((λ e. absurd (omega arith)), tt, tt);
        others = λ i none. k.history.others i (omega (arith, sum (names i), none, numbered i));
      };
      counted = record { all = omega (arith, k.counted.all, sum (λ x. owes_count x.stage), ap owes_count idle); few = omega (arith, k.counted.few, sum (λ x. has_counted x.stage), ap has_counted idle) };
      drawn = record {
        once = λ r above low. omega (arith, sum (times_drawn r), k.drawn.once r above low, drawn r);
        none_later = λ r l. omega (arith, sum (times_drawn r), k.drawn.none_later r l, drawn r);
        none_zero = omega (arith, sum (times_drawn 0), k.drawn.none_zero, drawn 0);
        all = omega (arith, sum all_drawn, k.drawn.all, many);
      };
      notes = each_join views id v b at other u gone apart there k.notes (λ x p. p) (record { notes_are = hv.notes_are; handed_is = omega (arith, hv.handed_is, hu.handed_is); epochs_are = omega (arith, hv.epochs_are, hu.epochs_are); drawn_is = hv.drawn_is }) (record { notes_are = tt; handed_is = omega arith; epochs_are = omega arith; drawn_is = omega arith });
      gated = record {
        half = omega (arith, k.gated.half, sum (λ x. in_write x.stage), sum (λ x. is_closing x.stage), ap in_write idle, ap is_closing idle);
        one = omega (arith, k.gated.one, sum (λ x. is_closing x.stage), ap is_closing idle);
        at = each_join views id v b at other u gone apart there k.gated.at (λ x p. p) (k.gated.at id v at) tt;
        quiet = λ some. omega (arith, sum (λ x. in_write x.stage), ap in_write idle, k.gated.quiet (omega (arith, sum (λ x. is_quiet x.stage), ap is_quiet idle)));
      };
      used = record {
        enough = omega (arith, k.used.enough, sum (λ x. may_cut x.stage), sum all_uses, ap may_cut idle, used);
        few = each_join views id v b at other u gone apart there k.used.few (λ x p. p) few (omega arith, tt);
      };
      cut = omega (arith, k.cut, sum all_cuts, cut);
      acting = each_join views id v b at other u gone apart there k.acting (λ x p. p) (k.acting id v at) (λ _. (refl, refl, refl));
      table = k.table;
      writers = omega (arith, k.writers, sum (λ x. in_write x.stage), ap in_write idle);
      changes = λ n d none. k.changes n d (omega (arith, none, sum (λ x. changing n d x.doing), none_changing u.doing u.holds n d (k.held other u before_u) (free n)));
      doing = each_join views id v b at other u gone apart there k.doing (λ x p. p) (k.doing id v at) tt;
      held = each_join views id v b at other u gone apart there k.held (λ x p. p) (k.held id v at) (λ n c. absurd c);
      present = each_join views id v b at other u gone apart there k.present (λ x p. p) (k.present id v at) (tt, λ _. refl);
      locked = record {
        count = λ r. omega (arith, sum (λ x. times r x.holds), k.locked.count r, free r);
        owner = each_join views id v b at other u gone apart there k.locked.owner (λ x p. p) (k.locked.owner id v at) (λ r l. absurd (omega arith));
        writing = each_join views id v b at other u gone apart there k.locked.writing (λ x p. p) (k.locked.writing id v at) (λ r. omega arith);
      };
      known = each_join views id v b at other u gone apart there k.known (λ x p. p) (k.known id v at) tt;
      reached = each_join views id v b at other u gone apart there k.reached (λ x p. p) (k.reached id v at) tt;
      ways = each_join views id v b at other u gone apart there k.ways (λ x p. p) tt tt;
      places = each_join views id v b at other u gone apart there k.places (λ x p. p) (k.places id v at) tt;
      worn = each_join views id v b at other u gone apart there k.worn (λ x p. p) (λ saw. ⊎_elim (k.worn id v at) (k.worn other u before_u) (or_cases v.noted.worn u.noted.worn saw)) (λ (e : false ≡ true). cc);
      lasting = each_join views id v b at other u gone apart there k.lasting (λ x p. p) (k.lasting id v at) tt;
      based = each_join views id v b at other u gone apart there k.based (λ x p. p) (k.based id v at) (no_base_is (state_of k.m k.g), λ z. absurd (omega (arith, z)));
      tries = each_join views id v b at other u gone apart there k.tries (λ x p. p) (k.tries id v at) tt;
      heights = each_join views id v b at other u gone apart there k.heights (λ x p. p) (k.heights id v at) tt;
      debts = each_join views id v b at other u gone apart there k.debts (λ x p. p) (k.debts id v at) (refl, λ _. refl);
      owing = λ room. subst (DebtOk (state_of k.m k.g)) (λ i j. sym (debts_same (set views id b) other u gone there (sym ((k.debts other u before_u).1 (ap in_write idle))) j ∙ debts_same views id v b at refl j) i) (k.owing room);
      marked = λ n none. k.marked n (omega (arith, none, sum (λ x. lowers n x.doing), none_lowers u.doing u.holds n (k.held other u before_u) (free n)));
      apart = record {
        low = k.apart.low;
        own = each_join views id v b at other u gone apart there k.apart.own (λ x p. p) (k.apart.own id v at) (λ r l. absurd (omega arith));
        fresh = k.apart.fresh;
        wrote = each_join views id v b at other u gone apart there k.apart.wrote (λ x p. p) (k.apart.wrote id v at) tt;
      };
    }
