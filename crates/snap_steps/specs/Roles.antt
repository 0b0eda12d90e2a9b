-- What a seat is, and the views that seats begin and end with.
use Rattle.std.specs.Prelude.{ℕ, Bool, List, [], ◌∷◌, false}
use Rattle.snap_model.specs.declared.call.Entry.{Entry}
use Rattle.snap_rule.specs.Debt.{no_debt}
use Rattle.snap_rule.specs.declared.change.Doing.TheVariants.{Nothing}
use Rattle.snap_rule.specs.declared.reader.Reading.TheVariants.{Resting}
use Rattle.snap_steps.specs.declared.view.Balance.TheVariants.{Settled}
use Rattle.snap_steps.specs.declared.view.Base.{Base}
use Rattle.snap_steps.specs.declared.view.Role.{Role}
use Rattle.snap_steps.specs.declared.view.Role.TheVariants.{Opening, Passing, Noting, Spent}
use Rattle.snap_steps.specs.declared.view.View.{View}
use Rattle.snap_steps.specs.declared.view.Stage.TheVariants.{Idle}
use Rattle.snap_rule.specs.declared.quiescence.Trying.TheVariants as quiet

abbrev pub is_live : Role → ℕ
is_live Opening = 1
is_live Passing = 1
is_live Noting = 1
is_live Spent = 0

abbrev pub is_counted : Role → ℕ
is_counted Opening = 0
is_counted Passing = 1
is_counted Noting = 0
is_counted Spent = 0

abbrev pub is_opening : Role → ℕ
is_opening Opening = 1
is_opening Passing = 0
is_opening Noting = 0
is_opening Spent = 0

abbrev pub own_number : Role → ℕ → List ℕ
own_number Opening who = []
own_number Passing who = who ∷ []
own_number Noting who = []
own_number Spent who = []

abbrev pub no_base : Base
no_base = record { history = []; parts = []; noted = 0; drawn = 0; balance = Settled }

abbrev pub blank_view : ℕ → ℕ → Role → ℕ → View
blank_view rows passes role who =
    record {
      rows = rows;
      passes = passes;
      who = who;
      role = role;
      stage = Idle;
      seen = [];
      mine = [];
      noted = record { notes = []; handed = 0; epochs = 0; worn = false };
      drawn = [];
      cuts = [];
      uses = 0;
      admitted = [];
      base = no_base;
      outworn = [];
      holds = [];
      words = record { knows = []; refused = []; lasting = []; present = [] };
      trail = record { reached = []; steps = 0 };
      fresh = record { own = []; wrote = []; copies = [] };
      way = record { reads = Resting; confirmed = []; place = Resting };
      tries = quiet.Idle;
      doing = Nothing;
      heights = [];
      debt = no_debt;
      joined = [];
    }

-- a seat that counts nowhere, and knows this
abbrev pub silent : ℕ → ℕ → List Entry → ℕ → ℕ → Bool → Base → List ℕ → View
silent rows passes seen handed epochs worn base outworn =
    let v : View = blank_view rows passes Noting 0 in
    record v {
      seen = seen;
      noted = record v.noted { handed = handed; epochs = epochs; worn = worn };
      base = base;
      outworn = outworn;
    }

abbrev pub opener : ℕ → ℕ → ℕ → View
opener rows passes who = blank_view rows passes Opening who

abbrev pub newcomer : ℕ → ℕ → ℕ → View
newcomer rows passes who = blank_view rows passes Passing who

-- a seat that was joined to another
abbrev pub gone : View
gone = blank_view 0 0 Spent 0
