-- Seats that are cut in two and joined.
use Rattle.std.specs.Prelude.{◌+◌, [], ◌∷◌, ◌++◌, ◌≡◌, ℕ, Bool, max, ◌||◌, List}
use Rattle.atomic_table.specs.Table.{Step}
use Rattle.snap_model.specs.History.{IsLegal, calls_of}
use Rattle.snap_rule.specs.declared.reader.Reading.TheVariants.{Resting}
use Rattle.snap_steps.specs.declared.view.View.{View}
use Rattle.snap_steps.specs.Roles.{newcomer, blank_view}
use Rattle.snap_steps.specs.declared.view.Role.TheVariants.{Noting}
use Rattle.snap_steps.specs.Histories.{longer}
use Rattle.snap_steps.specs.Numbers.{admitted_of}
use Rattle.snap_steps.specs.Rule.History.{AllBegin}
use Rattle.snap_steps.specs.Steps.Told.{Sat, Has}
use Rattle.snap_model.specs.declared.call.Entry.{Entry}

abbrev pub issued : View → View
issued v = record v { who = v.who + 1 }

abbrev pub next_pass : View → View
next_pass v = newcomer v.rows v.passes v.who

-- what a note keeps of a pass
abbrev pub note_of : View → View
note_of v =
    record (blank_view v.rows v.passes Noting 0)
    { seen = v.seen; noted = record v.noted { notes = [] } }

-- a view that has come to know what another seat noted: the greatest `next` and `epoch`, and
-- whether it found a stamp at its greatest count. This is what the two have seen together
abbrev pub taught : View → (handed epochs : ℕ) → Bool → List Entry → View
taught v handed epochs worn seen =
    record v {
      seen = seen;
      way = record v.way { reads = Resting };
      noted =
          record v.noted {
            handed = max v.noted.handed handed;
            epochs = max v.noted.epochs epochs;
            worn = v.noted.worn || worn;
          };
    }

-- a view that has come to know what another had seen and noted
abbrev pub heard : View → View → List Entry → View
heard v w seen = taught v w.noted.handed w.noted.epochs w.noted.worn seen

-- after a join: the longer history, and both are kept
abbrev pub learned : View → View → View
learned v w = record (heard v w (longer v.seen w.seen)) { joined = v.seen ∷ w.seen ∷ [] }

-- a view that has come to speak for the numbers of another
abbrev pub with_admitted : View → View → View
with_admitted v w = record v { admitted = v.admitted ++ admitted_of w ∷ w.admitted }

abbrev pub took : View → View → View
took v w = with_admitted (learned v w) w

-- the two histories of the join are let go
abbrev pub sure : View → View
sure v = record v { joined = [] }

abbrev pub made_sure : Step (Unit {0}) → Sat → ℕ → Sat → Type 0
made_sure st m r n = Has m n (sure m.0)
    × AllBegin m.0.joined m.0.seen
    × IsLegal m.0.seen
    × (calls_of m.0.seen m.0.who ≡ m.0.mine)
