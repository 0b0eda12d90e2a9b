-- What counts of passes, of a session and of closed tables for the outcome of a run.
use Rattle.std.specs.Prelude.{◌-◌, ◌==◌, ℕ, false, List, [], ◌∷◌, Option, Some, None, cond, slice_get, slice_index_or, unwrap_or}
use Rattle.snap_fits.specs.{Fits.Front, Fits.Setting, Sessions.Course, Sessions.KeptClone, Sessions.Track}
use Rattle.snap_prelude.specs.{Admitted, Cloned, Ended, Known, View}
use Rattle.snap_text.specs.LoadFiles.{Loads, pairs_of}
use Rattle.snap_service.specs.States.{SessionState, Tables, table_place}

-- what counts of a pass
abbrev pub track_of : Known → Track
track_of p =
    record {
      who = p.view.who;
      seen = p.view.seen;
      mine = p.view.mine;
      handed = p.view.noted.handed;
      epochs = p.view.noted.epochs;
      cuts = p.view.cuts;
      worn = p.view.noted.worn;
    }

-- where there is no table, nothing was done
abbrev pub track : ℕ → Option Known → Track
track w None =
    record { who = w; seen = []; mine = []; handed = 0; epochs = 0; cuts = []; worn = false }
track w (Some p) = track_of p

-- what counts of a clone
abbrev pub kept_of : ℕ × Cloned → KeptClone
kept_of live = record { table = live.0; base = live.1.base; next = live.1.next }

abbrev pub kept : Option (ℕ × Cloned) → Option KeptClone
kept None = None
kept (Some live) = Some (kept_of live)

-- what counts of the session of worker w
abbrev pub course : ℕ → SessionState → Course
course w s = record {
  passes = λ t. track w (slice_get s.passes t);
  in_use = s.in_use;
  clones = λ n. kept (slice_index_or s.clones n None);
}

-- the run that the outcome speaks of: all kits but the last are workers'
abbrev pub setting : Tables → Loads → Setting
setting tables loads = record {
  rows = tables.rows;
  workers = tables.kits - 1;
  table = λ name. unwrap_or (table_place tables.names name) 0;
  pairs = λ file. pairs_of loads file;
}

-- the cuts of a number that the pass speaks for
abbrev pub cuts_among : List Admitted → ℕ → List ℕ
cuts_among [] i = []
cuts_among (a ∷ more) i = cond (a.who == i) a.cuts (cuts_among more i)

abbrev pub cuts_of : View → ℕ → List ℕ
cuts_of v i = cond (v.who == i) v.cuts (cuts_among v.admitted i)

-- a closed table, as the outcome tells it
abbrev pub front_of : Option Ended → Front
front_of None = record { history = []; drawn = 0; cuts = λ i. []; worn = false }
front_of (Some f) =
    record {
      history = f.last.view.seen;
      drawn = f.drawn;
      cuts = cuts_of f.last.view;
      worn = f.last.view.noted.worn;
    }

abbrev pub fronts_of : List Ended → ℕ → Front
fronts_of fronts t = front_of (slice_get fronts t)
