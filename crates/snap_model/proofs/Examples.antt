-- The definitions computed on small maps and histories, so that a wrong one shows at once.
use Rattle.std.proofs.Common.{◌≡◌, List, [], ◌∷◌, Some, None, refl}
use Rattle.snap_model.specs.declared.call.Entry.{Entry}
use Rattle.snap_model.specs.declared.call.Call.TheVariants.{Put, Remove}
use Rattle.snap_model.specs.SortedMap.{Pairs, after_put, after_remove, first_pair, last_pair, range, count, floor, lower, ceiling, higher}
use Rattle.snap_model.specs.History.{after, calls_of, IsLegal}

abbrev map : Pairs
map = (1, 10) ∷ (3, 30) ∷ (5, 50) ∷ []

put_between : after_put map 4 40 ≡ (1, 10) ∷ (3, 30) ∷ (4, 40) ∷ (5, 50) ∷ []
put_between = refl

put_over : after_put map 3 31 ≡ (1, 10) ∷ (3, 31) ∷ (5, 50) ∷ []
put_over = refl

remove_there : after_remove map 3 ≡ (1, 10) ∷ (5, 50) ∷ []
remove_there = refl

remove_absent : after_remove map 4 ≡ map
remove_absent = refl

ends : (first_pair map ≡ Some (1, 10)) × (last_pair map ≡ Some (5, 50))
ends = (refl, refl)

neighbours_of_key : (floor map 3 ≡ Some (3, 30)) × (lower map 3 ≡ Some (1, 10)) × (ceiling map 3 ≡ Some (3, 30)) × (higher map 3 ≡ Some (5, 50))
neighbours_of_key = (refl, refl, refl, refl)

neighbours_of_gap : (floor map 4 ≡ Some (3, 30)) × (lower map 4 ≡ Some (3, 30)) × (ceiling map 4 ≡ Some (5, 50)) × (higher map 4 ≡ Some (5, 50))
neighbours_of_gap = (refl, refl, refl, refl)

neighbours_outside : (floor map 0 ≡ None) × (lower map 1 ≡ None) × (ceiling map 6 ≡ None) × (higher map 5 ≡ None)
neighbours_outside = (refl, refl, refl, refl)

ranges : (range map 1 3 ≡ (1, 10) ∷ (3, 30) ∷ []) × (range map 2 2 ≡ []) × (range map 5 1 ≡ []) × (count map 0 9 ≡ 3)
ranges = (refl, refl, refl, refl)

-- put 5 50, put 5 51, remove 5, remove 5: each reply is what stood there before
abbrev story : List Entry
story =
    record { who = 0; call = Put 5 50; reply = None }
    ∷ record { who = 1; call = Put 5 51; reply = Some 50 }
    ∷ record { who = 0; call = Remove 5; reply = Some 51 }
    ∷ record { who = 0; call = Remove 5; reply = None } ∷ []

story_is_legal : IsLegal story
story_is_legal = (refl, (refl, (refl, (refl, tt))))

story_ends_empty : after story ≡ []
story_ends_empty = refl

calls_of_one : calls_of story 1 ≡ record { who = 1; call = Put 5 51; reply = Some 50 } ∷ []
calls_of_one = refl
