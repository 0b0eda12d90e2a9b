-- The laws of the crates below, and words of std and of the logic, that proofs of the crates
-- above cite, passed on from one place. Declares nothing.
pub use Rattle.std.proofs.lemmas.Bool.{cases_order, le-leb, lt-leb}
pub use Rattle.std.proofs.lemmas.Bool.Decides.{nat_tests}
pub use Rattle.std.proofs.lemmas.List.{drop_more, get_or-map, get_or-reverse, get_or-set_other, get_or-set_same}
pub use Rattle.std.proofs.lemmas.List.{get_or-take, get_or_append_left, get_or_read, length-append, length-map}
pub use Rattle.std.proofs.lemmas.List.{length-set, length-take-le, length_push, map-append, map-set, take_all}
pub use Rattle.std.proofs.lemmas.List.{take_more}
pub use Rattle.std.proofs.lemmas.List.Concat.{flat_map-cons}
pub use Rattle.std.proofs.lemmas.List.Elements.{All-cons, All-nil}
pub use Rattle.std.proofs.lemmas.Option.{slice_get-get_or, slice_get_past, slice_get_within}
pub use Rattle.std.specs.List.{All, filter, list_any}
pub use Rattle.std.specs.Option.{option_or, option_to_list}
pub use Rattle.std.specs.declared.snapshot.Snapshot.{Snapshot}
pub use mathlib.Core.Logic.{dite}
pub use native.Mathlib.Decide.{dec_lt, ℕ_discrete}
pub use Rattle.snap_model.proofs.Cutting.{filter_same}
pub use Rattle.snap_rule.proofs.Maps.{told_other, told_same}
pub use Rattle.snap_rule.proofs.Pairs.{find_at}
pub use Rattle.snap_rule.proofs.Trees.{child, find_here, find_left, find_right, find_toward}
pub use Rattle.snap_rule.proofs.Trees.Shallow.{least_more, least_size, settled_shallow}
pub use Rattle.snap_rule.proofs.Trees.Sizes.{depth_size, pairs_size, size_full}
pub use Rattle.snap_steps.proofs.Cells.{one_place}
pub use Rattle.snap_steps.proofs.Histories.{of_mine}
pub use Rattle.snap_steps.proofs.Keeps.Copies.{held_link}
pub use Rattle.snap_steps.proofs.Parts.Bases.{tree_of-parts}
pub use Rattle.snap_steps.proofs.Totals.{one_other, one_same, removed_other, removed_same}
pub use Rattle.snap_steps.proofs.Totals.{term_le, times-append, total-append}
pub use Rattle.snap_steps.proofs.Weights.{weighed_later}
