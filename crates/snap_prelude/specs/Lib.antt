-- The words of the crates below that the crates above cite, passed on from one place. Declares
-- nothing.
pub use Rattle.snap_model.specs.History.{after, Begins, call_key, calls_of, IsLegal}
pub use Rattle.snap_model.specs.SortedMap.{at, ceiling, count, first_pair, floor}
pub use Rattle.snap_model.specs.SortedMap.{higher, last_pair, lower, Pairs, range}
pub use Rattle.snap_model.specs.declared.call.Call.{Call}
pub use Rattle.snap_model.specs.declared.call.Call.TheVariants.{Put, Remove}
pub use Rattle.snap_model.specs.declared.call.Entry.{Entry}
pub use Rattle.snap_model.specs.declared.command.Command.{Command}
pub use Rattle.snap_model.specs.declared.command.Reply.{Reply}
pub use Rattle.snap_stamp.specs.Layout.{place_of}
pub use Rattle.snap_stamp.specs.Sides.{link_field, other, Toward}
pub use Rattle.snap_stamp.specs.Stamps.{count_of, last_count}
pub use Rattle.snap_stamp.specs.declared.layout.Field.{Field}
pub use Rattle.snap_stamp.specs.declared.layout.Field.TheVariants.{Birth, Height, Key, Lock, Stamp, Value}
pub use Rattle.snap_stamp.specs.declared.side.Side.{Side}
pub use Rattle.snap_stamp.specs.declared.side.Side.TheVariants.{Left, Right}
pub use Rattle.snap_rule.specs.Debt.{IsListed, no_debt}
pub use Rattle.snap_rule.specs.Debt.Lists.{or_else, taken}
pub use Rattle.snap_rule.specs.Settled.{HasValue, IsBalanced, IsFull, IsSettledTree, least, one_more, top_height}
pub use Rattle.snap_rule.specs.State.{In}
pub use Rattle.snap_rule.specs.Tree.{Between, depth, EachRow, find, Node, pairs, root, size, Stands, Tree, value_of}
pub use Rattle.snap_rule.specs.Tree.Tree.{empty, node}
pub use Rattle.snap_rule.specs.declared.change.Doing.TheVariants.{Nothing}
pub use Rattle.snap_rule.specs.declared.debt.Mark.{Mark}
pub use Rattle.snap_rule.specs.declared.quiescence.Load.{Load}
pub use Rattle.snap_rule.specs.declared.quiescence.Trying.{Trying}
pub use Rattle.snap_rule.specs.declared.quiescence.Trying.TheVariants.{Since, Troubled}
pub use Rattle.snap_rule.specs.declared.reader.Point.{Point}
pub use Rattle.snap_rule.specs.declared.reader.Point.TheVariants.{Confirmed, ConfirmedNone, Linked, Matched, NoLink}
pub use Rattle.snap_rule.specs.declared.reader.Point.TheVariants.{Relinked, Stamped, Standing}
pub use Rattle.snap_rule.specs.declared.reader.Reading.{Reading}
pub use Rattle.snap_rule.specs.declared.reader.Reading.TheVariants.{On, Resting}
pub use Rattle.snap_steps.specs.Clones.{ArePlaced, Cloned, image, image_of, IsCaused, IsCloneOf, IsNotedSince}
pub use Rattle.snap_steps.specs.Clones.{IsSubtree, IsWeighed}
pub use Rattle.snap_steps.specs.Copies.{clone_of, CopiesRow, IsCloneAt, IsCopyOf, TakesBack}
pub use Rattle.snap_steps.specs.Counting.{Among, one_if, removed, times, total}
pub use Rattle.snap_steps.specs.Drawing.{AllLeft, FoundFull, HasDrawn, notes_of}
pub use Rattle.snap_steps.specs.Ending.{Closes, Ended, IsLastState, KnowsCuts, SpeaksForAll}
pub use Rattle.snap_steps.specs.Facts.{fact, forgotten, heights_forgotten, IsBorn, IsKnown, same_field, word_in}
pub use Rattle.snap_steps.specs.Histories.{Enters, Extends}
pub use Rattle.snap_steps.specs.Numbers.{admitted_of, numbers, numbers_of}
pub use Rattle.snap_steps.specs.Owed.{ListsOnly}
pub use Rattle.snap_steps.specs.Roles.{gone, newcomer, own_number}
pub use Rattle.snap_steps.specs.Rule.Epochs.{AllAre}
pub use Rattle.snap_steps.specs.Rule.History.{AreTheirs}
pub use Rattle.snap_steps.specs.Rule.Names.{names}
pub use Rattle.snap_steps.specs.Seen.{Becomes, first_passes, IsOf, IsOpened, Known, Laid}
pub use Rattle.snap_steps.specs.Stages.{after_left, has_cut, with_epoch}
pub use Rattle.snap_steps.specs.Steps.Births.{birth_noted, born, learnt}
pub use Rattle.snap_steps.specs.Steps.Changes.{AimsAt, IsTurn, shrunk, TurnsFor}
pub use Rattle.snap_steps.specs.Steps.Copies.{copied, copies_for, HasWord, IsAbove, IsCopy, IsOlder}
pub use Rattle.snap_steps.specs.Steps.Debts.{aimed_at, KnowsReason, listing, OwesNothing, to_do_at}
pub use Rattle.snap_steps.specs.Steps.Draws.{drew}
pub use Rattle.snap_steps.specs.Steps.Fields.{is_last, led_to, own_word_stored, read}
pub use Rattle.snap_steps.specs.Steps.Gate.{closed, cut_made, cut_with, entered, idled}
pub use Rattle.snap_steps.specs.Steps.Header.{all_epochs, all_handed, all_noted, epoch_noted}
pub use Rattle.snap_steps.specs.Steps.Header.{epochs_after, handed_after, left_seen, word_noted}
pub use Rattle.snap_steps.specs.Steps.Locks.{locked, missed, unlocked}
pub use Rattle.snap_steps.specs.Steps.Rotating.{cleared, HasStamps, lifted, link_turned, lowered}
pub use Rattle.snap_steps.specs.Steps.Seats.{heard, note_of, with_admitted}
pub use Rattle.snap_steps.specs.Steps.Settling.{aimed_view, AimsByHeight, HasHeight, heightened}
pub use Rattle.snap_steps.specs.Steps.Settling.{IsBelow, IsHeldRow, IsNoted, IsRightHeight}
pub use Rattle.snap_steps.specs.Steps.Settling.{IsSeenSettled, MayAimAt, passed_up, settled_last}
pub use Rattle.snap_steps.specs.Steps.Tilts.{IsBelowTilt, IsCopyPlace, IsHeldLink, IsTilt, IsWriting, Leans}
pub use Rattle.snap_steps.specs.Steps.Trying.{Along, busy_seen, goes_past, is_outside, is_trouble, IsTrying, load}
pub use Rattle.snap_steps.specs.Steps.Trying.{meets_trouble, tried_last, tried_on, tries_on, trouble_noted, try_begun}
pub use Rattle.snap_steps.specs.Steps.Unlinking.{AimsNear, IsPair, IsRouting, row_spliced, unlinked}
pub use Rattle.snap_steps.specs.Steps.Way.{begun_again, BoundAt, comes_to, ends_at, goes_from, goes_on, HasAnswer}
pub use Rattle.snap_steps.specs.Steps.Way.{HasBound, last_point, next_point, now_confirmed, place_by, read_on}
pub use Rattle.snap_steps.specs.Steps.Way.{set_out_for, settled_at}
pub use Rattle.snap_steps.specs.Steps.Writes.{call_of, entry_of, hung, IsLeaf, IsLeafPlace, made_entry, stored}
pub use Rattle.snap_steps.specs.Work.{any_notes, any_rows, any_trail, any_way, any_words}
pub use Rattle.snap_steps.specs.Work.{Grows, held_words, KeepsLasting, KeepsPresent, KeepsReached, no_more_epochs}
pub use Rattle.snap_steps.specs.Work.{no_more_notes, no_more_reached, no_more_words, NotesMore, same_copies, same_end}
pub use Rattle.snap_steps.specs.Work.{same_present, same_rows, SeesMore}
pub use Rattle.snap_steps.specs.declared.clones.RowCopy.{RowCopy}
pub use Rattle.snap_steps.specs.declared.trying.Busy.{Busy}
pub use Rattle.snap_steps.specs.declared.view.Admitted.{Admitted}
pub use Rattle.snap_steps.specs.declared.view.Balance.{Balance}
pub use Rattle.snap_steps.specs.declared.view.Balance.TheVariants.{RowsOut, Settled, StampOut}
pub use Rattle.snap_steps.specs.declared.view.ChildHeight.{ChildHeight}
pub use Rattle.snap_steps.specs.declared.view.Fact.{Fact}
pub use Rattle.snap_steps.specs.declared.view.Role.TheVariants.{Passing}
pub use Rattle.snap_steps.specs.declared.view.Stage.{Stage}
pub use Rattle.snap_steps.specs.declared.view.Stage.TheVariants.{Closing, Idle, Writing}
pub use Rattle.snap_steps.specs.declared.view.View.{View}
pub use Rattle.snap_steps.specs.declared.view.WordNote.{WordNote}
pub use Rattle.snap_steps.specs.declared.view.WordNote.TheVariants.{Done, Epoch, Gate, Next, Trouble}
