-- What a note says: the call by its numbers, and the bytes of up to two texts.
use Rattle.std.specs.Prelude.{ℕ, ◌==◌, List, if◌then◌else◌, slice_index}
use Rattle.host_calls.specs.Events.{Answer, Done, Short, Unsupported, Failed, Event, Made, Written, Cut, Synced, Renamed, Linked, Removed, FolderSynced, Locked, Owned, ModeSet}

-- the answer of a number
abbrev pub answer_of : ℕ → Answer
answer_of code = if code == 1 then Done else if code == 2 then Short else if code == 3 then Unsupported else Failed

-- the call of a number: its second number is a file's, its third an offset, a length or a mode, its last the answer
abbrev pub call_of : (kind file at answer : ℕ) → (first second : List ℕ) → Event
call_of kind file at answer first second =
    if kind == 1 then Made first at file (answer == 1)
    else if kind == 2 then Written file at first (answer == 1)
    else if kind == 3 then Cut file at (answer == 1)
    else if kind == 4 then Synced file (answer == 1)
    else if kind == 5 then Renamed first second (answer_of answer)
    else if kind == 6 then Linked first second (answer == 1)
    else if kind == 7 then Removed first (answer == 1)
    else if kind == 8 then FolderSynced first (answer_of answer)
    else if kind == 9 then Locked file (answer == 1)
    else if kind == 10 then Owned file (answer == 1)
    else ModeSet file (answer == 1)

abbrev pub event_of : (numbers first second : List ℕ) → Event
event_of numbers first second =
    call_of (slice_index numbers 0) (slice_index numbers 1) (slice_index numbers 2) (slice_index numbers 3) first second
