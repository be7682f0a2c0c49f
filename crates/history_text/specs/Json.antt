-- The lines that programs read: one JSON object a line.
use Rattle.std.specs.Prelude.{ℕ, ◌++◌, if◌then◌else◌, Bool, List, Option, Some, None, codes}
use Rattle.std.specs.Str.{is_utf8}
use Rattle.hex.specs.Hex.{encode_lower}
use Rattle.serde_json.specs.Data.{Data, null, number, unsigned, string, object, member, no_members}
use Rattle.serde_json.specs.Written.{compact_text}
use Rattle.history_view.specs.declared.changes.Kind.{Kind}
use Rattle.history_view.specs.declared.changes.Kind.TheVariants.{Made, Deleted, Continued, Attribute, Cut, Written, Lengthened, Touched}
use Rattle.history_view.specs.declared.changes.Blocks.{Blocks}
use Rattle.history_view.specs.declared.changes.ObjectChange.{ObjectChange}
use Rattle.history_view.specs.declared.listing.Listed.{Listed}
use Rattle.history_view.specs.declared.rows.LogRow.{LogRow}
use Rattle.history_view.specs.declared.rows.LogRow.TheVariants.{Changed, Hidden}
use Rattle.history_view.specs.declared.stats.KindCounts.{KindCounts}
use Rattle.history_view.specs.declared.stats.ObjectStat.{ObjectStat}
use Rattle.moment_words.specs.declared.printing.MomentStyle.{MomentStyle}
use Rattle.moment_words.specs.declared.printing.MomentStyle.TheVariants.{Number, Date}
use Rattle.moment_words.specs.Texts.{moment_text}
use Rattle.s4_types.specs.declared.spans.Span.{Span}
use Rattle.shown_text.specs.Shown.{shown_json}
use Rattle.history_text.specs.declared.numbers.DriveNumbers.{DriveNumbers}

-- a value's line, in which characters that aren't printed as they are are there by their units of UTF-16
abbrev pub json_line : Data → List ℕ
json_line value = shown_json (compact_text value) ++ codes "\n"

-- the word for whether an object is live
abbrev pub state_word : Bool → List ℕ
state_word is_live = if is_live then codes "live" else codes "deleted"

-- the text that bytes are in UTF-8; null where they are none
abbrev pub text_data : List ℕ → Data
text_data bytes = if is_utf8 bytes then string bytes else null

-- the date of a moment; null where moments are numbers
abbrev pub time_data : MomentStyle → ℕ → Data
time_data Number moment = null
time_data Date moment = string (moment_text moment Date)

-- an object: its attribute in hex, and as text where it is text; its moments, each also as a date where moments are dates; its number, its
-- size in bytes and its state
abbrev pub listed_data : MomentStyle → Listed → Data
listed_data style row =
    object (member (codes "attribute") (string (encode_lower row.attribute))
    (member (codes "attribute_text") (text_data row.attribute)
    (member (codes "changed") (number (unsigned row.changed))
    (member (codes "changed_time") (time_data style row.changed)
    (member (codes "created") (number (unsigned row.created))
    (member (codes "created_time") (time_data style row.created)
    (member (codes "object") (number (unsigned row.object))
    (member (codes "size") (number (unsigned row.size))
    (member (codes "state") (string (state_word row.is_live)) no_members)))))))))

-- the word for what was done
abbrev pub kind_word : Kind → List ℕ
kind_word Made = codes "made"
kind_word Deleted = codes "deleted"
kind_word Continued = codes "continued"
kind_word Attribute = codes "attribute"
kind_word Cut = codes "cut"
kind_word Written = codes "written"
kind_word Lengthened = codes "lengthened"
kind_word Touched = codes "touched"

-- an attribute of a pair in hex; null where there is none
abbrev pub side_data : {P : Type 0} → (P → List ℕ) → Option P → Data
side_data side None = null
side_data side (Some pair) = string (encode_lower (side pair))

-- an index of blocks; null where there are none
abbrev pub index_data : (Blocks → ℕ) → Option Blocks → Data
index_data end None = null
index_data end (Some blocks) = number (unsigned (end blocks))

-- a change: the attributes after and before it, the first block, what was done, the last block, the moment, the object, the sizes in
-- bytes after and before it, and the moment as a date where moments are dates
abbrev pub change_data : MomentStyle → ℕ → ObjectChange → Data
change_data style o change =
    object (member (codes "attribute_after") (side_data (λ p. p.after) change.pair)
    (member (codes "attribute_before") (side_data (λ p. p.before) change.pair)
    (member (codes "first_block") (index_data (λ b. b.first) change.blocks)
    (member (codes "kind") (string (kind_word change.kind))
    (member (codes "last_block") (index_data (λ b. b.last) change.blocks)
    (member (codes "moment") (number (unsigned change.moment))
    (member (codes "object") (number (unsigned o))
    (member (codes "size_after") (number (unsigned change.size_after))
    (member (codes "size_before") (number (unsigned change.size_before))
    (member (codes "time") (time_data style change.moment) no_members))))))))))

-- a run of hidden moments: that it is one, the last moment, the first, the object, 0 where they are hidden of all, and the first moment as
-- a date where moments are dates
abbrev pub hidden_data : MomentStyle → Span → Data
hidden_data style run =
    object (member (codes "kind") (string (codes "hidden"))
    (member (codes "last") (number (unsigned run.last))
    (member (codes "last_time") (time_data style run.last)
    (member (codes "moment") (number (unsigned run.first))
    (member (codes "object") (number (unsigned run.object))
    (member (codes "time") (time_data style run.first) no_members))))))

-- a row of a log
abbrev pub row_data : MomentStyle → LogRow → Data
row_data style (Changed o change) = change_data style o change
row_data style (Hidden run) = hidden_data style run

-- how many changes are of each kind
abbrev pub kinds_data : KindCounts → Data
kinds_data kinds =
    object (member (codes "attribute") (number (unsigned kinds.attribute))
    (member (codes "cut") (number (unsigned kinds.cut))
    (member (codes "deleted") (number (unsigned kinds.deleted))
    (member (codes "lengthened") (number (unsigned kinds.lengthened))
    (member (codes "made") (number (unsigned kinds.made))
    (member (codes "touched") (number (unsigned kinds.touched))
    (member (codes "written") (number (unsigned kinds.written)) no_members)))))))

-- the changes of an object: how many they are, the moments of the first and the last, how many are of each kind, and the object
abbrev pub stat_data : MomentStyle → ObjectStat → Data
stat_data style stat =
    object (member (codes "changes") (number (unsigned stat.changes))
    (member (codes "first") (number (unsigned stat.first))
    (member (codes "first_time") (time_data style stat.first)
    (member (codes "kinds") (kinds_data stat.kinds)
    (member (codes "last") (number (unsigned stat.last))
    (member (codes "last_time") (time_data style stat.last)
    (member (codes "object") (number (unsigned stat.object)) no_members)))))))

-- the clock and the floor as dates; null where moments are numbers
abbrev pub times_data : MomentStyle → DriveNumbers → Data
times_data Number n = null
times_data Date n =
    object (member (codes "clock") (string (moment_text n.clock Date))
    (member (codes "floor") (string (moment_text n.floor Date)) no_members))

-- how many runs of moments are hidden of all objects, and of how many objects some are alone
abbrev pub counts_data : DriveNumbers → Data
counts_data n = object (member (codes "objects") (number (unsigned n.hidden_objects)) (member (codes "runs") (number (unsigned n.hidden)) no_members))

-- the numbers of a drive
abbrev pub numbers_data : MomentStyle → DriveNumbers → Data
numbers_data style n =
    object (member (codes "clock") (number (unsigned n.clock))
    (member (codes "deleted") (number (unsigned n.deleted))
    (member (codes "floor") (number (unsigned n.floor))
    (member (codes "frames") (number (unsigned n.frames))
    (member (codes "free") (number (unsigned n.free))
    (member (codes "hidden") (counts_data n)
    (member (codes "live") (number (unsigned n.live))
    (member (codes "next") (number (unsigned n.next))
    (member (codes "retired") (number (unsigned n.retired))
    (member (codes "room") (number (unsigned n.room))
    (member (codes "time") (times_data style n)
    (member (codes "window") (number (unsigned n.window)) no_members))))))))))))
