-- The lines that people read: columns of numbers, moments, words and attributes.
use Rattle.std.specs.Prelude.{ℕ, ◌+◌, ◌-◌, ◌*◌, ◌^◌, ◌++◌, ◌==◌, ◌&&◌, not, nat_lt, if◌then◌else◌, Bool, false, List, [], Option, Some, None, codes, decimal}
use Rattle.std.specs.Fmt.{padded_integral, format_spec}
use Rattle.std.specs.List.{list_all}
use Rattle.std.specs.Str.{chars, is_utf8}
use Rattle.hex.specs.Hex.{encode_lower}
use Rattle.codec.specs.declared.entries.Pair.{Pair}
use Rattle.history_view.specs.declared.changes.Kind.{Kind}
use Rattle.history_view.specs.declared.changes.Kind.TheVariants.{Made, Deleted, Continued, Attribute, Cut, Written, Lengthened, Touched}
use Rattle.history_view.specs.declared.changes.Blocks.{Blocks}
use Rattle.history_view.specs.declared.changes.ObjectChange.{ObjectChange}
use Rattle.history_view.specs.declared.listing.Listed.{Listed}
use Rattle.history_view.specs.declared.rows.LogRow.{LogRow}
use Rattle.history_view.specs.declared.rows.LogRow.TheVariants.{Changed, Hidden}
use Rattle.history_view.specs.declared.stats.KindCounts.{KindCounts}
use Rattle.history_view.specs.declared.stats.ObjectStat.{ObjectStat}
use Rattle.moment_words.specs.declared.printing.MomentStyle.{MomentStyle}
use Rattle.moment_words.specs.declared.printing.MomentStyle.TheVariants.{Number, Date}
use Rattle.moment_words.specs.Texts.{moment_text}
use Rattle.s4_types.specs.declared.spans.Span.{Span}
use Rattle.shown_text.specs.Hidden.{is_hidden_character}
use Rattle.history_text.specs.declared.numbers.DriveNumbers.{DriveNumbers}
use Rattle.history_text.specs.Json.{kind_word}

-- a number at the right of a column of this width
abbrev pub column : ℕ → ℕ → List ℕ
column width n = padded_integral (format_spec 32 0 0 width (2 ^ 64 - 1)) false [] (decimal n)

-- whether a character can be shown between quotation marks: one that is printed as it is, neither a quotation mark nor a backslash
abbrev pub is_printable : ℕ → Bool
is_printable c = not (is_hidden_character c) && (not (c == 34) && not (c == 92))

-- whether bytes are UTF-8 of such characters
abbrev pub are_printable : List ℕ → Bool
are_printable bytes = is_utf8 bytes && list_all is_printable (chars bytes)

-- an attribute: between quotation marks where it is printable, and else in hex
abbrev pub printed_attribute : List ℕ → List ℕ
printed_attribute bytes = if are_printable bytes then codes "\"" ++ (bytes ++ codes "\"") else encode_lower bytes

-- a moment: at the right of a column where it is a number; dates have one width
abbrev pub moment_column : MomentStyle → ℕ → List ℕ
moment_column Number moment = column 10 moment
moment_column Date moment = moment_text moment Date

-- whether an object is live, in a column
abbrev pub state_text : Bool → List ℕ
state_text is_live = if is_live then codes "live   " else codes "deleted"

-- the line above the objects
abbrev pub list_head : MomentStyle → List ℕ
list_head Number = codes "    OBJECT  STATE      SIZE     CREATED     CHANGED  ATTRIBUTE\n"
list_head Date = codes "    OBJECT  STATE      SIZE  CREATED                      CHANGED                      ATTRIBUTE\n"

-- the line of an object: its number, its state, its size in bytes, its moments and its attribute
abbrev pub listed_line : MomentStyle → Listed → List ℕ
listed_line style row =
    column 10 row.object ++ (codes "  " ++ (state_text row.is_live ++ (codes "  " ++ (column 6 row.size ++ (codes "  " ++ (moment_column style row.created
    ++ (codes "  " ++ (moment_column style row.changed ++ (codes "  " ++ (printed_attribute row.attribute ++ codes "\n"))))))))))

-- what was done, in a column
abbrev pub kind_text : Kind → List ℕ
kind_text Made = codes "made      "
kind_text Deleted = codes "deleted   "
kind_text Continued = codes "continued "
kind_text Attribute = codes "attribute "
kind_text Cut = codes "cut       "
kind_text Written = codes "written   "
kind_text Lengthened = codes "lengthened"
kind_text Touched = codes "touched   "

-- how many bytes were added at the end, and where that was; nothing where the object didn't grow
abbrev pub added_text : ObjectChange → List ℕ
added_text change =
    if nat_lt change.size_before change.size_after then
    codes "  " ++ (decimal (change.size_after - change.size_before) ++ (codes " bytes added at " ++ decimal change.size_before))
    else []

-- the range of bytes that the blocks of a change have, the last one included; nothing where it has none
abbrev pub blocks_text : Option Blocks → List ℕ
blocks_text None = []
blocks_text (Some blocks) = codes "  blocks " ++ (decimal (512 * blocks.first) ++ (codes "-" ++ decimal (512 * blocks.last + 511)))

-- attributes before and after
abbrev pub attributes_text : List ℕ → List ℕ → List ℕ
attributes_text before after = codes "  " ++ (printed_attribute before ++ (codes " -> " ++ printed_attribute after))

-- those of a change; nothing where it has none
abbrev pub pair_text : Option Pair → List ℕ
pair_text None = []
pair_text (Some pair) = attributes_text pair.before pair.after

-- the line above the changes
abbrev pub log_head : MomentStyle → List ℕ
log_head Number = codes "    MOMENT      OBJECT  CHANGE      BEFORE   AFTER\n"
log_head Date = codes "MOMENT                           OBJECT  CHANGE      BEFORE   AFTER\n"

-- what else is known of a change
abbrev pub detail_text : ObjectChange → List ℕ
detail_text change = added_text change ++ (blocks_text change.blocks ++ pair_text change.pair)

-- the line of a change of an object: its moment, the object, what was done, the sizes in bytes before and after, bytes, blocks and attributes
abbrev pub change_line : MomentStyle → ℕ → ObjectChange → List ℕ
change_line style object change =
    moment_column style change.moment
    ++ (codes "  " ++ (column 10 object ++ (codes "  " ++ (kind_text change.kind ++ (codes "  " ++ (column 6 change.size_before
    ++ (codes "  " ++ (column 6 change.size_after ++ (detail_text change ++ codes "\n")))))))))

-- whose moments a run hides, where they aren't those of all objects
abbrev pub hidden_of : ℕ → List ℕ
hidden_of o = if o == 0 then [] else codes " of object " ++ decimal o

-- the line of a run of hidden moments: the first, the last, and the object
abbrev pub hidden_line : MomentStyle → Span → List ℕ
hidden_line style run = moment_column style run.first ++ (codes "-" ++ (moment_text run.last style ++ (codes " hidden by a flush" ++ (hidden_of run.object ++ codes "\n"))))

-- the line of a row of a log
abbrev pub log_line : MomentStyle → LogRow → List ℕ
log_line style (Changed o change) = change_line style o change
log_line style (Hidden run) = hidden_line style run

-- the line above what changes come to
abbrev pub stat_head : MomentStyle → List ℕ
stat_head Number = codes "    OBJECT     CHANGES       FIRST        LAST  KINDS\n"
stat_head Date = codes "    OBJECT     CHANGES  FIRST                        LAST                         KINDS\n"

-- how many changes are of one kind, after its word; nothing where none is
abbrev pub kind_count : Kind → ℕ → List ℕ
kind_count kind count = if count == 0 then [] else codes "  " ++ (kind_word kind ++ (codes " " ++ decimal count))

-- how many changes are of each kind between the one that makes an object and the one that deletes it
abbrev pub between_text : KindCounts → List ℕ
between_text kinds =
    kind_count Written kinds.written ++ (kind_count Lengthened kinds.lengthened ++ (kind_count Cut kinds.cut ++ (kind_count Attribute kinds.attribute ++ kind_count Touched kinds.touched)))

-- how many changes are of each kind
abbrev pub kinds_text : KindCounts → List ℕ
kinds_text kinds = kind_count Made kinds.made ++ (between_text kinds ++ kind_count Deleted kinds.deleted)

-- the line of an object's changes: the object, how many they are, the moments of the first and the last, and how many are of each kind
abbrev pub stat_line : MomentStyle → ObjectStat → List ℕ
stat_line style stat =
    column 10 stat.object ++ (codes "  " ++ (column 10 stat.changes ++ (codes "  " ++ (moment_column style stat.first ++ (codes "  " ++ (moment_column style stat.last ++ (kinds_text stat.kinds ++ codes "\n")))))))

-- how many frames there are, are free, and are retired, each after its name
abbrev pub frames_text : DriveNumbers → List ℕ
frames_text n = codes "frames " ++ (decimal n.frames ++ (codes "\nfree " ++ (decimal n.free ++ (codes "\nretired " ++ (decimal n.retired ++ codes "\n")))))

-- the room, and how many objects are live and deleted, each after its name
abbrev pub counts_text : DriveNumbers → List ℕ
counts_text n = codes "room " ++ (decimal n.room ++ (codes "\nlive " ++ (decimal n.live ++ (codes "\ndeleted " ++ (decimal n.deleted ++ codes "\n")))))

-- the next number, and how far history reaches back, each after its name
abbrev pub moments_text : MomentStyle → DriveNumbers → List ℕ
moments_text style n =
    codes "next " ++ (decimal n.next ++ (codes "\nclock " ++ (moment_text n.clock style ++ (codes "\nwindow " ++ (decimal n.window ++ (codes "\nfloor " ++ (moment_text n.floor style ++ codes "\n")))))))

-- how many runs of moments are hidden of all objects, and of how many objects some are, each after its name
abbrev pub hidden_text : DriveNumbers → List ℕ
hidden_text n = codes "hidden " ++ (decimal n.hidden ++ (codes "\nhidden_objects " ++ (decimal n.hidden_objects ++ codes "\n")))

-- the lines of a drive's numbers
abbrev pub numbers_lines : MomentStyle → DriveNumbers → List ℕ
numbers_lines style n = frames_text n ++ (counts_text n ++ (moments_text style n ++ hidden_text n))
