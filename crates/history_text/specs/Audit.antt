-- The lines of an audit: columns for people, and one JSON object a line for programs.
use Rattle.std.specs.Prelude.{ℕ, ◌++◌, List, [], codes, decimal}
use Rattle.serde_json.specs.Data.{Data, null, number, unsigned, string, object, member, no_members}
use Rattle.moment_words.specs.declared.printing.MomentStyle.{MomentStyle}
use Rattle.moment_words.specs.declared.printing.MomentStyle.TheVariants.{Number, Date}
use Rattle.moment_words.specs.Texts.{moment_text}
use Rattle.s4_types.specs.declared.audit_rows.AuditKind.{AuditKind}
use Rattle.s4_types.specs.declared.audit_rows.AuditKind.TheVariants.{Create, Delete, Write, Truncate, SetAttr, SetWindow, Flush, FlushO}
use Rattle.s4_types.specs.declared.audit_rows.AuditRow.{AuditRow}
use Rattle.history_text.specs.Json.{time_data}
use Rattle.history_text.specs.Lines.{column, hidden_of, moment_column}

-- the word for a kind of accepted change
abbrev pub kind_word : AuditKind → List ℕ
kind_word Create = codes "create"
kind_word Delete = codes "delete"
kind_word Write = codes "write"
kind_word Truncate = codes "truncate"
kind_word SetAttr = codes "setattr"
kind_word SetWindow = codes "setwindow"
kind_word Flush = codes "flush"
kind_word FlushO = codes "flusho"

-- the same in a column
abbrev pub kind_column : AuditKind → List ℕ
kind_column Create = codes "create   "
kind_column Delete = codes "delete   "
kind_column Write = codes "write    "
kind_column Truncate = codes "truncate "
kind_column SetAttr = codes "setattr  "
kind_column SetWindow = codes "setwindow"
kind_column Flush = codes "flush    "
kind_column FlushO = codes "flusho   "

-- what was done, by the two numbers of a row: the length of an attribute, offset and length of what was written, the size, the window,
-- or the first and the last of the hidden moments
abbrev pub what_text : MomentStyle → AuditKind → ℕ → ℕ → List ℕ
what_text style Create first second = codes "  attribute length " ++ decimal first
what_text style Delete first second = []
what_text style Write first second = codes "  offset " ++ (decimal first ++ (codes " length " ++ decimal second))
what_text style Truncate first second = codes "  size " ++ decimal first
what_text style SetAttr first second = codes "  attribute length " ++ decimal first
what_text style SetWindow first second = codes "  window " ++ decimal first
what_text style Flush first second = codes "  " ++ (moment_text first style ++ (codes "-" ++ moment_text second style))
what_text style FlushO first second = codes "  " ++ (moment_text first style ++ (codes "-" ++ moment_text second style))

-- the line above the rows of an audit
abbrev pub audit_head : MomentStyle → List ℕ
audit_head Number = codes "    MOMENT  KIND           OBJECT  WHAT\n"
audit_head Date = codes "MOMENT                       KIND           OBJECT  WHAT\n"

-- the line of a row: its moment, its kind, its object, and what was done
abbrev pub audit_line : MomentStyle → AuditRow → List ℕ
audit_line style row =
    moment_column style row.moment
    ++ (codes "  " ++ (kind_column row.kind ++ (codes "  " ++ (column 10 row.object ++ (what_text style row.kind row.first row.second ++ codes "\n")))))

-- the line of a flush below the rows of a log: its moment, the first and the last moment that it hid, and the object where it wasn't of all
abbrev pub flush_line : MomentStyle → AuditRow → List ℕ
flush_line style row =
    moment_column style row.moment
    ++ (codes "  flush hid " ++ (moment_text row.first style ++ (codes "-" ++ (moment_text row.second style ++ (hidden_of row.object ++ codes "\n")))))

-- where bytes were written, and how many
abbrev pub bytes_data : (offset length : ℕ) → Data
bytes_data offset length = object (member (codes "length") (number (unsigned length)) (member (codes "offset") (number (unsigned offset)) no_members))

-- the first and the last of hidden moments, each also as a date where moments are dates
abbrev pub moments_data : MomentStyle → (first last : ℕ) → Data
moments_data style first last =
    object (member (codes "first") (number (unsigned first))
    (member (codes "first_time") (time_data style first)
    (member (codes "last") (number (unsigned last))
    (member (codes "last_time") (time_data style last) no_members))))

-- what was done, by the two numbers of a row; null of a deletion
abbrev pub what_data : MomentStyle → AuditKind → ℕ → ℕ → Data
what_data style Create first second = object (member (codes "attribute_length") (number (unsigned first)) no_members)
what_data style Delete first second = null
what_data style Write first second = bytes_data first second
what_data style Truncate first second = object (member (codes "size") (number (unsigned first)) no_members)
what_data style SetAttr first second = object (member (codes "attribute_length") (number (unsigned first)) no_members)
what_data style SetWindow first second = object (member (codes "window") (number (unsigned first)) no_members)
what_data style Flush first second = moments_data style first second
what_data style FlushO first second = moments_data style first second

-- a row: its kind, its moment, its object, the moment as a date where moments are dates, and what was done
abbrev pub audit_data : MomentStyle → AuditRow → Data
audit_data style row =
    object (member (codes "kind") (string (kind_word row.kind))
    (member (codes "moment") (number (unsigned row.moment))
    (member (codes "object") (number (unsigned row.object))
    (member (codes "time") (time_data style row.moment)
    (member (codes "what") (what_data style row.kind row.first row.second) no_members)))))
