-- What administrators hid and which windows they set, since the floor: a paragraph for each.
use Rattle.std.specs.Prelude.{ℕ, Bool, true, false, List, [], ◌∷◌, ◌++◌, filter, codes, decimal}
use Rattle.std.specs.List.{flat_map}
use Rattle.s4_types.specs.declared.audit_rows.AuditKind.{AuditKind}
use Rattle.s4_types.specs.declared.audit_rows.AuditKind.TheVariants.{Flush, FlushO, SetWindow}
use Rattle.s4_types.specs.declared.audit_rows.AuditRow.{AuditRow}
use Rattle.s4_model.specs.State.{State}
use Rattle.s4_model.specs.Audit.{audit_of}
use Rattle.moment_words.specs.declared.printing.MomentStyle.{MomentStyle}
use Rattle.moment_words.specs.Texts.{moment_text, style_of}
use Rattle.history_report.specs.declared.texts.TheConstants.{FLUSHES_HEAD, NO_FLUSH}
use Rattle.history_report.specs.Page.{Part, Constant, Escaped}

-- whether a page has a row of this kind: that of a flush or of a window
abbrev pub is_flush_or_window : AuditKind → Bool
is_flush_or_window Flush = true
is_flush_or_window FlushO = true
is_flush_or_window SetWindow = true
is_flush_or_window _ = false

-- the rows of these that it has, in their order
abbrev pub flushes_and_windows_among : List AuditRow → List AuditRow
flushes_and_windows_among rows = filter (λ row. is_flush_or_window row.kind) rows

-- the rows of the audit that it has
abbrev pub flushes_and_windows_of : State → List AuditRow
flushes_and_windows_of s = flushes_and_windows_among (audit_of s)

-- the beginning of a paragraph about moments that were hidden: when, and which
abbrev pub moments_hidden : MomentStyle → AuditRow → List Part
moments_hidden style row =
    Constant (codes "<p>") ∷ Escaped (moment_text row.moment style) ∷ Constant (codes ": moments ") ∷ Escaped (moment_text row.first style) ∷ Constant (codes " to ") ∷ Escaped (moment_text row.second style) ∷ []

-- moments of all objects that were hidden, and when
abbrev pub all_hidden : MomentStyle → AuditRow → List Part
all_hidden style row = moments_hidden style row ++ Constant (codes " of all objects hidden</p>\n") ∷ []

-- moments of one object that were
abbrev pub object_hidden : MomentStyle → AuditRow → List Part
object_hidden style row =
    moments_hidden style row ++ Constant (codes " of object ") ∷ Escaped (decimal row.object) ∷ Constant (codes " hidden</p>\n") ∷ []

-- a window that was set, and when
abbrev pub window_set : MomentStyle → AuditRow → List Part
window_set style row = Constant (codes "<p>") ∷ Escaped (moment_text row.moment style) ∷ Constant (codes ": the window was set to ") ∷ Escaped (decimal row.first) ∷ Constant (codes " moments</p>\n") ∷ []

-- the paragraph about a row of this kind
abbrev pub parts_by : AuditKind → MomentStyle → AuditRow → List Part
parts_by Flush style row = all_hidden style row
parts_by FlushO style row = object_hidden style row
parts_by SetWindow style row = window_set style row
parts_by _ style row = []

abbrev pub flush_parts : MomentStyle → AuditRow → List Part
flush_parts style row = parts_by row.kind style row

-- what is in place of the paragraphs where there are none
abbrev pub none_flushed : List AuditRow → List ℕ
none_flushed [] = NO_FLUSH.now
none_flushed (row ∷ rows) = []

-- all of them, by ascending moments, or that there are none
abbrev pub flushes_by : MomentStyle → List AuditRow → List Part
flushes_by style rows = flat_map (flush_parts style) rows ++ Constant (none_flushed rows) ∷ []

-- the section of a page
abbrev pub flushes_part : State → List Part
flushes_part s = Constant FLUSHES_HEAD.now ∷ flushes_by (style_of s.clock false) (flushes_and_windows_of s)
