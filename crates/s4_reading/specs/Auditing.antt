-- What `audit` prints.
use Rattle.std.specs.Prelude.{◌≡◌, ℕ, ◌++◌, ◌==◌, ◌&&◌, nat_le, if◌then◌else◌, Bool, true, List, [], take, filter, Option, Some, None}
use Rattle.std.specs.List.{flat_map}
use Rattle.std.specs.Io.KnownBytes.{Appends}
use Rattle.s4_types.specs.AuditKinds.{number_of_kind}
use Rattle.s4_types.specs.declared.audit_rows.AuditKind.{AuditKind}
use Rattle.s4_types.specs.declared.audit_rows.AuditRow.{AuditRow}
use Rattle.s4_model.specs.State.{State}
use Rattle.s4_model.specs.Audit.{audit_of}
use Rattle.drive.specs.Fields.{DriveFields, state_in}
use Rattle.history_text.specs.Audit.{audit_head, audit_line, audit_data}
use Rattle.history_text.specs.Json.{json_line}
use Rattle.moment_words.specs.declared.printing.MomentStyle.{MomentStyle}
use Rattle.moment_words.specs.Texts.{style_of}
use Rattle.s4_command.specs.declared.auditing.AuditAsked.{AuditAsked}
use Rattle.s4_images.specs.declared.commands.Verdict.{Verdict}
use Rattle.s4_images.specs.declared.commands.Verdict.TheVariants.{Fine}
use Rattle.s4_reading.specs.declared.choosing.RowQuery.{RowQuery}
use Rattle.s4_reading.specs.Logging.{AreMoments, first_asked, last_asked}

-- whether a row is of the object that is asked for; of whatever object where none is
abbrev pub is_of_object : Option ℕ → AuditRow → Bool
is_of_object None row = true
is_of_object (Some o) row = row.object == o

-- whether a row is of the kind that is asked for; of whatever kind where none is
abbrev pub is_of_kind : Option AuditKind → AuditRow → Bool
is_of_kind None row = true
is_of_kind (Some kind) row = number_of_kind row.kind == number_of_kind kind

-- whether a row is of this object and this kind, and between these moments, both among them
abbrev pub is_among : Option ℕ → (since until : ℕ) → Option AuditKind → AuditRow → Bool
is_among object since until kind row =
    (is_of_object object row && is_of_kind kind row) && (nat_le since row.moment && nat_le row.moment until)

-- whether a row is among those of a query
abbrev pub is_chosen : RowQuery → AuditRow → Bool
is_chosen query = is_among query.object query.since query.until query.kind

-- whether a row is asked for
abbrev pub is_asked : State → AuditAsked → AuditRow → Bool
is_asked s asked row = is_among asked.object (first_asked s asked.since) (last_asked s asked.until) asked.kind row

-- the first of these rows where there is a limit, and else all of them
abbrev pub at_most : Option ℕ → List AuditRow → List AuditRow
at_most None rows = rows
at_most (Some limit) rows = take limit rows

-- the rows of the audit that are printed, in order of time
abbrev pub rows_shown : State → AuditAsked → List AuditRow
rows_shown s asked = at_most asked.limit (filter (is_asked s asked) (audit_of s))

-- the line above the rows; no line above JSON
abbrev pub head_of_audit : Bool → MomentStyle → List ℕ
head_of_audit json style = if json then [] else audit_head style

-- the line of a row, for programs or for people
abbrev pub line_of_row : Bool → MomentStyle → AuditRow → List ℕ
line_of_row json style row = if json then json_line (audit_data style row) else audit_line style row

-- the head, and then the line of each of these rows
abbrev pub text_of_rows : Bool → MomentStyle → List AuditRow → List ℕ
text_of_rows json style rows = head_of_audit json style ++ flat_map (line_of_row json style) rows

-- all that is printed
abbrev pub audit_text : State → AuditAsked → List ℕ
audit_text s asked = text_of_rows asked.json (style_of s.clock asked.moments) (rows_shown s asked)

-- What `audit` asks for was printed of a drive, and nothing else, and the verdict says so.
abbrev pub PrintsAudit : DriveFields → AuditAsked → Verdict → (output output' : Option (List ℕ)) → Type 0
PrintsAudit d asked verdict output output' =
    (verdict ≡ Fine) × AreMoments (state_in d) asked.since asked.until × Appends output output' (audit_text (state_in d) asked)
