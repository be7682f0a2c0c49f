-- What `log` prints.
use Rattle.std.specs.Prelude.{◌≡◌, ℕ, ◌^◌, ◌-◌, ◌++◌, ◌&&◌, if◌then◌else◌, MatchBool, Bool, false, true, List, [], filter, Option, Some, None, option_map}
use Rattle.std.specs.List.{flat_map}
use Rattle.std.specs.Io.KnownBytes.{Appends}
use Rattle.s4_types.specs.declared.audit_rows.AuditKind.{AuditKind}
use Rattle.s4_types.specs.declared.audit_rows.AuditKind.TheVariants.{Flush, FlushO}
use Rattle.s4_types.specs.declared.audit_rows.AuditRow.{AuditRow}
use Rattle.s4_model.specs.State.{State}
use Rattle.s4_model.specs.Audit.{audit_of}
use Rattle.version_store.specs.Store.{StoreFields}
use Rattle.drive.specs.Fields.{DriveFields, state_in, store_of}
use Rattle.history_view.specs.declared.changes.Kind.{Kind}
use Rattle.history_view.specs.declared.changes.Kind.TheVariants as kind
use Rattle.history_view.specs.declared.logs.LogQuery.{LogQuery}
use Rattle.history_view.specs.declared.rows.LogRow.{LogRow}
use Rattle.history_view.specs.declared.stats.ObjectStat.{ObjectStat}
use Rattle.history_view.specs.Logs.{ShowsLog, ShowsStats, cuts}
use Rattle.history_text.specs.Audit.{audit_data, flush_line}
use Rattle.history_text.specs.Lines.{log_head, log_line, stat_head, stat_line}
use Rattle.history_text.specs.Json.{json_line, row_data, stat_data}
use Rattle.moment_words.specs.declared.printing.MomentStyle.{MomentStyle}
use Rattle.moment_words.specs.declared.words.MomentWord.{MomentWord}
use Rattle.moment_words.specs.Texts.{style_of}
use Rattle.s4_command.specs.declared.changes.ChangeKind.{ChangeKind}
use Rattle.s4_command.specs.declared.changes.ChangeKind.TheVariants.{Made, Deleted, Written, Cut, Lengthened, Attribute, Touched}
use Rattle.s4_command.specs.declared.changes.LogAsked.{LogAsked}
use Rattle.s4_images.specs.declared.commands.Verdict.{Verdict}
use Rattle.s4_images.specs.declared.commands.Verdict.TheVariants.{Fine}
use Rattle.s4_images.specs.Moments.{HasNoMoment, IsObjectAsked, moment_said}

-- the first moment that is asked for; the least of all where none is
abbrev pub first_asked : State → Option MomentWord → ℕ
first_asked s None = 0
first_asked s (Some since) = moment_said s since

-- the last moment that is asked for; the greatest of all where none is
abbrev pub last_asked : State → Option MomentWord → ℕ
last_asked s None = 2 ^ 64 - 1
last_asked s (Some until) = moment_said s until

-- Each word that is there says a moment.
abbrev pub AreMoments : State → (since until : Option MomentWord) → Type 0
AreMoments s since until = (HasNoMoment s since → ⊥) × (HasNoMoment s until → ⊥)

-- the kind of changes that a word asks for
abbrev pub kind_asked : ChangeKind → Kind
kind_asked Made = kind.Made
kind_asked Deleted = kind.Deleted
kind_asked Written = kind.Written
kind_asked Cut = kind.Cut
kind_asked Lengthened = kind.Lengthened
kind_asked Attribute = kind.Attribute
kind_asked Touched = kind.Touched

-- A query asks for what the words of `log` ask for.
pub record IsQuery (s : State) (store : StoreFields) (log : LogAsked) (query : LogQuery) : Type 0 where
  pub object : IsObjectAsked s store log.object (option_map (λ name. name.now) log.name) s.clock query.object
  pub of_moments : AreMoments s log.since log.until
  pub since : query.since ≡ first_asked s log.since
  pub until : query.until ≡ last_asked s log.until
  pub of_kind : query.kind ≡ option_map kind_asked log.kind
  pub limit : query.limit ≡ log.limit
  pub by_object : query.order.by_object ≡ log.by_object
  pub is_reversed : query.order.is_reversed ≡ log.reverse

-- the line above the rows of a log; no line above JSON
abbrev pub head_of_log : Bool → MomentStyle → List ℕ
head_of_log json style = if json then [] else log_head style

-- the line of a row of a log, for programs or for people
abbrev pub line_of_row : Bool → MomentStyle → LogRow → List ℕ
line_of_row json style row = if json then json_line (row_data style row) else log_line style row

-- whether an accepted change was a flush
abbrev pub is_flush : AuditKind → Bool
is_flush Flush = true
is_flush FlushO = true
is_flush _ = false

-- whether the moments that a flush's row names, of its object or of all, are asked for
abbrev pub hides : LogQuery → AuditRow → Bool
hides query row = cuts query.object query.since query.until (record { object = row.object; first = row.first; last = row.second })

-- whether a row of an audit is a flush that hid moments that are asked for
abbrev pub is_hiding_flush : LogQuery → AuditRow → Bool
is_hiding_flush query row = is_flush row.kind && hides query row

-- the flushes of the audit that hid what is asked for, in order of time: whatever kind, limit and order of the changes are asked for
abbrev pub flushes_of : State → LogQuery → List AuditRow
flushes_of s query = filter (is_hiding_flush query) (audit_of s)

-- the line of a flush, for programs or for people
abbrev pub line_of_flush : Bool → MomentStyle → AuditRow → List ℕ
line_of_flush json style row = if json then json_line (audit_data style row) else flush_line style row

-- The output has the log that a query asks for after it: the head, then a line for each row, and then one for each flush that hid what is
-- asked for.
pub record PrintsLog (s : State) (store : StoreFields) (query : LogQuery) (style : MomentStyle) (json : Bool) (output output' : Option (List ℕ)) : Type 0 where
  pub rows : List LogRow
  pub shows : ShowsLog s store query rows
  pub wrote : Appends output output' (head_of_log json style ++ (flat_map (line_of_row json style) rows ++ flat_map (line_of_flush json style) (flushes_of s query)))

-- the line above what changes come to; no line above JSON
abbrev pub head_of_stats : Bool → MomentStyle → List ℕ
head_of_stats json style = if json then [] else stat_head style

-- the line of what an object's changes come to, for programs or for people
abbrev pub line_of_stat : Bool → MomentStyle → ObjectStat → List ℕ
line_of_stat json style stat = if json then json_line (stat_data style stat) else stat_line style stat

-- The output has what the log comes to that a query asks for after it: the head, and then a line for each object that it has changes of.
pub record PrintsStats (s : State) (store : StoreFields) (query : LogQuery) (style : MomentStyle) (json : Bool) (output output' : Option (List ℕ)) : Type 0 where
  pub stats : List ObjectStat
  pub shows : ShowsStats s store query stats
  pub wrote : Appends output output' (head_of_stats json style ++ flat_map (line_of_stat json style) stats)

-- What `log` asks for was printed: the log, or what it comes to.
pub record LogsDrive (s : State) (store : StoreFields) (log : LogAsked) (output output' : Option (List ℕ)) : Type 0 where
  pub query : LogQuery
  pub is : IsQuery s store log query
  pub printed : MatchBool log.stat (PrintsStats s store query (style_of s.clock log.moments) log.json output output') (PrintsLog s store query (style_of s.clock log.moments) log.json output output')

-- The same over a drive, and the verdict says so.
abbrev pub Logs : DriveFields → LogAsked → Verdict → (output output' : Option (List ℕ)) → Type 0
Logs d log verdict output output' = (verdict ≡ Fine) × LogsDrive (state_in d) (store_of d) log output output'
