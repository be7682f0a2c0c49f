-- The program's command line in clap's own words, and which command the matches of a line encode.
use Rattle.std.specs.Prelude.{◌≡◌, ◌↔◌, ◌⊎◌, ℕ, List, [], Option, Some, None, true, codes, option_map, unwrap_or}
use Rattle.std.specs.Borrow.{Bor}
use Rattle.std.specs.List.{AllZip}
use Rattle.clap.specs.Walk.{Row, Rule, Text, all_of, first_of, one_of}
use Rattle.clap.specs.Simple.{App, new_app, new_rule, on_top, with_rule, with_subcommand}
use Rattle.clap.specs.declared.builder.action.ArgAction.TheVariants.{Set, Append}
use Rattle.s4_types.specs.declared.audit_rows.AuditKind.{AuditKind}
use Rattle.s4_types.specs.declared.audit_rows.AuditKind.TheVariants.{Create, Delete, Write, Truncate, SetAttr, SetWindow, Flush, FlushO}
use Rattle.moment_words.specs.Words.{IsAge, IsMomentWord}
use Rattle.moment_words.specs.declared.words.MomentWord.{MomentWord}
use Rattle.s4d_command.specs.CommandLine.{flag_rule, needed_rule, value_rule, IsGiven, IsNumber}
use Rattle.s4_command.specs.declared.Command.{Command}
use Rattle.s4_command.specs.declared.Command.TheVariants as command
use Rattle.s4_command.specs.declared.auditing.AuditAsked.{AuditAsked}
use Rattle.s4_command.specs.declared.contents.ListAsked.{ListAsked}
use Rattle.s4_command.specs.declared.contents.CatAsked.{CatAsked}
use Rattle.s4_command.specs.declared.contents.ExportAsked.{ExportAsked}
use Rattle.s4_command.specs.declared.changes.LogAsked.{LogAsked}
use Rattle.s4_command.specs.declared.changes.DiffAsked.{DiffAsked}
use Rattle.s4_command.specs.declared.changes.ReportAsked.{ReportAsked}
use Rattle.s4_command.specs.declared.changes.ChangeKind.{ChangeKind}
use Rattle.s4_command.specs.declared.changes.ChangeKind.TheVariants.{Made, Deleted, Written, Cut, Lengthened, Attribute, Touched}
use Rattle.s4_command.specs.declared.whole.InfoAsked.{InfoAsked}
use Rattle.s4_command.specs.declared.whole.CheckAsked.{CheckAsked}
use Rattle.s4_command.specs.declared.whole.CompactAsked.{CompactAsked}
use Rattle.s4_command.specs.declared.whole.SalvageAsked.{SalvageAsked}
use Rattle.s4_command.specs.declared.restoring.RestoreAsked.{RestoreAsked}
use Rattle.s4_command.specs.declared.copying.CopyAsked.{CopyAsked}

-- `--name VALUE`, which has to be given
abbrev pub needed_value_rule : Text → Rule
needed_value_rule name =
    record (new_rule name) { long = Some name; action = Some Set; value_names = 1; required = true }

-- `--name VALUE`, as often as it is given
abbrev pub values_rule : Text → Rule
values_rule name = record (new_rule name) { long = Some name; action = Some Append; value_names = 1 }

-- a word that represents itself, which is given or not
abbrev pub optional_rule : Text → Rule
optional_rule name = record (new_rule name) { action = Some Set; value_names = 1 }

-- `list [--at M] [--deleted] [--versions] [--contents] [--moments] [--json] IMAGE`
abbrev pub list_line : App
list_line = with_rule (with_rule (with_rule (with_rule (with_rule (with_rule (with_rule (new_app (codes "list"))
    (value_rule (codes "at")))
    (flag_rule (codes "deleted")))
    (flag_rule (codes "versions")))
    (flag_rule (codes "contents")))
    (flag_rule (codes "moments")))
    (flag_rule (codes "json")))
    (needed_rule (codes "image"))

-- `log [--object O] [--name TEXT] [--since M] [--until M] [--kind KIND] [--limit N] [--by-object] [--reverse] [--stat] [--moments] [--json] IMAGE`
abbrev pub log_line : App
log_line = with_rule (with_rule (with_rule (with_rule (with_rule (with_rule (with_rule (with_rule (with_rule (with_rule (with_rule (with_rule (new_app (codes "log"))
    (value_rule (codes "object")))
    (value_rule (codes "name")))
    (value_rule (codes "since")))
    (value_rule (codes "until")))
    (value_rule (codes "kind")))
    (value_rule (codes "limit")))
    (flag_rule (codes "by-object")))
    (flag_rule (codes "reverse")))
    (flag_rule (codes "stat")))
    (flag_rule (codes "moments")))
    (flag_rule (codes "json")))
    (needed_rule (codes "image"))

-- `audit [--object O] [--since M] [--until M] [--kind KIND] [--limit N] [--moments] [--json] IMAGE`
abbrev pub audit_line : App
audit_line = with_rule (with_rule (with_rule (with_rule (with_rule (with_rule (with_rule (with_rule (new_app (codes "audit"))
    (value_rule (codes "object")))
    (value_rule (codes "since")))
    (value_rule (codes "until")))
    (value_rule (codes "kind")))
    (value_rule (codes "limit")))
    (flag_rule (codes "moments")))
    (flag_rule (codes "json")))
    (needed_rule (codes "image"))

-- `cat [--at M] [--name TEXT] IMAGE [OBJECT]`
abbrev pub cat_line : App
cat_line = with_rule (with_rule (with_rule (with_rule (new_app (codes "cat"))
    (value_rule (codes "at")))
    (value_rule (codes "name")))
    (needed_rule (codes "image")))
    (optional_rule (codes "object"))

-- `info [--moments] [--json] IMAGE`
abbrev pub info_line : App
info_line = with_rule (with_rule (with_rule (new_app (codes "info"))
    (flag_rule (codes "moments")))
    (flag_rule (codes "json")))
    (needed_rule (codes "image"))

-- `diff [--object O] [--name TEXT] [--patch] [--text] [--raw] [--moments] [--json] IMAGE FROM [TO]`
abbrev pub diff_line : App
diff_line = with_rule (with_rule (with_rule (with_rule (with_rule (with_rule (with_rule (with_rule (with_rule (with_rule (new_app (codes "diff"))
    (value_rule (codes "object")))
    (value_rule (codes "name")))
    (flag_rule (codes "patch")))
    (flag_rule (codes "text")))
    (flag_rule (codes "raw")))
    (flag_rule (codes "moments")))
    (flag_rule (codes "json")))
    (needed_rule (codes "image")))
    (needed_rule (codes "from")))
    (optional_rule (codes "to"))

-- `export [--at M] IMAGE DIR`
abbrev pub export_line : App
export_line = with_rule (with_rule (with_rule (new_app (codes "export"))
    (value_rule (codes "at")))
    (needed_rule (codes "image")))
    (needed_rule (codes "folder"))

-- `[--map FILE] [--dry-run] [--flush] [--skip] [--keep-newer] [--to-nothing] [--leap DURATION] [--json] IMAGE` after what is there
abbrev pub with_restore_rules : App → App
with_restore_rules app = with_rule (with_rule (with_rule (with_rule (with_rule (with_rule (with_rule (with_rule (with_rule app
    (value_rule (codes "map")))
    (flag_rule (codes "dry-run")))
    (flag_rule (codes "flush")))
    (flag_rule (codes "skip")))
    (flag_rule (codes "keep-newer")))
    (flag_rule (codes "to-nothing")))
    (value_rule (codes "leap")))
    (flag_rule (codes "json")))
    (needed_rule (codes "image"))

-- `restore --at M [--object O].. [--name TEXT] [--map FILE] [--dry-run] [--flush] [--skip] [--keep-newer] [--to-nothing] [--leap DURATION] [--json] IMAGE`
abbrev pub restore_line : App
restore_line = with_restore_rules (with_rule (with_rule (with_rule (new_app (codes "restore"))
    (needed_value_rule (codes "at")))
    (values_rule (codes "object")))
    (value_rule (codes "name")))

-- `check [--json] IMAGE`
abbrev pub check_line : App
check_line = with_rule (with_rule (new_app (codes "check"))
    (flag_rule (codes "json")))
    (needed_rule (codes "image"))

-- `compact [--json] IMAGE`
abbrev pub compact_line : App
compact_line = with_rule (with_rule (new_app (codes "compact"))
    (flag_rule (codes "json")))
    (needed_rule (codes "image"))

-- `copy [--frames N] [--without OBJECT].. [--without-created-since M] [--json] IMAGE NEW`
abbrev pub copy_line : App
copy_line = with_rule (with_rule (with_rule (with_rule (with_rule (with_rule (new_app (codes "copy"))
    (value_rule (codes "frames")))
    (values_rule (codes "without")))
    (value_rule (codes "without-created-since")))
    (flag_rule (codes "json")))
    (needed_rule (codes "image")))
    (needed_rule (codes "copy"))

-- `salvage [--json] IMAGE DIR`
abbrev pub salvage_line : App
salvage_line = with_rule (with_rule (with_rule (new_app (codes "salvage"))
    (flag_rule (codes "json")))
    (needed_rule (codes "image")))
    (needed_rule (codes "folder"))

-- `report [--since M] IMAGE`
abbrev pub report_line : App
report_line = with_rule (with_rule (new_app (codes "report"))
    (value_rule (codes "since")))
    (needed_rule (codes "image"))

-- the program, which has a version, as each of its commands has, and the command `help` too; one of its commands has to be given
abbrev pub program : App
program = on_top (λ s. record s { has_version = true; propagate_version = true; subcommand_required = true })
    (new_app (codes "s4"))

-- the program's whole command line
abbrev pub line : App
line = with_subcommand (with_subcommand (with_subcommand (with_subcommand (with_subcommand (with_subcommand (with_subcommand (with_subcommand
    (with_subcommand (with_subcommand (with_subcommand (with_subcommand (with_subcommand program
    list_line.top) log_line.top) audit_line.top) cat_line.top) info_line.top)
    diff_line.top) export_line.top) restore_line.top) check_line.top) compact_line.top) copy_line.top) salvage_line.top) report_line.top

-- a number that is given is what the text reads as; none is where no text is there
abbrev pub IsAsked : Text → List Row → Option ℕ → Type 0
IsAsked name rows None = first_of name rows ≡ None
IsAsked name rows (Some n) = IsNumber (one_of name rows) n

-- the text is there, and says this of a moment, at this time
abbrev pub IsMomentAt : ℕ → Option Text → MomentWord → Type 0
IsMomentAt now None moment = ⊥
IsMomentAt now (Some text) moment = IsMomentWord now text moment

-- a moment that is given is what the text says; none is where no text is there
abbrev pub IsMomentAsked : ℕ → Text → List Row → Option MomentWord → Type 0
IsMomentAsked now name rows None = first_of name rows ≡ None
IsMomentAsked now name rows (Some moment) = IsMomentAt now (first_of name rows) moment

-- a text that is given; none is where no text is there
abbrev pub IsTextAsked : Text → List Row → Option (Bor Text) → Type 0
IsTextAsked name rows text = option_map (λ t. t.now) text ≡ first_of name rows

-- the word for a kind of change
abbrev pub kind_word : ChangeKind → Text
kind_word Made = codes "made"
kind_word Deleted = codes "deleted"
kind_word Written = codes "written"
kind_word Cut = codes "cut"
kind_word Lengthened = codes "lengthened"
kind_word Attribute = codes "attribute"
kind_word Touched = codes "touched"

-- a kind that is given is the one with this word; none is where no text is there
abbrev pub IsKindAsked : List Row → Option ChangeKind → Type 0
IsKindAsked rows None = first_of (codes "kind") rows ≡ None
IsKindAsked rows (Some kind) = first_of (codes "kind") rows ≡ Some (kind_word kind)

-- the word for a kind of accepted change
abbrev pub accepted_word : AuditKind → Text
accepted_word Create = codes "create"
accepted_word Delete = codes "delete"
accepted_word Write = codes "write"
accepted_word Truncate = codes "truncate"
accepted_word SetAttr = codes "setattr"
accepted_word SetWindow = codes "setwindow"
accepted_word Flush = codes "flush"
accepted_word FlushO = codes "flusho"

-- a kind of accepted change that is given is the one with this word; none is where no text is there
abbrev pub IsAcceptedAsked : List Row → Option AuditKind → Type 0
IsAcceptedAsked rows None = first_of (codes "kind") rows ≡ None
IsAcceptedAsked rows (Some kind) = first_of (codes "kind") rows ≡ Some (accepted_word kind)

-- at most one of the two is given
abbrev pub AreApart : Text → Text → List Row → Type 0
AreApart one other rows = (first_of one rows ≡ None) ⊎ (first_of other rows ≡ None)

-- at least one of the two is given
abbrev pub IsOneGiven : Text → Text → List Row → Type 0
IsOneGiven one other rows = first_of one rows ≡ None → first_of other rows ≡ None → ⊥

-- at most one of the two flags is given
abbrev pub AreFlagsApart : Text → Text → List Row → Type 0
AreFlagsApart one other rows = IsGiven one rows → IsGiven other rows → ⊥

-- where the one flag is given, the other is
abbrev pub IsFlagBeside : Text → Text → List Row → Type 0
IsFlagBeside one other rows = IsGiven one rows → IsGiven other rows

-- the numbers are what the texts read as, one of each, in their order
abbrev pub AreNumbers : List Text → List ℕ → Type 0
AreNumbers = AllZip (λ text. IsNumber (Some text))

-- the texts that are there, in the order of the words; none where nothing is there
abbrev pub texts_of : Text → List Row → List Text
texts_of name rows = unwrap_or (all_of name rows) []

-- a text is a duration, in microseconds: a number with the letter of a unit
abbrev pub IsDurationAt : Option Text → ℕ → Type 0
IsDurationAt None micros = ⊥
IsDurationAt (Some text) micros = IsAge text micros

-- the duration that is given is what its text reads as; none is where no text is there
abbrev pub IsDurationAsked : Text → List Row → Option ℕ → Type 0
IsDurationAsked name rows None = first_of name rows ≡ None
IsDurationAsked name rows (Some micros) = IsDurationAt (first_of name rows) micros

-- The matches of `list` have this text, this moment and these flags, of which `contents` isn't there without `versions`, and `versions` not
-- without `json`.
pub record SpellsList (now : ℕ) (rows : List Row) (list : ListAsked) : Type 0 where
  pub image : first_of (codes "image") rows ≡ Some list.image.now
  pub at : IsMomentAsked now (codes "at") rows list.at
  pub contents_beside : IsFlagBeside (codes "contents") (codes "versions") rows
  pub versions_beside : IsFlagBeside (codes "versions") (codes "json") rows
  pub deleted : (list.deleted ≡ true) ↔ IsGiven (codes "deleted") rows
  pub versions : (list.versions ≡ true) ↔ IsGiven (codes "versions") rows
  pub contents : (list.contents ≡ true) ↔ IsGiven (codes "contents") rows
  pub moments : (list.moments ≡ true) ↔ IsGiven (codes "moments") rows
  pub json : (list.json ≡ true) ↔ IsGiven (codes "json") rows

-- The matches of `log` have these texts, at most one of a number and a name, these moments, this kind, this limit and these flags.
pub record SpellsLog (now : ℕ) (rows : List Row) (log : LogAsked) : Type 0 where
  pub image : first_of (codes "image") rows ≡ Some log.image.now
  pub apart : AreApart (codes "object") (codes "name") rows
  pub object : IsAsked (codes "object") rows log.object
  pub name : IsTextAsked (codes "name") rows log.name
  pub since : IsMomentAsked now (codes "since") rows log.since
  pub until : IsMomentAsked now (codes "until") rows log.until
  pub kind : IsKindAsked rows log.kind
  pub limit : IsAsked (codes "limit") rows log.limit
  pub by_object : (log.by_object ≡ true) ↔ IsGiven (codes "by-object") rows
  pub reverse : (log.reverse ≡ true) ↔ IsGiven (codes "reverse") rows
  pub stat : (log.stat ≡ true) ↔ IsGiven (codes "stat") rows
  pub moments : (log.moments ≡ true) ↔ IsGiven (codes "moments") rows
  pub json : (log.json ≡ true) ↔ IsGiven (codes "json") rows

-- The matches of `audit` have this text, this object, these moments, this kind, this limit and these flags.
pub record SpellsAudit (now : ℕ) (rows : List Row) (audit : AuditAsked) : Type 0 where
  pub image : first_of (codes "image") rows ≡ Some audit.image.now
  pub object : IsAsked (codes "object") rows audit.object
  pub since : IsMomentAsked now (codes "since") rows audit.since
  pub until : IsMomentAsked now (codes "until") rows audit.until
  pub kind : IsAcceptedAsked rows audit.kind
  pub limit : IsAsked (codes "limit") rows audit.limit
  pub moments : (audit.moments ≡ true) ↔ IsGiven (codes "moments") rows
  pub json : (audit.json ≡ true) ↔ IsGiven (codes "json") rows

-- The matches of `cat` have this text, a number or a name and not both, and this moment.
pub record SpellsCat (now : ℕ) (rows : List Row) (cat : CatAsked) : Type 0 where
  pub image : first_of (codes "image") rows ≡ Some cat.image.now
  pub apart : AreApart (codes "object") (codes "name") rows
  pub given : IsOneGiven (codes "object") (codes "name") rows
  pub object : IsAsked (codes "object") rows cat.object
  pub name : IsTextAsked (codes "name") rows cat.name
  pub at : IsMomentAsked now (codes "at") rows cat.at

-- The matches of `info` have this text and these flags.
pub record SpellsInfo (rows : List Row) (info : InfoAsked) : Type 0 where
  pub image : first_of (codes "image") rows ≡ Some info.image.now
  pub moments : (info.moments ≡ true) ↔ IsGiven (codes "moments") rows
  pub json : (info.json ≡ true) ↔ IsGiven (codes "json") rows

-- The matches of `diff` have this text, these moments, at most one of a number and a name, and these flags, of which `patch` and `text` aren't both there.
pub record SpellsDiff (now : ℕ) (rows : List Row) (diff : DiffAsked) : Type 0 where
  pub image : first_of (codes "image") rows ≡ Some diff.image.now
  pub apart : AreApart (codes "object") (codes "name") rows
  pub flags_apart : AreFlagsApart (codes "patch") (codes "text") rows
  pub from : IsMomentAsked now (codes "from") rows (Some diff.from)
  pub to : IsMomentAsked now (codes "to") rows diff.to
  pub object : IsAsked (codes "object") rows diff.object
  pub name : IsTextAsked (codes "name") rows diff.name
  pub patch : (diff.patch ≡ true) ↔ IsGiven (codes "patch") rows
  pub text : (diff.text ≡ true) ↔ IsGiven (codes "text") rows
  pub raw : (diff.raw ≡ true) ↔ IsGiven (codes "raw") rows
  pub moments : (diff.moments ≡ true) ↔ IsGiven (codes "moments") rows
  pub json : (diff.json ≡ true) ↔ IsGiven (codes "json") rows

-- The matches of `export` have these texts and this moment.
pub record SpellsExport (now : ℕ) (rows : List Row) (export : ExportAsked) : Type 0 where
  pub image : first_of (codes "image") rows ≡ Some export.image.now
  pub folder : first_of (codes "folder") rows ≡ Some export.folder.now
  pub at : IsMomentAsked now (codes "at") rows export.at

-- The matches of `restore` have these texts, this moment, exactly these objects, in the order of the words, or a name, and these flags; and
-- it is done at this time.
pub record SpellsRestore (time : ℕ) (rows : List Row) (restore : RestoreAsked) : Type 0 where
  pub image : first_of (codes "image") rows ≡ Some restore.image.now
  pub apart : AreApart (codes "object") (codes "name") rows
  pub at : IsMomentAsked time (codes "at") rows (Some restore.at)
  pub now : restore.now ≡ time
  pub objects : AreNumbers (texts_of (codes "object") rows) restore.objects.items
  pub name : IsTextAsked (codes "name") rows restore.name
  pub map : IsTextAsked (codes "map") rows restore.map
  pub dry_run : (restore.dry_run ≡ true) ↔ IsGiven (codes "dry-run") rows
  pub flush : (restore.flush ≡ true) ↔ IsGiven (codes "flush") rows
  pub skip : (restore.skip ≡ true) ↔ IsGiven (codes "skip") rows
  pub keep_newer : (restore.keep_newer ≡ true) ↔ IsGiven (codes "keep-newer") rows
  pub to_nothing : (restore.to_nothing ≡ true) ↔ IsGiven (codes "to-nothing") rows
  pub leap : IsDurationAsked (codes "leap") rows restore.leap
  pub json : (restore.json ≡ true) ↔ IsGiven (codes "json") rows

-- The matches of `check` have this text and this flag.
pub record SpellsCheck (rows : List Row) (check : CheckAsked) : Type 0 where
  pub image : first_of (codes "image") rows ≡ Some check.image.now
  pub json : (check.json ≡ true) ↔ IsGiven (codes "json") rows

-- The matches of `compact` have this text and this flag.
pub record SpellsCompact (rows : List Row) (compact : CompactAsked) : Type 0 where
  pub image : first_of (codes "image") rows ≡ Some compact.image.now
  pub json : (compact.json ≡ true) ↔ IsGiven (codes "json") rows

-- The matches of `copy` have these texts, this number, exactly these objects, in the order of the words, this moment and this flag.
pub record SpellsCopy (now : ℕ) (rows : List Row) (copy : CopyAsked) : Type 0 where
  pub image : first_of (codes "image") rows ≡ Some copy.image.now
  pub copy_is : first_of (codes "copy") rows ≡ Some copy.copy.now
  pub frames : IsAsked (codes "frames") rows copy.frames
  pub without : AreNumbers (texts_of (codes "without") rows) copy.without.items
  pub created_since : IsMomentAsked now (codes "without-created-since") rows copy.created_since
  pub json : (copy.json ≡ true) ↔ IsGiven (codes "json") rows

-- The matches of `salvage` have these texts and this flag.
pub record SpellsSalvage (rows : List Row) (salvage : SalvageAsked) : Type 0 where
  pub image : first_of (codes "image") rows ≡ Some salvage.image.now
  pub folder : first_of (codes "folder") rows ≡ Some salvage.folder.now
  pub json : (salvage.json ≡ true) ↔ IsGiven (codes "json") rows

-- The matches of `report` have this text and this moment.
pub record SpellsReport (now : ℕ) (rows : List Row) (report : ReportAsked) : Type 0 where
  pub image : first_of (codes "image") rows ≡ Some report.image.now
  pub since : IsMomentAsked now (codes "since") rows report.since

-- The name and the matches of a subcommand encode the command, at this time, in microseconds since 1970.
abbrev pub Spells : ℕ → Option (Text × List Row) → Command → Type 0
Spells now None c = ⊥
Spells now (Some named) (command.List list) = (named.0 ≡ codes "list") × SpellsList now named.1 list
Spells now (Some named) (command.Log log) = (named.0 ≡ codes "log") × SpellsLog now named.1 log
Spells now (Some named) (command.Audit audit) = (named.0 ≡ codes "audit") × SpellsAudit now named.1 audit
Spells now (Some named) (command.Cat cat) = (named.0 ≡ codes "cat") × SpellsCat now named.1 cat
Spells now (Some named) (command.Info info) = (named.0 ≡ codes "info") × SpellsInfo named.1 info
Spells now (Some named) (command.Diff diff) = (named.0 ≡ codes "diff") × SpellsDiff now named.1 diff
Spells now (Some named) (command.Export export) = (named.0 ≡ codes "export") × SpellsExport now named.1 export
Spells now (Some named) (command.Restore restore) = (named.0 ≡ codes "restore") × SpellsRestore now named.1 restore
Spells now (Some named) (command.Check check) = (named.0 ≡ codes "check") × SpellsCheck named.1 check
Spells now (Some named) (command.Compact compact) = (named.0 ≡ codes "compact") × SpellsCompact named.1 compact
Spells now (Some named) (command.Copy copy) = (named.0 ≡ codes "copy") × SpellsCopy now named.1 copy
Spells now (Some named) (command.Salvage salvage) = (named.0 ≡ codes "salvage") × SpellsSalvage named.1 salvage
Spells now (Some named) (command.Report report) = (named.0 ≡ codes "report") × SpellsReport now named.1 report

-- They encode none.
abbrev pub SpellsNone : ℕ → Option (Text × List Row) → Type 0
SpellsNone now named = (c : Command) → Spells now named c → ⊥
