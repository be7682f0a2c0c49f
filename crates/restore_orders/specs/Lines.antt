-- The lines of what was done.
use Rattle.std.specs.Prelude.{ℕ, ◌++◌, if◌then◌else◌, Bool, List, [], Option, None, Some, codes, decimal}
use Rattle.serde_json.specs.Data.{Data, number, unsigned, string, object, member, no_members}
use Rattle.s4_types.specs.declared.spans.Span.{Span}
use Rattle.history_text.specs.Json.{json_line}
use Rattle.history_text.specs.Lines.{column}
use Rattle.history_restore.specs.declared.plans.Plan.{Plan}
use Rattle.history_restore.specs.declared.plans.Plan.TheVariants.{Keep, Delete, Remake, Change}
use Rattle.history_restore.specs.declared.restoring.Restored.{Restored}

-- ---- objects that were restored

-- the line of an object, by what was planned for it and its number afterwards; none where it was what it had been
abbrev pub planned_line : ℕ → ℕ → Plan → List ℕ
planned_line o n Keep = []
planned_line o n Delete = column 10 o ++ codes "  deleted\n"
planned_line o n (Remake changes) = column 10 o ++ (codes "  made anew as " ++ (decimal n ++ codes "\n"))
planned_line o n (Change changes) = column 10 o ++ codes "  changed\n"

abbrev pub done_data : ℕ → List ℕ → Data
done_data o done = object (member (codes "done") (string done) (member (codes "object") (number (unsigned o)) no_members))

abbrev pub remade_data : ℕ → ℕ → Data
remade_data o n = object (member (codes "done") (string (codes "made anew")) (member (codes "number") (number (unsigned n)) (member (codes "object") (number (unsigned o)) no_members)))

-- the same for programs
abbrev pub planned_json : ℕ → ℕ → Plan → List ℕ
planned_json o n Keep = []
planned_json o n Delete = json_line (done_data o (codes "deleted"))
planned_json o n (Remake changes) = json_line (remade_data o n)
planned_json o n (Change changes) = json_line (done_data o (codes "changed"))

abbrev pub planned_text : Bool → ℕ → ℕ → Plan → List ℕ
planned_text json o n plan = if json then planned_json o n plan else planned_line o n plan

abbrev pub restored_text : Bool → Restored → List ℕ
restored_text json r = planned_text json r.aim.target r.number r.plan

-- the line of an object that can't be restored
abbrev pub skipped_text : Bool → ℕ → List ℕ
skipped_text json o = if json then json_line (done_data o (codes "not restored")) else column 10 o ++ codes "  not restored\n"

-- ---- moments that are hidden

abbrev pub hidden_line : Span → List ℕ
hidden_line span = column 10 span.object ++ (codes "  hidden " ++ (decimal span.first ++ (codes "-" ++ (decimal span.last ++ codes "\n"))))

abbrev pub hidden_data : Span → Data
hidden_data span = object (member (codes "done") (string (codes "hidden")) (member (codes "first") (number (unsigned span.first)) (member (codes "last") (number (unsigned span.last)) (member (codes "object") (number (unsigned span.object)) no_members))))

abbrev pub hidden_json : Span → List ℕ
hidden_json span = json_line (hidden_data span)

-- the line of the moments that are hidden, if there are any
abbrev pub hidden_text : Bool → Option Span → List ℕ
hidden_text json None = []
hidden_text json (Some span) = if json then hidden_json span else hidden_line span

-- ---- the window

abbrev pub window_line : ℕ → ℕ → List ℕ
window_line before window = codes "window " ++ (decimal before ++ (codes " widened to " ++ (decimal window ++ (codes "; SetWindow " ++ (decimal before ++ codes " puts it back\n")))))

abbrev pub window_data : ℕ → ℕ → Data
window_data before window = object (member (codes "done") (string (codes "widened")) (member (codes "from") (number (unsigned before)) (member (codes "to") (number (unsigned window)) no_members)))

abbrev pub window_json : ℕ → ℕ → List ℕ
window_json before window = json_line (window_data before window)

-- the line of a window that was widened, if it was
abbrev pub window_text : Bool → ℕ → Option ℕ → List ℕ
window_text json before None = []
window_text json before (Some window) = if json then window_json before window else window_line before window
