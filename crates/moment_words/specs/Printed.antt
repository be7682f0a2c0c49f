-- What the printer of instants writes.
use Rattle.std.specs.Prelude.{◌≡◌, List, ℕ, ◌++◌, Some, false}
use Rattle.jiff_core.specs.DateTime.{civil_nanos}
use Rattle.jiff_core.specs.declared.civil.datetime.DateTime.{DateTime}
use Rattle.jiff_core.specs.declared.timestamp.Timestamp.{Timestamp}
use Rattle.jiff_fmt.specs.Text.{datetime_text, zulu_text}

-- the text is what a clock at UTC shows at the instant, with six places, and `Z`
abbrev pub IsPrinted : Timestamp → List ℕ → Type 0
IsPrinted instant text =
    (dt : DateTime) × (civil_nanos dt ≡ instant.nanosecond) × (text ≡ datetime_text false 84 (Some 6) dt ++ zulu_text false)
