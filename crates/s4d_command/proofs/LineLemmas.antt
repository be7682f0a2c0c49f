-- What the parser's builder makes of the rows of a program.
use Rattle.std.proofs.Common.{◌≡◌, ◌∙◌, ℕ, suc, ◌+◌, ◌<◌, ◌≤◌, List, length, drop, drop-cons, drop_of_length-le, get_or, add-one, sym, ap}
use Rattle.clap.specs.Simple.{App, with_subcommand}
use Rattle.s4d_command.specs.declared.arguments.Argument.{Argument}
use Rattle.s4d_command.specs.declared.arguments.CommandRow.{CommandRow}
use Rattle.s4d_command.specs.Rows.{row_line, with_arguments, with_rows}

-- a row's command is made, and the rest is left
pub one_row_less : (rows : List CommandRow) (row : CommandRow) (place : ℕ) (old new whole : App) → place < length rows
    → new ≡ with_subcommand old (row_line (get_or rows place row)).top → with_rows (drop place rows) old ≡ whole
    → with_rows (drop (place + 1) rows) new ≡ whole
one_row_less rows row place old new whole inside made had =
    ap (λ (next : ℕ). with_rows (drop next rows) new) (add-one place)
    ∙ ap (with_rows (drop (suc place) rows)) made
    ∙ ap (λ (left : List CommandRow). with_rows left old) (sym (drop-cons rows place row inside))
    ∙ had

-- no row is left
pub no_row_left : (rows : List CommandRow) (place : ℕ) (now whole : App) → length rows ≤ place
    → with_rows (drop place rows) now ≡ whole → now ≡ whole
no_row_left rows place now whole past had =
    ap (λ (left : List CommandRow). with_rows left now) (sym (drop_of_length-le rows past)) ∙ had

-- no argument is left
pub no_argument_left : (arguments : List Argument) (place : ℕ) (now whole : App) → length arguments ≤ place
    → with_arguments (drop place arguments) now ≡ whole → now ≡ whole
no_argument_left arguments place now whole past had =
    ap (λ (left : List Argument). with_arguments left now) (sym (drop_of_length-le arguments past)) ∙ had
