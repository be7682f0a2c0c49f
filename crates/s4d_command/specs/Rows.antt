-- The command lines that rows of arguments describe.
use Rattle.std.specs.Prelude.{List, [], ◌∷◌, Some, true, false}
use Rattle.clap.specs.Simple.{App, new_app, with_rule, with_subcommand}
use Rattle.clap.specs.Walk.{Rule}
use Rattle.clap.specs.declared.builder.action.ArgAction.TheVariants.{Append}
use Rattle.s4d_command.specs.CommandLine.{option_rule, operand_rule, flag_rule, value_rule, needed_rule, list_rule}
use Rattle.s4d_command.specs.declared.arguments.Argument.{Argument}
use Rattle.s4d_command.specs.declared.arguments.Argument.TheVariants.{Flag, Value, NeededValue, Values, NeededValues, Word, OptionalWord, Setting, Operand, Operands}
use Rattle.s4d_command.specs.declared.arguments.CommandRow.{CommandRow}

abbrev pub argument_rule : Argument → Rule
argument_rule (Flag name help) = flag_rule name.now
argument_rule (Value name value help) = value_rule name.now
argument_rule (NeededValue name value help) = record (value_rule name.now) { required = true }
argument_rule (Values name value help) = record (value_rule name.now) { action = Some Append }
argument_rule (NeededValues name value help) = record (value_rule name.now) { action = Some Append; required = true }
argument_rule (Word name value help) = needed_rule name.now
argument_rule (OptionalWord name value help) = record (needed_rule name.now) { required = false }
argument_rule (Setting name default) = option_rule name.now default.now
argument_rule (Operand name) = operand_rule name.now
argument_rule (Operands name) = list_rule name.now

-- a command with these arguments more, in this order
abbrev pub with_arguments : List Argument → App → App
with_arguments [] app = app
with_arguments (argument ∷ arguments) app = with_arguments arguments (with_rule app (argument_rule argument))

-- the command of a row
abbrev pub row_line : CommandRow → App
row_line row = with_arguments row.arguments.now (new_app row.name.now)

-- a program with a command more for each row, in this order
abbrev pub with_rows : List CommandRow → App → App
with_rows [] app = app
with_rows (row ∷ rows) app = with_rows rows (with_subcommand app (row_line row).top)
