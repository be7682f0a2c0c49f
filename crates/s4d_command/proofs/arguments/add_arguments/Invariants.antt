use Rattle.std.proofs.Common.{◌≡◌, false, drop}
use Rattle.clap.specs.Simple.{app_of}
use Rattle.clap.specs.declared.builder.command.Command.TheViews.{out-Command as fields_of}
use Rattle.s4d_command.specs.Rows.{with_arguments}
use Rattle.s4d_command.proofs.arguments.add_arguments.Given as goal

-- with the arguments that are left, the command is what it becomes
abbrev pub invariant-loop-argument : goal.invariant-loop-argument
invariant-loop-argument l = record {
  line : with_arguments (drop l.argument-index l.arguments) (app_of l.command) ≡ with_arguments l.arguments (app_of l.initial.command);
  own : (fields_of l.initial.command).has_globals ≡ false → (fields_of l.command).has_globals ≡ false;
}
