-- The command line is one of which the parser's contract tells the matches.
use Rattle.std.proofs.Common.{◌≡◌, List, true, refl, subst}
use Rattle.clap.specs.Simple.{App, HasMatchesOf, is_simple, subcommand_of, subcommand_rows_of}
use Rattle.clap.specs.Faults.{is_simple_and_free}
use Rattle.clap.specs.Walk.{Text}
use Rattle.clap.specs.declared.parser.matches.ArgMatches.{ArgMatches}
use Rattle.s4_command.specs.CommandLine.{line}

pub is_simple_line : is_simple line ≡ true
is_simple_line = refl

-- the subcommand that a parse met is the one that the words name
pub same_subcommand : (app : App) (words : List Text) (matches : ArgMatches) → app ≡ line → HasMatchesOf app words matches
    → subcommand_rows_of matches ≡ subcommand_of line words
same_subcommand app words matches is has = (subst (λ (a : App). HasMatchesOf a words matches) is has is_simple_line).1

pub is_simple_and_free_line : is_simple_and_free line ≡ true
is_simple_and_free_line = refl
