-- The command line is one of which the parser's contract says the matches.
use Rattle.std.proofs.Common.{◌≡◌, List, true, refl, subst}
use Rattle.clap.specs.Simple.{App, HasMatchesOf, is_simple, matches_of}
use Rattle.clap.specs.Faults.{is_simple_and_free}
use Rattle.clap.specs.Matches.{found_of}
use Rattle.clap.specs.Walk.{Text, rows_of}
use Rattle.clap.specs.declared.parser.matches.ArgMatches.{ArgMatches}
use Rattle.s4serve_command.specs.CommandLine.{line}

is_simple_line : is_simple line ≡ true
is_simple_line = refl

-- the matches of a parse are those that the words have
pub same_matches : (app : App) (words : List Text) (matches : ArgMatches) → app ≡ line → HasMatchesOf app words matches
    → rows_of (found_of matches) ≡ matches_of line words
same_matches app words matches is has = (subst (λ (a : App). HasMatchesOf a words matches) is has is_simple_line).0

pub is_simple_and_free_line : is_simple_and_free line ≡ true
is_simple_and_free_line = refl
