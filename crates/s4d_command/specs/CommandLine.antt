-- The program's command line in clap's own words, and which command the matches of a line encode.
use Rattle.std.specs.Prelude.{◌≡◌, ◌≢◌, ◌≤◌, ◌<◌, ◌^◌, ◌↔◌, ℕ, List, [], ◌∷◌, ◌++◌, Option, Some, None, Result, IfOk, true, false, codes, All, length}
use Rattle.std.specs.List.{AllZip}
use Rattle.std.specs.Fmt.{decimal}
use Rattle.std.specs.Str.Parse.{IsNumeral, digits_value, without_leading_plus}
use Rattle.clap.specs.Walk.{Row, Rule, Text, all_of, first_of, one_of}
use Rattle.clap.specs.declared.builder.command.Command.{Command as Made}
use Rattle.clap.specs.declared.builder.command.Command.TheViews.{out-Command as fields_of}
use Rattle.clap.specs.Simple.{App, app_of, new_app, new_rule, on_top, with_rule, with_subcommand}
use Rattle.clap.specs.declared.builder.action.ArgAction.TheVariants.{Set, SetTrue, Append}
use Rattle.s4_types.specs.declared.requests.Role.{Role}
use Rattle.s4_types.specs.declared.requests.Role.TheVariants.{Client, Admin}
use Rattle.s4_types.specs.declared.limits.TheConstants.{FEWEST_FRAMES, DEFAULT_FRAMES, MOST_FRAMES}
use Rattle.s4d_command.specs.declared.Command.{Command}
use Rattle.s4d_command.specs.declared.Command.TheVariants as command
use Rattle.s4d_command.specs.declared.Pipe.{Pipe}
use Rattle.s4d_command.specs.declared.New.{New}
use Rattle.s4d_command.specs.declared.Verify.{Verify}
use Rattle.s4d_command.specs.declared.Run.{Run}
use Rattle.s4d_command.specs.declared.At.{At}
use Rattle.s4d_command.specs.declared.Migrate.{Migrate}
use Rattle.s4d_command.specs.declared.sessions.RunSession.{RunSession}
use Rattle.s4d_command.specs.declared.sessions.TheConstants.{MOST_SESSIONS}

-- `--name VALUE`, with the value that is where it isn't given
abbrev pub option_rule : Text → Text → Rule
option_rule name default =
    record (new_rule name) { long = Some name; action = Some Set; defaults = default ∷ [] }

-- a word that represents itself
abbrev pub operand_rule : Text → Rule
operand_rule name = record (new_rule name) { action = Some Set }

-- `--name`, which is given or not
abbrev pub flag_rule : Text → Rule
flag_rule name = record (new_rule name) { long = Some name; action = Some SetTrue }

-- `--name VALUE`, which is given or not, where help names the value
abbrev pub value_rule : Text → Rule
value_rule name = record (new_rule name) { long = Some name; action = Some Set; value_names = 1 }

-- a word that represents itself, and has to be given
abbrev pub needed_rule : Text → Rule
needed_rule name = record (new_rule name) { action = Some Set; value_names = 1; required = true }

-- words that represent themselves, as many as come
abbrev pub list_rule : Text → Rule
list_rule name = record (new_rule name) { action = Some Append }

-- what is made of a command, if memory allows, and that no argument of it is another command's too
abbrev pub IsLine : {E : Type 0} → Result Made E → App → Type 0
IsLine result app = IfOk result (λ c. (app_of c ≡ app) × ((fields_of c).has_globals ≡ false))

-- `pipe [--frames N] [--window W] [--tick T] ROLE`
abbrev pub pipe_line : App
pipe_line = with_rule (with_rule (with_rule (with_rule (new_app (codes "pipe"))
    (option_rule (codes "frames") (decimal DEFAULT_FRAMES)))
    (option_rule (codes "window") (codes "100")))
    (option_rule (codes "tick") (codes "1")))
    (operand_rule (codes "role"))

-- `new [--window W] IMAGE FRAMES`
abbrev pub new_line : App
new_line = with_rule (with_rule (with_rule (new_app (codes "new"))
    (option_rule (codes "window") (codes "100")))
    (operand_rule (codes "image")))
    (operand_rule (codes "frames"))

-- `verify IMAGE`
abbrev pub verify_line : App
verify_line = with_rule (new_app (codes "verify")) (operand_rule (codes "image"))

-- `run [--tick T] [--no-upkeep] IMAGE SESSION..`
abbrev pub run_line : App
run_line = with_rule (with_rule (with_rule (with_rule (new_app (codes "run"))
    (option_rule (codes "tick") (codes "1")))
    (flag_rule (codes "no-upkeep")))
    (operand_rule (codes "image")))
    (list_rule (codes "sessions"))

-- `at IMAGE OBJECT MOMENT`
abbrev pub at_line : App
at_line = with_rule (with_rule (with_rule (new_app (codes "at"))
    (operand_rule (codes "image")))
    (operand_rule (codes "object")))
    (operand_rule (codes "moment"))

-- `migrate EARLIER IMAGE`
abbrev pub migrate_line : App
migrate_line = with_rule (with_rule (new_app (codes "migrate")) (operand_rule (codes "earlier"))) (operand_rule (codes "image"))

-- the program with no word for help
abbrev pub program : App
program = on_top (λ s. record s { disable_help_flag = true; disable_help_subcommand = true })
    (new_app (codes "s4d"))

-- the program's whole command line
abbrev pub line : App
line = with_subcommand (with_subcommand (with_subcommand (with_subcommand (with_subcommand (with_subcommand program
    pipe_line.top) new_line.top) verify_line.top) run_line.top) at_line.top) migrate_line.top

-- the text is there, and reads as the number
abbrev pub IsNumber : Option Text → ℕ → Type 0
IsNumber None n = ⊥
IsNumber (Some text) n =
    (IsNumeral 10 (without_leading_plus text) × (digits_value 10 (without_leading_plus text) < 2 ^ 64))
    × (n ≡ digits_value 10 (without_leading_plus text))

-- the word for a role
abbrev pub role_word : Role → Text
role_word Client = codes "client"
role_word Admin = codes "admin"

-- The matches of `pipe` have these numbers, which are in range, and this role.
pub record SpellsPipe (rows : List Row) (pipe : Pipe) : Type 0 where
  pub frames : IsNumber (one_of (codes "frames") rows) pipe.frames
  pub window : IsNumber (one_of (codes "window") rows) pipe.window
  pub tick : IsNumber (one_of (codes "tick") rows) pipe.tick
  pub role : first_of (codes "role") rows ≡ Some (role_word pipe.role)
  pub fewest : FEWEST_FRAMES ≤ pipe.frames
  pub most : pipe.frames ≤ MOST_FRAMES

-- The matches of `new` have this text and these numbers, of which that of the frames is in range.
pub record SpellsNew (rows : List Row) (new : New) : Type 0 where
  pub image : first_of (codes "image") rows ≡ Some new.image.now
  pub frames : IsNumber (one_of (codes "frames") rows) new.frames
  pub fewest : FEWEST_FRAMES ≤ new.frames
  pub most : new.frames ≤ MOST_FRAMES
  pub window : IsNumber (one_of (codes "window") rows) new.window

-- The matches of `verify` have this text.
pub record SpellsVerify (rows : List Row) (verify : Verify) : Type 0 where
  pub image : first_of (codes "image") rows ≡ Some verify.image.now

-- the code of a colon
abbrev pub colon : ℕ
colon = 58

-- A text is cut at its first colon.
pub record IsCut (text front back : Text) : Type 0 where
  pub whole : text ≡ front ++ (colon ∷ back)
  pub first : All (λ c. c ≢ colon) front

-- The word of a session is its role, its input and its output: the role ends at the first colon, and the input at the second.
pub record SpellsSession (word : Text) (session : RunSession) : Type 0 where
  pub rest : Text
  pub role : IsCut word (role_word session.role) rest
  pub files : IsCut rest session.input.now session.output.now

-- Each word encodes a session, and there are 1 to 16 sessions.
pub record SpellsSessions (words : List Text) (sessions : List RunSession) : Type 0 where
  pub each : AllZip SpellsSession words sessions
  pub some : 1 ≤ length sessions
  pub most : length sessions ≤ MOST_SESSIONS

-- the flag is given
abbrev pub IsGiven : Text → List Row → Type 0
IsGiven name rows = first_of name rows ≡ Some (codes "true")

-- The matches of `run` have this text, this number and these sessions, and no upkeep where the flag for it is given.
pub record SpellsRun (rows : List Row) (run : Run) : Type 0 where
  pub words : List Text
  pub image : first_of (codes "image") rows ≡ Some run.image.now
  pub tick : IsNumber (one_of (codes "tick") rows) run.tick
  pub no_upkeep : (run.upkeep ≡ false) ↔ IsGiven (codes "no-upkeep") rows
  pub given : all_of (codes "sessions") rows ≡ Some words
  pub sessions : SpellsSessions words run.sessions.items

-- The matches of `at` have this text and these numbers.
pub record SpellsAt (rows : List Row) (at : At) : Type 0 where
  pub image : first_of (codes "image") rows ≡ Some at.image.now
  pub object : IsNumber (one_of (codes "object") rows) at.object
  pub moment : IsNumber (one_of (codes "moment") rows) at.moment

-- The matches of `migrate` have these texts.
pub record SpellsMigrate (rows : List Row) (migrate : Migrate) : Type 0 where
  pub earlier : first_of (codes "earlier") rows ≡ Some migrate.earlier.now
  pub image : first_of (codes "image") rows ≡ Some migrate.image.now

-- The name and the matches of a subcommand encode the command.
abbrev pub Spells : Option (Text × List Row) → Command → Type 0
Spells None c = ⊥
Spells (Some named) (command.Pipe pipe) = (named.0 ≡ codes "pipe") × SpellsPipe named.1 pipe
Spells (Some named) (command.New new) = (named.0 ≡ codes "new") × SpellsNew named.1 new
Spells (Some named) (command.Verify verify) = (named.0 ≡ codes "verify") × SpellsVerify named.1 verify
Spells (Some named) (command.Run run) = (named.0 ≡ codes "run") × SpellsRun named.1 run
Spells (Some named) (command.At at) = (named.0 ≡ codes "at") × SpellsAt named.1 at
Spells (Some named) (command.Migrate migrate) = (named.0 ≡ codes "migrate") × SpellsMigrate named.1 migrate

-- They encode none.
abbrev pub SpellsNone : Option (Text × List Row) → Type 0
SpellsNone named = (c : Command) → Spells named c → ⊥
