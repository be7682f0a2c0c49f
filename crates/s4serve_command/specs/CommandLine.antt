-- The program's command line in clap's own words, and which service the matches of a line ask for.
use Rattle.std.specs.Prelude.{◌≡◌, ◌≢◌, ◌≤◌, ◌<◌, ◌++◌, ⊤, ℕ, true, List, [], ◌∷◌, Option, Some, None, codes, length, map, unwrap_or}
use Rattle.std.specs.List.{AllZip}
use Rattle.clap.specs.Walk.{Row, Rule, Text, all_of, first_of}
use Rattle.clap.specs.Simple.{App, new_app, new_rule, on_top, with_rule}
use Rattle.clap.specs.declared.builder.action.ArgAction.TheVariants.{Append}
use Rattle.s4_types.specs.declared.requests.Role.{Role}
use Rattle.s4_types.specs.declared.requests.Role.TheVariants.{Client, Admin}
use Rattle.s4_types.specs.declared.limits.TheConstants.{FEWEST_FRAMES, MOST_FRAMES}
use Rattle.s4d_command.specs.CommandLine.{needed_rule, value_rule, IsNumber}
use Rattle.service_time.specs.Durations.{IsDuration}
use Rattle.s4serve_command.specs.declared.ServiceAsked.{ServiceAsked}
use Rattle.s4serve_command.specs.declared.creating.Creation.{Creation}
use Rattle.s4serve_command.specs.declared.doors.Door.{Door}
use Rattle.s4serve_command.specs.declared.doors.TheConstants.{MOST_DOORS}

-- `--name VALUE`, which has to be given, as often as it is
abbrev pub needed_values_rule : Text → Rule
needed_values_rule name =
    record (new_rule name) { long = Some name; action = Some Append; value_names = 1; required = true }

-- the program with no argument but those for help and its version
abbrev pub program : App
program = on_top (λ s. record s { has_version = true }) (new_app (codes "s4serve"))

-- `[--create FRAMES] [--keep DURATION] [--leap DURATION] [--patience DURATION] [--reserve BLOCKS] --door ROLE=DIR.. IMAGE`
abbrev pub line : App
line = with_rule (with_rule (with_rule (with_rule (with_rule (with_rule (with_rule program
    (value_rule (codes "create")))
    (value_rule (codes "keep")))
    (value_rule (codes "leap")))
    (value_rule (codes "patience")))
    (value_rule (codes "reserve")))
    (needed_values_rule (codes "door")))
    (needed_rule (codes "image"))

-- the text is there, and says this many microseconds
abbrev pub IsDurationAt : Option Text → ℕ → Type 0
IsDurationAt None micros = ⊥
IsDurationAt (Some text) micros = IsDuration text micros

-- a duration that is given is what the text says; none is where no text is there
abbrev pub IsDurationAsked : Text → List Row → Option ℕ → Type 0
IsDurationAsked name rows None = first_of name rows ≡ None
IsDurationAsked name rows (Some micros) = IsDurationAt (first_of name rows) micros

-- a number that is given is what the text says; none is where no text is there
abbrev pub IsNumberAsked : Text → List Row → Option ℕ → Type 0
IsNumberAsked name rows None = first_of name rows ≡ None
IsNumberAsked name rows (Some n) = IsNumber (first_of name rows) n

-- The texts say how many frames a drive has, which is in range, and for how long it keeps the past, which is some time.
pub record IsCreation (frames keep : Text) (creation : Creation) : Type 0 where
  pub number : IsNumber (Some frames) creation.frames
  pub fewest : FEWEST_FRAMES ≤ creation.frames
  pub most : creation.frames ≤ MOST_FRAMES
  pub window : IsDuration keep creation.keep
  pub some : 0 < creation.keep

-- a drive is made where both texts are there, and none where neither is
abbrev pub IsCreatedAt : Option Text → Option Text → Option Creation → Type 0
IsCreatedAt None None None = ⊤
IsCreatedAt (Some frames) (Some keep) (Some creation) = IsCreation frames keep creation
IsCreatedAt _ _ _ = ⊥

-- how the word of a door begins
abbrev pub door_front : Role → Text
door_front Client = codes "client="
door_front Admin = codes "admin="

-- The word of a door is its role, a sign and its folder, which has a name.
pub record IsDoor (word : Text) (door : Door) : Type 0 where
  pub is : word ≡ door_front door.role ++ door.folder.now
  pub named : 0 < length door.folder.now

-- a text is none of these
abbrev pub IsNoneOf : List Text → Text → Type 0
IsNoneOf [] text = ⊤
IsNoneOf (other ∷ others) text = (text ≢ other) × IsNoneOf others text

-- no two of these texts are the same
abbrev pub AreApart : List Text → Type 0
AreApart [] = ⊤
AreApart (text ∷ others) = IsNoneOf others text × AreApart others

-- the folders of doors
abbrev pub folders_of : List Door → List Text
folders_of doors = map (λ door. door.folder.now) doors

-- Each word is a door's. There is one at least and not too many, and each has a folder of its own.
pub record AreDoors (words : List Text) (doors : List Door) : Type 0 where
  pub each : AllZip IsDoor words doors
  pub some : 1 ≤ length doors
  pub few : length doors ≤ MOST_DOORS
  pub apart : AreApart (folders_of doors)

-- the texts that are there, in the order of the words; none where nothing is there
abbrev pub texts_of : Text → List Row → List Text
texts_of name rows = unwrap_or (all_of name rows) []

-- The matches ask for this service: they have its texts, its durations, its reserve and its doors, in the order of the words.
pub record Spells (rows : List Row) (service : ServiceAsked) : Type 0 where
  pub image : first_of (codes "image") rows ≡ Some service.image.now
  pub create : IsCreatedAt (first_of (codes "create") rows) (first_of (codes "keep") rows) service.create
  pub leap : IsDurationAsked (codes "leap") rows service.leap
  pub patience : IsDurationAsked (codes "patience") rows service.patience
  pub reserve : IsNumberAsked (codes "reserve") rows service.reserve
  pub doors : AreDoors (texts_of (codes "door") rows) service.doors.items

-- They ask for none.
abbrev pub SpellsNone : List Row → Type 0
SpellsNone rows = (service : ServiceAsked) → Spells rows service → ⊥
