-- The names of files beside an image.
use Rattle.std.specs.Prelude.{ℕ, ◌≡◌, ◌<◌, ◌⊎◌, ◌-◌, ◌==◌, ◌++◌, nat_lt, if◌then◌else◌, List, [], ◌∷◌, Option, None, Some, codes, decimal}
use Rattle.std.specs.Path.{path_join, path_parent}
use Rattle.image_commands.specs.declared.beside.TheConstants.{MOST_BESIDE}
use Rattle.image_commands.specs.declared.beside.Names.{Names}
use Rattle.image_commands.specs.declared.beside.Names.TheVariants.{OfCommands, OfServices}

-- what a number adds to a name: nothing where it is 0
abbrev pub numbered : ℕ → List ℕ
numbered number = if number == 0 then [] else (codes "." ++ decimal number)

-- the folder that a path is in, by its parent
abbrev pub folder_by : (path : List ℕ) (parent : Option (List ℕ)) → List ℕ
folder_by path None = path
folder_by path (Some []) = codes "."
folder_by path (Some (byte ∷ bytes)) = byte ∷ bytes

-- the path of this name in the folder that a path is in
abbrev pub path_in_folder : (path name : List ℕ) → List ℕ
path_in_folder path name = path_join (folder_by path (path_parent path)) name

-- the path of a number for one that a command writes
abbrev pub command_path : (image : List ℕ) (number : ℕ) → List ℕ
command_path image number = path_in_folder image (codes "s4d.new" ++ numbered number)

-- the path of a number for a whole one beside the image at this path
abbrev pub whole_path : (image : List ℕ) (number : ℕ) → List ℕ
whole_path image number = image ++ (codes ".s4serve.new" ++ numbered number)

-- the path of a number for one that isn't whole yet
abbrev pub part_path : (image : List ℕ) (number : ℕ) → List ℕ
part_path image number = image ++ (codes ".s4serve.new.part" ++ numbered number)

-- the path of a number at which one is made
abbrev pub made_path : Names → (image : List ℕ) (number : ℕ) → List ℕ
made_path OfCommands image number = command_path image number
made_path OfServices image number = part_path image number

-- that at which one may have been left, if there is such a number: by those from `MOST_BESIDE` on a part
abbrev pub path_left : Names → (image : List ℕ) (number : ℕ) → Option (List ℕ)
path_left OfCommands image number = if nat_lt number MOST_BESIDE then Some (command_path image number) else None
path_left OfServices image number = if nat_lt number MOST_BESIDE then Some (whole_path image number) else Some (part_path image (number - MOST_BESIDE))

-- what a number below `MOST_BESIDE` adds to a name
pub record IsEnding (ending : List ℕ) : Type 0 where
  pub number : ℕ
  pub few : number < MOST_BESIDE
  pub ends : ending ≡ numbered number

-- a name that is this front and what such a number adds
pub record IsNumbered (front name : List ℕ) : Type 0 where
  pub number : ℕ
  pub few : number < MOST_BESIDE
  pub named : name ≡ front ++ numbered number

-- the name of one that a service writes beside the image of this name, whole or not
abbrev pub IsOfService : (image name : List ℕ) → Type 0
IsOfService image name = IsNumbered (image ++ codes ".s4serve.new") name ⊎ IsNumbered (image ++ codes ".s4serve.new.part") name

-- the name of a file beside the image of this name: a command's, an earlier service's or a service's
abbrev pub IsBesideName : (image name : List ℕ) → Type 0
IsBesideName image name = IsNumbered (codes "s4d.new") name ⊎ IsNumbered (codes "s4serve.new") name ⊎ IsOfService image name
