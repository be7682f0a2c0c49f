-- The paths of a door's FIFOs.
use Rattle.std.specs.Prelude.{◌++◌, ℕ, List, codes}

-- `door` in a folder
abbrev pub door_path : List ℕ → List ℕ
door_path folder = folder ++ codes "/door"

-- a name with `.in` in a folder
abbrev pub input_path : (folder name : List ℕ) → List ℕ
input_path folder name = folder ++ (codes "/" ++ (name ++ codes ".in"))

-- a name with `.out` in a folder
abbrev pub output_path : (folder name : List ℕ) → List ℕ
output_path folder name = folder ++ (codes "/" ++ (name ++ codes ".out"))
