-- That memory or room is short.
use Rattle.std.specs.Prelude.{◌≡◌, ◌⊎◌, ℤ, Option}
use Rattle.image_commands.specs.declared.obstacles.Obstacle.{Obstacle}
use Rattle.image_commands.specs.declared.obstacles.Obstacle.TheVariants.{NoMemory, NoRoom}

-- an obstacle is that memory, or room on the disk, is short
abbrev pub IsShort : Obstacle → Type 0
IsShort obstacle = (obstacle ≡ NoMemory) ⊎ ((code : Option ℤ) × (obstacle ≡ NoRoom code))
