-- What is in the way of a sync.
use Rattle.image_commands.specs.declared.obstacles.Obstacle.{Obstacle}
use Rattle.image_commands.specs.declared.obstacles.Obstacle.TheVariants.{Other}
use Rattle.kept_files.specs.declared.obstacles.KeepCause.{KeepCause}
use Rattle.kept_files.specs.declared.obstacles.KeepCause.TheVariants.{DiskFailed, Refused}

-- the disk, where the system says nothing that is known; else what it says
abbrev pub cause_of_sync : Obstacle → KeepCause
cause_of_sync (Other code) = DiskFailed code
cause_of_sync obstacle = Refused obstacle
