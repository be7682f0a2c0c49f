-- What a fault says of what services left beside an image.
use Rattle.std.specs.Prelude.{ℕ, ◌+◌, List, ⊤, Option}
use Rattle.image_commands.specs.Leaving.{NamesWhole}
use Rattle.s4serve.specs.declared.faults.ServeFault.{ServeFault}
use Rattle.s4serve.specs.declared.faults.ServeFault.TheVariants.{Gone, Later, LeftBeside}

-- where a fault names a whole image beside the path of one that isn't there, or isn't made, there is one
abbrev pub NamesLeft : (List ℕ → Option (List ℕ)) → ServeFault → Type 0
NamesLeft files (LeftBeside image fault) = NamesWhole 0 files fault
NamesLeft files (Gone image fault) = NamesWhole 0 files fault
NamesLeft files _ = ⊤

-- where it names one that is later than an image with this clock, that is
abbrev pub NamesLater : (clock : ℕ) → (List ℕ → Option (List ℕ)) → ServeFault → Type 0
NamesLater clock files (Later image fault) = NamesWhole (clock + 1) files fault
NamesLater clock files _ = ⊤
