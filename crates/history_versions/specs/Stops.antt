-- Why a line ends early.
use Rattle.std.specs.Prelude.{◌≡◌, ◌⊎◌}
use Rattle.s4_types.specs.declared.refusals.Refusal.TheVariants as refusal
use Rattle.history_diff.specs.declared.faults.Stop.{Stop}
use Rattle.history_diff.specs.declared.faults.Stop.TheVariants.{NoMemory, Refused, WriteFailed}

-- memory was refused, to the drive or besides it, or the drive is busy
abbrev pub IsShort : Stop → Type 0
IsShort stop = (stop ≡ NoMemory) ⊎ ((stop ≡ Refused refusal.NoMemory) ⊎ (stop ≡ Refused refusal.Busy))

-- the writer failed, or memory was short
abbrev pub IsStop : Stop → Type 0
IsStop stop = (stop ≡ WriteFailed) ⊎ IsShort stop
