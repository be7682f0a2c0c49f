-- How many blocks of a drive's room the clients of a service leave to administrators.
use Rattle.std.specs.Prelude.{ℕ, ◌*◌, ◌/◌, ◌-◌, Option, max, min, unwrap_or}
use Rattle.s4_types.specs.declared.limits.TheConstants.{PAYLOAD_BLOCKS, RESERVE_BLOCKS}
use Rattle.s4serve.specs.declared.reserves.TheConstants.{FEWEST_LEFT, PARTS}

-- how many payload blocks so many frames have
abbrev pub payload_of : ℕ → ℕ
payload_of frames = PAYLOAD_BLOCKS * frames

-- half of the room that an empty drive of so many frames has: all payload blocks but those that are cleaner's and copier's
abbrev pub most_reserve : ℕ → ℕ
most_reserve frames = (payload_of frames - RESERVE_BLOCKS) / 2

-- what clients leave where nobody says how much: a sixteenth of the payload blocks, or some at least, and half of that room at most
abbrev pub usual_reserve : ℕ → ℕ
usual_reserve frames = min (max (payload_of frames / PARTS) FEWEST_LEFT) (most_reserve frames)

-- what clients of a service leave of a drive of so many frames: as many blocks as were asked for, if that was said
abbrev pub reserve_of : Option ℕ → ℕ → ℕ
reserve_of asked frames = unwrap_or asked (usual_reserve frames)
