-- How the files of sessions are opened.
use Rattle.std.specs.Prelude.{◌≡◌, ◌⊎◌, ℕ, Any, List, Option}
use Rattle.s4_types.specs.declared.refusals.Refusal.TheVariants.{NoMemory}
use Rattle.s4d_command.specs.declared.sessions.RunSession.{RunSession}
use Rattle.image_commands.specs.declared.faults.Fault.{Fault}
use Rattle.image_commands.specs.declared.faults.Fault.TheVariants.{CannotRead, CannotWrite, Refused}

-- a writer of the file at a path holds these bytes
abbrev pub HoldsAt : {Writer : Type 0} → (writes : Writer → List ℕ → Type 0) → (contents : Writer → Option (List ℕ)) → (path : List ℕ) → Option (List ℕ) → Type 0
HoldsAt {Writer} writes contents path held = (writer : Writer) × writes writer path × (contents writer ≡ held)

-- Why the files of a session aren't opened: the one that it reads, or the one that it writes, can't be, or is another's; or memory was short.
abbrev pub SaysSessionUnopened : RunSession → Fault → Type 0
SaysSessionUnopened asked (Refused refusal) = refusal ≡ NoMemory
SaysSessionUnopened asked (CannotRead path obstacle) = path.now ≡ asked.input.now
SaysSessionUnopened asked (CannotWrite path obstacle) = path.now ≡ asked.output.now
SaysSessionUnopened asked _ = ⊥

-- Why those of several aren't: for one of them, or as memory was short.
abbrev pub SaysUnopened : List RunSession → Fault → Type 0
SaysUnopened sessions fault = (fault ≡ Refused NoMemory) ⊎ Any (λ asked. SaysSessionUnopened asked fault) sessions
