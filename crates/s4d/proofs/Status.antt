-- What the status of a line of words says that isn't done.
use Rattle.std.proofs.Common.{◌≡◌, ◌⊎◌, ◌≤◌, ℕ, List, Option, Some, None, arith, inl, inr, length, refl, vec_len}
use Rattle.clap.specs.Walk.{Row, Text}
use Rattle.s4_types.specs.Sizes.{IsFrameCount}
use Rattle.s4d_command.specs.CommandLine.{Spells}
use Rattle.s4d_command.specs.declared.Command.{Command}
use Rattle.s4d_command.specs.declared.Command.TheVariants as command
use Rattle.s4d_command.specs.declared.New.{New}
use Rattle.s4d_command.specs.declared.Pipe.{Pipe}
use Rattle.s4d_command.specs.declared.Run.{Run}
use Rattle.s4d.specs.declared.faults.Undone.{Undone}
use Rattle.s4d.specs.declared.faults.Undone.TheVariants as undone
use Rattle.s4d.specs.Performing.{IsUsage, IsWithinLimits, SaysUndone, SaysUndoneOf, status_of}

-- a session of a new drive and a new image have frames within the limits
pub pipe_frames : (named : Option (Text × List Row)) (pipe : Pipe) → Spells named (command.Pipe pipe) → IsFrameCount pipe.frames
pipe_frames None pipe says = absurd says
pipe_frames (Some named) pipe says = (says.1.fewest, says.1.most)

pub new_frames : (named : Option (Text × List Row)) (new : New) → Spells named (command.New new) → IsFrameCount new.frames
new_frames None new says = absurd says
new_frames (Some named) new says = (says.1.fewest, says.1.most)

-- and a run has at most 16 sessions
pub run_sessions : (named : Option (Text × List Row)) (run : Run) → Spells named (command.Run run) → vec_len run.sessions ≤ 16
run_sessions None run says = absurd says
run_sessions (Some named) run says =
    let most : length run.sessions.items ≤ 16 = says.1.sessions.most in
    omega (arith, most, run.sessions.ok.0)

-- so what is asked for is within limits
pub within_limits : (named : Option (Text × List Row)) (c : Command) → Spells named c → IsWithinLimits c
within_limits named (command.Pipe pipe) says = pipe_frames named pipe says
within_limits named (command.New new) says = new_frames named new says
within_limits named (command.Verify verify) says = tt
within_limits named (command.Run run) says = run_sessions named run says
within_limits named (command.At at) says = tt
within_limits named (command.Migrate migrate) says = tt

-- it is 1 or 2
pub some_status : (why : Undone) → (status_of why ≡ 1) ⊎ (status_of why ≡ 2)
some_status undone.Usage = inr refl
some_status undone.NoMemory = inl refl
some_status (undone.NoDrive refusal) = inl refl
some_status (undone.OtherEnd end) = inl refl
some_status (undone.Failed fault) = inl refl
some_status (undone.NotRun fault) = inl refl
some_status (undone.Unlasting path) = inl refl
some_status undone.Unended = inl refl

module _ (opens : List ℕ → Option (List ℕ) → Type 0) (files files' : List ℕ → Option (List ℕ)) (input output input' output' : Option (List ℕ)) (failures failures' : ℕ) where
  -- no command is no command
  not_usage : (c : Command) → SaysUndoneOf opens files files' input output input' output' failures failures' c undone.Usage → ⊥
  not_usage (command.Pipe pipe) says = says
  not_usage (command.New new) says = says
  not_usage (command.Verify verify) says = says
  not_usage (command.Run run) says = says
  not_usage (command.At at) says = says
  not_usage (command.Migrate migrate) says = says

  -- 2 is that of words which are none
  pub usage_of : (words : List Text) (why : Undone) → SaysUndone opens files files' input output input' output' failures failures' words why → status_of why ≡ 2 → IsUsage words
  usage_of words undone.Usage (inl usage) is = usage.1
  usage_of words undone.Usage (inr (inl memory)) is = absurd cc
  usage_of words undone.Usage (inr (inr command)) is = absurd (not_usage command.0 command.2)
  usage_of words undone.NoMemory says is = absurd (omega (arith, is))
  usage_of words (undone.NoDrive refusal) says is = absurd (omega (arith, is))
  usage_of words (undone.OtherEnd end) says is = absurd (omega (arith, is))
  usage_of words (undone.Failed fault) says is = absurd (omega (arith, is))
  usage_of words (undone.NotRun fault) says is = absurd (omega (arith, is))
  usage_of words (undone.Unlasting path) says is = absurd (omega (arith, is))
  usage_of words undone.Unended says is = absurd (omega (arith, is))
