-- A run as the model tells it: by the history alone, and the bytes that each actor's plan of a read names.
use Rattle.std.specs.Prelude.{◌≡◌, ◌⊎◌, ℕ, List, [], ◌∷◌, Option, None, Some, slice_get, slice_set}
use Rattle.s4_types.specs.History.{History}
use Rattle.s4_types.specs.declared.requests.Role.{Role}
use Rattle.s4_types.specs.declared.requests.Request.{Request}
use Rattle.s4_types.specs.declared.requests.Request.TheVariants.{Query}
use Rattle.s4_types.specs.declared.requests.Question.TheVariants.{Read}
use Rattle.s4_types.specs.declared.replies.Reply.{Reply}
use Rattle.s4_types.specs.declared.replies.Reply.TheVariants as reply
use Rattle.s4_types.specs.declared.refusals.Refusal.{Refusal}
use Rattle.s4_types.specs.declared.refusals.Refusal.TheVariants.{NoMemory}
use Rattle.s4_model.specs.Step.{Step as ModelStep}
use Rattle.time_read.specs.Plans.{PlanFields, bytes_planned}
use Rattle.interleaving.specs.Actors.{ActorFields}
use Rattle.interleaving.specs.declared.answers.Answer.{Answer}
use Rattle.interleaving.specs.declared.answers.Answer.TheVariants as answer
use Rattle.interleaving.specs.declared.acts.Act.{Act}
use Rattle.interleaving.specs.declared.acts.Act.TheVariants as act
use Rattle.interleaving.specs.declared.steps.Step.{Step}
use Rattle.interleaving.specs.declared.steps.Step.TheVariants as step

-- what the model keeps of an actor: its role, and the bytes that its plan of a read names
pub record Reader : Type 0 where
  pub role : Role
  pub named : Option (List ℕ)

-- the bytes that a plan names, where there is one
abbrev pub named_by : Option PlanFields → Option (List ℕ)
named_by None = None
named_by (Some plan) = Some (bytes_planned plan)

-- what the model keeps of this actor
abbrev pub reader_of : ActorFields → Reader
reader_of a = record { role = a.session.role; named = named_by a.plan }

-- A request: the model's step, answered with its reply.
pub record Asks (request : Request) (now : ℕ) (h : History) (r : Reader) (x : Answer) (after : History) (s : Reader) : Type 0 where
  pub reply : Reply
  pub answer : x ≡ answer.Reply reply
  pub step : ModelStep h r.role request now reply after
  pub same : s ≡ r

-- A read is resolved: the model's step of that read, answered with bytes, which are named from then on.
pub record Names (request : Request) (now : ℕ) (h : History) (r : Reader) (x : Answer) (after : History) (s : Reader) : Type 0 where
  pub bytes : List ℕ
  pub answer : x ≡ answer.Done
  pub step : ModelStep h r.role request now (reply.Data bytes) after
  pub reader : s ≡ record r { named = Some bytes }

-- A read isn't resolved: the model's step of that read, which is refused. What was named stays so.
pub record NamesNothing (request : Request) (now : ℕ) (h : History) (r : Reader) (x : Answer) (after : History) (s : Reader) : Type 0 where
  pub refusal : Refusal
  pub answer : x ≡ answer.Refused refusal
  pub step : ModelStep h r.role request now (reply.Refused refusal) after
  pub same : s ≡ r

-- A fetch is answered with the bytes that are named, or for lack of memory; they are named no more. It is idle where none are.
abbrev pub GivesBy : Option (List ℕ) → Reader → Answer → Reader → Type 0
GivesBy None r x s = (x ≡ answer.Idle) × (s ≡ r)
GivesBy (Some bytes) r x s = ((x ≡ answer.Bytes bytes) ⊎ (x ≡ answer.Refused NoMemory)) × (s ≡ record r { named = None })

-- What an actor's act is answered, and what it leaves: all but requests and resolved reads leave the history.
abbrev pub ActTells : Act → History → Reader → Answer → History → Reader → Type 0
ActTells (act.Request request now) h r x after s = Asks request now h r x after s
ActTells (act.Resolve of) h r x after s = Names (Query (Read of.object of.offset of.length of.at)) of.now h r x after s ⊎ NamesNothing (Query (Read of.object of.offset of.length of.at)) of.now h r x after s
ActTells act.Fetch h r x after s = (after ≡ h) × GivesBy r.named r x s
ActTells act.Meet h r x after s = (after ≡ h) × (s ≡ r)
ActTells (act.Plan frame object) h r x after s = (after ≡ h) × (s ≡ r)
ActTells act.Copy h r x after s = (after ≡ h) × (s ≡ r)
ActTells act.Commit h r x after s = (after ≡ h) × (s ≡ r)

abbrev pub TellsBy : Option Reader → ℕ → Act → History → List Reader → Answer → History → List Reader → Type 0
TellsBy None number a h readers x after later = (x ≡ answer.Idle) × (after ≡ h) × (later ≡ readers)
TellsBy (Some r) number a h readers x after later = (s : Reader) × ActTells a h r x after s × (later ≡ slice_set readers number s)

-- an act of the actor of a place: where there is none it is idle
abbrev pub TellsAt : ℕ → Act → History → List Reader → Answer → History → List Reader → Type 0
TellsAt number a h readers x after later = TellsBy (slice_get readers number) number a h readers x after later

-- What a step is answered, and what it leaves: a step of the drive alone leaves all of it.
abbrev pub Tells : Step → History → List Reader → Answer → History → List Reader → Type 0
Tells (step.By actor act) h readers x after later = TellsAt actor act h readers x after later
Tells step.Seal h readers x after later = (after ≡ h) × (later ≡ readers)
Tells (step.Checkpoint object) h readers x after later = (after ≡ h) × (later ≡ readers)
Tells (step.Clean object) h readers x after later = (after ≡ h) × (later ≡ readers)
Tells (step.Mark frame) h readers x after later = (after ≡ h) × (later ≡ readers)
Tells (step.Release frame) h readers x after later = (after ≡ h) × (later ≡ readers)

-- Steps are answered so, one after another, and leave this history.
abbrev pub Replays : History → List Reader → List Step → List Answer → History → List Reader → Type 0
Replays h readers [] [] after later = (after ≡ h) × (later ≡ readers)
Replays h readers (s ∷ steps) (x ∷ answers) after later = (mid : History) × (between : List Reader) × Tells s h readers x mid between × Replays mid between steps answers after later
Replays h readers [] (x ∷ answers) after later = ⊥
Replays h readers (s ∷ steps) [] after later = ⊥
