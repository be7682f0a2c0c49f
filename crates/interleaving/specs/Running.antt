-- What a list of steps is answered, and what it leaves of a drive and of the actors.
use Rattle.std.specs.Prelude.{◌≡◌, ℕ, ◌≤◌, List, [], ◌∷◌, Option, None, Some, Result, slice_get, slice_set}
use Rattle.atomic_table.specs.Seated.{TableId}
use Rattle.s4_types.specs.History.{Base}
use Rattle.s4_types.specs.declared.refusals.Refusal.{Refusal}
use Rattle.s4_model.specs.Sound.{IsSound}
use Rattle.segment_table.specs.Table.{HoldsWholeBlocks}
use Rattle.version_store.specs.Store.{IsStore}
use Rattle.drive.specs.Fields.{DriveFields, history_of, state_in, store_of}
use Rattle.drive.specs.Keeping.{DecodesWhereVisible}
use Rattle.drive.specs.Upkeep.{Seals, WritesCheckpoint, Marks, Releases}
use Rattle.interleaving.specs.Moving.{Move}
use Rattle.interleaving.specs.Actors.{ActorFields}
use Rattle.interleaving.specs.Acting.{Acts, answer_to}
use Rattle.interleaving.specs.Upkeep.{Tidies}
use Rattle.interleaving.specs.declared.answers.Answer.{Answer}
use Rattle.interleaving.specs.declared.answers.Answer.TheVariants.{Done, Idle}
use Rattle.interleaving.specs.declared.acts.Act.{Act}
use Rattle.interleaving.specs.declared.steps.Step.{Step}
use Rattle.interleaving.specs.declared.steps.Step.TheVariants as step

-- What holds of a drive between any two steps: at each moment that can be read each object's blocks decode to the version that
-- the history tells; the history begins with the base that it began with, and is sound; the frames are those of one table.
pub record Stands (begins : Base) (frames : TableId) (d : DriveFields) : Type 0 where
  pub decodes : DecodesWhereVisible (store_of d) (state_in d)
  pub base : (history_of d).base ≡ begins
  pub table : d.store.table.seat.table ≡ frames
  pub sound : IsSound (state_in d)
  pub store : IsStore (store_of d)
  pub past : (store_of d).latest ≤ (state_in d).clock
  pub whole : HoldsWholeBlocks d.store.table

-- A call on the drive alone came to something, and is answered so. The actors are as they were.
pub record IsTended (comes_to : Result (Unit {0}) Refusal → Type 0) (actors : List ActorFields) (x : Answer) (later : List ActorFields) : Type 0 where
  pub done : Result (Unit {0}) Refusal
  pub answer : x ≡ answer_to done
  pub call : comes_to done
  pub same : later ≡ actors

-- The open frame was sealed. The actors are as they were.
pub record IsSealedNow (d : DriveFields) (actors : List ActorFields) (x : Answer) (after : DriveFields) (later : List ActorFields) : Type 0 where
  pub answer : x ≡ Done
  pub seals : Seals d after
  pub same : later ≡ actors

-- There is no such actor: all is as it was.
pub record IsNobody (d : DriveFields) (actors : List ActorFields) (x : Answer) (after : DriveFields) (later : List ActorFields) : Type 0 where
  pub answer : x ≡ Idle
  pub drive : after ≡ d
  pub same : later ≡ actors

-- An actor acted, and is then as it is now in its place. The others are as they were.
pub record IsActed (acts : ActorFields → Type 0) (number : ℕ) (actors later : List ActorFields) : Type 0 where
  pub actor : ActorFields
  pub act : acts actor
  pub set : later ≡ slice_set actors number actor

module _ (commits : Move → DriveFields → Result (Unit {0}) Refusal → DriveFields → Type 0) where
  abbrev pub GoesBy : Option ActorFields → ℕ → Act → DriveFields → List ActorFields → Answer → DriveFields → List ActorFields → Type 0
  GoesBy None number a d actors x after later = IsNobody d actors x after later
  GoesBy (Some actor) number a d actors x after later = IsActed (Acts commits a d actor x after) number actors later

  -- an act of the actor of a place: where there is no such actor it is idle
  abbrev pub GoesAt : ℕ → Act → DriveFields → List ActorFields → Answer → DriveFields → List ActorFields → Type 0
  GoesAt number a d actors x after later = GoesBy (slice_get actors number) number a d actors x after later

module _ (cleans : ℕ → DriveFields → Result (Unit {0}) Refusal → DriveFields → Type 0) (commits : Move → DriveFields → Result (Unit {0}) Refusal → DriveFields → Type 0) where
  -- what a step is answered, and what it leaves
  abbrev pub Goes : Step → DriveFields → List ActorFields → Answer → DriveFields → List ActorFields → Type 0
  Goes (step.By actor act) d actors x after later = GoesAt commits actor act d actors x after later
  Goes step.Seal d actors x after later = IsSealedNow d actors x after later
  Goes (step.Checkpoint object) d actors x after later = IsTended (λ done. WritesCheckpoint object d done after) actors x later
  Goes (step.Clean object) d actors x after later = IsTended (λ done. Tidies cleans object d done after) actors x later
  Goes (step.Mark frame) d actors x after later = IsTended (λ done. Marks frame d done after) actors x later
  Goes (step.Release frame) d actors x after later = IsTended (λ done. Releases frame d done after) actors x later

  -- Steps are answered so, one after another, and leave this: after each of them the drive stands, as one with this base, over this
  -- table of frames.
  abbrev pub Run : Base → TableId → DriveFields → List ActorFields → List Step → List Answer → DriveFields → List ActorFields → Type 0
  Run begins frames d actors [] [] after later = (after ≡ d) × (later ≡ actors)
  Run begins frames d actors (s ∷ steps) (x ∷ answers) after later = (mid : DriveFields) × (between : List ActorFields)
      × Goes s d actors x mid between × Stands begins frames mid × Run begins frames mid between steps answers after later
  Run begins frames d actors [] (x ∷ answers) after later = ⊥
  Run begins frames d actors (s ∷ steps) [] after later = ⊥
