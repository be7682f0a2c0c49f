-- How far the emptying of frames has come. No public clause cites this file.
use Rattle.std.specs.Prelude.{◌≡◌, ℕ, ◌<◌, ◌≤◌, Bool, List, length, map, nat_lt, slice_index_or, Result, OnOk, IfErr}
use Rattle.std.specs.List.{range_with_len}
use Rattle.s4_types.specs.declared.refusals.Refusal.{Refusal}
use Rattle.s4_types.specs.declared.refusals.Refusal.TheVariants.{InUse}
use Rattle.segment_word.specs.Frames.{Frame, Sealed, Draining}
use Rattle.segment_word.specs.Handles.{Drive}
use Rattle.segment_word.specs.Layout.{frame_at}
use Rattle.segment_table.specs.Table.{Table}
use Rattle.version_store.specs.Upkeep.{KeepsObjects}
use Rattle.drive.specs.Fields.{DriveFields, store_of}
use Rattle.history_cleaner.specs.Emptying.{AllVacated, StopsAtReader}

-- No frame from first on and below f is being emptied. There are as many frames as there were, and each that is sealed was sealed.
-- No fewer releases were tried.
pub record ReleasedFrom (first f : ℕ) (old new : Table) : Type 0 where
  pub count : length new.seat.frames ≡ length old.seat.frames
  pub between : (k : ℕ) → first ≤ k → k < f → (frame_at new.seat.frames k).phase ≡ Draining → ⊥
  pub sealed : (k : ℕ) → (frame_at new.seat.frames k).phase ≡ Sealed → (frame_at old.seat.frames k).phase ≡ Sealed
  pub tried : old.seat.releases.tried ≤ new.seat.releases.tried

-- no frame below f is
abbrev pub ReleasedBelow : ℕ → Table → Table → Type 0
ReleasedBelow = ReleasedFrom 0

-- the generations of a drive's frames, the first one's first
abbrev pub generations_in : Drive → List ℕ
generations_in d = map (λ f. (frame_at d.frames f).generation) (range_with_len 0 (length d.frames))

-- whether a frame has a greater generation than was noted
abbrev pub is_later : List ℕ → List Frame → ℕ → Bool
is_later noted frames f = nat_lt (slice_index_or noted f 0) (frame_at frames f).generation

-- what the emptying of a drive's frames comes to, by the answer, the drive before it and the drive after it
pub record HasVacated (r : Result (Unit {0}) Refusal) (old new : DriveFields) : Type 0 where
  pub vacated : OnOk r (AllVacated new.store.table)
  pub refusal : IfErr r (λ e. (e ≡ InUse) × StopsAtReader old.store.table new.store.table)
  pub frames : length new.store.table.seat.frames ≡ length old.store.table.seat.frames
  pub objects : KeepsObjects (store_of old) (store_of new)
  pub ledger : new.ledger ≡ old.ledger
