-- The release of each frame that is being emptied is tried, one after the other.
use Rattle.std.proofs.Common.{◌≡◌, ℕ, suc, ◌+◌, Result, Ok, Err, inl, inr, refl, sym, ap, subst, ◌∙◌, arith}
use Rattle.s4_types.specs.declared.refusals.Refusal.{Refusal}
use Rattle.segment_word.specs.Handles.{Drive}
use Rattle.drive.specs.Fields.{DriveFields, store_of}
use Rattle.drive.specs.Upkeep.{Releases}
use Rattle.version_store.specs.Upkeep.{KeepsObjects}
use Rattle.history_cleaner.specs.Rounds.{TriesFrame, TriedBelow}
use Rattle.history_cleaner.proofs.Emptied.{kept_all, kept_on}

-- How far the tries have come in a drive: with those of the frames below first they are all that are below f.
pub record TriesSoFar (first f : ℕ) (old new : DriveFields) : Type 0 where
  pub rest : (last : Drive) → TriedBelow first new.store.table.seat last → TriedBelow f old.store.table.seat last
  pub objects : KeepsObjects (store_of old) (store_of new)
  pub ledger : new.ledger ≡ old.ledger

pub none_tried : (f : ℕ) (d : DriveFields) → TriesSoFar f f d d
none_tried f d = record { rest = λ last tried. tried; objects = kept_all (store_of d); ledger = refl }

-- at their end
pub all_tried : (first f : ℕ) (old new : DriveFields) → first ≡ 0 → TriesSoFar first f old new → TriedBelow f old.store.table.seat new.store.table.seat
all_tried first f old new end sofar =
    let seat = new.store.table.seat in
    sofar.rest seat (subst (λ (n : ℕ). TriedBelow n seat seat) (sym end) refl)

-- one frame
tried_frame : (r : Result (Unit {0}) Refusal) (f : ℕ) (d new : DriveFields) → Releases f d r new → TriesFrame f d.store.table.seat new.store.table.seat
tried_frame (Ok u) f d new tries = record {
  tried = λ draining. inl tries.frame.released.seat;
  idle = λ not. absurd (not tries.frame.released.draining);
}
tried_frame (Err e) f d new tries = record {
  tried = λ draining. inr (tries.frame.missed draining);
  idle = λ not. ap (λ (x : DriveFields). x.store.table.seat) (tries.idle not);
}

-- and after it all below it
frame_more : (first n : ℕ) (d new last : Drive) → first ≡ n + 1 → TriesFrame n d new → TriedBelow n new last → TriedBelow first d last
frame_more first n d new last next one rest =
    let above : suc n ≡ first = omega (arith, next) in
    subst (λ (m : ℕ). TriedBelow m d last) above (new, one, rest)

pub try_step : (r : Result (Unit {0}) Refusal) (first n f : ℕ) (old d new : DriveFields) → first ≡ n + 1 → TriesSoFar first f old d → Releases n d r new → TriesSoFar n f old new
try_step r first n f old d new next sofar tries = record {
  rest = λ last rest. sofar.rest last (frame_more first n d.store.table.seat new.store.table.seat last next (tried_frame r n d new tries) rest);
  objects = kept_on (store_of old) (store_of d) (store_of new) sofar.objects tries.objects;
  ledger = tries.ledger ∙ sofar.ledger;
}
