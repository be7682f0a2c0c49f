-- What stays over several steps.
use Rattle.std.proofs.Common.{◌≡◌, ◌⊎◌, inl, inr, refl, sym, subst, ◌∙◌}
use Rattle.s4_model.specs.State.{State}
use Rattle.s4_types.specs.declared.refusals.Refusal.{Refusal}
use Rattle.s4_types.specs.declared.refusals.Refusal.TheVariants.{NoMemory, Busy, InUse}
use Rattle.version_store.specs.Store.{StoreFields}
use Rattle.version_store.specs.Upkeep.{KeepsObjects}
use Rattle.drive.specs.Fields.{DriveFields, state_in, store_of}
use Rattle.drive.specs.Keeping.{KeepsVersions}
use Rattle.history_cleaner.specs.Emptying.{StopsAtReader}
use Rattle.history_cleaner.specs.Passing.{StoppedAtReader}
use Rattle.history_cleaner.proofs.Passing.{state_stays}
use Rattle.drive_compaction.specs.Emptying.{KeepsAll, FindsReader}

pub keeps_all : (d : DriveFields) → KeepsAll d d
keeps_all d = record { ledger = refl; needed = λ o t needed. refl }

pub keeps_on : (d between later : DriveFields) → KeepsAll d between → KeepsAll between later → KeepsAll d later
keeps_on d between later first second = record {
  ledger = second.ledger ∙ first.ledger;
  needed = λ o t needed. subst (λ (x : State). KeepsVersions x (store_of between) (store_of later)) (state_stays d between first.ledger) second.needed o t needed ∙ first.needed o t needed;
}

-- history and store are as they were
pub keeps_alike : (d later : DriveFields) → later.ledger ≡ d.ledger → store_of later ≡ store_of d → KeepsAll d later
keeps_alike d later same alike = record { ledger = same; needed = subst (λ (s : StoreFields). KeepsVersions (state_in d) (store_of d) s) (sym alike) (λ o t needed. refl) }

-- a reader was found after that, or in the cleaner's pass
pub found_on : (d between later : DriveFields) (e : Refusal) → KeepsAll d between → FindsReader between later e → FindsReader d later e
found_on d between later e first found = record {
  refusal = found.refusal;
  since = found.since;
  keeps = keeps_on d between found.since first found.keeps;
  objects = found.objects;
  reader = found.reader;
}

pub refused_on : (d between later : DriveFields) (e : Refusal) → KeepsAll d between → (e ≡ NoMemory) ⊎ ((e ≡ Busy) ⊎ FindsReader between later e) → (e ≡ NoMemory) ⊎ ((e ≡ Busy) ⊎ FindsReader d later e)
refused_on d between later e first why = elim why [
  | inl memory ↦ inl memory
  | inr (inl busy) ↦ inr (inl busy)
  | inr (inr found) ↦ inr (inr (found_on d between later e first found))
]

pub found_in_pass : (d later : DriveFields) (e : Refusal) → StoppedAtReader d later e → FindsReader d later e
found_in_pass d later e stopped = record {
  refusal = stopped.refusal;
  since = stopped.since;
  keeps = record { ledger = stopped.ledger; needed = stopped.needed };
  objects = stopped.objects;
  reader = stopped.reader;
}

-- frames were freed after that, down to one that had a reader
pub found_by : (d since later : DriveFields) (e : Refusal) → KeepsAll d since → KeepsObjects (store_of since) (store_of later) → (e ≡ InUse) × StopsAtReader since.store.table later.store.table → FindsReader d later e
found_by d since later e keeps objects found = record {
  refusal = found.0;
  since = since;
  keeps = keeps;
  objects = objects;
  reader = found.1;
}
