-- What the removal of an object's row leaves of a whole store, and what its replacement does.
use Rattle.std.proofs.Common.{inl, inr, ℕ, ◌==◌, List, None, sym, ◌∙◌, arith}
use Rattle.std.proofs.lemmas.Bool.{cases_Bool, cond-true, cond-false}
use Rattle.std.proofs.lemmas.Option.{none-some}
use Rattle.block_log.specs.Log.{Log}
use Rattle.block_log.specs.declared.kinds.BlockKind.TheVariants.{Journal}
use Rattle.object_map.specs.declared.map.Row.{Row}
use Rattle.object_map.specs.Rows.{row_of}
use Rattle.time_read.proofs.Staying.{same_entries}
use Rattle.version_store.specs.Store.{StoreFields, IsStore}
use Rattle.version_store.specs.Replacing.{IsRemoved}
use Rattle.version_store.specs.private.Below.{ChangesStand}
use Rattle.version_store.specs.private.Recounting.{Uncounts}
use Rattle.version_store.specs.private.Replacing.{Removes}
use Rattle.version_store.proofs.Changed.{Changes, changed_inodes, changed_store, changed_versions, store_others}
use Rattle.version_store.proofs.Spending.{sum_stays}
use Rattle.version_store.proofs.Across.{fewer_across}
use Rattle.version_store.proofs.CheckpointSteps.{next_store}

-- ---- an object is removed

removed_changes : (s : StoreFields) (rows : List (ℕ × Row)) (log : Log) (o : ℕ) → IsStore s → IsRemoved s o (next_store s rows log) → Uncounts s.log log o → Changes s (next_store s rows log) o 0 None
removed_changes s rows log o store gone counts = record {
  put = gone.rows;
  here = λ r e. absurd (none-some r e);
  gone = λ e. gone.nothing;
  names = counts.names;
  beside = counts.beside;
  others = gone.others;
  takes = gone.takes;
  sum = sum_stays 0 s.log log gone.takes (omega arith);
  latest = omega arith;
  across = fewer_across s.rows rows s.log.held log.held
      (λ q r e. elim (cases_Bool (o == q)) [
        | inl is ↦ absurd (none-some r (sym (cond-true (o == q) None (row_of s.rows q) is) ∙ sym (gone.rows q) ∙ e))
        | inr beside ↦ (sym (cond-false (o == q) None (row_of s.rows q) beside) ∙ sym (gone.rows q) ∙ e, same_entries s.log.held log.held q r (gone.others Journal q beside))
      ])
      (record { ascending = store.ascending; apart = store.apart });
}

pub removed : ChangesStand → (s : StoreFields) (rows : List (ℕ × Row)) (log : Log) (o : ℕ) → IsStore s → IsRemoved s o (next_store s rows log) → Uncounts s.log log o → Removes s o (next_store s rows log)
removed rest s rows log o store gone counts =
    let changes = removed_changes s rows log o store gone counts in
    record {
      store = changed_store rest s (next_store s rows log) o 0 None (store_others s o store) changes;
      removed = gone;
      inodes = changed_inodes rest s (next_store s rows log) o 0 None changes;
      versions = changed_versions rest s (next_store s rows log) o 0 None (store_others s o store) changes;
    }
