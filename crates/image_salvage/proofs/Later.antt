-- What stands up to a clock stands up to a later one.
use Rattle.std.proofs.Common.{ℕ, ◌≤◌, List, Option, None, Some}
use Rattle.std.specs.Prelude.{MatchOption}
use Rattle.s4_types.specs.Pointer.{Place}
use Rattle.block_log.specs.Log.{Stored}
use Rattle.codec.specs.Entry.{EntryFields}
use Rattle.time_read.proofs.Ordering.{from_to_later, moments_later, chain_later}
use Rattle.image_objects.specs.declared.rows.ImageRow.{ImageRow}
use Rattle.image_objects.specs.Chains.{entries_used}
use Rattle.image_objects.specs.Inodes.{CheckpointStands, first_used}
use Rattle.image_objects.specs.VersionChain.{VersionChainStands}

later_checkpoint : (used : Place → Option Stored) (row : ImageRow) (clock last : ℕ) (entries : List EntryFields) (p : Place) → clock ≤ last → CheckpointStands used row clock entries p → CheckpointStands used row last entries p
later_checkpoint used row clock last entries p later stands = record {
  found = stands.found;
  decodes = stands.decodes;
  tells = record {
    object = stands.tells.object;
    moment = stands.tells.moment;
    within = from_to_later row.created clock last row.checkpoint_moment later stands.tells.within;
    created = stands.tells.created;
  };
  place = stands.place;
}

later_beginning : (used : Place → Option Stored) (row : ImageRow) (clock last : ℕ) (entries : List EntryFields) (X : Type 0) (at : Option Place) → clock ≤ last
    → MatchOption at X (λ p. CheckpointStands used row clock entries p) → MatchOption at X (λ p. CheckpointStands used row last entries p)
later_beginning used row clock last entries X None later stands = stands
later_beginning used row clock last entries X (Some p) later stands = later_checkpoint used row clock last entries p later stands

pub stands_later : (used : Place → Option Stored) (row : ImageRow) (clock last : ℕ) → clock ≤ last → VersionChainStands used row clock → VersionChainStands used row last
stands_later used row clock last later stands = record {
  chain = record {
    walk = stands.chain.walk;
    packing = stands.chain.packing;
    limit = stands.chain.limit;
    moments = moments_later row.created clock last (entries_used used row) later stands.chain.moments;
    groups = stands.chain.groups;
  };
  beginning = later_beginning used row clock last (entries_used used row) _ row.checkpoint later stands.beginning;
  run = stands.run;
  order = chain_later row.created clock last (first_used used row) (entries_used used row) later stands.order;
}
