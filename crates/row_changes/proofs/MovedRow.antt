-- What a row can tell of the moment that its checkpoint has can be written.
use Rattle.std.proofs.Common.{◌≡◌, ℕ, true, List, Option, Some, None, IfSome, is_some, MatchOption}
use Rattle.std.proofs.lemmas.Bool.{false≢true}
use Rattle.s4_types.specs.Pointer.{Place}
use Rattle.block_log.specs.Log.{Stored}
use Rattle.codec.specs.declared.inodes.Inode.{Inode}
use Rattle.codec.specs.Entry.{EntryFields}
use Rattle.codec.specs.Checkpoint.{checkpoint_rules}
use Rattle.checkpoint.specs.Held.{checkpoint_held}
use Rattle.object_map.specs.declared.map.Row.{Row}
use Rattle.time_read.specs.Rows.{IsRow, inode_of}
use Rattle.row_changes.specs.Moving.{CanTell, CanWrite, checkpoint_made}

-- an inode keeps the rules, where there is one; where the row has no checkpoint either, its moment is 0
rules_or_none : (kept : Option Inode) (was : Option Place) (m : ℕ) (A : Place → Type 0) (R : Inode → Type 0) → is_some kept ≡ is_some was → MatchOption was (m ≡ 0) A → IfSome kept R → MatchOption kept (m ≡ 0) R
rules_or_none None None m A R same at rules = at
rules_or_none None (Some p) m A R same at rules = absurd (false≢true same)
rules_or_none (Some i) was m A R same at rules = rules

pub can_write : (held : Place → Option Stored) (o : ℕ) (row : Row) (kept : Option Inode) (entries : List EntryFields) → IsRow held o row → CanTell o row kept entries → CanWrite o row.created row.checkpoint_moment kept entries
can_write held o row kept entries r tell = record {
  rules = rules_or_none kept row.checkpoint row.checkpoint_moment
      (λ p. checkpoint_held held o p ≡ Some (record { object = o; moment = row.checkpoint_moment; inode = inode_of held o row row.checkpoint_moment }))
      (λ i. checkpoint_rules (checkpoint_made o row.checkpoint_moment i) ≡ true) tell.same r.checkpoint tell.rules;
  current = tell.current;
  run = tell.run;
  groups = tell.groups;
  bytes = tell.bytes;
  created = tell.created;
}
