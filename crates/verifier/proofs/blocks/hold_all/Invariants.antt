use Rattle.std.proofs.Common.{◌≡◌, ℕ, ◌+◌, true, take}
use Rattle.s4_types.specs.Pointer.{Place}
use Rattle.block_log.specs.Log.{is_data}
use Rattle.journal_chain.specs.Chain.{times}
use Rattle.segment_table.specs.Slots.{capped}
use Rattle.segment_table.specs.Table.{held_at, named_at}
use Rattle.segment_table.specs.Used.{used_at}
use Rattle.verifier.specs.private.Holding.{HoldsAlso, IsUsedAlike}
use Rattle.verifier.proofs.blocks.hold_all.Given as goal

abbrev pub invariant-loop-place : goal.invariant-loop-place
invariant-loop-place l = record {
  also : HoldsAlso (used_at l.fn.table) (held_at l.fn.table) (held_at l.table) (take l.place-index l.places);
  named : (p : Place) (n : ℕ) → is_data (used_at l.fn.table p) ≡ true → named_at l.fn.table p ≡ capped n → named_at l.table p ≡ capped (n + times p (take l.place-index l.places));
  alike : IsUsedAlike l.fn.table l.table;
}
