-- Which of the copies that were made can be put in place.
use Rattle.std.specs.Prelude.{◌≡◌, IsSome}
use Rattle.segment_table.specs.Table.{Table, held_at}
use Rattle.version_store.specs.declared.copies.CopiedBlock.{CopiedBlock}
use Rattle.segment_copier.specs.Commits.{copy_at}

-- a copy has the bytes of its place, where a block is held there
abbrev pub IsTrueIn : Table → CopiedBlock → Type 0
IsTrueIn t c = IsSome (held_at t c.place) → c.bytes ≡ (copy_at t c.place).bytes
