-- What one append, and one drop, leave as they were.
use Rattle.std.specs.Prelude.{◌≡◌, ℕ, ◌+◌, false, ◌==◌, ◌&&◌, ◌∷◌, Option, Some, None}
use Rattle.s4_types.specs.Pointer.{Place}
use Rattle.block_log.specs.declared.kinds.BlockKind.{BlockKind}
use Rattle.block_log.specs.Log.{Log, Stored, same_place, same_kind, of_kind, named_with}

-- the blocks of each other kind or object are as they were
abbrev pub OthersStay : BlockKind → ℕ → (Place → Option Stored) → (Place → Option Stored) → Type 0
OthersStay kind object before after = (k : BlockKind) (o : ℕ) (q : Place) → (same_kind k kind && object == o) ≡ false → of_kind k o after q ≡ of_kind k o before q

-- A block was put at the first place ahead, which is spent now, and where nothing was held. Of data it is named once more; all
-- else is as it was.
pub record Puts (before : Log) (block : Stored) (p : Place) (after : Log) : Type 0 where
  pub ahead : before.ahead ≡ p ∷ after.ahead
  pub spent : after.spent ≡ 1 + before.spent
  pub fresh : before.held p ≡ None
  pub named : after.named ≡ named_with block.kind before.named p
  pub here : after.held p ≡ Some block
  pub kept : (q : Place) → same_place p q ≡ false → after.held q ≡ before.held q
  pub others : OthersStay block.kind block.object before.held after.held

-- The block at a place is held no longer; all else is as it was.
pub record LetsGo (before : Log) (block : Stored) (p : Place) (after : Log) : Type 0 where
  pub ahead : after.ahead ≡ before.ahead
  pub spent : after.spent ≡ before.spent
  pub named : after.named ≡ before.named
  pub here : after.held p ≡ None
  pub kept : (q : Place) → same_place p q ≡ false → after.held q ≡ before.held q
  pub others : OthersStay block.kind block.object before.held after.held
