-- What holds of kinds of blocks, and of a block that is seen as one of a kind.
use Rattle.std.proofs.Common.{◌≡◌, inl, inr, ℕ, Bool, true, ◌==◌, ◌&&◌, Option, Some, None, IsSome, is_some, if◌then◌else◌, refl, sym, ap, ◌∙◌}
use Rattle.std.proofs.lemmas.Bool.{cases_Bool, false≢true, and_parts, and_from, eq-eqb, cond-false}
use Rattle.block_log.specs.declared.kinds.BlockKind.{BlockKind}
use Rattle.block_log.specs.declared.kinds.BlockKind.TheVariants.{Journal, Checkpoint, Data, Pointers}
use Rattle.block_log.specs.Log.{Stored, same_kind, seen_as, is_data}

pub same_kind_itself : (k : BlockKind) → same_kind k k ≡ true
same_kind_itself Journal = refl
same_kind_itself Checkpoint = refl
same_kind_itself Data = refl
same_kind_itself Pointers = refl

pub one_kind : (k l : BlockKind) → same_kind k l ≡ true → k ≡ l
one_kind Journal Journal h = refl
one_kind Journal Checkpoint h = absurd (false≢true h)
one_kind Journal Data h = absurd (false≢true h)
one_kind Journal Pointers h = absurd (false≢true h)
one_kind Checkpoint Journal h = absurd (false≢true h)
one_kind Checkpoint Checkpoint h = refl
one_kind Checkpoint Data h = absurd (false≢true h)
one_kind Checkpoint Pointers h = absurd (false≢true h)
one_kind Data Journal h = absurd (false≢true h)
one_kind Data Checkpoint h = absurd (false≢true h)
one_kind Data Data h = refl
one_kind Data Pointers h = absurd (false≢true h)
one_kind Pointers Journal h = absurd (false≢true h)
one_kind Pointers Checkpoint h = absurd (false≢true h)
one_kind Pointers Data h = absurd (false≢true h)
one_kind Pointers Pointers h = refl

-- each block is seen as what it is
pub seen_as_itself : (block : Stored) → seen_as block.kind block.object (Some block) ≡ Some block.bytes
seen_as_itself block =
    ap (λ (b : Bool). if b then Some block.bytes else None) (and_from (same_kind block.kind block.kind) (block.object == block.object) (same_kind_itself block.kind) (eq-eqb block.object block.object refl))

-- what is seen as a block of some kind is a block
pub seen_is_some : (kind : BlockKind) (o : ℕ) (there : Option Stored) → IsSome (seen_as kind o there) → IsSome there
seen_is_some kind o None some = some
seen_is_some kind o (Some block) some = refl

-- an object's data is data
pub seen_is_data : (o : ℕ) (there : Option Stored) → IsSome (seen_as Data o there) → is_data there ≡ true
seen_is_data o None some = absurd (false≢true some)
seen_is_data o (Some block) some = elim (cases_Bool (same_kind Data block.kind && block.object == o)) [
  | inl is ↦ ap (λ (k : BlockKind). same_kind k Data) (sym (one_kind Data block.kind (and_parts (same_kind Data block.kind) (block.object == o) is).0))
  | inr other ↦ absurd (false≢true (sym (ap is_some (cond-false (same_kind Data block.kind && block.object == o) (Some block.bytes) None other)) ∙ some))
]
