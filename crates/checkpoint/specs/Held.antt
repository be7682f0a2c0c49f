-- The checkpoint that a pointer refers to, and the blocks that it is written in.
use Rattle.std.specs.Prelude.{◌≡◌, ℕ, ◌+◌, Bool, true, false, ◌==◌, ◌&&◌, ◌||◌, if◌then◌else◌, List, [], ◌∷◌, ◌++◌, slice_index, slice_index_or, Option, Some, None}
use Rattle.std.specs.List.{list_any}
use Rattle.std.specs.Option.{option_to_list, option_map}
use Rattle.s4_types.specs.Pointer.{Place}
use Rattle.s4_types.specs.declared.limits.TheConstants.{CHECKPOINT_POINTERS}
use Rattle.block_log.specs.Log.{Stored, of_kind, seen_as, same_kind, same_place}
use Rattle.block_log.specs.declared.kinds.BlockKind.{BlockKind}
use Rattle.block_log.specs.declared.kinds.BlockKind.TheVariants as kind
use Rattle.codec.specs.Fields.{◌>>=◌, all_of}
use Rattle.codec.specs.Checkpoint.{CheckpointFields, holes}
use Rattle.codec.specs.FirstBlock.{first_at}
use Rattle.codec.specs.Parts.{part_of, are_holes, told_in, joined}
use Rattle.codec.specs.Summary.{kind_number}
use Rattle.codec.specs.declared.first_blocks.FirstBlock.{FirstBlock}
use Rattle.codec.specs.declared.inodes.Inode.{Inode}

-- whether blocks of a kind are blocks of checkpoints
abbrev pub is_checkpoint_kind : BlockKind → Bool
is_checkpoint_kind k = same_kind kind.Checkpoint k || same_kind kind.Pointers k

-- bytes that begin with the number of a kind, and in place of others none at all
abbrev pub begun_by : BlockKind → List ℕ → List ℕ
begun_by k bytes = if slice_index bytes 0 == kind_number k then bytes else []

-- the bytes that are there, else others
abbrev pub or_others : Option (List ℕ) → Option (List ℕ) → Option (List ℕ)
or_others None others = others
or_others (Some bytes) others = Some bytes

-- A block's bytes, where it is one of an object's checkpoints: a first block, or the block of a part. Where they don't begin
-- with the number of its kind, they are seen as no bytes.
abbrev pub seen_of : ℕ → Option Stored → Option (List ℕ)
seen_of o there = or_others (option_map (begun_by kind.Checkpoint) (seen_as kind.Checkpoint o there)) (option_map (begun_by kind.Pointers) (seen_as kind.Pointers o there))

-- the bytes of the blocks of an object's checkpoints, by their places
abbrev pub of_checkpoints : ℕ → (Place → Option Stored) → Place → Option (List ℕ)
of_checkpoints o held = λ p. seen_of o (held p)

-- a block is there, and its bytes begin with the number of its kind
abbrev pub HasBytes : Option (List ℕ) → Type 0
HasBytes None = ⊥
HasBytes (Some []) = ⊥
HasBytes (Some (b ∷ bytes)) = Unit {0}

-- the first block of the checkpoint that a pointer refers to
abbrev pub first_in : (Place → Option (List ℕ)) → Place → Option FirstBlock
first_in view p = view p >>= all_of first_at

-- where the block of a part is, of parts that are counted from 0 on
abbrev pub part_place : Option FirstBlock → ℕ → Option Place
part_place None n = None
part_place (Some f) n = slice_index_or f.parts n None

-- the pointers of a part of a checkpoint, by where its block is: holes where it has none
abbrev pub part_in : (Place → Option (List ℕ)) → FirstBlock → ℕ → Option Place → Option (List (Option Place))
part_in view f part None = Some (holes CHECKPOINT_POINTERS)
part_in view f part (Some q) = view q >>= told_in f part

-- the checkpoint with this first block
abbrev pub checkpoint_of : (Place → Option (List ℕ)) → FirstBlock → Option CheckpointFields
checkpoint_of view f = do
  one ← part_in view f 1 (slice_index_or f.parts 0 None)
  two ← part_in view f 2 (slice_index_or f.parts 1 None)
  three ← part_in view f 3 (slice_index_or f.parts 2 None)
  joined f one two three

-- the checkpoint that a pointer refers to, in the blocks of an object's checkpoints: none where they encode none there
unfoldable pub checkpoint_in : (Place → Option (List ℕ)) → Place → Option CheckpointFields
checkpoint_in view p = first_in view p >>= checkpoint_of view

-- the checkpoint that a pointer refers to, in what is held
abbrev pub checkpoint_held : (Place → Option Stored) → ℕ → Place → Option CheckpointFields
checkpoint_held held o p = checkpoint_in (of_checkpoints o held) p

-- the places of the blocks of the checkpoint that a pointer refers to, in the order in which they are written
unfoldable pub places_in : (Place → Option (List ℕ)) → Place → List Place
places_in view p =
    option_to_list (part_place (first_in view p) 0) ++ (option_to_list (part_place (first_in view p) 1) ++ (option_to_list (part_place (first_in view p) 2) ++ p ∷ []))

-- the places of a pointer's checkpoint, if there is a pointer
abbrev pub places_named : (Place → Option (List ℕ)) → Option Place → List Place
places_named view None = []
places_named view (Some p) = places_in view p

-- the places of the checkpoint that a pointer refers to, in what is held
abbrev pub checkpoint_places : (Place → Option Stored) → ℕ → Place → List Place
checkpoint_places held o p = places_in (of_checkpoints o held) p

-- how many blocks a part of a checkpoint takes: none where its pointers are holes
unfoldable pub part_blocks : Inode → ℕ → ℕ
part_blocks i part = if are_holes (part_of part i.pointers) then 0 else 1

-- how many blocks a checkpoint of an inode takes
unfoldable pub checkpoint_blocks : Inode → ℕ
checkpoint_blocks i = part_blocks i 1 + (part_blocks i 2 + (part_blocks i 3 + 1))

-- whether a place is one of these
abbrev pub is_one_of : List Place → Place → Bool
is_one_of places q = list_any (λ p. same_place p q) places

-- a place is that of a block of both of two pointers' checkpoints
abbrev pub IsInBoth : (Place → Option Stored) → ℕ → Place → Place → Place → Type 0
IsInBoth held o p r q = (is_one_of (checkpoint_places held o p) q ≡ true) × (is_one_of (checkpoint_places held o r) q ≡ true)

-- each block of a pointer's checkpoint, if there is a pointer, is held as one of the object's checkpoints, and of its kind
abbrev pub HasItsBlocks : (Place → Option Stored) → ℕ → Option Place → Type 0
HasItsBlocks held o c = (q : Place) → is_one_of (places_named (of_checkpoints o held) c) q ≡ true → HasBytes (of_checkpoints o held q)

-- of all views, that of the object's checkpoints alone has changed
abbrev pub OnlyCheckpointChanged : ℕ → (Place → Option Stored) → (Place → Option Stored) → Type 0
OnlyCheckpointChanged o held later = (k : BlockKind) (other : ℕ) → (is_checkpoint_kind k && o == other) ≡ false → of_kind k other later ≡ of_kind k other held

-- A checkpoint of the object was put at places where nothing was held; all else is as it was.
pub record PutsCheckpoint (before : Place → Option Stored) (object : ℕ) (p : Place) (after : Place → Option Stored) : Type 0 where
  pub fresh : (q : Place) → is_one_of (checkpoint_places after object p) q ≡ true → before q ≡ None
  pub kept : (q : Place) → is_one_of (checkpoint_places after object p) q ≡ false → after q ≡ before q
  pub others : OnlyCheckpointChanged object before after

-- No block of a pointer's checkpoint, if there was a pointer, is held any longer; all else is as it was.
pub record DropsCheckpoint (before : Place → Option Stored) (object : ℕ) (c : Option Place) (after : Place → Option Stored) : Type 0 where
  pub gone : (q : Place) → is_one_of (places_named (of_checkpoints object before) c) q ≡ true → after q ≡ None
  pub kept : (q : Place) → is_one_of (places_named (of_checkpoints object before) c) q ≡ false → after q ≡ before q
  pub others : OnlyCheckpointChanged object before after
