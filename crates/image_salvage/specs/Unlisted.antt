-- The objects that no row names, as far as the newest of their blocks give an inode.
use Rattle.std.specs.Prelude.{◌≡◌, ◌↔◌, ℕ, ◌*◌, ◌<◌, true, List, [], ◌∷◌, Option, Some, None, is_some, ⊤}
use Rattle.std.specs.List.{Contains}
use Rattle.s4_types.specs.Pointer.{Place}
use Rattle.s4_types.specs.declared.limits.TheConstants.{MOST_FRAMES}
use Rattle.s4_types.specs.declared.refusals.Cause.{Cause}
use Rattle.block_log.specs.Log.{Stored}
use Rattle.codec.specs.declared.inodes.Inode.{Inode}
use Rattle.codec.specs.Entry.{EntryFields}
use Rattle.image_parts.specs.declared.rows.RowPart.{RowPart}
use Rattle.image_objects.specs.declared.rows.ImageRow.{ImageRow}
use Rattle.image_objects.specs.Chains.{entries_used}
use Rattle.image_salvage.specs.declared.newest.Note.{Note}
use Rattle.image_salvage.specs.declared.unlisted.Unlisted.{Unlisted}
use Rattle.image_salvage.specs.Heads.{LeadsOn, MakesByCheckpoint, MakesHead}
use Rattle.image_salvage.specs.LeftOut.{cut_moment, whole_inode}
use Rattle.image_salvage.specs.Newest.{AreNewest}
use Rattle.image_salvage.specs.Outdated.{AreBelieved}
use Rattle.image_salvage.specs.Rows.{IsThere}

-- the moment of the first of entries
abbrev pub first_moment : List EntryFields → ℕ
first_moment [] = 0
first_moment (e ∷ entries) = e.moment

-- an inode, made at this moment where no checkpoint says when
abbrev pub inode_made : Option Place → ℕ → Inode → Inode
inode_made None first i = record { alive = i.alive; size = i.size; created = first; changed = i.changed; attribute = i.attribute; pointers = i.pointers }
inode_made (Some checkpoint) first i = i

-- The inode that a row gives that was made of blocks: after its last change that is whole.
abbrev pub unlisted_inode : (Place → Option Stored) → ImageRow → Inode
unlisted_inode used row = inode_made row.checkpoint (first_moment (entries_used used row)) (whole_inode used row)

-- The newest row that blocks make of an object gives this inode, which is live, and says whether a newer change was left out.
pub record IsFound (used : Place → Option Stored) (heads : ℕ → Option Note) (u : Unlisted) : Type 0 where
  pub numbered : 0 < u.object
  pub head : Note
  pub is : heads u.object ≡ Some head
  pub leads : LeadsOn used head.row
  pub inode_is : u.inode ≡ unlisted_inode used head.row
  pub left_out_is : u.left_out ≡ is_some (cut_moment used head.row)
  pub live : u.inode.alive ≡ true

-- one of the rows of an image is of an object, and gives it
abbrev pub IsListed : (Place → Option Stored) → List RowPart → ℕ → Type 0
IsListed used rows o = (part : RowPart) × Contains rows part × (part.object ≡ o) × IsThere used part

-- objects ascend strictly, from above this number
abbrev pub ObjectsAscend : ℕ → List Unlisted → Type 0
ObjectsAscend low [] = ⊤
ObjectsAscend low (u ∷ found) = (low < u.object) × ObjectsAscend u.object found

-- These are the rows that aren't outdated, and the objects that none of them gives and whose found blocks end with a live inode, with that inode, ascending: by the newest
-- checkpoint of each object, and by the newest row that its blocks make, of all frames that a drive can have.
pub record FindsUnlisted (used : Place → Option Stored) (there rows : List RowPart) (found : List Unlisted) : Type 0 where
  pub checkpoints : ℕ → Option Note
  pub newest_checkpoints : AreNewest (MakesByCheckpoint used) (16 * MOST_FRAMES) checkpoints
  pub heads : ℕ → Option Note
  pub newest_heads : AreNewest (MakesHead used checkpoints) (16 * MOST_FRAMES) heads
  pub believed : AreBelieved used heads there rows
  pub all : (u : Unlisted) → Contains found u ↔ ((IsListed used rows u.object → ⊥) × IsFound used heads u)
  pub ascend : ObjectsAscend 0 found

-- In an image without a fault all rows are believed, and no such objects are looked for.
abbrev pub FindsUnlistedBy : Option Cause → (Place → Option Stored) → List RowPart → List RowPart → List Unlisted → Type 0
FindsUnlistedBy None used there rows found = (rows ≡ there) × (found ≡ [])
FindsUnlistedBy (Some cause) used there rows found = FindsUnlisted used there rows found
