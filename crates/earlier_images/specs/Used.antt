-- The used blocks of an image of an earlier version, straight from its frames.
use Rattle.std.specs.Prelude.{◌≡◌, ℕ, zero, suc, ◌==◌, ◌||◌, ◌&&◌, Bool, if◌then◌else◌, List, [], ◌∷◌, slice_get, Option, Some, None, option_map}
use Rattle.s4_types.specs.Pointer.{Place}
use Rattle.block_log.specs.Log.{Stored}
use Rattle.codec.specs.declared.summaries.BlockRole.{BlockRole}
use Rattle.image_parts.specs.Frames.{FrameFields, state_of, generation_of, IsReadOf}
use Rattle.image_parts.specs.declared.frame_rules.FrameRead.{FrameRead}
use Rattle.image_parts.specs.declared.frame_rules.FrameRead.TheVariants.{Free, Used}
use Rattle.verifier.specs.Tables.{block_in}
use Rattle.earlier_images.specs.declared.frames.EarlierFrame.{EarlierFrame}

-- what the used blocks are that a frame's summary lists, block 1 first; a free frame has none
abbrev pub roles_of : FrameRead → List BlockRole
roles_of Free = []
roles_of (Used summary) = summary.roles

-- what the block of that number is used for; block 0 is the summary
abbrev pub role_at : List BlockRole → ℕ → Option BlockRole
role_at roles zero = None
role_at roles (suc b) = slice_get roles b

-- a used block with its bytes
abbrev pub with_bytes : List ℕ → BlockRole → Stored
with_bytes bytes role = record { kind = role.kind; object = role.object; bytes = bytes }

-- Whether pointers of generation g may name blocks of a frame: its word says that it is open or sealed, and has this generation. So a frame
-- that is being emptied has no block for any pointer.
abbrev pub is_named : FrameFields → ℕ → Bool
is_named f g = (state_of f.word == 1 || state_of f.word == 2) && generation_of f.word == g

-- what a pointer of generation g names in block b of a frame: nothing where the summary doesn't list the block
abbrev pub used_block : EarlierFrame → ℕ → ℕ → Option Stored
used_block k b g = if is_named k.part g then option_map (with_bytes (block_in k.part b)) (role_at (roles_of k.read) b) else None

-- the same where there may be no frame
abbrev pub used_of : Option EarlierFrame → ℕ → ℕ → Option Stored
used_of None b g = None
used_of (Some k) b g = used_block k b g

-- The used block that a place names in an image of these frames.
abbrev pub used_in : List EarlierFrame → Place → Option Stored
used_in frames p = used_of (slice_get frames p.frame) p.block p.generation

-- These are the frames of an image, in their order, each with what is read of it: nothing of a free one, and of any other the summary
-- that its first block encodes.
abbrev pub AreFramesOf : List FrameFields → List EarlierFrame → Type 0
AreFramesOf [] [] = Unit {0}
AreFramesOf [] (k ∷ frames) = ⊥
AreFramesOf (f ∷ parts) [] = ⊥
AreFramesOf (f ∷ parts) (k ∷ frames) = ((k.part ≡ f) × IsReadOf f k.read) × AreFramesOf parts frames
