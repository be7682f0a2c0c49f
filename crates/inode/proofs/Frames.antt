-- What an inode means rests on the blocks alone that its pointers refer to.
use Rattle.std.proofs.Common.{◌≡◌, ℕ, ◌+◌, ◌/◌, ◌%◌, cond, List, get_or, Option, Some, None, IsSome, refl, ap, ◌∙◌}
use Rattle.s4_types.specs.Pointer.{Place}
use Rattle.s4_types.specs.declared.versions.Version.TheVariants.{Absent, Live}
use Rattle.block_log.specs.Log.{Stored}
use Rattle.block_log.specs.declared.kinds.BlockKind.TheVariants.{Data}
use Rattle.block_log.proofs.BlockKinds.{seen_is_some}
use Rattle.codec.specs.Checkpoint.{pointer_at}
use Rattle.codec.specs.declared.inodes.Inode.{Inode}
use Rattle.inode.specs.Contents.{byte_in, byte_of, bytes_of, meaning, contents_of, bytes_stored}
use Rattle.inode.specs.Tidiness.{Tidy, AgreeAt, PointersHeld, PointersLead}
use Rattle.inode.proofs.Listing.{listed-same}

pub byte_in-same : (contents others : Place → List ℕ) (slot : Option Place) (n : ℕ) → ((p : Place) → slot ≡ Some p → others p ≡ contents p) → byte_in others slot n ≡ byte_in contents slot n
byte_in-same contents others None n agree = refl
byte_in-same contents others (Some p) n agree = ap (λ bytes. get_or bytes n 0) (agree p refl)

pub byte_of-same : (contents others : Place → List ℕ) (i : Inode) (n : ℕ) → AgreeAt contents others i → byte_of others i n ≡ byte_of contents i n
unfolding byte_of
byte_of-same contents others i n agree = byte_in-same contents others (pointer_at i (n / 512)) (n % 512) (agree (n / 512))

pub bytes_of-same : (contents others : Place → List ℕ) (i : Inode) → AgreeAt contents others i → bytes_of others i ≡ bytes_of contents i
bytes_of-same contents others i agree = listed-same (byte_of others i) (byte_of contents i) 0 0 i.size (λ n lt. byte_of-same contents others i (0 + n) agree)

pub meaning-same : (contents others : Place → List ℕ) (i : Inode) → AgreeAt contents others i → meaning others i ≡ meaning contents i
meaning-same contents others i agree = ap (λ bytes. cond i.alive (Live bytes i.attribute i.created i.changed) Absent) (bytes_of-same contents others i agree)

pub tidy-same : (contents others : Place → List ℕ) (i : Inode) → AgreeAt contents others i → Tidy contents i → Tidy others i
tidy-same contents others i agree tidy = record {
  count = tidy.count;
  size = tidy.size;
  holes = tidy.holes;
  zeros = λ n le. byte_of-same contents others i n agree ∙ tidy.zeros n le;
}

pub lead : (held : Place → Option Stored) (object : ℕ) (i : Inode) → PointersHeld held object i → PointersLead held i
lead held object i all k p e = seen_is_some Data object (held p) (all k p e)

-- where all that was held is as it was, contents agree wherever the pointers lead
pub kept-agree : (before after : Place → Option Stored) (i : Inode) → ((p : Place) → IsSome (before p) → after p ≡ before p) → PointersLead before i → AgreeAt (contents_of before) (contents_of after) i
kept-agree before after i kept leads k p e = ap bytes_stored (kept p (leads k p e))
