-- An inode that was led back whole, or for the blocks of a range, agrees with the past one within the range.
use Rattle.std.proofs.Common.{◌≡◌, ℕ, drop, get_or, List, length, Option, None, inl, inr, sym, ap, ◌∙◌}
use Rattle.std.specs.Prelude.{reverse, ◌⊎◌}
use Rattle.s4_types.specs.Pointer.{Place}
use Rattle.codec.specs.Checkpoint.{pointer_at}
use Rattle.codec.specs.declared.inodes.Inode.{Inode}
use Rattle.time_read.specs.Earlier.{Earlier}
use Rattle.time_read.specs.Undoings.{put_back, fields_undone, undone_from}
use Rattle.time_read.specs.Within.{IsIn, IsLedWithin}
use Rattle.time_read.specs.declared.block_ranges.BlockRange.{BlockRange}
use Rattle.time_read.specs.declared.undo_records.UndoRecord.{UndoRecord}
use Rattle.time_read.proofs.PutBack.{put_back_length}

pub led_whole : (range : BlockRange) (present past i : Inode) → i ≡ past → IsLedWithin range present past i
led_whole range present past i is = record {
  agrees = record {
    alive = ap (λ (j : Inode). j.alive) is;
    size = ap (λ (j : Inode). j.size) is;
    created = ap (λ (j : Inode). j.created) is;
    changed = ap (λ (j : Inode). j.changed) is;
    attribute = ap (λ (j : Inode). j.attribute) is;
    count = ap (λ (j : Inode). length j.pointers) is;
    pointers = λ k inside. ap (λ (j : Inode). pointer_at j k) is;
  };
  pointers = λ k. inl (ap (λ (j : Inode). pointer_at j k) is);
}

-- all fields are undone, and of the pointers those of a range
pub led_within : (range : BlockRange) (ps : List Earlier) (xs : List (List ℕ)) (r : UndoRecord) (present i : Inode) (pointers : List (Option Place)) → i ≡ record (fields_undone xs r present) { pointers = pointers } → length pointers ≡ length present.pointers
    → ((k : ℕ) → IsIn range k → get_or pointers k None ≡ get_or (put_back (reverse (drop r.first ps)) present.pointers) k None)
    → ((k : ℕ) → (get_or pointers k None ≡ get_or (put_back (reverse (drop r.first ps)) present.pointers) k None) ⊎ (get_or pointers k None ≡ get_or present.pointers k None))
    → IsLedWithin range present (undone_from ps xs r present) i
unfolding undone_from
led_within range ps xs r present i pointers is count within either = record {
  agrees = record {
    alive = ap (λ (j : Inode). j.alive) is;
    size = ap (λ (j : Inode). j.size) is;
    created = ap (λ (j : Inode). j.created) is;
    changed = ap (λ (j : Inode). j.changed) is;
    attribute = ap (λ (j : Inode). j.attribute) is;
    count = ap (λ (j : Inode). length j.pointers) is ∙ count ∙ sym (put_back_length (reverse (drop r.first ps)) present.pointers);
    pointers = λ k inside. ap (λ (j : Inode). pointer_at j k) is ∙ within k inside;
  };
  pointers = λ k. elim (either k) [
    | inl past ↦ inl (ap (λ (j : Inode). pointer_at j k) is ∙ past)
    | inr same ↦ inr (ap (λ (j : Inode). pointer_at j k) is ∙ same)
  ];
}
