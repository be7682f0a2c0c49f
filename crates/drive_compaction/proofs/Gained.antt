-- A frame that is freed at a gain, from what was counted of it.
use Rattle.std.proofs.Common.{◌≡◌, ℕ, ◌*◌, ◌≤◌, Bool, true, false, List, refl, sym, ap, subst, ◌∙◌}
use Rattle.std.specs.Prelude.{nat_lt, MatchBool}
use Rattle.std.proofs.lemmas.Bool.{ltb-true, lt-ltb}
use Rattle.s4_types.specs.declared.limits.TheConstants.{PAYLOAD_BLOCKS}
use Rattle.segment_word.specs.Frames.{Phase, Free, Open, Sealed, Draining, is_sealed}
use Rattle.segment_word.specs.Layout.{frame_at}
use Rattle.segment_copier.specs.Gathering.{free_count}
use Rattle.drive.specs.Fields.{DriveFields}
use Rattle.segment_copier.specs.declared.counting.Counted.{Counted}
use Rattle.segment_copier.specs.Counting.{objects_in, IsCounted}
use Rattle.drive_compaction.specs.Choosing.{CanBeFreed, written_by, blocks_by, frames_emptied}
use Rattle.drive_compaction.specs.private.Counting.{Fits}

pub too_much : (counts : List (ℕ × ℕ)) (d : DriveFields) (f : ℕ) (c : Counted) → IsCounted (written_by counts) d.store.table f c → (Fits d c → ⊥) → CanBeFreed counts d f → ⊥
too_much counts d f c counted none can =
    none (subst (λ (n : ℕ). 1 ≤ n) (sym counted.held) can.some, subst (λ (n : ℕ). n ≤ PAYLOAD_BLOCKS * free_count d.store.table) (sym counted.blocks) can.free)

-- the frames that are emptied, by the objects that were counted
emptied_is : (counts : List (ℕ × ℕ)) (d : DriveFields) (f : ℕ) (c : Counted) → IsCounted (written_by counts) d.store.table f c
    → nat_lt c.blocks (PAYLOAD_BLOCKS * frames_emptied d.store.table c.objects.items f) ≡ nat_lt (blocks_by counts d.store.table f) (PAYLOAD_BLOCKS * frames_emptied d.store.table (objects_in d.store.table f) f)
emptied_is counts d f c counted = ap (λ (n : ℕ). nat_lt n (PAYLOAD_BLOCKS * frames_emptied d.store.table c.objects.items f)) counted.blocks
    ∙ ap (λ (os : List ℕ). nat_lt (blocks_by counts d.store.table f) (PAYLOAD_BLOCKS * frames_emptied d.store.table os f)) counted.objects

pub is_sealed_is : (p : Phase) → true ≡ is_sealed p → p ≡ Sealed
is_sealed_is Free e = absurd (cc)
is_sealed_is Open e = absurd (cc)
is_sealed_is Sealed e = refl
is_sealed_is Draining e = absurd (cc)

pub gained : (counts : List (ℕ × ℕ)) (d : DriveFields) (f : ℕ) (c : Counted) (b : Bool) → IsCounted (written_by counts) d.store.table f c → (frame_at d.store.table.seat.frames f).phase ≡ Sealed → Fits d c
    → b ≡ nat_lt c.blocks (PAYLOAD_BLOCKS * frames_emptied d.store.table c.objects.items f) → MatchBool b (CanBeFreed counts d f) (CanBeFreed counts d f → ⊥)
gained counts d f c true counted sealed fits is = record {
  sealed = sealed;
  life = counted.life;
  some = subst (λ (n : ℕ). 1 ≤ n) counted.held fits.0;
  few = ltb-true (blocks_by counts d.store.table f) (PAYLOAD_BLOCKS * frames_emptied d.store.table (objects_in d.store.table f) f) (sym (is ∙ emptied_is counts d f c counted));
  free = subst (λ (n : ℕ). n ≤ PAYLOAD_BLOCKS * free_count d.store.table) counted.blocks fits.1;
}
gained counts d f c false counted sealed fits is = λ can.
    let more = lt-ltb (blocks_by counts d.store.table f) (PAYLOAD_BLOCKS * frames_emptied d.store.table (objects_in d.store.table f) f) can.few in
    let both : false ≡ true = is ∙ emptied_is counts d f c counted ∙ more in
    absurd (cc)
