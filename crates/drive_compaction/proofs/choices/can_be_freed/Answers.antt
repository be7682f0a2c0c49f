use Rattle.std.proofs.Common.{◌≡◌, ◌*◌, ℕ, List, ap, subst, ◌∙◌}
use Rattle.std.specs.Prelude.{nat_lt}
use Rattle.s4_types.specs.declared.limits.TheConstants.{PAYLOAD_BLOCKS}
use Rattle.segment_word.specs.Frames.{Sealed}
use Rattle.segment_word.specs.Layout.{frame_at}
use Rattle.drive.specs.Fields.{DriveFields}
use Rattle.segment_copier.specs.declared.counting.Counted.{Counted}
use Rattle.segment_copier.specs.Counting.{IsCounted}
use Rattle.drive_compaction.specs.Choosing.{written_by, frames_emptied}
use Rattle.drive_compaction.specs.private.Counting.{Fits}
use Rattle.drive_compaction.proofs.Gained.{too_much, is_sealed_is, gained}
use Rattle.drive_compaction.proofs.choices.can_be_freed.Goals as goal

pub returns-then-not-fits-clause-can : goal.returns-then-not-fits-clause-can
returns-then-not-fits-clause-can g c =
    let counts : List (ℕ × ℕ) = c.args.counts.now.counted.values in
    let d : DriveFields = c.args.drive.now in
    let found : Counted = c.in-Some.counted in
    let counted : IsCounted (written_by counts) d.store.table c.args.frame found = subst (λ (e : DriveFields). IsCounted (written_by counts) e.store.table c.args.frame found) c.is_sealed_now.ensures.same c.in-Some.ensures.some in
    too_much counts d c.args.frame found counted (subst (λ (e : DriveFields). Fits e found → ⊥) (c.count_frame.ensures.same ∙ c.is_sealed_now.ensures.same) c.if-not-fits.ensures.fits)

pub returns-clause-can : goal.returns-clause-can
returns-clause-can g c =
    let counts : List (ℕ × ℕ) = c.args.counts.now.counted.values in
    let d : DriveFields = c.args.drive.now in
    let found : Counted = c.in-Some.counted in
    let counted : IsCounted (written_by counts) d.store.table c.args.frame found = subst (λ (e : DriveFields). IsCounted (written_by counts) e.store.table c.args.frame found) c.is_sealed_now.ensures.same c.in-Some.ensures.some in
    let sealed : (frame_at d.store.table.seat.frames c.args.frame).phase ≡ Sealed = is_sealed_is (frame_at d.store.table.seat.frames c.args.frame).phase c.if-not-is_sealed_now.ensures.sealed in
    let fits : Fits d found = subst (λ (e : DriveFields). Fits e found) (c.count_frame.ensures.same ∙ c.is_sealed_now.ensures.same) c.if-not-fits.ensures.fits in
    gained counts d c.args.frame found c.gains.result counted sealed fits
    (c.gains.ensures.gains ∙ ap (λ (e : DriveFields). nat_lt found.blocks (PAYLOAD_BLOCKS * frames_emptied e.store.table found.objects.items c.args.frame)) (c.fits.ensures.same ∙ c.count_frame.ensures.same ∙ c.is_sealed_now.ensures.same))
