use Rattle.std.proofs.Common.{◌≡◌, ◌≤◌, ℕ, List, length, sym, ap, subst, ◌∙◌, arith}
use Rattle.s4_types.specs.declared.limits.TheConstants.{MOST_FRAMES}
use Rattle.image_parts.specs.declared.marks.ImageMark.TheVariants.{Earlier}
use Rattle.image_parts.specs.Marks.{earlier_in}
use Rattle.image_parts.specs.Image.{image_in}
use Rattle.earlier_images.specs.declared.frames.EarlierFrame.{EarlierFrame}
use Rattle.earlier_images.specs.Images.{EarlierFields}
use Rattle.migration.proofs.Done.{old_frames, old_rows, source_of}
use Rattle.migration.proofs.Whole.{as_many_rows}
use Rattle.migration.proofs.migrating.migrated.Goals as goal

pub lay_out-requires-clause-frames : goal.lay_out-requires-clause-frames
lay_out-requires-clause-frames c =
    let bytes = c.args.bytes.now in
    let old : EarlierFields = c.in_ok-old.old in
    let few : length old.frames ≤ MOST_FRAMES = old_frames (Earlier (earlier_in bytes)) (image_in bytes) old (source_of bytes (image_in bytes) old c.in_ok-old.ensures.whole c.in_ok-old.ensures.read) in
    let same : c.len-frames.result ≡ length old.frames = c.len-frames.ensures ∙ ap (λ (fs : List EarlierFrame). length fs) c.frames.ensures in
    subst (λ (n : ℕ). n ≤ MOST_FRAMES) (sym same) few

pub lay_out-requires-clause-ascend : goal.lay_out-requires-clause-ascend
lay_out-requires-clause-ascend c =
    let bytes = c.args.bytes.now in
    let old : EarlierFields = c.in_ok-old.old in
    (old_rows (Earlier (earlier_in bytes)) (image_in bytes) old (source_of bytes (image_in bytes) old c.in_ok-old.ensures.whole c.in_ok-old.ensures.read)).0

pub lay_out-requires-clause-rows : goal.lay_out-requires-clause-rows
lay_out-requires-clause-rows c =
    let old : EarlierFields = c.in_ok-old.old in
    let few = c.in_ok-old.ensures.whole.parts.is.row_count in
    let same = as_many_rows (image_in c.args.bytes.now).rows old.rows c.in_ok-old.ensures.read.spelled in
    omega (arith, few, same)
