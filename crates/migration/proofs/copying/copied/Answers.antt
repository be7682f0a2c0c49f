use Rattle.std.proofs.Common.{◌≡◌, ◌≤◌, ℕ, List, length, sym, ap, subst, ◌∙◌, arith}
use Rattle.std.specs.List.{AllByRecursion}
use Rattle.s4_types.specs.declared.limits.TheConstants.{MOST_FRAMES}
use Rattle.codec.specs.declared.versions.ImageVersion.TheVariants.{Second}
use Rattle.image_parts.specs.declared.marks.ImageMark.TheVariants.{Third}
use Rattle.image_parts.specs.Image.{Image, image_in}
use Rattle.image_objects.specs.declared.rows.ImageRow.{ImageRow}
use Rattle.image_objects.specs.Versions.{ObjectStandsBy}
use Rattle.earlier_images.specs.declared.frames.EarlierFrame.{EarlierFrame}
use Rattle.earlier_images.specs.Images.{EarlierFields, IsEarlierOf}
use Rattle.earlier_images.specs.Used.{used_in}
use Rattle.migration.specs.Rows.{AscendAbove}
use Rattle.migration.specs.Copies.{rows_left, stays}
use Rattle.migration.specs.private.Left.{with_left, with_parts_left}
use Rattle.migration.specs.private.Written.{IsSource}
use Rattle.migration.proofs.CopiedImages.{source_of, split_fault}
use Rattle.migration.proofs.Done.{old_frames, old_rows}
use Rattle.migration.proofs.Left.{few_left}
use Rattle.migration.proofs.Whole.{as_many_rows}
use Rattle.migration.proofs.copying.copied.Goals as goal

pub unreachable-requires : goal.unreachable-requires
unreachable-requires g c =
    let bytes = c.args.bytes.now in
    c.what_has_a_fault_spells_nothing.ensures bytes c.in_default.field-0 (image_in bytes) (split_fault bytes c.in_default.field-0 c.in_default.ensures.damaged) c.in_ok-verify.ensures.whole

pub frames_asked-requires : goal.frames_asked-requires
frames_asked-requires g c =
    let bytes = c.args.bytes.now in
    let image : EarlierFields = c.in_ok-image.image in
    let of : IsEarlierOf Second (image_in bytes) image = subst (λ (p : Image). IsEarlierOf Second p image) c.in-Ok.ensures.read c.in_ok-image.ensures.read in
    let few : length image.frames ≤ MOST_FRAMES = old_frames Third (image_in bytes) image (source_of bytes (image_in bytes) image c.in_ok-verify.ensures.whole of) in
    let same : c.len.result ≡ length image.frames = c.len.ensures ∙ ap (λ (fs : List EarlierFrame). length fs) c.frames.ensures in
    subst (λ (n : ℕ). n ≤ MOST_FRAMES) (sym same) few

pub with_rows-image-requires : goal.with_rows-image-requires
with_rows-image-requires g c =
    let bytes = c.args.bytes.now in
    let asked = c.args.asked.now in
    let image : EarlierFields = c.in_ok-image.image in
    let of : IsEarlierOf Second (image_in bytes) image = subst (λ (p : Image). IsEarlierOf Second p image) c.in-Ok.ensures.read c.in_ok-image.ensures.read in
    let few = c.in_ok-verify.ensures.whole.parts.is.row_count in
    let same = as_many_rows (image_in bytes).rows image.rows of.spelled in
    let fewer = few_left (λ (row : ImageRow). stays asked row.object row.created) image.rows in
    let left : length c.in_ok-left.left.items ≡ length (rows_left asked image.rows) = ap (λ (rows : List ImageRow). length rows) c.in_ok-left.ensures.left ∙ ap (λ (rows : List ImageRow). length (rows_left asked rows)) c.rows.ensures in
    omega (arith, few, same, fewer, left)

pub lay_out-requires-clause-ascend : goal.lay_out-requires-clause-ascend
lay_out-requires-clause-ascend g c =
    let bytes = c.args.bytes.now in
    let asked = c.args.asked.now in
    let image : EarlierFields = c.in_ok-image.image in
    let of : IsEarlierOf Second (image_in bytes) image = subst (λ (p : Image). IsEarlierOf Second p image) c.in-Ok.ensures.read c.in_ok-image.ensures.read in
    let source : IsSource Third (with_parts_left asked (image_in bytes)) (with_left asked image) = c.what_was_laid_out_is_a_copy.ensures.source asked bytes (image_in bytes) image c.in_ok-verify.ensures.whole of in
    let rows : c.with_rows-image.result.rows ≡ rows_left asked image.rows = ap (λ (e : EarlierFields). e.rows) c.with_rows-image.ensures ∙ c.in_ok-left.ensures.left ∙ ap (rows_left asked) c.rows.ensures in
    subst (λ (rs : List ImageRow). AscendAbove 0 rs) (sym rows) (old_rows Third (with_parts_left asked (image_in bytes)) (with_left asked image) source).0

pub lay_out-requires-clause-stand : goal.lay_out-requires-clause-stand
lay_out-requires-clause-stand g c =
    let bytes = c.args.bytes.now in
    let asked = c.args.asked.now in
    let image : EarlierFields = c.in_ok-image.image in
    let of : IsEarlierOf Second (image_in bytes) image = subst (λ (p : Image). IsEarlierOf Second p image) c.in-Ok.ensures.read c.in_ok-image.ensures.read in
    let source : IsSource Third (with_parts_left asked (image_in bytes)) (with_left asked image) = c.what_was_laid_out_is_a_copy.ensures.source asked bytes (image_in bytes) image c.in_ok-verify.ensures.whole of in
    let left : c.in_ok-left.left.items ≡ rows_left asked image.rows = c.in_ok-left.ensures.left ∙ ap (rows_left asked) c.rows.ensures in
    let same : c.with_rows-image.result ≡ with_left asked image =
    c.with_rows-image.ensures ∙ ap (λ (rs : List ImageRow). record image { header = record image.header { rows = length rs }; rows = rs }) left in
    subst (λ (e : EarlierFields). AllByRecursion (λ row. ObjectStandsBy e.version (used_in e.frames) row e.clock) e.rows) (sym same) source.of.stand.objects
