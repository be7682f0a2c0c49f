-- What was laid out of the rows that stay is a copy.
use Rattle.std.proofs.Common.{inl, inr, ◌≡◌, ℕ, ◌<◌, ◌≤◌, ◌==◌, if◌then◌else◌, List, [], ◌∷◌, length, Option, Some, refl, sym, ap, subst, ◌∙◌, arith}
use Rattle.std.specs.Prelude.{unwrap_or}
use Rattle.s4_types.specs.Pointer.{Place}
use Rattle.s4_types.specs.declared.refusals.Cause.{Cause}
use Rattle.s4_model.specs.Audit.{AreAuditRows}
use Rattle.block_log.specs.Log.{Stored}
use Rattle.codec.specs.Entry.{EntryFields}
use Rattle.codec.specs.declared.inodes.Inode.{Inode}
use Rattle.codec.specs.declared.versions.ImageVersion.{ImageVersion}
use Rattle.codec.specs.declared.versions.ImageVersion.TheVariants.{Second}
use Rattle.undo_redo.specs.Runs.{inode_after}
use Rattle.segment_table.specs.Used.{used_at}
use Rattle.image_parts.specs.declared.marks.ImageMark.TheVariants.{Third}
use Rattle.image_parts.specs.Causes.{FirstSplitCause}
use Rattle.image_parts.specs.Image.{Image}
use Rattle.image_objects.specs.declared.rows.ImageRow.{ImageRow}
use Rattle.image_objects.specs.Inodes.{first_used}
use Rattle.image_objects.specs.Objects.{inode_used}
use Rattle.image_objects.specs.Versions.{entries_used_by, inode_used_by}
use Rattle.image_objects.proofs.Seconds.{same_entries, same_first}
use Rattle.version_store.specs.Versions.{version_by}
use Rattle.verifier.specs.Grammar.{FirstFault, SpellsDrive}
use Rattle.verifier.specs.Opened.{inode_of_rows, version_of_rows}
use Rattle.earlier_images.specs.Images.{EarlierFields, IsEarlierOf}
use Rattle.earlier_images.specs.Used.{used_in}
use Rattle.migration.specs.declared.copying.CopyAsked.{CopyAsked}
use Rattle.migration.specs.Migrated.{inode_of_earlier, version_of_earlier}
use Rattle.migration.specs.Copies.{Copies, IsTooMuchToCopy, frames_allowed, frames_copied, rows_left, stays}
use Rattle.migration.specs.private.Left.{with_left, with_parts_left}
use Rattle.migration.specs.private.Written.{IsLaid, IsSource, MayHaveAudit}
use Rattle.migration.proofs.Done.{OneRead, ReadAgain, are_then, written}
use Rattle.migration.proofs.Left.{few_left, source_left}
use Rattle.migration.proofs.Then.{Laws, same_versions}
use Rattle.migration.proofs.Whole.{as_many_rows, as_many_then, image_written}

-- ---- versions, as rows of the second version have them

second_inode : (used : Place → Option Stored) (row : ImageRow) (t : ℕ) → inode_used_by Second used row t ≡ inode_used used row t
second_inode used row t =
    ap (λ (i : Inode). inode_after i (entries_used_by Second used row) t) (same_first used row)
    ∙ ap (λ (es : List EntryFields). inode_after (first_used used row) es t) (same_entries used row)

second_inodes : (used : Place → Option Stored) (rows : List ImageRow) (o t : ℕ) → inode_of_earlier Second used rows o t ≡ inode_of_rows used rows o t
second_inodes used [] o t = refl
second_inodes used (row ∷ rows) o t =
    ap (λ (i : Inode). if row.object == o then Some i else inode_of_earlier Second used rows o t) (second_inode used row t)
    ∙ ap (λ (rest : Option Inode). if row.object == o then Some (inode_used used row t) else rest) (second_inodes used rows o t)

second_version : (v : ImageVersion) (used : Place → Option Stored) (rows : List ImageRow) (o t : ℕ) → v ≡ Second → version_of_earlier v used rows o t ≡ version_of_rows used rows o t
second_version v used rows o t is = subst (λ (w : ImageVersion). version_of_earlier w used rows o t ≡ version_of_rows used rows o t) (sym is) (ap (version_by used) (second_inodes used rows o t))

-- ---- bytes that have no parts

-- what can't be split into parts is refused by all tests of an image, for the same cause
pub split_fault : (bytes : List ℕ) (cause : Cause) → FirstSplitCause bytes (Some cause) → FirstFault bytes (Some cause)
split_fault bytes cause (inl bad) = inl bad
split_fault bytes cause (inr (long, inl bad)) = inr (long, inl bad)
split_fault bytes cause (inr (long, inr (header, inl bad))) = inr (long, inr (header, inl bad))
split_fault bytes cause (inr (long, inr (header, inr (filled, none)))) = absurd cc

-- ---- the copy

pub source_of : (bytes : List ℕ) (was : Image) (image : EarlierFields) → SpellsDrive bytes was → IsEarlierOf Second was image → IsSource Third was image
source_of bytes was image read of = record { is = read.parts.is; rules = read.parts.rules; of = of }

may_have : (asked : CopyAsked) (bytes : List ℕ) (was : Image) (image : EarlierFields) → SpellsDrive bytes was → IsEarlierOf Second was image → MayHaveAudit (with_left asked image) was.audit
may_have asked bytes was image read of = record {
  are = read.parts.is.audit;
  count = read.parts.is.audit_count;
  rows = read.audit.rows;
  spelled = read.audit.spelled;
  kept = subst (λ n. AreAuditRows n image.clock image.next read.audit.rows) (sym of.floor)
      (subst (λ n. AreAuditRows was.floor n image.next read.audit.rows) (sym of.clock)
      (subst (λ n. AreAuditRows was.floor was.clock n read.audit.rows) (sym of.next) read.audit.kept));
}

pub copies : Laws → (asked : CopyAsked) (bytes new : List ℕ) (was : Image) (image : EarlierFields) → SpellsDrive bytes was → IsEarlierOf Second was image → frames_copied asked image ≤ frames_allowed asked
    → IsLaid (with_left asked image) was.audit (unwrap_or asked.frames (length image.frames)) new → Copies asked bytes new
copies laws asked bytes new was image read of fits laid =
    let left : EarlierFields = with_left asked image in
    let frames : ℕ = unwrap_or asked.frames (length image.frames) in
    let source : IsSource Third (with_parts_left asked was) left = source_left asked was image (source_of bytes was image read of) in
    record {
      was = was;
      read = read;
      is = image_written left was.audit laid.parts.frames laid.parts.parts;
      written = written laws Third (with_parts_left asked was) left was.audit frames new source (may_have asked bytes was image read of) laid;
      clock = of.clock;
      window = of.window;
      floor = of.floor;
      next = of.next;
      spans = of.spans;
      audit = refl;
      image = image;
      of = of;
      table = laid.t;
      frames = laid.parts.table;
      laters = laid.laters;
      rows = laid.parts.rows.spelled;
      fewer =
          let most = as_many_then laid.parts.parts (rows_left asked image.rows) laid.laters laid.parts.rows.spelled in
          let fewer = few_left (λ (row : ImageRow). stays asked row.object row.created) image.rows in
          let same = as_many_rows was.rows image.rows of.spelled in
          omega (arith, most, fewer, same);
      versions = λ o time. same_versions image.version (used_in image.frames) (used_at laid.t) (rows_left asked image.rows) laid.laters image.clock o time (are_then laws Third (with_parts_left asked was) left was.audit frames new source laid)
          ∙ second_version image.version (used_in image.frames) (rows_left asked image.rows) o time of.version_is;
      copied = laid.copied;
      filled = laid.filled;
      fits = fits;
    }

pub no_more : ReadAgain → OneRead → (asked : CopyAsked) (bytes : List ℕ) (was : Image) (image : EarlierFields) → SpellsDrive bytes was → IsEarlierOf Second was image → frames_copied asked image ≤ frames_allowed asked → IsTooMuchToCopy asked bytes → ⊥
no_more again one asked bytes was image read of few too =
    let same : too.was ≡ was = sym (again Third bytes too.was too.read.parts) ∙ again Third bytes was read.parts in
    let is : too.image ≡ image = one Second was too.image image (subst (λ (w : Image). IsEarlierOf Second w too.image) same too.of) of in
    let many : frames_allowed asked < frames_copied asked image = subst (λ (e : EarlierFields). frames_allowed asked < frames_copied asked e) is too.many in
    omega (arith, many, few)
