-- What was laid out is the image that an old one becomes.
use Rattle.std.proofs.Common.{◌≡◌, ℕ, suc, ◌<◌, ◌≤◌, List, [], ◌∷◌, length, refl, sym, ap, subst, ◌∙◌, arith}
use Rattle.std.specs.List.{AllByRecursion}
use Rattle.s4_types.specs.declared.limits.TheConstants.{MOST_FRAMES}
use Rattle.codec.specs.declared.versions.ImageVersion.{ImageVersion}
use Rattle.image_parts.specs.declared.audit.AuditPart.{AuditPart}
use Rattle.image_parts.specs.declared.marks.ImageMark.{ImageMark}
use Rattle.image_parts.specs.declared.marks.ImageMark.TheVariants.{Earlier}
use Rattle.image_parts.specs.Marks.{earlier_in}
use Rattle.time_read.specs.Orderly.{IsFromTo}
use Rattle.segment_table.specs.Room.{log_of}
use Rattle.segment_table.specs.Used.{used_at}
use Rattle.image_parts.specs.Frames.{FrameFields}
use Rattle.image_parts.specs.Image.{Image, SpellsImageBy, header_of, image_in}
use Rattle.verifier.specs.Grammar.{SpellsDrive}
use Rattle.earlier_images.specs.declared.frames.EarlierFrame.{EarlierFrame}
use Rattle.earlier_images.specs.Grammar.{SpellsEarlier}
use Rattle.earlier_images.specs.Images.{EarlierFields, IsEarlierOf}
use Rattle.earlier_images.specs.Used.{AreFramesOf, used_in}
use Rattle.migration.specs.Frames.{frames_needed, fresh_log}
use Rattle.migration.specs.Rows.{AscendAbove, blocks_of_rows}
use Rattle.migration.specs.Migrated.{IsTooMuch, LaysOut, Migrates, frames_then, rows_then}
use Rattle.migration.specs.private.Written.{IsLaid, IsSource, MayHaveAudit}
use Rattle.migration.proofs.Then.{AreThen, Laws, all_then, rows_stand, same_versions}
use Rattle.migration.proofs.Whole.{image_written, rows_ascend, spells}

pub as_many_frames : (parts : List FrameFields) (frames : List EarlierFrame) → AreFramesOf parts frames → length frames ≡ length parts
as_many_frames [] [] are = refl
as_many_frames [] (k ∷ frames) are = absurd are
as_many_frames (f ∷ parts) [] are = absurd are
as_many_frames (f ∷ parts) (k ∷ frames) are = ap suc (as_many_frames parts frames are.1)

pub old_frames : (mark : ImageMark) (was : Image) (old : EarlierFields) → IsSource mark was old → length old.frames ≤ MOST_FRAMES
old_frames mark was old source =
    let most = source.rules.header.frames.1 in
    omega (arith, most, as_many_frames was.frames old.frames source.of.frames)

pub old_rows : (mark : ImageMark) (was : Image) (old : EarlierFields) → IsSource mark was old → AscendAbove 0 old.rows × AllByRecursion (λ row. IsFromTo 1 old.clock row.created) old.rows
old_rows mark was old source =
    let both = rows_ascend (header_of was) 0 0 0 0 was.rows old.rows refl refl source.rules.rows source.of.spelled in
    (both.0, subst (λ k. AllByRecursion (λ row. IsFromTo 1 k row.created) old.rows) (sym source.of.clock) both.1)

-- ---- what was laid out

pub are_then : Laws → (mark : ImageMark) (was : Image) (old : EarlierFields) (audit : List AuditPart) (frames : ℕ) (new : List ℕ) → IsSource mark was old → (laid : IsLaid old audit frames new)
    → AreThen old.version (used_in old.frames) (used_at laid.t) old.rows laid.laters old.clock
are_then laws mark was old audit frames new source laid =
    all_then old.version laws (used_in old.frames) (used_at laid.t) old.rows laid.laters (fresh_log (frames_needed frames (blocks_of_rows old.version (used_in old.frames) old.rows))) (log_of laid.t) old.clock
    source.of.stand.objects (old_rows mark was old source).1 laid.used laid.copied

pub written : Laws → (mark : ImageMark) (was : Image) (old : EarlierFields) (audit : List AuditPart) (frames : ℕ) (new : List ℕ) → IsSource mark was old → MayHaveAudit old audit → (laid : IsLaid old audit frames new)
    → SpellsDrive new (image_written old audit laid.parts.frames laid.parts.parts)
written laws mark was old audit frames new source may laid =
    let are = are_then laws mark was old audit frames new source laid in
    spells mark new was old audit laid.t laid.laters source may laid.count are (rows_stand old.version laws (used_in old.frames) (used_at laid.t) old.rows laid.laters old.clock are source.of.stand.apart) laid.parts

-- ---- of an image of an earlier version

pub source_of : (bytes : List ℕ) (was : Image) (old : EarlierFields) → SpellsEarlier bytes was → IsEarlierOf (earlier_in bytes) was old → IsSource (Earlier (earlier_in bytes)) was old
source_of bytes was old read of = record { is = read.parts.is; rules = read.parts.rules; of = of }

no_audit : (old : EarlierFields) → MayHaveAudit old []
no_audit old = record { are = tt; count = omega arith; rows = []; spelled = refl; kept = record { each = tt; ascend = tt } }

pub migrates : Laws → (bytes new : List ℕ) (was : Image) (old : EarlierFields) → SpellsEarlier bytes was → IsEarlierOf (earlier_in bytes) was old → IsLaid old [] (length old.frames) new → Migrates bytes new
migrates laws bytes new was old read of laid =
    let source = source_of bytes was old read of in
    record {
      was = was;
      read = read;
      is = image_written old [] laid.parts.frames laid.parts.parts;
      written = written laws (Earlier (earlier_in bytes)) was old [] (length old.frames) new source (no_audit old) laid;
      clock = of.clock;
      window = of.window;
      floor = of.floor;
      next = of.next;
      spans = of.spans;
      audit = refl;
      earlier = old;
      of = of;
      table = laid.t;
      frames = laid.parts.table;
      rows = rows_then old.rows laid.laters;
      spelled = laid.parts.rows.spelled;
      versions = λ o time. same_versions old.version (used_in old.frames) (used_at laid.t) old.rows laid.laters old.clock o time (are_then laws (Earlier (earlier_in bytes)) was old [] (length old.frames) new source laid);
    }

pub lays_out : Laws → (bytes new : List ℕ) (was : Image) (old : EarlierFields) → SpellsEarlier bytes was → IsEarlierOf (earlier_in bytes) was old → IsLaid old [] (length old.frames) new → LaysOut bytes new
lays_out laws bytes new was old read of laid = record {
  was = was;
  read = read;
  is = image_written old [] laid.parts.frames laid.parts.parts;
  written = written laws (Earlier (earlier_in bytes)) was old [] (length old.frames) new (source_of bytes was old read of) (no_audit old) laid;
  earlier = old;
  of = of;
  table = laid.t;
  frames = laid.parts.table;
  laters = laid.laters;
  rows = laid.parts.rows.spelled;
  copied = laid.copied;
  filled = laid.filled;
}

-- an old image is read once
abbrev pub OneRead : Type 0
OneRead = (version : ImageVersion) (parts : Image) (image other : EarlierFields) → IsEarlierOf version parts image → IsEarlierOf version parts other → image ≡ other

abbrev pub ReadAgain : Type 0
ReadAgain = (mark : ImageMark) (bytes : List ℕ) (image : Image) → SpellsImageBy mark bytes image → image_in bytes ≡ image

pub no_more : ReadAgain → OneRead → (bytes : List ℕ) (was : Image) (earlier : EarlierFields) → SpellsEarlier bytes was → IsEarlierOf (earlier_in bytes) was earlier → frames_then earlier ≤ MOST_FRAMES → IsTooMuch bytes → ⊥
no_more again one bytes was earlier read of few too =
    let same : too.was ≡ was = sym (again (Earlier (earlier_in bytes)) bytes too.was too.read.parts) ∙ again (Earlier (earlier_in bytes)) bytes was read.parts in
    let image : too.earlier ≡ earlier = one (earlier_in bytes) was too.earlier earlier (subst (λ (w : Image). IsEarlierOf (earlier_in bytes) w too.earlier) same too.of) of in
    let many : MOST_FRAMES < frames_then earlier = subst (λ (e : EarlierFields). MOST_FRAMES < frames_then e) image too.many in
    omega (arith, many, few)
