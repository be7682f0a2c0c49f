-- Objects that stay there, within the limits.
use Rattle.std.proofs.Common.{◌≡◌, ◌∙◌, ◌-◌, ◌≤◌, ℕ, false, List, [], ◌∷◌, length, Option, None, Some, refl, ap, arith}
use Rattle.std.specs.Prelude.{is_none}
use Rattle.std.proofs.lemmas.Bool.{true≢false}
use Rattle.s4_types.specs.declared.limits.TheConstants.{OBJECT_BYTES, ATTRIBUTE_BYTES}
use Rattle.s4_types.specs.declared.versions.Version.{Version}
use Rattle.s4_types.specs.declared.versions.Version.TheVariants.{Absent, Live}
use Rattle.s4_model.specs.Limits.{IsWithinLimits}
use Rattle.s4_model.specs.Refusals.{is_absent}
use Rattle.history_view.specs.Contents.{attribute_of, content_of as bytes_of}
use Rattle.block_runs.specs.declared.running.Run.{Run}
use Rattle.s4_model.specs.Effect.{written}
use Rattle.s4_model.specs.Step.{part}
use Rattle.history_restore.specs.Content.{content_of, holding}
use Rattle.history_restore.specs.Plans.{cut_by, runs_by}

-- an object is there where it has a content
absent_by_content : (v : Version) → is_absent v ≡ is_none (content_of v)
absent_by_content Absent = refl
absent_by_content (Live bytes attribute created changed) = refl

-- so one that is cut stays there
cut_there : (size : Option ℕ) (o moment : ℕ) (v : Version) → is_absent v ≡ false → is_none (content_of (cut_by size o moment v)) ≡ false
cut_there size o moment Absent there = absurd (true≢false there)
cut_there None o moment (Live bytes attribute created changed) there = refl
cut_there (Some size) o moment (Live bytes attribute created changed) there = refl

pub there_after_cut : (size : Option ℕ) (o moment : ℕ) (v w : Version) → content_of w ≡ content_of (cut_by size o moment v) → is_absent v ≡ false → is_absent w ≡ false
there_after_cut size o moment v w same there = absent_by_content w ∙ ap is_none same ∙ cut_there size o moment v there

-- one that has bytes is there
pub there_with : (v : Version) (bytes attribute : List ℕ) → content_of v ≡ holding bytes attribute → is_absent v ≡ false
there_with v bytes attribute has = absent_by_content v ∙ ap is_none has

-- and one that runs are written to
runs_there : (bytes : List ℕ) (rs : List Run) (o moment : ℕ) (v : Version) → is_absent v ≡ false → is_none (content_of (runs_by bytes rs o moment v)) ≡ false
runs_there bytes rs o moment Absent there = absurd (true≢false there)
runs_there bytes [] o moment (Live content attribute created changed) there = refl
runs_there bytes (r ∷ rs) o moment (Live content attribute created changed) there = runs_there bytes rs o moment (Live (written r.offset (part bytes r.offset (r.end - r.offset)) content) attribute created moment) refl

pub there_after_runs : (bytes : List ℕ) (rs : List Run) (o moment : ℕ) (v w : Version) → content_of w ≡ content_of (runs_by bytes rs o moment v) → is_absent v ≡ false → is_absent w ≡ false
there_after_runs bytes rs o moment v w same there = absent_by_content w ∙ ap is_none same ∙ runs_there bytes rs o moment v there

-- the bytes and the attribute of a version within the limits
pub bytes_fit : (v : Version) → IsWithinLimits v → length (bytes_of v) ≤ OBJECT_BYTES
bytes_fit Absent fits = omega arith
bytes_fit (Live bytes attribute created changed) fits = fits.0

pub attribute_fits : (v : Version) → IsWithinLimits v → length (attribute_of v) ≤ ATTRIBUTE_BYTES
attribute_fits Absent fits = omega arith
attribute_fits (Live bytes attribute created changed) fits = fits.1
