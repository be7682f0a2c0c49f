-- The texts of versions.
use Rattle.std.proofs.Common.{◌≡◌, ◌≢◌, ◌∙◌, ℕ, Bool, true, false, List, length, Option, Some, None, refl, sym, ap}
use Rattle.serde_json.specs.Written.{has_float, compact_text}
use Rattle.s4_types.specs.declared.versions.Version.{Version}
use Rattle.s4_types.specs.declared.versions.Version.TheVariants.{Absent, Live}
use Rattle.moment_words.specs.declared.printing.MomentStyle.{MomentStyle}
use Rattle.moment_words.specs.declared.printing.MomentStyle.TheVariants.{Number, Date}
use Rattle.history_view.specs.declared.listing.Listed.{Listed}
use Rattle.history_view.specs.Listing.{TellsVersion}
use Rattle.history_versions.specs.declared.json.VersionNumbers.{VersionNumbers}
use Rattle.history_versions.specs.Json.{version_data}
use Rattle.history_versions.specs.Lines.{numbers_of, version_text}

-- no number of a version has a fraction
pub no_floats : (style : MomentStyle) (n : VersionNumbers) (attribute : List ℕ) (contents : Option (List ℕ)) → has_float (version_data style n attribute contents) ≡ false
no_floats Number n attribute None = refl
no_floats Number n attribute (Some bytes) = refl
no_floats Date n attribute None = refl
no_floats Date n attribute (Some bytes) = refl

-- what is listed of a live object makes the text of its version
pub live_text : (style : MomentStyle) (t : ℕ) (v : Version) (row : Listed) → TellsVersion v row → row.is_live ≡ true → Some (compact_text (version_data style (numbers_of t row) row.attribute None)) ≡ version_text style false t v
live_text style t Absent row tells live = absurd (tells live)
live_text style t (Live content attribute created changed) row tells live =
    ap (λ n. Some (compact_text (version_data style (record { moment = t; changed = row.changed; size = n }) row.attribute None))) tells.1
    ∙ ap (λ m. Some (compact_text (version_data style (record { moment = t; changed = m; size = length content }) row.attribute None))) tells.3
    ∙ ap (λ a. Some (compact_text (version_data style (record { moment = t; changed = changed; size = length content }) a None))) tells.4

-- an object of which nothing is listed, or which isn't live, has none
pub no_text : (style : MomentStyle) (contents : Bool) (t : ℕ) (v : Version) → v ≡ Absent → version_text style contents t v ≡ None
no_text style contents t v absent = ap (version_text style contents t) absent

pub dead_is_absent : (v : Version) (row : Listed) → TellsVersion v row → row.is_live ≢ true → v ≡ Absent
dead_is_absent Absent row tells dead = refl
dead_is_absent (Live content attribute created changed) row tells dead = absurd (dead tells.0)
