-- No line has a float.
use Rattle.std.proofs.Common.{◌≡◌, ◌||◌, ℕ, Bool, true, false, List, [], ◌∷◌, map, Option, Some, None, refl, ap₂}
use Rattle.serde_json.specs.View.{items_of}
use Rattle.serde_json.specs.Written.{has_float, items_have_float, members_have_float}
use Rattle.history_diff.specs.declared.ranges.ByteRange.{ByteRange}
use Rattle.history_diff.specs.declared.differences.AttributePair.{AttributePair}
use Rattle.history_diff.specs.Differences.{Told}
use Rattle.history_diff.specs.declared.texts.Detail.{Detail}
use Rattle.history_diff.specs.declared.texts.Detail.TheVariants.{Ranges, Bytes, Lines}
use Rattle.history_diff.specs.Json.{range_data, ranges_data, text_members, difference_data}

no_float_in_range : (patch : Bool) (before after : List ℕ) (range : ByteRange) → has_float (range_data patch before after range) ≡ false
no_float_in_range true before after range = refl
no_float_in_range false before after range = refl

none_in_ranges : (patch : Bool) (before after : List ℕ) (ranges : List ByteRange) → items_have_float (items_of (map (range_data patch before after) ranges)) ≡ false
none_in_ranges patch before after [] = refl
none_in_ranges patch before after (range ∷ ranges) = ap₂ (λ (x y : Bool). x || y) (no_float_in_range patch before after range) (none_in_ranges patch before after ranges)

none_behind : (detail : Detail) (text : Option (List ℕ)) → members_have_float (text_members detail text) ≡ false
none_behind Ranges text = refl
none_behind Bytes text = refl
none_behind Lines None = refl
none_behind Lines (Some text) = refl

no_float_with : (pair : Option AttributePair) (o : ℕ) (patch : Bool) (before after : List ℕ) (ranges : List ByteRange) (detail : Detail) (text : Option (List ℕ)) (told : Told)
    → has_float (difference_data o (ranges_data patch before after ranges) (text_members detail text) (record told { attributes = pair })) ≡ false
no_float_with None o patch before after ranges detail text told = ap₂ (λ (x y : Bool). x || y) (none_in_ranges patch before after ranges) (none_behind detail text)
no_float_with (Some pair) o patch before after ranges detail text told = ap₂ (λ (x y : Bool). x || y) (none_in_ranges patch before after ranges) (none_behind detail text)

pub no_float : (o : ℕ) (patch : Bool) (before after : List ℕ) (ranges : List ByteRange) (detail : Detail) (text : Option (List ℕ)) (told : Told)
    → has_float (difference_data o (ranges_data patch before after ranges) (text_members detail text) told) ≡ false
no_float o patch before after ranges detail text told = no_float_with told.attributes o patch before after ranges detail text told
