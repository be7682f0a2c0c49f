-- An attribute that is cut out of its ATTRIBUTE_BYTES tells them.
use Rattle.std.specs.Prelude.{◌≡◌, ℕ, ◌≤◌, List, length, take}
use Rattle.std.proofs.Common.{refl, arith}
use Rattle.std.proofs.lemmas.List.{length-take}
use Rattle.codec.specs.Fields.{padded}
use Rattle.codec.specs.declared.attributes.Attribute.TheInside.{Inside}

abbrev pub again : List ℕ → Inside
again xs = record { len = length xs; bytes = padded xs }

pub cut_padded : (a : Inside) → (a.len ≤ 64) × ((length a.bytes ≡ 64) × (padded (take a.len a.bytes) ≡ a.bytes)) → again (take a.len a.bytes) ≡ a
cut_padded a h =
    let len : length (take a.len a.bytes) ≡ a.len = omega (arith, length-take a.len a.bytes, h.0, h.1.0) in
    rw (len, h.1.1) refl
