-- What the header of an image begins with, and what follows from it.
use Rattle.std.specs.Prelude.{◌≡◌, ℕ, ◌==◌, if◌then◌else◌, List, slice_index}
use Rattle.codec.specs.declared.versions.ImageVersion.{ImageVersion}
use Rattle.codec.specs.declared.versions.ImageVersion.TheVariants.{First, Second}
use Rattle.image_parts.specs.declared.marks.ImageMark.{ImageMark}
use Rattle.image_parts.specs.declared.marks.ImageMark.TheVariants.{Earlier, Third}

-- the version by which the records of such an image are encoded
abbrev pub records_of : ImageMark → ImageVersion
records_of (Earlier version) = version
records_of Third = Second

-- the last byte of the mark: its digit
abbrev pub digit_of : ImageMark → ℕ
digit_of (Earlier First) = 0x31
digit_of (Earlier Second) = 0x32
digit_of Third = 0x33

-- such an image can have this many audit rows
abbrev pub IsAuditCount : ImageMark → ℕ → Type 0
IsAuditCount (Earlier version) count = count ≡ 0
IsAuditCount Third count = Unit {0}

-- the earlier version whose digit bytes have in its place, and the second where they have neither's
abbrev pub earlier_in : List ℕ → ImageVersion
earlier_in bytes = if slice_index bytes 7 == 0x31 then First else Second
