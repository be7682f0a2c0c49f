-- What a version has, apart from its moments.
use Rattle.std.specs.Prelude.{ℕ, List, []}
use Rattle.s4_types.specs.declared.versions.Version.{Version}
use Rattle.s4_types.specs.declared.versions.Version.TheVariants.{Absent, Live}

-- the bytes of a version; none where the object isn't there
abbrev pub content_of : Version → List ℕ
content_of Absent = []
content_of (Live content attribute created changed) = content

-- the attribute of a version; none where the object isn't there
abbrev pub attribute_of : Version → List ℕ
attribute_of Absent = []
attribute_of (Live content attribute created changed) = attribute
