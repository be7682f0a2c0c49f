-- What an object is apart from its moments: its bytes and its attribute.
use Rattle.std.specs.Prelude.{ℕ, List, Option, None, Some}
use Rattle.s4_types.specs.declared.versions.Version.{Version}
use Rattle.s4_types.specs.declared.versions.Version.TheVariants.{Absent, Live}

-- what an object has
pub record Content : Type 0 where
  pub bytes : List ℕ
  pub attribute : List ℕ

-- these bytes and this attribute
abbrev pub holding : List ℕ → List ℕ → Option Content
holding bytes attribute = Some (record { bytes = bytes; attribute = attribute })

-- what a version has; none where the object isn't there
abbrev pub content_of : Version → Option Content
content_of Absent = None
content_of (Live bytes attribute created changed) = holding bytes attribute

-- the moment of a version's last change
abbrev pub changed_in : Version → ℕ
changed_in Absent = 0
changed_in (Live bytes attribute created changed) = changed
