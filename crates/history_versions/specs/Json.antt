-- A version as programs read it.
use Rattle.std.specs.Prelude.{ℕ, List, Option, Some, None, codes}
use Rattle.hex.specs.Hex.{encode_lower}
use Rattle.serde_json.specs.Data.{Data, Members, number, unsigned, string, object, member, no_members, put}
use Rattle.moment_words.specs.declared.printing.MomentStyle.{MomentStyle}
use Rattle.history_text.specs.Json.{time_data}
use Rattle.history_versions.specs.declared.json.VersionNumbers.{VersionNumbers}

-- the members, with the contents in hex where these are asked for
abbrev pub with_contents : Option (List ℕ) → Members → Members
with_contents None members = members
with_contents (Some bytes) members = put (codes "contents") (string (encode_lower bytes)) members

-- a version: the attribute in hex, when the object was changed to it, the contents in hex where they are asked for, the first moment at
-- which it can be read, and the size in bytes; both moments also as dates where moments are dates
abbrev pub version_data : MomentStyle → VersionNumbers → List ℕ → Option (List ℕ) → Data
version_data style n attribute contents =
    object (with_contents contents
    (member (codes "attribute") (string (encode_lower attribute))
    (member (codes "changed") (number (unsigned n.changed))
    (member (codes "changed_time") (time_data style n.changed)
    (member (codes "moment") (number (unsigned n.moment))
    (member (codes "size") (number (unsigned n.size))
    (member (codes "time") (time_data style n.moment) no_members)))))))
