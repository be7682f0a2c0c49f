-- What is read of an image and of the log that is beside it.
use Rattle.std.specs.Prelude.{ℕ, ◌-◌, List, [], ◌∷◌, length, take, drop, if◌then◌else◌, Option, Some, None}
use Rattle.std.specs.Str.{bytes_eq}
use Rattle.image_update.specs.declared.refusals.Unread.{Unread}
use Rattle.image_update.specs.Changes.{patched}
use Rattle.image_update.specs.Encoding.{changes_in, fault_of}

-- an image without its digest, which are its last 32 bytes
abbrev pub front_of : List ℕ → List ℕ
front_of image = take (length image - 32) image

-- the digest that an image ends with
abbrev pub digest_of : List ℕ → List ℕ
digest_of image = drop (length image - 32) image

-- the front that a record makes of one, where this is why it encodes no difference; none where it encodes none, or one of another front
abbrev pub made_unless : Option Unread → (payload front : List ℕ) → Option (List ℕ)
made_unless None payload front = patched (changes_in payload) front
made_unless (Some fault) payload front = None

-- the front that a record makes of one
abbrev pub made : (payload front : List ℕ) → Option (List ℕ)
made payload front = made_unless (fault_of payload) payload front

-- what records make of a front, one after the other
abbrev pub followed : List (List ℕ) → Option (List ℕ) → Option (List ℕ)
followed [] front = front
followed (payload ∷ payloads) None = None
followed (payload ∷ payloads) (Some front) = followed payloads (made payload front)

-- The front that is read of an image and of a log that is bound to an image by its digest: what the records make of the image's, where it
-- is that image; else the image's alone. None where a record makes none.
abbrev pub read_of : (image bound : List ℕ) → (payloads : List (List ℕ)) → Option (List ℕ)
read_of image bound payloads = if bytes_eq bound (digest_of image) then followed payloads (Some (front_of image)) else Some (front_of image)
