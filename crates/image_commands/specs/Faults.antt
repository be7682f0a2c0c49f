-- What a fault says, and what it leaves.
use Rattle.std.specs.Prelude.{◌≡◌, ◌⊎◌, ◌+◌, ℕ, List, Option, ⊤, string_bytes}
use Rattle.s4_types.specs.declared.refusals.Cause.{Cause}
use Rattle.s4_types.specs.declared.refusals.Cause.TheVariants.{Length}
use Rattle.s4_types.specs.declared.refusals.Refusal.{Refusal}
use Rattle.s4_types.specs.declared.refusals.Refusal.TheVariants.{Busy, Damaged, NoMemory}
use Rattle.image_commands.specs.declared.verifying.Asked.{Asked}
use Rattle.image_commands.specs.declared.faults.Fault.{Fault}
use Rattle.image_commands.specs.declared.faults.Fault.TheVariants.{CannotRead, CannotWrite, HasBytes, KeptIn, Refused, WriteFailed}
use Rattle.image_commands.specs.Files.{AreKnown, HasSome}
use Rattle.image_commands.specs.Making.{HasNew}
use Rattle.image_commands.specs.Verifying.{IsDamaged, IsOverlong, IsUnsplit}

-- where a fault names the file that has the new image, that has these bytes
abbrev pub KeepsNew : (List ℕ → Option (List ℕ)) → List ℕ → Fault → Type 0
KeepsNew files bytes (KeptIn path obstacle kept) = AreKnown (files (string_bytes kept)) bytes
KeepsNew files bytes _ = ⊤

-- where a fault names the file that has the image of a new drive, that has one
abbrev pub KeepsMade : (frames window : ℕ) → (List ℕ → Option (List ℕ)) → Fault → Type 0
KeepsMade frames window files (KeptIn path obstacle kept) = HasNew frames window (files (string_bytes kept))
KeepsMade frames window files _ = ⊤

-- a refusal says that bytes are damaged, and so they are, for this cause first, where they are known
abbrev pub SaysDamaged : Option (List ℕ) → Refusal → Type 0
SaysDamaged known (Damaged cause) = IsDamaged known cause
SaysDamaged known _ = ⊥

-- why a file can't be read, where it can't: or memory was short
abbrev pub SaysUnreadable : (file : List ℕ) → Fault → Type 0
SaysUnreadable file (Refused refusal) = refusal ≡ NoMemory
SaysUnreadable file (CannotRead path obstacle) = path.now ≡ file
SaysUnreadable file _ = ⊥

-- why a file can't be written, where it can't: or memory was short
abbrev pub SaysUnwritable : (file : List ℕ) → Fault → Type 0
SaysUnwritable file (Refused refusal) = refusal ≡ NoMemory
SaysUnwritable file (CannotWrite path obstacle) = path.now ≡ file
SaysUnwritable file _ = ⊥

-- why there is no place for a new image: what is there has bytes, or it can't be written; or memory was short
abbrev pub SaysNoPlace : Option (List ℕ) → (image : List ℕ) → Fault → Type 0
SaysNoPlace known image (Refused refusal) = refusal ≡ NoMemory
SaysNoPlace known image (HasBytes path) = (path.now ≡ image) × HasSome known
SaysNoPlace known image (CannotWrite path obstacle) = path.now ≡ image
SaysNoPlace known image _ = ⊥

-- why an image isn't in its place: that can't be written, and the image may be in another file; or memory was short
abbrev pub SaysUnplaced : (image : List ℕ) → Fault → Type 0
SaysUnplaced image (Refused refusal) = refusal ≡ NoMemory
SaysUnplaced image (CannotWrite path obstacle) = path.now ≡ image
SaysUnplaced image (KeptIn path obstacle kept) = path.now ≡ image
SaysUnplaced image _ = ⊥

-- Why no image was read, by what is known of its file: it can't be read; its bytes are damaged; or memory was short.
abbrev pub SaysUnread : Option (List ℕ) → (image : List ℕ) → Fault → Type 0
SaysUnread known image (Refused refusal) = (refusal ≡ NoMemory) ⊎ SaysDamaged known refusal
SaysUnread known image (CannotRead path obstacle) = path.now ≡ image
SaysUnread known image _ = ⊥

-- Why the bytes of a file aren't read that may be an image of a version: it can't be read; they can't be split into the parts of one; or
-- memory was short.
abbrev pub SaysUnsplit : Asked → Option (List ℕ) → (image : List ℕ) → Fault → Type 0
SaysUnsplit asked known image (Refused refusal) = (refusal ≡ NoMemory) ⊎ ((cause : Cause) × (refusal ≡ Damaged cause) × IsUnsplit asked known cause)
SaysUnsplit asked known image (CannotRead path obstacle) = path.now ≡ image
SaysUnsplit asked known image _ = ⊥

-- Why the bytes of a file aren't read, whatever they are: it can't be read; they are too many; or memory was short.
abbrev pub SaysOverlong : Option (List ℕ) → (file : List ℕ) → Fault → Type 0
SaysOverlong known file (Refused refusal) = (refusal ≡ NoMemory) ⊎ ((refusal ≡ Damaged Length) × IsOverlong known)
SaysOverlong known file (CannotRead path obstacle) = path.now ≡ file
SaysOverlong known file _ = ⊥

-- Why an output has not all that it is to have: it failed once more.
abbrev pub SaysUnwritten : (failures failures' : ℕ) → Fault → Type 0
SaysUnwritten failures failures' WriteFailed = failures' ≡ failures + 1
SaysUnwritten failures failures' _ = ⊥

-- Why no line of an image was written.
abbrev pub SaysUnverified : Option (List ℕ) → (image : List ℕ) → (failures failures' : ℕ) → Fault → Type 0
SaysUnverified known image failures failures' fault = SaysUnread known image fault ⊎ SaysUnwritten failures failures' fault

-- Why no file has the image of a new drive, by what was known of it: it has bytes, which such an image would wipe; it can't be written or
-- replaced; memory was short, or a count was full.
abbrev pub SaysUnmade : Option (List ℕ) → (image : List ℕ) → Fault → Type 0
SaysUnmade known image (Refused refusal) = (refusal ≡ NoMemory) ⊎ (refusal ≡ Busy)
SaysUnmade known image (HasBytes path) = (path.now ≡ image) × HasSome known
SaysUnmade known image (CannotWrite path obstacle) = path.now ≡ image
SaysUnmade known image (KeptIn path obstacle kept) = path.now ≡ image
SaysUnmade known image _ = ⊥
