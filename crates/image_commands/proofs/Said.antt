-- What a fault says, from what less of it says.
use Rattle.std.proofs.Common.{◌≡◌, ◌⊎◌, ℕ, List, Option, inl, inr, sym, subst}
use Rattle.s4_types.specs.History.{Base}
use Rattle.s4_types.specs.declared.refusals.Refusal.{Refusal}
use Rattle.image_commands.specs.declared.verifying.Asked.{Asked}
use Rattle.image_commands.specs.declared.verifying.Asked.TheVariants.{Present}
use Rattle.image_parts.specs.Image.{image_in}
use Rattle.verifier.specs.Images.{ImageFields}
use Rattle.verifier.specs.Opened.{IsToldBy}
use Rattle.image_commands.specs.declared.faults.Fault.{Fault}
use Rattle.image_commands.specs.declared.faults.Fault.TheVariants.{CannotRead, CannotWrite, HasBytes, KeptIn, Refused, WriteFailed}
use Rattle.image_commands.specs.Faults.{KeepsMade, KeepsNew, SaysNoPlace, SaysOverlong, SaysUnmade, SaysUnplaced, SaysDamaged, SaysUnread, SaysUnreadable, SaysUnsplit, SaysUnwritable, SaysUnwritten}
use Rattle.image_commands.specs.Making.{SpellsNew}
use Rattle.image_commands.specs.ReadingPast.{RefusesObject, RefusesVersion, SaysRefused, SaysUngiven}
use Rattle.image_commands.specs.Verifying.{IsVerified}
use Rattle.image_commands.proofs.Fronts.{unsplit_is_damaged}

-- an image that can't be read was not read
pub unread : (known : Option (List ℕ)) (image : List ℕ) (fault : Fault) → SaysUnreadable image fault → SaysUnread known image fault
unread known image (Refused refusal) is = inl is
unread known image (CannotRead path obstacle) is = is
unread known image (CannotWrite path obstacle) is = absurd is
unread known image (HasBytes path) is = absurd is
unread known image (KeptIn path obstacle kept) is = absurd is
unread known image WriteFailed is = absurd is

-- nor were its bytes
pub unsplit : (asked : Asked) (known : Option (List ℕ)) (image : List ℕ) (fault : Fault) → SaysUnreadable image fault → SaysUnsplit asked known image fault
unsplit asked known image (Refused refusal) is = inl is
unsplit asked known image (CannotRead path obstacle) is = is
unsplit asked known image (CannotWrite path obstacle) is = absurd is
unsplit asked known image (HasBytes path) is = absurd is
unsplit asked known image (KeptIn path obstacle kept) is = absurd is
unsplit asked known image WriteFailed is = absurd is

-- an image whose bytes weren't read wasn't either
pub unread_unsplit : (known : Option (List ℕ)) (image : List ℕ) (fault : Fault) → SaysUnsplit Present known image fault → SaysUnread known image fault
unread_unsplit known image (Refused refusal) (inl is) = inl is
unread_unsplit known image (Refused refusal) (inr (cause, is, bytes)) = inr (subst (SaysDamaged known) (sym is) (unsplit_is_damaged known cause bytes))
unread_unsplit known image (CannotRead path obstacle) is = is
unread_unsplit known image (CannotWrite path obstacle) is = absurd is
unread_unsplit known image (HasBytes path) is = absurd is
unread_unsplit known image (KeptIn path obstacle kept) is = absurd is
unread_unsplit known image WriteFailed is = absurd is

-- nor were all bytes of a file
pub unread_bytes : (known : Option (List ℕ)) (file : List ℕ) (fault : Fault) → SaysUnreadable file fault → SaysOverlong known file fault
unread_bytes known file (Refused refusal) is = inl is
unread_bytes known file (CannotRead path obstacle) is = is
unread_bytes known file (CannotWrite path obstacle) is = absurd is
unread_bytes known file (HasBytes path) is = absurd is
unread_bytes known file (KeptIn path obstacle kept) is = absurd is
unread_bytes known file WriteFailed is = absurd is

-- a place that can't be written is none
pub no_place : (known : Option (List ℕ)) (image : List ℕ) (fault : Fault) → SaysUnwritable image fault → SaysNoPlace known image fault
no_place known image (Refused refusal) is = is
no_place known image (CannotRead path obstacle) is = absurd is
no_place known image (CannotWrite path obstacle) is = is
no_place known image (HasBytes path) is = absurd is
no_place known image (KeptIn path obstacle kept) is = absurd is
no_place known image WriteFailed is = absurd is

-- an image that has no place was not made
pub unmade_nowhere : (known : Option (List ℕ)) (image : List ℕ) (fault : Fault) → SaysNoPlace known image fault → SaysUnmade known image fault
unmade_nowhere known image (Refused refusal) is = inl is
unmade_nowhere known image (CannotRead path obstacle) is = absurd is
unmade_nowhere known image (CannotWrite path obstacle) is = is
unmade_nowhere known image (HasBytes path) is = is
unmade_nowhere known image (KeptIn path obstacle kept) is = absurd is
unmade_nowhere known image WriteFailed is = absurd is

-- nor does its fault name a file that has it
pub names_nowhere : (known : Option (List ℕ)) (image : List ℕ) (frames window : ℕ) (files : List ℕ → Option (List ℕ)) (fault : Fault) → SaysNoPlace known image fault → KeepsMade frames window files fault
names_nowhere known image frames window files (Refused refusal) is = tt
names_nowhere known image frames window files (CannotRead path obstacle) is = tt
names_nowhere known image frames window files (CannotWrite path obstacle) is = tt
names_nowhere known image frames window files (HasBytes path) is = tt
names_nowhere known image frames window files (KeptIn path obstacle kept) is = absurd is
names_nowhere known image frames window files WriteFailed is = tt

-- an image that isn't in its place was not made
pub unmade_in_place : (known : Option (List ℕ)) (image : List ℕ) (fault : Fault) → SaysUnplaced image fault → SaysUnmade known image fault
unmade_in_place known image (Refused refusal) is = inl is
unmade_in_place known image (CannotRead path obstacle) is = absurd is
unmade_in_place known image (CannotWrite path obstacle) is = is
unmade_in_place known image (HasBytes path) is = absurd is
unmade_in_place known image (KeptIn path obstacle kept) is = is
unmade_in_place known image WriteFailed is = absurd is

-- an image that can't be written isn't in its place
pub unplaced : (image : List ℕ) (fault : Fault) → SaysUnwritable image fault → SaysUnplaced image fault
unplaced image (Refused refusal) is = is
unplaced image (CannotRead path obstacle) is = absurd is
unplaced image (CannotWrite path obstacle) is = is
unplaced image (HasBytes path) is = absurd is
unplaced image (KeptIn path obstacle kept) is = absurd is
unplaced image WriteFailed is = absurd is

-- nor is it in another file
pub names_none : (image bytes : List ℕ) (files : List ℕ → Option (List ℕ)) (fault : Fault) → SaysUnwritable image fault → KeepsNew files bytes fault
names_none image bytes files (Refused refusal) is = tt
names_none image bytes files (CannotRead path obstacle) is = tt
names_none image bytes files (CannotWrite path obstacle) is = tt
names_none image bytes files (HasBytes path) is = tt
names_none image bytes files (KeptIn path obstacle kept) is = absurd is
names_none image bytes files WriteFailed is = tt

-- the file that a fault names has the image of a new drive, where the bytes are one
pub names_made : (frames window : ℕ) (files : List ℕ → Option (List ℕ)) (bytes : List ℕ) (fault : Fault) → SpellsNew frames window bytes → KeepsNew files bytes fault → KeepsMade frames window files fault
names_made frames window files bytes (Refused refusal) spelled is = tt
names_made frames window files bytes (CannotRead path obstacle) spelled is = tt
names_made frames window files bytes (CannotWrite path obstacle) spelled is = tt
names_made frames window files bytes (HasBytes path) spelled is = tt
names_made frames window files bytes (KeptIn path obstacle kept) spelled is = record { bytes = bytes; spelled = spelled; kept = is }
names_made frames window files bytes WriteFailed spelled is = tt

-- what the drive that begins with what an image tells refuses is refused of the image
pub refused_of : (known : Option (List ℕ)) (image : ImageFields) (verified : IsVerified known image) (base : Base) → IsToldBy (image_in verified.bytes) base → (o t : ℕ)
    → (fault : Fault) → SaysRefused (RefusesVersion base o t) fault → SaysRefused (RefusesObject known o t) fault
refused_of known image verified base told o t (Refused refusal) (inl memory) = inl memory
refused_of known image verified base told o t (Refused refusal) (inr (inl busy)) = inr (inl busy)
refused_of known image verified base told o t (Refused refusal) (inr (inr refused)) =
    inr (inr (record { image = image; verified = verified; base = base; told = told; refused = refused }))
refused_of known image verified base told o t (CannotRead path obstacle) is = absurd is
refused_of known image verified base told o t (CannotWrite path obstacle) is = absurd is
refused_of known image verified base told o t (HasBytes path) is = absurd is
refused_of known image verified base told o t (KeptIn path obstacle kept) is = absurd is
refused_of known image verified base told o t WriteFailed is = absurd is
