-- Why no copy was made, and what a failure leaves.
use Rattle.std.specs.Prelude.{◌≡◌, ◌⊎◌, ◌<◌, ⊤, ℕ, List, length, Option, Some, None, string_bytes}
use Rattle.s4_types.specs.declared.refusals.Cause.{Cause}
use Rattle.s4_types.specs.declared.refusals.Refusal.{Refusal}
use Rattle.s4_types.specs.declared.refusals.Refusal.TheVariants.{Busy, Damaged, NoMemory}
use Rattle.image_parts.specs.Causes.{FirstSplitCause}
use Rattle.image_parts.specs.Image.{Image, image_in}
use Rattle.verifier.specs.Grammar.{FirstFault}
use Rattle.image_commands.specs.Faults.{SaysNoPlace, SaysUnplaced, SaysUnsplit, SaysUnwritten}
use Rattle.image_commands.specs.Files.{AreKnown}
use Rattle.image_commands.specs.declared.faults.Fault.{Fault}
use Rattle.image_commands.specs.declared.faults.Fault.TheVariants.{KeptIn, Refused}
use Rattle.image_commands.specs.declared.verifying.Asked.TheVariants.{Present}
use Rattle.migration.specs.declared.copying.CopyAsked.{CopyAsked as Wanted}
use Rattle.migration.specs.Copies.{Copies, IsTooMuchToCopy}
use Rattle.s4_command.specs.declared.copying.CopyAsked.{CopyAsked}
use Rattle.s4_copy.specs.Asking.{HasNoMoment, Wants, first_absent}
use Rattle.s4_copy.specs.Copying.{CopiesImage}
use Rattle.s4_copy.specs.declared.faults.CopyFailure.{CopyFailure}
use Rattle.s4_copy.specs.declared.faults.CopyFailure.TheVariants.{NoObject, NoRoom, NoTimes, OfCopy, OfImage}

-- a failure is this fault of the image, or of the output
abbrev pub IsOfImage : Fault → CopyFailure → Type 0
IsOfImage fault failure = failure ≡ OfImage fault

-- a failure is this refusal of the image
abbrev pub IsRefused : Refusal → CopyFailure → Type 0
IsRefused refusal failure = failure ≡ OfImage (Refused refusal)

-- the first of these objects that has no row in an image is named; or memory was short
abbrev pub SaysAbsent : Image → List ℕ → CopyFailure → Type 0
SaysAbsent image objects (NoObject o) = first_absent image objects ≡ Some o
SaysAbsent image objects (OfImage fault) = fault ≡ Refused NoMemory
SaysAbsent image objects _ = ⊥

-- This is wanted of the copy of an image, in which each object that is named has a row; and this holds of it.
pub record IsWanted (asked : CopyAsked) (old : List ℕ) (Holds : Wanted → Type 0) : Type 0 where
  pub named : first_absent (image_in old) asked.without.items ≡ None
  pub wanted : Wanted
  pub wants : Wants asked (image_in old) wanted
  pub holds : Holds wanted

-- A time is asked for of an image whose moments are numbers, which has these as its floor and its clock; each object that is named has a row.
pub record IsTimeRefused (asked : CopyAsked) (image : Image) (first last : ℕ) : Type 0 where
  pub named : first_absent image asked.without.items ≡ None
  pub none : HasNoMoment asked.created_since image.clock
  pub first_is : first ≡ image.floor
  pub last_is : last ≡ image.clock

-- bytes can't be split into the parts of an image, for this cause first
abbrev pub HasNoParts : List ℕ → Refusal → Type 0
HasNoParts old refusal = (cause : Cause) × (refusal ≡ Damaged cause) × FirstSplitCause old (Some cause)

-- bytes are damaged, for this cause first
abbrev pub HasFault : List ℕ → Refusal → Type 0
HasFault old refusal = (cause : Cause) × (refusal ≡ Damaged cause) × FirstFault old (Some cause)

-- The copy of an image that is wanted has no more frames than it may have, and fewer objects than the image.
pub record LacksObjects (wanted : Wanted) (old : List ℕ) : Type 0 where
  pub new : List ℕ
  pub copies : Copies wanted old new
  pub fits : IsTooMuchToCopy wanted old → ⊥
  pub fewer : length (image_in new).rows < length (image_in old).rows

-- Why the versions aren't counted that a copy lacks, which has this many objects less: the bytes are damaged; memory was short; or a count was
-- full where there are such objects.
abbrev pub RefusesCount : List ℕ → (objects : ℕ) → Refusal → Type 0
RefusesCount old objects refusal = (refusal ≡ NoMemory) ⊎ (HasFault old refusal ⊎ ((refusal ≡ Busy) × (objects ≡ 0 → ⊥)))

-- Why a copy that is wanted isn't made, beside lack of room: memory was short; the bytes are damaged; or a count was full where the versions
-- of the objects are counted that it lacks.
abbrev pub RefusesCopy : Wanted → List ℕ → Refusal → Type 0
RefusesCopy wanted old refusal = (refusal ≡ NoMemory) ⊎ (HasFault old refusal ⊎ ((refusal ≡ Busy) × LacksObjects wanted old))

-- Why no copy was made of an image, by its bytes: they can't be split, or memory was short; the first object that is named and has no row; a
-- time where moments are numbers; or, where there is none of these, more frames than there may be, or a copy that is refused.
abbrev pub SaysUnmade : CopyAsked → List ℕ → CopyFailure → Type 0
SaysUnmade asked old (OfImage fault) = (refusal : Refusal) × (fault ≡ Refused refusal) × ((refusal ≡ NoMemory) ⊎ (HasNoParts old refusal ⊎ IsWanted asked old (λ wanted. RefusesCopy wanted old refusal)))
SaysUnmade asked old (NoObject o) = first_absent (image_in old) asked.without.items ≡ Some o
SaysUnmade asked old (NoTimes first last) = IsTimeRefused asked (image_in old) first last
SaysUnmade asked old NoRoom = IsWanted asked old (λ wanted. IsTooMuchToCopy wanted old)
SaysUnmade asked old (OfCopy fault) = ⊥

-- The same of the bytes of a file, where they are known.
pub record SaysUnmadeOf (known : Option (List ℕ)) (asked : CopyAsked) (failure : CopyFailure) : Type 0 where
  pub old : List ℕ
  pub read : AreKnown known old
  pub says : SaysUnmade asked old failure

-- Why no numbers of a copy were printed, by what is known of the image's file and by how often the output had failed: the file can't be read,
-- or its bytes can't be split; no copy is made of these; or the output failed once more.
abbrev pub SaysUnprinted : Option (List ℕ) → CopyAsked → (failures failures' : ℕ) → CopyFailure → Type 0
SaysUnprinted known asked failures failures' (OfImage fault) = SaysUnsplit Present known asked.image.now fault ⊎ (SaysUnmadeOf known asked (OfImage fault) ⊎ SaysUnwritten failures failures' fault)
SaysUnprinted known asked failures failures' failure = SaysUnmadeOf known asked failure

-- Why no copy was made, by what is known of the copy's file before, too: the same, or the copy has no place.
abbrev pub SaysUncopied : (image copy : Option (List ℕ)) → CopyAsked → (failures failures' : ℕ) → CopyFailure → Type 0
SaysUncopied image copy asked failures failures' (OfCopy fault) = SaysNoPlace copy asked.copy.now fault ⊎ SaysUnplaced asked.copy.now fault
SaysUncopied image copy asked failures failures' failure = SaysUnprinted image asked failures failures' failure

-- where a failure names another file that has the copy, that has it, and its numbers were printed
abbrev pub KeepsCopy : (image : Option (List ℕ)) → (files' : List ℕ → Option (List ℕ)) → CopyAsked → (output output' : Option (List ℕ)) → CopyFailure → Type 0
KeepsCopy image files' asked output output' (OfCopy (KeptIn path obstacle kept)) = CopiesImage image (files' (string_bytes kept)) asked output output'
KeepsCopy image files' asked output output' _ = ⊤
