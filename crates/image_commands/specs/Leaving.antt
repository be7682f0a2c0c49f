-- What is left in the place of files that were left beside an image.
use Rattle.std.specs.Prelude.{◌≡◌, ◌<◌, ◌≤◌, ◌⊎◌, ℕ, nat_le, Bool, true, List, ⊤, Option, None, Some, IsSomeAnd, string_bytes}
use Rattle.std.specs.List.{Any}
use Rattle.std.specs.Io.KnownBytes.{Keeps}
use Rattle.s4_types.specs.declared.refusals.Cause.{Cause}
use Rattle.verifier.specs.Images.{ImageFields}
use Rattle.image_commands.specs.Verifying.{IsDamaged, IsVerified}
use Rattle.image_commands.specs.declared.beside.TheConstants.{MOST_BESIDE}
use Rattle.image_commands.specs.declared.leftovers.LeftFault.{LeftFault}
use Rattle.image_commands.specs.declared.leftovers.LeftFault.TheVariants.{NoMemory, Unread, Whole}

-- what is known of a file encodes no drive
abbrev pub IsNoImage : Option (List ℕ) → Type 0
IsNoImage known = (cause : Cause) × IsDamaged known cause

-- a file is as it was, or was no image
abbrev pub IsKeptWhereWhole : (known known' : Option (List ℕ)) → Type 0
IsKeptWhereWhole known known' = Keeps known known' ⊎ IsNoImage known

-- A path names where a file is made beside the image at another path, or was left, by what a claim of that image reserves.
abbrev pub IsBeside : {Claim : Type 0} → (leads : Claim → List ℕ → Type 0) → (reserves : Claim → List ℕ → Bool) → (image path : List ℕ) → Type 0
IsBeside {Claim} leads reserves image path = (claim : Claim) × leads claim image × (reserves claim path ≡ true)

-- a file is as it was, or it was left beside an image and was none
abbrev pub IsKeptOrLeft : (IsLeft : Type 0) → (known known' : Option (List ℕ)) → Type 0
IsKeptOrLeft IsLeft known known' = Keeps known known' ⊎ (IsLeft × IsNoImage known)

-- what is known of a file encodes a drive with this clock; or none, where there is no clock
abbrev pub HasClock : Option (List ℕ) → Option ℕ → Type 0
HasClock known None = IsNoImage known
HasClock known (Some clock) = (image : ImageFields) × IsVerified known image × (image.clock ≡ clock)

-- whether nothing is lost with a file that was left beside an image with this clock: it is no image, or one whose clock isn't above
abbrev pub is_spent : (left : Option ℕ) (image : ℕ) → Bool
is_spent None image = true
is_spent (Some clock) image = nat_le clock image

-- so it is, by what is known of the file
abbrev pub IsSpent : (image : ℕ) → Option (List ℕ) → Type 0
IsSpent image known = (left : Option ℕ) × HasClock known left × (is_spent left image ≡ true)

-- A file was left beside a claimed image with this clock, and nothing is lost with it: it is where a service makes one before that is
-- whole, or it is spent.
abbrev pub IsLeftFor : {Claim Left : Type 0} → (is_left : Left → List ℕ → Bool) → (is_part : Claim → List ℕ → Bool) → (files : List ℕ → Option (List ℕ))
    → Claim → (clock : ℕ) → Left → Type 0
IsLeftFor is_left is_part files claim clock left = (path : List ℕ) → is_left left path ≡ true → (is_part claim path ≡ true) ⊎ IsSpent clock (files path)

-- what was opened is all that lies there
abbrev pub IsAllThere : {Left : Type 0} → (is_left : Left → List ℕ → Bool) → (lies : List ℕ → Type 0) → Option Left → Type 0
IsAllThere is_left lies opened = (path : List ℕ) → lies path → IsSomeAnd opened (λ left. is_left left path ≡ true)

-- each file that lies beside an image by a number below this one is no image
abbrev pub AreNoImages : (most : ℕ) → (lies : ℕ → List ℕ → Type 0) → (files : List ℕ → Option (List ℕ)) → Type 0
AreNoImages most lies files = (number : ℕ) → number < most → (path : List ℕ) → lies number path → IsNoImage (files path)

-- A file that lies beside an image with this clock, by this number, is one of these. It is spent, unless its number is that of a part.
abbrev pub IsAmong : {Left : Type 0} → (is_left : Left → List ℕ → Bool) → (files : List ℕ → Option (List ℕ)) → (clock number : ℕ) → (path : List ℕ) → List Left → Type 0
IsAmong is_left files clock number path all = Any (λ left. is_left left path ≡ true) all × (number < MOST_BESIDE → IsSpent clock (files path))

-- so is each that lies there by a number below this one
abbrev pub AreAllSpent : {Left : Type 0} → (most : ℕ) → (lies : ℕ → List ℕ → Type 0) → (is_left : Left → List ℕ → Bool) → (files : List ℕ → Option (List ℕ))
    → (clock : ℕ) → List Left → Type 0
AreAllSpent most lies is_left files clock all = (number : ℕ) → number < most → (path : List ℕ) → lies number path → IsAmong is_left files clock number path all

-- what is known of a file encodes a drive whose clock isn't below this one
abbrev pub IsWholeFrom : (least : ℕ) → Option (List ℕ) → Type 0
IsWholeFrom least None = ⊤
IsWholeFrom least (Some bytes) = (clock : ℕ) × HasClock (Some bytes) (Some clock) × (least ≤ clock)

-- where a fault names a whole file, that has an image whose clock isn't below this one
abbrev pub NamesWhole : (least : ℕ) → (List ℕ → Option (List ℕ)) → LeftFault → Type 0
NamesWhole least files (Whole path) = IsWholeFrom least (files (string_bytes path))
NamesWhole least files _ = ⊤

-- a fault says that what a file has isn't known, or that memory was short
abbrev pub IsUnread : LeftFault → Type 0
IsUnread (Whole path) = ⊥
IsUnread (Unread path obstacle) = ⊤
IsUnread NoMemory = ⊤
