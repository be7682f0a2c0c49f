-- What was read of a file, against what is known of it.
use Rattle.std.proofs.Common.{◌≡◌, ◌⊎◌, ◌<◌, ◌≤◌, ◌==◌, cond, ◌++◌, ◌∙◌, ℕ, IfOk, List, OnOk, Option, Some, None, Result, Ok, Err, refl, sym, ap, subst, length, drop, arith, inl, inr, append_assoc, length-append}
use Rattle.std.proofs.lemmas.List.{append-nil, take-append-le, get_or_append_left}
use Rattle.std.proofs.KnownBytes.{Consumes-trans, Consumes-kept, starts_with_rest}
use Rattle.std.proofs.Transfers.{starts_with_length}
use Rattle.std.specs.Io.{StartsWith}
use Rattle.std.specs.Io.KnownBytes.{Consumes, IsAtEnd, Keeps}
use Rattle.s4_types.specs.declared.limits.TheConstants.{MOST_FRAMES}
use Rattle.s4_types.specs.declared.refusals.Cause.{Cause}
use Rattle.s4_types.specs.declared.refusals.Cause.TheVariants.{Chain, Audit, Header, Length}
use Rattle.s4_types.specs.declared.refusals.Refusal.{Refusal}
use Rattle.s4_types.specs.declared.refusals.Refusal.TheVariants.{Damaged, NoMemory}
use Rattle.image_parts.specs.declared.marks.ImageMark.{ImageMark}
use Rattle.image_parts.specs.declared.marks.ImageMark.TheVariants.{Third, Earlier as OfEarlier}
use Rattle.image_commands.specs.declared.verifying.Asked.{Asked}
use Rattle.image_commands.specs.declared.verifying.Asked.TheVariants.{Present, Earlier}
use Rattle.image_parts.specs.Causes.{FirstSplitCause, FirstSplitCauseBy, Tested, TestedPartsBy}
use Rattle.image_parts.specs.Image.{image_in}
use Rattle.verifier.specs.Grammar.{FirstFault}
use Rattle.verifier.specs.Rows.{ChainsStand}
use Rattle.verifier.specs.Audit.{AuditStands}
use Rattle.codec.specs.declared.versions.ImageVersion.TheVariants.{First, Second}
use Rattle.image_commands.specs.Files.{AreKnown}
use Rattle.image_commands.specs.Faults.{SaysDamaged}
use Rattle.image_commands.specs.Verifying.{IsDamaged, IsOverlong, IsUnsplit, longest_without_audit, mark_asked}

-- what follows from a fact of the value, and from one that holds where there is a value, holds of the value
pub if_ok_with : {A E Q : Type 0} {P R : A → Type 0} → (result : Result A E) → ((value : A) → P value → Q → R value) → IfOk result P → OnOk result Q → IfOk result R
if_ok_with (Ok value) f fact more = f value fact more
if_ok_with (Err error) f fact more = tt

-- and from two such
pub if_ok_with_both : {A E Q S : Type 0} {P R : A → Type 0} → (result : Result A E) → ((value : A) → P value → Q → S → R value) → IfOk result P → OnOk result Q → OnOk result S → IfOk result R
if_ok_with_both (Ok value) f fact more last = f value fact more last
if_ok_with_both (Err error) f fact more last = tt

-- a reader at its end gave all that is known of it
pub all_read : (known left : Option (List ℕ)) (bytes : List ℕ) → Consumes known left bytes → IsAtEnd left → AreKnown known bytes
all_read None left bytes read end = tt
all_read (Some whole) None bytes read end = absurd read
all_read (Some whole) (Some rest) bytes read end = read ∙ ap (λ (xs : List ℕ). bytes ++ xs) end ∙ append-nil bytes

-- what was found first of known bytes is found of what is known
pub known_damaged : (known : Option (List ℕ)) (bytes : List ℕ) (cause : Cause) → AreKnown known bytes → FirstFault bytes (Some cause) → IsDamaged known cause
known_damaged None bytes cause same fault = tt
known_damaged (Some whole) bytes cause same fault = subst (λ (xs : List ℕ). FirstFault xs (Some cause)) (sym same) fault

one_cause : (a b : Cause) → Damaged a ≡ Damaged b → a ≡ b
one_cause a b e = cc

not_memory : (cause : Cause) → NoMemory ≡ Damaged cause → ⊥
not_memory cause e = absurd cc

-- what `verify` refuses as damaged it refuses for the first cause
pub refused_truly : (known : Option (List ℕ)) (bytes : List ℕ) (e : Refusal) (cause : Cause) → AreKnown known bytes
    → ((e ≡ NoMemory) ⊎ ((found : Cause) × (e ≡ Damaged found) × FirstFault bytes (Some found))) → e ≡ Damaged cause → IsDamaged known cause
refused_truly known bytes e cause same (inl memory) is = absurd (not_memory cause (sym memory ∙ is))
refused_truly known bytes e cause same (inr (found, told, fault)) is =
    known_damaged known bytes cause same (subst (λ (c : Cause). FirstFault bytes (Some c)) (one_cause found cause (sym told ∙ is)) fault)

-- for lack of memory, or as damaged for the first cause
pub refused_so : (known : Option (List ℕ)) (bytes : List ℕ) (e : Refusal) → AreKnown known bytes
    → ((e ≡ NoMemory) ⊎ ((found : Cause) × (e ≡ Damaged found) × FirstFault bytes (Some found))) → (e ≡ NoMemory) ⊎ SaysDamaged known e
refused_so known bytes e same (inl memory) = inl memory
refused_so known bytes e same (inr (found, told, fault)) = inr (subst (SaysDamaged known) (sym told) (known_damaged known bytes found same fault))

-- what can't be split into parts is refused by all tests of an image, for the same cause
pub split_fault : (mark : ImageMark) (bytes : List ℕ) (later : Option Cause → Type 0) (cause : Cause) → FirstSplitCauseBy mark bytes (Some cause) → TestedPartsBy mark bytes later (Some cause)
split_fault mark bytes later cause (inl bad) = inl bad
split_fault mark bytes later cause (inr (long, inl bad)) = inr (long, inl bad)
split_fault mark bytes later cause (inr (long, inr (header, inl bad))) = inr (long, inr (header, inl bad))
split_fault mark bytes later cause (inr (long, inr (header, inr (filled, e)))) = absurd cc

-- what is known to be such bytes is damaged
pub unsplit_is_damaged : (known : Option (List ℕ)) (cause : Cause) → IsUnsplit Present known cause → IsDamaged known cause
unsplit_is_damaged None cause unsplit = tt
unsplit_is_damaged (Some bytes) cause unsplit = split_fault Third bytes (Tested (ChainsStand (image_in bytes)) Chain (Tested (AuditStands (image_in bytes)) Audit (λ found. found ≡ None))) cause unsplit

-- the mark that is asked for is told by the front
mark_of_front : (asked : Asked) (front rest : List ℕ) → 8 ≤ length front → mark_asked asked (front ++ rest) ≡ mark_asked asked front
mark_of_front Present front rest long = refl
mark_of_front Earlier front rest long = ap (λ (n : ℕ). OfEarlier (cond (n == 0x31) First Second)) (get_or_append_left front rest 0 7 (omega (arith, long)))

-- What is read may be such an image.
module _ (asked : Asked) where
  -- what was found first of known bytes is found of what is known
  known_unsplit : (known : Option (List ℕ)) (bytes : List ℕ) (cause : Cause) → AreKnown known bytes → FirstSplitCauseBy (mark_asked asked bytes) bytes (Some cause) → IsUnsplit asked known cause
  known_unsplit None bytes cause same fault = tt
  known_unsplit (Some whole) bytes cause same fault = subst (λ (xs : List ℕ). FirstSplitCauseBy (mark_asked asked xs) xs (Some cause)) (sym same) fault

  -- too few bytes
  pub too_short : (known left : Option (List ℕ)) (bytes : List ℕ) → Consumes known left bytes → IsAtEnd left → length bytes < 544 → IsUnsplit asked known Length
  too_short known left bytes read end short =
      known_unsplit known bytes Length (all_read known left bytes read end) (inl ((λ long. omega (arith, long, short)), refl))

  -- bytes whose front has no header
  pub no_header : (known left : Option (List ℕ)) (front : List ℕ) → 8 ≤ length front → Consumes known left front → ((rest : List ℕ) → FirstSplitCauseBy (mark_asked asked front) (front ++ rest) (Some Header)) → IsUnsplit asked known Header
  no_header None left front long read none = tt
  no_header (Some whole) None front long read none = absurd read
  no_header (Some whole) (Some rest) front long read none = subst (λ (xs : List ℕ). FirstSplitCauseBy (mark_asked asked xs) xs (Some Header)) (sym read)
      (subst (λ (m : ImageMark). FirstSplitCauseBy m (front ++ rest) (Some Header)) (sym (mark_of_front asked front rest long)) (none rest))

  -- more bytes than an image with their front can have
  pub too_long : (known left : Option (List ℕ)) (front bytes : List ℕ) (longest : ℕ) → Consumes known left bytes → StartsWith bytes front
      → 8 ≤ length front → ((rest : List ℕ) → longest < length (front ++ rest) → FirstSplitCauseBy (mark_asked asked front) (front ++ rest) (Some Length)) → longest < length bytes → IsUnsplit asked known Length
  too_long None left front bytes longest read begins wide longer long = tt
  too_long (Some whole) None front bytes longest read begins wide longer long = absurd read
  too_long (Some whole) (Some left) front bytes longest read begins wide longer long =
      let more = drop (length front) bytes in
      let is : bytes ≡ front ++ more = starts_with_rest bytes front begins in
      let all : whole ≡ front ++ (more ++ left) = read ∙ ap (λ (xs : List ℕ). xs ++ left) is ∙ append_assoc front more left in
      let size : longest < length (front ++ (more ++ left)) =
      omega (arith, long, ap length is, length-append front more, length-append front (more ++ left), length-append more left) in
      subst (λ (xs : List ℕ). FirstSplitCauseBy (mark_asked asked xs) xs (Some Length)) (sym all)
      (subst (λ (m : ImageMark). FirstSplitCauseBy m (front ++ (more ++ left)) (Some Length)) (sym (mark_of_front asked front (more ++ left) wide)) (longer (more ++ left) size))

-- more bytes than any image without audit rows has, and than one with their front can have
pub overlong : (known left : Option (List ℕ)) (front bytes : List ℕ) (most : ℕ) → Consumes known left bytes → StartsWith bytes front → longest_without_audit MOST_FRAMES ≤ most
    → ((rest : List ℕ) → most < length (front ++ rest) → ((cause : Cause) × FirstSplitCause (front ++ rest) (Some cause))) → most < length bytes → IsOverlong known
overlong None left front bytes most read begins least longer long = tt
overlong (Some whole) None front bytes most read begins least longer long = absurd read
overlong (Some whole) (Some left) front bytes most read begins least longer long =
    let more = drop (length front) bytes in
    let is : bytes ≡ front ++ more = starts_with_rest bytes front begins in
    let all : whole ≡ front ++ (more ++ left) = read ∙ ap (λ (xs : List ℕ). xs ++ left) is ∙ append_assoc front more left in
    let size : most < length (front ++ (more ++ left)) =
    omega (arith, long, ap length is, length-append front more, length-append front (more ++ left), length-append more left) in
    let (cause, unsplit) = longer (more ++ left) size in
    record { long = omega (arith, least, size, ap length all); cause = cause; unsplit = subst (λ (xs : List ℕ). FirstSplitCause xs (Some cause)) (sym all) unsplit }

-- ---- what is read piece by piece

-- one piece more was read
pub read_on : (start before after : Option (List ℕ)) (old bytes piece new : List ℕ) → ((known : Option (List ℕ)) → Consumes known start old → Consumes known before bytes)
    → Consumes before after piece → new ≡ bytes ++ piece → (known : Option (List ℕ)) → Consumes known start old → Consumes known after new
read_on start before after old bytes piece new so_far read is known begun =
    subst (Consumes known after) (sym is) (Consumes-trans known before after bytes piece (so_far known begun) read)

-- nothing was read
pub read_none : (start before after : Option (List ℕ)) (old bytes new : List ℕ) → ((known : Option (List ℕ)) → Consumes known start old → Consumes known before bytes)
    → Keeps before after → new ≡ bytes → (known : Option (List ℕ)) → Consumes known start old → Consumes known after new
read_none start before after old bytes new so_far kept is known begun =
    subst (Consumes known after) (sym is) (Consumes-kept known before after bytes (so_far known begun) kept)

-- what begins with bytes does so with a piece after it
pub starts_on : (front bytes piece new : List ℕ) → StartsWith bytes front → new ≡ bytes ++ piece → StartsWith new front
starts_on front bytes piece new begins is =
    subst (λ (xs : List ℕ). StartsWith xs front) (sym is) (take-append-le (length front) bytes piece (starts_with_length bytes front begins) ∙ begins)
