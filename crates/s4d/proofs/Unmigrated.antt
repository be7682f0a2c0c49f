-- Why no new image of an earlier one is in its place, from why a step towards it failed.
use Rattle.std.proofs.Common.{◌≡◌, ◌⊎◌, ◌∙◌, ℕ, List, Option, Some, None, inl, inr, refl, sym, subst}
use Rattle.s4_types.specs.declared.refusals.Cause.{Cause}
use Rattle.s4_types.specs.declared.refusals.Cause.TheVariants.{Chain}
use Rattle.s4_types.specs.declared.refusals.Refusal.{Refusal}
use Rattle.s4_types.specs.declared.refusals.Refusal.TheVariants.{Damaged, NoMemory, NoRoom}
use Rattle.image_parts.specs.Marks.{earlier_in}
use Rattle.image_parts.specs.declared.marks.ImageMark.TheVariants.{Earlier as OfEarlier}
use Rattle.image_commands.specs.declared.verifying.Asked.TheVariants.{Earlier}
use Rattle.s4d_command.specs.declared.Migrate.{Migrate}
use Rattle.image_commands.specs.declared.faults.Fault.{Fault}
use Rattle.image_commands.specs.declared.faults.Fault.TheVariants.{CannotRead, CannotWrite, HasBytes, KeptIn, Refused, WriteFailed}
use Rattle.image_commands.specs.Faults.{KeepsNew, SaysNoPlace, SaysUnplaced, SaysUnsplit, SaysUnwritable}
use Rattle.image_commands.specs.Files.{AreKnown}
use Rattle.image_commands.specs.Verifying.{IsUnsplit, image_line}
use Rattle.image_commands.proofs.Fronts.{split_fault}
use Rattle.image_parts.specs.Causes.{Tested}
use Rattle.image_parts.specs.Image.{Image as ImageParts, image_in}
use Rattle.verifier.specs.Grammar.{SpellsDrive}
use Rattle.verifier.specs.Images.{ImageFields, IsImageOf}
use Rattle.verifier.specs.Opened.{IsReadOf}
use Rattle.earlier_images.specs.Grammar.{FirstEarlierFault}
use Rattle.earlier_images.specs.Rows.{EarlierChainsStand}
use Rattle.migration.specs.Migrated.{IsTooMuch, LaysOut, Migrates}
use Rattle.s4d.specs.Migrating.{HasLine, IsDamagedEarlier, RefusesEarlier, SaysEarlierUnread, SaysUnmigrated, SaysUntaken}

-- memory was short
pub memory : (known : Option (List ℕ)) (refusal : Refusal) → refusal ≡ NoMemory → RefusesEarlier known refusal
memory known refusal is = subst (RefusesEarlier known) (sym is) refl

-- what was found first of known bytes is found of what is known
known_damaged : (known : Option (List ℕ)) (bytes : List ℕ) (cause : Cause) → AreKnown known bytes → FirstEarlierFault bytes (Some cause) → IsDamagedEarlier known cause
known_damaged None bytes cause same fault = tt
known_damaged (Some whole) bytes cause same fault = subst (λ (xs : List ℕ). FirstEarlierFault xs (Some cause)) (sym same) fault

-- what is read of a file becomes no new image
pub refused_so : (known : Option (List ℕ)) (bytes : List ℕ) (e : Refusal) → AreKnown known bytes
    → (e ≡ NoMemory) ⊎ (((e ≡ NoRoom) × IsTooMuch bytes) ⊎ ((cause : Cause) × (e ≡ Damaged cause) × FirstEarlierFault bytes (Some cause)))
    → RefusesEarlier known e
refused_so known bytes e same (inl short) = memory known e short
refused_so None bytes e same (inr (inl (is, much))) = subst (RefusesEarlier None) (sym is) tt
refused_so (Some whole) bytes e same (inr (inl (is, much))) = subst (RefusesEarlier (Some whole)) (sym is) (subst IsTooMuch (sym same) much)
refused_so known bytes e same (inr (inr (cause, is, fault))) = subst (RefusesEarlier known) (sym is) (known_damaged known bytes cause same fault)

-- nor do the same bytes
pub refused_alike : (bytes other : List ℕ) (e : Refusal) → bytes ≡ other
    → (e ≡ NoMemory) ⊎ (((e ≡ NoRoom) × IsTooMuch bytes) ⊎ ((cause : Cause) × (e ≡ Damaged cause) × FirstEarlierFault bytes (Some cause)))
    → (e ≡ NoMemory) ⊎ (((e ≡ NoRoom) × IsTooMuch other) ⊎ ((cause : Cause) × (e ≡ Damaged cause) × FirstEarlierFault other (Some cause)))
refused_alike bytes other e same refused =
    subst (λ (xs : List ℕ). (e ≡ NoMemory) ⊎ (((e ≡ NoRoom) × IsTooMuch xs) ⊎ ((cause : Cause) × (e ≡ Damaged cause) × FirstEarlierFault xs (Some cause)))) same refused

-- the line of an image that was read of a file's bytes
pub has_line : (known : Option (List ℕ)) (bytes : List ℕ) (image : ImageFields) (line saved : List ℕ) → ((xs : List ℕ) (parts : ImageParts) → SpellsDrive xs parts → image_in xs ≡ parts)
    → AreKnown known bytes → IsReadOf bytes image → saved ≡ image_line image → line ≡ saved → HasLine known line
has_line known bytes image line saved one read of told is =
    let same : image_in bytes ≡ of.parts = one bytes of.parts of.spelled in
    record {
      image = image;
      verified = record {
        bytes = bytes;
        read = read;
        spelled = subst (SpellsDrive bytes) (sym same) of.spelled;
        told = subst (λ (parts : ImageParts). IsImageOf parts image) (sym same) of.told;
      };
      is = is ∙ told;
    }

unsplit_is_damaged : (known : Option (List ℕ)) (cause : Cause) → IsUnsplit Earlier known cause → IsDamagedEarlier known cause
unsplit_is_damaged None cause unsplit = tt
unsplit_is_damaged (Some bytes) cause unsplit = split_fault (OfEarlier (earlier_in bytes)) bytes (Tested (EarlierChainsStand (earlier_in bytes) (image_in bytes)) Chain (λ found. found ≡ None)) cause unsplit

-- an earlier image whose bytes aren't read
pub earlier_unread : (known : Option (List ℕ)) (earlier : List ℕ) (fault : Fault) → SaysUnsplit Earlier known earlier fault → SaysEarlierUnread known earlier fault
earlier_unread known earlier (Refused refusal) (inl is) = memory known refusal is
earlier_unread known earlier (Refused refusal) (inr (cause, is, unsplit)) = subst (RefusesEarlier known) (sym is) (unsplit_is_damaged known cause unsplit)
earlier_unread known earlier (CannotRead path obstacle) says = says
earlier_unread known earlier (CannotWrite path obstacle) says = absurd says
earlier_unread known earlier (HasBytes path) says = absurd says
earlier_unread known earlier (KeptIn path obstacle kept) says = absurd says
earlier_unread known earlier WriteFailed says = absurd says

-- one that can't be claimed, as it can't be written
pub untaken : (earlier : List ℕ) (fault : Fault) → SaysUnwritable earlier fault → SaysUntaken earlier fault
untaken earlier (Refused refusal) says = says
untaken earlier (CannotRead path obstacle) says = absurd says
untaken earlier (CannotWrite path obstacle) says = says
untaken earlier (HasBytes path) says = absurd says
untaken earlier (KeptIn path obstacle kept) says = absurd says
untaken earlier WriteFailed says = absurd says

-- What is known of files, and what was asked for.
module _ (files files' : List ℕ → Option (List ℕ)) (asked : Migrate) where
  -- there is no place
  pub for_no_place : (fault : Fault) → SaysNoPlace (files asked.image.now) asked.image.now fault → SaysUnmigrated files files' asked fault
  for_no_place (Refused refusal) says = memory (files asked.earlier.now) refusal says
  for_no_place (CannotRead path obstacle) says = absurd says
  for_no_place (CannotWrite path obstacle) says = inr says
  for_no_place (HasBytes path) says = says
  for_no_place (KeptIn path obstacle kept) says = absurd says
  for_no_place WriteFailed says = absurd says

  -- the earlier image isn't claimed
  pub for_untaken : (fault : Fault) → SaysUntaken asked.earlier.now fault → SaysUnmigrated files files' asked fault
  for_untaken (Refused refusal) says = memory (files asked.earlier.now) refusal says
  for_untaken (CannotRead path obstacle) says = says
  for_untaken (CannotWrite path obstacle) says = inl says
  for_untaken (HasBytes path) says = absurd says
  for_untaken (KeptIn path obstacle kept) says = absurd says
  for_untaken WriteFailed says = absurd says

  -- it isn't read
  pub for_unread : (fault : Fault) → SaysEarlierUnread (files asked.earlier.now) asked.earlier.now fault → SaysUnmigrated files files' asked fault
  for_unread (Refused refusal) says = says
  for_unread (CannotRead path obstacle) says = says
  for_unread (CannotWrite path obstacle) says = absurd says
  for_unread (HasBytes path) says = absurd says
  for_unread (KeptIn path obstacle kept) says = absurd says
  for_unread WriteFailed says = absurd says

  -- the new one isn't in its place
  pub for_unplaced : (old new : List ℕ) → AreKnown (files asked.earlier.now) old → Migrates old new → LaysOut old new
      → (fault : Fault) → SaysUnplaced asked.image.now fault → KeepsNew files' new fault → SaysUnmigrated files files' asked fault
  for_unplaced old new read migrates layout (Refused refusal) says kept = memory (files asked.earlier.now) refusal says
  for_unplaced old new read migrates layout (CannotRead path obstacle) says kept = absurd says
  for_unplaced old new read migrates layout (CannotWrite path obstacle) says kept = inr says
  for_unplaced old new read migrates layout (HasBytes path) says kept = absurd says
  for_unplaced old new read migrates layout (KeptIn path obstacle file) says kept =
      (says, record { old = old; read = read; new = new; migrates = migrates; layout = layout; kept = kept })
  for_unplaced old new read migrates layout WriteFailed says kept = absurd says
