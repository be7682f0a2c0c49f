-- What a failure says, from what less of it says.
use Rattle.std.proofs.Common.{◌≡◌, ◌⊎◌, ◌∙◌, ◌-◌, ◌<◌, ℕ, List, length, Option, Some, None, inl, inr, refl, ap, sym, subst, arith}
use Rattle.std.specs.Prelude.{string_bytes}
use Rattle.s4_types.specs.declared.refusals.Cause.{Cause}
use Rattle.s4_types.specs.declared.refusals.Refusal.{Refusal}
use Rattle.s4_types.specs.declared.refusals.Refusal.TheVariants.{Busy, Damaged, NoMemory, NoRoom}
use Rattle.image_parts.specs.Image.{Image, header_of, image_in}
use Rattle.image_parts.specs.declared.headers.Header.{Header}
use Rattle.verifier.specs.Grammar.{FirstFault}
use Rattle.image_commands.specs.Faults.{KeepsNew, SaysNoPlace, SaysUnsplit, SaysUnwritten}
use Rattle.image_commands.specs.Files.{AreKnown}
use Rattle.image_commands.specs.declared.faults.Fault.{Fault}
use Rattle.image_commands.specs.declared.faults.Fault.TheVariants.{CannotRead, CannotWrite, HasBytes, KeptIn, Refused, WriteFailed}
use Rattle.image_commands.specs.declared.verifying.Asked.TheVariants.{Present}
use Rattle.migration.specs.declared.copying.CopyAsked.{CopyAsked as Wanted}
use Rattle.migration.specs.Copies.{Copies, IsTooMuchToCopy}
use Rattle.s4_command.specs.declared.copying.CopyAsked.{CopyAsked}
use Rattle.s4_copy.specs.Asking.{HasNoMoment, Wants, first_absent}
use Rattle.s4_copy.specs.Copying.{CopiesImage}
use Rattle.s4_copy.specs.declared.faults.CopyFailure.{CopyFailure}
use Rattle.s4_copy.specs.declared.faults.CopyFailure.TheVariants.{NoObject, NoRoom as TooMuch, NoTimes, OfCopy, OfImage}
use Rattle.s4_copy.specs.Failures.{HasNoParts, IsOfImage, IsRefused, KeepsCopy, RefusesCopy, RefusesCount, SaysAbsent, SaysUncopied, SaysUnmade, SaysUnprinted}

-- ---- a copy that is wanted is refused

-- by `verify`, and by `open`
pub count_unverified : (old : List ℕ) (objects : ℕ) (e : Refusal) → (e ≡ NoMemory) ⊎ ((cause : Cause) × (e ≡ Damaged cause) × FirstFault old (Some cause)) → RefusesCount old objects e
count_unverified old objects e (inl memory) = inl memory
count_unverified old objects e (inr damaged) = inr (inl damaged)

pub count_unopened : (old : List ℕ) (objects : ℕ) (e : Refusal) → (objects ≡ 0 → ⊥) → (e ≡ NoMemory) ⊎ (e ≡ Busy) → RefusesCount old objects e
count_unopened old objects e some (inl memory) = inl memory
count_unopened old objects e some (inr busy) = inr (inr (busy, some))

-- by `copied`
pub copied_refused : (wanted : Wanted) (old : List ℕ) (e : Refusal)
    → (e ≡ NoMemory) ⊎ (((e ≡ NoRoom) × IsTooMuchToCopy wanted old) ⊎ ((cause : Cause) × (e ≡ Damaged cause) × FirstFault old (Some cause)))
    → ((e ≡ NoRoom) × IsTooMuchToCopy wanted old) ⊎ RefusesCopy wanted old e
copied_refused wanted old e (inl memory) = inr (inl memory)
copied_refused wanted old e (inr (inl much)) = inl much
copied_refused wanted old e (inr (inr damaged)) = inr (inr (inl damaged))

some_less : (was is objects : ℕ) → objects ≡ was - is → (objects ≡ 0 → ⊥) → is < was
some_less was is objects less some = omega arith

-- and where the versions are counted that it lacks
pub uncounted_refused : (wanted : Wanted) (old new : List ℕ) (objects : ℕ) (e : Refusal) → Copies wanted old new → (IsTooMuchToCopy wanted old → ⊥) → objects ≡ length (image_in old).rows - length (image_in new).rows
    → RefusesCount old objects e → RefusesCopy wanted old e
uncounted_refused wanted old new objects e copies fits less (inl memory) = inl memory
uncounted_refused wanted old new objects e copies fits less (inr (inl damaged)) = inr (inl damaged)
uncounted_refused wanted old new objects e copies fits less (inr (inr (busy, some))) =
    inr (inr (busy, record { new = new; copies = copies; fits = fits; fewer = some_less (length (image_in old).rows) (length (image_in new).rows) objects less some }))

-- not for lack of room
pub not_room : (wanted : Wanted) (old : List ℕ) (e : Refusal) → e ≡ NoRoom → RefusesCopy wanted old e → ⊥
not_room wanted old e is (inl memory) = absurd cc
not_room wanted old e is (inr (inl (cause, damaged, first))) = absurd cc
not_room wanted old e is (inr (inr (busy, lacks))) = absurd cc

-- ---- no copy is made of bytes

pub unmade_parts : (asked : CopyAsked) (old : List ℕ) (failure : CopyFailure) (e : Refusal) → IsRefused e failure → HasNoParts old e → SaysUnmade asked old failure
unmade_parts asked old failure e is none = subst (SaysUnmade asked old) (sym is) (e, refl, inr (inl none))

pub unmade_memory : (asked : CopyAsked) (old : List ℕ) (failure : CopyFailure) → IsRefused NoMemory failure → SaysUnmade asked old failure
unmade_memory asked old failure is = subst (SaysUnmade asked old) (sym is) (NoMemory, refl, inl refl)

pub unmade_refused : (asked : CopyAsked) (old : List ℕ) (wanted : Wanted) (failure : CopyFailure) (e : Refusal) → IsRefused e failure → first_absent (image_in old) asked.without.items ≡ None → Wants asked (image_in old) wanted
    → RefusesCopy wanted old e → SaysUnmade asked old failure
unmade_refused asked old wanted failure e is named wants refused =
    subst (SaysUnmade asked old) (sym is) (e, refl, inr (inr (record { named = named; wanted = wanted; wants = wants; holds = refused })))

-- the same objects are named of the same image
pub names_alike : (asked : CopyAsked) (old : List ℕ) (image : Image) (names : List ℕ) (found : Option ℕ) → image ≡ image_in old → names ≡ asked.without.items → first_absent image names ≡ found → first_absent (image_in old) asked.without.items ≡ found
names_alike asked old image names found same are is = sym (ap (λ (i : Image). first_absent i names) same ∙ ap (λ (ns : List ℕ). first_absent (image_in old) ns) are) ∙ is

pub unmade_absent : (asked : CopyAsked) (old : List ℕ) (image : Image) (names : List ℕ) (failure : CopyFailure) → image ≡ image_in old → names ≡ asked.without.items → SaysAbsent image names failure → SaysUnmade asked old failure
unmade_absent asked old image names (NoObject o) same are says = names_alike asked old image names (Some o) same are says
unmade_absent asked old image names (OfImage fault) same are says = (NoMemory, says, inl refl)
unmade_absent asked old image names (NoTimes first last) same are says = absurd says
unmade_absent asked old image names TooMuch same are says = absurd says
unmade_absent asked old image names (OfCopy fault) same are says = absurd says

pub unmade_times : (asked : CopyAsked) (old : List ℕ) (h : Header) (failure : CopyFailure) → h ≡ header_of (image_in old) → first_absent (image_in old) asked.without.items ≡ None
    → HasNoMoment asked.created_since h.clock → failure ≡ NoTimes h.floor h.clock → SaysUnmade asked old failure
unmade_times asked old h failure same named none is = subst (SaysUnmade asked old) (sym is) (record {
  named = named;
  none = subst (HasNoMoment asked.created_since) (ap (λ (k : Header). k.clock) same) none;
  first_is = ap (λ (k : Header). k.floor) same;
  last_is = ap (λ (k : Header). k.clock) same;
})

-- ---- no numbers are printed

pub unprinted_unmade : (known : Option (List ℕ)) (asked : CopyAsked) (old : List ℕ) (failures failures' : ℕ) (failure : CopyFailure) → AreKnown known old → SaysUnmade asked old failure → SaysUnprinted known asked failures failures' failure
unprinted_unmade known asked old failures failures' (OfImage fault) same says = inr (inl (record { old = old; read = same; says = says }))
unprinted_unmade known asked old failures failures' (NoObject o) same says = record { old = old; read = same; says = says }
unprinted_unmade known asked old failures failures' (NoTimes first last) same says = record { old = old; read = same; says = says }
unprinted_unmade known asked old failures failures' TooMuch same says = record { old = old; read = same; says = says }
unprinted_unmade known asked old failures failures' (OfCopy fault) same says = absurd says

pub unprinted_unsplit : (known : Option (List ℕ)) (asked : CopyAsked) (failures failures' : ℕ) (fault : Fault) (failure : CopyFailure) → IsOfImage fault failure → SaysUnsplit Present known asked.image.now fault
    → SaysUnprinted known asked failures failures' failure
unprinted_unsplit known asked failures failures' fault failure is unsplit = subst (SaysUnprinted known asked failures failures') (sym is) (inl unsplit)

pub unprinted_memory : (known : Option (List ℕ)) (asked : CopyAsked) (failures failures' : ℕ) (failure : CopyFailure) → IsRefused NoMemory failure → SaysUnprinted known asked failures failures' failure
unprinted_memory known asked failures failures' failure is = subst (SaysUnprinted known asked failures failures') (sym is) (inl (inl refl))

pub unprinted_unwritten : (known : Option (List ℕ)) (asked : CopyAsked) (failures begun failures' : ℕ) (fault : Fault) (failure : CopyFailure) → IsOfImage fault failure → begun ≡ failures → SaysUnwritten begun failures' fault
    → SaysUnprinted known asked failures failures' failure
unprinted_unwritten known asked failures begun failures' fault failure is same unwritten =
    subst (SaysUnprinted known asked failures failures') (sym is) (inr (inr (subst (λ (n : ℕ). SaysUnwritten n failures' fault) same unwritten)))

-- ---- no copy is made

pub uncopied_unprinted : (known copy : Option (List ℕ)) (asked : CopyAsked) (failures failures' : ℕ) (failure : CopyFailure) → SaysUnprinted known asked failures failures' failure → SaysUncopied known copy asked failures failures' failure
uncopied_unprinted known copy asked failures failures' (OfImage fault) says = says
uncopied_unprinted known copy asked failures failures' (NoObject o) says = says
uncopied_unprinted known copy asked failures failures' (NoTimes first last) says = says
uncopied_unprinted known copy asked failures failures' TooMuch says = says
uncopied_unprinted known copy asked failures failures' (OfCopy fault) says = absurd says.says

-- no other file is named where no numbers were printed
pub nothing_kept : (known : Option (List ℕ)) (files' : List ℕ → Option (List ℕ)) (asked : CopyAsked) (failures failures' : ℕ) (output output' : Option (List ℕ)) (failure : CopyFailure) → SaysUnprinted known asked failures failures' failure
    → KeepsCopy known files' asked output output' failure
nothing_kept known files' asked failures failures' output output' (OfImage fault) says = tt
nothing_kept known files' asked failures failures' output output' (NoObject o) says = tt
nothing_kept known files' asked failures failures' output output' (NoTimes first last) says = tt
nothing_kept known files' asked failures failures' output output' TooMuch says = tt
nothing_kept known files' asked failures failures' output output' (OfCopy fault) says = absurd says.says

-- nor where there is no place
pub no_place_kept : (known copy : Option (List ℕ)) (files' : List ℕ → Option (List ℕ)) (asked : CopyAsked) (output output' : Option (List ℕ)) (fault : Fault) → SaysNoPlace copy asked.copy.now fault
    → KeepsCopy known files' asked output output' (OfCopy fault)
no_place_kept known copy files' asked output output' (Refused refusal) says = tt
no_place_kept known copy files' asked output output' (CannotRead path obstacle) says = tt
no_place_kept known copy files' asked output output' (CannotWrite path obstacle) says = tt
no_place_kept known copy files' asked output output' (HasBytes path) says = tt
no_place_kept known copy files' asked output output' (KeptIn path obstacle kept) says = absurd says
no_place_kept known copy files' asked output output' WriteFailed says = tt

-- a file that is named has the copy
pub copy_kept : (known : Option (List ℕ)) (files' : List ℕ → Option (List ℕ)) (asked : CopyAsked) (output output' : Option (List ℕ)) (fault : Fault) (new : List ℕ) → CopiesImage known (Some new) asked output output' → KeepsNew files' new fault
    → KeepsCopy known files' asked output output' (OfCopy fault)
copy_kept known files' asked output output' (Refused refusal) new copies keeps = tt
copy_kept known files' asked output output' (CannotRead path obstacle) new copies keeps = tt
copy_kept known files' asked output output' (CannotWrite path obstacle) new copies keeps = tt
copy_kept known files' asked output output' (HasBytes path) new copies keeps = tt
copy_kept known files' asked output output' (KeptIn path obstacle kept) new copies keeps =
    record { old = copies.old; read = copies.read; new = copies.new; kept = subst (AreKnown (files' (string_bytes kept))) copies.kept keeps; report = copies.report; made = copies.made; told = copies.told }
copy_kept known files' asked output output' WriteFailed new copies keeps = tt
