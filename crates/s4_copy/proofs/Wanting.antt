-- What is wanted of a copy, by what was found of the line and of the image; and what is made of it.
use Rattle.std.proofs.Common.{◌≡◌, ◌⊎◌, ◌==◌, ◌∙◌, ℕ, List, None, inl, inr, ap, subst, sym}
use Rattle.std.specs.Prelude.{option_map}
use Rattle.std.specs.BTreeSet.{contains}
use Rattle.std.specs.List.{list_any}
use Rattle.std.specs.Ordering.{nat_cmp}
use Rattle.s4_types.specs.declared.refusals.Refusal.{Refusal}
use Rattle.s4_types.specs.declared.refusals.Refusal.TheVariants.{NoRoom}
use Rattle.image_parts.specs.Image.{Image, header_of, image_in}
use Rattle.image_parts.specs.declared.headers.Header.{Header}
use Rattle.migration.specs.declared.copying.CopyAsked.{CopyAsked as Wanted}
use Rattle.migration.specs.Copies.{IsTooMuchToCopy}
use Rattle.s4_command.specs.declared.copying.CopyAsked.{CopyAsked}
use Rattle.s4_copy.specs.Asking.{clipped, HasNoMoment, Wants, first_absent, moment_asked}
use Rattle.s4_copy.specs.Copying.{IsCopy, IsMade}
use Rattle.s4_copy.specs.Failures.{IsRefused, RefusesCopy, SaysUnmade}
use Rattle.s4_copy.specs.declared.faults.CopyFailure.{CopyFailure}
use Rattle.s4_copy.specs.declared.faults.CopyFailure.TheVariants.{NoRoom as TooMuch}
use Rattle.s4_copy.specs.declared.reports.Report.{Report}
use Rattle.s4_copy.proofs.Failing.{names_alike, not_room, unmade_refused}

-- What was found of a line and of an image's parts and header: the objects that are named, each of which has a row, and the moment.
pub record Found (asked : CopyAsked) (old names : List ℕ) (image : Image) (h : Header) : Type 0 where
  pub parts : image ≡ image_in old
  pub header : h ≡ header_of image
  pub are : names ≡ asked.without.items
  pub none : first_absent image names ≡ None
  pub said : HasNoMoment asked.created_since h.clock → ⊥

-- this is wanted, by what was found
pub record WantsFound (asked : CopyAsked) (names : List ℕ) (h : Header) (wanted : Wanted) : Type 0 where
  pub frames : wanted.frames ≡ option_map clipped asked.frames
  pub objects : (o : ℕ) → contains nat_cmp wanted.objects.now o ≡ list_any (λ n. n == o) names
  pub since : wanted.since ≡ moment_asked asked.created_since h.clock

named_of : (asked : CopyAsked) (old names : List ℕ) (image : Image) (h : Header) → Found asked old names image h → first_absent (image_in old) asked.without.items ≡ None
named_of asked old names image h found = names_alike asked old image names None found.parts found.are found.none

-- the image's clock is its header's
wanted_of : (asked : CopyAsked) (old names : List ℕ) (image : Image) (h : Header) (wanted : Wanted) → Found asked old names image h → WantsFound asked names h wanted → Wants asked (image_in old) wanted
wanted_of asked old names image h wanted found wants =
    let clock : h.clock ≡ (image_in old).clock = ap (λ (k : Header). k.clock) (found.header ∙ ap header_of found.parts) in
    record {
      frames = wants.frames;
      objects = λ o. wants.objects o ∙ ap (λ (ns : List ℕ). list_any (λ n. n == o) ns) found.are;
      since = wants.since ∙ ap (moment_asked asked.created_since) clock;
      said = λ none. found.said (subst (HasNoMoment asked.created_since) (sym clock) none);
    }

pub made_of : (asked : CopyAsked) (old names : List ℕ) (image : Image) (h : Header) {wanted : Wanted} {new : List ℕ} {r : Report} → IsCopy wanted old new r → Found asked old names image h → WantsFound asked names h wanted → IsMade asked old new r
made_of asked old names image h {wanted = wanted} copy found wants = record { named = named_of asked old names image h found; wanted = wanted; wants = wanted_of asked old names image h wanted found wants; copy = copy }

-- a refusal for room is one where it lacks, and another says what is refused
pub refused_of : (asked : CopyAsked) (old names : List ℕ) (image : Image) (h : Header) (failure : CopyFailure) (e : Refusal) {wanted : Wanted} → ((e ≡ NoRoom) × IsTooMuchToCopy wanted old) ⊎ RefusesCopy wanted old e
    → (e ≡ NoRoom → failure ≡ TooMuch) → ((e ≡ NoRoom → ⊥) → IsRefused e failure) → Found asked old names image h → WantsFound asked names h wanted → SaysUnmade asked old failure
refused_of asked old names image h failure e {wanted = wanted} (inl (is, much)) room other found wants =
    subst (SaysUnmade asked old) (sym (room is)) (record { named = named_of asked old names image h found; wanted = wanted; wants = wanted_of asked old names image h wanted found wants; holds = much })
refused_of asked old names image h failure e {wanted = wanted} (inr refused) room other found wants =
    unmade_refused asked old wanted failure e (other (λ is. not_room wanted old e is refused)) (named_of asked old names image h found) (wanted_of asked old names image h wanted found wants) refused
