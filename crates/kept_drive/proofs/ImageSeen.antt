-- An image sees a moment by its parts alone.
use Rattle.std.proofs.Common.{◌≡◌, ◌<◌, ◌^◌, ℕ, List, sym, subst, ◌∙◌}
use Rattle.s4_types.specs.History.{Base, History, Seen}
use Rattle.s4_model.specs.Sound.{IsSound}
use Rattle.s4_model.specs.State.{grown, state_of}
use Rattle.image_parts.specs.Image.{Image, image_bytes, image_in}
use Rattle.verifier.specs.Grammar.{SpellsDrive}
use Rattle.verifier.specs.Opened.{IsToldBy}
use Rattle.verifier.specs.Seen.{GoesOnSeen, parts_seen}
use Rattle.kept_drive.specs.Images.{IsImageOf}
use Rattle.kept_drive.proofs.ImageReading.{read_again}
use Rattle.kept_drive.proofs.SeenLemmas.{seen_goes_on}

abbrev pub SpellsSeen : Type 0
SpellsSeen = (parts : Image) (moment : ℕ) → moment < 2 ^ 64 → SpellsDrive (image_bytes parts) parts → SpellsDrive (image_bytes (parts_seen parts moment)) (parts_seen parts moment)

abbrev pub BeginsSeen : Type 0
BeginsSeen = (parts : Image) (moment : ℕ) (base : Base) → SpellsDrive (image_bytes parts) parts → IsToldBy (parts_seen parts moment) base → GoesOnSeen parts moment base

encoded : (bytes : List ℕ) → SpellsDrive bytes (image_in bytes) → SpellsDrive (image_bytes (image_in bytes)) (image_in bytes)
unfolding image_bytes
encoded bytes whole = subst (λ (b : List ℕ). SpellsDrive b (image_in bytes)) whole.parts.spelled whole

pub image_seen : SpellsSeen → BeginsSeen → (ended : History) (bytes : List ℕ) (m : ℕ) → m < 2 ^ 64 → IsSound (state_of ended) → IsImageOf ended bytes
    → IsImageOf (grown ended (Seen m)) (image_bytes (parts_seen (image_in bytes) m))
image_seen spells tells ended bytes m fits sound of =
    let parts : Image = image_in bytes in
    let later : Image = parts_seen parts m in
    let whole : SpellsDrive (image_bytes parts) parts = encoded bytes of.whole in
    let seen : SpellsDrive (image_bytes later) later = spells parts m fits whole in
    let read : image_in (image_bytes later) ≡ later = read_again (image_bytes later) later seen in
    record {
      whole = subst (λ (p : Image). SpellsDrive (image_bytes later) p) (sym read) seen;
      goes_on = λ base told.
          (let is : told.parts ≡ later = sym (read_again (image_bytes later) told.parts told.spelled) ∙ read in
          let on : GoesOnSeen parts m base = tells parts m base whole (subst (λ (p : Image). IsToldBy p base) is told.told) in
          seen_goes_on ended on.before base m sound (of.goes_on on.before (record { parts = parts; spelled = of.whole; told = on.told })) on.goes_on);
    }
