-- What is collected of a drive is the image of what it would be, had it seen a moment.
use Rattle.std.proofs.Common.{◌≡◌, ℕ, zero, suc, List, ap, sym, subst, ◌∙◌}
use Rattle.s4_types.specs.History.{Base, History, Seen}
use Rattle.s4_model.specs.Audit.{audit_of}
use Rattle.s4_model.specs.Numbers.{clock_of}
use Rattle.s4_model.specs.Promise.{GoesOn, beginning}
use Rattle.s4_model.specs.Runs.{is_covered}
use Rattle.s4_model.specs.Sound.{IsSound}
use Rattle.s4_model.specs.State.{State, grown, state_of}
use Rattle.s4_model.specs.VersionAt.{version_of}
use Rattle.s4_model.specs.Visible.{IsVisible, spans_of}
use Rattle.s4_model.proofs.StateLemmas.{state_of-seen}
use Rattle.drive.specs.Fields.{DriveFields, history_of}
use Rattle.image_parts.specs.Image.{Image}
use Rattle.verifier.specs.Grammar.{SpellsDrive}
use Rattle.verifier.specs.Opened.{TellsBase}
use Rattle.verifier.specs.Saved.{SpellsSaved, as_seen}
use Rattle.verifier.proofs.SeenWhole.{same_state}
use Rattle.kept_drive.specs.Images.{IsImageOf, last_clock, last_history}
use Rattle.kept_drive.proofs.ImageReading.{read_again}

-- what is saved of a drive as it was met, once it has seen a moment
pub front_is : (d met : DriveFields) (m : ℕ) (bytes : List ℕ) → met ≡ d → SpellsSaved (as_seen met m) bytes
    → ((base : Base) → TellsBase bytes base → GoesOn (grown (history_of met) (Seen m)) (beginning base)) → IsImageOf (grown (history_of d) (Seen m)) bytes
front_is d met m bytes same saved on = record {
  whole = subst (λ (parts : Image). SpellsDrive bytes parts) (sym (read_again bytes saved.image saved.spelled)) saved.spelled;
  goes_on = λ base told. subst (λ (e : DriveFields). GoesOn (grown (history_of e) (Seen m)) (beginning base)) same (on base told);
}

-- histories that have come to one state have the same images
image_alike : (h k : History) (bytes : List ℕ) → state_of h ≡ state_of k → IsImageOf h bytes → IsImageOf k bytes
image_alike h k bytes same is = record {
  whole = is.whole;
  goes_on = λ base told.
      (let on : GoesOn h (beginning base) = is.goes_on base told in
      record {
        clock = on.clock ∙ ap (λ (s : State). s.clock) same;
        window = on.window ∙ ap (λ (s : State). s.window) same;
        floor = on.floor ∙ ap (λ (s : State). s.floor) same;
        next = on.next ∙ ap (λ (s : State). s.next) same;
        hidden = λ list t. subst (λ (s : State). is_covered s.floor (spans_of (state_of (beginning base))) list t ≡ is_covered s.floor (spans_of s) list t) same (on.hidden list t);
        versions = λ o t visible. on.versions o t (subst (λ (s : State). IsVisible s o t) (sym same) visible) ∙ ap (λ (s : State). version_of s o t) same;
        audit = on.audit ∙ ap audit_of same;
      });
}

-- one that sees its own clock has come to nothing new
sees_its_clock : (h : History) → IsSound (state_of h) → state_of (grown h (Seen (clock_of h))) ≡ state_of h
sees_its_clock h sound = state_of-seen h (clock_of h) ∙ same_state (state_of h) sound

-- so a drive that sees its last clock has the image that is kept of it at the end
pub last_image : (start clock m : ℕ) (h : History) (bytes : List ℕ) → clock_of h ≡ clock → m ≡ last_clock start clock → IsSound (state_of h)
    → IsImageOf (grown h (Seen m)) bytes → IsImageOf (last_history start clock h) bytes
last_image start zero m h bytes at is sound image = subst (λ (n : ℕ). IsImageOf (grown h (Seen n)) bytes) is image
last_image start (suc clock) m h bytes at is sound image =
    image_alike (grown h (Seen (clock_of h))) h bytes (sees_its_clock h sound) (subst (λ (n : ℕ). IsImageOf (grown h (Seen n)) bytes) (is ∙ sym at) image)
