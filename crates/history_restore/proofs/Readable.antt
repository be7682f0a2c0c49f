-- Versions that can be read.
use Rattle.std.proofs.Common.{◌≡◌, ◌⊎◌, ◌∙◌, ℕ, cond, None, Some, inl, inr, sym, ap, subst, arith}
use Rattle.std.specs.Prelude.{nat_lt}
use Rattle.std.proofs.lemmas.Bool.{le-ltb, cond-false}
use Rattle.std.proofs.lemmas.Option.{none-some}
use Rattle.s4_types.specs.declared.refusals.Refusal.{Refusal}
use Rattle.s4_types.specs.declared.refusals.Refusal.TheVariants.{Future, Expired, Flushed, NoMemory, Busy}
use Rattle.s4_model.specs.State.{State}
use Rattle.s4_model.specs.Visible.{is_hidden, spans_of}
use Rattle.s4_model.specs.Refusals.{moment_refusal}
use Rattle.s4_model.specs.Sound.{IsSound}
use Rattle.s4_model.proofs.ClockLaws.{none_hides}
use Rattle.history_restore.specs.Restoring.{IsUnread}

-- and isn't refused
clock_is_free : (s : State) (o : ℕ) → IsSound s → moment_refusal s o s.clock ≡ None
clock_is_free s o sound =
    cond-false (nat_lt s.clock s.clock) (Some Future) (cond (nat_lt s.clock s.floor) (Some Expired) (cond (is_hidden s o s.clock) (Some Flushed) None)) (le-ltb s.clock s.clock (omega arith))
    ∙ cond-false (nat_lt s.clock s.floor) (Some Expired) (cond (is_hidden s o s.clock) (Some Flushed) None) (le-ltb s.clock s.floor sound.floor_reached)
    ∙ cond-false (is_hidden s o s.clock) (Some Flushed) None (none_hides o s.clock (spans_of s) sound.past)

-- so what isn't read of the present isn't for its moment
unread_now : (s middle : State) (o n at : ℕ) (e : Refusal) → middle ≡ s → IsSound s → (moment_refusal middle n s.clock ≡ Some e) ⊎ ((e ≡ NoMemory) ⊎ (e ≡ Busy)) → IsUnread s o at e
unread_now s middle o n at e same sound (inl is) = absurd (none-some e (sym (clock_is_free s n sound) ∙ ap (λ (k : State). moment_refusal k n s.clock) (sym same) ∙ is))
unread_now s middle o n at e same sound (inr other) = inr other

pub unread_at : (s middle : State) (o n at clock : ℕ) (e : Refusal) → clock ≡ s.clock → middle ≡ s → IsSound s → (moment_refusal middle n clock ≡ Some e) ⊎ ((e ≡ NoMemory) ⊎ (e ≡ Busy)) → IsUnread s o at e
unread_at s middle o n at clock e is same sound unread =
    unread_now s middle o n at e same sound (subst (λ (t : ℕ). (moment_refusal middle n t ≡ Some e) ⊎ ((e ≡ NoMemory) ⊎ (e ≡ Busy))) is unread)
