-- Why a window is refused to a session that shares its drive.
use Rattle.std.proofs.Common.{◌≡◌, ◌⊎◌, ◌==◌, ℕ, Bool, true, false, if◌then◌else◌, Option, None, Some, inl, inr, refl, sym}
use Rattle.std.proofs.lemmas.Option.{none-some, same_Some}
use Rattle.s4_types.specs.History.{Base}
use Rattle.s4_types.specs.declared.requests.Request.TheVariants.{Control}
use Rattle.s4_types.specs.declared.requests.AdminRequest.TheVariants.{SetWindow}
use Rattle.s4_types.specs.declared.requests.Role.{Role}
use Rattle.s4_types.specs.declared.requests.Role.TheVariants.{Client, Admin}
use Rattle.s4_types.specs.declared.replies.Reply.TheVariants.{Refused}
use Rattle.s4_types.specs.declared.refusals.Refusal.{Refusal}
use Rattle.s4_types.specs.declared.refusals.Refusal.TheVariants.{NotAdmin, NoMemory, ClockEnd}
use Rattle.s4_model.specs.State.{State}
use Rattle.s4_model.specs.Refusals.{last_number}
use Rattle.version_store.specs.Store.{StoreFields}
use Rattle.drive.specs.Fields.{DriveFields, SessionFields, state_in, store_of}
use Rattle.drive.specs.Refusing.{or_then, refusal_of, RefusesBy}
use Rattle.server.specs.Sharing.{SharedStep}

-- why a window may be refused, by role
abbrev IsByRoleOrClock : Role → Refusal → Type 0
IsByRoleOrClock role refusal = ((role ≡ Client) × (refusal ≡ NotAdmin)) ⊎ (refusal ≡ ClockEnd)

by_clock : (b : Bool) (refusal : Refusal) → or_then (if b then Some ClockEnd else None) None ≡ Some refusal → refusal ≡ ClockEnd
by_clock true refusal is = sym (same_Some ClockEnd refusal is)
by_clock false refusal is = absurd (none-some refusal is)

first_of_window : (store : StoreFields) (s : State) (role : Role) (window now : ℕ) (refusal : Refusal) → refusal_of store s role (Control (SetWindow window)) now ≡ Some refusal → IsByRoleOrClock role refusal
first_of_window store s Client window now refusal is = inl (refl, sym (same_Some NotAdmin refusal is))
first_of_window store s Admin window now refusal is = inr (by_clock (s.clock == last_number) refusal is)

-- no pin is wanted for a window
of_window : (why : Option Refusal) (later : DriveFields) (window : ℕ) (refusal : Refusal) → RefusesBy why later (Control (SetWindow window)) (Refused refusal) → (refusal ≡ NoMemory) ⊎ (why ≡ Some refusal)
of_window why later window refusal (inl memory) = inl memory.0
of_window why later window refusal (inr (inl is)) = inr is
of_window why later window refusal (inr (inr pin)) = absurd pin.2

abbrev IsByAny : Role → Refusal → Type 0
IsByAny role refusal = ((role ≡ Client) × (refusal ≡ NotAdmin)) ⊎ ((refusal ≡ ClockEnd) ⊎ (refusal ≡ NoMemory))

or_memory : (role : Role) (refusal : Refusal) → IsByRoleOrClock role refusal → IsByAny role refusal
or_memory role refusal (inl client) = inl client
or_memory role refusal (inr clock) = inr (inl clock)

by_any : (store : StoreFields) (s : State) (role : Role) (window now : ℕ) (refusal : Refusal) → (refusal ≡ NoMemory) ⊎ (refusal_of store s role (Control (SetWindow window)) now ≡ Some refusal) → IsByAny role refusal
by_any store s role window now refusal (inl memory) = inr (inr memory)
by_any store s role window now refusal (inr is) = or_memory role refusal (first_of_window store s role window now refusal is)

pub window_refused : (base : Base) (reserve : ℕ) (old new : SessionFields) (window now : ℕ) (refusal : Refusal) → SharedStep base reserve old (Control (SetWindow window)) now (Refused refusal) new
    → ((old.role ≡ Client) × (refusal ≡ NotAdmin)) ⊎ ((refusal ≡ ClockEnd) ⊎ (refusal ≡ NoMemory))
window_refused base reserve old new window now refusal s = by_any (store_of s.before) (state_in s.before) old.role window now refusal (of_window _ s.after window refusal s.refused)
