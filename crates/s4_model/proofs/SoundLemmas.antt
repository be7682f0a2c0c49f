-- Every step keeps a state sound.
use Rattle.std.proofs.Common.{◌≡◌, ℕ, ◌+◌, ◌-◌, ◌<◌, ◌≤◌, max, true, false, cond, inl, inr, List, [], ◌∷◌, ◌++◌, refl, ap, sym, ◌∙◌, subst, filter_map, append_assoc, add_comm, length, arith}
use Rattle.std.proofs.lemmas.List.Elements.{filter_map-append}
use Rattle.std.proofs.lemmas.Bool.{cases_Bool}
use Rattle.std.specs.Prelude.{nat_le}
use Rattle.std.specs.List.{AllByRecursion, cons_option}
use Rattle.s4_types.specs.History.{History}
use Rattle.s4_types.specs.declared.changes.Accepted.{Accepted}
use Rattle.s4_types.specs.declared.changes.Change.{Change}
use Rattle.s4_types.specs.declared.changes.Change.TheVariants.{Create, Delete, Write, Truncate, SetAttr, SetWindow, Flush, FlushO}
use Rattle.s4_types.specs.declared.replies.Reply.{Reply}
use Rattle.s4_types.specs.declared.requests.Role.{Role}
use Rattle.s4_types.specs.declared.requests.Request.{Request}
use Rattle.s4_types.specs.declared.versions.Version.TheVariants.{Absent}
use Rattle.lemmas.proofs.List.{all_weaker, all_append}
use Rattle.s4_model.specs.Effect.{is_change_of}
use Rattle.s4_model.specs.Numbers.{next_by, window_by}
use Rattle.s4_model.specs.State.{State, state_of, seen, took, new_history}
use Rattle.s4_model.specs.VersionAt.{version_of}
use Rattle.s4_model.specs.Visible.{spans_of, span_of, span_by}
use Rattle.s4_model.specs.Step.{Step}
use Rattle.s4_model.specs.Sound.{AreCounted, EndsBefore, IsOfGiven, IsSound}
use Rattle.s4_model.specs.Exchanges.{Exchange, Leads}
use Rattle.s4_model.proofs.StateLemmas.{state_of-seen, state_of-took}
use Rattle.s4_model.proofs.OutcomeLemmas.{IsTaken, Outcome, OnlySaw, TookIt, outcome_of}
use Rattle.s4_model.proofs.GrantedLemmas.{granted_is_born, granted_is_of_somebody, granted_span_ends, granted_span_is_owned}
use Rattle.s4_model.proofs.AuditedLemmas.{rows_took}
use Rattle.s4_model.proofs.VersionLemmas.{Ascends-push, Ascends-higher, version_of-other}

pub next_by-grows : (c : Change) (next : ℕ) → next ≤ next_by c next
next_by-grows (Create object attribute) next = omega arith
next_by-grows (Delete object) next = omega arith
next_by-grows (Write object offset bytes) next = omega arith
next_by-grows (Truncate object size) next = omega arith
next_by-grows (SetAttr object attribute) next = omega arith
next_by-grows (SetWindow window) next = omega arith
next_by-grows (Flush first last) next = omega arith
next_by-grows (FlushO object first last) next = omega arith

-- a change gives at most one number
pub next_by-bounded : (c : Change) (next : ℕ) → next_by c next ≤ next + 1
next_by-bounded (Create object attribute) next = omega arith
next_by-bounded (Delete object) next = omega arith
next_by-bounded (Write object offset bytes) next = omega arith
next_by-bounded (Truncate object size) next = omega arith
next_by-bounded (SetAttr object attribute) next = omega arith
next_by-bounded (SetWindow window) next = omega arith
next_by-bounded (Flush first last) next = omega arith
next_by-bounded (FlushO object first last) next = omega arith

-- the spans after a change: those before, and its own
pub spans_of-took : (s : State) (a : Accepted) → spans_of (took s a) ≡ spans_of s ++ cons_option (span_by a.change) []
spans_of-took s a = ap (λ more. s.spans ++ more) (filter_map-append span_of s.changes (a ∷ [])) ∙ sym (append_assoc s.spans (filter_map span_of s.changes) (cons_option (span_by a.change) []))

-- a change comes after the clock
pub moment_is_later : (s : State) (role : Role) (request : Request) (now : ℕ) (reply : Reply) (a : Accepted) → IsTaken s role request now reply a → s.clock < a.moment
moment_is_later s role request now reply a taken = let e : a.moment ≡ max now (s.clock + 1) = taken.stamped in omega arith

AreCounted-push : (number : ℕ) (changes : List Accepted) (a : Accepted) → AreCounted number changes → a.number ≡ number + length changes → AreCounted number (changes ++ a ∷ [])
AreCounted-push number [] a counted e = (let same : a.number ≡ number = omega arith in same, tt)
AreCounted-push number (b ∷ changes) a counted e = (counted.0, AreCounted-push (number + 1) changes a counted.1 (let more : length (b ∷ changes) ≡ 1 + length changes = omega arith in omega arith))

pub IsSound-seen : (s : State) (now : ℕ) → IsSound s → IsSound (seen s now)
IsSound-seen s now sound = let below : s.floor ≤ s.clock = sound.floor_reached in let given : s.next ≤ s.clock + 1 = sound.given in record {
  floor_reached = omega arith;
  reached = omega arith;
  numbered = sound.numbered;
  given = omega arith;
  counted = sound.counted;
  stamped = Ascends-higher s.opened s.changes s.clock (max s.clock now) sound.stamped (omega arith);
  past = all_weaker (EndsBefore s.clock) (EndsBefore (max s.clock now)) (spans_of s) (λ span lt. omega arith) sound.past;
  owned = sound.owned;
  unborn = sound.unborn;
  nobody = sound.nobody;
  listed = sound.listed;
  dated = sound.dated;
  audited = sound.audited;
}

IsSound-floor : (floor clock moment window : ℕ) → floor ≤ clock → clock < moment → max floor (moment - window) ≤ moment
IsSound-floor floor clock moment window le lt = omega arith

IsSound-given : (next by clock moment : ℕ) → next ≤ clock + 1 → by ≤ next + 1 → clock < moment → by ≤ moment + 1
IsSound-given next by clock moment given bounded later = omega arith

unborn_stays : (s : State) (a : Accepted) → IsSound s → ((o : ℕ) → is_change_of o a.change ≡ true → o < next_by a.change s.next) → (o t : ℕ) → next_by a.change s.next ≤ o → version_of (took s a) o t ≡ Absent
unborn_stays s a sound born o t ge =
    let grows : s.next ≤ next_by a.change s.next = next_by-grows a.change s.next in
    elim (cases_Bool (is_change_of o a.change)) as (λ _. version_of (took s a) o t ≡ Absent) [
      | inl is ↦ let lt : o < next_by a.change s.next = born o is in absurd (omega arith)
      | inr other ↦ version_of-other s a o t other ∙ sound.unborn o t (omega arith)
    ]

pub IsSound-took : (s : State) (role : Role) (request : Request) (now : ℕ) (reply : Reply) (a : Accepted) → IsSound s → IsTaken s role request now reply a → IsSound (took s a)
IsSound-took s role request now reply a sound taken =
    let later : s.clock < a.moment = moment_is_later s role request now reply a taken in
    let grows : s.next ≤ next_by a.change s.next = next_by-grows a.change s.next in
    let numbered : 1 ≤ s.next = sound.numbered in
    record {
      floor_reached = IsSound-floor s.floor s.clock a.moment (window_by a.change s.window) sound.floor_reached later;
      reached = omega arith;
      numbered = omega arith;
      given = IsSound-given s.next (next_by a.change s.next) s.clock a.moment sound.given (next_by-bounded a.change s.next) later;
      counted = AreCounted-push 1 s.changes a sound.counted (taken.counted ∙ add_comm (length s.changes) 1);
      stamped = Ascends-push s.opened s.changes s.clock a sound.stamped later;
      past = subst (AllByRecursion (EndsBefore a.moment)) (sym (spans_of-took s a)) (all_append (EndsBefore a.moment) (spans_of s) (cons_option (span_by a.change) [])
          (all_weaker (EndsBefore s.clock) (EndsBefore a.moment) (spans_of s) (λ span lt. omega arith) sound.past)
          (all_weaker (λ span. span.last ≤ s.clock) (EndsBefore a.moment) (cons_option (span_by a.change) []) (λ span le. omega arith) (granted_span_ends s role request a.change taken.granted taken.asked_for)));
      owned = subst (AllByRecursion (IsOfGiven (next_by a.change s.next))) (sym (spans_of-took s a)) (all_weaker (IsOfGiven s.next) (IsOfGiven (next_by a.change s.next)) (spans_of s ++ cons_option (span_by a.change) []) (λ span lt. omega arith)
          (all_append (IsOfGiven s.next) (spans_of s) (cons_option (span_by a.change) []) sound.owned (granted_span_is_owned s role request a.change numbered taken.granted taken.asked_for)));
      unborn = unborn_stays s a sound (λ o. granted_is_born s role request a.change o sound.unborn taken.granted taken.asked_for);
      nobody = λ t. version_of-other s a 0 t (granted_is_of_somebody s role request a.change numbered sound.nobody taken.granted taken.asked_for) ∙ sound.nobody t;
      listed = sound.listed;
      dated = sound.dated;
      audited = rows_took s role request a sound.audited sound.unborn numbered sound.nobody later grows taken.granted taken.asked_for;
    }

IsSound-outcome : (h : History) (role : Role) (request : Request) (now : ℕ) (reply : Reply) (after : History) → IsSound (state_of h) → Outcome h role request now reply after → IsSound (state_of after)
IsSound-outcome h role request now reply after sound (OnlySaw is answers) = subst IsSound (sym (ap state_of is ∙ state_of-seen h now)) (IsSound-seen (state_of h) now sound)
IsSound-outcome h role request now reply after sound (TookIt a is taken) = subst IsSound (sym (ap state_of is ∙ state_of-took h a)) (IsSound-took (state_of h) role request now reply a sound taken)

-- every step keeps it
pub IsSound-step : (h : History) (role : Role) (request : Request) (now : ℕ) (reply : Reply) (after : History) → IsSound (state_of h) → Step h role request now reply after → IsSound (state_of after)
IsSound-step h role request now reply after sound step = IsSound-outcome h role request now reply after sound (outcome_of step)

-- a new drive has it
pub IsSound-new : (window : ℕ) → IsSound (state_of (new_history window))
IsSound-new window = record {
  floor_reached = omega arith;
  reached = omega arith;
  numbered = omega arith;
  given = omega arith;
  counted = tt;
  stamped = omega arith;
  past = tt;
  owned = tt;
  unborn = λ o t ge. elim (nat_le t 0) as (λ b. cond b Absent Absent ≡ Absent) [ true ↦ refl | false ↦ refl ];
  nobody = λ t. elim (nat_le t 0) as (λ b. cond b Absent Absent ≡ Absent) [ true ↦ refl | false ↦ refl ];
  listed = tt;
  dated = tt;
  audited = tt;
}

-- and any list of exchanges keeps it
pub IsSound-leads : (h : History) (exchanges : List Exchange) (after : History) → IsSound (state_of h) → Leads h exchanges after → IsSound (state_of after)
IsSound-leads h [] after sound is = subst (λ k. IsSound (state_of k)) (sym is) sound
IsSound-leads h (e ∷ exchanges) after sound leads = IsSound-leads leads.0 exchanges after (IsSound-step h e.role e.request e.now e.reply leads.0 sound leads.1) leads.2
