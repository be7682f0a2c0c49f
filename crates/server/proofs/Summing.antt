-- What all events of a run make of the accepted changes and of the clock.
use Rattle.std.proofs.Common.{◌≡◌, ◌≤◌, ℕ, ◌+◌, ◌*◌, List, [], ◌∷◌, Bool, true, false, cond, max, length, sym, ap, subst, ◌∙◌, arith, length-append}
use Rattle.std.proofs.lemmas.List.Sums.{sum_by-cons}
use Rattle.std.specs.List.{count_by}
use Rattle.s4_types.specs.History.{History, Record, Took, Seen, accepted}
use Rattle.s4_types.specs.declared.changes.Accepted.{Accepted}
use Rattle.s4_types.specs.declared.requests.Role.{Role}
use Rattle.s4_types.specs.declared.requests.Request.{Request}
use Rattle.s4_types.specs.declared.replies.Reply.{Reply}
use Rattle.s4_model.specs.State.{State, state_of, grown, took, seen}
use Rattle.s4_model.specs.Step.{Step, Refuses, Serves, Alters, Reads, judged, accepted_record}
use Rattle.drive.specs.Fields.{DriveFields, history_of, state_in}
use Rattle.drive.specs.Answering.{is_acceptance}
use Rattle.drive.proofs.Served.{accepts_change}
use Rattle.server.specs.Drawing.{AreTicks, ClockFields, moment_at}
use Rattle.server.specs.Sequence.{Event, Answers, Tends, Makes, is_answer, is_accepted, moments_of}
use Rattle.server.proofs.Acknowledged.{accepts, reads_accept_nothing}
use Rattle.server.proofs.Ticks.{AreTicksFrom, first_tick, later_ticks, ticks_from_first}

-- a tick more
tick_more : (k tick : ℕ) → (k + 1) * tick ≡ k * tick + tick
tick_more k tick = grind arith

-- What an answer makes of the accepted changes and of the clock.
record GoesOn (before after : State) (now : ℕ) (is : Bool) : Type 0 where
  pub changes : length after.changes ≡ length before.changes + cond is 1 0
  pub clock : after.clock ≤ max before.clock now + cond is 1 0

module _ (by_moments : (h : History) (now : ℕ) → state_of (grown h (Seen now)) ≡ seen (state_of h) now) (by_changes : (h : History) (a : Accepted) → state_of (grown h (Took a)) ≡ took (state_of h) a) where
  saw : (h h' : History) (now : ℕ) (is : Bool) → is ≡ false → h' ≡ grown h (Seen now) → GoesOn (state_of h) (state_of h') now is
  saw h h' now is none grows =
      let same : state_of h' ≡ seen (state_of h) now = ap state_of grows ∙ by_moments h now in
      subst (λ (b : Bool). GoesOn (state_of h) (state_of h') now b) (sym none) (subst (λ (s : State). GoesOn (state_of h) s now false) (sym same) (record { changes = omega arith; clock = omega arith }))

  goes_on : (h h' : History) (role : Role) (request : Request) (now : ℕ) (reply : Reply) → Step h role request now reply h' → GoesOn (state_of h) (state_of h') now (is_acceptance reply)
  goes_on h h' role request now reply (Refuses refusal is may grows) = saw h h' now (is_acceptance reply) (ap is_acceptance is) grows
  goes_on h h' role request now reply (Serves rec free (Alters c asked is rec_is) grows) =
      let a : Accepted = accepted_record (state_of h) c now in
      let same : state_of h' ≡ took (state_of h) a = ap state_of grows ∙ (ap (λ (x : Record). state_of (grown h x)) rec_is ∙ by_changes h a) in
      let more = length-append (state_of h).changes (a ∷ []) in
      subst (λ (b : Bool). GoesOn (state_of h) (state_of h') now b) (sym (ap is_acceptance is ∙ accepts_change c a.moment))
      (subst (λ (s : State). GoesOn (state_of h) s now true) (sym same) (record { changes = more; clock = omega arith }))
  goes_on h h' role request now reply (Serves rec free (Reads is rec_is) grows) =
      saw h h' now (is_acceptance reply) (sym (ap accepts is) ∙ reads_accept_nothing (judged h request now) request) (grows ∙ ap (grown h) rec_is)

  -- a reply counts as one more change where it accepts
  pub accepted_more : (h h' : History) (role : Role) (request : Request) (now : ℕ) (reply : Reply) → Step h role request now reply h' → length (accepted h') ≡ length (accepted h) + cond (is_acceptance reply) 1 0
  accepted_more h h' role request now reply step = (goes_on h h' role request now reply step).changes

  -- each accepted change is that of an event
  pub all_changes : (d e : DriveFields) (events : List Event) → Makes d events e → length (accepted (history_of e)) ≡ length (accepted (history_of d)) + count_by is_accepted events
  all_changes d e [] same = let is : length (accepted (history_of e)) ≡ length (accepted (history_of d)) = ap (λ (f : DriveFields). length (accepted (history_of f))) same in omega (arith, is)
  all_changes d e (Answers seat role request now reply ∷ events) made =
      let one = accepted_more (history_of d) (history_of made.0) role request now reply made.1.step in
      let others = all_changes made.0 e events made.2 in
      let event = Answers seat role request now reply in
      let cons : count_by is_accepted (event ∷ events) ≡ cond (is_acceptance reply) 1 0 + count_by is_accepted events = sum_by-cons (λ x. cond (is_accepted x) 1 0) event events in
      omega (arith, one, others, cons)
  all_changes d e (Tends ∷ events) made =
      let same : length (accepted (history_of made.0)) ≡ length (accepted (history_of d)) = ap (λ l. length (accepted l.history)) made.1 in
      let others = all_changes made.0 e events made.2 in
      let cons : count_by is_accepted (Tends ∷ events) ≡ 0 + count_by is_accepted events = sum_by-cons (λ x. cond (is_accepted x) 1 0) Tends events in
      omega (arith, same, others, cons)

  -- the clock goes no further than a tick for each answer, and a moment for each accepted change
  all_moments : (clock : ClockFields) (k n : ℕ) (d e : DriveFields) (events : List Event) → Makes d events e → AreTicksFrom clock k (moments_of events) → (state_in d).clock ≤ clock.start + k * clock.tick + n
      → (state_in e).clock ≤ clock.start + (k + count_by is_answer events) * clock.tick + (n + count_by is_accepted events)
  all_moments clock k n d e [] same ticks within =
      let is : (state_in e).clock ≡ (state_in d).clock = ap (λ (f : DriveFields). (state_in f).clock) same in
      let at : (k + 0) * clock.tick ≡ k * clock.tick = ap (λ i. i * clock.tick) (omega arith) in
      omega (arith, is, at, within)
  all_moments clock k n d e (Answers seat role request now reply ∷ events) made ticks within =
      let one = (goes_on (history_of d) (history_of made.0) role request now reply made.1.step).clock in
      let drawn : now ≡ moment_at clock (k + 1) = first_tick clock k now (moments_of events) ticks in
      let more = tick_more k clock.tick in
      let others = all_moments clock (k + 1) (n + cond (is_acceptance reply) 1 0) made.0 e events made.2 (later_ticks clock k now (moments_of events) ticks) (omega (arith, one, drawn, more, within)) in
      let event = Answers seat role request now reply in
      let answers : count_by is_answer (event ∷ events) ≡ 1 + count_by is_answer events = sum_by-cons (λ x. cond (is_answer x) 1 0) event events in
      let changes : count_by is_accepted (event ∷ events) ≡ cond (is_acceptance reply) 1 0 + count_by is_accepted events = sum_by-cons (λ x. cond (is_accepted x) 1 0) event events in
      let at : (k + 1 + count_by is_answer events) * clock.tick ≡ (k + count_by is_answer (event ∷ events)) * clock.tick = ap (λ i. i * clock.tick) (omega (arith, answers)) in
      omega (arith, others, at, changes)
  all_moments clock k n d e (Tends ∷ events) made ticks within =
      let same : (state_in made.0).clock ≡ (state_in d).clock = ap (λ l. (state_of l.history).clock) made.1 in
      let others = all_moments clock k n made.0 e events made.2 ticks (omega (arith, same, within)) in
      let answers : count_by is_answer (Tends ∷ events) ≡ 0 + count_by is_answer events = sum_by-cons (λ x. cond (is_answer x) 1 0) Tends events in
      let changes : count_by is_accepted (Tends ∷ events) ≡ 0 + count_by is_accepted events = sum_by-cons (λ x. cond (is_accepted x) 1 0) Tends events in
      let at : (k + count_by is_answer events) * clock.tick ≡ (k + count_by is_answer (Tends ∷ events)) * clock.tick = ap (λ i. i * clock.tick) (omega (arith, answers)) in
      omega (arith, others, at, changes)

  pub run_moments : (clock : ClockFields) (first last : DriveFields) (events : List Event) → Makes first events last → AreTicks clock (moments_of events) → (state_in first).clock ≤ clock.start
      → (state_in last).clock ≤ clock.start + count_by is_answer events * clock.tick + count_by is_accepted events
  run_moments clock first last events made ticks within =
      let none : 0 * clock.tick ≡ 0 = grind arith in
      let all = all_moments clock 0 0 first last events made (ticks_from_first clock (moments_of events) ticks) (omega (arith, within, none)) in
      let at : (0 + count_by is_answer events) * clock.tick ≡ count_by is_answer events * clock.tick = ap (λ i. i * clock.tick) (omega arith) in
      omega (arith, all, at)
