-- Object numbers are given once, and the dead stay absent.
use Rattle.std.proofs.Common.{◌≡◌, ℕ, ◌+◌, ◌<◌, ◌≤◌, max, true, inl, inr, List, [], ◌∷◌, length, Option, None, Some, MatchOption, refl, ap, sym, ◌∙◌, subst, true≢false, eq-eqb, eqb-true, arith}
use Rattle.std.specs.List.{range_with_len, cons_option}
use Rattle.std.proofs.lemmas.Bool.{cases_Bool}
use Rattle.s4_types.specs.History.{History}
use Rattle.s4_types.specs.declared.changes.Accepted.{Accepted}
use Rattle.s4_types.specs.declared.changes.Change.{Change}
use Rattle.s4_types.specs.declared.changes.Change.TheVariants.{Create, Delete, Write, Truncate, SetAttr, SetWindow, Flush, FlushO}
use Rattle.s4_types.specs.declared.replies.Reply.{Reply}
use Rattle.s4_types.specs.declared.replies.Reply.TheVariants.{Refused, Changed, Created, Data, Attr, AuditRows}
use Rattle.s4_types.specs.declared.requests.Role.{Role}
use Rattle.s4_types.specs.declared.requests.Request.{Request}
use Rattle.s4_types.specs.declared.requests.Request.TheVariants as request
use Rattle.s4_types.specs.declared.requests.ObjectRequest.TheVariants as object_request
use Rattle.s4_types.specs.declared.requests.AdminRequest.TheVariants as admin_request
use Rattle.s4_types.specs.declared.versions.Version.TheVariants.{Absent}
use Rattle.s4_model.specs.Effect.{effect, is_change_of}
use Rattle.s4_model.specs.Numbers.{next_of, next_by}
use Rattle.s4_model.specs.State.{State, state_of, seen, took}
use Rattle.s4_model.specs.Refusals.{present}
use Rattle.s4_model.specs.Step.{Step, change_of, reply_to_change, stamp}
use Rattle.s4_model.specs.Sound.{IsSound}
use Rattle.s4_model.specs.Laws.{ActsAtItsMoment, number_told, numbers_given}
use Rattle.s4_model.specs.Exchanges.{Exchange, Leads}
use Rattle.s4_model.proofs.StateLemmas.{state_of-seen, state_of-took}
use Rattle.s4_model.proofs.OutcomeLemmas.{IsTaken, Outcome, OnlySaw, TookIt, outcome_of}
use Rattle.s4_model.proofs.GrantedLemmas.{granted_is_born}
use Rattle.s4_model.proofs.SoundLemmas.{next_by-grows, moment_is_later, IsSound-step}
use Rattle.s4_model.proofs.VersionLemmas.{version_of-settled}
use Rattle.s4_model.proofs.ClockLaws.{ActsAtItsMoment-took}

-- a change that a Create's reply answers is the making of the next object
created_change : (s : State) (asks : Request) (taken : Change) (now object moment : ℕ) → change_of s asks ≡ Some taken → Created object moment ≡ reply_to_change s taken now → (object ≡ s.next) × (next_by taken s.next ≡ object + 1)
created_change s (request.Update (object_request.Create attribute)) (Create made value) now object moment asks answers = let numbers : s.next ≡ made = cc in let same : object ≡ made = cc in (same ∙ sym numbers, ap (λ n. n + 1) (numbers ∙ sym same))
created_change s (request.Update (object_request.Delete gone)) (Create made value) now object moment asks answers = cc
created_change s (request.Query question) (Create made value) now object moment asks answers = cc
created_change s (request.Update (object_request.Write of offset bytes)) (Create made value) now object moment asks answers = cc
created_change s (request.Update (object_request.Append of bytes)) (Create made value) now object moment asks answers = cc
created_change s (request.Update (object_request.Truncate of size)) (Create made value) now object moment asks answers = cc
created_change s (request.Update (object_request.SetAttr of attribute)) (Create made value) now object moment asks answers = cc
created_change s (request.Control (admin_request.SetWindow window)) (Create made value) now object moment asks answers = cc
created_change s (request.Control (admin_request.Flush first last)) (Create made value) now object moment asks answers = cc
created_change s (request.Control (admin_request.FlushO of first last)) (Create made value) now object moment asks answers = cc
created_change s asks (Delete of) now object moment is answers = cc
created_change s asks (Write of offset bytes) now object moment is answers = cc
created_change s asks (Truncate of size) now object moment is answers = cc
created_change s asks (SetAttr of attribute) now object moment is answers = cc
created_change s asks (SetWindow window) now object moment is answers = cc
created_change s asks (Flush first last) now object moment is answers = cc
created_change s asks (FlushO of first last) now object moment is answers = cc

created_outcome : (h : History) (role : Role) (asks : Request) (now object moment : ℕ) (after : History) → Outcome h role asks now (Created object moment) after → (object ≡ next_of h) × (next_of after ≡ object + 1)
created_outcome h role asks now object moment after (OnlySaw is answers) = absurd (true≢false answers)
created_outcome h role asks now object moment after (TookIt a is taken) =
    let given : (object ≡ next_of h) × (next_by a.change (next_of h) ≡ object + 1) = created_change (state_of h) asks a.change now object moment taken.asked_for taken.answered in
    (given.0, ap (λ k. k.next) (ap state_of is ∙ state_of-took h a) ∙ given.1)

pub create_is_given_next : (h after : History) (role : Role) (asks : Request) (now object moment : ℕ) → Step h role asks now (Created object moment) after → (object ≡ next_of h) × (next_of after ≡ object + 1)
create_is_given_next h after role asks now object moment step = created_outcome h role asks now object moment after (outcome_of step)

-- whatever reply doesn't tell a number leaves the next one
untold_change : (c : Change) (next now : ℕ) (s : State) → number_told (reply_to_change s c now) ≡ None → next_by c next ≡ next
untold_change (Create made value) next now s e = cc
untold_change (Delete of) next now s e = refl
untold_change (Write of offset bytes) next now s e = refl
untold_change (Truncate of size) next now s e = refl
untold_change (SetAttr of attribute) next now s e = refl
untold_change (SetWindow window) next now s e = refl
untold_change (Flush first last) next now s e = refl
untold_change (FlushO of first last) next now s e = refl

untold_outcome : (h : History) (role : Role) (asks : Request) (now : ℕ) (reply : Reply) (after : History) → number_told reply ≡ None → Outcome h role asks now reply after → next_of after ≡ next_of h
untold_outcome h role asks now reply after e (OnlySaw is answers) = ap (λ k. k.next) (ap state_of is ∙ state_of-seen h now)
untold_outcome h role asks now reply after e (TookIt a is taken) = ap (λ k. k.next) (ap state_of is ∙ state_of-took h a) ∙ untold_change a.change (next_of h) now (state_of h) (sym (ap number_told taken.answered) ∙ e)

-- A reply that tells a number tells the next one, which is then raised; any other leaves it.
told_number : (h : History) (role : Role) (asks : Request) (now : ℕ) (reply : Reply) (after : History) → Step h role asks now reply after → MatchOption (number_told reply) (next_of after ≡ next_of h) (λ object. (object ≡ next_of h) × (next_of after ≡ object + 1))
told_number h role asks now (Created object moment) after step = create_is_given_next h after role asks now object moment step
told_number h role asks now (Changed moment) after step = untold_outcome h role asks now (Changed moment) after refl (outcome_of step)
told_number h role asks now (Refused refusal) after step = untold_outcome h role asks now (Refused refusal) after refl (outcome_of step)
told_number h role asks now (Data bytes) after step = untold_outcome h role asks now (Data bytes) after refl (outcome_of step)
told_number h role asks now (Attr size made moved value) after step = untold_outcome h role asks now (Attr size made moved value) after refl (outcome_of step)
told_number h role asks now (AuditRows rows) after step = untold_outcome h role asks now (AuditRows rows) after refl (outcome_of step)

-- the numbers are those from next on, and next is after them
abbrev pub AreNext : ℕ → ℕ → List ℕ → Type 0
AreNext next next_after numbers = (numbers ≡ range_with_len next (length numbers)) × (next_after ≡ next + length numbers)

AreNext-more : (told : Option ℕ) (next middle next_after : ℕ) (numbers : List ℕ) → MatchOption told (middle ≡ next) (λ object. (object ≡ next) × (middle ≡ object + 1)) → AreNext middle next_after numbers → AreNext next next_after (cons_option told numbers)
AreNext-more None next middle next_after numbers same rest = subst (λ n. AreNext n next_after numbers) same rest
AreNext-more (Some object) next middle next_after numbers given rest =
    let raised : middle ≡ next + 1 = given.1 ∙ ap (λ n. n + 1) given.0 in
    let behind : next_after ≡ middle + length numbers = rest.1 in
    let count : length (object ∷ numbers) ≡ 1 + length numbers = omega arith in (
      ap (λ n. n ∷ numbers) given.0 ∙ ap (λ all. next ∷ all) (rest.0 ∙ ap (λ n. range_with_len n (length numbers)) raised),
      omega arith,
    )

pub numbers_ascend : (h after : History) (exchanges : List Exchange) → Leads h exchanges after → AreNext (next_of h) (next_of after) (numbers_given exchanges)
numbers_ascend h after [] is = (refl, ap next_of is ∙ (let none : next_of h ≡ next_of h + 0 = omega arith in none))
numbers_ascend h after (e ∷ exchanges) leads =
    AreNext-more (number_told e.reply) (next_of h) (next_of leads.0) (next_of after) (numbers_given exchanges)
    (told_number h e.role e.request e.now e.reply leads.0 leads.1) (numbers_ascend leads.0 after exchanges leads.2)

-- an object that was made and isn't there
record IsDead (s : State) (o : ℕ) : Type 0 where
  born : o < s.next
  gone : present s o ≡ Absent

-- whatever is asked for leaves an absent object absent, but a Create, which is of a new one
effect_on_dead : (s : State) (asks : Request) (taken : Change) (o moment : ℕ) → change_of s asks ≡ Some taken → o < s.next → is_change_of o taken ≡ true → effect taken moment Absent ≡ Absent
effect_on_dead s asks (Create made value) o moment e lt is =
    let new : made ≡ s.next = (created_change s asks (Create made value) 0 made (stamp s 0) e refl).0 in
    let same : made ≡ o = eqb-true made o is in
    absurd (omega arith)
effect_on_dead s asks (Delete of) o moment e lt is = refl
effect_on_dead s asks (Write of offset bytes) o moment e lt is = refl
effect_on_dead s asks (Truncate of size) o moment e lt is = refl
effect_on_dead s asks (SetAttr of attribute) o moment e lt is = refl
effect_on_dead s asks (SetWindow window) o moment e lt is = refl
effect_on_dead s asks (Flush first last) o moment e lt is = refl
effect_on_dead s asks (FlushO of first last) o moment e lt is = refl

IsDead-took : (s : State) (role : Role) (asks : Request) (now : ℕ) (reply : Reply) (a : Accepted) (o : ℕ) → IsSound s → IsTaken s role asks now reply a → IsDead s o → IsDead (took s a) o
IsDead-took s role asks now reply a o sound taken dead =
    let acts : ActsAtItsMoment s (took s a) a = ActsAtItsMoment-took s a sound (moment_is_later s role asks now reply a taken) in
    let born : o < s.next = dead.born in
    let grows : s.next ≤ next_by a.change s.next = next_by-grows a.change s.next in
    record {
      born = omega arith;
      gone = elim (cases_Bool (is_change_of o a.change)) as (λ _. present (took s a) o ≡ Absent) [
        | inl is ↦ acts.changed o is ∙ ap (effect a.change a.moment) dead.gone ∙ effect_on_dead s asks a.change o a.moment taken.asked_for born is
        | inr other ↦ acts.others o other ∙ dead.gone
      ];
    }

IsDead-seen : (s : State) (now o : ℕ) → IsSound s → IsDead s o → IsDead (seen s now) o
IsDead-seen s now o sound dead = record {
  born = dead.born;
  gone = version_of-settled s o (max s.clock now) sound.stamped (omega arith) ∙ dead.gone;
}

IsDead-outcome : (h : History) (role : Role) (asks : Request) (now : ℕ) (reply : Reply) (after : History) (o : ℕ) → IsSound (state_of h) → Outcome h role asks now reply after → IsDead (state_of h) o → IsDead (state_of after) o
IsDead-outcome h role asks now reply after o sound (OnlySaw is answers) dead = subst (λ k. IsDead k o) (sym (ap state_of is ∙ state_of-seen h now)) (IsDead-seen (state_of h) now o sound dead)
IsDead-outcome h role asks now reply after o sound (TookIt a is taken) dead = subst (λ k. IsDead k o) (sym (ap state_of is ∙ state_of-took h a)) (IsDead-took (state_of h) role asks now reply a o sound taken dead)

IsDead-leads : (h : History) (exchanges : List Exchange) (after : History) (o : ℕ) → IsSound (state_of h) → Leads h exchanges after → IsDead (state_of h) o → IsDead (state_of after) o
IsDead-leads h [] after o sound is dead = subst (λ k. IsDead (state_of k) o) (sym is) dead
IsDead-leads h (e ∷ exchanges) after o sound leads dead =
    IsDead-leads leads.0 exchanges after o (IsSound-step h e.role e.request e.now e.reply leads.0 sound leads.1) leads.2
    (IsDead-outcome h e.role e.request e.now e.reply leads.0 o sound (outcome_of leads.1) dead)

pub absent_stay_absent : (h after : History) (object : ℕ) (exchanges : List Exchange) → IsSound (state_of h) → object < next_of h → present (state_of h) object ≡ Absent → Leads h exchanges after → present (state_of after) object ≡ Absent
absent_stay_absent h after object exchanges sound born gone leads = (IsDead-leads h exchanges after object sound leads (record { born = born; gone = gone })).gone

-- a change that a Delete asks for makes its object dead
IsDead-deleted : (s : State) (role : Role) (object now : ℕ) (reply : Reply) (a : Accepted) → IsSound s → IsTaken s role (request.Update (object_request.Delete object)) now reply a → IsDead (took s a) object
IsDead-deleted s role object now reply a sound taken =
    let is : Delete object ≡ a.change = let e : Some (Delete object) ≡ Some a.change = taken.asked_for in cc in
    let of_it : is_change_of object a.change ≡ true = subst (λ c. is_change_of object c ≡ true) is (eq-eqb object object refl) in
    let acts : ActsAtItsMoment s (took s a) a = ActsAtItsMoment-took s a sound (moment_is_later s role (request.Update (object_request.Delete object)) now reply a taken) in
    record {
      born = granted_is_born s role (request.Update (object_request.Delete object)) a.change object sound.unborn taken.granted taken.asked_for of_it;
      gone = acts.changed object of_it ∙ ap (λ c. effect c a.moment (present s object)) (sym is);
    }

IsDead-delete : (h : History) (role : Role) (object now moment : ℕ) (after : History) → IsSound (state_of h) → Outcome h role (request.Update (object_request.Delete object)) now (Changed moment) after → IsDead (state_of after) object
IsDead-delete h role object now moment after sound (OnlySaw is answers) = absurd (true≢false answers)
IsDead-delete h role object now moment after sound (TookIt a is taken) = subst (λ k. IsDead k object) (sym (ap state_of is ∙ state_of-took h a)) (IsDead-deleted (state_of h) role object now (Changed moment) a sound taken)

pub dead_stays_absent : (h after later : History) (role : Role) (object now moment : ℕ) (exchanges : List Exchange) → IsSound (state_of h) → Step h role (request.Update (object_request.Delete object)) now (Changed moment) after → Leads after exchanges later → present (state_of later) object ≡ Absent
dead_stays_absent h after later role object now moment exchanges sound step leads =
    (IsDead-leads after exchanges later object (IsSound-step h role (request.Update (object_request.Delete object)) now (Changed moment) after sound step) leads
    (IsDead-delete h role object now moment after sound (outcome_of step))).gone
