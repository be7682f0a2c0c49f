-- A session's own changes are those that its replies acknowledge.
use Rattle.std.proofs.Common.{◌≡◌, ℕ, zero, suc, ◌+◌, ◌-◌, Bool, true, false, List, [], ◌∷◌, ◌++◌, length, if◌then◌else◌, cond, refl, sym, ap, ◌∙◌, subst, arith, length-append, append_assoc, append-nil, Option, None, Some}
use Rattle.std.specs.Prelude.{MatchBool, count_by}
use Rattle.std.proofs.lemmas.List.Sums.{sum_by-cons}
use mathlib.Core.Option.{some, some-ne-none}
use mathlib.Core.List.{IsPrefix}
use lib.ListN.{get_elem?}
use Rattle.s4_types.specs.History.{Base, History, Record, Took, Seen, accepted}
use Rattle.s4_types.specs.declared.changes.Accepted.{Accepted}
use Rattle.s4_types.specs.declared.versions.Version.{Version}
use Rattle.s4_types.specs.declared.versions.Version.TheVariants.{Absent, Live}
use Rattle.s4_types.specs.declared.requests.Role.{Role}
use Rattle.s4_types.specs.declared.requests.Request.{Request}
use Rattle.s4_types.specs.declared.requests.Request.TheVariants as request
use Rattle.s4_types.specs.declared.requests.Question.TheVariants as question
use Rattle.s4_types.specs.declared.replies.Reply.{Reply}
use Rattle.lemmas.proofs.List.{prefix_trans}
use Rattle.s4_model.specs.State.{State, state_of, grown, took, seen}
use Rattle.s4_model.specs.Step.{Step, Refuses, Serves, Alters, Reads, judged, change_of, reply_at, data_of, attributes_of, reply_to_read, accepted_record}
use Rattle.segment_word.specs.AcceptViews.{Ledger, Told, caught_up, credited, count_of}
use Rattle.rpc.specs.declared.items.Item.{Item}
use Rattle.rpc.specs.declared.items.Item.TheVariants.{Whole, BadFrame}
use Rattle.serving.specs.Answering.{Turn, Run}
use Rattle.drive.specs.Fields.{SessionFields}
use Rattle.drive.specs.Answering.{is_acceptance, told_after}
use Rattle.drive.proofs.Served.{accepts_change}
use Rattle.server.specs.Drawing.{DrawsNothing}
use Rattle.server.specs.declared.clocks.Undrawn.{Undrawn}
use Rattle.server.specs.Attending.{IsSeated, SeatFields, SeatSteps, is_request}
use Rattle.server.specs.Sharing.{SharedStep}
use Rattle.server.specs.Acknowledged.{Acknowledges, AreAcknowledged}

-- ---- beginnings of lists

at_longer : {A : Type 0} (xs more : List A) (i : ℕ) (a : A) → get_elem? xs i ≡ some a → get_elem? (xs ++ more) i ≡ some a
at_longer [] more i a at = absurd (some-ne-none a (sym at))
at_longer (x ∷ xs) more zero a at = at
at_longer (x ∷ xs) more (suc i) a at = at_longer xs more i a at

at_last : {A : Type 0} (xs : List A) (a : A) → get_elem? (xs ++ a ∷ []) (length xs) ≡ some a
at_last [] a = refl
at_last (x ∷ xs) a = at_last xs a

-- a reply acknowledges a change in a longer list, too
in_longer : (changes later : List Accepted) (item : Item Request) (reply : Reply) (n : ℕ) → IsPrefix changes later → Acknowledges changes item reply n → Acknowledges later item reply n
in_longer changes later item reply n grows a = record {
  change = a.change;
  there = subst (λ (l : List Accepted). get_elem? l (n - 1) ≡ some a.change) grows.1 (at_longer changes grows.0 (n - 1) a.change a.there);
  numbered = a.numbered;
  asked = a.asked;
  reply_is = a.reply_is;
}

-- ---- which replies accept

-- whether there is a reply that accepts
abbrev pub accepts : Option Reply → Bool
accepts None = false
accepts (Some reply) = is_acceptance reply

data_accepts_nothing : (v : Version) (offset len : ℕ) → accepts (data_of v offset len) ≡ false
data_accepts_nothing Absent offset len = refl
data_accepts_nothing (Live content attribute created changed) offset len = refl

attributes_accept_nothing : (v : Version) → accepts (attributes_of v) ≡ false
attributes_accept_nothing Absent = refl
attributes_accept_nothing (Live content attribute created changed) = refl

pub reads_accept_nothing : (s : State) (r : Request) → accepts (reply_to_read s r) ≡ false
reads_accept_nothing s (request.Query (question.Read o offset len at)) = data_accepts_nothing _ offset len
reads_accept_nothing s (request.Query (question.GetAttr o at)) = attributes_accept_nothing _
reads_accept_nothing s (request.Query (question.Audit from most)) = refl
reads_accept_nothing s (request.Update update) = refl
reads_accept_nothing s (request.Control control) = refl

-- ---- one step, and all of them

-- Between the first and the last a session gained these numbers: those of the changes that the replies acknowledge.
pub record Gains (items : List (Item Request)) (replies : List Reply) (old new : Told) : Type 0 where
  pub numbers : List ℕ
  pub mine : new.mine ≡ old.mine ++ numbers
  pub grows : IsPrefix old.seen new.seen
  pub own : AreAcknowledged new.seen items replies numbers

-- the number that one reply brings, if it does
abbrev IsGain : Bool → List Accepted → Item Request → Reply → List ℕ → Type 0
IsGain b changes item reply numbers = MatchBool b ((n : ℕ) × (numbers ≡ n ∷ []) × Acknowledges changes item reply n) (numbers ≡ [])

record GainsOne (item : Item Request) (reply : Reply) (old new : Told) : Type 0 where
  pub numbers : List ℕ
  pub mine : new.mine ≡ old.mine ++ numbers
  pub grows : IsPrefix old.seen new.seen
  pub one : IsGain (is_acceptance reply) new.seen item reply numbers

-- nothing was accepted
none_gained : (l l' : Ledger) (item : Item Request) (reply : Reply) (old new : Told) → IsPrefix old.seen (accepted l.history) → accepted l'.history ≡ accepted l.history
    → is_acceptance reply ≡ false → new ≡ told_after reply l' old → GainsOne item reply old new
none_gained l l' item reply old new had same not told =
    let is : new ≡ caught_up l' old = told ∙ ap (λ (b : Bool). if b then credited l' old else caught_up l' old) not in
    record {
      numbers = [];
      mine = ap (λ (t : Told). t.mine) is ∙ sym (append-nil old.mine);
      grows = subst (IsPrefix old.seen) (sym (ap (λ (t : Told). t.seen) is ∙ same)) had;
      one = subst (λ (b : Bool). IsGain b new.seen item reply []) (sym not) refl;
    }

-- a change was accepted
one_gained : (l l' : Ledger) (r : Request) (reply : Reply) (old new : Told) (s : State) (a : Accepted) → IsPrefix old.seen (accepted l.history) → accepted l'.history ≡ accepted l.history ++ a ∷ []
    → a.number ≡ length (accepted l.history) + 1 → change_of s r ≡ Some a.change → reply ≡ reply_at a.change a.moment → new ≡ told_after reply l' old → GainsOne (Whole r) reply old new
one_gained l l' r reply old new s a had more number asked reply_is told =
    let yes : is_acceptance reply ≡ true = ap is_acceptance reply_is ∙ accepts_change a.change a.moment in
    let is : new ≡ credited l' old = told ∙ ap (λ (b : Bool). if b then credited l' old else caught_up l' old) yes in
    let seen_is : new.seen ≡ accepted l.history ++ a ∷ [] = ap (λ (t : Told). t.seen) is ∙ more in
    let n : ℕ = count_of l' in
    let n_is : n ≡ length (accepted l.history) + 1 = ap length more ∙ length-append (accepted l.history) (a ∷ []) in
    let place : n - 1 ≡ length (accepted l.history) = omega (arith, n_is) in
    record {
      numbers = n ∷ [];
      mine = ap (λ (t : Told). t.mine) is;
      grows = subst (IsPrefix old.seen) (sym seen_is) (prefix_trans old.seen (accepted l.history) (accepted l.history ++ a ∷ []) had (a ∷ [], refl));
      one = subst (λ (b : Bool). IsGain b new.seen (Whole r) reply (n ∷ [])) (sym yes) (
        n,
        refl,
        record {
          change = a;
          there = subst (λ (l : List Accepted). get_elem? l (n - 1) ≡ some a) (sym seen_is) (subst (λ (i : ℕ). get_elem? (accepted l.history ++ a ∷ []) i ≡ some a) (sym place) (at_last (accepted l.history) a));
          numbered = number ∙ sym n_is;
          asked = (s, asked);
          reply_is = reply_is;
        },
      );
    }

-- a reply's number, if it brings one, comes first
before_others : (b : Bool) (changes later : List Accepted) (item : Item Request) (reply : Reply) (items : List (Item Request)) (others : List Reply) (numbers more : List ℕ) → IsPrefix changes later
    → IsGain b changes item reply numbers → AreAcknowledged later items others more
    → MatchBool b ((n : ℕ) × (rest : List ℕ) × (numbers ++ more ≡ n ∷ rest) × Acknowledges later item reply n × AreAcknowledged later items others rest) (AreAcknowledged later items others (numbers ++ more))
before_others true changes later item reply items others numbers more grows one all = (one.0, more, ap (λ (l : List ℕ). l ++ more) one.1, in_longer changes later item reply one.0 grows one.2, all)
before_others false changes later item reply items others numbers more grows one all = subst (λ (l : List ℕ). AreAcknowledged later items others (l ++ more)) (sym one) all

joined : (item : Item Request) (items : List (Item Request)) (reply : Reply) (others : List Reply) (old mid new : Told) → GainsOne item reply old mid → Gains items others mid new → Gains (item ∷ items) (reply ∷ others) old new
joined item items reply others old mid new one all = record {
  numbers = one.numbers ++ all.numbers;
  mine = all.mine ∙ (ap (λ (l : List ℕ). l ++ all.numbers) one.mine ∙ append_assoc old.mine one.numbers all.numbers);
  grows = prefix_trans old.seen mid.seen new.seen one.grows all.grows;
  own = before_others (is_acceptance reply) mid.seen new.seen item reply items others one.numbers all.numbers all.grows one.one all.own;
}

module _ (by_moments : (h : History) (now : ℕ) → state_of (grown h (Seen now)) ≡ seen (state_of h) now) (by_changes : (h : History) (a : Accepted) → state_of (grown h (Took a)) ≡ took (state_of h) a) where
  saw : (h h' : History) (now : ℕ) → h' ≡ grown h (Seen now) → accepted h' ≡ accepted h
  saw h h' now is = ap accepted is ∙ ap (λ (s : State). s.changes) (by_moments h now)

  by_step : (l l' : Ledger) (role : Role) (r : Request) (now : ℕ) (reply : Reply) (old new : Told) → IsPrefix old.seen (accepted l.history) → Step l.history role r now reply l'.history
      → new ≡ told_after reply l' old → GainsOne (Whole r) reply old new
  by_step l l' role r now reply old new had (Refuses refusal is may grows) told = none_gained l l' (Whole r) reply old new had (saw l.history l'.history now grows) (ap is_acceptance is) told
  by_step l l' role r now reply old new had (Serves rec free (Alters c asked is rec_is) grows) told =
      let a : Accepted = accepted_record (state_of l.history) c now in
      one_gained l l' r reply old new (state_of l.history) a had
      (ap accepted grows ∙ (ap (λ (x : Record). accepted (grown l.history x)) rec_is ∙ ap (λ (s : State). s.changes) (by_changes l.history a)))
      refl asked is told
  by_step l l' role r now reply old new had (Serves rec free (Reads is rec_is) grows) told =
      none_gained l l' (Whole r) reply old new had (saw l.history l'.history now (grows ∙ ap (grown l.history) rec_is)) (sym (ap accepts is) ∙ reads_accept_nothing (judged l.history r now) r) told

  by_turn : (base : Base) (reserve : ℕ) (may : List ℕ → Type 0) (item : Item Request) (moments : List ℕ) (reply : Reply) (old new : SeatFields) → Turn (SeatSteps base reserve may) (DrawsNothing {C = Undrawn}) item moments reply old new
      → GainsOne item reply old.session.told new.session.told × (new.requests ≡ old.requests + cond (is_request item) 1 0)
  by_turn base reserve may (Whole r) moments reply old new t =
      let a = t.2.answer in
      let s : SharedStep base reserve old.session r a.now reply new.session = a.step in (
        by_step s.before.ledger s.after.ledger old.session.role r a.now reply old.session.told new.session.told s.had_seen.seen s.step (ap (λ (f : SessionFields). f.told) s.told),
        t.2.counted,
      )
  by_turn base reserve may BadFrame moments reply old new t = (
    record {
      numbers = [];
      mine = ap (λ (f : SeatFields). f.session.told.mine) t.2 ∙ sym (append-nil old.session.told.mine);
      grows = subst (λ (f : SeatFields). IsPrefix old.session.told.seen f.session.told.seen) (sym t.2) ([], append-nil old.session.told.seen);
      one = subst (λ (x : Reply). IsGain (is_acceptance x) new.session.told.seen BadFrame x []) (sym t.1) refl;
    },
    (let same : new.requests ≡ old.requests = ap (λ (f : SeatFields). f.requests) t.2 in omega (arith, same)),
  )

  all_gained : (base : Base) (reserve : ℕ) (may : List ℕ → Type 0) (items : List (Item Request)) (moments : List ℕ) (replies : List Reply) (old new : SeatFields)
      → Run (SeatSteps base reserve may) (DrawsNothing {C = Undrawn}) items moments replies old new → Gains items replies old.session.told new.session.told × (new.requests ≡ old.requests + count_by is_request items)
  all_gained base reserve may [] moments replies old new run = (
    record {
      numbers = [];
      mine = ap (λ (f : SeatFields). f.session.told.mine) run.2 ∙ sym (append-nil old.session.told.mine);
      grows = subst (λ (f : SeatFields). IsPrefix old.session.told.seen f.session.told.seen) (sym run.2) ([], append-nil old.session.told.seen);
      own = refl;
    },
    (let same : new.requests ≡ old.requests = ap (λ (f : SeatFields). f.requests) run.2 in omega (arith, same)),
  )
  all_gained base reserve may (item ∷ items) moments replies old new run =
      let one = by_turn base reserve may item run.0 run.2 old run.4 run.7 in
      let all = all_gained base reserve may items run.1 run.3 run.4 new run.8 in
      let first : run.4.requests ≡ old.requests + cond (is_request item) 1 0 = one.1 in
      let others : new.requests ≡ run.4.requests + count_by is_request items = all.1 in
      let cons : count_by is_request (item ∷ items) ≡ cond (is_request item) 1 0 + count_by is_request items = sum_by-cons (λ x. cond (is_request x) 1 0) item items in (
        subst (λ (l : List Reply). Gains (item ∷ items) l old.session.told new.session.told) (sym run.6)
            (joined item items run.2 run.3 old.session.told run.4.session.told new.session.told one.0 all.0),
        omega (arith, first, others, cons),
      )

  -- of a session that was just had
  pub all_own : (base : Base) (reserve : ℕ) (may : List ℕ → Type 0) (role : Role) (items : List (Item Request)) (moments : List ℕ) (replies : List Reply) (first last : SeatFields) → IsSeated base role first
      → Run (SeatSteps base reserve may) (DrawsNothing {C = Undrawn}) items moments replies first last
      → AreAcknowledged last.session.told.seen items replies last.session.told.mine × (last.requests ≡ count_by is_request items)
  all_own base reserve may role items moments replies first last seated run =
      let all = all_gained base reserve may items moments replies first last run in
      let g : Gains items replies first.session.told last.session.told = all.0 in
      let none = seated.requests in
      let count : last.requests ≡ first.requests + count_by is_request items = all.1 in (
        subst (AreAcknowledged last.session.told.seen items replies) (sym (g.mine ∙ ap (λ (l : List ℕ). l ++ g.numbers) seated.fresh.mine)) g.own,
        omega (arith, count, none),
      )
