-- The promise of a run, from what its sessions and its drive are known to be.
use Rattle.std.proofs.Common.{◌≡◌, ◌∙◌, ◌+◌, if◌then◌else◌, ℕ, Bool, true, false, cond, IfSome, List, [], ◌∷◌, Option, Some, None, ap, arith, length, refl, sym, subst}
use Rattle.std.specs.List.{AllZip, count_by}
use Rattle.std.specs.Prelude.{MatchBool}
use Rattle.std.proofs.lemmas.List.Sums.{sum_by-cons}
use Rattle.s4_types.specs.History.{Base, accepted}
use Rattle.s4_types.specs.declared.changes.Accepted.{Accepted}
use Rattle.s4_types.specs.declared.requests.Request.{Request}
use Rattle.s4_types.specs.declared.requests.Role.{Role}
use Rattle.s4_types.specs.declared.replies.Reply.{Reply}
use Rattle.s4_model.specs.Exchanges.{Exchange, Leads}
use Rattle.s4_model.specs.Promise.{Session, StepsBeside, beginning, GoesOn}
use Rattle.rpc.specs.declared.items.Item.{Item}
use Rattle.rpc.specs.declared.items.Item.TheVariants.{Whole, BadFrame}
use Rattle.segment_word.specs.AcceptRule.{FitsLedger}
use Rattle.segment_word.specs.AcceptViews.{Ledger, Told, caught_up, credited}
use Rattle.segment_table.specs.Used.{HoldsUsedBlocks}
use Rattle.version_store.specs.Store.{IsStore}
use Rattle.drive.specs.Answering.{is_acceptance}
use Rattle.drive.specs.Fields.{DriveFields, SessionFields, history_of, state_in, store_of}
use Rattle.drive.specs.Keeping.{DecodesWhereVisible}
use Rattle.image_parts.specs.Image.{image_in}
use Rattle.serving.specs.Answering.{Turn, Run as Asks}
use Rattle.serving.specs.Session.{Serves}
use Rattle.serving.specs.declared.ends.ServeEnd.{ServeEnd}
use Rattle.server.specs.Accounts.{PartFields, requests_in, changes_in}
use Rattle.server.specs.Acknowledged.{Acknowledges, AreAcknowledged}
use Rattle.server.specs.Attending.{IsAttended, SeatFields, SeatSteps}
use Rattle.server.specs.Drawing.{AreTicks, ClockFields, DrawsNothing}
use Rattle.server.specs.Sequence.{Event, Answers, Tends, Makes, is_answer, moments_of}
use Rattle.server.specs.Sharing.{SharedStep}
use Rattle.server.proofs.Ticks.{AreTicksFrom, answer_ticks, first_tick, later_ticks, ticks_from_first}
use Rattle.server.specs.declared.clocks.Undrawn.{Undrawn}
use Rattle.server.specs.declared.running.Outcome.{Outcome}
use Rattle.server.specs.declared.running.Outcome.TheVariants.{Waiting, Served, Refused}
use Rattle.verifier.specs.Opened.{TellsBase}
use Rattle.verifier.specs.Saved.{SpellsSaved}
use Rattle.s4d_command.specs.declared.Run.{Run}
use Rattle.s4d_command.specs.declared.sessions.RunSession.{RunSession}
use Rattle.s4d.specs.Running.{Came, RunsImage, RunsSession}
use Rattle.s4d.specs.Promised.{AnswersBeside, ComesTo, Counted, HaveMoments, IsSessionOf, KeepsItsPromise}

-- ---- a backend seen as another

-- Where each step of a backend is one of another, seen so, whatever the one serves the other does.
module _ {B D C : Type 0} (steps : B → Request → ℕ → Reply → B → Type 0) (others : D → Request → ℕ → Reply → D → Type 0) (draws : C → ℕ → C → Type 0) (seen_as : B → D)
    (same : (b c : B) (request : Request) (now : ℕ) (reply : Reply) → steps b request now reply c → others (seen_as b) request now reply (seen_as c)) where
  turned : (item : Item Request) (moments : List ℕ) (reply : Reply) (old new : B) → Turn steps draws item moments reply old new → Turn others draws item moments reply (seen_as old) (seen_as new)
  turned (Whole request) moments reply old new is = (is.0, is.1, same old new request is.0 reply is.2)
  turned BadFrame moments reply old new is = (is.0, is.1, ap seen_as is.2)

  asked : (items : List (Item Request)) (moments : List ℕ) (replies : List Reply) (old new : B) → Asks steps draws items moments replies old new → Asks others draws items moments replies (seen_as old) (seen_as new)
  asked [] moments replies old new is = (is.0, is.1, ap seen_as is.2)
  asked (item ∷ items) moments replies old new is =
      (is.0, is.1, is.2, is.3, seen_as is.4, is.5, is.6, turned item is.0 is.2 old is.4 is.7, asked items is.1 is.3 is.4 new is.8)

  abbrev serves_so : (end : ServeEnd) (old new : B) (before after : C) (input output input' output' : Option (List ℕ)) → Serves steps draws [] end old before input output new after input' output'
      → Serves others draws [] end (seen_as old) before input output (seen_as new) after input' output'
  serves_so end old new before after input output input' output' is = record {
    stream = is.stream;
    read = is.read;
    over = is.over;
    finishes = record {
      items = is.finishes.items;
      taken_up = is.finishes.taken_up;
      replies = is.finishes.replies;
      answered = record {
        moments = is.finishes.answered.moments;
        run = asked is.finishes.items is.finishes.answered.moments is.finishes.replies old new is.finishes.answered.run;
        drawn = is.finishes.answered.drawn;
      };
      written = is.finishes.written;
      wrote = is.finishes.wrote;
      saying = is.finishes.saying;
    };
  }

-- ---- one session

abbrev seen_of : SessionFields → Session
seen_of s = record { role = s.role; seen = s.told.seen }

-- a session with what is counted of it, seen so
abbrev seat_seen : SeatFields → Counted
seat_seen seat = record { session = seen_of seat.session; requests = seat.requests }

told_seen : (accepts : Bool) (l : Ledger) (t : Told) → (if accepts then credited l t else caught_up l t).seen ≡ accepted l.history
told_seen true l t = refl
told_seen false l t = refl

steps_beside : (base : Base) (old new : SessionFields) (request : Request) (now : ℕ) (reply : Reply) → SharedStep base 0 old request now reply new → StepsBeside base (seen_of old) request now reply (seen_of new)
steps_beside base old new request now reply is = record {
  before = history_of is.before;
  after = history_of is.after;
  begins = is.there.begins;
  had_seen = is.had_seen.seen;
  step = is.step;
  has_seen = ap seen_of is.told ∙ ap (λ (seen : List Accepted). record { role = old.role; seen = seen }) (told_seen (is_acceptance reply) is.after.ledger old.told);
}

answers_beside : (base : Base) (clock : ClockFields) (old new : SeatFields) (request : Request) (given : ℕ) (reply : Reply) → SeatSteps base 0 (AreTicks clock) old request given reply new
    → AnswersBeside base clock (seat_seen old) request given reply (seat_seen new)
answers_beside base clock old new request given reply is =
    let a = is.answer in
    let ticks = answer_ticks base 0 clock old.requests old.session new.session request reply new.clock a in
    record {
      count = length a.before + 1;
      late = ticks.0;
      step = subst (λ (m : ℕ). StepsBeside base (seen_of old.session) request m reply (seen_of new.session)) ticks.1 (steps_beside base old.session new.session request a.now reply a.step);
      counted = is.counted;
    }

-- ---- how many changes replies accept

count_cons : {X : Type 0} (p : X → Bool) (x : X) (xs : List X) → count_by p (x ∷ xs) ≡ cond (p x) 1 0 + count_by p xs
count_cons p x xs = sum_by-cons (λ y. cond (p y) 1 0) x xs

-- one reply more, which acknowledges a number or none
one_more : (b : Bool) (changes : List Accepted) (item : Item Request) (reply : Reply) (items : List (Item Request)) (others : List Reply) (numbers : List ℕ)
    → ((rest : List ℕ) → AreAcknowledged changes items others rest → length rest ≡ count_by is_acceptance others)
    → MatchBool b ((n : ℕ) × (rest : List ℕ) × (numbers ≡ n ∷ rest) × Acknowledges changes item reply n × AreAcknowledged changes items others rest) (AreAcknowledged changes items others numbers)
    → length numbers ≡ cond b 1 0 + count_by is_acceptance others
one_more true changes item reply items others numbers more own =
    let len = ap length own.2 in
    let rest = more own.1 own.4 in
    omega (arith, len, rest)
one_more false changes item reply items others numbers more own = let all = more numbers own in omega (arith, all)

-- there are as many numbers as replies that accept
acknowledged : {B C : Type 0} (steps : B → Request → ℕ → Reply → B → Type 0) (draws : C → ℕ → C → Type 0) (changes : List Accepted) (items : List (Item Request)) (moments : List ℕ) (replies : List Reply) (old new : B)
    → Asks steps draws items moments replies old new → (numbers : List ℕ) → AreAcknowledged changes items replies numbers → length numbers ≡ count_by is_acceptance replies
acknowledged steps draws changes [] moments replies old new is numbers own = ap length own ∙ sym (ap (count_by is_acceptance) is.1)
acknowledged steps draws changes (item ∷ items) moments replies old new is numbers own =
    one_more (is_acceptance is.2) changes item is.2 items is.3 numbers (λ rest. acknowledged steps draws changes items is.1 is.3 is.4 new is.8 rest)
    (subst (λ (l : List Reply). AreAcknowledged changes (item ∷ items) l numbers) is.6 own)
    ∙ (sym (count_cons is_acceptance is.2 is.3) ∙ sym (ap (count_by is_acceptance) is.6))

-- ---- what a session came to

came_to : (base : Base) (left : Ledger) (clock : ClockFields) (role : Role) (outcome : Outcome) (session : Option SessionFields) (part : Option PartFields) (input output input' output' : Option (List ℕ))
    → IsAttended base 0 (AreTicks clock) role outcome session part input output input' output' → IfSome session (λ last. FitsLedger left last.told)
    → ComesTo base left.history clock role outcome (requests_in part) (changes_in part) input output input' output'
came_to base left clock role Waiting session part input output input' output' is told = is
came_to base left clock role (Served end) None part input output input' output' is told = absurd is
came_to base left clock role (Served end) (Some last) None input output input' output' is told = absurd is
came_to base left clock role (Served end) (Some last) (Some part) input output input' output' is told =
    let finishes = is.serves.finishes in
    let first : SeatFields = record { session = is.first; requests = 0; clock = is.opened } in
    let ended : SeatFields = record { session = last; requests = part.requests; clock = is.closed } in
    let made = acknowledged {B = SeatFields} {C = Undrawn} (SeatSteps base 0 (AreTicks clock)) DrawsNothing last.told.seen finishes.items finishes.answered.moments finishes.replies first ended finishes.answered.run last.told.mine is.own in
    record {
      first = seen_of is.first;
      role_is = is.seated.fresh.role_is;
      last = seen_of last;
      before = is.before;
      after = is.after;
      serves = serves_so (SeatSteps base 0 (AreTicks clock)) (AnswersBeside base clock) DrawsNothing seat_seen (λ old new request given reply. answers_beside base clock old new request given reply) end first ended is.before is.after input output input' output' is.serves;
      asked = is.asked;
      taken = is.accepted ∙ made;
      seen = told.seen;
    }
came_to base left clock role (Refused refusal) session part input output input' output' is told = (is.0, ap requests_in is.2, ap changes_in is.2, is.3, is.4)

session_of : (base : Base) (drive : DriveFields) (clock : ClockFields) (opens : List ℕ → Option (List ℕ) → Type 0) (files files' : List ℕ → Option (List ℕ)) (there : Bool) (asked : RunSession) (came : Came)
    → RunsSession base 0 (AreTicks clock) opens files files' there drive asked came → IsSessionOf base (history_of drive) clock opens files files' there asked came
session_of base drive clock opens files files' there asked came is =
    let Comes : ℕ → ℕ → Type 0 = λ requests changes. ComesTo base (history_of drive) clock asked.role came.outcome requests changes is.input is.output is.unread is.written in
    let here : Comes (requests_in is.part) (changes_in is.part) = came_to base drive.ledger clock asked.role came.outcome is.session is.part is.input is.output is.unread is.written is.attended is.told in
    record {
      input = is.input;
      output = is.output;
      first = is.first;
      unread = is.unread;
      written = is.written;
      comes_to = subst (λ (n : ℕ). Comes n came.changes) (sym is.requests) (subst (λ (n : ℕ). Comes (requests_in is.part) n) (sym is.changes) here);
      left_in = is.left;
    }

zip_weaker : {A B : Type 0} (P Q : A → B → Type 0) → ((a : A) (b : B) → P a b → Q a b) → (xs : List A) (ys : List B) → AllZip P xs ys → AllZip Q xs ys
zip_weaker P Q weaker [] [] each = tt
zip_weaker P Q weaker [] (y ∷ ys) each = absurd each
zip_weaker P Q weaker (x ∷ xs) [] each = absurd each
zip_weaker P Q weaker (x ∷ xs) (y ∷ ys) each = (weaker x y each.0, zip_weaker P Q weaker xs ys each.1)

-- ---- what requests made of the drive

-- what was asked and answered in events
abbrev exchanges_in : List Event → List Exchange
exchanges_in [] = []
exchanges_in (Answers seat role request now reply ∷ events) = record { role = role; request = request; now = now; reply = reply } ∷ exchanges_in events
exchanges_in (Tends ∷ events) = exchanges_in events

-- they lead from the one history to the other
led : (first : DriveFields) (events : List Event) (last : DriveFields) → Makes first events last → Leads (history_of first) (exchanges_in events) (history_of last)
led first [] last made = ap history_of made
led first (Answers seat role request now reply ∷ events) last made = (history_of made.0, made.1.step, led made.0 events last made.2)
led first (Tends ∷ events) last made = subst (λ (l : Ledger). Leads l.history (exchanges_in events) (history_of last)) made.1 (led made.0 events last made.2)

-- at the clock's moments
at_moments : (clock : ClockFields) (k : ℕ) (events : List Event) → AreTicksFrom clock k (moments_of events) → HaveMoments clock k (exchanges_in events)
at_moments clock k [] ticks = tt
at_moments clock k (Answers seat role request now reply ∷ events) ticks =
    (first_tick clock k now (moments_of events) ticks, at_moments clock (k + 1) events (later_ticks clock k now (moments_of events) ticks))
at_moments clock k (Tends ∷ events) ticks = at_moments clock k events ticks

-- and there are as many as answers
as_many : (events : List Event) → length (exchanges_in events) ≡ count_by is_answer events
as_many [] = refl
as_many (Answers seat role request now reply ∷ events) =
    let cons : count_by is_answer (Answers seat role request now reply ∷ events) ≡ 1 + count_by is_answer events = count_cons is_answer (Answers seat role request now reply) events in
    let rest = as_many events in
    omega (arith, cons, rest)
as_many (Tends ∷ events) =
    let cons : count_by is_answer (Tends ∷ events) ≡ 0 + count_by is_answer events = count_cons is_answer Tends events in
    let rest = as_many events in
    omega (arith, cons, rest)

-- ---- the run

-- what is saved goes on where the drive ended
abbrev pub WhatIsSavedGoesOn : Type 0
WhatIsSavedGoesOn = (d : DriveFields) (bytes : List ℕ) (base : Base) → IsStore (store_of d) → HoldsUsedBlocks d.store.table → DecodesWhereVisible (store_of d) (state_in d) → SpellsSaved d bytes → TellsBase bytes base
    → GoesOn (history_of d) (beginning base)

pub promised : WhatIsSavedGoesOn → (opens : List ℕ → Option (List ℕ) → Type 0) (run : Run) (files files' : List ℕ → Option (List ℕ)) (ended : Bool) → RunsImage opens run files files' (files' run.image.now) ended
    → KeepsItsPromise opens run files files' ended
promised law opens run files files' ended is =
    let drive : DriveFields = is.leaves.drive in
    let start : is.image.clock ≡ is.base.clock = is.verified.told.clock ∙ sym is.told.clock in
    let settled = is.leaves.settled in
    let spelled = is.leaves.spelled in
    let there = is.leaves.there in
    let come = settled.come in
    let clock : ClockFields = record { start = is.image.clock; tick = run.tick } in
    let exchanges = exchanges_in come.events in
    let Each : ℕ → Type 0 = λ n. AllZip (IsSessionOf is.base (history_of drive) (record { start = n; tick = run.tick }) opens files files' settled.there) run.sessions.items settled.came in
    let Moments : ℕ → Type 0 = λ n. HaveMoments (record { start = n; tick = run.tick }) 0 exchanges in
    let led_so = led come.first come.events drive come.made in
    record {
      bytes = is.verified.bytes;
      read = is.verified.read;
      base = is.base;
      told = record { parts = image_in is.verified.bytes; spelled = is.verified.spelled; told = is.told };
      left = history_of drive;
      came = settled.came;
      there = settled.there;
      each = subst Each start (zip_weaker (RunsSession is.base 0 (AreTicks clock) opens files files' settled.there drive) (IsSessionOf is.base (history_of drive) clock opens files files' settled.there)
          (session_of is.base drive clock opens files files' settled.there) run.sessions.items settled.came settled.each);
      ends = settled.ends;
      exchanges = exchanges;
      made = subst (λ (l : Ledger). Leads l.history exchanges (history_of drive)) come.began led_so;
      moments = subst Moments start (at_moments clock 0 come.events (ticks_from_first clock (moments_of come.events) come.drawn));
      requests = as_many come.events ∙ come.answered;
      changes = settled.changes;
      saved = spelled.bytes;
      kept = spelled.kept;
      goes_on = λ next tells. law drive spelled.bytes next there.store there.frames.used there.decodes spelled.spelled tells;
    }
