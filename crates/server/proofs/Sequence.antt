-- One event more of a run, and what follows from all of them.
use Rattle.std.proofs.Common.{◌≡◌, ℕ, ◌+◌, ◌-◌, ◌^◌, ◌++◌, List, [], ◌∷◌, Bool, true, cond, length, min, refl, sym, ap, subst, ◌∙◌, arith, append_assoc, append-nil}
use Rattle.std.proofs.lemmas.List.Sums.{sum_by-append, sum_by-cons}
use Rattle.std.proofs.lemmas.Bool.{false≢true}
use Rattle.std.specs.List.{count_by}
use Rattle.s4_types.specs.declared.requests.Role.{Role}
use Rattle.s4_types.specs.declared.requests.Request.{Request}
use Rattle.s4_types.specs.declared.replies.Reply.{Reply}
use Rattle.segment_word.specs.AcceptViews.{Ledger, count_of}
use Rattle.drive.specs.Fields.{DriveFields}
use Rattle.drive.specs.Answering.{is_acceptance}
use Rattle.server.specs.Drawing.{MayGoOn}
use Rattle.server.specs.Sequence.{Event, Answers, Tends, IsAnswered, Makes, HasCome, is_answer, is_accepted, is_upkeep, moments_of}

-- how a count grows with one event
counted_more : (p : Event → Bool) (events : List Event) (event : Event) (n : ℕ) → count_by p events ≡ n → count_by p (events ++ event ∷ []) ≡ n + cond (p event) 1 0
counted_more p events event n is =
    let more : count_by p (events ++ event ∷ []) ≡ count_by p events + (0 + cond (p event) 1 0) = sum_by-append (λ x. cond (p x) 1 0) events (event ∷ []) in
    omega (arith, is, more)

-- a request more was answered
answered_more : (first : DriveFields) (events : List Event) (seat : ℕ) (role : Role) (request : Request) (now : ℕ) (reply : Reply) (d e : DriveFields) → Makes first events d
    → IsAnswered d seat role request now reply e → Makes first (events ++ Answers seat role request now reply ∷ []) e
answered_more first [] seat role request now reply d e same one =
    (e, subst (λ (f : DriveFields). IsAnswered f seat role request now reply e) same one, refl)
answered_more first (Answers seat' role' request' now' reply' ∷ events) seat role request now reply d e made one =
    (made.0, made.1, answered_more made.0 events seat role request now reply d e made.2 one)
answered_more first (Tends ∷ events) seat role request now reply d e made one = (made.0, made.1, answered_more made.0 events seat role request now reply d e made.2 one)

-- a step of upkeep more was taken
tended_more : (first : DriveFields) (events : List Event) (d e : DriveFields) → Makes first events d → e.ledger ≡ d.ledger → Makes first (events ++ Tends ∷ []) e
tended_more first [] d e same ledger = (e, ledger ∙ ap (λ (f : DriveFields). f.ledger) same, refl)
tended_more first (Answers seat role request now reply ∷ events) d e made ledger = (made.0, made.1, tended_more made.0 events d e made.2 ledger)
tended_more first (Tends ∷ events) d e made ledger = (made.0, made.1, tended_more made.0 events d e made.2 ledger)

-- its moment is the last
moments_more : (events : List Event) (seat : ℕ) (role : Role) (request : Request) (now : ℕ) (reply : Reply) → moments_of (events ++ Answers seat role request now reply ∷ []) ≡ moments_of events ++ now ∷ []
moments_more [] seat role request now reply = refl
moments_more (Answers seat' role' request' now' reply' ∷ events) seat role request now reply = ap (λ (l : List ℕ). now' ∷ l) (moments_more events seat role request now reply)
moments_more (Tends ∷ events) seat role request now reply = moments_more events seat role request now reply

-- a step of upkeep has none
moments_tended : (events : List Event) → moments_of (events ++ Tends ∷ []) ≡ moments_of events
moments_tended [] = refl
moments_tended (Answers seat role request now reply ∷ events) = ap (λ (l : List ℕ). now ∷ l) (moments_tended events)
moments_tended (Tends ∷ events) = moments_tended events

-- each answer has one
pub moments_counted : (events : List Event) → length (moments_of events) ≡ count_by is_answer events
moments_counted [] = refl
moments_counted (Answers seat role request now reply ∷ events) =
    let cons : count_by is_answer (Answers seat role request now reply ∷ events) ≡ 1 + count_by is_answer events = sum_by-cons (λ x. cond (is_answer x) 1 0) (Answers seat role request now reply) events in
    let others = moments_counted events in
    omega (arith, cons, others)
moments_counted (Tends ∷ events) =
    let cons : count_by is_answer (Tends ∷ events) ≡ 0 + count_by is_answer events = sum_by-cons (λ x. cond (is_answer x) 1 0) Tends events in
    let others = moments_counted events in
    omega (arith, cons, others)

-- a moment more was drawn
pub drawn_more : {C : Type 0} (draws : C → ℕ → C → Type 0) (moments : List ℕ → Type 0) (old new : C) (now : ℕ) (drawn : List ℕ) → draws old now new → MayGoOn draws moments old drawn → MayGoOn draws moments new (drawn ++ now ∷ [])
drawn_more draws moments old new now drawn draw may more later rest = subst moments (sym (append_assoc drawn (now ∷ []) more)) (may (now ∷ more) later (new, draw, rest))

-- what was drawn may be drawn
pub drawn_so_far : {C : Type 0} (draws : C → ℕ → C → Type 0) (moments : List ℕ → Type 0) (clock : C) (drawn : List ℕ) → MayGoOn draws moments clock drawn → moments drawn
drawn_so_far draws moments clock drawn may = subst moments (append-nil drawn) (may [] clock refl)

pub come_first : (begins : DriveFields → Type 0) (moments : List ℕ → Type 0) (has_upkeep : Bool) (d : DriveFields) → begins d → moments [] → HasCome begins moments has_upkeep 0 0 d
come_first begins moments has_upkeep d began none = record { first = d; began = began; events = []; made = refl; drawn = none; answered = refl; accepted = refl; untended = λ _. refl }

-- so does a run of whose moments less is said
pub come_by : (begins : DriveFields → Type 0) (moments others : List ℕ → Type 0) (has_upkeep : Bool) (requests changes : ℕ) (d : DriveFields) → ((drawn : List ℕ) → moments drawn → others drawn)
    → HasCome begins moments has_upkeep requests changes d → HasCome begins others has_upkeep requests changes d
come_by begins moments others has_upkeep requests changes d less come = record {
  first = come.first;
  began = come.began;
  events = come.events;
  made = come.made;
  drawn = less (moments_of come.events) come.drawn;
  answered = come.answered;
  accepted = come.accepted;
  untended = come.untended;
}

pub come_answered : (begins : DriveFields → Type 0) (moments later : List ℕ → Type 0) (has_upkeep : Bool) (requests changes : ℕ) (d e : DriveFields) (seat : ℕ) (role : Role) (request : Request) (now : ℕ) (reply : Reply)
    → ((drawn : List ℕ) → moments drawn → later (drawn ++ now ∷ [])) → HasCome begins moments has_upkeep requests changes d → IsAnswered d seat role request now reply e
    → HasCome begins later has_upkeep (requests + 1) (changes + cond (is_acceptance reply) 1 0) e
come_answered begins moments later has_upkeep requests changes d e seat role request now reply draw come one =
    let event = Answers seat role request now reply in
    record {
      first = come.first;
      began = come.began;
      events = come.events ++ event ∷ [];
      made = answered_more come.first come.events seat role request now reply d e come.made one;
      drawn = subst later (sym (moments_more come.events seat role request now reply)) (draw (moments_of come.events) come.drawn);
      answered = counted_more is_answer come.events event requests come.answered;
      accepted = counted_more is_accepted come.events event changes come.accepted;
      untended = λ none. let more = counted_more is_upkeep come.events event 0 (come.untended none) in omega (arith, more);
    }

pub come_tended : (begins : DriveFields → Type 0) (moments : List ℕ → Type 0) (has_upkeep : Bool) (requests changes : ℕ) (d e : DriveFields)
    → HasCome begins moments has_upkeep requests changes d → has_upkeep ≡ true → e.ledger ≡ d.ledger → HasCome begins moments has_upkeep requests changes e
come_tended begins moments has_upkeep requests changes d e come tended ledger =
    let answered = counted_more is_answer come.events Tends requests come.answered in
    let accepted = counted_more is_accepted come.events Tends changes come.accepted in
    record {
      first = come.first;
      began = come.began;
      events = come.events ++ Tends ∷ [];
      made = tended_more come.first come.events d e come.made ledger;
      drawn = subst moments (sym (moments_tended come.events)) come.drawn;
      answered = omega (arith, answered);
      accepted = omega (arith, accepted);
      untended = λ none. absurd (false≢true (sym none ∙ tended));
    }

-- a step of upkeep accepts nothing
pub same_count : (accepted : ℕ) (l m : Ledger) → accepted ≡ min (count_of l) (2 ^ 64 - 1) → m ≡ l → accepted ≡ min (count_of m) (2 ^ 64 - 1)
same_count accepted l m is same = is ∙ ap (λ (k : Ledger). min (count_of k) (2 ^ 64 - 1)) (sym same)

-- a count that stops at the last number, and maybe one more
pub next_count : (n m accepted next more : ℕ) → accepted ≡ min n (2 ^ 64 - 1) → m ≡ n + more → next ≡ min (accepted + more) (2 ^ 64 - 1) → next ≡ min m (2 ^ 64 - 1)
next_count n m accepted next more is grows counts = omega (arith, is, grows, counts)
