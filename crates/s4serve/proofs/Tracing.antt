-- A receipt that covers the last step of a session covers each one before.
use Rattle.std.proofs.Common.{◌≡◌, ◌≤◌, ◌-◌, ◌^◌, ℕ, Bool, true, false, List, [], ◌∷◌, ◌++◌, length, min, Option, None, Some, refl, sym, ap, subst, arith}
use Rattle.std.specs.List.{AllByRecursion}
use Rattle.s4_types.specs.History.{Base}
use Rattle.s4_types.specs.declared.requests.Request.{Request}
use Rattle.s4_types.specs.declared.replies.Reply.{Reply}
use Rattle.rpc.specs.declared.items.Item.{Item}
use Rattle.rpc.specs.declared.items.Item.TheVariants.{Whole, BadFrame}
use Rattle.serving.specs.Answering.{Answered, Run}
use Rattle.batch_serving.specs.Showing.{IsShown}
use Rattle.batch_serving.specs.Batches.{AreBatches, IsLast, LeftBy, Serves}
use Rattle.batch_serving.specs.Saying.{HasSaid}
use Rattle.batch_serving.specs.Waiting.{HasWaited}
use Rattle.batch_serving.specs.declared.ends.BatchEnd.{BatchEnd}
use Rattle.batch_serving.specs.declared.ends.BatchEnd.TheVariants.{Ended, CutFrame, Oversized, ReadFailed, WriteFailed, NotKept, NoMemory}
use Rattle.s4serve.specs.Seats.{IsSeatAt, ServedFields, ServedSteps}
use Rattle.s4serve.specs.Traces.{CoversStep, HasWaitedForAll, TracedFields, TracedSteps, untraced}
use Rattle.kept_drive.specs.Receipts.{ReceiptFields}
use Rattle.s4_types.specs.declared.requests.Role.{Role}
use Rattle.server.specs.Attending.{IsSeated}
use Rattle.server.specs.Drawing.{DrawsNothing}
use Rattle.server.specs.declared.clocks.Undrawn.{Undrawn as Nothing}
use Rattle.s4serve.specs.Owing.{AreOwed}
use Rattle.s4serve.proofs.Growing.{seen_more}

-- a session was this, and has seen as much since, and reached its clock
record IsPast (now before : ServedFields) : Type 0 where
  seen : length before.seat.session.told.seen ≤ length now.seat.session.told.seen
  clock : before.seat.clock ≤ now.reached

abbrev ArePast : ServedFields → List ServedFields → Type 0
ArePast now steps = AllByRecursion (IsPast now) steps

abbrev pub traced : ServedFields → List ServedFields → TracedFields
traced now steps = record { now = now; steps = steps }

module _ (base : Base) (reserve : ℕ) (moments : List ℕ → Type 0) where
  past_later : (old new before : ServedFields) (request : Request) (given : ℕ) (reply : Reply) → ServedSteps base reserve moments old request given reply new → IsPast old before → IsPast new before
  past_later old new before request given reply h is =
      let more = seen_more base reserve old.seat.session new.seat.session request h.step.answer.now reply h.step.answer.step in
      let seen = is.seen in
      let clock = is.clock in
      let reached = h.reached in
      record { seen = omega (arith, seen, more); clock = omega (arith, clock, reached) }

  past_now : (old new : ServedFields) (request : Request) (given : ℕ) (reply : Reply) → ServedSteps base reserve moments old request given reply new → IsPast new new
  past_now old new request given reply h = let reached = h.reached in record { seen = omega arith; clock = omega (arith, reached) }

  past_more : (old new : ServedFields) (request : Request) (given : ℕ) (reply : Reply) → ServedSteps base reserve moments old request given reply new → (steps : List ServedFields) → ArePast old steps → ArePast new (steps ++ new ∷ [])
  past_more old new request given reply h [] are = (past_now old new request given reply h, tt)
  past_more old new request given reply h (s ∷ steps) are = (past_later old new s request given reply h are.0, past_more old new request given reply h steps are.1)

  trace_run : {C : Type 0} (draws : C → ℕ → C → Type 0) (items : List (Item Request)) (drawn : List ℕ) (replies : List Reply) (old new : ServedFields) (steps : List ServedFields) → ArePast old steps
      → Run (ServedSteps base reserve moments) draws items drawn replies old new
      → (more : List ServedFields) × Run (TracedSteps base reserve moments) draws items drawn replies (traced old steps) (traced new more) × ArePast new more
  trace_run draws [] drawn replies old new steps are h = (steps, (h.0, h.1, ap (λ s. traced s steps) h.2), subst (λ (s : ServedFields). ArePast s steps) (sym h.2) are)
  trace_run draws (Whole request ∷ items) drawn replies old new steps are h =
      let noted = steps ++ h.4 ∷ [] in
      let rest = trace_run draws items h.1 h.3 h.4 new noted (past_more old h.4 request h.7.0 h.2 h.7.2 steps are) h.8 in
      (rest.0, (h.0, h.1, h.2, h.3, traced h.4 noted, h.5, h.6, (h.7.0, h.7.1, record { step = h.7.2; noted = refl }), rest.1), rest.2)
  trace_run draws (BadFrame ∷ items) drawn replies old new steps are h =
      let rest = trace_run draws items h.1 h.3 h.4 new steps (subst (λ (s : ServedFields). ArePast s steps) (sym h.7.2) are) h.8 in
      (rest.0, (h.0, h.1, h.2, h.3, traced h.4 steps, h.5, h.6, (h.7.0, h.7.1, ap (λ s. traced s steps) h.7.2), rest.1), rest.2)

module _ {C T K : Type 0} (base : Base) (reserve : ℕ) (moments : List ℕ → Type 0) (draws : C → ℕ → C → Type 0) (number_of reach_of : T → ℕ) (receipt_of : K → Option T) where
  -- a wait of a session, and the same wait where it is traced
  abbrev pub waits : K → ServedFields → Bool → K → Type 0
  waits from served is_kept to = HasWaited IsSeatAt number_of reach_of is_kept served (receipt_of from) (receipt_of to)

  abbrev pub all_waits : K → TracedFields → Bool → K → Type 0
  all_waits from served is_kept to = HasWaitedForAll number_of reach_of is_kept served (receipt_of from) (receipt_of to)

  covers_past : (now before : ServedFields) (receipt : T) → IsShown IsSeatAt number_of reach_of now receipt → IsPast now before → CoversStep number_of reach_of receipt before
  covers_past now before receipt h is =
      let number : h.number ≡ min (length now.seat.session.told.seen) (2 ^ 64 - 1) = h.step.0 in
      let clock : h.clock ≡ now.reached = h.step.1 in
      let kept = h.covered.changes in
      let moment = h.covered.moment in
      let seen = is.seen in
      let reached = is.clock in
      let changes : min (length before.seat.session.told.seen) (2 ^ 64 - 1) ≤ number_of receipt = omega (arith, number, kept, seen) in
      record { changes = changes; moment = omega (arith, clock, moment, reached) }

  covers_all : (now : ServedFields) (receipt : T) → IsShown IsSeatAt number_of reach_of now receipt → (steps : List ServedFields) → ArePast now steps → AllByRecursion (CoversStep number_of reach_of receipt) steps
  covers_all now receipt h [] are = tt
  covers_all now receipt h (s ∷ steps) are = (covers_past now s receipt h are.0, covers_all now receipt h steps are.1)

  waited_for_all : (is_kept : Bool) (now : ServedFields) (steps : List ServedFields) (old new : Option T) → ArePast now steps → HasWaited IsSeatAt number_of reach_of is_kept now old new → HasWaitedForAll number_of reach_of is_kept (traced now steps) old new
  waited_for_all true now steps old None are h = absurd h
  waited_for_all true now steps old (Some receipt) are h = covers_all now receipt h steps are
  waited_for_all false now steps old new are h = h

  trace_answered : (items : List (Item Request)) (replies : List Reply) (old new : ServedFields) (before after : C) (steps : List ServedFields) → ArePast old steps
      → Answered (ServedSteps base reserve moments) draws items replies old before new after
      → (more : List ServedFields) × Answered (TracedSteps base reserve moments) draws items replies (traced old steps) before (traced new more) after × ArePast new more
  trace_answered items replies old new before after steps are h =
      let run = trace_run base reserve moments draws items h.moments replies old new steps are h.run in
      (run.0, record { moments = h.moments; run = run.1; drawn = h.drawn }, run.2)

  trace_batches : (batches : List (List (Item Request))) (old new : ServedFields) (before after : C) (from to : K) (output output' : Option (List ℕ)) (steps : List ServedFields) → ArePast old steps
      → AreBatches (ServedSteps base reserve moments) draws waits batches old before from output new after to output'
      → (more : List ServedFields) × AreBatches (TracedSteps base reserve moments) draws all_waits batches (traced old steps) before from output (traced new more) after to output' × ArePast new more
  trace_batches [] old new before after from to output output' steps are h =
      (steps, (ap (λ s. traced s steps) h.0, h.1, h.2, h.3), subst (λ (s : ServedFields). ArePast s steps) (sym h.0) are)
  trace_batches (items ∷ batches) old new before after from to output output' steps are h =
      let one = trace_answered items h.4.replies old h.0 before h.1 steps are h.4.answered in
      let rest = trace_batches batches h.0 new h.1 after h.2 to h.3 output' one.0 one.2 h.5 in
      let waited = waited_for_all true h.0 one.0 (receipt_of from) (receipt_of h.2) one.2 h.4.waited in
      (rest.0, (traced h.0 one.0, h.1, h.2, h.3, record { replies = h.4.replies; answered = one.1; waited = waited; wrote = h.4.wrote }, rest.1), rest.2)

  trace_left : (end : BatchEnd) (bytes : List ℕ) (new : ServedFields) (steps : List ServedFields) (from to : K) (output output' : Option (List ℕ)) → ArePast new steps
      → LeftBy waits end bytes new from output to output' → LeftBy all_waits end bytes (traced new steps) from output to output'
  trace_left WriteFailed bytes new steps from to output output' are h = (waited_for_all true new steps (receipt_of from) (receipt_of to) are h.0, h.1)
  trace_left NotKept bytes new steps from to output output' are h = h
  trace_left NoMemory bytes new steps from to output output' are h = h
  trace_left Ended bytes new steps from to output output' are h = h
  trace_left CutFrame bytes new steps from to output output' are h = h
  trace_left Oversized bytes new steps from to output output' are h = h
  trace_left ReadFailed bytes new steps from to output output' are h = h

  trace_last : (end : BatchEnd) (items : List (Item Request)) (old new : ServedFields) (before after : C) (from to : K) (output output' : Option (List ℕ)) (steps : List ServedFields) → ArePast old steps
      → IsLast (ServedSteps base reserve moments) draws waits end items old before from output new after to output'
      → (more : List ServedFields) × IsLast (TracedSteps base reserve moments) draws all_waits end items (traced old steps) before from output (traced new more) after to output'
  trace_last end items old new before after from to output output' steps are h =
      let one = trace_answered items h.replies old new before after steps are h.answered in
      (one.0, record { replies = h.replies; answered = one.1; small = h.small; left = trace_left end _ new one.0 from to output output' one.2 h.left })

  -- a whole session
  pub trace_session : (end : BatchEnd) (old new : ServedFields) (before after : C) (from to : K) (input output input' output' : Option (List ℕ))
      → Serves (ServedSteps base reserve moments) draws waits [] end old before from input output new after to input' output'
      → (steps : List ServedFields) × Serves (TracedSteps base reserve moments) draws all_waits [] end (untraced old) before from input output (traced new steps) after to input' output'
  trace_session end old new before after from to input output input' output' h =
      let comes = h.finishes.comes in
      let whole = trace_batches comes.whole.batches old comes.mid before comes.drawn from comes.waited output comes.written [] tt comes.whole.run in
      let last = trace_last end comes.last comes.mid new comes.drawn after comes.waited to comes.written output' whole.0 whole.2 comes.rest in (
        last.0,
        record {
          stream = h.stream;
          read = h.read;
          over = h.over;
          finishes = record {
            items = h.finishes.items;
            taken_up = h.finishes.taken_up;
            comes = record {
              kept = comes.kept;
              last = comes.last;
              all = comes.all;
              mid = traced comes.mid whole.0;
              drawn = comes.drawn;
              waited = comes.waited;
              written = comes.written;
              whole = record { batches = comes.whole.batches; all = comes.whole.all; run = whole.1 };
              rest = last.1;
            };
          };
        },
      )

-- what a session has said, which has waited since, is what it owes
pub owes : (base : Base) (reserve : ℕ) (moments : List ℕ → Type 0) (role : Role) (sent : Option (List ℕ)) (bytes : List ℕ) (now : ServedFields) (clock : Nothing) (old : Option ReceiptFields) (receipt : ReceiptFields)
    → HasSaid (ServedSteps base reserve moments) DrawsNothing (λ (seat : ServedFields). IsSeated base role seat.seat) sent bytes now clock
    → HasWaited IsSeatAt (λ (r : ReceiptFields). r.number) (λ (r : ReceiptFields). r.reach) true now old (Some receipt)
    → AreOwed base reserve moments role sent bytes receipt
owes base reserve moments role sent bytes now clock old receipt h waited =
    let one = trace_answered {C = Nothing} {T = ReceiptFields} {K = ReceiptFields} base reserve moments DrawsNothing (λ (r : ReceiptFields). r.number) (λ (r : ReceiptFields). r.reach) (λ r. Some r) h.items h.replies h.first now h.before clock [] tt h.answered in
    record {
      first = h.first;
      seated = h.begun;
      before = h.before;
      after = clock;
      items = h.items;
      replies = h.replies;
      last = traced now one.0;
      answered = one.1;
      all = h.all;
      covered = covers_all {C = Nothing} {T = ReceiptFields} {K = ReceiptFields} base reserve moments DrawsNothing (λ (r : ReceiptFields). r.number) (λ (r : ReceiptFields). r.reach) (λ r. Some r) now receipt waited one.0 one.2;
    }
