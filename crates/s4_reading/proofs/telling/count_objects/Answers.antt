use Rattle.std.proofs.Common.{◌∙◌, ◌+◌, ℕ, true, refl, sym, subst, arith}
use Rattle.drive.specs.Fields.{state_in, store_of}
use Rattle.history_view.specs.Listing.{IsListedNext, IsPassed}
use Rattle.history_view.proofs.Named.{next_as_before, passed_as_before}
use Rattle.s4_reading.proofs.Rows.{CountedTo, none_counted, counted_on, all_counted, live_among_all}
use Rattle.s4_reading.proofs.telling.count_objects.Goals as goal

pub loop-row-init : goal.loop-row-init
loop-row-init g c =
    let s = state_in c.args.drive.now in
    let store = store_of c.args.drive.now in
    record {
      ledger = refl;
      store = refl;
      few = omega arith;
      among = omega arith;
      counted = subst (λ (o : ℕ). CountedTo s store o 0 0) (sym c.new-last.ensures) (none_counted s store);
    }

pub loop-row-preserved : goal.loop-row-preserved
loop-row-preserved g c =
    let s = state_in c.args.drive.now in
    let store = store_of c.args.drive.now in
    let before = c.loop-row.invariant in
    let row = c.in-Some.row in
    let next : IsListedNext s store true s.clock c.loop-row.last row =
    subst (λ t. IsListedNext s store true t c.loop-row.last row) c.requires.clock
    (next_as_before c.loop-row.drive c.args.drive.now true c.args.clock c.loop-row.last row before.ledger before.store c.in-Some.ensures.some) in
    let counted = counted_on s store c.loop-row.last c.loop-row.live c.loop-row.all c.one_if-live.result row before.counted next c.one_if-live.ensures in
    record {
      ledger = c.next_listed.ensures.ledger ∙ before.ledger;
      store = c.next_listed.ensures.store ∙ before.store;
      few = omega (arith, before.few, next.above);
      among = live_among_all s store row.object (c.loop-row.live + c.one_if-live.result) (c.loop-row.all + 1) counted;
      counted = counted;
    }

pub returns-clause-counted : goal.returns-clause-counted
returns-clause-counted g c =
    let s = state_in c.args.drive.now in
    let store = store_of c.args.drive.now in
    let before = c.loop-row.invariant in
    all_counted s store c.loop-row.last c.loop-row.live c.loop-row.all before.counted
    (λ o above. subst (λ t. IsPassed s store true t o) c.requires.clock
    (passed_as_before c.loop-row.drive c.args.drive.now true c.args.clock o before.ledger before.store (c.in_default.ensures.none o above)))
