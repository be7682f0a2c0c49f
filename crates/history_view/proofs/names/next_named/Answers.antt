use Rattle.std.proofs.Common.{rules, ◌≡◌, ◌≢◌, ◌∙◌, false, arith}
use Rattle.drive.specs.Fields.{state_in, store_of}
use Rattle.history_view.specs.Listing.{IsListedNext}
use Rattle.history_view.proofs.Named.{next_named, none_on, none_above, next_as_before, passed_as_before}
use Rattle.history_view.proofs.names.next_named.Goals as goal

pub returns-then-has_name-clause-some : goal.returns-then-has_name-clause-some
returns-then-has_name-clause-some g c =
    let before = c.loop-row.invariant in
    let row = c.in-Some.row in
    let is : row.attribute ≡ c.args.name.now = search rules in
    next_named (state_in c.args.drive.now) (store_of c.args.drive.now) c.args.name.now c.args.at c.args.after c.loop-row.last row before.from before.none
    (next_as_before c.loop-row.drive c.args.drive.now false c.args.at c.loop-row.last row before.ledger before.store c.in-Some.ensures.some) is

pub loop-row-preserved : goal.loop-row-preserved
loop-row-preserved g c =
    let before = c.loop-row.invariant in
    let row = c.in-Some.row in
    let next : IsListedNext (state_in c.args.drive.now) (store_of c.args.drive.now) false c.args.at c.loop-row.last row =
    next_as_before c.loop-row.drive c.args.drive.now false c.args.at c.loop-row.last row before.ledger before.store c.in-Some.ensures.some in
    let other : row.attribute ≢ c.args.name.now = search rules in
    record {
      from = omega (arith, next.above, before.from);
      ledger = c.next_listed.ensures.ledger ∙ before.ledger;
      store = c.next_listed.ensures.store ∙ before.store;
      none = none_on (state_in c.args.drive.now) (store_of c.args.drive.now) c.args.name.now c.args.at c.args.after c.loop-row.last row before.none next other;
    }

pub returns-clause-none : goal.returns-clause-none
returns-clause-none g c =
    let before = c.loop-row.invariant in
    none_above (state_in c.args.drive.now) (store_of c.args.drive.now) c.args.name.now c.args.at c.args.after c.loop-row.last before.none
    (λ o above. passed_as_before c.loop-row.drive c.args.drive.now false c.args.at o before.ledger before.store (c.in_default.ensures.none o above))
