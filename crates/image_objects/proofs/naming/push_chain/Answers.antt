use Rattle.std.proofs.Common.{◌≡◌, ◌+◌, ◌-◌, ◌<◌, ◌++◌, Some, None, sym, ◌∙◌, arith}
use Rattle.s4_types.specs.declared.limits.TheConstants.{CHAIN_BLOCKS}
use Rattle.journal_chain.specs.Chain.{journal_held}
use Rattle.image_objects.specs.private.Places.{places_of_chain}
use Rattle.image_objects.proofs.RowWalk.{begins, at_hole, at_last, one_more, missing}
use Rattle.image_objects.proofs.naming.push_chain.Goals as goal

pub loop-init : goal.loop-init
loop-init g c = begins (g.U.UsedBlocks.used c.args.used.now) c.args.row.now c.args.places.now.items c.requires.1.walk

pub returns-in_default-clause-places : goal.returns-in_default-clause-places
returns-in_default-clause-places g c =
    let used = g.U.UsedBlocks.used c.args.used.now in
    at_hole (CHAIN_BLOCKS - c.loop.counter) (journal_held used c.args.row.now.object) c.loop.next c.loop.places.items (c.args.places.now.items ++ places_of_chain used c.args.row.now) c.in_default.is c.loop.invariant

pub unreachable-requires : goal.unreachable-requires
unreachable-requires g c =
    let used = g.U.UsedBlocks.used c.args.used.now in
    let blocks = journal_held used c.args.row.now.object in
    let none : blocks c.in-Some.place ≡ None = sym c.read_journal.ensures.exact ∙ c.in_default-read_journal.is in
    let some : c.loop.counter < CHAIN_BLOCKS = c.loop-test.true in
    missing (CHAIN_BLOCKS - c.loop.counter) (CHAIN_BLOCKS - (c.loop.counter + 1)) blocks c.loop.next c.in-Some.place c.loop.places.items (c.args.places.now.items ++ places_of_chain used c.args.row.now) (omega (arith, some)) c.in-Some.is none c.loop.invariant

pub loop-preserved : goal.loop-preserved
loop-preserved g c =
    let used = g.U.UsedBlocks.used c.args.used.now in
    let blocks = journal_held used c.args.row.now.object in
    let there : blocks c.in-Some.place ≡ Some c.in-Some-read_journal.block = sym c.read_journal.ensures.exact ∙ c.in-Some-read_journal.is in
    let some : c.loop.counter < CHAIN_BLOCKS = c.loop-test.true in
    one_more (CHAIN_BLOCKS - c.loop.counter) (CHAIN_BLOCKS - (c.loop.counter + 1)) blocks c.loop.next c.previous-next.result c.in-Some.place c.in-Some-read_journal.block c.loop.places.items c.push.new.self.items
    (c.args.places.now.items ++ places_of_chain used c.args.row.now) (omega (arith, some)) c.in-Some.is there c.previous-next.ensures c.in_ok-push.ensures.items c.loop.invariant

pub returns-clause-places : goal.returns-clause-places
returns-clause-places g c =
    let used = g.U.UsedBlocks.used c.args.used.now in
    let end = c.loop-test.false in
    at_last (CHAIN_BLOCKS - c.loop.counter) (journal_held used c.args.row.now.object) c.loop.next c.loop.places.items (c.args.places.now.items ++ places_of_chain used c.args.row.now) (omega (arith, end)) c.loop.invariant
