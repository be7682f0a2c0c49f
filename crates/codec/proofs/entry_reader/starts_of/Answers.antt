use Rattle.std.proofs.Common.{◌+◌, ◌<◌, length, sym, ap, subst, arith, lit<}
use Rattle.std.specs.List.{AllByRecursion}
use Rattle.s4_types.specs.declared.limits.TheConstants.{JOURNAL_HEAD_BYTES, JOURNAL_ENTRIES}
use Rattle.lemmas.proofs.Bytes.{IsBytes}
use Rattle.codec.specs.Reader.{BeginsAt}
use Rattle.codec.proofs.JournalEntries.{rules_say_by}
use Rattle.codec.proofs.Starts.{Scanned, Next, Ready, ready, ready_next, scan_begins, all_scanned, count_there, length_there, spelled_there, spells, starts_push}
use Rattle.codec.proofs.entry_reader.starts_of.Goals as goal

pub bounds-block-1 : goal.bounds-block-1
bounds-block-1 c =
    let bytes : IsBytes c.args.block.now = λ i. omega (arith, c.type_inv.block i) in
    let (j, h) = spelled_there c.args.version c.args.block.now bytes c.requires in
    let long = length_there c.args.version c.args.block.now j h in
    let here : 1 < length c.args.block.now = omega (arith, long) in
    here

pub loop-init : goal.loop-init
loop-init c = record {
  scanned = λ j h. subst (λ l. Scanned c.args.version c.args.block.now j l JOURNAL_HEAD_BYTES 0) (sym c.new-starts.ensures) (scan_begins c.args.version c.args.block.now j h);
  there = subst (AllByRecursion (BeginsAt c.args.version c.args.block.now)) (sym c.new-starts.ensures) tt;
  len = ap length c.new-starts.ensures;
}

pub overflow_cast-at : goal.overflow_cast-at
overflow_cast-at c =
    let bytes : IsBytes c.args.block.now = λ i. omega (arith, c.type_inv.block i) in
    let r : Ready c.args.version c.args.block.now c.loop.starts.items c.loop.at c.loop.counter = ready c.args.version c.args.block.now c.loop.starts.items c.loop.at c.loop.counter bytes c.requires c.loop.invariant.scanned c.loop-test.true in
    omega (arith, r.here.0, r.long)

pub push-requires : goal.push-requires
push-requires c =
    let bytes : IsBytes c.args.block.now = λ i. omega (arith, c.type_inv.block i) in
    let r : Ready c.args.version c.args.block.now c.loop.starts.items c.loop.at c.loop.counter = ready c.args.version c.args.block.now c.loop.starts.items c.loop.at c.loop.counter bytes c.requires c.loop.invariant.scanned c.loop-test.true in
    let room : length c.loop.starts.items < JOURNAL_ENTRIES = omega (arith, r.few, c.loop.invariant.len) in
    (lit< tt, room)

pub bytes_from-rest-requires : goal.bytes_from-rest-requires
bytes_from-rest-requires c =
    let bytes : IsBytes c.args.block.now = λ i. omega (arith, c.type_inv.block i) in
    let r : Ready c.args.version c.args.block.now c.loop.starts.items c.loop.at c.loop.counter = ready c.args.version c.args.block.now c.loop.starts.items c.loop.at c.loop.counter bytes c.requires c.loop.invariant.scanned c.loop-test.true in
    omega (arith, r.here.0)

pub front_bytes-at-requires : goal.front_bytes-at-requires
front_bytes-at-requires c =
    let bytes : IsBytes c.args.block.now = λ i. omega (arith, c.type_inv.block i) in
    let r : Ready c.args.version c.args.block.now c.loop.starts.items c.loop.at c.loop.counter = ready c.args.version c.args.block.now c.loop.starts.items c.loop.at c.loop.counter bytes c.requires c.loop.invariant.scanned c.loop-test.true in
    rw c.bytes_from-rest.ensures r.here.1

pub overflow_add-at : goal.overflow_add-at
overflow_add-at c =
    let block = c.args.block.now in
    let bytes : IsBytes block = λ i. omega (arith, c.type_inv.block i) in
    let (j, h) = spelled_there c.args.version block bytes c.requires in
    let n : Next c.args.version block j c.loop.starts.items c.loop.at c.loop.counter c.front_bytes-at.result =
    ready_next c.args.version block c.loop.starts.items c.bytes_from-rest.result.now c.loop.at c.loop.counter c.front_bytes-at.result c.loop.invariant.scanned c.loop-test.true c.bytes_from-rest.ensures c.front_bytes-at.ensures j h in
    omega (arith, n.scanned.place, length_there c.args.version block j h)

pub loop-preserved : goal.loop-preserved
loop-preserved c =
    let block = c.args.block.now in
    let bytes : IsBytes block = λ i. omega (arith, c.type_inv.block i) in
    let r : Ready c.args.version block c.loop.starts.items c.loop.at c.loop.counter = ready c.args.version block c.loop.starts.items c.loop.at c.loop.counter bytes c.requires c.loop.invariant.scanned c.loop-test.true in
    record {
      scanned = λ j h.
          let n : Next c.args.version block j c.loop.starts.items c.loop.at c.loop.counter c.front_bytes-at.result =
          ready_next c.args.version block c.loop.starts.items c.bytes_from-rest.result.now c.loop.at c.loop.counter c.front_bytes-at.result c.loop.invariant.scanned c.loop-test.true c.bytes_from-rest.ensures c.front_bytes-at.ensures j h in
          subst (λ l. Scanned c.args.version block j l (c.loop.at + c.front_bytes-at.result) (c.loop.counter + 1)) (sym c.push.ensures.items) n.scanned;
      there = subst (AllByRecursion (BeginsAt c.args.version block)) (sym c.push.ensures.items) (starts_push c.args.version block c.loop.starts.items c.loop.at c.loop.invariant.there r.here);
      len = omega (arith, c.push.ensures.len, c.loop.invariant.len);
    }

pub returns-clause-entries : goal.returns-clause-entries
returns-clause-entries c = λ j e.
    let bytes : IsBytes c.args.block.now = λ i. omega (arith, c.type_inv.block i) in
    let h = spells c.args.version c.args.block.now j bytes e in
    all_scanned c.args.version c.args.block.now j c.loop.starts.items c.loop.at c.loop.counter (c.loop.invariant.scanned j h) (omega (arith, c.loop-test.false, count_there c.args.version c.args.block.now j h))

pub returns-clause-some : goal.returns-clause-some
returns-clause-some c =
    let bytes : IsBytes c.args.block.now = λ i. omega (arith, c.type_inv.block i) in
    let (j, h) = spelled_there c.args.version c.args.block.now bytes c.requires in
    omega (arith, c.loop-test.false, count_there c.args.version c.args.block.now j h, (rules_say_by c.args.version j h.0.0).some, c.loop.invariant.len)
