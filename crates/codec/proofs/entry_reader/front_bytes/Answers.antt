use Rattle.std.proofs.Common.{◌+◌, ◌<◌, length, get_or, arith}
use Rattle.s4_types.specs.declared.limits.TheConstants.{SHORTEST_ENTRY_BYTES}
use Rattle.lemmas.proofs.Bytes.{IsBytes}
use Rattle.codec.proofs.Fronts.{front_of, there_front}
use Rattle.codec.proofs.entry_reader.front_bytes.Goals as goal

pub bounds-bytes-9 : goal.bounds-bytes-9
bounds-bytes-9 c =
    let bytes : IsBytes c.args.bytes.now = λ i. omega (arith, c.type_inv.bytes i) in
    let (e, front) = there_front c.args.version c.args.bytes.now bytes c.requires in
    omega (arith, front.least, front.long)

pub bounds-bytes-8 : goal.bounds-bytes-8
bounds-bytes-8 c =
    let bytes : IsBytes c.args.bytes.now = λ i. omega (arith, c.type_inv.bytes i) in
    let (e, front) = there_front c.args.version c.args.bytes.now bytes c.requires in
    let here : 8 < length c.args.bytes.now = omega (arith, front.least, front.long) in
    here

pub bounds-bytes-34 : goal.bounds-bytes-34
bounds-bytes-34 c =
    let bytes : IsBytes c.args.bytes.now = λ i. omega (arith, c.type_inv.bytes i) in
    let (e, front) = there_front c.args.version c.args.bytes.now bytes c.requires in
    let here : SHORTEST_ENTRY_BYTES < length c.args.bytes.now = omega (arith, front.within c.if-bytes-lt4.false, front.long) in
    here

pub bounds-bytes-before : goal.bounds-bytes-before
bounds-bytes-before c =
    let bytes : IsBytes c.args.bytes.now = λ i. omega (arith, c.type_inv.bytes i) in
    let (e, front) = there_front c.args.version c.args.bytes.now bytes c.requires in
    let here : (SHORTEST_ENTRY_BYTES + 1) + get_or c.args.bytes.now SHORTEST_ENTRY_BYTES 0 < length c.args.bytes.now = omega (arith, front.within c.if-bytes-lt4.false, front.long) in
    here

pub returns-then-bytes-lt4 : goal.returns-then-bytes-lt4
returns-then-bytes-lt4 c = λ entry rest h. omega (arith, c.bytes_of_triples-fixed.ensures.exact, (front_of c.args.version c.args.bytes.now entry rest h).alone c.if-bytes-lt4.true)

pub returns : goal.returns
returns c = λ entry rest h. omega (arith, c.bytes_of_triples-fixed.ensures.exact, (front_of c.args.version c.args.bytes.now entry rest h).paired c.if-bytes-lt4.false)
