use Rattle.std.proofs.Common.{sym, ◌∙◌}
use Rattle.codec.proofs.Zeros.{zeros_on, zeros_bad}
use Rattle.codec.proofs.fields.read_zeros.Goals as goal

pub returns-then-byte-ne0 : goal.returns-then-byte-ne0
returns-then-byte-ne0 c = sym c.loop.invariant ∙ zeros_bad c.args.count c.loop.counter c.loop.rest.now c.in_ok-byte.after.now c.in_ok-byte.byte c.loop-test.true c.in_ok-byte.ensures c.if-byte-ne0.true

pub loop-preserved : goal.loop-preserved
loop-preserved c = sym (zeros_on c.args.count c.loop.counter c.loop.rest.now c.in_ok-byte.after.now c.in_ok-byte.byte c.loop-test.true c.in_ok-byte.ensures c.if-byte-ne0.false) ∙ c.loop.invariant
