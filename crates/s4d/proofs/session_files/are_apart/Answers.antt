use Rattle.std.proofs.Common.{◌≡◌, All, false, inr}
use Rattle.s4d.specs.Opening.{SaysSessionUnopened}
use Rattle.s4d.proofs.Ends.{any_at, one_more, pairs_more}
use Rattle.s4d.proofs.session_files.are_apart.Goals as goal

pub returns-in-Err-clause-fault : goal.returns-in-Err-clause-fault
returns-in-Err-clause-fault g c =
    inr (any_at (λ asked. SaysSessionUnopened asked c.in-Err.fault) c.args.sessions.now c.loop-number.number _ c.loop-number-test.true c.in-Err.ensures.fault)

pub loop-number-preserved : goal.loop-number-preserved
loop-number-preserved g c =
    let apart = g.F.Files.apart in
    let reserves = g.F.Files.reserves c.args.claim.now in
    let sessions = c.args.sessions.now in
    let n = c.loop-number.number in
    let lt = c.loop-number-test.true in
    let here = c.in-Ok.ensures in
    let first = c.loop-number.invariant in
    record {
      apart = one_more (λ s. All (λ read. apart read.input.now s.output.now) sessions) sessions n _ lt first.apart here.apart;
      written = pairs_more (λ one other. apart one.output.now other.output.now) sessions n _ lt first.written here.written;
      image = one_more (λ s. apart c.args.image.now s.output.now) sessions n _ lt first.image here.image;
      inputs = one_more (λ s. reserves s.input.now ≡ false) sessions n _ lt first.inputs here.input;
      outputs = one_more (λ s. reserves s.output.now ≡ false) sessions n _ lt first.outputs here.output;
    }
