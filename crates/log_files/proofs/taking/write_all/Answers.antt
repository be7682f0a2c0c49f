use Rattle.std.proofs.Common.{◌≡◌, ℕ, length, subst, arith}
use Rattle.log_files.specs.Contents.{contents}
use Rattle.log_files.specs.Taking.{HasWritten}
use Rattle.log_files.proofs.Calling.{calls_then}
use Rattle.log_files.proofs.taking.write_all.Goals as goal

pub loop-done-preserved : goal.loop-done-preserved
loop-done-preserved g c = record {
  within = c.in_ok-done.ensures.count;
  writing = c.in_ok-done.ensures.written.on _ c.loop-done.invariant.writing;
  called = calls_then _ _ _ _ c.loop-done.invariant.called c.in_ok-done.ensures.calls;
}

pub returns-in_err-done-clause-overlays : goal.returns-in_err-done-clause-overlays
returns-in_err-done-clause-overlays g c = rw c.in-Some.is (c.in_err-done.ensures.refused.on _ c.loop-done.invariant.writing)

pub returns-clause-written : goal.returns-clause-written
returns-clause-written g c =
    let all : c.loop-done.done ≡ length c.args.bytes.now = omega (arith, c.loop-done-test.false, c.loop-done.invariant.within) in
    rw c.in-Some.is (subst (λ (n : ℕ). HasWritten c.args.at n c.args.bytes.now
    (contents (g.C.Calls.number c.in-Some.taker) c.args.unwritten.now.writes (g.C.Calls.history c.args.calls.now))
    (contents (g.C.Calls.number c.in-Some.taker) c.loop-done.unwritten.writes (g.C.Calls.history c.loop-done.calls))) all c.loop-done.invariant.writing)

pub returns-clause-overlays : goal.returns-clause-overlays
returns-clause-overlays g c = rw c.in-Some.is c.loop-done.invariant.writing.overlays

pub returns-in_err-done-clause-calls : goal.returns-in_err-done-clause-calls
returns-in_err-done-clause-calls g c = rw c.in-Some.is (calls_then _ _ _ _ c.loop-done.invariant.called c.in_err-done.ensures.calls)

pub returns-clause-calls : goal.returns-clause-calls
returns-clause-calls g c = rw c.in-Some.is c.loop-done.invariant.called
