use Rattle.std.proofs.Common.{◌≤◌, ◌+◌, length, arith, length-drop}
use Rattle.host_calls.proofs.Effects.{replayed, goes_more, rest_of}
use Rattle.host_calls.proofs.steps.write_more.Goals as goal

pub returns-clause-written : goal.returns-clause-written
returns-clause-written g c =
    let count = rw rest_of at c.in_ok-more.ensures.count in
    let within = c.requires in
    let fits : c.args.done + c.in_ok-more.more ≤ length c.args.bytes.now = omega (arith, count, within, length-drop c.args.done c.args.bytes.now) in
    rw (replayed _ _ _ c.in_ok-more.ensures.noted, rest_of) (goes_more _ c.args.done c.in_ok-more.more c.args.bytes.now _ fits)
