use Rattle.std.proofs.Common.{◌+◌, ◌<◌, ◌≤◌, length, arith, length-drop}
use Rattle.host_calls.proofs.Effects.{rest_of}
use Rattle.log_files.proofs.Steps.{unwritten_now, written_now}
use Rattle.log_files.proofs.Writing.{breaks_empty, breaks_off, goes_on}
use Rattle.log_files.proofs.taking.write_more.Goals as goal

pub returns-in-Ok-eq0-clause-refused : goal.returns-in-Ok-eq0-clause-refused
returns-in-Ok-eq0-clause-refused g c =
    rw (written_now _ _ _ c.args.unwritten.now.writes _ _ c.in-Ok-eq0.ensures.noted) (breaks_empty c.args.at c.args.done _ c.in-Ok-eq0.field-0 c.args.bytes.now _ _ c.in-Ok-eq0.field-0-test)

pub returns-in-Ok-clause-written : goal.returns-in-Ok-clause-written
returns-in-Ok-clause-written g c =
    let count = rw rest_of at c.in-Ok.ensures.count in
    let within = c.requires.more in
    let fits : c.args.done + c.in-Ok.more ≤ length c.args.bytes.now = omega (arith, count, within, length-drop c.args.done c.args.bytes.now) in
    let some : 0 < c.in-Ok.more = omega (arith, c.in-Ok.more-test) in
    rw (written_now _ _ _ c.args.unwritten.now.writes _ _ c.in-Ok.ensures.noted, rest_of) (goes_on c.args.at c.args.done c.in-Ok.more c.args.bytes.now _ some fits)

pub returns-in-Err-clause-refused : goal.returns-in-Err-clause-refused
returns-in-Err-clause-refused g c =
    let within : c.args.done ≤ length c.args.bytes.now = omega (arith, c.requires.more) in
    rw (c.add.ensures, unwritten_now _ _ _ _ c.args.unwritten.now.writes _ _ c.in-Err.ensures.noted, rest_of) (breaks_off c.args.at c.args.done c.args.bytes.now c.args.unwritten.now.writes _ within)
