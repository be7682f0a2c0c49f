use Rattle.std.proofs.lemmas.Result.{err_from_is_err_and}
use Rattle.drive_compaction.specs.Emptying.{KeepsAll}
use Rattle.drive_compaction.proofs.Keeping.{keeps_alike, keeps_on, refused_on}
use Rattle.drive_compaction.proofs.Turning.{left_bare}
use Rattle.drive_compaction.proofs.turns.take_turn.Goals as goal

pub returns-in_err-swept-clause-refusal : goal.returns-in_err-swept-clause-refusal
returns-in_err-swept-clause-refusal g c =
    let p = err_from_is_err_and c.from_residual-in_err-swept.result c.from_residual-in_err-swept.ensures.1 in
    let keeps : KeepsAll c.args.drive.now c.count_rows.new.drive = keeps_on c.args.drive.now c.prepare.new.drive c.count_rows.new.drive c.prepare.ensures.keeps
    (keeps_alike c.prepare.new.drive c.count_rows.new.drive c.count_rows.ensures.ledger c.count_rows.ensures.store) in
    rw (p.1, p.2) (refused_on c.args.drive.now c.count_rows.new.drive c.sweep.new.drive c.in_err-swept.field-0.0 keeps c.in_err-swept.ensures.refusal)

pub returns-clause-none : goal.returns-clause-none
returns-clause-none g c nothing room =
    left_bare c.in_ok-counts.counts.counted.values c.prepare.new.drive c.count_rows.new.drive c.sweep.new.drive c.in_ok-swept.swept.frames c.in_ok-swept.swept.moves c.in_ok-swept.swept.ran_out
    c.count_rows.ensures.store c.in_ok-counts.ensures.counts c.in_ok-swept.ensures.sweeps (c.in_ok-swept.ensures.none nothing room) nothing room
