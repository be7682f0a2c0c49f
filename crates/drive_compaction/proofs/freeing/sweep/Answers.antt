use Rattle.std.proofs.Common.{◌≡◌, ℕ, Bool, List, subst, arith}
use Rattle.std.proofs.lemmas.Result.{err_from_is_err_and}
use Rattle.drive.specs.Fields.{DriveFields}
use Rattle.drive_compaction.specs.Emptying.{Sweeps}
use Rattle.drive_compaction.proofs.Freed.{ran_out_on}
use Rattle.drive_compaction.proofs.Keeping.{refused_on}
use Rattle.drive_compaction.proofs.Sweeping.{begun_few, swept_level, swept_all}
use Rattle.drive_compaction.proofs.freeing.sweep.Goals as goal

pub loop-index-init : goal.loop-index-init
loop-index-init g c = begun_few c.args.counts.now.counted.values c.args.drive.now

pub returns-in_err-swept-clause-refusal : goal.returns-in_err-swept-clause-refusal
returns-in_err-swept-clause-refusal g c =
    let p = err_from_is_err_and c.from_residual.result c.from_residual.ensures.1 in
    rw (p.1, p.2) (refused_on c.args.drive.now c.loop-index.drive c.sweep_alike.new.drive c.in_err-swept.field-0.0 c.loop-index.invariant.keeps c.in_err-swept.ensures.refusal)

pub returns-then-swept-clause-sweeps : goal.returns-then-swept-clause-sweeps
returns-then-swept-clause-sweeps g c =
    let counts : List (ℕ × ℕ) = c.args.counts.now.counted.values in
    let later : DriveFields = c.sweep_alike.new.drive in
    ran_out_on counts c.args.drive.now c.loop-index.drive later c.loop-index.frames c.in_ok-swept.swept.frames c.loop-index.moves c.in_ok-swept.swept.moves c.loop-index.invariant.freed
    (subst (λ (b : Bool). Sweeps counts c.loop-index.drive c.in_ok-swept.swept.frames c.in_ok-swept.swept.moves b later) c.if-swept.true c.in_ok-swept.ensures.sweeps)

pub loop-index-preserved : goal.loop-index-preserved
loop-index-preserved g c =
    let counts : List (ℕ × ℕ) = c.args.counts.now.counted.values in
    let later : DriveFields = c.sweep_alike.new.drive in
    swept_level counts c.args.drive.now c.loop-index.drive later c.loop-index.index c.loop-index.frames c.loop-index.moves c.in_ok-swept.swept.frames c.in_ok-swept.swept.moves c.loop-index.invariant
    (subst (λ (b : Bool). Sweeps counts c.loop-index.drive c.in_ok-swept.swept.frames c.in_ok-swept.swept.moves b later) c.if-swept.false c.in_ok-swept.ensures.sweeps)
    c.in_ok-swept.ensures.few c.in_ok-swept.ensures.few_moves (λ nothing. c.in_ok-swept.ensures.none nothing c.if-swept.false) c.sweep_alike.ensures.keeps

pub returns-clause-none : goal.returns-clause-none
returns-clause-none g c nothing room f can =
    let all : c.loop-index.index ≡ 15 = omega (arith, c.loop-index-test.false, c.loop-index.auto.index-end) in
    swept_all c.args.counts.now.counted.values c.args.drive.now c.loop-index.drive c.loop-index.index c.loop-index.frames c.loop-index.moves all c.loop-index.invariant nothing f can
