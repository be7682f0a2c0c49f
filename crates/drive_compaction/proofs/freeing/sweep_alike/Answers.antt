use Rattle.std.proofs.Common.{ℕ, ◌+◌, List, sym, subst}
use Rattle.drive.specs.Fields.{DriveFields}
use Rattle.drive_compaction.specs.Emptying.{KeepsAll, Frees}
use Rattle.drive_compaction.proofs.Sweeping.{SweepsTo, begun, passed_over, freed_next}
use Rattle.drive_compaction.proofs.freeing.sweep_alike.Goals as goal

pub loop-frame-init : goal.loop-frame-init
loop-frame-init g c = begun c.args.counts.now.counted.values c.args.drive.now c.args.held

pub loop-frame-preserved-then-not-is_next : goal.loop-frame-preserved-then-not-is_next
loop-frame-preserved-then-not-is_next g c =
    let counts : List (ℕ × ℕ) = c.args.counts.now.counted.values in
    let d : DriveFields = c.args.drive.now in
    subst (λ (x : DriveFields). SweepsTo counts d c.args.held (c.loop-frame.frame + 1) c.loop-frame.frames c.loop-frame.moves x) (sym c.is_next.ensures.same)
    (passed_over counts d c.loop-frame.drive c.args.held c.loop-frame.frame c.loop-frame.frames c.loop-frame.moves c.loop-frame.invariant c.if-not-is_next.ensures.next)

pub loop-frame-preserved : goal.loop-frame-preserved
loop-frame-preserved g c =
    let before : DriveFields = c.loop-frame.drive in
    let later : DriveFields = c.free_frame.new.drive in
    freed_next c.args.counts.now.counted.values c.args.drive.now before later c.args.held c.loop-frame.frame c.loop-frame.frames c.loop-frame.moves c.in_ok-done.done.moves c.in_ok-done.done.stopped c.loop-frame.invariant c.if-not-is_next.ensures.next
    (subst (λ (x : DriveFields). Frees x c.loop-frame.frame c.in_ok-done.done.moves c.in_ok-done.done.stopped later) c.is_next.ensures.same c.in_ok-done.ensures.frees) c.in-None.is c.in_ok-done.ensures.few
    (subst (λ (x : DriveFields). KeepsAll x later) c.is_next.ensures.same c.free_frame.ensures.keeps)
