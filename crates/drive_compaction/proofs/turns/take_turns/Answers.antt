use Rattle.std.proofs.Common.{◌+◌, sym, subst, arith}
use Rattle.std.proofs.lemmas.Result.{err_from_is_err_and}
use Rattle.drive.specs.Fields.{DriveFields}
use Rattle.drive_compaction.specs.declared.turns.Work.{Work}
use Rattle.drive_compaction.specs.Emptying.{KeepsAll}
use Rattle.drive_compaction.specs.Turns.{IsTurn, TakesTurns}
use Rattle.drive_compaction.specs.private.Working.{IsLittleWork}
use Rattle.drive_compaction.proofs.Keeping.{keeps_all, keeps_on, refused_on}
use Rattle.drive_compaction.proofs.Turning.{none_taken, taken_more}
use Rattle.drive_compaction.proofs.turns.take_turns.Goals as goal

pub loop-turns-init : goal.loop-turns-init
loop-turns-init g c = record {
  taken = subst (λ (w : Work). TakesTurns c.args.cleans c.args.drive.now 0 w c.args.drive.now) (sym c.none-work.ensures) (none_taken c.args.cleans c.args.drive.now);
  little = subst (λ (w : Work). IsLittleWork 0 w) (sym c.none-work.ensures) (record { rewritten = omega arith; removed = omega arith; frames = omega arith; moves = omega arith });
  keeps = keeps_all c.args.drive.now;
}

pub returns-in_err-turn-clause-refusal : goal.returns-in_err-turn-clause-refusal
returns-in_err-turn-clause-refusal g c =
    let p = err_from_is_err_and c.from_residual.result c.from_residual.ensures.1 in
    let keeps : KeepsAll c.args.drive.now c.free_frames-before.new.drive = subst (λ (x : DriveFields). KeepsAll c.args.drive.now x) (sym c.free_frames-before.ensures.same) c.loop-turns.invariant.keeps in
    rw (p.1, p.2) (refused_on c.args.drive.now c.free_frames-before.new.drive c.take_turn.new.drive c.in_err-turn.field-0.0 keeps c.in_err-turn.ensures.refusal)

pub loop-turns-preserved : goal.loop-turns-preserved
loop-turns-preserved g c =
    let d : DriveFields = c.args.drive.now in
    let before : DriveFields = c.loop-turns.drive in
    let later : DriveFields = c.take_turn.new.drive in
    let last : IsTurn c.args.cleans before c.in_ok-turn.turn later = subst (λ (x : DriveFields). IsTurn c.args.cleans x c.in_ok-turn.turn later) c.free_frames-before.ensures.same c.in_ok-turn.ensures.turn in
    let keeps : KeepsAll before later = subst (λ (x : DriveFields). KeepsAll x later) c.free_frames-before.ensures.same c.take_turn.ensures.keeps in
    record {
      taken = subst (λ (x : DriveFields). TakesTurns c.args.cleans d (c.loop-turns.turns + 1) c.with_turn-work.result x) (sym c.ending_of.ensures.same)
          (taken_more c.args.cleans d before later c.loop-turns.turns c.loop-turns.work c.with_turn-work.result c.in_ok-turn.turn c.loop-turns.invariant.taken last c.with_turn-work.ensures.sum);
      little = c.with_turn-work.ensures.little c.loop-turns.turns c.loop-turns.invariant.little;
      keeps = subst (λ (x : DriveFields). KeepsAll d x) (sym c.ending_of.ensures.same) (keeps_on d before later c.loop-turns.invariant.keeps keeps);
    }
