use Rattle.std.proofs.Common.{◌≡◌, ◌+◌, ◌++◌, ◌<◌, List, ◌∷◌, [], length, take, sym, subst, arith}
use Rattle.std.proofs.lemmas.List.{take_all}
use Rattle.std.proofs.lemmas.Result.{err_from_is_err_and}
use Rattle.drive.specs.Fields.{state_in, store_of}
use Rattle.history_restore.specs.declared.aims.Aim.{Aim}
use Rattle.history_restore.specs.declared.restoring.Restored.{Restored}
use Rattle.history_restore.specs.Whole.{IsCounted, RestoresInTurn}
use Rattle.history_restore.proofs.Counted.{counted_more, counted_none}
use Rattle.history_restore.proofs.Each.{StandsBy, GoesOn, stands_none, goes_none, stands_on, stands_after, goes_on, goes_whole, one_more, ascending_item, stops_at, turn_more, turn_none}
use Rattle.history_restore.proofs.whole.restore_each.Goals as goal

pub loop-aim-init : goal.loop-aim-init
loop-aim-init g c =
    let s = state_in c.args.drive.now in
    record {
      stands = stands_none s;
      goes = subst (λ (l : List Restored). GoesOn s s c.args.at [] l) (sym c.new-all.ensures.items) (goes_none s c.args.at);
      turn = subst (λ (l : List Restored). RestoresInTurn s (store_of c.args.drive.now) c.args.now c.args.at l s (store_of c.args.drive.now)) (sym c.new-all.ensures.items) (turn_none s (store_of c.args.drive.now) c.args.now c.args.at);
      counted = subst (IsCounted s s c.args.now) (sym c.new-all.ensures.items) (counted_none s c.args.now);
    }

pub loop-aim-preserved : goal.loop-aim-preserved
loop-aim-preserved g c =
    let s = state_in c.args.drive.now in
    let middle = state_in c.loop-aim.drive in
    let later = state_in c.restore_object.new.drive in
    let aims = c.args.aims.now in
    let i = c.loop-aim.aim-index in
    let a : Aim = c.aim-item.result in
    let lt : i < length aims = omega arith in
    let more : take (i + 1) aims ≡ take i aims ++ a ∷ [] = one_more aims i a lt c.aim-item.is in
    let item = ascending_item s.next aims i a c.requires lt c.aim-item.is in
    let before = c.loop-aim.invariant in
    let calls = c.restore_object.ensures in
    record {
      stands = subst (StandsBy s later) (sym more) (stands_on s middle later c.args.at (take i aims) a before.stands calls.others calls.past);
      goes = subst (λ (l : List Restored). GoesOn s later c.args.at (take (i + 1) aims) l) (sym c.in-Ok.ensures.items)
          (subst (λ (l : List Aim). GoesOn s later c.args.at l (c.loop-aim.all.items ++ c.in_ok-restored.restored ∷ [])) (sym more)
          (goes_on s middle later c.args.at (take i aims) a c.loop-aim.all.items c.in_ok-restored.restored before.stands before.goes item.0 item.1 c.in_ok-restored.ensures.restored calls.others calls.past));
      turn = subst (λ (l : List Restored). RestoresInTurn s (store_of c.args.drive.now) c.args.now c.args.at l later (store_of c.restore_object.new.drive)) (sym c.in-Ok.ensures.items)
          (turn_more s (store_of c.args.drive.now) middle (store_of c.loop-aim.drive) later (store_of c.restore_object.new.drive) c.args.now c.args.at c.loop-aim.all.items a c.in_ok-restored.restored before.turn
          (record {
            restores = c.in_ok-restored.ensures.restored;
            taken = c.in_ok-restored.ensures.taken;
            stored = c.in_ok-restored.ensures.stored;
            moved = c.in_ok-restored.ensures.moved;
            dated = calls.dated;
            others = calls.others;
            past = calls.past;
          }));
      counted = subst (IsCounted s later c.args.now) (sym c.in-Ok.ensures.items)
          (counted_more s middle later c.args.now c.loop-aim.all.items c.in_ok-restored.restored before.counted c.in_ok-restored.ensures.restored.next c.in_ok-restored.ensures.moved calls.dated);
    }

pub returns : goal.returns
returns g c =
    let s = state_in c.args.drive.now in
    let later = state_in c.loop-aim.drive in
    let aims = c.args.aims.now in
    let all : take c.loop-aim.aim-index aims ≡ aims = take_all c.loop-aim.aim-index aims c.loop-aim-test.false in
    let stands : StandsBy s later aims = subst (StandsBy s later) all c.loop-aim.invariant.stands in
    record {
      each = goes_whole s later c.args.at aims c.loop-aim.all.items (subst (λ (l : List Aim). GoesOn s later c.args.at l c.loop-aim.all.items) all c.loop-aim.invariant.goes);
      stopped = tt;
      turn = c.loop-aim.invariant.turn;
      counted = c.loop-aim.invariant.counted;
      rest = stands.rest;
      past = stands.past;
    }

pub returns-in_err-restored-clause-stopped : goal.returns-in_err-restored-clause-stopped
returns-in_err-restored-clause-stopped g c =
    let p = err_from_is_err_and c.from_residual.result c.from_residual.ensures.1 in
    rw (p.1, p.2) (stops_at (state_in c.args.drive.now) (state_in c.loop-aim.drive) (state_in c.restore_object.new.drive) c.aim-item.result c.args.at _ c.loop-aim.invariant.stands.past c.in_err-restored.ensures.stopped)

pub returns-in_err-restored-clause-rest : goal.returns-in_err-restored-clause-rest
returns-in_err-restored-clause-rest g c =
    let lt : c.loop-aim.aim-index < length c.args.aims.now = omega arith in
    let stands = stands_after (state_in c.args.drive.now) (state_in c.loop-aim.drive) (state_in c.restore_object.new.drive) c.args.at c.args.aims.now c.loop-aim.aim-index c.aim-item.result lt c.aim-item.is
    c.loop-aim.invariant.stands c.restore_object.ensures.others c.restore_object.ensures.past in
    stands.rest

pub returns-in_default-clause-rest : goal.returns-in_default-clause-rest
returns-in_default-clause-rest g c =
    let lt : c.loop-aim.aim-index < length c.args.aims.now = omega arith in
    let stands = stands_after (state_in c.args.drive.now) (state_in c.loop-aim.drive) (state_in c.restore_object.new.drive) c.args.at c.args.aims.now c.loop-aim.aim-index c.aim-item.result lt c.aim-item.is
    c.loop-aim.invariant.stands c.restore_object.ensures.others c.restore_object.ensures.past in
    stands.rest
