use Rattle.std.proofs.Common.{◌≡◌, ◌+◌, ◌-◌, ◌<◌, length, sym, ◌∙◌, arith}
use Rattle.image_objects.proofs.Ordering.{seen_first, seen_more, in_order, one_lives, next_timely, next_stands}
use Rattle.image_objects.proofs.order.is_orderly.Goals as goal

pub returns-then-not-begins_blank-clause-only : goal.returns-then-not-begins_blank-clause-only
returns-then-not-begins_blank-clause-only c = λ h. sym c.if-not-begins_blank.true ∙ c.begins_blank.ensures.only h.beginning

pub returns-then-not-is_timely-clause-only : goal.returns-then-not-is_timely-clause-only
returns-then-not-is_timely-clause-only c = λ h. sym c.if-not-is_timely.true ∙ c.is_timely.ensures.only (h.changed 0)

pub loop-entry-init : goal.loop-entry-init
loop-entry-init c = record {
  seen = seen_first c.args.created c.args.clock c.args.first.now c.args.entries.now (c.is_timely.ensures.is c.if-not-is_timely.false);
  left_are = omega arith;
}

pub returns-then-not-is_timely-2-clause-only : goal.returns-then-not-is_timely-2-clause-only
returns-then-not-is_timely-2-clause-only c = λ h.
    let l = c.loop-entry in
    sym c.if-not-is_timely-2.true
    ∙ c.is_timely-in-loop-entry.ensures.only (next_timely c.args.created c.args.clock c.args.first.now c.args.entries.now l.entry-index l.inode c.redo.new.inode l.live c.entry-item.result l.invariant.seen c.loop-entry-test.true c.entry-item.is c.redo.ensures.exact h)

pub returns-then-not-may_stand-clause-only : goal.returns-then-not-may_stand-clause-only
returns-then-not-may_stand-clause-only c = λ h.
    let l = c.loop-entry in
    let before : l.left + l.entry-index ≡ length c.args.entries.now = l.invariant.left_are in
    let inside : l.entry-index < length c.args.entries.now = c.loop-entry-test.true in
    let left_is : (l.left - 1) + (l.entry-index + 1) ≡ length c.args.entries.now = omega (arith, before, inside) in
    sym c.if-not-may_stand.true
    ∙ c.may_stand.ensures.only (next_stands c.args.created c.args.clock c.args.first.now c.args.entries.now l.entry-index (l.left - 1) l.inode c.redo.new.inode l.live c.entry-item.result l.invariant.seen inside c.entry-item.is left_is c.redo.ensures.exact h)

pub loop-entry-preserved : goal.loop-entry-preserved
loop-entry-preserved c =
    let l = c.loop-entry in
    let before : l.left + l.entry-index ≡ length c.args.entries.now = l.invariant.left_are in
    let inside : l.entry-index < length c.args.entries.now = c.loop-entry-test.true in
    let left_is : (l.left - 1) + (l.entry-index + 1) ≡ length c.args.entries.now = omega (arith, before, inside) in
    record {
      seen = seen_more c.args.created c.args.clock c.args.first.now c.args.entries.now l.entry-index (l.left - 1) l.inode c.redo.new.inode l.live c.is_live_by-live.result c.entry-item.result
          l.invariant.seen inside c.entry-item.is left_is c.redo.ensures.exact (c.is_timely-in-loop-entry.ensures.is c.if-not-is_timely-2.false) (c.may_stand.ensures.is c.if-not-may_stand.false) c.is_live_by-live.ensures;
      left_are = left_is;
    }

pub returns-clause-is : goal.returns-clause-is
returns-clause-is c = λ live.
    in_order c.args.created c.args.clock c.args.first.now c.args.entries.now c.loop-entry.entry-index c.loop-entry.inode c.loop-entry.live c.loop-entry.invariant.seen c.loop-entry-test.false c.requires.moments (c.begins_blank.ensures.is c.if-not-begins_blank.false) live

pub returns-clause-only : goal.returns-clause-only
returns-clause-only c = λ h.
    one_lives c.args.created c.args.clock c.args.first.now c.args.entries.now c.loop-entry.entry-index c.loop-entry.inode c.loop-entry.live c.loop-entry.invariant.seen c.loop-entry-test.false h
