use Rattle.std.proofs.Common.{length, subst}
use Rattle.codec.specs.declared.inodes.Inode.{Inode}
use Rattle.time_read.specs.Within.{IsLedWithin}
use Rattle.time_read.proofs.Undone.{Laws, first_within, found, none_found}
use Rattle.time_read.proofs.Within.{led_whole}
use Rattle.time_read.proofs.undo_index.undo_past_within.Goals as goal

pub undo_within-requires : goal.undo_within-requires
undo_within-requires c =
    let r = c.in-Some.oldest.now in
    let here = c.in-Some.ensures.lookup.3 in
    first_within c.args.records.now c.count_up_to.result r (length c.args.pointers.now) (length c.args.attributes.now) here.0 (here.1 r) c.requires

pub returns-in-Some : goal.returns-in-Some
returns-in-Some c = λ first entries told groups run.
    (let r = c.in-Some.oldest.now in
    let here = c.in-Some.ensures.lookup.3 in
    let laws : Laws = record { front = c.groups_part_at_a_moment.ensures.front; ascend = c.groups_part_at_a_moment.ensures.ascend; undone = c.groups_part_at_a_moment.ensures.undone; stays = c.groups_part_at_a_moment.ensures.stays } in
    subst (λ (past : Inode). IsLedWithin c.args.needed c.args.inode.now past c.undo_within.new.inode)
    (found laws c.args.pointers.now c.args.attributes.now c.args.records.now c.args.at c.count_up_to.result r first entries c.args.inode.now c.requires here.0 (here.1 r) c.count_up_to.ensures.point told groups run) c.undo_within.ensures)

pub returns-in_default : goal.returns-in_default
returns-in_default c = λ first entries told groups run.
    (let laws : Laws = record { front = c.groups_part_at_a_moment.ensures.front; ascend = c.groups_part_at_a_moment.ensures.ascend; undone = c.groups_part_at_a_moment.ensures.undone; stays = c.groups_part_at_a_moment.ensures.stays } in
    led_whole c.args.needed c.args.inode.now _ c.args.inode.now
    (none_found laws c.args.pointers.now c.args.attributes.now c.args.records.now c.args.at c.count_up_to.result first entries c.args.inode.now c.in_default.ensures.lookup.3 c.count_up_to.ensures.point told groups run))
