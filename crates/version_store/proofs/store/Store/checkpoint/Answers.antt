use Rattle.std.proofs.Common.{ℕ, ◌≤◌, sym, ap, subst, ◌∙◌}
use Rattle.version_store.specs.Store.{StoreFields, fields_of}
use Rattle.version_store.specs.Versions.{inode_in}
use Rattle.version_store.specs.Costs.{room}
use Rattle.version_store.specs.private.CheckpointSteps.{CanCheckpoint}
use Rattle.version_store.proofs.Present.{at_last}
use Rattle.version_store.proofs.CheckpointSteps.{same_current}
use Rattle.version_store.proofs.store.Store.checkpoint.Goals as goal

pub returns-in_default-entry_past_checkpoint-clause-current : goal.returns-in_default-entry_past_checkpoint-clause-current
returns-in_default-entry_past_checkpoint-clause-current g c =
    same_current c.what_changes_rest_on.ensures.groups_ascend (fields_of g.B.Blocks.log c.args.self.now) (fields_of g.B.Blocks.log c.entry_past_checkpoint.new.self) c.args.object c.in-Some.row
    c.entry_past_checkpoint.ensures.same c.requires (sym c.in-Some.ensures) c.in_default-entry_past_checkpoint.ensures.none

pub put_checkpoint-requires : goal.put_checkpoint-requires
put_checkpoint-requires g c =
    let s : StoreFields = fields_of g.B.Blocks.log c.args.self.now in
    let same = c.entry_past_checkpoint.ensures.same in
    subst (λ (v : StoreFields). CanCheckpoint v c.args.object c.in-Some.row c.in-Some-present.present.now c.in-Some-entry_past_checkpoint.moment) (sym same)
    (at_last c.what_changes_rest_on.ensures.groups_ascend c.what_changes_rest_on.ensures.last s c.args.object c.in-Some.row c.in-Some-present.present.now c.in-Some-entry_past_checkpoint.moment c.room.result
    c.requires (sym c.in-Some.ensures) c.in-Some-entry_past_checkpoint.ensures.moment c.in-Some-entry_past_checkpoint.ensures.behind
    (c.room.ensures ∙ ap (λ (v : StoreFields). room v) same) (subst (λ (n : ℕ). n ≤ c.room.result) c.checkpoint_blocks.ensures.blocks c.if-room-checkpoint_blocks.false)
    (c.in-Some-present.ensures ∙ ap (λ (v : StoreFields). inode_in v c.args.object v.latest) same))
