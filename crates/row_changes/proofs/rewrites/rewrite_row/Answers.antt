use Rattle.std.proofs.Common.{ℕ, sym, ap, subst, ◌∙◌}
use Rattle.std.proofs.lemmas.Result.{IfOk-weaker}
use Rattle.codec.specs.declared.inodes.Inode.{Inode}
use Rattle.undo_redo.specs.Runs.{inode_after}
use Rattle.object_map.specs.declared.map.Row.{Row}
use Rattle.time_read.specs.Orderly.{IsOrderlyChain}
use Rattle.row_changes.proofs.CheckpointLemmas.{Laws}
use Rattle.row_changes.proofs.RewrittenRow.{first_is, can_rewrite, rewritten_by, rewritten_last, both_ok}
use Rattle.row_changes.proofs.rewrites.rewrite_row.Goals as goal

pub write_row-requires : goal.write_row-requires
write_row-requires g c =
    let laws : Laws = record {
      end = c.entries_determine_a_run.ensures.end;
      beginning = c.entries_determine_a_run.ensures.beginning;
      done = c.entries_determine_a_run.ensures.done;
    } in
    record {
      row = c.requires.row;
      sides = c.requires.sides;
      tell = can_rewrite c.args.object c.args.row.now.created c.args.moment c.args.present.now c.args.entries.now laws c.entries_determine_a_run.ensures.making
          c.requires.rules c.requires.run c.requires.groups c.requires.latest c.requires.limit c.requires.created;
    }

pub returns-clause-latest : goal.returns-clause-latest
returns-clause-latest g c =
    let held = (g.B.Blocks.log c.write_row.new.table).held in
    IfOk-weaker c.write_row.result _ _
    (λ later h. rewritten_by held c.args.object later c.args.moment c.args.entries.now h.0 (ap (λ (r : Row). r.checkpoint_moment) h.1) c.requires.latest)
    (both_ok c.write_row.result _ _ c.write_row.ensures.entries c.write_row.ensures.fields)

pub returns-clause-first : goal.returns-clause-first
returns-clause-first g c =
    IfOk-weaker c.write_row.result _ _ (λ later h. h ∙ first_is c.args.object c.args.row.now.created c.args.moment c.args.present.now c.args.entries.now c.requires.latest) c.write_row.ensures.first

pub returns-clause-inode : goal.returns-clause-inode
returns-clause-inode g c =
    let held = (g.B.Blocks.log c.write_row.new.table).held in
    let first = first_is c.args.object c.args.row.now.created c.args.moment c.args.present.now c.args.entries.now c.requires.latest in
    IfOk-weaker c.write_row.result _ _ (λ later h. λ (t : ℕ). h t ∙ ap (λ (i : Inode). inode_after i c.args.entries.now t) first) c.write_row.ensures.inode

pub returns-clause-last : goal.returns-clause-last
returns-clause-last g c =
    let held = (g.B.Blocks.log c.write_row.new.table).held in
    let laws : Laws = record {
      end = c.entries_determine_a_run.ensures.end;
      beginning = c.entries_determine_a_run.ensures.beginning;
      done = c.entries_determine_a_run.ensures.done;
    } in
    let first = first_is c.args.object c.args.row.now.created c.args.moment c.args.present.now c.args.entries.now c.requires.latest in
    IfOk-weaker c.write_row.result _ _ (λ later h. rewritten_last held c.args.object later c.args.present.now c.args.entries.now laws h.0 (h.1 ∙ first) c.requires.run)
    (both_ok c.write_row.result _ _ c.write_row.ensures.entries c.write_row.ensures.first)

pub returns-clause-orderly : goal.returns-clause-orderly
returns-clause-orderly g c =
    let row = c.args.row.now in
    let entries = c.args.entries.now in
    let first = first_is c.args.object row.created c.args.moment c.args.present.now entries c.requires.latest in
    IfOk-weaker c.write_row.result _ _ (λ later h. λ latest orderly at made.
    h latest (subst (λ (i : Inode). IsOrderlyChain row.created latest i entries) (sym first) orderly) made at) c.write_row.ensures.orderly
