use Rattle.std.proofs.Common.{◌≡◌, ℕ, ◌<◌, ◌≤◌, length, MatchResult, sym, ap, subst, ◌∙◌}
use Rattle.s4_types.specs.declared.refusals.Refusal.TheVariants.{NoRoom}
use Rattle.codec.specs.Entry.{entries_length}
use Rattle.undo_redo.specs.Runs.{undone_all}
use Rattle.object_map.specs.declared.map.Row.{Row}
use Rattle.time_read.specs.Orderly.{IsFromTo, IsOrderly, IsOrderlyChain}
use Rattle.row_changes.specs.Rewritten.{rewritten_blocks}
use Rattle.version_store.proofs.Anew.{metadata_behind, no_less, taken_behind}
use Rattle.version_store.proofs.written_anew.rewrite_blocks.Goals as goal

pub rewrite_row-requires : goal.rewrite_row-requires
rewrite_row-requires g c = record {
  row = c.drop_sides-bare.ensures.row;
  sides = ap (λ (r : Row). r.sides) c.drop_sides-bare.ensures.fields;
  run = c.requires.run;
  groups = c.requires.groups;
  latest = c.requires.latest;
  limit = c.requires.limit;
  created = c.requires.created ∙ sym (ap (λ (r : Row). r.created) c.drop_sides-bare.ensures.fields);
  rules = c.requires.rules;
}

-- there is room, so it is written
pub unreachable-requires : goal.unreachable-requires
unreachable-requires g c =
    let before = g.B.Blocks.log c.args.table.now in
    let between = g.B.Blocks.log c.drop_sides-bare.new.table in
    let n = rewritten_blocks c.args.present.now c.args.entries.now in
    let refused = subst (λ (x : _). MatchResult x (λ _. n ≤ length between.ahead) (λ e. (e ≡ NoRoom) × (length between.ahead < n))) c.in_default.is c.rewrite_row.ensures.answer in
    absurd (no_less before between n c.drop_sides-bare.ensures.takes c.requires.room refused.1)

pub returns : goal.returns
returns g c =
    let before = g.B.Blocks.log c.args.table.now in
    let between = g.B.Blocks.log c.drop_sides-bare.new.table in
    let later = g.B.Blocks.log c.rewrite_row.new.table in
    let o = c.args.object in
    let row = c.args.row.now in
    let present = c.args.present.now in
    let entries = c.args.entries.now in
    let m = c.args.moment in
    let next = c.in-Ok.next in
    let bare = c.drop_sides-bare.ensures.fields in
    record {
      rewritten = record {
        stands = c.in-Ok.ensures.row;
        by = c.in-Ok.ensures.latest;
        entries_are = c.in-Ok.ensures.entries;
        inode = c.in-Ok.ensures.inode;
        orderly = subst (λ (r : Row). (latest : ℕ) → IsOrderlyChain r.created latest (undone_all entries present) entries → IsFromTo r.created latest m → IsFromTo 1 latest r.created → IsOrderly later.held o next latest) bare c.in-Ok.ensures.orderly;
        fields = subst (λ (r : Row). next ≡ record r { checkpoint = next.checkpoint; checkpoint_moment = m; head = next.head; journal_bytes = entries_length entries; head_bytes = next.head_bytes }) bare c.in-Ok.ensures.fields;
        some = c.in-Ok.ensures.some;
      };
      others = metadata_behind o before.held between.held later.held c.drop_sides-bare.ensures.dropped.others c.rewrite_row.ensures.others;
      takes = taken_behind g.met.B.Blocks.places_taken_add_up (rewritten_blocks present entries) before between later c.drop_sides-bare.ensures.takes c.in-Ok.ensures.takes;
      named = c.rewrite_row.ensures.named ∙ c.drop_sides-bare.ensures.named;
    }
