use Rattle.std.proofs.Common.{◌≡◌, ℕ, ◌<◌, ◌≤◌, length, MatchOption, MatchResult, sym, ap, subst, ◌∙◌}
use Rattle.std.specs.Prelude.{option_copied}
use Rattle.s4_types.specs.declared.refusals.Refusal.TheVariants.{NoRoom}
use Rattle.codec.specs.Entry.{entries_length}
use Rattle.undo_redo.specs.Runs.{inode_after}
use Rattle.object_map.specs.declared.map.Row.{Row}
use Rattle.time_read.specs.Rows.{checkpoint_of, inode_of}
use Rattle.time_read.specs.Orderly.{BeginsDead, IsFromTo, IsOrderly, IsOrderlyChain}
use Rattle.row_changes.specs.Moving.{CanTell, checkpoint_with, first_with, moved_blocks}
use Rattle.version_store.proofs.Anew.{metadata_behind, among_same, no_less, taken_behind}
use Rattle.version_store.proofs.written_anew.move_blocks.Goals as goal

pub move_row-requires : goal.move_row-requires
move_row-requires g c = record {
  row = c.drop_sides-bare.ensures.row;
  sides = ap (λ (r : Row). r.sides) c.drop_sides-bare.ensures.fields;
  tell = subst (λ (r : Row). CanTell c.args.object r (option_copied c.args.kept) c.args.entries.now) (sym c.drop_sides-bare.ensures.fields)
      (record { same = c.requires.tell.same; rules = c.requires.tell.rules; current = c.requires.tell.current; run = c.requires.tell.run; groups = c.requires.tell.groups; bytes = c.requires.tell.bytes; created = c.requires.tell.created });
}

-- there is room, so it is written
pub unreachable-requires : goal.unreachable-requires
unreachable-requires g c =
    let before = g.B.Blocks.log c.args.table.now in
    let between = g.B.Blocks.log c.drop_sides-bare.new.table in
    let n = moved_blocks (option_copied c.args.kept) c.args.entries.now in
    let refused = subst (λ (x : _). MatchResult x (λ _. n ≤ length between.ahead) (λ e. (e ≡ NoRoom) × (length between.ahead < n))) c.in_default.is c.move_row.ensures.answer in
    absurd (no_less before between n c.drop_sides-bare.ensures.takes c.requires.room refused.1)

pub returns : goal.returns
returns g c =
    let before = g.B.Blocks.log c.args.table.now in
    let between = g.B.Blocks.log c.drop_sides-bare.new.table in
    let later = g.B.Blocks.log c.move_row.new.table in
    let o = c.args.object in
    let row = c.args.row.now in
    let kept = option_copied c.args.kept in
    let entries = c.args.entries.now in
    let next = c.in-Ok.next in
    let bare = c.drop_sides-bare.ensures.fields in
    let n = moved_blocks kept entries in
    record {
      moved = record {
        stands = c.in-Ok.ensures.row;
        journal = c.in-Ok.ensures.entries;
        checkpoint = subst (λ (r : Row). checkpoint_of later.held o next ≡ checkpoint_with o r kept) bare c.in-Ok.ensures.checkpoint;
        inode = subst (λ (r : Row). (t : ℕ) → inode_of later.held o next t ≡ inode_after (first_with o r kept entries) entries t) bare c.in-Ok.ensures.inode;
        orderly = subst (λ (r : Row). (latest : ℕ) → IsOrderlyChain r.created latest (first_with o r kept entries) entries → IsFromTo 1 latest r.created
            → MatchOption r.checkpoint (BeginsDead entries) (λ p. IsFromTo r.created latest r.checkpoint_moment) → IsOrderly later.held o next latest) bare c.in-Ok.ensures.orderly;
        fields = subst (λ (r : Row). next ≡ record r { checkpoint = next.checkpoint; head = next.head; journal_bytes = entries_length entries; head_bytes = next.head_bytes }) bare c.in-Ok.ensures.fields;
        metadata = metadata_behind o before.held between.held later.held c.drop_sides-bare.ensures.dropped.others c.move_row.ensures.others;
        takes = taken_behind g.met.B.Blocks.places_taken_add_up n before between later c.drop_sides-bare.ensures.takes c.in-Ok.ensures.takes;
        chains = λ p there. among_same before between n p c.drop_sides-bare.ensures.takes (c.in-Ok.ensures.journal p there);
        checkpoints = λ p there. among_same before between n p c.drop_sides-bare.ensures.takes (c.in-Ok.ensures.checkpoints p there);
      };
      named = c.move_row.ensures.named ∙ c.drop_sides-bare.ensures.named;
    }
