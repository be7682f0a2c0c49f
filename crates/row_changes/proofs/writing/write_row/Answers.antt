use Rattle.std.proofs.Common.{refl, sym, ap, ◌∙◌, subst, rules, List, IsSome, option_copied}
use Rattle.block_log.specs.declared.kinds.BlockKind.TheVariants.{Journal}
use Rattle.block_log.proofs.Taking.{among_later}
use Rattle.codec.specs.Entry.{EntryFields}
use Rattle.time_read.specs.Rows.{chain_of, entries_of}
use Rattle.checkpoint.specs.Held.{places_named, is_one_of}
use Rattle.journal_chain.specs.Chain.{BlockView, Holds}
use Rattle.journal_chain.specs.Push.{whole_blocks}
use Rattle.time_read.proofs.Staying.{same_entries}
use Rattle.row_changes.specs.Moving.{kept_blocks}
use Rattle.row_changes.proofs.Places.{journal_views}
use Rattle.row_changes.proofs.WrittenRow.{Stands, with_written, holds_told, told_still, written_row, written_first, written_inode, written_orderly, metadata_alone, among_first, row_in_order}
use Rattle.row_changes.proofs.writing.write_row.Goals as goal

pub write_chain-chain-requires-clause-held : goal.write_chain-chain-requires-clause-held
write_chain-chain-requires-clause-held g c =
    let held = (g.B.Blocks.log c.args.table.now).held in
    let between = (g.B.Blocks.log c.put_kept-checkpoint.new.table).held in
    let o = c.args.object in
    let row = c.args.row.now in
    let same = c.put_kept-checkpoint.ensures.others Journal o refl in
    subst (λ (es : List EntryFields). Holds between (chain_of o row) es) (sym (same_entries held between o row same))
    (c.a_chain_is_in_its_journal_blocks.ensures.same held between (chain_of o row) (entries_of held o row) same c.requires.row.chain)

pub returns : goal.returns
returns g c =
    let log = g.B.Blocks.log c.args.table.now in
    let between = g.B.Blocks.log c.put_kept-checkpoint.new.table in
    let after = g.B.Blocks.log c.write_chain-chain.new.table in
    let o = c.args.object in
    let row = c.args.row.now in
    let m = c.args.moment in
    let kept = option_copied c.args.kept in
    let entries = c.args.entries.now in
    let place = c.put_kept-checkpoint.result in
    let chain = c.write_chain-chain.result in
    let head = c.head.result in
    let bytes = c.bytes.result in
    let filled = c.filled.result in
    let first = kept_blocks kept in
    let then = whole_blocks entries in
    let same = journal_views o between.held after.held c.write_chain-chain.ensures.others in
    let holds = holds_told after.held o row place m head bytes filled c.write_chain-chain.result entries c.write_chain-chain.ensures.object c.head.ensures c.bytes.ensures.bytes c.filled.ensures.filled c.write_chain-chain.ensures.holds in
    let s : Stands after.held o row m kept entries place head bytes filled = record {
      object = c.requires.row.object;
      none = c.requires.sides;
      tell = c.requires.tell;
      some = c.put_kept-checkpoint.ensures.some;
      told = told_still between.held after.held o row m kept place head bytes filled same c.put_kept-checkpoint.ensures.told;
      only = λ q there. ap (λ (v : BlockView). is_one_of (places_named v place) q) same ∙ c.put_kept-checkpoint.ensures.only q (subst (λ (v : _). IsSome (v q)) same there);
      holds = holds;
      found = c.a_chain_is_in_its_journal_blocks.ensures.entries after.held (chain_of o (with_written row place m head bytes filled)) entries holds;
    } in
    record {
      row = written_row after.held o row m kept entries place head bytes filled s;
      entries = s.found;
      checkpoint = s.told;
      first = written_first after.held o row m kept entries place head bytes filled s;
      inode = λ t. written_inode after.held o row m kept entries place head bytes filled t s;
      orderly = λ latest. written_orderly after.held o row m kept entries place head bytes filled latest s;
      fields = search rules;
      some = s.some;
      others = metadata_alone log.held between.held after.held o c.put_kept-checkpoint.ensures.others c.write_chain-chain.ensures.others;
      takes = g.met.B.Blocks.places_taken_add_up first then log between after c.put_kept-checkpoint.ensures.takes c.write_chain-chain.ensures.takes;
      named = c.write_chain-chain.ensures.named ∙ c.put_kept-checkpoint.ensures.named;
      journal = λ p there. among_later first then log between p c.put_kept-checkpoint.ensures.takes (c.write_chain-chain.ensures.places p there);
      checkpoints = λ p there. among_first first then log.ahead p (c.put_kept-checkpoint.ensures.places p (subst (λ (v : _). IsSome (v p)) same there));
      order = row_in_order o log.ahead between after place chain.head head c.put_kept-checkpoint.ensures.order same c.head.ensures c.write_chain-chain.ensures.order;
      answer = search rules;
      unchanged = search rules;
    }
