use Rattle.std.proofs.Common.{◌≤◌, ◌++◌, ◌∙◌, List, length, sym, ap, subst}
use Rattle.block_log.specs.Taken.{TakesPlaces}
use Rattle.codec.specs.Entry.{EntryFields, entries_length}
use Rattle.journal_chain.specs.Packing.{AllFit}
use Rattle.journal_chain.specs.Chain.{Holds, entries_held}
use Rattle.journal_chain.specs.Push.{pushed_blocks}
use Rattle.journal_chain.proofs.chain.Chain.push.Goals as goal

pub append-requires-clause-fit : goal.append-requires-clause-fit
append-requires-clause-fit g c = subst AllFit c.split_first-later.ensures c.requires.room.fit

pub append-requires-clause-bytes : goal.append-requires-clause-bytes
append-requires-clause-bytes g c = c.requires.bytes ∙ ap entries_length c.split_first-later.ensures

pub append-requires-clause-room : goal.append-requires-clause-room
append-requires-clause-room g c =
    subst (λ (es : List EntryFields). pushed_blocks c.args.self.now es ≤ length (g.B.Blocks.log c.args.table.now).ahead) c.split_first-later.ensures c.requires.room.blocks

pub returns-clause-holds : goal.returns-clause-holds
returns-clause-holds g c =
    subst (λ (es : List EntryFields). Holds (g.B.Blocks.log c.append.new.table).held c.append.new.self (entries_held (g.B.Blocks.log c.args.table.now).held c.args.self.now ++ es))
    (sym c.split_first-later.ensures) c.append.ensures.holds

pub returns-clause-takes : goal.returns-clause-takes
returns-clause-takes g c =
    subst (λ (es : List EntryFields). TakesPlaces (pushed_blocks c.args.self.now es) (g.B.Blocks.log c.args.table.now) (g.B.Blocks.log c.append.new.table)) (sym c.split_first-later.ensures) c.append.ensures.takes
