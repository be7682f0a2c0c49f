use Rattle.std.proofs.Common.{◌∙◌, [], ap}
use Rattle.journal_chain.specs.Back.{entries_left}
use Rattle.journal_chain.proofs.Backwards.{reader_begins}
use Rattle.journal_chain.proofs.chain.Chain.entries_back.Goals as goal

pub returns : goal.returns
returns c = λ held there.
    ap (entries_left held) (c.new.ensures ∙ ap (λ q. record { previous = q; entries = [] }) c.head.ensures)
    ∙ reader_begins held c.args.self.now.object c.args.self.now.head there
