use Rattle.std.proofs.Common.{◌≡◌, None, true, false}
use Rattle.rpc.proofs.StreamLaws.{fed_on, nothing_on}
use Rattle.rpc.proofs.reader.read_on.Goals as goal

pub returns-then-has_failed-clause-read : goal.returns-then-has_failed-clause-read
returns-then-has_failed-clause-read g c = λ stream first.
    nothing_on g.T.Message.spells stream c.args.piece.now c.args.items.now.items c.args.reader.now (c.has_failed.ensures.0 c.if-has_failed.true) first

pub returns-clause-read : goal.returns-clause-read
returns-clause-read g c = λ stream first.
    let has : c.args.reader.now ≡ None → ⊥ = λ e. let t : c.has_failed.result ≡ true = c.has_failed.ensures.1 e in let f : c.has_failed.result ≡ false = c.if-has_failed.false in absurd cc in
    fed_on g.T.Message.spells stream c.args.piece.now c.args.items.now.items c.in_ok-more.more.items c.append.new.self.items c.args.reader.now c.feed.new.self has c.in_ok-append.ensures.items first c.in_ok-more.ensures.items
