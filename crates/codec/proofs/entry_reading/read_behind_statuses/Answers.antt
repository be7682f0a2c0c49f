use Rattle.std.proofs.Common.{ap, sym, ◌∙◌}
use Rattle.codec.specs.Entry.{is_allowed_by}
use Rattle.codec.proofs.Allowed.{rest_refused, rest_allowed}
use Rattle.codec.proofs.entry_reading.read_behind_statuses.Goals as goal

pub returns-then-not-is_allowed : goal.returns-then-not-is_allowed
returns-then-not-is_allowed c =
    rest_refused c.args.version c.args.moment c.args.before c.args.after c.args.has_pair c.args.count c.args.bytes.now c.in-Some.rest.now c.in-Some-read_triples.rest.now c.in-Some.pair c.in-Some-read_triples.triples.items
    c.in-Some.ensures c.in-Some-read_triples.ensures
    (ap (is_allowed_by c.args.version c.args.before.size c.args.after.size) (sym c.deref.ensures.0) ∙ sym c.is_allowed.ensures ∙ c.if-not-is_allowed.true)

pub returns : goal.returns
returns c =
    rest_allowed c.args.version c.args.moment c.args.before c.args.after c.args.has_pair c.args.count c.args.bytes.now c.in-Some.rest.now c.in-Some-read_triples.rest.now c.in-Some.pair c.in-Some-read_triples.triples.items c.in_ok-entry.entry
    c.in-Some.ensures c.in-Some-read_triples.ensures
    (ap (is_allowed_by c.args.version c.args.before.size c.args.after.size) (sym c.deref.ensures.0) ∙ sym c.is_allowed.ensures ∙ c.if-not-is_allowed.false)
    c.in_ok-entry.ensures
