use Rattle.std.proofs.Common.{sym, ◌∙◌}
use Rattle.segment_copier.proofs.rewriting.most_of.Goals as goal

pub checkpoint_size-requires : goal.checkpoint_size-requires
checkpoint_size-requires g c = (c.rules.ensures.store.objects c.args.object c.in-Some.row (sym c.row.ensures ∙ c.in-Some.is)).stands
