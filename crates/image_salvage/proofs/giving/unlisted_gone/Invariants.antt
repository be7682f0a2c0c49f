-- What is left to be counted gives all.
use Rattle.std.proofs.Common.{◌≡◌, drop}
use Rattle.segment_table.specs.Used.{used_at}
use Rattle.image_salvage.specs.Giving.{with_gone}
use Rattle.image_salvage.proofs.giving.unlisted_gone.Given as goal

abbrev pub invariant-loop-unlisted : goal.invariant-loop-unlisted
invariant-loop-unlisted l = with_gone (used_at l.image.table) (drop l.unlisted-index l.objects) l.gone ≡ with_gone (used_at l.image.table) l.objects 0
