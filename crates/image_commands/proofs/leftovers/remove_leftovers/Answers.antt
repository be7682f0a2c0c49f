use Rattle.std.proofs.KnownBytes.{Keeps-refl, Keeps-trans}
use Rattle.image_commands.proofs.Leaving.{whole_on, whole_untouched}
use Rattle.image_commands.proofs.leftovers.remove_leftovers.Goals as goal

pub loop-number-init : goal.loop-number-init
loop-number-init g c = record { others = λ path elsewhere. Keeps-refl _; whole = λ path. whole_untouched _ }

pub loop-number-preserved : goal.loop-number-preserved
loop-number-preserved g c = record {
  others = λ path elsewhere. Keeps-trans _ _ _ (c.loop-number.invariant.others path elsewhere) (c.remove_leftover.ensures.others path elsewhere);
  whole = λ path. whole_on _ _ _ (c.loop-number.invariant.whole path) (c.remove_leftover.ensures.whole path);
}
