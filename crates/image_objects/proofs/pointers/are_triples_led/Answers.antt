use Rattle.std.proofs.Common.{[], ◌∷◌, sym, ◌∙◌}
use Rattle.lemmas.proofs.List.{all_of_one}
use Rattle.codec.specs.declared.entries.Triple.{Triple}
use Rattle.version_store.specs.Store.{IsLed}
use Rattle.image_objects.proofs.Parts.{part_more, parts_taken}
use Rattle.image_objects.proofs.pointers.are_triples_led.Goals as goal

pub loop-triple-preserved : goal.loop-triple-preserved
loop-triple-preserved g c =
    part_more (IsLed (g.U.UsedBlocks.used c.args.used.now) c.args.object) (λ (t : Triple). t.before ∷ t.after ∷ []) c.args.triples.now c.loop-triple.triple-index c.triple-item.result c.loop-triple-test.true c.triple-item.is c.loop-triple.invariant
    (c.are_sides_led.ensures.is c.if-not-are_sides_led.false)

pub returns-then-not-are_sides_led-clause-only : goal.returns-then-not-are_sides_led-clause-only
returns-then-not-are_sides_led-clause-only g c = λ h.
    sym c.if-not-are_sides_led.true
    ∙ c.are_sides_led.ensures.only (all_of_one (IsLed (g.U.UsedBlocks.used c.args.used.now) c.args.object) (λ (t : Triple). t.before ∷ t.after ∷ []) c.args.triples.now c.loop-triple.triple-index c.triple-item.result c.loop-triple-test.true c.triple-item.is h)

pub returns-clause-is : goal.returns-clause-is
returns-clause-is g c = λ _.
    parts_taken (IsLed (g.U.UsedBlocks.used c.args.used.now) c.args.object) (λ (t : Triple). t.before ∷ t.after ∷ []) c.args.triples.now c.loop-triple.triple-index c.loop-triple-test.false c.loop-triple.invariant
