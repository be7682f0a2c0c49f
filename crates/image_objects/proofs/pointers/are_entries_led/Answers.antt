use Rattle.std.proofs.Common.{sym, ◌∙◌, subst, List}
use Rattle.std.specs.List.{All}
use Rattle.lemmas.proofs.List.{all_of_one}
use Rattle.codec.specs.declared.entries.Triple.{Triple}
use Rattle.codec.specs.Entry.{EntryFields}
use Rattle.version_store.specs.Store.{IsLed, sides_of}
use Rattle.image_objects.proofs.Parts.{part_more, parts_taken}
use Rattle.image_objects.proofs.pointers.are_entries_led.Goals as goal

pub loop-entry-preserved : goal.loop-entry-preserved
loop-entry-preserved g c =
    part_more (IsLed (g.U.UsedBlocks.used c.args.used.now) c.args.object) (λ (e : EntryFields). sides_of e.triples) c.args.entries.now c.loop-entry.entry-index c.entry-item.result c.loop-entry-test.true c.entry-item.is c.loop-entry.invariant
    (subst (λ (ts : List Triple). All (IsLed (g.U.UsedBlocks.used c.args.used.now) c.args.object) (sides_of ts)) c.triples.ensures.triples (c.are_triples_led.ensures.is c.if-not-are_triples_led.false))

pub returns-then-not-are_triples_led-clause-only : goal.returns-then-not-are_triples_led-clause-only
returns-then-not-are_triples_led-clause-only g c = λ h.
    sym c.if-not-are_triples_led.true
    ∙ c.are_triples_led.ensures.only (subst (λ (ts : List Triple). All (IsLed (g.U.UsedBlocks.used c.args.used.now) c.args.object) (sides_of ts)) (sym c.triples.ensures.triples)
    (all_of_one (IsLed (g.U.UsedBlocks.used c.args.used.now) c.args.object) (λ (e : EntryFields). sides_of e.triples) c.args.entries.now c.loop-entry.entry-index c.entry-item.result c.loop-entry-test.true c.entry-item.is h))

pub returns-clause-is : goal.returns-clause-is
returns-clause-is g c = λ _.
    parts_taken (IsLed (g.U.UsedBlocks.used c.args.used.now) c.args.object) (λ (e : EntryFields). sides_of e.triples) c.args.entries.now c.loop-entry.entry-index c.loop-entry-test.false c.loop-entry.invariant
