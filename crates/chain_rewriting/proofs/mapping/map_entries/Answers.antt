use Rattle.std.proofs.Common.{sym, ap, subst, ◌∙◌, arith}
use Rattle.codec.specs.Entry.{EntryFields}
use Rattle.chain_rewriting.specs.CleaningLaws.{TellsWithin}
use Rattle.chain_rewriting.specs.Mapping.{mapped_entry}
use Rattle.chain_rewriting.proofs.InPlace.{none_before, more_before, all_before, holds_of_next}
use Rattle.chain_rewriting.proofs.mapping.map_entries.Goals as goal

pub map_entry-requires-clause-told : goal.map_entry-requires-clause-told
map_entry-requires-clause-told g c =
    let Tells : EntryFields → Type 0 = λ e. TellsWithin (g.M.MapsPlaces.is_known c.args.by.now) e in
    subst Tells c.entry-item.is
    (holds_of_next Tells (g.M.MapsPlaces.to c.args.by.now) c.loop-entry.entry-index c.args.entries.now c.loop-entry.entries c.entry-item.result c.loop-entry.invariant (omega arith) c.entry-item.is c.requires.told)

pub loop-entry-init : goal.loop-entry-init
loop-entry-init g c = none_before (g.M.MapsPlaces.to c.args.by.now) c.args.entries.now

pub loop-entry-preserved : goal.loop-entry-preserved
loop-entry-preserved g c =
    let f = g.M.MapsPlaces.to c.args.by.now in
    more_before f c.loop-entry.entry-index c.args.entries.now c.loop-entry.entries c.entry-item.result c.map_entry.result c.loop-entry.invariant c.entry-item.is
    (c.map_entry.ensures ∙ ap (mapped_entry f) (sym c.entry-item.is))

pub returns : goal.returns
returns g c = c.loop-entry.invariant ∙ all_before (g.M.MapsPlaces.to c.args.by.now) c.loop-entry.entry-index c.args.entries.now (omega arith)
