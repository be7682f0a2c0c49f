use Rattle.std.proofs.Common.{List, ℕ, [], get_or, ap, ◌∙◌, arith}
use Rattle.std.proofs.lemmas.List.{get_or-set_same}
use Rattle.segment_table.specs.Slots.{unheld}
use Rattle.segment_table.specs.Table.{slots_at}
use Rattle.segment_table.specs.declared.slots.Slot.{Slot}
use Rattle.image_salvage.proofs.searching.set_found.Goals as goal

pub returns-clause-frame : goal.returns-clause-frame
returns-clause-frame c bytes place same begins = record {
  summary = c.args.found.now.summary;
  begins = begins;
  numbered = c.requires.numbered;
  phase = c.set_used.ensures.state;
  generation = c.set_used.ensures.generation;
  roles = ap (λ (l : List (List Slot)). slots_at l c.args.number) c.set_used.ensures.slots ∙ get_or-set_same c.args.table.now.slots c.args.number (unheld c.args.found.now.summary.roles) [] (omega (arith, c.requires.inside, c.requires.counted));
  blocks = λ b h. c.set_used.ensures.blocks b h ∙ ap (λ (l : List (List ℕ)). get_or l b []) same;
}
