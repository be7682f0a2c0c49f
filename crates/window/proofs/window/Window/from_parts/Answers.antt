use Rattle.std.proofs.Common.{ap, refl, ◌∙◌, List, length, map}
use Rattle.s4_types.specs.declared.spans.Span.{Span}
use Rattle.window.specs.Runs.{cut}
use Rattle.window.specs.Chunks.{told}
use Rattle.window.proofs.Cutting.{cut_none}
use Rattle.window.proofs.Opening.{sound_opened}
use Rattle.window.proofs.window.Window.from_parts.Goals as goal

pub invariant_of-result : goal.invariant_of-result
invariant_of-result c =
    sound_opened c.args.clock c.args.floor c.earliest-earliest.result (length c.args.spans.now) c.args.spans.now c.in_ok-chunks.chunks.items c.requires.ordered c.requires.from_floor c.requires.past c.last_list-last.ensures c.requires.few c.requires.few_in_each_list
    c.in_ok-chunks.ensures.ok (c.earliest-earliest.ensures ∙ ap told c.as_slice.ensures.value) refl

pub returns-clause-saved_again : goal.returns-clause-saved_again
returns-clause-saved_again c = ap (λ (xs : List Span). map (cut c.args.floor) xs) c.in_ok-chunks.ensures.ok.0 ∙ cut_none c.args.floor c.args.spans.now c.requires.from_floor
