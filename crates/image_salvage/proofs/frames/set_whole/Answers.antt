use Rattle.std.proofs.Common.{◌≡◌, List, [], ℕ, get_or, ap, ◌∙◌, arith}
use Rattle.codec.proofs.SummaryLaws.{one_summary}
use Rattle.image_parts.specs.Frames.{blocks_of}
use Rattle.segment_table.specs.Slots.{unheld}
use Rattle.verifier.proofs.Frames.{slots_there}
use Rattle.image_salvage.proofs.Seeing.{summary_number}
use Rattle.image_salvage.proofs.frames.set_whole.Goals as goal

pub set_used-requires-clause-number : goal.set_used-requires-clause-number
set_used-requires-clause-number c = summary_number one_summary c.args.number c.args.frame.now c.args.summary.now c.requires.whole c.requires.spelled

pub returns-clause-frame : goal.returns-clause-frame
returns-clause-frame c =
    let blocks : c.in-Ok.whole.now ≡ blocks_of c.args.frame.now.contents = c.in-Ok.ensures.1.same ∙ c.blocks-blocks.ensures.blocks in
    record {
      summary = c.args.summary.now;
      spelled = c.requires.spelled;
      numbered = summary_number one_summary c.args.number c.args.frame.now c.args.summary.now c.requires.whole c.requires.spelled;
      phase = c.set_used.ensures.state;
      generation = c.set_used.ensures.generation;
      roles = slots_there c.args.table.now.slots c.set_used.new.self.slots c.args.number (unheld c.args.summary.now.roles) (omega (arith, c.requires.counted)) c.set_used.ensures.slots;
      blocks = λ b h. c.set_used.ensures.blocks b h ∙ ap (λ (l : List (List ℕ)). get_or l b []) blocks;
    }
