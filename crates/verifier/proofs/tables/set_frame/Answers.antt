use Rattle.std.proofs.Common.{◌≡◌, ℕ, sym, ap, subst, ◌∙◌, arith}
use Rattle.codec.proofs.SummaryLaws.{one_summary, kept_by}
use Rattle.image_parts.specs.Frames.{state_of, IsReadOf}
use Rattle.segment_word.specs.Frames.{Open}
use Rattle.segment_word.specs.Layout.{phase_of, frame_at}
use Rattle.segment_table.specs.Slots.{unheld}
use Rattle.segment_table.specs.Table.{slots_at}
use Rattle.verifier.proofs.Frames.{used_told, summary_number, summary_room, open_state, slots_there}
use Rattle.verifier.proofs.tables.set_frame.Goals as goal

-- the frame has the state of its word, these blocks, and what their one summary tells
pub returns-in-Ok-clause-frame : goal.returns-in-Ok-clause-frame
returns-in-Ok-clause-frame c =
    let frame = c.args.frame.now in
    let summary = c.in-Used.summary in
    let read = subst (IsReadOf frame) c.in-Used.is c.requires.read in
    used_told one_summary c.args.number frame (frame_at c.set_used.new.self.seat.frames c.args.number) (slots_at c.set_used.new.self.slots c.args.number) c.in-Ok.blocks.now summary read.0 c.requires.rules
    (c.in-Ok.ensures.1.same ∙ c.blocks-in-Used.ensures.blocks) read.1 (kept_by summary read.1.0.0)
    (c.set_used.ensures.state ∙ c.state_in.ensures ∙ ap (λ (w : ℕ). phase_of (state_of w)) c.word-in-Used.ensures) c.set_used.ensures.generation
    (slots_there c.args.table.now.slots c.set_used.new.self.slots c.args.number (unheld summary.roles) (omega (arith, c.requires.counted)) c.set_used.ensures.slots) c.set_used.ensures.blocks

pub set_used-requires-clause-number : goal.set_used-requires-clause-number
set_used-requires-clause-number c =
    let read = subst (IsReadOf c.args.frame.now) c.in-Used.is c.requires.read in
    summary_number one_summary c.args.number c.args.frame.now c.in-Used.summary read.0 c.requires.rules read.1

-- a word whose state is Open is that of an open frame
pub set_used-requires-clause-room : goal.set_used-requires-clause-room
set_used-requires-clause-room c opens =
    let frame = c.args.frame.now in
    let read = subst (IsReadOf frame) c.in-Used.is c.requires.read in
    let phase : phase_of (state_of frame.word) ≡ Open = sym (ap (λ (w : ℕ). phase_of (state_of w)) c.word-in-Used.ensures) ∙ sym c.state_in.ensures ∙ opens in
    summary_room one_summary c.args.number frame c.in-Used.summary read.0 c.requires.rules read.1 (open_state frame phase)
