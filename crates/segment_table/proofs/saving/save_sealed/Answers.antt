use Rattle.std.proofs.Common.{◌≡◌, ◌+◌, ◌^◌, ◌<◌, ℕ, map, Option, sym, ap, subst, ◌∙◌}
use Rattle.codec.specs.Fields.{Reads}
use Rattle.codec.specs.Summary.{SummaryFields, UnusedAreBlank, checked_summary}
use Rattle.segment_word.specs.Frames.{code_of}
use Rattle.segment_word.specs.Layout.{frame_at}
use Rattle.segment_word.specs.Handles.{Drive}
use Rattle.segment_table.specs.declared.slots.Slot.{Slot}
use Rattle.segment_table.specs.Sealing.{summary_of}
use Rattle.segment_table.proofs.Summing.{CanSum, never_refused, summary_is}
use Rattle.segment_table.proofs.SavedBlocks.{spelled_as}
use Rattle.segment_table.proofs.saving.save_sealed.Goals as goal

pub unwrap-summary-requires : goal.unwrap-summary-requires
unwrap-summary-requires c =
    let same : c.sealed_payload-payload.new.seat ≡ c.args.seat.now = c.sealed_payload-payload.ensures.same in
    let C : Drive → Type 0 = λ d. 0 < code_of (frame_at d.frames c.args.frame).phase in
    let last : c.generation-generation.result + 1 < 2 ^ 32 = c.generation-generation.ensures.most (subst C (sym same) c.requires.phase) in
    let can : CanSum c.generation-generation.result c.args.slots.now = record { started = c.generation-generation.ensures.least; goes_on = last; some = c.requires.used.0; few = c.requires.used.1; owned = c.requires.owned } in
    never_refused c.args.frame c.generation-generation.result c.args.slots.now c.roles.result.items c.new.result can c.roles.ensures c.new.ensures

pub returns-clause-spelled : goal.returns-clause-spelled
returns-clause-spelled c =
    let same : c.sealed_payload-payload.new.seat ≡ c.args.seat.now = c.sealed_payload-payload.ensures.same in
    let C : Drive → Type 0 = λ d. 0 < code_of (frame_at d.frames c.args.frame).phase in
    let last : c.generation-generation.result + 1 < 2 ^ 32 = c.generation-generation.ensures.most (subst C (sym same) c.requires.phase) in
    let can : CanSum c.generation-generation.result c.args.slots.now = record { started = c.generation-generation.ensures.least; goes_on = last; some = c.requires.used.0; few = c.requires.used.1; owned = c.requires.owned } in
    let M : Option SummaryFields → Type 0 = λ o. Reads (λ s. s) o (checked_summary (record { frame = c.args.frame; generation = c.generation-generation.result; roles = c.roles.result.items })) in
    let is : c.unwrap-summary.result ≡ summary_of c.args.frame (frame_at c.args.seat.now.frames c.args.frame) c.args.slots.now =
    summary_is c.args.frame c.generation-generation.result c.args.slots.now c.roles.result.items c.unwrap-summary.result can c.roles.ensures (subst M c.unwrap-summary.ensures c.new.ensures)
    ∙ ap (λ (g : ℕ). record { frame = c.args.frame; generation = g; roles = map (λ (slot : Slot). slot.role) c.args.slots.now })
    (c.generation-generation.ensures.generation ∙ ap (λ (d : Drive). (frame_at d.frames c.args.frame).generation) same) in
    let U : ℕ → Type 0 = λ n. UnusedAreBlank n c.sealed_payload-payload.result in
    spelled_as c.args.frame (frame_at c.args.seat.now.frames c.args.frame) c.args.slots.now c.write_blocks.new.blocks c.sealed_payload-payload.result c.encode_summary.result c.unwrap-summary.result
    c.write_blocks.ensures is (subst U c.len.ensures.count c.sealed_payload-payload.ensures.unused) c.encode_summary.ensures.decodes
