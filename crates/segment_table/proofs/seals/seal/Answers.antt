use Rattle.std.proofs.Common.{◌≡◌, ◌+◌, ◌^◌, ◌<◌, ℕ, length, map, Option, sym, ap, subst, ◌∙◌, arith}
use Rattle.codec.specs.Fields.{Reads}
use Rattle.codec.specs.Summary.{SummaryFields, checked_summary}
use Rattle.segment_word.specs.Frames.{code_of}
use Rattle.segment_word.specs.Layout.{frame_at}
use Rattle.segment_word.specs.Handles.{Drive}
use Rattle.segment_table.specs.declared.slots.Slot.{Slot}
use Rattle.segment_table.specs.Sealing.{payload_of, summary_of}
use Rattle.segment_table.specs.Changes.{IsCleared}
use Rattle.segment_table.proofs.Summing.{CanSum, never_refused, summary_is, sealed_is}
use Rattle.segment_table.proofs.seals.seal.Goals as goal

pub unwrap-summary-requires : goal.unwrap-summary-requires
unwrap-summary-requires c =
    let used : code_of (frame_at c.clear_unused.new.seat.frames c.args.frame).phase ≡ 1 = ap code_of (c.clear_unused.ensures.phase ∙ c.requires.open) in
    let last : c.generation-generation.result + 1 < 2 ^ 32 = c.generation-generation.ensures.most (omega arith) in
    let can : CanSum c.generation-generation.result c.args.slots.now = record { started = c.generation-generation.ensures.least; goes_on = last; some = c.requires.used.0; few = c.requires.used.1; owned = c.requires.owned } in
    never_refused c.args.frame c.generation-generation.result c.args.slots.now c.roles.result.items c.new.result can c.roles.ensures c.new.ensures

pub returns : goal.returns
returns c =
    let d1 : Drive = c.clear_unused.new.seat in
    let used : code_of (frame_at d1.frames c.args.frame).phase ≡ 1 = ap code_of (c.clear_unused.ensures.phase ∙ c.requires.open) in
    let last : c.generation-generation.result + 1 < 2 ^ 32 = c.generation-generation.ensures.most (omega arith) in
    let can : CanSum c.generation-generation.result c.args.slots.now = record { started = c.generation-generation.ensures.least; goes_on = last; some = c.requires.used.0; few = c.requires.used.1; owned = c.requires.owned } in
    let same : c.read_payload.new.seat ≡ d1 = c.read_payload.ensures.same ∙ c.generation-generation.ensures.same in
    let U : ℕ → Type 0 = λ n. IsCleared c.args.frame (n + 1) 16 c.args.seat.now c.read_payload.new.seat in
    let cleared : U (length c.args.slots.now) = subst U c.len.ensures.count (let V : Drive → Type 0 = λ d. IsCleared c.args.frame (c.len.result + 1) 16 c.args.seat.now d in subst V (sym same) c.clear_unused.ensures) in
    let paid : c.read_payload.new.payload ≡ payload_of (frame_at c.read_payload.new.seat.frames c.args.frame).contents =
    c.read_payload.ensures.payload ∙ ap (λ (d : Drive). payload_of (frame_at d.frames c.args.frame).contents) (sym c.read_payload.ensures.same) in
    let M : Option SummaryFields → Type 0 = λ o. Reads (λ s. s) o (checked_summary (record { frame = c.args.frame; generation = c.generation-generation.result; roles = c.roles.result.items })) in
    let is : c.unwrap-summary.result ≡ summary_of c.args.frame (frame_at c.read_payload.new.seat.frames c.args.frame) c.args.slots.now =
    summary_is c.args.frame c.generation-generation.result c.args.slots.now c.roles.result.items c.unwrap-summary.result can c.roles.ensures (subst M c.unwrap-summary.ensures c.new.ensures)
    ∙ ap (λ (g : ℕ). record { frame = c.args.frame; generation = g; roles = map (λ (slot : Slot). slot.role) c.args.slots.now })
    (c.generation-generation.ensures.generation ∙ ap (λ (d : Drive). (frame_at d.frames c.args.frame).generation) (sym same)) in
    sealed_is c.args.frame c.args.slots.now c.args.seat.now c.read_payload.new.seat c.store.new.self c.seal.new.self c.encode_summary.result c.read_payload.new.payload c.unwrap-summary.result c.requires.inside c.requires.used.1 cleared
    c.store.ensures.changed c.store.ensures.stored c.store.ensures.others c.seal.ensures paid is c.encode_summary.ensures.decodes
