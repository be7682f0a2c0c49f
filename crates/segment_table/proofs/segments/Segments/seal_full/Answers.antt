use Rattle.std.proofs.Common.{◌≡◌, [], length, ap, ◌∙◌, arith}
use Rattle.std.proofs.lemmas.List.{get_or_read}
use Rattle.segment_table.specs.Table.{Table, slots_at}
use Rattle.segment_table.proofs.Steps.{AtFilling, at_filling, log_sealed}
use Rattle.segment_table.proofs.segments.Segments.seal_full.Goals as goal

pub returns-then-len-eq-PAYLOAD_BLOCKS-clause-log : goal.returns-then-len-eq-PAYLOAD_BLOCKS-clause-log
returns-then-len-eq-PAYLOAD_BLOCKS-clause-log c =
    let old : Table = record { seat = c.self.inside.seat; slots = c.self.inside.slots.items } in
    let at : AtFilling old c.args.frame = at_filling old c.args.self.now c.self.inside.free.items c.self.inside.current c.args.frame c.self.view_is c.self.invariant.0 c.requires.filling in
    let count : c.len.result ≡ length (slots_at c.args.self.now.slots c.args.frame) =
    c.len.ensures.count ∙ ap length (get_or_read old.slots c.args.frame c.index.result.now at.within c.index.ensures []) ∙ ap (λ (t : Table). length (slots_at t.slots c.args.frame)) c.self.view_is in
    log_sealed c.args.self.now c.seal.new.self c.args.frame c.requires.filling c.seal.ensures.sealed c.seal.ensures.slots (omega arith)
