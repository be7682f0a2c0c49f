use Rattle.std.proofs.Common.{◌≡◌, true, false, get_or, refl, sym, ◌∙◌, arith}
use Rattle.std.proofs.lemmas.List.{get_or_read}
use Rattle.codec.proofs.SummaryLaws.{one_summary}
use Rattle.image_salvage.proofs.Finding.{goes_on_again, goes_on_first}
use Rattle.image_salvage.proofs.Generations.{generations_more}
use Rattle.image_salvage.proofs.searching.look_at.Goals as goal

pub returns-then-index : goal.returns-then-index
returns-then-index c =
    let again : get_or c.args.seen.now.items c.frame-number.result false ≡ true = sym (get_or_read c.args.seen.now.items c.frame-number.result c.index.result.now (omega (arith, c.in-Some.ensures.0.number, c.frame-number.ensures, c.requires.finds.seen_count)) c.index.ensures false) ∙ c.if-index.true in
    record {
      finds = goes_on_again one_summary c.args.bytes.now c.args.place c.args.next c.frame-number.result c.args.table.now c.args.seen.now.items c.in-Some.found.summary c.requires.finds (omega arith)
          c.in-Some.ensures.0 (sym c.frame-number.ensures) again;
      generations = c.requires.generations;
    }

pub returns : goal.returns
returns c =
    let new : get_or c.args.seen.now.items c.frame-number.result false ≡ false = sym (get_or_read c.args.seen.now.items c.frame-number.result c.index.result.now (omega (arith, c.in-Some.ensures.0.number, c.frame-number.ensures, c.requires.finds.seen_count)) c.index.ensures false) ∙ c.if-index.false in
    record {
      finds = goes_on_first one_summary c.args.bytes.now c.args.place c.args.next c.frame-number.result c.args.table.now c.set_found.new.table c.args.seen.now.items _ c.in-Some.found.summary c.requires.finds
          (omega arith) c.in-Some.ensures.0 (sym c.frame-number.ensures) new refl (c.set_found.ensures.frame c.args.bytes.now c.args.place c.in-Some.ensures.1 c.in-Some.ensures.0) c.set_found.ensures.frames
          c.set_found.ensures.slots;
      generations = generations_more c.args.table.now c.set_found.new.table c.args.generations.now.items _ c.frame-number.result c.generation.result c.requires.generations
          (omega (arith, c.in-Some.ensures.0.number, c.frame-number.ensures, c.requires.finds.frame_count)) c.set_found.ensures.frames (c.set_found.ensures.generation ∙ sym c.generation.ensures.generation) refl;
    }
