use Rattle.std.proofs.Common.{◌∙◌, ap, sym, arith, flat_map}
use Rattle.byteorder.specs.Endian.{big_bytes}
use Rattle.segment_word.proofs.UnreadWords.{block_inside, copied, reads_stored, reads_other}
use Rattle.segment_word.proofs.frame_words.FrameWords.store.Goals as goal

pub overflow_mul-first : goal.overflow_mul-first
overflow_mul-first c = omega (arith, block_inside c.self.inside.words.items c.args.self.now c.args.frame c.args.block c.self.invariant c.self.view_is c.requires.inside.0 c.requires.inside.1)

pub overflow_add-first : goal.overflow_add-first
overflow_add-first c = omega (arith, block_inside c.self.inside.words.items c.args.self.now c.args.frame c.args.block c.self.invariant c.self.view_is c.requires.inside.0 c.requires.inside.1)

pub overflow_add-first-2 : goal.overflow_add-first-2
overflow_add-first-2 c = omega (arith, block_inside c.self.inside.words.items c.args.self.now c.args.frame c.args.block c.self.invariant c.self.view_is c.requires.inside.0 c.requires.inside.1)

pub overflow_add-first-3 : goal.overflow_add-first-3
overflow_add-first-3 c = omega (arith, block_inside c.self.inside.words.items c.args.self.now c.args.frame c.args.block c.self.invariant c.self.view_is c.requires.inside.0 c.requires.inside.1)

pub offset_bounds-words-first : goal.offset_bounds-words-first
offset_bounds-words-first c = omega (arith, block_inside c.self.inside.words.items c.args.self.now c.args.frame c.args.block c.self.invariant c.self.view_is c.requires.inside.0 c.requires.inside.1)

pub slice_bounds-copy_from_slice-end : goal.slice_bounds-copy_from_slice-end
slice_bounds-copy_from_slice-end c = omega (arith, c.as_mut_slice-words.ensures.value, c.as_mut_slice-words.ensures.len, block_inside c.self.inside.words.items c.args.self.now c.args.frame c.args.block c.self.invariant c.self.view_is c.requires.inside.0 c.requires.inside.1)

pub invariant_of-self : goal.invariant_of-self
invariant_of-self c = let done = copied c.self.inside.words c.as_mut_slice-words.result.now c.copy_from_slice.new.self c.args.bytes.now c.args.self.now c.args.frame c.args.block _ c.self.invariant c.self.view_is c.requires.inside.0 c.requires.inside.1
    c.as_mut_slice-words.ensures.value (c.copy_from_slice.ensures.after ∙ c.words_of-values.ensures.words) (omega arith) in done.0

pub returns-clause-changed : goal.returns-clause-changed
returns-clause-changed c = let done = copied c.self.inside.words c.as_mut_slice-words.result.now c.copy_from_slice.new.self c.args.bytes.now c.args.self.now c.args.frame c.args.block _ c.self.invariant c.self.view_is c.requires.inside.0 c.requires.inside.1
    c.as_mut_slice-words.ensures.value (c.copy_from_slice.ensures.after ∙ c.words_of-values.ensures.words) (omega arith) in done.1

pub returns-clause-stored : goal.returns-clause-stored
returns-clause-stored c =
    let done = copied c.self.inside.words c.as_mut_slice-words.result.now c.copy_from_slice.new.self c.args.bytes.now c.args.self.now c.args.frame c.args.block _ c.self.invariant c.self.view_is c.requires.inside.0 c.requires.inside.1
    c.as_mut_slice-words.ensures.value (c.copy_from_slice.ensures.after ∙ c.words_of-values.ensures.words) (omega arith) in
    reads_stored c.args.self.now _ c.args.frame c.args.block c.args.bytes.now done.1 c.requires.inside.0 c.requires.inside.1 done.2 (ap (flat_map (big_bytes 8)) (sym c.words_of-values.ensures.words) ∙ c.words_of-values.ensures.back)

pub returns-clause-others : goal.returns-clause-others
returns-clause-others c =
    let done = copied c.self.inside.words c.as_mut_slice-words.result.now c.copy_from_slice.new.self c.args.bytes.now c.args.self.now c.args.frame c.args.block _ c.self.invariant c.self.view_is c.requires.inside.0 c.requires.inside.1
    c.as_mut_slice-words.ensures.value (c.copy_from_slice.ensures.after ∙ c.words_of-values.ensures.words) (omega arith) in
    λ b small far. reads_other c.args.self.now _ c.args.frame c.args.block b c.args.bytes.now done.1 c.requires.inside.0 c.requires.inside.1 small far done.2
