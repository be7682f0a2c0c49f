use Rattle.std.proofs.Common.{◌∙◌, ◌+◌, ◌-◌, ◌*◌, arith, ap, take, drop, ℕ, List}
use Rattle.segment_word.specs.Frames.{Frame}
use Rattle.segment_word.specs.Layout.{frame_at, block_bytes}
use Rattle.segment_word.proofs.UnreadWords.{within, block_inside, is_loaded}
use Rattle.segment_word.proofs.frame_words.FrameWords.load.Goals as goal

pub overflow_mul-first : goal.overflow_mul-first
overflow_mul-first c = omega (arith, block_inside c.self.inside.words.items c.args.self.now c.args.frame c.args.block c.self.invariant c.self.view_is c.requires.0 c.requires.1)

pub overflow_add-first : goal.overflow_add-first
overflow_add-first c = omega (arith, block_inside c.self.inside.words.items c.args.self.now c.args.frame c.args.block c.self.invariant c.self.view_is c.requires.0 c.requires.1)

pub overflow_add-first-2 : goal.overflow_add-first-2
overflow_add-first-2 c = omega (arith, block_inside c.self.inside.words.items c.args.self.now c.args.frame c.args.block c.self.invariant c.self.view_is c.requires.0 c.requires.1)

pub overflow_add-first-3 : goal.overflow_add-first-3
overflow_add-first-3 c = omega (arith, block_inside c.self.inside.words.items c.args.self.now c.args.frame c.args.block c.self.invariant c.self.view_is c.requires.0 c.requires.1)

pub offset_bounds-words-first : goal.offset_bounds-words-first
offset_bounds-words-first c = omega (arith, block_inside c.self.inside.words.items c.args.self.now c.args.frame c.args.block c.self.invariant c.self.view_is c.requires.0 c.requires.1)

pub slice_bounds-copy_from_slice-end-2 : goal.slice_bounds-copy_from_slice-end-2
slice_bounds-copy_from_slice-end-2 c = omega (arith, c.as_slice-words.ensures.value, c.as_slice-words.ensures.len, block_inside c.self.inside.words.items c.args.self.now c.args.frame c.args.block c.self.invariant c.self.view_is c.requires.0 c.requires.1)

pub returns : goal.returns
returns c =
    let first : ℕ = 1025 * c.args.frame + 1 + 64 * c.args.block in
    record {
      bytes = c.bytes_of.ensures
          ∙ is_loaded c.self.inside.words.items c.copy_from_slice.new.self c.args.frame c.args.block (first + 64 - first) c.self.invariant (within _ _ _ c.self.view_is c.requires.0) c.requires.1 (omega arith)
          (c.copy_from_slice.ensures.after ∙ ap (λ (l : List ℕ). take (first + 64 - first) (drop first l)) c.as_slice-words.ensures.value)
          ∙ ap (λ (l : List Frame). block_bytes (frame_at l c.args.frame).contents c.args.block) c.self.view_is;
    }
