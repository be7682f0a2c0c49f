use Rattle.std.proofs.Common.{◌≡◌, ◌*◌, ◌<◌, length, slice_index, arith}
use Rattle.std.proofs.lemmas.List.{get_or_read}
use Rattle.segment_word.proofs.UnreadWords.{block_inside, state_read}
use Rattle.segment_word.proofs.frame_words.FrameWords.generation.Goals as goal

pub overflow_mul-frame : goal.overflow_mul-frame
overflow_mul-frame c = omega (arith, block_inside c.self.inside.words.items c.args.self.now c.args.frame 0 c.self.invariant c.self.view_is c.requires (omega arith))

pub index-requires : goal.index-requires
index-requires c = omega (arith, c.self.inside.words.ok.0, block_inside c.self.inside.words.items c.args.self.now c.args.frame 0 c.self.invariant c.self.view_is c.requires (omega arith))

pub returns : goal.returns
returns c =
    let inside : 1025 * c.args.frame < length c.self.inside.words.items = omega (arith, block_inside c.self.inside.words.items c.args.self.now c.args.frame 0 c.self.invariant c.self.view_is c.requires (omega arith)) in
    let read : c.index.result.now ≡ slice_index c.self.inside.words.items (1025 * c.args.frame) = get_or_read c.self.inside.words.items (1025 * c.args.frame) c.index.result.now inside c.index.ensures 0 in
    omega (arith, (state_read c.self.inside.words.items c.args.self.now c.args.frame c.index.result.now c.self.view_is c.requires read).1)
