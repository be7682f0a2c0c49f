use Rattle.std.proofs.Common.{◌≡◌, ◌<◌, ℕ, List, sym, ap, subst, ◌∙◌, arith}
use Rattle.s4_types.specs.Pointer.{Place}
use Rattle.segment_word.specs.Frames.{Pinned}
use Rattle.segment_word.specs.Handles.{Held, IsAmong}
use Rattle.segment_word.specs.Counting.{pins_in}
use Rattle.segment_word.specs.Layout.{block_bytes}
use Rattle.time_read.specs.Plans.{contents_pinned}
use Rattle.time_read.proofs.Pins.{pinned_bytes}
use Rattle.segment_copier.proofs.Kept.{counted_at, one_more}
use Rattle.segment_copier.proofs.plans.copies_by.Goals as goal

pub loop-place-preserved : goal.loop-place-preserved
loop-place-preserved c =
    let p : Place = c.place-item.result in
    let pins : List Pinned = c.args.pin.now.pins in
    let counted = counted_at pins c.args.places.now c.loop-place.place-index p c.requires.inside c.loop-place-test.true c.place-item.is in
    let bytes : c.read_block-bytes.result ≡ block_bytes (contents_pinned p.frame pins) p.block = pinned_bytes p.frame p.block pins c.read_block-bytes.result counted.0
    (λ q among number. c.read_block-bytes.ensures.bytes q (subst (λ (held : Held). IsAmong q held.pins) (sym c.loop-place.invariant.same) among) (number ∙ sym c.frame.ensures)
    ∙ ap (λ (b : ℕ). block_bytes q.contents b) c.block.ensures.block) in
    record {
      same = c.read_block-bytes.ensures.same ∙ c.loop-place.invariant.same;
      copied = c.in_ok-push.ensures.items ∙ one_more (λ q. record { place = q; bytes = block_bytes (contents_pinned q.frame pins) q.block }) c.args.places.now c.loop-place.place-index p
          (record { place = p; bytes = c.read_block-bytes.result }) c.loop-place.copies.items c.loop-place-test.true c.place-item.is c.loop-place.invariant.copied
          (ap (λ (l : List ℕ). record { place = p; bytes = l }) bytes);
    }

pub read_block-bytes-requires : goal.read_block-bytes-requires
read_block-bytes-requires c =
    let pins : List Pinned = c.args.pin.now.pins in
    let counted = counted_at pins c.args.places.now c.loop-place.place-index c.place-item.result c.requires.inside c.loop-place-test.true c.place-item.is in
    record {
      counted = subst (λ (held : Held). 0 < pins_in c.frame.result held.pins) (sym c.loop-place.invariant.same) (subst (λ (f : ℕ). 0 < pins_in f pins) (sym c.frame.ensures) counted.0);
      inside = omega (arith, counted.1);
    }
