use Rattle.std.proofs.Common.{◌≡◌, ◌∷◌, ◌++◌, length, arith, append_assoc}
use Rattle.std.specs.Int.{w32, w64}
use Rattle.codec.specs.Fields.{number, bit, padded}
use Rattle.codec.specs.FirstBlock.{first_spelling, FirstNumbers}
use Rattle.codec.proofs.first_blocks.encode_first_block.Goals as goal

pub returns : goal.returns
unfolding first_spelling padded
returns c =
    let numbers : FirstNumbers c.args.first.now = record {
      object = omega (arith, c.put_long.ensures.range, c.number.ensures);
      moment = omega (arith, c.put_long-2.ensures.range, c.number-2.ensures);
      size = c.put_word.ensures.range;
      created = omega (arith, c.put_long-3.ensures.range, c.number-3.ensures);
      changed = omega (arith, c.put_long-4.ensures.range, c.number-4.ensures);
      attribute = c.as_slice-attribute.ensures.short;
      count = c.put_slots.ensures.count;
      pointers = c.put_slots.ensures.range;
      count_parts = c.put_slots-2.ensures.count;
      parts = c.put_slots-2.ensures.range;
    } in
    let f = c.args.first.now in
    let front : c.put_long-4.new.out.items ≡ 2 ∷ bit f.alive ∷ length f.attribute ∷ 0 ∷ (number w32 f.size ++ (number w64 f.object ++ (number w64 f.moment ++ (number w64 f.created ++ number w64 f.changed)))) =
    simp (
      c.put_long-4.ensures.items,
      c.put_long-3.ensures.items,
      c.put_long-2.ensures.items,
      c.put_long.ensures.items,
      c.put_word.ensures.items,
      c.put_byte-4.ensures.items,
      c.put_byte-3.ensures.items,
      c.put_byte-2.ensures.items,
      c.put_byte.ensures.items,
      c.new-out.ensures,
      c.number.ensures,
      c.number-2.ensures,
      c.number-3.ensures,
      c.number-4.ensures,
      c.bit_of.ensures,
      c.as_slice-attribute.ensures.value,
      append_assoc,
    ) in (
      numbers,
      simp (
        c.finished.ensures,
        c.put_slots-2.ensures.items,
        c.put_slots.ensures.items,
        c.put_zeros.ensures.items,
        c.put.ensures.items,
        front,
        c.as_slice-attribute.ensures.value,
        append_assoc,
      ),
    )
