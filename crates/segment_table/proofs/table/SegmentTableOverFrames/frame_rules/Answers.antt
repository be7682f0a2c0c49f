use Rattle.std.proofs.Common.{rules, ◌+◌, ◌^◌, ◌<◌, length, refl, subst, ◌∙◌, ap}
use Rattle.segment_table.specs.declared.table.SegmentTable.TheInside.{Inside}
use Rattle.segment_table.specs.Table.{Table, HoldsWholeBlocks}
use Rattle.segment_table.specs.Used.{HoldsUsedBlocks}
use Rattle.segment_table.specs.Room.{places_ahead, places_spent}
use Rattle.segment_table.proofs.Reading.{sound_whole, places_few}
use Rattle.segment_table.proofs.UsedBlocks.{all_used}
use Rattle.segment_table.proofs.table.SegmentTableOverFrames.frame_rules.Goals as goal

pub returns : goal.returns
returns c =
    let t : Table = record { seat = c.self-inside.inside.0.1.0.seat; slots = c.self-inside.inside.0.1.0.slots.items } in
    let is = ap (λ (i : Inside). i.segments) c.self-inside.view_is ∙ c.self.view_is in
    let free = c.self-inside.inside.0.1.0.free.items in
    let current = c.self-inside.inside.0.1.0.current in
    let sound = c.self-inside.invariant.0 in
    let P : Table → Type 0 = λ x. places_spent x + length (places_ahead x) < 2 ^ 46 in
    record {
      table = refl;
      fit = search rules;
      one_open = search rules;
      whole = subst HoldsWholeBlocks is (sound_whole t free current sound);
      part_filled = search rules;
      used = subst HoldsUsedBlocks is (all_used t free current sound);
      count = search rules;
      sizes = search rules;
      bounded = subst P is (places_few t free current sound);
    }
