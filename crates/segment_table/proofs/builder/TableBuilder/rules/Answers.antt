use Rattle.std.proofs.Common.{rules, length, reverse, refl, sym, ap, subst}
use Rattle.block_log.specs.Log.{NamesAreOfData}
use Rattle.segment_table.specs.Table.{Table}
use Rattle.segment_word.specs.AcceptHandles.{no_table}
use Rattle.segment_table.specs.Used.{HasWholeBlocks}
use Rattle.segment_table.specs.Rules.{HasFramesInOrder}
use Rattle.segment_table.specs.Room.{can_open, numbers, log_of}
use Rattle.segment_table.specs.Building.{unnamed}
use Rattle.segment_table.proofs.Reading.{sound_whole, places_few}
use Rattle.segment_table.proofs.UsedBlocks.{all_whole, all_used}
use Rattle.segment_table.proofs.Unshared.{sound_table}
use Rattle.segment_table.proofs.Naming.{names_are}
use Rattle.segment_table.proofs.builder.TableBuilder.rules.Goals as goal

pub returns-clause-used_whole : goal.returns-clause-used_whole
returns-clause-used_whole c =
    let t : Table = unnamed c.self.inside.words c.self.inside.slots.items in
    subst HasWholeBlocks c.self.view_is (all_whole t (reverse (numbers can_open 0 t.seat.frames)) c.self.inside.current (sound_table t c.self.inside.current c.self.invariant))

pub returns-clause-frames : goal.returns-clause-frames
returns-clause-frames c =
    let t : Table = unnamed c.self.inside.words c.self.inside.slots.items in
    let free = reverse (numbers can_open 0 t.seat.frames) in
    let current = c.self.inside.current in
    let roles = c.self.invariant in
    let sound = sound_table t current roles in
    let one = ap length (sym roles.filling) in
    subst (HasFramesInOrder no_table) c.self.view_is (record {
      table = refl;
      fit = roles.fit;
      one_open = search rules;
      whole = sound_whole t free current sound;
      part_filled = roles.part_filled;
      used = all_used t free current sound;
      count = search rules;
      sizes = (roles.most, roles.counted);
      bounded = places_few t free current sound;
    })

pub returns-clause-names : goal.returns-clause-names
returns-clause-names c =
    let t : Table = unnamed c.self.inside.words c.self.inside.slots.items in
    let N : Table → Type 0 = λ x. NamesAreOfData (log_of x) in
    subst N c.self.view_is (λ p. names_are t p)
