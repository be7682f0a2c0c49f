use Rattle.std.proofs.Common.{List, replicate, [], sym, subst}
use Rattle.segment_word.specs.Frames.{Frame}
use Rattle.segment_table.specs.declared.slots.Slot.{Slot}
use Rattle.segment_table.specs.Building.{unnamed, IsSoundToBuild}
use Rattle.segment_table.proofs.Unshared.{sound_free}
use Rattle.std.proofs.Common.{None}
use Rattle.segment_table.proofs.builder.TableBuilder.new.Goals as goal

pub invariant_of-result : goal.invariant_of-result
invariant_of-result c =
    let F : List Frame → Type 0 = λ l. IsSoundToBuild (unnamed l (replicate c.args.frames [])) None in
    let S : List (List Slot) → Type 0 = λ l. IsSoundToBuild (unnamed c.in_ok-words.words l) None in
    subst S (sym c.in_ok-slots.ensures.slots) (subst F (sym c.in_ok-words.ensures.frames) (sound_free c.args.frames c.requires.0 c.requires.1))
