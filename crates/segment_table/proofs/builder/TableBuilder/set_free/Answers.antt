use Rattle.std.proofs.Common.{◌≡◌, ◌<◌, length, sym, subst, arith}
use Rattle.segment_word.specs.Frames.{Free}
use Rattle.segment_word.specs.Layout.{frame_at}
use Rattle.segment_table.specs.Table.{Table}
use Rattle.segment_table.specs.Building.{unnamed}
use Rattle.segment_table.proofs.BuilderSteps.{freed_builder}
use Rattle.segment_table.proofs.builder.TableBuilder.set_free.Goals as goal

pub invariant_of-self : goal.invariant_of-self
invariant_of-self c =
    let old : Table = unnamed c.self.inside.words c.self.inside.slots.items in
    let I : Table → Type 0 = λ t. c.args.frame < length t.seat.frames in
    let F : Table → Type 0 = λ t. (frame_at t.seat.frames c.args.frame).phase ≡ Free in
    freed_builder c.self.inside.words c.set_state.new.self c.self.inside.slots.items c.args.frame c.args.generation c.self.inside.current c.self.invariant
    (subst I (sym c.self.view_is) c.requires.inside) (subst F (sym c.self.view_is) c.requires.free) c.requires.started (omega arith) c.set_state.ensures
