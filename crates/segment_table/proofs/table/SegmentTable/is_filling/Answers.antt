use Rattle.std.proofs.Common.{◌≢◌, ◌==◌, ◌≡◌, ◌<◌, length, MatchBool, sym, subst, ◌∙◌, ap}
use Rattle.segment_word.specs.Frames.{Open}
use Rattle.segment_word.specs.Layout.{frame_at}
use Rattle.segment_table.specs.declared.table.SegmentTable.TheInside.{Inside}
use Rattle.segment_table.specs.Table.{Table}
use Rattle.segment_table.proofs.Reading.{is_open_one, no_open_one}
use Rattle.segment_table.proofs.table.SegmentTable.is_filling.Goals as goal

pub returns-in-Some : goal.returns-in-Some
returns-in-Some c =
    let t : Table = record { seat = c.self-inside.inside.0.1.0.seat; slots = c.self-inside.inside.0.1.0.slots.items } in
    let I : Table → Type 0 = λ x. c.args.frame < length x.seat.frames in
    let M : Table → Type 0 = λ x. MatchBool (c.in-Some.open == c.args.frame) ((frame_at x.seat.frames c.args.frame).phase ≡ Open) ((frame_at x.seat.frames c.args.frame).phase ≢ Open) in
    subst M (ap (λ (i : Inside). i.segments) c.self-inside.view_is ∙ c.self.view_is) (is_open_one t c.self-inside.inside.0.1.0.free.items c.self-inside.inside.0.1.0.current c.args.frame c.in-Some.open c.self-inside.invariant.0 (subst I (sym (ap (λ (i : Inside). i.segments) c.self-inside.view_is ∙ c.self.view_is)) c.requires) c.in-Some.is)

pub returns-in-None : goal.returns-in-None
returns-in-None c =
    let t : Table = record { seat = c.self-inside.inside.0.1.0.seat; slots = c.self-inside.inside.0.1.0.slots.items } in
    let I : Table → Type 0 = λ x. c.args.frame < length x.seat.frames in
    let P : Table → Type 0 = λ x. (frame_at x.seat.frames c.args.frame).phase ≢ Open in
    subst P (ap (λ (i : Inside). i.segments) c.self-inside.view_is ∙ c.self.view_is) (no_open_one t c.self-inside.inside.0.1.0.free.items c.self-inside.inside.0.1.0.current c.args.frame c.self-inside.invariant.0 (subst I (sym (ap (λ (i : Inside). i.segments) c.self-inside.view_is ∙ c.self.view_is)) c.requires) c.in-None.is)
