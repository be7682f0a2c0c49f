use Rattle.std.proofs.Common.{◌≡◌, ◌==◌, Some, None, IsSome, MatchBool, sym, subst, ◌∙◌, ap}
use Rattle.segment_word.specs.Frames.{Open, Sealed}
use Rattle.segment_word.specs.Layout.{frame_at}
use Rattle.segment_table.specs.declared.table.SegmentTable.TheInside.{Inside}
use Rattle.segment_table.specs.Table.{Table, held_at}
use Rattle.segment_table.proofs.Reading.{open_or_sealed, held_sealed_frame}
use Rattle.segment_table.proofs.table.SegmentTable.is_open.Goals as goal

pub returns-in-Some : goal.returns-in-Some
returns-in-Some c =
    let old : Table = record { seat = c.self-inside.inside.0.1.0.seat; slots = c.self-inside.inside.0.1.0.slots.items } in
    let H : Table → Type 0 = λ t. IsSome (held_at t c.args.place) in
    let M : Table → Type 0 = λ t. MatchBool (c.in-Some.frame == c.frame.result) ((frame_at t.seat.frames c.args.place.frame).phase ≡ Open) ((frame_at t.seat.frames c.args.place.frame).phase ≡ Sealed) in
    subst M (ap (λ (i : Inside). i.segments) c.self-inside.view_is ∙ c.self.view_is) (open_or_sealed old c.self-inside.inside.0.1.0.free.items c.self-inside.inside.0.1.0.current c.args.place c.in-Some.frame c.frame.result c.self-inside.invariant.0 (subst H (sym (ap (λ (i : Inside). i.segments) c.self-inside.view_is ∙ c.self.view_is)) c.requires) c.in-Some.is c.frame.ensures)

pub returns-in-None : goal.returns-in-None
returns-in-None c =
    let old : Table = record { seat = c.self-inside.inside.0.1.0.seat; slots = c.self-inside.inside.0.1.0.slots.items } in
    let H : Table → Type 0 = λ t. IsSome (held_at t c.args.place) in
    let P : Table → Type 0 = λ t. (frame_at t.seat.frames c.args.place.frame).phase ≡ Sealed in
    subst P (ap (λ (i : Inside). i.segments) c.self-inside.view_is ∙ c.self.view_is) (held_sealed_frame old c.self-inside.inside.0.1.0.free.items c.self-inside.inside.0.1.0.current c.args.place c.self-inside.invariant.0 (subst H (sym (ap (λ (i : Inside). i.segments) c.self-inside.view_is ∙ c.self.view_is)) c.requires) (λ e. let clash : None ≡ Some c.args.place.frame = sym c.in-None.is ∙ e in cc))
