use Rattle.std.proofs.Common.{◌≡◌, ◌∙◌, ◌+◌, ◌<◌, ◌^◌, ℕ, List, Option, refl, ap, sym, subst}
use Rattle.std.proofs.lemmas.List.Elements.{All-get_or}
use Rattle.std.specs.Io.KnownBytes.{Appends}
use Rattle.s4_model.specs.State.{State}
use Rattle.s4_model.specs.Visible.{IsVisible}
use Rattle.drive.specs.Fields.{state_in}
use Rattle.history_versions.specs.Lines.{piece_at, separated, separator}
use Rattle.history_versions.proofs.Written.{none_joined, joined_on, all_joined}
use Rattle.history_versions.proofs.lines.write_pieces.Goals as goal

pub loop-moment-init : goal.loop-moment-init
loop-moment-init g c =
    let piece = piece_at (state_in c.args.drive.now) c.args.asked.now c.args.object in
    record { state = refl; store = refl; failures = refl; pieces = none_joined piece c.args.moments.now _ (g.W.Sink.passed c.args.writer.now) refl }

pub piece_at-requires : goal.piece_at-requires
piece_at-requires g c =
    let s = state_in c.args.drive.now in
    let o = c.args.object in
    let t = c.moment-item.result in
    let seen : IsVisible s o t =
    subst (IsVisible s o) (sym c.moment-item.is) (All-get_or (IsVisible s o) c.args.moments.now c.loop-moment.moment-index t c.loop-moment-test.true c.requires.visible) in
    record { visible = subst (λ (x : State). IsVisible x o t) (sym c.loop-moment.invariant.state) seen }

pub write_piece-requires : goal.write_piece-requires
write_piece-requires g c = record { writer = subst (λ n. n + 1 < 2 ^ 64) (sym c.loop-moment.invariant.failures) c.requires.writer }

pub loop-moment-preserved : goal.loop-moment-preserved
loop-moment-preserved g c =
    let passed = g.W.Sink.passed in
    let s = state_in c.args.drive.now in
    let piece = piece_at s c.args.asked.now c.args.object in
    let t = c.moment-item.result in
    let before = c.loop-moment.invariant in
    let sep = c.loop-moment.before.now in
    let is : _ ≡ piece t = c.in_ok-piece.ensures.piece ∙ ap (λ (x : State). piece_at x c.args.asked.now c.args.object t) before.state in
    record {
      state = c.piece_at.ensures.state ∙ before.state;
      store = c.piece_at.ensures.store ∙ before.store;
      failures = c.in_ok-before.ensures.failures ∙ before.failures;
      pieces = joined_on piece c.args.moments.now c.loop-moment.moment-index t sep _ (passed c.args.writer.now) (passed c.loop-moment.writer) (passed c.write_piece.new.writer) c.loop-moment-test.true c.moment-item.is before.pieces
          (subst (λ (p : Option (List ℕ)). Appends (passed c.loop-moment.writer) (passed c.write_piece.new.writer) (separated sep p)) is c.in_ok-before.ensures.piece)
          (c.in_ok-before.ensures.next ∙ ap (separator sep) is);
    }

pub returns : goal.returns
returns g c =
    let before = c.loop-moment.invariant in
    record {
      pieces = all_joined (piece_at (state_in c.args.drive.now) c.args.asked.now c.args.object) c.args.moments.now c.loop-moment.moment-index _ (g.W.Sink.passed c.args.writer.now) (g.W.Sink.passed c.loop-moment.writer) c.loop-moment-test.false before.pieces;
      refusal = tt;
      failures = before.failures;
      state = before.state;
      store = before.store;
    }
