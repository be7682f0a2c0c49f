use Rattle.std.proofs.Common.{◌≡◌, ◌∙◌, ℕ, List, [], All, OnOk, ap, sym, subst}
use Rattle.std.specs.Io.KnownBytes.{Appends}
use Rattle.s4_model.specs.State.{State, state_of}
use Rattle.s4_model.specs.Visible.{IsVisible}
use Rattle.segment_word.specs.AcceptViews.{Ledger}
use Rattle.drive.specs.Fields.{state_in, store_of}
use Rattle.history_export.specs.Versions.{beginnings_of}
use Rattle.history_versions.specs.Lines.{joined, piece_at}
use Rattle.history_versions.proofs.Begun.{beginnings_visible}
use Rattle.history_versions.proofs.lines.write_versions.Goals as goal

pub write_pieces-requires : goal.write_pieces-requires
write_pieces-requires g c =
    let s = state_in c.args.drive.now in
    let store = store_of c.args.drive.now in
    let o = c.args.object in
    let are : c.as_slice.result.now ≡ beginnings_of s store o = c.as_slice.ensures.value ∙ c.in_ok-moments.ensures.moments in
    let state : state_in c.beginnings.new.drive ≡ s = ap (λ (l : Ledger). state_of l.history) c.beginnings.ensures.ledger in
    record {
      visible = subst (λ (x : State). All (IsVisible x o) c.as_slice.result.now) (sym state)
          (subst (λ (ts : List ℕ). All (IsVisible s o) ts) (sym are) (beginnings_visible s store o c.rules.ensures.sound c.rules.ensures.store c.rules.ensures.past));
      writer = c.requires.writer;
    }

pub returns-clause-versions : goal.returns-clause-versions
returns-clause-versions g c =
    let s = state_in c.args.drive.now in
    let store = store_of c.args.drive.now in
    let o = c.args.object in
    let a = g.W.Sink.passed c.args.writer.now in
    let b = g.W.Sink.passed c.write_pieces.new.writer in
    let are : c.as_slice.result.now ≡ beginnings_of s store o = c.as_slice.ensures.value ∙ c.in_ok-moments.ensures.moments in
    let state : state_in c.beginnings.new.drive ≡ s = ap (λ (l : Ledger). state_of l.history) c.beginnings.ensures.ledger in
    subst (λ (ts : List ℕ). OnOk c.write_pieces.result (Appends a b (joined (piece_at s c.args.asked.now o) [] ts))) are
    (subst (λ (x : State). OnOk c.write_pieces.result (Appends a b (joined (piece_at x c.args.asked.now o) [] c.as_slice.result.now))) state c.write_pieces.ensures.pieces)

pub returns-clause-state : goal.returns-clause-state
returns-clause-state g c = c.write_pieces.ensures.state ∙ ap (λ (l : Ledger). state_of l.history) c.beginnings.ensures.ledger
