use Rattle.std.proofs.Common.{◌≡◌, ◌∙◌, ℕ, List, All, OnOk, ap, sym, subst}
use Rattle.s4_model.specs.State.{State, state_of}
use Rattle.s4_model.specs.Visible.{IsVisible}
use Rattle.segment_word.specs.AcceptViews.{Ledger}
use Rattle.drive.specs.Fields.{state_in, store_of}
use Rattle.history_export.specs.Checks.{HasRead}
use Rattle.history_export.specs.Versions.{beginnings_of, pairs_at}
use Rattle.history_export.proofs.Covering.{all_beginnings_visible}
use Rattle.history_export.proofs.Counts.{begins_somewhere}
use Rattle.history_export.proofs.checking.check_object.Goals as goal

pub read_versions-requires : goal.read_versions-requires
read_versions-requires g c =
    let s = state_in c.args.drive.now in
    let store = store_of c.args.drive.now in
    let o = c.args.object in
    let are : c.as_slice.result.now ≡ beginnings_of s store o = c.as_slice.ensures.value ∙ c.in_ok-moments.ensures.moments in
    let state : state_in c.beginnings.new.drive ≡ s = ap (λ (l : Ledger). state_of l.history) c.beginnings.ensures.ledger in
    record {
      some = begins_somewhere s store o c.as_slice.result.now are;
      visible = subst (λ (x : State). All (IsVisible x o) c.as_slice.result.now) (sym state)
          (subst (λ (ts : List ℕ). All (IsVisible s o) ts) (sym are) (all_beginnings_visible s store o c.rules.ensures.sound c.rules.ensures.store c.rules.ensures.past));
    }

pub returns-clause-read : goal.returns-clause-read
returns-clause-read g c =
    let s = state_in c.args.drive.now in
    let store = store_of c.args.drive.now in
    let o = c.args.object in
    let before = c.args.reading.now in
    let after = c.read_versions.new.reading in
    let are : c.as_slice.result.now ≡ beginnings_of s store o = c.as_slice.ensures.value ∙ c.in_ok-moments.ensures.moments in
    let state : state_in c.beginnings.new.drive ≡ s = ap (λ (l : Ledger). state_of l.history) c.beginnings.ensures.ledger in
    subst (λ (ts : List ℕ). OnOk c.read_versions.result (HasRead s (pairs_at o ts) before after)) are
    (subst (λ (x : State). OnOk c.read_versions.result (HasRead x (pairs_at o c.as_slice.result.now) before after)) state c.read_versions.ensures.read)

pub returns-clause-state : goal.returns-clause-state
returns-clause-state g c = c.read_versions.ensures.state ∙ ap (λ (l : Ledger). state_of l.history) c.beginnings.ensures.ledger
