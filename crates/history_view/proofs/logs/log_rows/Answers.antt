use Rattle.std.proofs.Common.{rules, ◌≡◌, ◌∙◌, ◌++◌, ℕ, List, [], ap, subst}
use Rattle.std.specs.List.{flat_map}
use Rattle.s4_model.specs.State.{State, state_of}
use Rattle.segment_word.specs.AcceptViews.{Ledger}
use Rattle.drive.specs.Fields.{state_in, store_of}
use Rattle.history_view.specs.declared.rows.LogRow.{LogRow}
use Rattle.history_view.specs.Logs.{IsWithHidden, rows_of}
use Rattle.history_view.proofs.logs.log_rows.Goals as goal

pub returns-clause-rows : goal.returns-clause-rows
returns-clause-rows g c =
    let query = c.args.query.now in
    let f : ℕ → List LogRow = rows_of (state_in c.args.drive.now) (store_of c.args.drive.now) query.since query.until in
    let all : c.as_slice-2.result.now ≡ flat_map f c.in_ok-objects.objects.items =
    c.as_slice-2.ensures.value ∙ c.in_ok-push_objects.ensures.rows ∙ ap (λ (l : List LogRow). l ++ flat_map f c.as_slice.result.now) c.new-changes.ensures.items ∙ ap (λ (l : List ℕ). flat_map f l) c.as_slice.ensures.value in
    record {
      objects = c.in_ok-objects.objects.items;
      asked = c.in_ok-objects.ensures;
      all = c.in_ok-rows.rows.items;
      with_hidden = subst (λ (l : List LogRow). IsWithHidden (state_in c.args.drive.now) query l c.in_ok-rows.rows.items) all
          (subst (λ (s : State). IsWithHidden s query c.as_slice-2.result.now c.in_ok-rows.rows.items) (ap (λ (l : Ledger). state_of l.history) c.in_ok-push_objects.ensures.ledger) c.in_ok-rows.ensures.rows);
      shown = c.in_ok-kept.ensures;
    }
