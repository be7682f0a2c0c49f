use Rattle.std.proofs.Common.{ℕ, rules}
use Rattle.std.proofs.lemmas.Fn.{always_returns_same}
use Rattle.std.proofs.lemmas.List.Sorted.{IsNonDecreasingBy-from_sort}
use Rattle.history_view.specs.declared.rows.LogRow.{LogRow}
use Rattle.history_view.specs.LogRows.{place}
use Rattle.history_view.proofs.rows.ordered.Goals as goal

pub returns : goal.returns
returns c =
    let number : LogRow → ℕ = place c.args.by_object c.args.is_reversed in
    record {
      same = c.sort_by_key.ensures.permutation;
      rising = IsNonDecreasingBy-from_sort number _ (c.in_ok-sort_by_key.ensures.sorted number (always_returns_same _ _ _ (λ a r g h. search rules)));
      stable = c.sort_by_key.ensures.stable number (always_returns_same _ _ _ (λ a r g h. search rules));
    }
