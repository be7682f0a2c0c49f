use Rattle.std.proofs.Common.{◌∙◌, ℕ, List, ap}
use Rattle.std.specs.Prelude.{option_to_list}
use Rattle.std.specs.List.{flat_map}
use Rattle.drive.specs.Fields.{state_in, store_of}
use Rattle.history_view.specs.declared.stats.ObjectStat.{ObjectStat}
use Rattle.history_view.specs.Logs.{stat_in, turned, at_most}
use Rattle.history_view.proofs.stats.log_stats.Goals as goal

pub returns-clause-stats : goal.returns-clause-stats
returns-clause-stats g c =
    let query = c.args.query.now in
    let f : ℕ → List ObjectStat = λ o. option_to_list (stat_in (state_in c.args.drive.now) (store_of c.args.drive.now) query o) in
    record {
      objects = c.in_ok-objects.objects.items;
      asked = c.in_ok-objects.ensures;
      shown = c.at_most.ensures
          ∙ ap (λ (l : List ObjectStat). at_most query.limit l)
          (c.turned-turned.ensures ∙ ap (λ (l : List ObjectStat). turned query.order.is_reversed l) (c.in_ok-stats.ensures.stats ∙ ap (λ (l : List ℕ). flat_map f l) c.as_slice.ensures.value));
    }
