use Rattle.std.proofs.Common.{ap, ◌∙◌}
use Rattle.std.proofs.lemmas.Iterator.Adapters.{YieldsList-from_vec}
use Rattle.std.proofs.lemmas.Iterator.Consumers.{YieldsList-so_far, YieldsList-turn}
use Rattle.version_store.specs.Opening.{OpenedFields}
use Rattle.version_store.proofs.Opening.{below_here, none_below, one_more_row, one_more_present}
use Rattle.version_store.proofs.opened.map_of.Goals as goal

pub insert-requires : goal.insert-requires
insert-requires c =
    let all = c.args.objects.items in
    let made = c.into_iter-opened-iterator.ensures.into_iter_gives in
    let road = YieldsList-from_vec {s = c.into_iter-opened-iterator.result} all made.0 (made.1 ∙ c.args.objects.ok.0) in
    let here = YieldsList-turn road c.loop-opened.yielded c.loop-opened.opened-iterator c.loop-opened.yielded_by c.next.result c.next.new.self c.in-Some.opened c.in-Some.is c.next.ensures.steps in
    let front = YieldsList-so_far road c.loop-opened.yielded c.loop-opened.opened-iterator c.loop-opened.yielded_by in
    record {
      fresh = none_below c.loop-opened.map.rows c.opened.inside.object
          (below_here all c.loop-opened.yielded c.in-Some.opened c.loop-opened.map.rows c.opened.inside.object front here c.requires c.loop-opened.invariant.rows (ap (λ (v : OpenedFields). v.object) c.opened.view_is));
    }

pub loop-opened-preserved : goal.loop-opened-preserved
loop-opened-preserved c =
    let all = c.args.objects.items in
    let made = c.into_iter-opened-iterator.ensures.into_iter_gives in
    let road = YieldsList-from_vec {s = c.into_iter-opened-iterator.result} all made.0 (made.1 ∙ c.args.objects.ok.0) in
    let here = YieldsList-turn road c.loop-opened.yielded c.loop-opened.opened-iterator c.loop-opened.yielded_by c.next.result c.next.new.self c.in-Some.opened c.in-Some.is c.next.ensures.steps in
    let front = YieldsList-so_far road c.loop-opened.yielded c.loop-opened.opened-iterator c.loop-opened.yielded_by in
    let inside = c.opened.inside in
    let v : OpenedFields = record { object = inside.object; row = inside.row; inode = inside.present.inode; index = inside.present.index } in
    let behind = c.in_ok-insert.ensures.behind
    (below_here all c.loop-opened.yielded c.in-Some.opened c.loop-opened.map.rows inside.object front here c.requires c.loop-opened.invariant.rows (ap (λ (v : OpenedFields). v.object) c.opened.view_is)) in
    record {
      rows = one_more_row c.loop-opened.yielded c.in-Some.opened v c.loop-opened.map.rows c.insert.new.self.rows c.opened.view_is c.loop-opened.invariant.rows behind.rows;
      values = one_more_present c.loop-opened.yielded c.in-Some.opened v c.loop-opened.map.values c.insert.new.self.values c.opened.view_is c.loop-opened.invariant.values behind.values;
    }
