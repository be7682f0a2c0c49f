use Rattle.std.proofs.Common.{◌∙◌, ◌+◌, List, refl, ap}
use Rattle.std.specs.Option.{option_map}
use Rattle.segment_table.specs.Used.{used_at}
use Rattle.image_salvage.specs.declared.unlisted.Unlisted.{Unlisted}
use Rattle.image_salvage.specs.Giving.{with_all_unlisted}
use Rattle.image_salvage.proofs.RowByRow.{unlisted_on, unlisted_all}
use Rattle.image_salvage.proofs.giving.give_all_unlisted.Goals as goal

pub loop-unlisted-preserved : goal.loop-unlisted-preserved
loop-unlisted-preserved g c =
    let files = g.F.Folder.files in
    let n = c.loop-unlisted.unlisted-index in
    record {
      given = unlisted_on (used_at c.args.image.now.table) c.unlisted-objects.result.now n (n + 1) c.unlisted-item.result (files c.args.folder.now) (files c.loop-unlisted.folder) (files c.give_unlisted.new.folder) c.loop-unlisted-test.true
          c.unlisted-item.is refl c.loop-unlisted.invariant.given c.in_ok-give_unlisted.ensures.files;
      path = c.give_unlisted.ensures.path ∙ c.loop-unlisted.invariant.path;
    }

pub returns-clause-files : goal.returns-clause-files
returns-clause-files g c =
    let files = g.F.Folder.files in
    let used = used_at c.args.image.now.table in
    unlisted_all used c.unlisted-objects.result.now c.loop-unlisted.unlisted-index (files c.args.folder.now) (files c.loop-unlisted.folder) c.loop-unlisted-test.false c.loop-unlisted.invariant.given
    ∙ ap (λ (l : List Unlisted). option_map (with_all_unlisted used l) (files c.args.folder.now)) c.unlisted-objects.ensures
