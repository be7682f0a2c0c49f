use Rattle.std.proofs.Common.{◌+◌, ◌∙◌, subst, drop}
use Rattle.std.specs.List.{flat_map}
use Rattle.std.specs.Option.{option_to_list}
use Rattle.journal_chain.specs.Writing.{Finished}
use Rattle.journal_chain.proofs.Tables.{only-trans}
use Rattle.journal_chain.proofs.Afresh.{next_place}
use Rattle.journal_chain.proofs.rewriting.drop_all.Goals as goal

pub loop-place-preserved : goal.loop-place-preserved
loop-place-preserved g c =
    let first = (g.B.Blocks.log c.args.table.now).held in
    let now = (g.B.Blocks.log c.loop-place.table).held in
    let later = (g.B.Blocks.log c.drop_one.new.table).held in
    let rest = flat_map option_to_list (drop (c.loop-place.place-index + 1) c.args.places.now) in
    record {
      finished = λ o head entries f. c.drop_one.ensures.finished o rest head entries
          (subst (λ l. Finished now o l head entries) (next_place c.args.places.now c.loop-place.place-index c.place-item.result c.loop-place-test.true c.place-item.is) (c.loop-place.invariant.finished o head entries f));
      others = λ o head entries f. only-trans o first now later (c.loop-place.invariant.others o head entries f)
          (c.drop_one.ensures.others o rest head entries
          (subst (λ l. Finished now o l head entries) (next_place c.args.places.now c.loop-place.place-index c.place-item.result c.loop-place-test.true c.place-item.is) (c.loop-place.invariant.finished o head entries f)));
      named = λ o head entries f. c.drop_one.ensures.named o rest head entries
          (subst (λ l. Finished now o l head entries) (next_place c.args.places.now c.loop-place.place-index c.place-item.result c.loop-place-test.true c.place-item.is) (c.loop-place.invariant.finished o head entries f))
          ∙ c.loop-place.invariant.named o head entries f;
      takes = g.met.B.Blocks.places_taken_add_up 0 0 (g.B.Blocks.log c.args.table.now) (g.B.Blocks.log c.loop-place.table) (g.B.Blocks.log c.drop_one.new.table) c.loop-place.invariant.takes c.drop_one.ensures.takes;
    }
