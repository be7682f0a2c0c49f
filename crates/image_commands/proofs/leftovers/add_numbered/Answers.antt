use Rattle.std.proofs.lemmas.List.Elements.{All-push}
use Rattle.std.proofs.lemmas.Result.{on_ok_weaker}
use Rattle.image_commands.specs.Leaving.{IsLeftFor}
use Rattle.image_commands.proofs.Leaving.{all_spent_more, all_spent_none}
use Rattle.image_commands.proofs.leftovers.add_numbered.Goals as goal

pub returns-in-Ok-Some-clause-spent : goal.returns-in-Ok-Some-clause-spent
returns-in-Ok-Some-clause-spent g c =
    let spent = rw c.in-Ok-Some.field-0-is at c.in-Ok-Some.ensures.spent in
    on_ok_weaker c.push_left.result
    (λ is so_far. rw is (All-push (IsLeftFor g.F.Files.is_left g.F.Files.is_part (g.F.Files.contents c.args.files.now) c.args.claim.now c.args.clock) c.args.spent.now.items c.in-Ok-Some.leftover so_far spent))
    c.push_left.ensures.ok

pub returns-in-Ok-Some-clause-all : goal.returns-in-Ok-Some-clause-all
returns-in-Ok-Some-clause-all g c =
    let there = rw c.in-Ok-Some.field-0-is at c.in-Ok-Some.ensures.all in
    let whole = rw c.in-Ok-Some.field-0-is at c.in-Ok-Some.ensures.whole in
    let is_left = g.F.Files.is_left in
    let files = g.F.Files.contents c.args.files.now in
    on_ok_weaker c.push_left.result
    (λ is image serves so_far. rw is (all_spent_more is_left files c.args.clock c.args.number (g.F.Files.lies c.args.files.now image) c.args.spent.now.items c.in-Ok-Some.leftover so_far (there image serves) whole))
    c.push_left.ensures.ok

pub returns-in-Ok-None-clause-all : goal.returns-in-Ok-None-clause-all
returns-in-Ok-None-clause-all g c =
    let none = rw c.in-Ok-None.field-0-is at c.in-Ok-None.ensures.all in
    λ image serves so_far. all_spent_none g.F.Files.is_left (g.F.Files.contents c.args.files.now) c.args.clock c.args.number (g.F.Files.lies c.args.files.now image) c.args.spent.now.items so_far (none image serves)
