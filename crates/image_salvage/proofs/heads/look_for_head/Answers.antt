use Rattle.std.proofs.Common.{Option, subst}
use Rattle.std.specs.Prelude.{MatchOption}
use Rattle.std.proofs.lemmas.Result.{on_ok_weaker}
use Rattle.object_map.specs.Objects.{value_of}
use Rattle.segment_table.specs.Used.{used_at}
use Rattle.image_salvage.specs.declared.newest.Note.{Note}
use Rattle.image_salvage.specs.Heads.{MakesHead}
use Rattle.image_salvage.proofs.Noting.{newest_nowhere, newest_not_here, newest_here}
use Rattle.image_salvage.proofs.Heading.{head_used, one_head}
use Rattle.image_salvage.proofs.heads.look_for_head.Goals as goal

pub returns-in_default-clause-newest : goal.returns-in_default-clause-newest
returns-in_default-clause-newest c =
    let used = used_at c.args.table.now in
    let checkpoints = value_of c.args.checkpoints.now.entries in
    newest_nowhere (MakesHead used checkpoints) used c.args.generations.now c.args.order (value_of c.args.notes.now.entries) c.requires.generations (head_used used checkpoints) c.requires.newest c.in_default.ensures

pub returns-in-Ok-None-clause-newest : goal.returns-in-Ok-None-clause-newest
returns-in-Ok-None-clause-newest c =
    let used = used_at c.args.table.now in
    let checkpoints = value_of c.args.checkpoints.now.entries in
    let place = c.in-Some.place in
    newest_not_here (MakesHead used checkpoints) used c.args.generations.now c.args.order (value_of c.args.notes.now.entries) place c.requires.generations (head_used used checkpoints) c.requires.newest c.in-Some.ensures.0
    c.in-Some.ensures.1
    (subst (λ (found : Option Note). MatchOption found ((note : Note) → MakesHead used checkpoints place note → ⊥) (MakesHead used checkpoints place)) c.in-Ok-None.field-0-is c.in-Ok-None.ensures.made)

pub returns-in-Ok-Some-clause-newest : goal.returns-in-Ok-Some-clause-newest
returns-in-Ok-Some-clause-newest c =
    let used = used_at c.args.table.now in
    let checkpoints = value_of c.args.checkpoints.now.entries in
    let place = c.in-Some.place in
    on_ok_weaker c.offer.result
    (λ taken. newest_here (MakesHead used checkpoints) used c.args.generations.now c.args.order (value_of c.args.notes.now.entries) (value_of c.offer.new.notes.entries) place c.in-Ok-Some.note c.requires.generations
    (head_used used checkpoints) (one_head used checkpoints) c.requires.newest c.in-Some.ensures.0 c.in-Some.ensures.1
    (subst (λ (found : Option Note). MatchOption found ((note : Note) → MakesHead used checkpoints place note → ⊥) (MakesHead used checkpoints place)) c.in-Ok-Some.field-0-is c.in-Ok-Some.ensures.made) taken)
    c.offer.ensures.taken
