use Rattle.std.proofs.lemmas.Result.{on_ok_weaker}
use Rattle.object_map.specs.Objects.{value_of}
use Rattle.segment_table.specs.Used.{used_at}
use Rattle.image_salvage.specs.Heads.{MakesByCheckpoint}
use Rattle.image_salvage.proofs.Noting.{newest_nowhere, newest_not_here, newest_here}
use Rattle.image_salvage.proofs.Heading.{checkpoint_used, one_checkpoint}
use Rattle.image_salvage.proofs.heads.look_for_checkpoint.Goals as goal

pub returns-in_default-clause-newest : goal.returns-in_default-clause-newest
returns-in_default-clause-newest c =
    let used = used_at c.args.table.now in
    newest_nowhere (MakesByCheckpoint used) used c.args.generations.now c.args.order (value_of c.args.notes.now.entries) c.requires.generations (checkpoint_used used) c.requires.newest c.in_default.ensures

pub returns-in_default-checkpoint_note-clause-newest : goal.returns-in_default-checkpoint_note-clause-newest
returns-in_default-checkpoint_note-clause-newest c =
    let used = used_at c.args.table.now in
    newest_not_here (MakesByCheckpoint used) used c.args.generations.now c.args.order (value_of c.args.notes.now.entries) c.in-Some.place c.requires.generations (checkpoint_used used) c.requires.newest c.in-Some.ensures.0 c.in-Some.ensures.1
    c.in_default-checkpoint_note.ensures

pub returns-clause-newest : goal.returns-clause-newest
returns-clause-newest c =
    let used = used_at c.args.table.now in
    on_ok_weaker c.offer.result
    (λ taken. newest_here (MakesByCheckpoint used) used c.args.generations.now c.args.order (value_of c.args.notes.now.entries) (value_of c.offer.new.notes.entries) c.in-Some.place c.in-Some-checkpoint_note.note c.requires.generations
    (checkpoint_used used) (one_checkpoint used) c.requires.newest c.in-Some.ensures.0 c.in-Some.ensures.1 c.in-Some-checkpoint_note.ensures taken)
    c.offer.ensures.taken
