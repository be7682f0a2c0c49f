use Rattle.std.proofs.Common.{inl}
use Rattle.std.proofs.lemmas.Result.{IfOk-weaker}
use Rattle.object_map.specs.Objects.{value_of}
use Rattle.segment_table.specs.Used.{used_at}
use Rattle.image_salvage.proofs.Heading.{either_note}
use Rattle.image_salvage.proofs.heads.note_at.Goals as goal

pub returns-in-Some-clause-made : goal.returns-in-Some-clause-made
returns-in-Some-clause-made c = inl c.in-Some.ensures

pub returns-in-None-clause-made : goal.returns-in-None-clause-made
returns-in-None-clause-made c =
    IfOk-weaker c.head_note.result _ _ (λ found made. either_note (used_at c.args.table.now) (value_of c.args.checkpoints.now.entries) c.args.place found c.in-None.ensures made) c.head_note.ensures.made
