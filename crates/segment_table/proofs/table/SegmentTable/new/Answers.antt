use Rattle.std.proofs.Common.{◌≡◌, None, ◌∙◌}
use Rattle.std.proofs.lemmas.Result.{IfOk-weaker}
use Rattle.segment_table.specs.Room.{log_of, new_places}
use Rattle.segment_table.proofs.Reading.{new_log}
use Rattle.segment_table.proofs.table.SegmentTable.new.Goals as goal

pub returns-clause-log : goal.returns-clause-log
returns-clause-log c =
    IfOk-weaker c.from_parts.result (λ t. log_of t ≡ log_of c.in_ok-builder.builder) (λ t. log_of t ≡ record { held = λ p. None; ahead = new_places c.args.frames; spent = 0; named = λ p. 0 })
    (λ t same. same ∙ new_log c.in_ok-builder.builder c.args.frames c.in_ok-builder.ensures.frames c.in_ok-builder.ensures.slots) c.from_parts.ensures.log
