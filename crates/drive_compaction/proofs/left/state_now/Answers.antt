use Rattle.segment_word.specs.Layout.{frame_at}
use Rattle.segment_copier.proofs.Stated.{word_state}
use Rattle.drive_compaction.proofs.left.state_now.Goals as goal

pub returns-clause-state : goal.returns-clause-state
returns-clause-state g c = word_state (frame_at c.args.drive.now.store.table.seat.frames c.args.frame) c.saved_word.result c.saved_word.ensures.word
