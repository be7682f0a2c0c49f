use Rattle.history_cleaner.proofs.Emptied.{MarksSoFar, has_vacated}
use Rattle.history_cleaner.proofs.frames.vacate.Goals as goal

pub returns : goal.returns
returns g c =
    let marked : MarksSoFar c.frame_count-count.result c.args.drive.now c.mark_all.new.drive = record { table = c.mark_all.ensures.marked; same = c.mark_all.ensures.same; ledger = c.mark_all.ensures.ledger } in
    has_vacated c.release_all.result c.frame_count-count.result c.args.drive.now c.mark_all.new.drive c.release_all.new.drive c.frame_count-count.ensures marked
    c.release_all.ensures.released c.release_all.ensures.refusal c.release_all.ensures.ended c.release_all.ensures.frames c.release_all.ensures.objects c.release_all.ensures.ledger
