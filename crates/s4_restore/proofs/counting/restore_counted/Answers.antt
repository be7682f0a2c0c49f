use Rattle.std.proofs.Common.{◌≡◌, ◌∙◌, ap}
use Rattle.drive.specs.Fields.{state_in}
use Rattle.history_aging.specs.Ends.{aged_count}
use Rattle.s4_restore.specs.Counting.{aged_text}
use Rattle.s4_restore.proofs.Aging.{counted}
use Rattle.s4_restore.proofs.counting.restore_counted.Goals as goal

pub returns : goal.returns
returns g c =
    let passed = g.W.Sink.passed in
    let order = c.args.order.now in
    let later = c.restored_lines.new.drive in
    let ends = c.as_slice.result.now in
    let line : c.as_bytes.result.now ≡ aged_text order.json (aged_count ends (state_in later).floor) =
    c.as_bytes.ensures.value ∙ c.in_ok-line.ensures ∙ ap (aged_text order.json) (c.aged_count-count.ensures ∙ ap (aged_count ends) c.floor.ensures) in
    record {
      restores = counted c.args.drive.now c.ended_versions.new.drive later order c.in_ok-ends.ends.items ends c.in_ok-lines.lines.bytes.items c.as_slice-2.result.now c.as_bytes.result.now
          (passed c.args.writer.now) (passed c.write_out.new.writer) (passed c.write_out-2.new.writer) c.ended_versions.ensures.ledger c.ended_versions.ensures.store c.in_ok-ends.ensures.ends c.in_ok-lines.ensures.lines
          c.as_slice.ensures.value c.as_slice-2.ensures line c.in_ok-write_out.ensures.bytes c.in_ok-write_out-2.ensures.bytes;
    }
