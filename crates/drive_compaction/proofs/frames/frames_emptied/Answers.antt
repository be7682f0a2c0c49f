use Rattle.std.proofs.Common.{◌≡◌, ◌+◌, ◌≤◌, ℕ, List, true, false, ap, ◌∙◌, arith}
use Rattle.segment_table.specs.Table.{Table}
use Rattle.segment_table.specs.Room.{sum_over}
use Rattle.drive.specs.Fields.{DriveFields}
use Rattle.drive_compaction.specs.Choosing.{is_emptied}
use Rattle.drive_compaction.proofs.Taken.{emptied_at, emptied_more}
use Rattle.drive_compaction.proofs.frames.frames_emptied.Goals as goal
use Rattle.drive_compaction.proofs.frames.frames_emptied.Goals.{then-is_emptied, else-is_emptied}

pub loop-frame-preserved : goal.loop-frame-preserved
loop-frame-preserved g c =
    let t : Table = c.args.drive.now.store.table in
    let n : ℕ = c.loop-frame.frame in
    let objects : List ℕ = c.args.objects.now in
    let were : c.loop-frame.count ≤ n = c.loop-frame.invariant.few in
    record {
      same = c.is_emptied.ensures.same ∙ c.loop-frame.invariant.same;
      few = elim c.if-is_emptied.branch [
        | then-is_emptied w ↦ (let is = w.count-is in omega (arith, is, were))
        | else-is_emptied w ↦ (let is = w.count-is in omega (arith, is, were))
      ];
      counted = elim c.if-is_emptied.branch [
        | then-is_emptied w ↦ (let is = w.count-is in
            let here : true ≡ is_emptied t objects c.args.left n = w.if-is_emptied.ensures.emptied ∙ ap (λ (e : DriveFields). is_emptied e.store.table objects c.args.left n) c.loop-frame.invariant.same in
            let more : c.loop-frame.count + 1 ≡ sum_over (emptied_at t objects c.args.left) 0 (n + 1) = emptied_more t objects c.args.left n c.loop-frame.count true here c.loop-frame.invariant.counted in
            omega (arith, is, more))
        | else-is_emptied w ↦ (let is = w.count-is in
            let here : false ≡ is_emptied t objects c.args.left n = w.if-is_emptied.ensures.emptied ∙ ap (λ (e : DriveFields). is_emptied e.store.table objects c.args.left n) c.loop-frame.invariant.same in
            let more : c.loop-frame.count + 0 ≡ sum_over (emptied_at t objects c.args.left) 0 (n + 1) = emptied_more t objects c.args.left n c.loop-frame.count false here c.loop-frame.invariant.counted in
            omega (arith, is, more))
      ];
    }
