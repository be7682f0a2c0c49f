use Rattle.std.proofs.Common.{◌≡◌, ℕ, List, IsSome, sym, ap, subst, ◌∙◌}
use Rattle.std.specs.List.{AllByRecursion}
use Rattle.s4_types.specs.Pointer.{Place}
use Rattle.segment_table.specs.Table.{Table, held_at}
use Rattle.drive.specs.Fields.{DriveFields}
use Rattle.segment_copier.specs.Commits.{copy_at}
use Rattle.segment_copier.specs.private.Copying.{IsTrueIn}
use Rattle.segment_copier.proofs.Listed.{one_at}
use Rattle.segment_copier.proofs.Kept.{one_more}
use Rattle.segment_copier.proofs.commits.copies_at.Goals as goal

pub loop-place-preserved : goal.loop-place-preserved
loop-place-preserved g c =
    let t : Table = c.args.drive.now.store.table in
    let p : Place = c.place-item.result in
    let bytes : c.bytes_at-bytes.result ≡ (copy_at t p).bytes = c.bytes_at-bytes.ensures.bytes ∙ ap (λ (d : DriveFields). (copy_at d.store.table p).bytes) c.loop-place.invariant.same in
    record {
      same = c.bytes_at-bytes.ensures.same ∙ c.loop-place.invariant.same;
      copied = c.in_ok-push.ensures.items ∙ one_more (copy_at t) c.args.places.now c.loop-place.place-index p (record { place = p; bytes = c.bytes_at-bytes.result })
          c.loop-place.copies.items c.loop-place-test.true c.place-item.is c.loop-place.invariant.copied (ap (λ (l : List ℕ). record { place = p; bytes = l }) bytes);
    }

pub bytes_at-bytes-requires : goal.bytes_at-bytes-requires
bytes_at-bytes-requires g c =
    let t : Table = c.args.drive.now.store.table in
    let p : Place = c.place-item.result in
    record {
      held = subst (λ (d : DriveFields). IsSome (held_at d.store.table p)) (sym c.loop-place.invariant.same)
          (one_at (λ q. IsSome (held_at t q)) c.args.places.now c.loop-place.place-index p c.requires.held c.loop-place-test.true c.place-item.is);
      made = subst (λ (d : DriveFields). AllByRecursion (IsTrueIn d.store.table) c.args.made.now) (sym c.loop-place.invariant.same) c.requires.made;
    }
