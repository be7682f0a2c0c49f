use Rattle.std.proofs.Common.{inl, inr, List, ℕ, ◌++◌, arith, subst}
use Rattle.std.proofs.lemmas.Result.{err_from_is_err_and, on_ok_weaker}
use Rattle.update_log.specs.Kept.{IsReady, Recovers}
use Rattle.update_log.specs.Refusals.{IsShort}
use Rattle.update_log.proofs.Writing.{on_short, one_payload, ready_begins, stays_same}
use Rattle.update_log.proofs.putting.put.Goals as goal

pub returns-clause-stored : goal.returns-clause-stored
returns-clause-stored g c =
    let q = c.make_room.new.place in
    let payload = c.args.payload.now in
    on_ok_weaker c.write_record.result
    (λ continues image payloads ready.
    subst (λ (ps : List (List ℕ)). IsReady g.D.Disk image (payloads ++ ps) c.write_record.new.place c.write_record.new.disk) (one_payload q.limit payload c.requires.some)
    (continues image payloads
    (ready_begins g.D.Disk image payloads q c.make_room.new.disk payload (c.in_ok-make_room.ensures.stored image payloads ready) (omega (arith, c.in_ok-make_room.ensures.room, c.size_of_record.ensures))
    (omega (arith, c.in_ok-make_room.ensures.limit)) c.requires.small)))
    c.write_record.ensures.stored

pub returns-clause-crash : goal.returns-clause-crash
returns-clause-crash g c image payloads ready left may =
    let q = c.make_room.new.place in
    let payload = c.args.payload.now in
    let mid = c.in_ok-make_room.ensures.stored image payloads ready in
    let can = ready_begins g.D.Disk image payloads q c.make_room.new.disk payload mid (omega (arith, c.in_ok-make_room.ensures.room, c.size_of_record.ensures)) (omega (arith, c.in_ok-make_room.ensures.limit)) c.requires.small in
    elim (c.write_record.ensures.crash image payloads can mid.synced left may) [
      | inl one ↦ inl one
      | inr more ↦ inr (subst (λ (ps : List (List ℕ)). Recovers image (payloads ++ ps) left) (one_payload q.limit payload c.requires.some) more)
    ]

pub returns-in_err-make_room-clause-again : goal.returns-in_err-make_room-clause-again
returns-in_err-make_room-clause-again g c =
    let p = err_from_is_err_and c.from_residual.result c.from_residual.ensures.1 in
    rw (p.1, p.2) c.in_err-make_room.ensures.again

pub returns-clause-again : goal.returns-clause-again
returns-clause-again g c =
    on_short c.write_record.result IsShort _ _ _
    (λ place disk. stays_same g.D.Disk c.args.place.now c.make_room.new.place c.write_record.new.place c.args.disk.now c.make_room.new.disk c.write_record.new.disk c.in_ok-make_room.ensures.stored (place, disk))
    c.write_record.ensures.same_place c.write_record.ensures.same_disk
