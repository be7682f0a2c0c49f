use Rattle.std.proofs.Common.{List, ℕ, arith, subst}
use Rattle.std.proofs.lemmas.List.{append-nil}
use Rattle.std.proofs.lemmas.Result.{on_ok_weaker}
use Rattle.update_log.specs.Kept.{IsReady}
use Rattle.update_log.specs.Refusals.{IsShort}
use Rattle.update_log.proofs.Writing.{ahead_begins, no_more, on_short, stays_ahead, stays_same, zeros_leave}
use Rattle.update_log.proofs.putting.grow.Goals as goal

pub returns-in_err-write_zeros-clause-crash : goal.returns-in_err-write_zeros-clause-crash
returns-in_err-write_zeros-clause-crash g c image payloads ready left may =
    zeros_leave image payloads c.args.place.now c.args.ahead _ _ _ ready.accepted ready.blank (omega (arith, c.requires.room)) ready.synced c.write_zeros.ensures.crash left may

pub returns-clause-stored : goal.returns-clause-stored
returns-clause-stored g c =
    let p = c.args.place.now in
    on_ok_weaker c.write_record.result
    (λ continues image payloads ready.
    subst (λ (ps : List (List ℕ)). IsReady g.D.Disk image ps c.write_record.new.place c.write_record.new.disk) (append-nil payloads)
    (continues image payloads
    (ahead_begins image payloads p c.args.ahead _ _ ready.accepted ready.blank (omega (arith, c.requires.room)) c.in_ok-write_zeros.ensures.ahead.others c.in_ok-write_zeros.ensures.ahead.held c.requires.room (omega (arith, c.requires.limit, c.requires.few)))))
    c.write_record.ensures.stored

pub returns-clause-crash : goal.returns-clause-crash
returns-clause-crash g c image payloads ready left may =
    let p = c.args.place.now in
    let can = ahead_begins image payloads p c.args.ahead _ _ ready.accepted ready.blank (omega (arith, c.requires.room)) c.in_ok-write_zeros.ensures.ahead.others c.in_ok-write_zeros.ensures.ahead.held c.requires.room (omega (arith, c.requires.limit, c.requires.few)) in
    no_more image payloads left (c.write_record.ensures.crash image payloads can c.in_ok-write_zeros.ensures.ahead.synced left may)

pub returns-clause-again : goal.returns-clause-again
returns-clause-again g c =
    let p = c.args.place.now in
    let ahead = stays_ahead g.D.Disk p c.args.ahead c.args.disk.now c.write_zeros.new.disk (omega (arith, c.requires.room)) c.in_ok-write_zeros.ensures.ahead in
    on_short c.write_record.result IsShort _ _ _
    (λ place disk. stays_same g.D.Disk p p c.write_record.new.place c.args.disk.now c.write_zeros.new.disk c.write_record.new.disk ahead (place, disk))
    c.write_record.ensures.same_place c.write_record.ensures.same_disk
