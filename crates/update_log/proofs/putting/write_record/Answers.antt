use Rattle.std.proofs.Common.{◌<◌, length, sym, ap, ◌∙◌, arith}
use Rattle.update_log.specs.Records.{after, entry_of}
use Rattle.update_log.proofs.Recording.{record_length}
use Rattle.update_log.proofs.Writing.{outcome_either, ready_made, room_fits, written}
use Rattle.update_log.proofs.putting.write_record.Goals as goal

pub returns-in_err-write_at-clause-crash : goal.returns-in_err-write_at-clause-crash
returns-in_err-write_at-clause-crash g c image payloads can only left may =
    let p = c.args.place.now in
    let e = entry_of c.args.limit c.args.payload.now in
    let bs = c.deref.ensures.value ∙ c.in_ok-record.ensures.bytes in
    let mixing = sym c.mixes.ensures ∙ c.if-not-mixes.false in
    outcome_either image payloads p e _ can c.deref.result.now _ _ bs (c.write_at.ensures.mixed mixing (room_fits p e c.deref.result.now bs c.requires.at c.requires.small)) only left may

pub returns-in_err-sync-clause-crash : goal.returns-in_err-sync-clause-crash
returns-in_err-sync-clause-crash g c image payloads can only left may =
    let p = c.args.place.now in
    let e = entry_of c.args.limit c.args.payload.now in
    let bs = c.deref.ensures.value ∙ c.in_ok-record.ensures.bytes in
    let mixing = sym c.mixes.ensures ∙ c.if-not-mixes.false in
    outcome_either image payloads p e _ can c.deref.result.now _ _ bs (c.write_at.ensures.mixed mixing (room_fits p e c.deref.result.now bs c.requires.at c.requires.small)) only left (c.sync.ensures.crash left may)

pub returns-clause-crash : goal.returns-clause-crash
returns-clause-crash g c image payloads can only left may =
    let p = c.args.place.now in
    let e = entry_of c.args.limit c.args.payload.now in
    let bs = c.deref.ensures.value ∙ c.in_ok-record.ensures.bytes in
    let mixing = sym c.mixes.ensures ∙ c.if-not-mixes.false in
    outcome_either image payloads p e _ can c.deref.result.now _ _ bs (c.write_at.ensures.mixed mixing (room_fits p e c.deref.result.now bs c.requires.at c.requires.small)) only left (c.sync.ensures.crash left may)

pub returns-clause-stored : goal.returns-clause-stored
returns-clause-stored g c image payloads can =
    let p = c.args.place.now in
    let e = entry_of c.args.limit c.args.payload.now in
    let bs = c.deref.ensures.value ∙ c.in_ok-record.ensures.bytes in
    let some : 0 < length c.deref.result.now = omega (arith, ap length bs, record_length p e) in
    let made = written image payloads p e _ can c.deref.result.now _ bs c.write_at.ensures.others (c.in_ok-write_at.ensures.written some) in
    ready_made g.D.Disk image _ (after p e) c.in_ok-record.next _ _ c.sync.ensures.seen c.in_ok-record.ensures.after made.0 made.1 c.in_ok-sync.ensures.durable
