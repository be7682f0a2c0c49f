use Rattle.std.proofs.Common.{◌<◌, ap, ◌∙◌, length, arith, []}
use Rattle.update_log.specs.Headers.{start}
use Rattle.update_log.proofs.Clearing.{created}
use Rattle.update_log.proofs.Heading.{header_length}
use Rattle.update_log.proofs.Writing.{ready_made}
use Rattle.update_log.proofs.recovering.create.Goals as goal

pub returns-clause-ready : goal.returns-clause-ready
returns-clause-ready g c =
    let image = c.args.image.now in
    let limit = c.args.limit in
    let hs = c.deref.ensures.value ∙ c.in_ok-header.ensures.bytes in
    let some : 0 < length c.deref.result.now = omega (arith, ap length hs, header_length image limit c.requires.image) in
    let made = created image limit _ _ c.deref.result.now c.requires.image hs c.in_ok-write_zeros.ensures.ahead.held c.write_at.ensures.others (c.in_ok-write_at.ensures.written some) c.requires.limit in
    ready_made g.D.Disk image [] (start image limit) c.in_ok-header.place _ c.sync.new.self c.sync.ensures.seen c.in_ok-header.ensures.place made.0 made.1 c.in_ok-sync.ensures.durable
