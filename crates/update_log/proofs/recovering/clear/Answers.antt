use Rattle.std.proofs.Common.{◌≡◌, ◌+◌, ◌-◌, ◌^◌, ◌<◌, refl, length, sym, ◌∙◌, arith}
use Rattle.std.proofs.lemmas.Result.{on_ok_weaker}
use Rattle.update_log.proofs.Clearing.{cleared, cleared_blank, clearing_leaves, none_torn}
use Rattle.update_log.proofs.Writing.{ready_made}
use Rattle.update_log.proofs.recovering.clear.Goals as goal

pub returns-then-count_nonzeros-eq0-clause-ready : goal.returns-then-count_nonzeros-eq0-clause-ready
returns-then-count_nonzeros-eq0-clause-ready g c image payloads accepted tails =
    let p = c.args.place.now in
    ready_made g.D.Disk image payloads p p c.args.disk.now c.sync.new.self c.sync.ensures.seen refl accepted (none_torn p _ c.args.tail.now tails (sym c.count_nonzeros.ensures.count ∙ c.if-count_nonzeros-eq0.true)) c.in_ok-sync.ensures.durable

pub returns-clause-ready : goal.returns-clause-ready
returns-clause-ready g c =
    let p = c.args.place.now in
    let n = length c.args.tail.now in
    let wide : n ≡ p.limit - p.at = omega (arith, c.requires.tail) in
    on_ok_weaker c.write_zeros.result
    (λ ahead image payloads accepted tails. record {
      accepted = cleared image payloads p n _ accepted c.requires.at wide _ ahead.held ahead.others;
      blank = cleared_blank image payloads p n _ accepted c.requires.at wide _ ahead.held;
      synced = ahead.synced;
    })
    c.write_zeros.ensures.ahead

pub returns-clause-crash : goal.returns-clause-crash
returns-clause-crash g c image payloads accepted only left may =
    let p = c.args.place.now in
    let n = length c.args.tail.now in
    let wide : n ≡ p.limit - p.at = omega (arith, c.requires.tail) in
    let room : p.at + n < 2 ^ 64 = omega (arith, c.requires.tail, c.requires.limit) in
    clearing_leaves image payloads p n _ accepted c.requires.at wide _ _ only (c.write_zeros.ensures.mixed (sym c.mixes.ensures ∙ c.if-not-mixes.false) room) left may
