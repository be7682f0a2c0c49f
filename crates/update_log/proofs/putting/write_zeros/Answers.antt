use Rattle.std.proofs.Common.{inr, ◌+◌, ◌^◌, ◌<◌, ℕ, List, length, subst, ap, arith}
use Rattle.sqlite_disk.specs.Disk.{Mixed}
use Rattle.update_log.proofs.Recording.{zeros_length}
use Rattle.update_log.proofs.Writing.{blank_made}
use Rattle.update_log.proofs.putting.write_zeros.Goals as goal

pub returns-in-Err-clause-mixed : goal.returns-in-Err-clause-mixed
returns-in-Err-clause-mixed g c mixing fits left may =
    let is = blank_made c.args.count _ c.new-blank.result.items c.resize.new.self.items c.deref.result.now c.new-blank.ensures.items c.new-blank.ensures.len c.in_ok-resize.ensures.items c.deref.ensures.value in
    let room : c.args.from + length c.deref.result.now < 2 ^ 64 = omega (arith, fits, ap length is, zeros_length c.args.count) in
    let (d, was, step) = c.write_at.ensures.mixed mixing room left may in
    inr (d, (was, subst (λ (x : List ℕ). Mixed c.args.from x d left) is step))

pub returns-in_err-sync-clause-mixed : goal.returns-in_err-sync-clause-mixed
returns-in_err-sync-clause-mixed g c mixing fits left may =
    let is = blank_made c.args.count _ c.new-blank.result.items c.resize.new.self.items c.deref.result.now c.new-blank.ensures.items c.new-blank.ensures.len c.in_ok-resize.ensures.items c.deref.ensures.value in
    let room : c.args.from + length c.deref.result.now < 2 ^ 64 = omega (arith, fits, ap length is, zeros_length c.args.count) in
    let (d, was, step) = c.write_at.ensures.mixed mixing room left (c.sync.ensures.crash left may) in
    inr (d, (was, subst (λ (x : List ℕ). Mixed c.args.from x d left) is step))

pub returns-clause-mixed : goal.returns-clause-mixed
returns-clause-mixed g c mixing fits left may =
    let is = blank_made c.args.count _ c.new-blank.result.items c.resize.new.self.items c.deref.result.now c.new-blank.ensures.items c.new-blank.ensures.len c.in_ok-resize.ensures.items c.deref.ensures.value in
    let room : c.args.from + length c.deref.result.now < 2 ^ 64 = omega (arith, fits, ap length is, zeros_length c.args.count) in
    let (d, was, step) = c.write_at.ensures.mixed mixing room left (c.sync.ensures.crash left may) in
    inr (d, (was, subst (λ (x : List ℕ). Mixed c.args.from x d left) is step))
