use Rattle.std.proofs.Common.{◌≡◌, ◌+◌, inr, subst, sym, take}
use Rattle.std.specs.Io.KnownBytes.{Keeps}
use Rattle.std.specs.List.{AllZip}
use Rattle.std.proofs.KnownBytes.{Keeps-trans}
use Rattle.s4d.specs.Opening.{SaysSessionUnopened}
use Rattle.s4d.proofs.Ends.{any_at}
use Rattle.s4d.proofs.Left.{read_of}
use Rattle.s4d.proofs.Zips.{zip_more}
use Rattle.s4d.proofs.session_files.open_all.Goals as goal

pub loop-session-preserved : goal.loop-session-preserved
loop-session-preserved g c =
    let sessions = c.args.sessions.now in
    let i = c.loop-session.session-index in
    let before = g.F.Files.contents c.args.files.now in
    record {
      opened = subst (AllZip (λ s o. (o.session ≡ s) × g.F.Files.opens o.opened s.output.now × Keeps (before s.input.now) (g.F.Reader.Read.remaining o.reader)) (take (i + 1) sessions)) (sym c.in-Ok-push.ensures.items)
          (zip_more (λ s o. (o.session ≡ s) × g.F.Files.opens o.opened s.output.now × Keeps (before s.input.now) (g.F.Reader.Read.remaining o.reader)) sessions c.loop-session.all.items i _ c.in-Ok.opened
          c.loop-session-test.true c.loop-session.invariant.opened
          (c.in-Ok.ensures.session, c.in-Ok.ensures.opened, read_of before (g.F.Files.contents c.loop-session.files) c.loop-session.invariant.kept _ _ c.in-Ok.ensures.read));
      kept = λ other. Keeps-trans _ _ _ (c.loop-session.invariant.kept other) (c.open_one.ensures.kept other);
    }

pub returns-in-Err-clause-fault : goal.returns-in-Err-clause-fault
returns-in-Err-clause-fault g c =
    inr (any_at (λ asked. SaysSessionUnopened asked c.in-Err.fault) c.args.sessions.now c.loop-session.session-index _ c.loop-session-test.true c.in-Err.ensures.fault)
