use Rattle.std.proofs.Common.{arith}
use Rattle.s4serve.proofs.Served.{found, on_all}
use Rattle.service_time.proofs.Ascending.{ascending}
use Rattle.s4serve.proofs.starting.serve_image.Goals as goal

-- the clock begins at the start, and never goes back
pub serve_ready-requires-clause-moments : goal.serve_ready-requires-clause-moments
serve_ready-requires-clause-moments g c = λ lifetimes outlives moments later drawn. ascending _ moments _ later _ (omega (arith, c.in_ok-opened.ensures.last)) drawn

-- the drive that was found, from its start to its end
pub returns : goal.returns
returns g c =
    let known = g.F.Files.contents c.make_asked.new.files c.args.asked.now.image.now in
    let opened = c.in_ok-opened.ensures in
    record {
      served = on_all c.serve_ready.result (λ began stopped ended. (
        known,
        found (λ f. g.F.Files.contents f c.args.asked.now.image.now) c.args.asked.now.create c.args.files c.make_asked.new.files c.in_ok-make_asked.ensures.image c.make_asked.ensures.same,
        record {
          drive = c.in_ok-opened.opened.drive;
          there = opened.image;
          system = c.in_ok-opened.opened.begun.system;
          read = opened.read;
          start = c.in_ok-opened.opened.begun.start;
          begins = opened.start;
          first = began;
          stopped = stopped;
          last = ended;
        },
      )) c.serve_ready.ensures.began c.serve_ready.ensures.stopped c.serve_ready.ensures.ended;
    }
