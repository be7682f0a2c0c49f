use Rattle.std.proofs.Common.{◌≡◌, ◌∙◌, [], ap, arith, refl, subst, sym}
use Rattle.std.specs.Io.KnownBytes.{Keeps}
use Rattle.std.proofs.KnownBytes.{Keeps-trans}
use Rattle.std.proofs.lemmas.Slice.Zip.{AllZip-long}
use Rattle.s4d_command.specs.declared.sessions.RunSession.{RunSession}
use Rattle.image_commands.specs.Files.{AreKnown}
use Rattle.s4d.specs.Opening.{HoldsAt}
use Rattle.s4d.specs.Running.{HasFiles}
use Rattle.s4d.proofs.Zips.{all_through, zip_through}
use Rattle.s4d.proofs.session_files.open_clients.Goals as goal

pub clients_of-requires-clause-opened : goal.clients_of-requires-clause-opened
clients_of-requires-clause-opened g c κs within =
    all_through (λ s o. (o.session ≡ s) × g.F.Files.opens o.opened s.output.now × Keeps (g.F.Files.contents c.args.files.now s.input.now) (g.F.Reader.Read.remaining o.reader))
    (λ s. Unit {0}) (λ o. g.F.Files.opens o.opened o.session.output.now) (λ s o p _. subst (λ (x : RunSession). g.F.Files.opens o.opened x.output.now) (sym p.0) p.1)
    c.args.sessions.now c.in-Ok.opened.items c.in-Ok.ensures.opened (λ k d lt. tt)

pub returns-in-Ok-clients_of-clause-count : goal.returns-in-Ok-clients_of-clause-count
returns-in-Ok-clients_of-clause-count g c =
    omega (arith, AllZip-long _ _ _ c.in-Ok.ensures.opened, AllZip-long _ _ _ c.in-Ok-clients_of.ensures.asked, c.in-Ok-clients_of.clients.ok.0)

pub returns-in-Ok-clients_of-clause-asked : goal.returns-in-Ok-clients_of-clause-asked
returns-in-Ok-clients_of-clause-asked g c =
    let before = g.F.Files.contents c.args.files.now in
    let opens = HoldsAt g.F.Files.writes g.F.Writer.Write.contents in
    let remaining = g.F.Reader.Read.remaining in
    let written = g.F.Writer.Write.contents in
    zip_through (λ s o. (o.session ≡ s) × g.F.Files.opens o.opened s.output.now × Keeps (before s.input.now) (remaining o.reader))
    (λ o x. (x.role ≡ o.session.role) × (remaining x.reader.reader ≡ remaining o.reader) × AreKnown (written x.writer.writer) [] × g.F.Files.writes x.writer.writer o.session.output.now)
    (λ s x. (x.role ≡ s.role) × HasFiles opens before s (remaining x.reader.reader) (written x.writer.writer))
    (λ s o x p q. (
      q.0 ∙ ap (λ (y : RunSession). y.role) p.0,
      record {
        readable = subst (λ known. Keeps (before s.input.now) known) (sym q.1) p.2;
        opened = (x.writer.writer, subst (λ (y : RunSession). g.F.Files.writes x.writer.writer y.output.now) p.0 q.3, refl);
        empty = q.2;
      },
    ))
    c.args.sessions.now c.in-Ok.opened.items c.in-Ok-clients_of.clients.items c.in-Ok.ensures.opened c.in-Ok-clients_of.ensures.asked

pub returns-in-Ok-clients_of-clause-others : goal.returns-in-Ok-clients_of-clause-others
returns-in-Ok-clients_of-clause-others g c = λ other apart.
    Keeps-trans _ _ _ (c.open_all.ensures.kept other) (c.in-Ok-clients_of.ensures.others other
    (all_through (λ s o. (o.session ≡ s) × g.F.Files.opens o.opened s.output.now × Keeps (g.F.Files.contents c.args.files.now s.input.now) (g.F.Reader.Read.remaining o.reader))
    (λ s. g.F.Files.apart other s.output.now) (λ o. g.F.Files.apart other o.session.output.now)
    (λ s o p a. subst (λ (x : RunSession). g.F.Files.apart other x.output.now) (sym p.0) a) c.args.sessions.now c.in-Ok.opened.items c.in-Ok.ensures.opened apart))
