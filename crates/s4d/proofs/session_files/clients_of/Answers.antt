use Rattle.std.proofs.Common.{◌≡◌, ◌∙◌, ◌<◌, ◌+◌, ◌^◌, ◌∷◌, ◌++◌, All, [], arith, length, length-append, subst, sym}
use Rattle.std.specs.List.{AllZip}
use Rattle.std.proofs.KnownBytes.{Keeps-refl, Keeps-trans}
use Rattle.std.proofs.lemmas.Iterator.Adapters.{YieldsList-from_vec}
use Rattle.std.proofs.lemmas.Iterator.Consumers.{YieldsList-end, YieldsList-turn}
use Rattle.std.proofs.lemmas.List.Elements.{All-push}
use Rattle.std.proofs.lemmas.List.{map-id}
use Rattle.image_commands.specs.Files.{AreKnown}
use Rattle.s4d.proofs.Zips.{zip_push}
use Rattle.s4d.proofs.session_files.clients_of.Goals as goal

pub loop-session-init : goal.loop-session-init
loop-session-init g c =
    let none = c.in_ok-clients.ensures.items in
    record {
      count = c.in_ok-clients.ensures.len;
      room = omega (arith, c.in_ok-clients.ensures.capacity, c.len.ensures, c.args.sessions.ok.0);
      readers = subst (All (λ x. x.reader.failures + 1 < 2 ^ 64)) (sym none) (λ k d lt. absurd (omega (arith, lt)));
      writers = subst (All (λ x. x.writer.failures + 1 < 2 ^ 64)) (sym none) (λ k d lt. absurd (omega (arith, lt)));
      asked = rw none tt;
      others = λ other all. Keeps-refl _;
    }

pub unreachable-requires : goal.unreachable-requires
unreachable-requires g c =
    let all = c.args.sessions.items in
    let made = c.into_iter-session-iterator.ensures.into_iter_gives in
    let road = YieldsList-from_vec {s = c.into_iter-session-iterator.result} all made.0 (made.1 ∙ c.args.sessions.ok.0) in
    let here = YieldsList-turn road c.loop-session.yielded c.loop-session.session-iterator c.loop-session.yielded_by c.next.result c.next.new.self c.in-Some.session c.in-Some.is c.next.ensures.steps in
    omega (arith, here.0, c.in-Err.ensures.full, c.loop-session.invariant.count, c.loop-session.invariant.room)

-- the output of the session that comes is open
pub client_of-client-requires-clause-opened : goal.client_of-client-requires-clause-opened
client_of-client-requires-clause-opened g c κs within =
    let all = c.args.sessions.items in
    let made = c.into_iter-session-iterator.ensures.into_iter_gives in
    let road = YieldsList-from_vec {s = c.into_iter-session-iterator.result} all made.0 (made.1 ∙ c.args.sessions.ok.0) in
    let here = YieldsList-turn road c.loop-session.yielded c.loop-session.session-iterator c.loop-session.yielded_by c.next.result c.next.new.self c.in-Some.session c.in-Some.is c.next.ensures.steps in
    subst (λ o. g.F.Files.opens o.opened o.session.output.now) (sym here.1) (c.requires.opened (length c.loop-session.yielded) c.in-Some.session here.0)

pub loop-session-preserved : goal.loop-session-preserved
loop-session-preserved g c =
    let all = c.args.sessions.items in
    let made = c.into_iter-session-iterator.ensures.into_iter_gives in
    let road = YieldsList-from_vec {s = c.into_iter-session-iterator.result} all made.0 (made.1 ∙ c.args.sessions.ok.0) in
    let here = YieldsList-turn road c.loop-session.yielded c.loop-session.session-iterator c.loop-session.yielded_by c.next.result c.next.new.self c.in-Some.session c.in-Some.is c.next.ensures.steps in
    let x = c.in-Some.session in
    let client = c.client_of-client.result in
    let made_of = c.client_of-client.ensures in
    let items = sym c.in-Ok.ensures.items in
    let so_far = c.loop-session.invariant in
    record {
      count = omega (arith, c.in-Ok.ensures.len, so_far.count, length-append c.loop-session.yielded (x ∷ []));
      room = omega (arith, so_far.room, c.push.ensures.capacity);
      readers = subst (All (λ y. y.reader.failures + 1 < 2 ^ 64)) items (All-push (λ y. y.reader.failures + 1 < 2 ^ 64) c.loop-session.clients.items client so_far.readers made_of.reader);
      writers = subst (All (λ y. y.writer.failures + 1 < 2 ^ 64)) items (All-push (λ y. y.writer.failures + 1 < 2 ^ 64) c.loop-session.clients.items client so_far.writers made_of.writer);
      asked = subst (λ xs. AllZip (λ o y. (y.role ≡ o.session.role) × (g.F.Reader.Read.remaining y.reader.reader ≡ g.F.Reader.Read.remaining o.reader)
          × AreKnown (g.F.Writer.Write.contents y.writer.writer) [] × g.F.Files.writes y.writer.writer o.session.output.now) (c.loop-session.yielded ++ x ∷ []) xs) items
          (zip_push (λ o y. (y.role ≡ o.session.role) × (g.F.Reader.Read.remaining y.reader.reader ≡ g.F.Reader.Read.remaining o.reader)
          × AreKnown (g.F.Writer.Write.contents y.writer.writer) [] × g.F.Files.writes y.writer.writer o.session.output.now)
          c.loop-session.yielded c.loop-session.clients.items x client so_far.asked (made_of.role, made_of.read, made_of.empty, made_of.writes));
      others = λ other apart. Keeps-trans _ _ _ (so_far.others other apart)
          (made_of.others other (subst (λ o. g.F.Files.apart other o.session.output.now) (sym here.1) (apart (length c.loop-session.yielded) x here.0)));
    }

pub returns-clause-asked : goal.returns-clause-asked
returns-clause-asked g c =
    let all = c.args.sessions.items in
    let made = c.into_iter-session-iterator.ensures.into_iter_gives in
    let road = YieldsList-from_vec {s = c.into_iter-session-iterator.result} all made.0 (made.1 ∙ c.args.sessions.ok.0) in
    let end = YieldsList-end road c.loop-session.yielded c.loop-session.session-iterator c.loop-session.yielded_by c.next.result c.next.new.self c.in-None.is c.next.ensures.steps in
    subst (λ xs. AllZip (λ o y. (y.role ≡ o.session.role) × (g.F.Reader.Read.remaining y.reader.reader ≡ g.F.Reader.Read.remaining o.reader)
    × AreKnown (g.F.Writer.Write.contents y.writer.writer) [] × g.F.Files.writes y.writer.writer o.session.output.now) xs c.loop-session.clients.items)
    (sym (map-id c.loop-session.yielded) ∙ end.0) c.loop-session.invariant.asked
