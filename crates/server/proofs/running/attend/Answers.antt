use Rattle.std.proofs.Common.{[], refl, sym, subst}
use Rattle.drive.specs.Fields.{SessionFields}
use Rattle.serving.specs.Session.{Serves}
use Rattle.server.specs.Accounts.{PartFields}
use Rattle.server.specs.Attending.{IsServed, SeatFields, SeatSteps}
use Rattle.server.specs.Drawing.{DrawsNothing}
use Rattle.server.proofs.Acknowledged.{all_own}
use Rattle.server.proofs.running.attend.Goals as goal

pub returns : goal.returns
returns g c =
    let law = c.histories_go_on_record_by_record.ensures in
    let base = g.J.Naming.base in
    let reserve = g.J.Running.reserve in
    let moments = g.J.Running.moments in
    let role = c.args.client.now.role in
    let input = g.S.Source.remaining c.args.client.now.reader in
    let output = g.W.Sink.passed c.args.client.now.writer in
    let unread = g.S.Source.remaining c.serve-end.new.reader in
    let written = g.W.Sink.passed c.serve-end.new.writer in
    let first : SeatFields = record { session = c.in-Ok.had.0; requests = 0; clock = c.in-Ok.had.1.clock } in
    let last : SeatFields = c.serve-end.new.backend in
    let IsLast : SessionFields → PartFields → Type 0 = λ session part. IsServed base reserve moments role c.serve-end.result session part input output unread written in
    let serves = subst (λ (first : SeatFields). Serves (SeatSteps base reserve moments) DrawsNothing [] c.serve-end.result first _ input output last _ unread written) c.seated-session.ensures c.serve-end.ensures.session in
    let own = all_own law.by_moments law.by_changes base reserve moments role serves.finishes.items serves.finishes.answered.moments serves.finishes.replies first last c.in-Ok.ensures.session serves.finishes.answered.run in
    let ended = c.into_parts-session.ensures in
    record {
      attended = record {
        role = refl;
        attended = subst (λ (session : SessionFields). IsLast session c.into_parts-session.result.1) (sym ended.session) (subst (λ (part : PartFields). IsLast last.session part) (sym ended.part) (record {
          first = first.session;
          opened = first.clock;
          seated = c.in-Ok.ensures.session;
          closed = last.clock;
          before = _;
          after = _;
          serves = serves;
          own = own.0;
          one = refl;
          asked = own.1;
          accepted = refl;
        }));
        reading = c.serve-end.ensures.reading;
        writing = c.serve-end.ensures.writing;
      };
    }
