use Rattle.std.proofs.lemmas.Result.{IfOk-weaker}
use Rattle.drive.specs.Fields.{state_in}
use Rattle.verifier.proofs.SeenParts.{spans_are}
use Rattle.verifier.proofs.seen_parts.spans_seen.Goals as goal

pub returns-clause-spans : goal.returns-clause-spans
returns-clause-spans g c =
    let told = c.in_ok-spans.ensures in
    IfOk-weaker c.spans_from.result _ _
    (λ left is. spans_are (state_in c.args.drive.now) c.args.moment c.floor_seen.result c.in_ok-spans.spans.items left.items
    (record {
      alike = told.alike;
      ordered = told.ordered;
      from_floor = told.from_floor;
      past = told.past;
      given = told.given;
      few = told.few;
      few_in_each_list = told.few_in_each_list;
    })
    c.floor_seen.ensures is)
    c.spans_from.ensures.ok
