use Rattle.std.proofs.Common.{◌≡◌, ◌<◌, length, sym, ◌∙◌}
use Rattle.undo_redo.specs.Runs.{last_moment}
use Rattle.undo_redo.proofs.ComposeLaws.{composes_made, last_read, last_found}
use Rattle.undo_redo.proofs.composition.compose.Goals as goal

pub returns-clause-exact : goal.returns-clause-exact
returns-clause-exact c =
    let some : 0 < length c.args.entries.now = last_found c.args.entries.now c.in-Some.last.now (sym c.in-Some.ensures.value) in
    let moment : c.moment.result ≡ last_moment 0 c.args.entries.now = c.moment.ensures ∙ sym (last_read 0 c.args.entries.now c.in-Some.last.now (sym c.in-Some.ensures.value)) in
    (composes_made _ c.composed.result c.args.entries.now c.moment.result some moment c.composed.ensures).exact

pub returns-clause-run : goal.returns-clause-run
returns-clause-run c =
    let some : 0 < length c.args.entries.now = last_found c.args.entries.now c.in-Some.last.now (sym c.in-Some.ensures.value) in
    let moment : c.moment.result ≡ last_moment 0 c.args.entries.now = c.moment.ensures ∙ sym (last_read 0 c.args.entries.now c.in-Some.last.now (sym c.in-Some.ensures.value)) in
    (composes_made _ c.composed.result c.args.entries.now c.moment.result some moment c.composed.ensures).run

pub returns-clause-some : goal.returns-clause-some
returns-clause-some c =
    let some : 0 < length c.args.entries.now = last_found c.args.entries.now c.in-Some.last.now (sym c.in-Some.ensures.value) in
    let moment : c.moment.result ≡ last_moment 0 c.args.entries.now = c.moment.ensures ∙ sym (last_read 0 c.args.entries.now c.in-Some.last.now (sym c.in-Some.ensures.value)) in
    (composes_made _ c.composed.result c.args.entries.now c.moment.result some moment c.composed.ensures).some

pub returns-clause-group : goal.returns-clause-group
returns-clause-group c =
    let some : 0 < length c.args.entries.now = last_found c.args.entries.now c.in-Some.last.now (sym c.in-Some.ensures.value) in
    let moment : c.moment.result ≡ last_moment 0 c.args.entries.now = c.moment.ensures ∙ sym (last_read 0 c.args.entries.now c.in-Some.last.now (sym c.in-Some.ensures.value)) in
    (composes_made _ c.composed.result c.args.entries.now c.moment.result some moment c.composed.ensures).group

pub returns-clause-moments : goal.returns-clause-moments
returns-clause-moments c =
    let some : 0 < length c.args.entries.now = last_found c.args.entries.now c.in-Some.last.now (sym c.in-Some.ensures.value) in
    let moment : c.moment.result ≡ last_moment 0 c.args.entries.now = c.moment.ensures ∙ sym (last_read 0 c.args.entries.now c.in-Some.last.now (sym c.in-Some.ensures.value)) in
    (composes_made _ c.composed.result c.args.entries.now c.moment.result some moment c.composed.ensures).moments
