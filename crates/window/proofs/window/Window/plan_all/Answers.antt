use Rattle.std.proofs.Common.{◌≡◌, ◌≤◌, ◌<◌, ◌^◌, refl, sym, ap, subst, ◌∙◌, filter, count_by, length, List, arith}
use Rattle.s4_types.specs.declared.spans.Span.{Span}
use Rattle.window.specs.declared.chunks.Fresh.TheVariants.{All}
use Rattle.window.specs.Runs.{with_span, is_live, is_live_in, span_is_of}
use Rattle.window.specs.Chunks.{flat}
use Rattle.window.specs.Timeline.{Timeline, IsMade}
use Rattle.window.proofs.Live.{ends_by}
use Rattle.window.proofs.OwnCounts.{live_ordered, live_counted}
use Rattle.window.proofs.Planning.{all_ready, all_made}
use Rattle.window.proofs.window.Window.plan_all.Goals as goal

pub divide-requires-clause-ordered : goal.divide-requires-clause-ordered
divide-requires-clause-ordered c =
    let w : Timeline = record { clock = c.self.inside.clock; window = c.self.inside.window; floor = c.self.inside.floor; runs = flat c.self.inside.chunks.items; chunks = c.self.inside.chunks.items } in
    let Live : Timeline → Type 0 = λ x. c.in_ok-runs.runs.items ≡ filter (is_live x.floor) (with_span c.args.span x.runs) in
    let is : c.as_slice.result.now ≡ filter (is_live w.floor) (with_span c.args.span w.runs) = c.as_slice.ensures.value ∙ subst Live (sym c.self.view_is) c.in_ok-runs.ensures.ok in
    let below : c.args.span.object < 2 ^ 64 = omega arith in
    (all_ready w c.args.span c.as_slice.result.now is (c.self.invariant.0, ends_by w.clock w.runs c.self.invariant.1) c.self.invariant.2 c.requires.ordered below).0

pub divide-requires-clause-numbered : goal.divide-requires-clause-numbered
divide-requires-clause-numbered c =
    let w : Timeline = record { clock = c.self.inside.clock; window = c.self.inside.window; floor = c.self.inside.floor; runs = flat c.self.inside.chunks.items; chunks = c.self.inside.chunks.items } in
    let Live : Timeline → Type 0 = λ x. c.in_ok-runs.runs.items ≡ filter (is_live x.floor) (with_span c.args.span x.runs) in
    let is : c.as_slice.result.now ≡ filter (is_live w.floor) (with_span c.args.span w.runs) = c.as_slice.ensures.value ∙ subst Live (sym c.self.view_is) c.in_ok-runs.ensures.ok in
    let below : c.args.span.object < 2 ^ 64 = omega arith in
    (all_ready w c.args.span c.as_slice.result.now is (c.self.invariant.0, ends_by w.clock w.runs c.self.invariant.1) c.self.invariant.2 c.requires.ordered below).1

pub count_of_list-own-requires : goal.count_of_list-own-requires
count_of_list-own-requires c =
    let w : Timeline = record { clock = c.self.inside.clock; window = c.self.inside.window; floor = c.self.inside.floor; runs = flat c.self.inside.chunks.items; chunks = c.self.inside.chunks.items } in
    let Live : Timeline → Type 0 = λ x. c.in_ok-runs.runs.items ≡ filter (is_live x.floor) (with_span c.args.span x.runs) in
    live_ordered w.floor c.args.span w.runs c.as_slice-2.result.now (c.as_slice-2.ensures.value ∙ subst Live (sym c.self.view_is) c.in_ok-runs.ensures.ok) c.requires.ordered c.self.invariant.0

pub returns-clause-made : goal.returns-clause-made
returns-clause-made c =
    let w : Timeline = record { clock = c.self.inside.clock; window = c.self.inside.window; floor = c.self.inside.floor; runs = flat c.self.inside.chunks.items; chunks = c.self.inside.chunks.items } in
    let Live : Timeline → Type 0 = λ x. c.in_ok-runs.runs.items ≡ filter (is_live x.floor) (with_span c.args.span x.runs) in
    let is : c.as_slice.result.now ≡ filter (is_live w.floor) (with_span c.args.span w.runs) = c.as_slice.ensures.value ∙ subst Live (sym c.self.view_is) c.in_ok-runs.ensures.ok in
    let below : c.args.span.object < 2 ^ 64 = omega arith in
    let S : Timeline → Type 0 = λ x. c.args.span.last ≤ x.clock in
    let counted : c.len.result ≡ length c.as_slice.result.now = c.len.ensures ∙ sym c.as_slice.ensures.len in
    let same : c.as_slice-2.result.now ≡ c.as_slice.result.now = c.as_slice-2.ensures.value ∙ sym c.as_slice.ensures.value in
    let own : c.count_of_list-own.result ≡ count_by (is_live_in w.floor c.args.span.object) c.as_slice.result.now =
    c.count_of_list-own.ensures ∙ ap (λ (xs : List Span). count_by (span_is_of c.args.span.object) xs) same ∙ live_counted w.floor c.args.span w.runs c.as_slice.result.now is in
    let P : Timeline → Type 0 = λ x. IsMade x (record { span = c.args.span; fresh = All c.in_ok-divide.field-0; count = c.len.result; own = c.count_of_list-own.result }) in
    (refl, subst P c.self.view_is (all_made w c.args.span c.in_ok-divide.field-0 c.as_slice.result.now c.len.result c.count_of_list-own.result c.requires.ordered (subst S (sym c.self.view_is) c.requires.past) below is c.in_ok-divide.ensures.ok counted own))
