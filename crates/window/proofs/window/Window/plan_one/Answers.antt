use Rattle.std.proofs.Common.{◌≡◌, ◌≤◌, ◌<◌, ◌+◌, ◌-◌, ◌^◌, min, refl, sym, ap, subst, ◌∙◌, List, length, count_by, filter, Some, rules, arith}
use Rattle.s4_types.specs.declared.spans.Span.{Span}
use Rattle.s4_types.specs.declared.limits.TheConstants.{RUNS_IN_ALL}
use Rattle.window.specs.declared.chunks.Chunk.{Chunk}
use Rattle.window.specs.declared.chunks.Fresh.TheVariants.{One}
use Rattle.window.specs.Runs.{Ascend, AllEndFrom, with_span, is_live, is_live_in}
use Rattle.window.specs.Chunks.{flat, holder}
use Rattle.window.specs.Timeline.{Timeline, IsMade}
use Rattle.window.proofs.Chunked.{ordered_holder, all_in_holder, dated_holder}
use Rattle.window.proofs.OwnCounts.{live_with, live_ordered, live_counted, live_dated}
use Rattle.window.proofs.Planning.{one_made}
use Rattle.window.proofs.window.Window.plan_one.Goals as goal

pub with_span-requires : goal.with_span-requires
with_span-requires c =
    let S : Timeline → Type 0 = λ x. holder c.args.span.object x.chunks ≡ Some c.args.chunk.now in
    subst Ascend (sym c.as_slice.ensures.value) (ordered_holder c.args.span.object c.self.inside.chunks.items c.args.chunk.now c.self.invariant.0 (subst S (sym c.self.view_is) c.requires.held))

pub sift_with-requires : goal.sift_with-requires
sift_with-requires c =
    let S : Timeline → Type 0 = λ x. holder c.args.span.object x.chunks ≡ Some c.args.chunk.now in
    let live : AllEndFrom c.self.inside.floor c.as_slice.result.now =
    subst (AllEndFrom c.self.inside.floor) (sym c.as_slice.ensures.value)
    (all_in_holder (λ run. c.self.inside.floor ≤ run.last) c.args.span.object c.self.inside.chunks.items c.args.chunk.now c.self.invariant.5 (subst S (sym c.self.view_is) c.requires.held)) in
    live_with c.self.inside.floor c.args.span c.as_slice.result.now c.in_ok-runs.runs.items c.in_ok-runs.ensures.ok live

pub count_of_list-own-requires : goal.count_of_list-own-requires
count_of_list-own-requires c =
    let S : Timeline → Type 0 = λ x. holder c.args.span.object x.chunks ≡ Some c.args.chunk.now in
    let ordered : Ascend c.as_slice.result.now =
    subst Ascend (sym c.as_slice.ensures.value) (ordered_holder c.args.span.object c.self.inside.chunks.items c.args.chunk.now c.self.invariant.0 (subst S (sym c.self.view_is) c.requires.held)) in
    let live : c.as_slice-2.result.now ≡ filter (is_live c.self.inside.floor) (with_span c.args.span c.as_slice.result.now) =
    c.as_slice-2.ensures.value ∙ c.sift_with.ensures ∙ ap (λ (xs : List Span). filter (is_live c.self.inside.floor) xs) c.in_ok-runs.ensures.ok in
    live_ordered c.self.inside.floor c.args.span c.as_slice.result.now c.as_slice-2.result.now live c.requires.ordered ordered

pub returns-clause-made : goal.returns-clause-made
returns-clause-made c =
    let w : Timeline = record { clock = c.self.inside.clock; window = c.self.inside.window; floor = c.self.inside.floor; runs = flat c.self.inside.chunks.items; chunks = c.self.inside.chunks.items } in
    let whole : Chunk = record { up_to = c.args.chunk.now.up_to; earliest = c.args.chunk.now.earliest; runs = c.in_ok-runs.runs } in
    let fresh : Chunk = record { up_to = c.args.chunk.now.up_to; earliest = c.min-earliest.result; runs = c.sift_with.new.runs } in
    let S : Timeline → Type 0 = λ x. (c.args.span.last ≤ x.clock) × (holder c.args.span.object x.chunks ≡ Some c.args.chunk.now) in
    let facts : S w = subst S (sym c.self.view_is) (c.requires.past, c.requires.held) in
    let is : whole.runs.items ≡ with_span c.args.span c.args.chunk.now.runs.items = c.in_ok-runs.ensures.ok ∙ ap (λ (xs : List Span). with_span c.args.span xs) c.as_slice.ensures.value in
    let live : fresh.runs.items ≡ filter (is_live w.floor) (with_span c.args.span c.args.chunk.now.runs.items) = c.sift_with.ensures ∙ ap (λ (xs : List Span). filter (is_live c.self.inside.floor) xs) is in
    let least : c.min-earliest.result ≡ min c.args.chunk.now.earliest c.args.span.last = search rules in
    let dated : AllEndFrom fresh.earliest fresh.runs.items =
    live_dated w.floor c.args.chunk.now.earliest c.min-earliest.result c.args.span c.args.chunk.now.runs.items fresh.runs.items live least (dated_holder c.args.span.object w.chunks c.args.chunk.now c.self.invariant.4 facts.1) in
    let below : c.args.span.object < 2 ^ 64 = omega arith in
    let few : c.self.inside.count ≤ RUNS_IN_ALL = c.self.invariant.8 in
    let held : length c.args.chunk.now.runs.items ≡ c.len.result = ap (λ (xs : List Span). length xs) (sym c.as_slice.ensures.value) ∙ c.as_slice.ensures.len ∙ sym c.len.ensures in
    let made : length fresh.runs.items ≡ c.len-2.result = ap (λ (xs : List Span). length xs) (sym c.as_slice-2.ensures.value) ∙ c.as_slice-2.ensures.len ∙ sym c.len-2.ensures in
    let size : c.len-2.result < 2 ^ 63 = let same : length c.as_slice-2.result.now ≡ c.len-2.result = c.as_slice-2.ensures.len ∙ sym c.len-2.ensures in omega (arith, c.as_slice-2.type_inv.1) in
    let counted : c.saturating_add-count.result ≡ (c.self.inside.count - length c.args.chunk.now.runs.items) + length fresh.runs.items = omega arith in
    let own : c.count_of_list-own.result ≡ count_by (is_live_in w.floor c.args.span.object) fresh.runs.items =
    c.count_of_list-own.ensures ∙ live_counted w.floor c.args.span c.args.chunk.now.runs.items c.as_slice-2.result.now (c.as_slice-2.ensures.value ∙ live) ∙ ap (λ (xs : List Span). count_by (is_live_in w.floor c.args.span.object) xs) c.as_slice-2.ensures.value in
    let P : Timeline → Type 0 = λ x. IsMade x (record { span = c.args.span; fresh = One fresh; count = c.saturating_add-count.result; own = c.count_of_list-own.result }) in (
      refl,
      subst P c.self.view_is (one_made w c.args.span c.args.chunk.now whole fresh c.saturating_add-count.result c.count_of_list-own.result c.self.inside.earliest c.self.inside.count c.requires.ordered facts.0 below refl c.self.invariant facts.1 refl is refl c.sift_with.ensures dated counted own),
    )
