use Rattle.std.proofs.Common.{◌≡◌, min, max, sym, ap, subst, arith}
use Rattle.window.specs.Chunks.{flat}
use Rattle.window.specs.Timeline.{Timeline, StandsFor}
use Rattle.window.proofs.Lists.{begins_in_order}
use Rattle.window.proofs.Seeing.{seen_is}
use Rattle.window.proofs.window.Window.sees.Goals as goal

pub is_any_left-requires-clause-of_all : goal.is_any_left-requires-clause-of_all
is_any_left-requires-clause-of_all c = begins_in_order c.new-list_of_all.result (flat c.self.inside.chunks.items) (flat c.as_slice-chunks.result.now) c.of_list-all.result.now c.of_list-all.ensures (ap flat c.as_slice-chunks.ensures.value) c.self.invariant.0

pub is_any_left-requires-clause-of_one : goal.is_any_left-requires-clause-of_one
is_any_left-requires-clause-of_one c = begins_in_order c.args.object (flat c.self.inside.chunks.items) (flat c.as_slice-chunks.result.now) c.of_list-own.result.now c.of_list-own.ensures (ap flat c.as_slice-chunks.ensures.value) c.self.invariant.0

pub returns : goal.returns
returns c = λ s stands.
    let w : Timeline = record { clock = c.self.inside.clock; window = c.self.inside.window; floor = c.self.inside.floor; runs = flat c.self.inside.chunks.items; chunks = c.self.inside.chunks.items } in
    let S : Timeline → Type 0 = λ x. StandsFor x s in
    let from : c.new-from.result ≡ max c.args.first c.self.inside.floor = omega arith in
    let to : c.new-to.result ≡ min c.args.last c.self.inside.clock = omega arith in
    seen_is w s c.args.object c.args.first c.args.last c.new-from.result c.new-to.result c.new-list_of_all.result (flat c.as_slice-chunks.result.now) c.of_list-all.result.now c.of_list-own.result.now c.is_any_left.result
    (subst S (sym c.self.view_is) stands) from to c.new-list_of_all.ensures (ap flat c.as_slice-chunks.ensures.value) c.of_list-all.ensures c.of_list-own.ensures c.is_any_left.ensures
