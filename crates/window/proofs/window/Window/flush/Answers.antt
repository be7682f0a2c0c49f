use Rattle.std.proofs.Common.{◌≡◌, ◌<◌, min, max, Some, refl, sym, ap, subst, rules, arith}
use Rattle.s4_model.specs.Visible.{span_of}
use Rattle.window.specs.Chunks.{flat}
use Rattle.window.specs.Timeline.{Timeline, Plan, IsPlanned, StandsFor}
use Rattle.window.proofs.Live.{ends_by}
use Rattle.window.proofs.Planning.{sound_by}
use Rattle.window.proofs.Standing.{stands_flushed}
use Rattle.window.proofs.window.Window.flush.Goals as goal

pub invariant_of-self : goal.invariant_of-self
invariant_of-self c =
    let w : Timeline = record { clock = c.self.inside.clock; window = c.self.inside.window; floor = c.self.inside.floor; runs = flat c.self.inside.chunks.items; chunks = c.self.inside.chunks.items } in
    let plan : Plan = record { span = c.plan.inside.span; fresh = c.plan.inside.fresh; count = c.plan.inside.count; own = c.plan.inside.own } in
    let P : Timeline → Type 0 = λ x. IsPlanned x c.args.plan in
    let Q : Plan → Type 0 = λ x. IsPlanned w x in
    let end : c.min-self-inside.result ≡ min c.self.inside.earliest (max c.self.inside.floor c.plan.inside.span.last) = search rules in
    let moves : c.self.inside.clock < c.next_moment-moment.result = subst (λ (x : Timeline). x.clock < c.next_moment-moment.result) (sym c.self.view_is) (omega (arith, c.next_moment-moment.ensures)) in
    sound_by w plan c.renew.new.chunks.items c.self.inside.earliest c.self.inside.count c.min-self-inside.result c.next_moment-moment.result c.renew.ensures end moves (subst Q (sym c.plan.view_is) (subst P (sym c.self.view_is) c.requires.planned)) refl c.self.invariant

pub returns-clause-taken : goal.returns-clause-taken
returns-clause-taken c = λ s a stands given at is.
    let w : Timeline = record { clock = c.self.inside.clock; window = c.self.inside.window; floor = c.self.inside.floor; runs = flat c.self.inside.chunks.items; chunks = c.self.inside.chunks.items } in
    let plan : Plan = record { span = c.plan.inside.span; fresh = c.plan.inside.fresh; count = c.plan.inside.count; own = c.plan.inside.own } in
    let x : Timeline = record { clock = c.next_moment-moment.result; window = c.self.inside.window; floor = c.self.inside.floor; runs = flat c.renew.new.chunks.items; chunks = c.renew.new.chunks.items } in
    let P : Timeline → Type 0 = λ y. IsPlanned y c.args.plan in
    let Q : Plan → Type 0 = λ y. IsPlanned w y × (y.span.object < s.next) × (span_of a ≡ Some y.span) in
    let S : Timeline → Type 0 = λ y. StandsFor y s in
    let facts : Q plan = subst Q (sym c.plan.view_is) (subst P (sym c.self.view_is) c.requires.planned, given, is) in
    stands_flushed w x c.set_clock.new.self s a plan c.next_moment-moment.result refl refl (ap flat c.renew.ensures) c.set_clock.ensures at facts.2 facts.0.made facts.1 (c.self.invariant.0, ends_by w.clock w.runs c.self.invariant.1) (subst S (sym c.self.view_is) stands)
