use Rattle.std.proofs.Common.{filter, sym, ap, ◌∙◌, arith}
use Rattle.window.specs.Runs.{is_live}
use Rattle.window.specs.Chunks.{flat}
use Rattle.window.specs.Timeline.{Timeline}
use Rattle.window.proofs.Live.{from_later, all_live}
use Rattle.window.proofs.Forgetting.{few_left, sound_forgotten, sound_left, sifted_flat}
use Rattle.window.proofs.window.Window.raise_floor.Goals as goal

pub count-self-inside-requires : goal.count-self-inside-requires
count-self-inside-requires c =
    few_left c.args.floor c.self.inside.clock c.self.inside.floor c.self.inside.earliest c.self.inside.count c.self.inside.chunks.items c.forget.new.chunks.items c.as_slice.result.now c.forget.ensures c.as_slice.ensures.value c.self.invariant

pub invariant_of-self : goal.invariant_of-self
invariant_of-self c =
    sound_forgotten c.args.floor c.self.inside.clock c.self.inside.floor c.self.inside.earliest c.self.inside.count c.earliest-self-inside.result c.count-self-inside.result c.self.inside.chunks.items c.forget.new.chunks.items c.as_slice.result.now c.as_slice-then-number.result.now
    c.forget.ensures c.self.invariant c.as_slice.ensures.value c.count-self-inside.ensures c.as_slice-then-number.ensures.value c.earliest-self-inside.ensures

pub invariant_of-self-else-number : goal.invariant_of-self-else-number
invariant_of-self-else-number c = sound_left c.args.floor c.self.inside.clock c.self.inside.floor c.self.inside.earliest c.self.inside.count c.self.inside.chunks.items (omega arith) c.self.invariant

pub returns-then-number-clause-forgot : goal.returns-then-number-clause-forgot
returns-then-number-clause-forgot c =
    sifted_flat c.args.floor c.self.inside.chunks.items c.forget.new.chunks.items c.forget.ensures ∙ ap (λ (w : Timeline). filter (is_live c.args.floor) w.runs) c.self.view_is

pub returns-else-number-clause-forgot : goal.returns-else-number-clause-forgot
returns-else-number-clause-forgot c =
    sym (all_live c.args.floor (flat c.self.inside.chunks.items) (from_later c.args.floor c.self.inside.earliest (flat c.self.inside.chunks.items) (omega arith) c.self.invariant.6))
    ∙ ap (λ (w : Timeline). filter (is_live c.args.floor) w.runs) c.self.view_is
