use Rattle.std.proofs.Common.{refl, inl, inr}
use Rattle.std.specs.Prelude.{codes}
use Rattle.image_commands.proofs.Endings.{affirmed, denied, numbered_after, numbered_within, other_outer, stripped}
use Rattle.std.proofs.lemmas.Bool.{both_ways}
use Rattle.image_commands.proofs.beside.is_of_service.Goals as goal

pub returns-then-is_numbered : goal.returns-then-is_numbered
returns-then-is_numbered c =
    let split = stripped c.args.image.now c.args.name.now c.in-Some.ending.now c.in-Some.ensures.cases in
    affirmed c.is_numbered.result c.if-is_numbered.true
    (inl (numbered_after c.args.image.now (codes ".s4serve.new") c.args.name.now c.in-Some.ending.now split (c.is_numbered.ensures.0 c.if-is_numbered.true)))

pub returns-else-is_numbered : goal.returns-else-is_numbered
returns-else-is_numbered c =
    let split = stripped c.args.image.now c.args.name.now c.in-Some.ending.now c.in-Some.ensures.cases in (
      (λ right. inr (numbered_after c.args.image.now (codes ".s4serve.new.part") c.args.name.now c.in-Some.ending.now split (c.is_numbered-else-is_numbered.ensures.0 right))),
      (λ is. elim is [
        | inl whole ↦ absurd (both_ways c.is_numbered.result c.if-is_numbered.false (c.is_numbered.ensures.1 (numbered_within c.args.image.now (codes ".s4serve.new") c.args.name.now c.in-Some.ending.now split whole)))
        | inr part ↦ c.is_numbered-else-is_numbered.ensures.1 (numbered_within c.args.image.now (codes ".s4serve.new.part") c.args.name.now c.in-Some.ending.now split part)
      ]),
    )

pub returns-in-None : goal.returns-in-None
returns-in-None c = denied _ refl (λ is. elim is [
  | inl whole ↦ other_outer c.args.image.now (codes ".s4serve.new") c.args.name.now c.in-None.ensures.cases whole
  | inr part ↦ other_outer c.args.image.now (codes ".s4serve.new.part") c.args.name.now c.in-None.ensures.cases part
])
