use Rattle.std.proofs.Common.{◌∙◌, sym, inl, inr}
use Rattle.std.proofs.lemmas.Bool.{both_ways}
use Rattle.image_commands.proofs.Endings.{affirmed}
use Rattle.image_commands.proofs.beside.is_beside_name.Goals.{then-is_numbered, else-is_numbered}
use Rattle.image_commands.proofs.beside.is_beside_name.Goals as goal

pub returns-then-is_numbered-2 : goal.returns-then-is_numbered-2
returns-then-is_numbered-2 c = affirmed c.if-is_numbered.value c.if-is_numbered-2.true (elim c.if-is_numbered.branch [
  | then-is_numbered w ↦ inl (c.is_numbered.ensures.0 w.if-is_numbered.true)
  | else-is_numbered w ↦ inr (inl (w.is_numbered-else-is_numbered.ensures.0 (sym w.value-is ∙ c.if-is_numbered-2.true)))
])

pub returns-else-is_numbered-2 : goal.returns-else-is_numbered-2
returns-else-is_numbered-2 c = elim c.if-is_numbered.branch [
  | then-is_numbered w ↦ absurd (both_ways c.if-is_numbered.value c.if-is_numbered-2.false (w.value-is ∙ w.if-is_numbered.true))
  | else-is_numbered w ↦ (
    (λ right. inr (inr (c.is_of_service.ensures.0 right))),
    (λ is. elim is [
      | inl command ↦ absurd (both_ways c.is_numbered.result w.if-is_numbered.false (c.is_numbered.ensures.1 command))
      | inr more ↦ elim more [
        | inl earlier ↦ absurd (both_ways c.if-is_numbered.value c.if-is_numbered-2.false (w.value-is ∙ w.is_numbered-else-is_numbered.ensures.1 earlier))
        | inr service ↦ c.is_of_service.ensures.1 service
      ]
    ]),
  )
]
