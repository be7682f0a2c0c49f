use Rattle.std.proofs.Common.{◌∙◌, nat_eq, slice_index_or, false, arith, rules, refl, sym}
use Rattle.std.proofs.lemmas.Bool.{both_ways, ne_eqb}
use Rattle.image_commands.proofs.Endings.{affirmed, denied, not_three, of_none, of_three, of_two, other_first, other_length}
use Rattle.image_commands.proofs.beside.is_ending.Goals.{then-ending-eq46-2, else-ending-eq46-2}
use Rattle.image_commands.proofs.beside.is_ending.Goals as goal

pub returns-in-0 : goal.returns-in-0
returns-in-0 c = affirmed _ refl (of_none c.args.ending.now c.in-0.is)

pub returns-then-ending-eq46 : goal.returns-then-ending-eq46
returns-then-ending-eq46 c = of_two c.args.ending.now c.is_digit.result c.in-2.is c.if-ending-eq46.true c.is_digit.ensures

pub returns-else-ending-eq46 : goal.returns-else-ending-eq46
returns-else-ending-eq46 c =
    denied (nat_eq (slice_index_or c.args.ending.now 0 0) 46) (ne_eqb (slice_index_or c.args.ending.now 0 0) 46 c.if-ending-eq46.false)
    (other_first c.args.ending.now (omega (arith, c.in-2.is)) c.if-ending-eq46.false)

pub returns-then-is_digit : goal.returns-then-is_digit
returns-then-is_digit c = elim c.if-ending-eq46-2.branch [
  | then-ending-eq46-2 w ↦ of_three c.args.ending.now c.is_digit-then-is_digit.result c.in-3.is w.if-ending-eq46-2.true (w.is_digit-then-ending-eq46-2.ensures.0 (sym w.value-is ∙ c.if-is_digit.true)) c.is_digit-then-is_digit.ensures
  | else-ending-eq46-2 w ↦ absurd (both_ways (nat_eq (slice_index_or c.args.ending.now 0 0) 46) (ne_eqb (slice_index_or c.args.ending.now 0 0) 46 w.if-ending-eq46-2.false) (sym w.value-is ∙ c.if-is_digit.true))
]

pub returns-else-is_digit : goal.returns-else-is_digit
returns-else-is_digit c = denied c.if-ending-eq46-2.value c.if-is_digit.false (elim c.if-ending-eq46-2.branch [
  | then-ending-eq46-2 w ↦ not_three c.args.ending.now c.in-3.is (λ digit. both_ways c.if-ending-eq46-2.value c.if-is_digit.false (w.value-is ∙ w.is_digit-then-ending-eq46-2.ensures.1 digit))
  | else-ending-eq46-2 w ↦ other_first c.args.ending.now (omega (arith, c.in-3.is)) w.if-ending-eq46-2.false
])

pub returns-in_default : goal.returns-in_default
returns-in_default c = denied false refl (other_length c.args.ending.now (search rules) (search rules) (search rules))
