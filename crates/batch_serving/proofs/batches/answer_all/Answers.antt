use Rattle.std.proofs.Common.{◌≡◌, [], vec_len, arith, sym, ◌∙◌}
use Rattle.std.proofs.lemmas.Bool.{eqb-true}
use Rattle.std.proofs.lemmas.List.{nil_from_length}
use Rattle.batch_serving.proofs.BatchLemmas.{held_written, none_held}
use Rattle.batch_serving.proofs.SayingLemmas.{said_none}
use Rattle.batch_serving.proofs.batches.answer_all.Goals as goal

pub returns-in-Ok-clause-answers : goal.returns-in-Ok-clause-answers
returns-in-Ok-clause-answers g c =
    let out = c.answer_items.new.out in
    let none : out.items ≡ [] = nil_from_length out.items (omega (arith, out.ok.0, eqb-true (vec_len out) 0 (sym c.is_empty.ensures ∙ c.if-is_empty.true))) in
    none_held g.B.Backend.steps g.C.Clock.draws g.K.Keeping.waits _ _ _ _ _ _ _ _ _ _ none c.in-Ok.ensures.answers

pub returns-in-Ok-2-clause-answers : goal.returns-in-Ok-2-clause-answers
returns-in-Ok-2-clause-answers g c =
    held_written g.B.Backend.steps g.C.Clock.draws g.K.Keeping.waits c.write_out.result _ _ _ _ _ _ _ _ _ _ _ _ c.in-Ok-2.ensures.answers c.write_out.ensures.written

-- nothing is held
pub returns-in-Ok-clause-said : goal.returns-in-Ok-clause-said
returns-in-Ok-clause-said g c =
    let out = c.answer_items.new.out in
    let none : out.items ≡ [] = nil_from_length out.items (omega (arith, out.ok.0, eqb-true (vec_len out) 0 (sym c.is_empty.ensures ∙ c.if-is_empty.true))) in
    said_none g.B.Backend.steps g.C.Clock.draws _ _ _ _ _ _ (sym none) c.in-Ok.ensures.said
