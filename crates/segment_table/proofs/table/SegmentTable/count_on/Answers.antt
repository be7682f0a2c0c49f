use Rattle.std.proofs.Common.{inl, inr, suc, sym, subst, ◌∙◌, arith}
use Rattle.std.proofs.lemmas.Bool.{cases_lt}
use Rattle.segment_word.specs.Counting.{pins_in}
use Rattle.segment_word.specs.Handles.{Held, IsAmong}
use Rattle.segment_table.proofs.table.SegmentTable.count_on.Goals as goal

pub returns-clause-others : goal.returns-clause-others
returns-clause-others c = λ p among.
    let P : Held → Type 0 = λ h. IsAmong p h.pins in
    elim (cases_lt 0 (pins_in c.frame.result.number c.args.pin.now.pins)) [
      | inl some ↦ subst P (sym (c.confirm.ensures.same.0 ∙ (c.in_ok-add.ensures.counted some).1)) among
      | inr none ↦ subst P (sym (c.confirm.ensures.same.0 ∙ c.in_ok-add.ensures.pinned (omega arith))) (suc among.0, among.1)
    ]
