use Rattle.std.proofs.Common.{◌≡◌, ◌≤◌, List, [], ◌∷◌, ◌++◌, sym, ap, subst, ◌∙◌}
use Rattle.std.specs.List.{filter_map}
use Rattle.s4_types.specs.declared.spans.Span.{Span}
use Rattle.s4_model.specs.Visible.{span_of}
use Rattle.s4_model.specs.RunCounting.{AllEndBy}
use Rattle.s4_model.specs.contracts.plain.PlainDrive.{the_view}
use Rattle.s4_model.proofs.RunLemmas.{AllEndBy-kept, AllEndBy-push, IfOk-too_many}
use Rattle.s4_model.proofs.plain.PlainDrive.is_one_span_too_many.Goals as goal

pub returns-clause-ok : goal.returns-clause-ok
returns-clause-ok c =
    let span : Span = c.args.span in
    let counted : List Span = c.as_slice-2.result.now in
    let hidden : c.in_ok-spans.spans.items ≡ filter_map span_of c.self.inside.changes.items = c.in_ok-spans.ensures.ok ∙ ap (λ all. filter_map span_of all) c.as_slice.ensures.value in
    let all : counted ≡ filter_map span_of c.self.inside.changes.items ++ span ∷ [] = c.as_slice-2.ensures.value ∙ c.in_ok-push.ensures.items ∙ ap (λ x. x ++ span ∷ []) hidden in
    let last : span.last ≤ c.self.inside.clock = rw (← c.self.view_is) at c.requires in
    let P : List Span → Type 0 = AllEndBy c.self.inside.clock in
    let ends : AllEndBy c.self.inside.clock counted = subst P (sym all) (AllEndBy-push c.self.inside.clock (filter_map span_of c.self.inside.changes.items) span (AllEndBy-kept c.self.inside.clock c.self.inside.changes.items c.self.invariant) last) in
    rw (← c.self.view_is) (IfOk-too_many c.are_runs_too_many.result (the_view c.self.inside) span counted all ends c.are_runs_too_many.ensures.ok)
