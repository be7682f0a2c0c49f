use Rattle.std.proofs.Common.{◌≡◌, ◌+◌, [], ◌∷◌, ◌++◌, List, max, take, sym, ap, subst, ◌∙◌, arith}
use Rattle.std.proofs.lemmas.List.{take_more, take_all}
use Rattle.s4_types.specs.declared.spans.Span.{Span}
use Rattle.s4_model.specs.Runs.{is_covered, is_first}
use Rattle.s4_model.proofs.RunLemmas.{AreFirsts, AreFirsts-step, run_count-firsts}
use Rattle.s4_model.proofs.runs.run_count.Goals as goal

pub loop-span-preserved : goal.loop-span-preserved
loop-span-preserved c =
    let i = c.loop-span.span-index in
    let spans : List Span = c.args.spans.now in
    let span : Span = c.span-item.result in
    let more : take (i + 1) spans ≡ take i spans ++ span ∷ [] = take_more spans i span (omega arith) ∙ ap (λ x. take i spans ++ x ∷ []) (sym c.span-item.is) in
    let first : c.max-first.result ≡ max span.first c.args.floor = c.max-first.ensures ∙ ap (λ x. max x c.number-in-loop-span.result) c.number.ensures ∙ ap (λ x. max span.first x) c.number-in-loop-span.ensures in
    let begins : c.begins_run-begins.result ≡ is_first (is_covered c.args.floor spans c.args.list) c.max-first.result = c.begins_run-begins.ensures ∙ ap (λ x. is_first (is_covered c.args.floor spans c.args.list) x) c.new.ensures in
    AreFirsts-step c.args.floor c.args.list spans (take i spans) (take (i + 1) spans) c.loop-span.firsts.items c.note_first.new.firsts.items span c.max-first.result c.begins_run-begins.result
    more first begins (c.in_ok-note_first.ensures.ok) c.loop-span.invariant

pub returns-clause-ok : goal.returns-clause-ok
returns-clause-ok c = λ clock ends.
    let P : List Span → Type 0 = λ x. AreFirsts c.args.floor c.args.list c.args.spans.now x c.loop-span.firsts.items in
    c.len.ensures ∙ c.loop-span.firsts.ok.0 ∙ sym (run_count-firsts c.args.floor c.args.list clock c.args.spans.now c.loop-span.firsts.items ends (subst P (take_all _ _ (omega arith)) c.loop-span.invariant))
