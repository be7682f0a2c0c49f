-- The entries of a kept chain lead from its first inode to its last.
use Rattle.std.proofs.Common.{◌≡◌, ℕ, Bool, inl, inr, List, [], ◌∷◌, ◌++◌, Option, None, refl, sym, ap, subst, ◌∙◌}
use Rattle.std.specs.Prelude.{◌||◌, IfSome}
use Rattle.std.proofs.lemmas.Bool.{cases_Bool, or_parts, cond-true, cond-false}
use Rattle.codec.specs.declared.inodes.Inode.{Inode}
use Rattle.codec.specs.Entry.{EntryFields}
use Rattle.undo_redo.specs.Runs.{Run}
use Rattle.undo_redo.specs.Between.{CanLead, entries_between}
use Rattle.chain_rewriting.specs.Cleaned.{Span, KeptChain, kept, any_live, led, step, entries_over, end_over, chain_of}
use Rattle.chain_rewriting.specs.CleaningLaws.{AKeptChainIsARun}
use Rattle.chain_rewriting.specs.private.Leading.{MayLead, AllLead, LeadsOn}
use Rattle.chain_rewriting.proofs.Leading.{led_dead, chain_leads}
use Rattle.chain_rewriting.specs.private.Resting.{BetweenRuns, Redoes}

abbrev pub RunsJoin : Type 0
RunsJoin = (i j k : Inode) (front back : List EntryFields) → Run i front j → Run j back k → Run i (front ++ back) k

pub step_run : BetweenRuns → (p : Inode) (s : Span) → MayLead p s → Run p (step p s) (led p s.inode)
step_run between p s may = elim (cases_Bool (p.alive || s.inode.alive)) [
  | inl one ↦ subst (λ (es : List EntryFields). Run p es (led p s.inode)) (sym (cond-true (p.alive || s.inode.alive) (entries_between p (led p s.inode) s.from) [] one)) (between p (led p s.inode) s.from (may one))
  | inr none ↦ (let parts = or_parts p.alive s.inode.alive none in
      let same : p ≡ led p s.inode = ap (λ (b : Bool). record p { alive = b }) parts.0 ∙ sym (led_dead p s.inode parts.1) in
      subst (λ (es : List EntryFields). Run p es (led p s.inode)) (sym (cond-false (p.alive || s.inode.alive) (entries_between p (led p s.inode) s.from) [] none)) same)
]

pub run_over : BetweenRuns → RunsJoin → (p : Inode) (spans : List Span) → AllLead p spans → Run p (entries_over p spans) (end_over p spans)
run_over between join p [] h = refl
run_over between join p (s ∷ spans) h = join p (led p s.inode) (end_over (led p s.inode) spans) (step p s) (entries_over (led p s.inode) spans) (step_run between p s h.0) (run_over between join (led p s.inode) spans h.1)

chain_run : BetweenRuns → RunsJoin → (spans : List Span) → LeadsOn None spans → IfSome (chain_of spans) (λ chain. Run chain.first chain.entries chain.last)
chain_run between join [] h = tt
chain_run between join (s ∷ spans) h = run_over between join s.inode spans h

pub cleaned_run : Redoes → BetweenRuns → RunsJoin → AKeptChainIsARun
cleaned_run redoes between join sees created latest clock first entries h =
    let spans : List Span = kept sees clock first 0 entries in
    elim (cases_Bool (any_live spans)) [
      | inl some ↦ subst (λ (o : Option KeptChain). IfSome o (λ chain. Run chain.first chain.entries chain.last)) (sym (cond-true (any_live spans) (chain_of spans) None some)) (chain_run between join spans (chain_leads redoes created latest clock sees first entries h))
      | inr none ↦ subst (λ (o : Option KeptChain). IfSome o (λ chain. Run chain.first chain.entries chain.last)) (sym (cond-false (any_live spans) (chain_of spans) None none)) tt
    ]
