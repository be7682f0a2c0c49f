-- Where the entries of a kept chain are the old ones, it is the old chain.
use Rattle.std.proofs.Common.{◌≡◌, ℕ, ◌-◌, ◌<◌, ◌≤◌, Bool, true, false, leb, ltb, cond, inl, inr, List, [], ◌∷◌, Option, Some, None, refl, sym, ap, subst, ◌∙◌, arith}
use Rattle.std.specs.Prelude.{IfSome}
use Rattle.std.specs.List.{AllByRecursion}
use Rattle.std.proofs.lemmas.Bool.{cases_Bool, and_from, leb-false, lt-leb, lt-ltb, both_ways}
use Rattle.codec.specs.declared.inodes.Inode.{Inode}
use Rattle.codec.specs.Entry.{EntryFields, entry_rules}
use Rattle.undo_redo.specs.Runs.{Run, redone_all, entries_by}
use Rattle.chain_rewriting.specs.Cleaned.{Span, KeptChain, stays, chain_of, cleaned}
use Rattle.chain_rewriting.specs.Chains.{IsChain}
use Rattle.chain_rewriting.specs.CleaningLaws.{FitsSight, AKeptChainIsARun, AKeptChainHasSeenInodesAlone, AnUnchangedChainIsTheKeptOne}
use Rattle.chain_rewriting.proofs.Leading.{rules_of, kept_stays}
use Rattle.chain_rewriting.proofs.Grouped.{of_cleaned}
use Rattle.chain_rewriting.proofs.SeenPlaces.{Throughout}
use Rattle.chain_rewriting.specs.private.Resting.{Ends}

-- no entry is of moment 0
none_at_first : (entries : List EntryFields) → AllByRecursion (λ e. entry_rules e ≡ true) entries → entries_by 0 entries ≡ []
none_at_first [] h = refl
none_at_first (e ∷ entries) h =
    let rules = rules_of e h.0 in
    let one : 1 ≤ e.moment = rules.moment in
    let test : leb e.moment 0 ≡ false = lt-leb e.moment 0 (omega (arith, one)) in
    ap (λ b. cond b (e ∷ entries_by 0 entries) (entries_by 0 entries)) test ∙ none_at_first entries h.1

-- a moment up to which there is none is before the first
before_first : (u : ℕ) (e : EntryFields) (entries : List EntryFields) → entries_by u (e ∷ entries) ≡ [] → u < e.moment
before_first u e entries none = elim (cases_Bool (leb e.moment u)) [
  | inl by ↦ (let some : e ∷ entries_by u entries ≡ [] = sym (ap (λ b. cond b (e ∷ entries_by u entries) (entries_by u entries)) by) ∙ none in
      absurd (cc))
  | inr past ↦ leb-false e.moment u past
]

-- where each inode is seen, the first one is, before the first entry
first_stays : (visible : ℕ → Bool) (sees : ℕ → ℕ → Bool) (clock : ℕ) (e : EntryFields) (entries : List EntryFields) → FitsSight sees visible → AllByRecursion (λ f. entry_rules f ≡ true) (e ∷ entries) → Throughout visible clock (e ∷ entries) → stays sees 0 e.moment ≡ true
first_stays visible sees clock e entries fits rules seen =
    let there = seen 0 in
    let lt : there.0 < e.moment = before_first there.0 e entries (there.1.1.1 ∙ none_at_first (e ∷ entries) rules) in
    and_from (ltb 0 e.moment) (sees 0 (e.moment - 1)) (lt-ltb 0 e.moment (omega (arith, lt))) ((fits 0 (e.moment - 1)).1 (there.0, (omega arith, (omega (arith, lt), there.1.1.0))))

-- the first inode is the old one, where the entries are the old ones
abbrev Begins : Inode → List EntryFields → KeptChain → Type 0
Begins first entries chain = chain.entries ≡ entries → chain.first ≡ first

not_kept : (visible : ℕ → Bool) (clock : ℕ) (first : Inode) (entries : List EntryFields) (o : Option KeptChain) → (Throughout visible clock entries → ⊥) → IfSome o (λ chain. Throughout visible clock chain.entries) → IfSome o (Begins first entries)
not_kept visible clock first entries None never seen = tt
not_kept visible clock first entries (Some chain) never seen = λ same. absurd (never (subst (λ (es : List EntryFields). Throughout visible clock es) same seen))

kept_begins : AKeptChainHasSeenInodesAlone → (visible : ℕ → Bool) (sees : ℕ → ℕ → Bool) (created latest clock : ℕ) (first : Inode) (entries : List EntryFields) → FitsSight sees visible → visible clock ≡ true → latest ≤ clock → IsChain created latest first entries → IfSome (cleaned sees clock first entries) (Begins first entries)
kept_begins law visible sees created latest clock first [] fits now le h = of_cleaned (Begins first []) sees clock first [] (λ some same. refl)
kept_begins law visible sees created latest clock first (e ∷ entries) fits now le h = elim (cases_Bool (stays sees 0 e.moment)) [
  | inl is ↦ of_cleaned (Begins first (e ∷ entries)) sees clock first (e ∷ entries) (λ some.
      subst (λ (spans : List Span). IfSome (chain_of spans) (Begins first (e ∷ entries))) (sym (kept_stays sees clock first 0 e entries is)) (λ same. refl))
  | inr gone ↦ not_kept visible clock first (e ∷ entries) (cleaned sees clock first (e ∷ entries)) (λ seen. both_ways (stays sees 0 e.moment) gone (first_stays visible sees clock e entries fits h.rules seen)) (law visible sees created latest clock first (e ∷ entries) fits now le h)
]

some_unchanged : Ends → (first : Inode) (entries : List EntryFields) (o : Option KeptChain) → IfSome o (λ chain. Run chain.first chain.entries chain.last) → IfSome o (Begins first entries) → IfSome o (λ chain. chain.entries ≡ entries → (chain.first ≡ first) × (chain.last ≡ redone_all entries first))
some_unchanged ends first entries None run begins = tt
some_unchanged ends first entries (Some chain) run begins = λ same.
    (begins same, ends chain.first chain.last chain.entries run ∙ ap (λ (es : List EntryFields). redone_all es chain.first) same ∙ ap (redone_all entries) (begins same))

pub unchanged_is_kept : Ends → AKeptChainIsARun → AKeptChainHasSeenInodesAlone → AnUnchangedChainIsTheKeptOne
unchanged_is_kept ends run seen visible sees created latest clock first entries fits now le h =
    some_unchanged ends first entries (cleaned sees clock first entries) (run sees created latest clock first entries h) (kept_begins seen visible sees created latest clock first entries fits now le h)
