-- Where a live inode is kept, the old chain shows it at a visible moment.
use Rattle.std.proofs.Common.{◌≡◌, ℕ, ◌≤◌, Bool, Option, Some, None, refl, true, false, leb, inl, inr, List, ◌∷◌, [], sym, ap, ◌∙◌, arith}
use Rattle.std.proofs.lemmas.Bool.{cases_Bool, and_parts, or_cases, both_ways, leb-true, le-leb}
use Rattle.std.specs.Prelude.{IfSome}
use Rattle.codec.specs.declared.inodes.Inode.{Inode}
use Rattle.codec.specs.Entry.{EntryFields}
use Rattle.undo_redo.specs.Redone.{redone}
use Rattle.undo_redo.specs.Runs.{inode_after, moments_ascend_from}
use Rattle.chain_rewriting.specs.Cleaned.{Span, KeptChain, stays, kept, any_live, chain_of}
use Rattle.chain_rewriting.specs.CleaningLaws.{FitsSight, AKeptChainIsSeenAlive}
use Rattle.chain_rewriting.proofs.Leading.{kept_stays, kept_goes}
use Rattle.chain_rewriting.proofs.Showing.{chain_still, goes_on}
use Rattle.chain_rewriting.proofs.Seen.{By, seen_there, by_clock}
use Rattle.chain_rewriting.proofs.Grouped.{of_cleaned}
use Rattle.chain_rewriting.specs.private.Resting.{Facts}

-- a chain shows a live inode at a visible moment, from one on
abbrev Lives : (ℕ → Bool) → Inode → ℕ → List EntryFields → Type 0
Lives visible i from entries = (u : ℕ) × ((from ≤ u) × ((visible u ≡ true) × ((inode_after i entries u).alive ≡ true)))

lives_behind : (visible : ℕ → Bool) (i : Inode) (from : ℕ) (e : EntryFields) (entries : List EntryFields) → from ≤ e.moment → Lives visible (redone e i) e.moment entries → Lives visible i from (e ∷ entries)
lives_behind visible i from e entries le h =
    let high : e.moment ≤ h.0 = h.1.0 in
    (h.0, (omega (arith, le, high), (h.1.1.0, ap (λ (j : Inode). j.alive) (goes_on i e entries h.0 (le-leb e.moment h.0 high)) ∙ h.1.1.1)))

lives : Facts → (sees : ℕ → ℕ → Bool) (visible : ℕ → Bool) (clock : ℕ) → FitsSight sees visible → visible clock ≡ true → (i : Inode) (from : ℕ) (entries : List EntryFields) → from ≤ clock → moments_ascend_from from entries ≡ true → By clock entries → any_live (kept sees clock i from entries) ≡ true → Lives visible i from entries
lives f sees visible clock fits now i from [] le up by live = elim (or_cases i.alive false live) [
  | inl alive ↦ (clock, (le, (now, alive)))
  | inr none ↦ absurd (both_ways false refl none)
]
lives f sees visible clock fits now i from (e ∷ entries) le up by live =
    let parts = and_parts (leb from e.moment) (moments_ascend_from e.moment entries) up in
    let behind : List Span = kept sees clock (redone e i) e.moment entries in
    let later = λ (alive : any_live behind ≡ true). lives_behind visible i from e entries (leb-true from e.moment parts.0) (lives f sees visible clock fits now (redone e i) e.moment entries by.0 parts.1 by.1 alive) in
    elim (cases_Bool (stays sees from e.moment)) [
      | inl is ↦ elim (or_cases i.alive (any_live behind) (sym (ap any_live (kept_stays sees clock i from e entries is)) ∙ live)) [
        | inl alive ↦ (let v = seen_there visible sees from e.moment fits is in
            (v.0, (v.1.0, (v.1.1.1, ap (λ (j : Inode). j.alive) (chain_still f i e entries v.0 v.1.1.0 parts.1) ∙ alive))))
        | inr alive ↦ later alive
      ]
      | inr gone ↦ later (sym (ap any_live (kept_goes sees clock i from e entries gone)) ∙ live)
    ]

some_if : (P : Type 0) (o : Option KeptChain) → P → IfSome o (λ chain. P)
some_if P None p = tt
some_if P (Some chain) p = p

pub cleaned_lives : Facts → AKeptChainIsSeenAlive
cleaned_lives f sees visible created latest clock first entries fits now le h =
    let P : Type 0 = (u : ℕ) × ((visible u ≡ true) × ((inode_after first entries u).alive ≡ true)) in
    of_cleaned (λ chain. P) sees clock first entries (λ live.
    (let there = lives f sees visible clock fits now first 0 entries (omega arith) (f.ascend entries h.groups) (by_clock created latest clock entries le h.order.moments) live in
    some_if P (chain_of (kept sees clock first 0 entries)) (there.0, there.1.1)))
