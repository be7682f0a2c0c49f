-- The moments of a kept chain's entries are moments of the old ones.
use Rattle.std.proofs.Common.{◌≡◌, ℕ, Bool, true, inl, inr, List, [], ◌∷◌, ◌++◌, Option, None, sym, ap, subst, ◌∙◌}
use Rattle.std.specs.Prelude.{◌||◌, IfSome}
use Rattle.std.specs.List.{AllByRecursion}
use Rattle.std.proofs.lemmas.Bool.{cases_Bool, cond-true, cond-false}
use Rattle.codec.specs.declared.inodes.Inode.{Inode}
use Rattle.codec.specs.Entry.{EntryFields}
use Rattle.undo_redo.specs.Redone.{redone}
use Rattle.undo_redo.specs.Runs.{AllAt}
use Rattle.undo_redo.specs.Between.{entries_between}
use Rattle.chain_rewriting.specs.Cleaned.{Span, KeptChain, stays, kept, any_live, led, step, entries_over, chain_of}
use Rattle.chain_rewriting.specs.CleaningLaws.{AKeptChainHasOldMoments}
use Rattle.chain_rewriting.proofs.Leading.{kept_stays, kept_goes}
use Rattle.chain_rewriting.specs.private.Resting.{AllOfOne}

abbrev pub Within : (ℕ → Bool) → List EntryFields → Type 0
Within within entries = AllByRecursion (λ e. within e.moment ≡ true) entries

abbrev pub SpansWithin : (ℕ → Bool) → List Span → Type 0
SpansWithin within spans = AllByRecursion (λ s. within s.from ≡ true) spans

at_within : (within : ℕ → Bool) (m : ℕ) (entries : List EntryFields) → within m ≡ true → AllAt m entries → Within within entries
at_within within m [] h at = tt
at_within within m (e ∷ entries) h at = (ap within at.0 ∙ h, at_within within m entries h at.1)

join_within : (within : ℕ → Bool) (front back : List EntryFields) → Within within front → Within within back → Within within (front ++ back)
join_within within [] back h k = k
join_within within (e ∷ front) back h k = (h.0, join_within within front back h.1 k)

pub step_within : AllOfOne → (within : ℕ → Bool) (p : Inode) (s : Span) → within s.from ≡ true → Within within (step p s)
step_within one within p s h = elim (cases_Bool (p.alive || s.inode.alive)) [
  | inl is ↦ subst (λ (es : List EntryFields). Within within es) (sym (cond-true (p.alive || s.inode.alive) (entries_between p (led p s.inode) s.from) [] is)) (at_within within s.from (entries_between p (led p s.inode) s.from) h (one p (led p s.inode) s.from))
  | inr none ↦ subst (λ (es : List EntryFields). Within within es) (sym (cond-false (p.alive || s.inode.alive) (entries_between p (led p s.inode) s.from) [] none)) tt
]

pub over_within : AllOfOne → (within : ℕ → Bool) (p : Inode) (spans : List Span) → SpansWithin within spans → Within within (entries_over p spans)
over_within one within p [] h = tt
over_within one within p (s ∷ spans) h = join_within within (step p s) (entries_over (led p s.inode) spans) (step_within one within p s h.0) (over_within one within (led p s.inode) spans h.1)

pub kept_within : (within : ℕ → Bool) (sees : ℕ → ℕ → Bool) (clock : ℕ) (i : Inode) (from : ℕ) (entries : List EntryFields) → within from ≡ true → Within within entries → SpansWithin within (kept sees clock i from entries)
kept_within within sees clock i from [] f h = (f, tt)
kept_within within sees clock i from (e ∷ entries) f h = elim (cases_Bool (stays sees from e.moment)) [
  | inl is ↦ subst (λ (spans : List Span). SpansWithin within spans) (sym (kept_stays sees clock i from e entries is)) (f, kept_within within sees clock (redone e i) e.moment entries h.0 h.1)
  | inr gone ↦ subst (λ (spans : List Span). SpansWithin within spans) (sym (kept_goes sees clock i from e entries gone)) (kept_within within sees clock (redone e i) e.moment entries h.0 h.1)
]

abbrev ChainWithin : (ℕ → Bool) → Option KeptChain → Type 0
ChainWithin within o = IfSome o (λ chain. Within within chain.entries)

chain_within : AllOfOne → (within : ℕ → Bool) (sees : ℕ → ℕ → Bool) (clock : ℕ) (i : Inode) (from : ℕ) (entries : List EntryFields) → Within within entries → ChainWithin within (chain_of (kept sees clock i from entries))
chain_within one within sees clock i from [] h = tt
chain_within one within sees clock i from (e ∷ entries) h = elim (cases_Bool (stays sees from e.moment)) [
  | inl is ↦ subst (λ (spans : List Span). ChainWithin within (chain_of spans)) (sym (kept_stays sees clock i from e entries is)) (over_within one within i (kept sees clock (redone e i) e.moment entries) (kept_within within sees clock (redone e i) e.moment entries h.0 h.1))
  | inr gone ↦ subst (λ (spans : List Span). ChainWithin within (chain_of spans)) (sym (kept_goes sees clock i from e entries gone)) (chain_within one within sees clock (redone e i) e.moment entries h.1)
]

pub cleaned_within : AllOfOne → AKeptChainHasOldMoments
cleaned_within one within sees clock first entries h =
    let spans : List Span = kept sees clock first 0 entries in
    elim (cases_Bool (any_live spans)) [
      | inl some ↦ subst (λ (o : Option KeptChain). ChainWithin within o) (sym (cond-true (any_live spans) (chain_of spans) None some)) (chain_within one within sees clock first 0 entries h)
      | inr none ↦ subst (λ (o : Option KeptChain). ChainWithin within o) (sym (cond-false (any_live spans) (chain_of spans) None none)) tt
    ]
