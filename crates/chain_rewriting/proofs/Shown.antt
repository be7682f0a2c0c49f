-- What holds of each inode that a chain shows holds of each that its kept chain shows.
use Rattle.std.proofs.Common.{◌≡◌, ℕ, ◌-◌, ◌<◌, ◌≤◌, Bool, true, false, leb, inl, inr, List, [], ◌∷◌, Option, None, refl, sym, subst, arith}
use Rattle.std.specs.Prelude.{nat_lt, IfSome}
use Rattle.std.specs.List.{AllByRecursion}
use Rattle.std.proofs.lemmas.Bool.{cases_Bool, cases_lt, and_parts, leb-true, le-leb, ltb-true}
use Rattle.codec.specs.declared.inodes.Inode.{Inode}
use Rattle.codec.specs.Entry.{EntryFields}
use Rattle.undo_redo.specs.Redone.{redone}
use Rattle.undo_redo.specs.Runs.{inode_after, moments_ascend_from}
use Rattle.chain_rewriting.specs.Cleaned.{Span, KeptChain, span_of, stays, kept, led, entries_over, chain_of}
use Rattle.chain_rewriting.specs.CleaningLaws.{IsOneShown, AKeptChainShowsOldInodes}
use Rattle.chain_rewriting.specs.private.Leading.{AllLead, LeadsOn}
use Rattle.chain_rewriting.proofs.Leading.{led_live, led_dead, kept_stays, kept_goes, chain_leads}
use Rattle.chain_rewriting.proofs.Showing.{chain_still, over_still, goes_on, over_first}
use Rattle.chain_rewriting.proofs.Grouped.{of_cleaned}
use Rattle.chain_rewriting.specs.private.Resting.{Facts}

-- each inode that a chain shows from a moment on is such a one
abbrev Shows : (Inode → Type 0) → Inode → ℕ → List EntryFields → Type 0
Shows P i from entries = (u : ℕ) → from ≤ u → P (inode_after i entries u)

-- an inode that stays is shown
shown_first : Facts → (P : Inode → Type 0) (sees : ℕ → ℕ → Bool) (i : Inode) (from : ℕ) (e : EntryFields) (entries : List EntryFields) → stays sees from e.moment ≡ true → moments_ascend_from e.moment entries ≡ true → Shows P i from (e ∷ entries) → P i
shown_first f P sees i from e entries is up h =
    let lt : from < e.moment = ltb-true from e.moment (and_parts (nat_lt from e.moment) (sees from (e.moment - 1)) is).0 in
    subst P (chain_still f i e entries from lt up) (h from (omega arith))

shown_next : (P : Inode → Type 0) (i : Inode) (from : ℕ) (e : EntryFields) (entries : List EntryFields) → from ≤ e.moment → Shows P i from (e ∷ entries) → Shows P (redone e i) e.moment entries
shown_next P i from e entries low h u le = subst P (goes_on i e entries u (le-leb e.moment u le)) (h u (omega (arith, low, le)))

-- what holds of each inode that a chain shows holds of each kept one
pub kept_each : Facts → (P : Inode → Type 0) (sees : ℕ → ℕ → Bool) (clock : ℕ) (i : Inode) (from : ℕ) (entries : List EntryFields) → moments_ascend_from from entries ≡ true → ((u : ℕ) → from ≤ u → P (inode_after i entries u)) → AllByRecursion (λ s. P s.inode) (kept sees clock i from entries)
kept_each f P sees clock i from [] up h = (h from (omega arith), tt)
kept_each f P sees clock i from (e ∷ entries) up h =
    let parts = and_parts (leb from e.moment) (moments_ascend_from e.moment entries) up in
    let rest : AllByRecursion (λ s. P s.inode) (kept sees clock (redone e i) e.moment entries) = kept_each f P sees clock (redone e i) e.moment entries parts.1 (shown_next P i from e entries (leb-true from e.moment parts.0) h) in
    elim (cases_Bool (stays sees from e.moment)) [
      | inl is ↦ subst (λ (spans : List Span). AllByRecursion (λ s. P s.inode) spans) (sym (kept_stays sees clock i from e entries is)) (shown_first f P sees i from e entries is parts.1 h, rest)
      | inr gone ↦ subst (λ (spans : List Span). AllByRecursion (λ s. P s.inode) spans) (sym (kept_goes sees clock i from e entries gone)) rest
    ]

-- it holds of an inode with its flag off
abbrev Darkens : (Inode → Type 0) → Type 0
Darkens P = (p : Inode) → P p → P (record p { alive = false })

led_holds : (P : Inode → Type 0) → Darkens P → (p i : Inode) → P p → P i → P (led p i)
led_holds P dark p i hp hi = elim (cases_Bool i.alive) [
  | inl live ↦ subst P (sym (led_live p i live)) hi
  | inr dead ↦ subst P (sym (led_dead p i dead)) (dark p hp)
]

-- after a kept inode
over_holds : Facts → (P : Inode → Type 0) → Darkens P → (sees : ℕ → ℕ → Bool) (clock t : ℕ) (p i : Inode) (from : ℕ) (entries : List EntryFields) → P p → Shows P i from entries → moments_ascend_from from entries ≡ true → AllLead p (kept sees clock i from entries) → P (inode_after p (entries_over p (kept sees clock i from entries)) t)
over_holds f P dark sees clock t p i from [] hp h up leads = elim (cases_lt t from) [
  | inl lt ↦ subst P (sym (over_still f sees clock t p i from [] lt up)) hp
  | inr le ↦ subst P (sym (over_first f p (span_of i from clock) [] t le leads.0)) (led_holds P dark p i hp (h from (omega arith)))
]
over_holds f P dark sees clock t p i from (e ∷ entries) hp h up leads =
    let parts = and_parts (leb from e.moment) (moments_ascend_from e.moment entries) up in
    let next : Inode = redone e i in
    let behind : List Span = kept sees clock next e.moment entries in
    let later : Shows P next e.moment entries = shown_next P i from e entries (leb-true from e.moment parts.0) h in
    elim (cases_lt t from) [
      | inl lt ↦ subst P (sym (over_still f sees clock t p i from (e ∷ entries) lt up)) hp
      | inr le ↦ elim (cases_Bool (stays sees from e.moment)) [
        | inl is ↦ (let spans : kept sees clock i from (e ∷ entries) ≡ span_of i from (e.moment - 1) ∷ behind = kept_stays sees clock i from e entries is in
            let on : AllLead p (span_of i from (e.moment - 1) ∷ behind) = subst (λ (ss : List Span). AllLead p ss) spans leads in
            subst (λ (ss : List Span). P (inode_after p (entries_over p ss) t)) (sym spans) (subst P (sym (over_first f p (span_of i from (e.moment - 1)) behind t le on.0))
            (over_holds f P dark sees clock t (led p i) next e.moment entries (led_holds P dark p i hp (shown_first f P sees i from e entries is parts.1 h)) later parts.1 on.1)))
        | inr gone ↦ (let spans : kept sees clock i from (e ∷ entries) ≡ behind = kept_goes sees clock i from e entries gone in
            subst (λ (ss : List Span). P (inode_after p (entries_over p ss) t)) (sym spans) (over_holds f P dark sees clock t p next e.moment entries hp later parts.1 (subst (λ (ss : List Span). AllLead p ss) spans leads)))
      ]
    ]

-- the whole chain
abbrev ChainHolds : (Inode → Type 0) → ℕ → Option KeptChain → Type 0
ChainHolds P t o = IfSome o (λ chain. P (inode_after chain.first chain.entries t))

chain_holds : Facts → (P : Inode → Type 0) → Darkens P → (sees : ℕ → ℕ → Bool) (clock t : ℕ) (i : Inode) (from : ℕ) (entries : List EntryFields) → Shows P i from entries → moments_ascend_from from entries ≡ true → LeadsOn None (kept sees clock i from entries) → ChainHolds P t (chain_of (kept sees clock i from entries))
chain_holds f P dark sees clock t i from [] h up leads = h from (omega arith)
chain_holds f P dark sees clock t i from (e ∷ entries) h up leads =
    let parts = and_parts (leb from e.moment) (moments_ascend_from e.moment entries) up in
    let next : Inode = redone e i in
    let behind : List Span = kept sees clock next e.moment entries in
    let later : Shows P next e.moment entries = shown_next P i from e entries (leb-true from e.moment parts.0) h in
    elim (cases_Bool (stays sees from e.moment)) [
      | inl is ↦ (let spans : kept sees clock i from (e ∷ entries) ≡ span_of i from (e.moment - 1) ∷ behind = kept_stays sees clock i from e entries is in
          let on : AllLead i behind = subst (λ (ss : List Span). LeadsOn None ss) spans leads in
          subst (λ (ss : List Span). ChainHolds P t (chain_of ss)) (sym spans) (over_holds f P dark sees clock t i next e.moment entries (shown_first f P sees i from e entries is parts.1 h) later parts.1 on))
      | inr gone ↦ (let spans : kept sees clock i from (e ∷ entries) ≡ behind = kept_goes sees clock i from e entries gone in
          subst (λ (ss : List Span). ChainHolds P t (chain_of ss)) (sym spans) (chain_holds f P dark sees clock t next e.moment entries later parts.1 (subst (λ (ss : List Span). LeadsOn None ss) spans leads)))
    ]

darkens : (first : Inode) (entries : List EntryFields) → Darkens (IsOneShown first entries)
darkens first entries p h = elim h.1 [
  | inl is ↦ (h.0, inr (subst (λ (i : Inode). record p { alive = false } ≡ record i { alive = false }) is refl))
  | inr dark ↦ (h.0, inr (subst (λ (i : Inode). record i { alive = false } ≡ record (inode_after first entries h.0) { alive = false }) (sym dark) refl))
]

pub cleaned_shown : Facts → AKeptChainShowsOldInodes
cleaned_shown f sees created latest clock t first entries h =
    let P : Inode → Type 0 = IsOneShown first entries in
    of_cleaned (λ chain. P (inode_after chain.first chain.entries t)) sees clock first entries (λ some.
    chain_holds f P (darkens first entries) sees clock t first 0 entries (λ u low. (u, inl refl)) (f.ascend entries h.groups) (chain_leads f.redoes created latest clock sees first entries h))
