-- What is kept of a chain shows at each visible moment what the chain shows.
use Rattle.std.proofs.Common.{◌≡◌, ℕ, ◌-◌, ◌<◌, ◌≤◌, ◌&&◌, Bool, true, false, leb, cond, inl, inr, List, [], ◌∷◌, ◌++◌, Option, None, refl, sym, ap, subst, ◌∙◌, arith}
use Rattle.std.specs.Prelude.{not, IfSome}
use Rattle.std.proofs.lemmas.Bool.{cases_Bool, and_parts, or_parts, leb-true, leb-false, le-leb, lt-leb, lt-ltb, cond-true, cond-false, both_ways, not-true}
use Rattle.codec.specs.declared.inodes.Inode.{Inode}
use Rattle.codec.specs.Entry.{EntryFields}
use Rattle.undo_redo.specs.Redone.{redone}
use Rattle.undo_redo.specs.Runs.{Run, redone_all, inode_after, entries_by, AllBy, AllPast, moments_ascend_from}
use Rattle.chain_rewriting.specs.Cleaned.{Span, KeptChain, span_of, stays, kept, any_live, led, step, entries_over, chain_of}
use Rattle.chain_rewriting.specs.CleaningLaws.{FitsSight, ShowsAlike, AKeptChainShowsTheSame, NoKeptChainShowsNothing}
use Rattle.chain_rewriting.specs.private.Leading.{MayLead, AllLead, LeadsOn}
use Rattle.chain_rewriting.proofs.Leading.{led_live, led_dead, kept_stays, kept_goes, chain_leads}
use Rattle.chain_rewriting.proofs.Moments.{Within, step_within, over_within, kept_within}
use Rattle.chain_rewriting.proofs.Runs.{step_run}
use Rattle.chain_rewriting.specs.private.Resting.{AllOfOne, BetweenRuns, Facts, GroupsAscend, Redoes}

led_alike : (p i : Inode) → ShowsAlike i (led p i)
led_alike p i = elim (cases_Bool i.alive) [
  | inl live ↦ inl (sym (led_live p i live))
  | inr dead ↦ inr (dead, ap (λ (j : Inode). j.alive) (led_dead p i dead))
]

-- ---- what is past

-- a moment is later than t
abbrev is_past : ℕ → ℕ → Bool
is_past t m = not (leb m t)

past_is : (t m : ℕ) → t < m → is_past t m ≡ true
past_is t m lt = ap not (lt-leb m t lt)

past_of : (t : ℕ) (entries : List EntryFields) → Within (is_past t) entries → AllPast t entries
past_of t [] h = tt
past_of t (e ∷ entries) h = (not-true (leb e.moment t) h.0, past_of t entries h.1)

ascend_within : (low t : ℕ) (entries : List EntryFields) → t < low → moments_ascend_from low entries ≡ true → Within (is_past t) entries
ascend_within low t [] lt up = tt
ascend_within low t (e ∷ entries) lt up =
    let parts = and_parts (leb low e.moment) (moments_ascend_from e.moment entries) up in
    let le : low ≤ e.moment = leb-true low e.moment parts.0 in
    let behind : t < e.moment = omega (arith, lt, le) in
    (past_is t e.moment behind, ascend_within e.moment t entries behind parts.1)

-- where all is past nothing is done
still : Facts → (i : Inode) (entries : List EntryFields) (t : ℕ) → AllPast t entries → inode_after i entries t ≡ i
still f i entries t past = f.later i [] entries t past

-- the entries after an inode are past where the next one is
pub chain_still : Facts → (i : Inode) (e : EntryFields) (entries : List EntryFields) (t : ℕ) → t < e.moment → moments_ascend_from e.moment entries ≡ true → inode_after i (e ∷ entries) t ≡ i
chain_still f i e entries t lt up = still f i (e ∷ entries) t (past_of t (e ∷ entries) (past_is t e.moment lt, ascend_within e.moment t entries lt up))

-- so are the entries over all that is kept after it
pub over_still : Facts → (sees : ℕ → ℕ → Bool) (clock t : ℕ) (p i : Inode) (from : ℕ) (entries : List EntryFields) → t < from → moments_ascend_from from entries ≡ true → inode_after p (entries_over p (kept sees clock i from entries)) t ≡ p
over_still f sees clock t p i from entries lt up =
    let spans : List Span = kept sees clock i from entries in
    still f p (entries_over p spans) t (past_of t (entries_over p spans) (over_within f.one (is_past t) p spans (kept_within (is_past t) sees clock i from entries (past_is t from lt) (ascend_within from t entries lt up))))

-- ---- what is done

-- an entry that is not past is done
pub goes_on : (i : Inode) (e : EntryFields) (entries : List EntryFields) (t : ℕ) → leb e.moment t ≡ true → inode_after i (e ∷ entries) t ≡ inode_after (redone e i) entries t
goes_on i e entries t by = ap (λ (b : Bool). redone_all (cond b (e ∷ entries_by t entries) (entries_by t entries)) i) by

step_done : Facts → (p : Inode) (s : Span) (t : ℕ) → s.from ≤ t → MayLead p s → inode_after p (step p s) t ≡ led p s.inode
step_done f p s t le may =
    f.done p (step p s) t (step_within f.one (λ (m : ℕ). leb m t) p s (le-leb s.from t le)) ∙ sym (f.ends p (led p s.inode) (step p s) (step_run f.between p s may))

pub over_first : Facts → (p : Inode) (s : Span) (spans : List Span) (t : ℕ) → s.from ≤ t → MayLead p s → inode_after p (entries_over p (s ∷ spans)) t ≡ inode_after (led p s.inode) (entries_over (led p s.inode) spans) t
over_first f p s spans t le may =
    let rest : List EntryFields = entries_over (led p s.inode) spans in
    f.joined p (step p s) rest t ∙ ap (λ (j : Inode). inode_after j rest t) (step_done f p s t le may)

-- an inode stays that is current at a visible moment
stays_seen : (sees : ℕ → ℕ → Bool) (visible : ℕ → Bool) (t from next : ℕ) → FitsSight sees visible → visible t ≡ true → from ≤ t → t < next → stays sees from next ≡ true
stays_seen sees visible t from next fits seen le lt =
    let up : from < next = omega (arith, le, lt) in
    let last : t ≤ next - 1 = omega (arith, lt) in
    ap (λ (b : Bool). b && sees from (next - 1)) (lt-ltb from next up) ∙ (fits from (next - 1)).1 (t, (le, (last, seen)))

-- ---- after a kept inode

-- what is kept after it shows the same, from the first of these on
over_alike : Facts → (sees : ℕ → ℕ → Bool) (visible : ℕ → Bool) (clock t : ℕ) → FitsSight sees visible → visible t ≡ true → (p i : Inode) (from : ℕ) (entries : List EntryFields) → from ≤ t → moments_ascend_from from entries ≡ true → AllLead p (kept sees clock i from entries) → ShowsAlike (inode_after i entries t) (inode_after p (entries_over p (kept sees clock i from entries)) t)
over_alike f sees visible clock t fits seen p i from [] le up leads =
    subst (λ (j : Inode). ShowsAlike i j) (sym (over_first f p (span_of i from clock) [] t le leads.0)) (led_alike p i)
over_alike f sees visible clock t fits seen p i from (e ∷ entries) le up leads =
    let parts = and_parts (leb from e.moment) (moments_ascend_from e.moment entries) up in
    let s : Span = span_of i from (e.moment - 1) in
    let next : Inode = redone e i in
    let behind : List Span = kept sees clock next e.moment entries in
    elim (cases_Bool (stays sees from e.moment)) [
      | inl is ↦ (let spans : kept sees clock i from (e ∷ entries) ≡ s ∷ behind = kept_stays sees clock i from e entries is in
          let on : AllLead p (s ∷ behind) = subst (λ (ss : List Span). AllLead p ss) spans leads in
          let shown = over_first f p s behind t le on.0 in
          let same : inode_after p (entries_over p (kept sees clock i from (e ∷ entries))) t ≡ inode_after (led p i) (entries_over (led p i) behind) t = ap (λ (ss : List Span). inode_after p (entries_over p ss) t) spans ∙ shown in
          elim (cases_Bool (leb e.moment t)) [
            | inl by ↦ subst (λ (j : Inode). ShowsAlike j (inode_after p (entries_over p (kept sees clock i from (e ∷ entries))) t)) (sym (goes_on i e entries t by)) (subst (λ (j : Inode). ShowsAlike (inode_after next entries t) j) (sym same) (over_alike f sees visible clock t fits seen (led p i) next e.moment entries (leb-true e.moment t by) parts.1 on.1))
            | inr past ↦ (let lt : t < e.moment = leb-false e.moment t past in
                subst (λ (j : Inode). ShowsAlike j (inode_after p (entries_over p (kept sees clock i from (e ∷ entries))) t)) (sym (chain_still f i e entries t lt parts.1)) (subst (λ (j : Inode). ShowsAlike i j) (sym (same ∙ over_still f sees clock t (led p i) next e.moment entries lt parts.1)) (led_alike p i)))
          ])
      | inr gone ↦ (let spans : kept sees clock i from (e ∷ entries) ≡ behind = kept_goes sees clock i from e entries gone in
          elim (cases_Bool (leb e.moment t)) [
            | inl by ↦ subst (λ (j : Inode). ShowsAlike j (inode_after p (entries_over p (kept sees clock i from (e ∷ entries))) t)) (sym (goes_on i e entries t by)) (subst (λ (ss : List Span). ShowsAlike (inode_after next entries t) (inode_after p (entries_over p ss) t)) (sym spans) (over_alike f sees visible clock t fits seen p next e.moment entries (leb-true e.moment t by) parts.1 (subst (λ (ss : List Span). AllLead p ss) spans leads)))
            | inr past ↦ absurd (both_ways (stays sees from e.moment) gone (stays_seen sees visible t from e.moment fits seen le (leb-false e.moment t past)))
          ])
    ]

-- ---- the whole chain

abbrev ChainAlike : Inode → ℕ → Option KeptChain → Type 0
ChainAlike i t o = IfSome o (λ chain. ShowsAlike i (inode_after chain.first chain.entries t))

chain_alike : Facts → (sees : ℕ → ℕ → Bool) (visible : ℕ → Bool) (clock t : ℕ) → FitsSight sees visible → visible t ≡ true → (i : Inode) (from : ℕ) (entries : List EntryFields) → from ≤ t → moments_ascend_from from entries ≡ true → LeadsOn None (kept sees clock i from entries) → ChainAlike (inode_after i entries t) t (chain_of (kept sees clock i from entries))
chain_alike f sees visible clock t fits seen i from [] le up leads = inl refl
chain_alike f sees visible clock t fits seen i from (e ∷ entries) le up leads =
    let parts = and_parts (leb from e.moment) (moments_ascend_from e.moment entries) up in
    let s : Span = span_of i from (e.moment - 1) in
    let next : Inode = redone e i in
    let behind : List Span = kept sees clock next e.moment entries in
    elim (cases_Bool (stays sees from e.moment)) [
      | inl is ↦ (let spans : kept sees clock i from (e ∷ entries) ≡ s ∷ behind = kept_stays sees clock i from e entries is in
          let on : AllLead i behind = subst (λ (ss : List Span). LeadsOn None ss) spans leads in
          subst (λ (ss : List Span). ChainAlike (inode_after i (e ∷ entries) t) t (chain_of ss)) (sym spans) (elim (cases_Bool (leb e.moment t)) [
            | inl by ↦ subst (λ (j : Inode). ShowsAlike j (inode_after i (entries_over i behind) t)) (sym (goes_on i e entries t by)) (over_alike f sees visible clock t fits seen i next e.moment entries (leb-true e.moment t by) parts.1 on)
            | inr past ↦ (let lt : t < e.moment = leb-false e.moment t past in
                inl (chain_still f i e entries t lt parts.1 ∙ sym (over_still f sees clock t i next e.moment entries lt parts.1)))
          ]))
      | inr gone ↦ (let spans : kept sees clock i from (e ∷ entries) ≡ behind = kept_goes sees clock i from e entries gone in
          elim (cases_Bool (leb e.moment t)) [
            | inl by ↦ subst (λ (j : Inode). ChainAlike j t (chain_of (kept sees clock i from (e ∷ entries)))) (sym (goes_on i e entries t by)) (subst (λ (ss : List Span). ChainAlike (inode_after next entries t) t (chain_of ss)) (sym spans) (chain_alike f sees visible clock t fits seen next e.moment entries (leb-true e.moment t by) parts.1 (subst (λ (ss : List Span). LeadsOn None ss) spans leads)))
            | inr past ↦ absurd (both_ways (stays sees from e.moment) gone (stays_seen sees visible t from e.moment fits seen le (leb-false e.moment t past)))
          ])
    ]

pub cleaned_alike : Facts → AKeptChainShowsTheSame
cleaned_alike f sees visible created latest clock t first entries h fits seen =
    let spans : List Span = kept sees clock first 0 entries in
    let shown : Inode = inode_after first entries t in
    elim (cases_Bool (any_live spans)) [
      | inl some ↦ subst (λ (o : Option KeptChain). ChainAlike shown t o) (sym (cond-true (any_live spans) (chain_of spans) None some)) (chain_alike f sees visible clock t fits seen first 0 entries (omega arith) (f.ascend entries h.groups) (chain_leads f.redoes created latest clock sees first entries h))
      | inr none ↦ subst (λ (o : Option KeptChain). ChainAlike shown t o) (sym (cond-false (any_live spans) (chain_of spans) None none)) tt
    ]

-- ---- where nothing live is kept

shows_dead : Facts → (sees : ℕ → ℕ → Bool) (visible : ℕ → Bool) (clock t : ℕ) → FitsSight sees visible → visible t ≡ true → (i : Inode) (from : ℕ) (entries : List EntryFields) → from ≤ t → moments_ascend_from from entries ≡ true → any_live (kept sees clock i from entries) ≡ false → (inode_after i entries t).alive ≡ false
shows_dead f sees visible clock t fits seen i from [] le up none = (or_parts i.alive false none).0
shows_dead f sees visible clock t fits seen i from (e ∷ entries) le up none =
    let parts = and_parts (leb from e.moment) (moments_ascend_from e.moment entries) up in
    let next : Inode = redone e i in
    let behind : List Span = kept sees clock next e.moment entries in
    let done = λ (by : leb e.moment t ≡ true) (dead : any_live behind ≡ false). ap (λ (j : Inode). j.alive) (goes_on i e entries t by) ∙ shows_dead f sees visible clock t fits seen next e.moment entries (leb-true e.moment t by) parts.1 dead in
    elim (cases_Bool (stays sees from e.moment)) [
      | inl is ↦ (let both = or_parts i.alive (any_live behind) (sym (ap any_live (kept_stays sees clock i from e entries is)) ∙ none) in
          elim (cases_Bool (leb e.moment t)) [
            | inl by ↦ done by both.1
            | inr past ↦ ap (λ (j : Inode). j.alive) (chain_still f i e entries t (leb-false e.moment t past) parts.1) ∙ both.0
          ])
      | inr gone ↦ elim (cases_Bool (leb e.moment t)) [
        | inl by ↦ done by (sym (ap any_live (kept_goes sees clock i from e entries gone)) ∙ none)
        | inr past ↦ absurd (both_ways (stays sees from e.moment) gone (stays_seen sees visible t from e.moment fits seen le (leb-false e.moment t past)))
      ]
    ]

-- a list with a live inode makes a chain
some_chain : (spans : List Span) → any_live spans ≡ true → chain_of spans ≡ None → ⊥
some_chain [] live none = both_ways false refl live
some_chain (s ∷ spans) live none = subst (λ (o : Option KeptChain). IfSome o (λ chain. ⊥)) (sym none) tt

pub none_shows_dead : Facts → NoKeptChainShowsNothing
none_shows_dead f sees visible created latest clock t first entries h fits seen none =
    let spans : List Span = kept sees clock first 0 entries in
    elim (cases_Bool (any_live spans)) [
      | inl some ↦ absurd (some_chain spans some (sym (cond-true (any_live spans) (chain_of spans) None some) ∙ none))
      | inr dead ↦ shows_dead f sees visible clock t fits seen first 0 entries (omega arith) (f.ascend entries h.groups) dead
    ]
