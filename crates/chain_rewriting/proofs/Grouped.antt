-- The entries of a kept chain are of moments of the old ones, and in groups.
use Rattle.std.proofs.Common.{◌≡◌, ℕ, ◌-◌, ◌<◌, ◌≤◌, ◌==◌, Bool, true, false, leb, inl, inr, List, [], ◌∷◌, ◌++◌, Option, Some, None, refl, sym, ap, subst, arith}
use Rattle.std.specs.Prelude.{◌||◌, IfSome}
use Rattle.std.specs.List.{AllByRecursion, Contains}
use Rattle.std.proofs.lemmas.List.Elements.{All-contains, All-from_recursion, Contains-append_right}
use Rattle.std.proofs.lemmas.Bool.{cases_Bool, and_parts, or_cases, or_right, leb-true, leb-false, le-leb, lt-leb, ltb-true, eq-eqb, eqb-true, cond-true, cond-false, both_ways}
use Rattle.codec.specs.declared.inodes.Inode.{Inode}
use Rattle.codec.specs.Entry.{EntryFields}
use Rattle.undo_redo.specs.Redone.{redone}
use Rattle.undo_redo.specs.Runs.{AllAt, AllBy, AllPast, moments_ascend_from}
use Rattle.undo_redo.specs.Groups.{grouped}
use Rattle.undo_redo.specs.Between.{CanLead, entries_between}
use Rattle.chain_rewriting.specs.Cleaned.{Span, KeptChain, stays, kept, any_live, led, step, entries_over, chain_of, cleaned}
use Rattle.chain_rewriting.specs.CleaningLaws.{AKeptChainHasOldMoments, TheMomentsOfAKeptChainAreOld, AKeptChainIsGrouped}
use Rattle.chain_rewriting.specs.private.Leading.{MayLead, AllLead, LeadsOn}
use Rattle.chain_rewriting.proofs.Leading.{kept_stays, kept_goes, chain_leads}
use Rattle.chain_rewriting.specs.private.Resting.{AllOfOne, GroupsAscend, Redoes}

-- ---- moments

-- some entry is of this moment
abbrev among : List EntryFields → ℕ → Bool
among [] m = false
among (e ∷ entries) m = (e.moment == m) || among entries m

all_among : (all entries : List EntryFields) → ((m : ℕ) → among entries m ≡ true → among all m ≡ true) → AllByRecursion (λ e. among all e.moment ≡ true) entries
all_among all [] h = tt
all_among all (e ∷ entries) h = (h e.moment (ap (λ (b : Bool). b || among entries e.moment) (eq-eqb e.moment e.moment refl)), all_among all entries (λ m is. h m (or_right (e.moment == m) (among entries m) is)))

found : (entries : List EntryFields) (m : ℕ) → among entries m ≡ true → (f : EntryFields) × (Contains entries f × (f.moment ≡ m))
found [] m h = absurd (both_ways false refl h)
found (e ∷ entries) m h = elim (or_cases (e.moment == m) (among entries m) h) [
  | inl is ↦ (e, ((0, omega arith, refl), eqb-true e.moment m is))
  | inr later ↦ (let rest = found entries m later in (rest.0, (Contains-append_right (e ∷ []) entries rest.0 rest.1.0, rest.1.1)))
]

all_found : (entries new : List EntryFields) → AllByRecursion (λ e. among entries e.moment ≡ true) new → (e : EntryFields) → Contains new e → (f : EntryFields) × (Contains entries f × (f.moment ≡ e.moment))
all_found entries new h e has = found entries e.moment (All-contains (λ e. among entries e.moment ≡ true) new e (All-from_recursion (λ e. among entries e.moment ≡ true) new h) has)

old_moments : (entries : List EntryFields) (o : Option KeptChain) → IfSome o (λ chain. AllByRecursion (λ e. among entries e.moment ≡ true) chain.entries) → IfSome o (λ chain. (e : EntryFields) → Contains chain.entries e → (f : EntryFields) × (Contains entries f × (f.moment ≡ e.moment)))
old_moments entries None h = tt
old_moments entries (Some chain) h = all_found entries chain.entries h

pub cleaned_old : AKeptChainHasOldMoments → TheMomentsOfAKeptChainAreOld
cleaned_old old sees clock first entries = old_moments entries (cleaned sees clock first entries) (old (among entries) sees clock first entries (all_among entries entries (λ m is. is)))

-- ---- groups

-- what is kept begins at ascending moments, all later than this one
abbrev pub Rise : ℕ → List Span → Type 0
Rise low [] = Unit {0}
Rise low (s ∷ spans) = (low < s.from) × Rise s.from spans

abbrev RiseOn : List Span → Type 0
RiseOn [] = Unit {0}
RiseOn (s ∷ spans) = Rise s.from spans

stays_earlier : (sees : ℕ → ℕ → Bool) (from next : ℕ) → stays sees from next ≡ true → from < next
stays_earlier sees from next h = ltb-true from next (and_parts _ (sees from (next - 1)) h).0

kept_rise : (sees : ℕ → ℕ → Bool) (clock low : ℕ) (i : Inode) (from : ℕ) (entries : List EntryFields) → low < from → moments_ascend_from from entries ≡ true → Rise low (kept sees clock i from entries)
kept_rise sees clock low i from [] lt h = (lt, tt)
kept_rise sees clock low i from (e ∷ entries) lt h =
    let parts = and_parts (leb from e.moment) (moments_ascend_from e.moment entries) h in
    let le : from ≤ e.moment = leb-true from e.moment parts.0 in
    elim (cases_Bool (stays sees from e.moment)) [
      | inl is ↦ subst (λ (spans : List Span). Rise low spans) (sym (kept_stays sees clock i from e entries is)) (lt, kept_rise sees clock from (redone e i) e.moment entries (stays_earlier sees from e.moment is) parts.1)
      | inr gone ↦ subst (λ (spans : List Span). Rise low spans) (sym (kept_goes sees clock i from e entries gone)) (kept_rise sees clock low (redone e i) e.moment entries (omega (arith, lt, le)) parts.1)
    ]

kept_rise_on : (sees : ℕ → ℕ → Bool) (clock : ℕ) (i : Inode) (from : ℕ) (entries : List EntryFields) → moments_ascend_from from entries ≡ true → RiseOn (kept sees clock i from entries)
kept_rise_on sees clock i from [] h = tt
kept_rise_on sees clock i from (e ∷ entries) h =
    let parts = and_parts (leb from e.moment) (moments_ascend_from e.moment entries) h in
    elim (cases_Bool (stays sees from e.moment)) [
      | inl is ↦ subst (λ (spans : List Span). RiseOn spans) (sym (kept_stays sees clock i from e entries is)) (kept_rise sees clock from (redone e i) e.moment entries (stays_earlier sees from e.moment is) parts.1)
      | inr gone ↦ subst (λ (spans : List Span). RiseOn spans) (sym (kept_goes sees clock i from e entries gone)) (kept_rise_on sees clock (redone e i) e.moment entries parts.1)
    ]

abbrev pub BetweenGroups : Type 0
BetweenGroups = (i j : Inode) (m : ℕ) → CanLead i j m → grouped (entries_between i j m) ≡ true

abbrev pub GroupsJoin : Type 0
GroupsJoin = (m : ℕ) (front back : List EntryFields) → grouped front ≡ true → grouped back ≡ true → AllBy m front → AllPast m back → grouped (front ++ back) ≡ true

-- what holds of the entries between two and of none holds of each step
pub of_step : (P : List EntryFields → Type 0) (p : Inode) (s : Span) → P [] → ((p.alive || s.inode.alive) ≡ true → P (entries_between p (led p s.inode) s.from)) → P (step p s)
of_step P p s none some = elim (cases_Bool (p.alive || s.inode.alive)) [
  | inl is ↦ subst P (sym (cond-true (p.alive || s.inode.alive) (entries_between p (led p s.inode) s.from) [] is)) (some is)
  | inr not ↦ subst P (sym (cond-false (p.alive || s.inode.alive) (entries_between p (led p s.inode) s.from) [] not)) none
]

pub at_by : (m : ℕ) (entries : List EntryFields) → AllAt m entries → AllBy m entries
at_by m [] h = tt
at_by m (e ∷ entries) h = (let is : e.moment ≡ m = h.0 in le-leb e.moment m (omega (arith, is)), at_by m entries h.1)

pub at_past : (low m : ℕ) (entries : List EntryFields) → low < m → AllAt m entries → AllPast low entries
at_past low m [] lt h = tt
at_past low m (e ∷ entries) lt h = (let is : e.moment ≡ m = h.0 in lt-leb e.moment low (omega (arith, is, lt)), at_past low m entries lt h.1)

past_earlier : (low m : ℕ) (entries : List EntryFields) → low < m → AllPast m entries → AllPast low entries
past_earlier low m [] lt h = tt
past_earlier low m (e ∷ entries) lt h = (let past : m < e.moment = leb-false e.moment m h.0 in lt-leb e.moment low (omega (arith, past, lt)), past_earlier low m entries lt h.1)

past_join : (m : ℕ) (front back : List EntryFields) → AllPast m front → AllPast m back → AllPast m (front ++ back)
past_join m [] back h k = k
past_join m (e ∷ front) back h k = (h.0, past_join m front back h.1 k)

pub step_at : AllOfOne → (p : Inode) (s : Span) → AllAt s.from (step p s)
step_at one p s = of_step (λ es. AllAt s.from es) p s tt (λ is. one p (led p s.inode) s.from)

over_past : AllOfOne → (low : ℕ) (p : Inode) (spans : List Span) → Rise low spans → AllPast low (entries_over p spans)
over_past one low p [] h = tt
over_past one low p (s ∷ spans) h = past_join low (step p s) (entries_over (led p s.inode) spans) (at_past low s.from (step p s) h.0 (step_at one p s)) (past_earlier low s.from (entries_over (led p s.inode) spans) h.0 (over_past one s.from (led p s.inode) spans h.1))

pub step_grouped : BetweenGroups → (p : Inode) (s : Span) → MayLead p s → grouped (step p s) ≡ true
step_grouped between p s may = of_step (λ es. grouped es ≡ true) p s refl (λ is. between p (led p s.inode) s.from (may is))

over_grouped : AllOfOne → BetweenGroups → GroupsJoin → (low : ℕ) (p : Inode) (spans : List Span) → Rise low spans → AllLead p spans → grouped (entries_over p spans) ≡ true
over_grouped one between join low p [] h lead = refl
over_grouped one between join low p (s ∷ spans) h lead = join s.from (step p s) (entries_over (led p s.inode) spans) (step_grouped between p s lead.0) (over_grouped one between join s.from (led p s.inode) spans h.1 lead.1) (at_by s.from (step p s) (step_at one p s)) (over_past one s.from (led p s.inode) spans h.1)

chain_grouped : AllOfOne → BetweenGroups → GroupsJoin → (spans : List Span) → RiseOn spans → LeadsOn None spans → IfSome (chain_of spans) (λ chain. grouped chain.entries ≡ true)
chain_grouped one between join [] rise lead = tt
chain_grouped one between join (s ∷ spans) rise lead = over_grouped one between join s.from s.inode spans rise lead

-- what holds of the chain of all that is kept, where one of it is live, holds of the kept chain
pub of_cleaned : (P : KeptChain → Type 0) (sees : ℕ → ℕ → Bool) (clock : ℕ) (first : Inode) (entries : List EntryFields) → (any_live (kept sees clock first 0 entries) ≡ true → IfSome (chain_of (kept sees clock first 0 entries)) P) → IfSome (cleaned sees clock first entries) P
of_cleaned P sees clock first entries h =
    let spans : List Span = kept sees clock first 0 entries in
    elim (cases_Bool (any_live spans)) [
      | inl some ↦ subst (λ (o : Option KeptChain). IfSome o P) (sym (cond-true (any_live spans) (chain_of spans) None some)) (h some)
      | inr none ↦ subst (λ (o : Option KeptChain). IfSome o P) (sym (cond-false (any_live spans) (chain_of spans) None none)) tt
    ]

pub cleaned_grouped : Redoes → AllOfOne → BetweenGroups → GroupsJoin → GroupsAscend → AKeptChainIsGrouped
cleaned_grouped redoes one between join ascend sees created latest clock first entries h =
    of_cleaned (λ chain. grouped chain.entries ≡ true) sees clock first entries (λ some.
    chain_grouped one between join (kept sees clock first 0 entries) (kept_rise_on sees clock first 0 entries (ascend entries h.groups)) (chain_leads redoes created latest clock sees first entries h))
