-- The inodes of a kept chain are seen: at each moment the chain is as at some visible one.
use Rattle.std.proofs.Common.{◌≡◌, ℕ, ◌-◌, ◌<◌, ◌≤◌, Bool, true, leb, ltb, cond, inl, inr, List, [], ◌∷◌, ◌++◌, Option, None, refl, sym, ap, subst, ◌∙◌, arith}
use Rattle.std.specs.Prelude.{⊤, IfSome}
use Rattle.std.specs.List.{AllByRecursion}
use Rattle.std.proofs.lemmas.List.Elements.{filter-append}
use Rattle.std.proofs.lemmas.Bool.{cases_Bool, and_parts, cond-true, cond-false, leb-true, leb-false, ltb-true, le-leb, lt-leb}
use Rattle.codec.specs.declared.inodes.Inode.{Inode}
use Rattle.codec.specs.Entry.{EntryFields}
use Rattle.undo_redo.specs.Redone.{redone}
use Rattle.undo_redo.specs.Runs.{AllAt, entries_by, entry_is_by, moments_ascend_from}
use Rattle.time_read.specs.Orderly.{IsFromTo}
use Rattle.chain_rewriting.specs.Cleaned.{Span, KeptChain, stays, kept, any_live, led, step, entries_over, chain_of}
use Rattle.chain_rewriting.specs.CleaningLaws.{FitsSight, AKeptChainHasSeenInodesAlone}
use Rattle.chain_rewriting.proofs.Leading.{kept_stays, kept_goes}
use Rattle.chain_rewriting.proofs.Grouped.{step_at}
use Rattle.chain_rewriting.specs.private.Resting.{AllOfOne, GroupsAscend}

-- Spans after a moment: between the first moments of two neighbours there is a visible one.
abbrev Parted : (ℕ → Bool) → ℕ → ℕ → List Span → Type 0
Parted visible clock w [] = ⊤
Parted visible clock w (s ∷ spans) = (w < s.from) × ((v : ℕ) × ((s.from ≤ v) × ((v ≤ clock) × ((visible v ≡ true) × Parted visible clock v spans))))

-- The first span is seen, and the others are parted from there on.
abbrev BeginsSeen : (ℕ → Bool) → ℕ → List Span → Type 0
BeginsSeen visible clock [] = ⊤
BeginsSeen visible clock (s ∷ spans) = (v : ℕ) × ((v ≤ clock) × ((visible v ≡ true) × Parted visible clock v spans))

abbrev pub By : ℕ → List EntryFields → Type 0
By clock entries = AllByRecursion (λ e. e.moment ≤ clock) entries

-- at a visible moment the entries up to it are those up to the other one
abbrev Answered : (ℕ → Bool) → ℕ → List EntryFields → ℕ → Type 0
Answered visible clock entries t = (u : ℕ) × ((u ≤ clock) × ((visible u ≡ true) × (entries_by u entries ≡ entries_by t entries)))

-- ---- what is kept is parted

pub seen_there : (visible : ℕ → Bool) (sees : ℕ → ℕ → Bool) (from next : ℕ) → FitsSight sees visible → stays sees from next ≡ true → (v : ℕ) × ((from ≤ v) × ((v < next) × (visible v ≡ true)))
seen_there visible sees from next fits is =
    let parts = and_parts (ltb from next) (sees from (next - 1)) is in
    let lt : from < next = ltb-true from next parts.0 in
    let there = (fits from (next - 1)).0 parts.1 in
    let low : from ≤ there.0 = there.1.0 in
    let high : there.0 ≤ next - 1 = there.1.1.0 in
    (there.0, (low, (omega (arith, lt, high), there.1.1.1)))

kept_parted : (visible : ℕ → Bool) (sees : ℕ → ℕ → Bool) (clock : ℕ) → FitsSight sees visible → visible clock ≡ true → (w : ℕ) (i : Inode) (from : ℕ) (entries : List EntryFields) → w < from → from ≤ clock → moments_ascend_from from entries ≡ true → By clock entries → Parted visible clock w (kept sees clock i from entries)
kept_parted visible sees clock fits now w i from [] lt le ascend by = (lt, (clock, (le, (omega arith, (now, tt)))))
kept_parted visible sees clock fits now w i from (e ∷ entries) lt le ascend by =
    let parts = and_parts (leb from e.moment) (moments_ascend_from e.moment entries) ascend in
    let up : from ≤ e.moment = leb-true from e.moment parts.0 in
    let most : e.moment ≤ clock = by.0 in
    elim (cases_Bool (stays sees from e.moment)) [
      | inl is ↦ (let v = seen_there visible sees from e.moment fits is in
          let below : v.0 < e.moment = v.1.1.0 in
          subst (λ (spans : List Span). Parted visible clock w spans) (sym (kept_stays sees clock i from e entries is)) (lt, (v.0, (v.1.0, (omega (arith, below, most), (v.1.1.1, kept_parted visible sees clock fits now v.0 (redone e i) e.moment entries below most parts.1 by.1))))))
      | inr gone ↦ subst (λ (spans : List Span). Parted visible clock w spans) (sym (kept_goes sees clock i from e entries gone)) (kept_parted visible sees clock fits now w (redone e i) e.moment entries (omega (arith, lt, up)) most parts.1 by.1)
    ]

kept_seen : (visible : ℕ → Bool) (sees : ℕ → ℕ → Bool) (clock : ℕ) → FitsSight sees visible → visible clock ≡ true → (i : Inode) (from : ℕ) (entries : List EntryFields) → moments_ascend_from from entries ≡ true → By clock entries → BeginsSeen visible clock (kept sees clock i from entries)
kept_seen visible sees clock fits now i from [] ascend by = (clock, (omega arith, (now, tt)))
kept_seen visible sees clock fits now i from (e ∷ entries) ascend by =
    let parts = and_parts (leb from e.moment) (moments_ascend_from e.moment entries) ascend in
    let most : e.moment ≤ clock = by.0 in
    elim (cases_Bool (stays sees from e.moment)) [
      | inl is ↦ (let v = seen_there visible sees from e.moment fits is in
          let below : v.0 < e.moment = v.1.1.0 in
          subst (λ (spans : List Span). BeginsSeen visible clock spans) (sym (kept_stays sees clock i from e entries is)) (v.0, (omega (arith, below, most), (v.1.1.1, kept_parted visible sees clock fits now v.0 (redone e i) e.moment entries below most parts.1 by.1))))
      | inr gone ↦ subst (λ (spans : List Span). BeginsSeen visible clock spans) (sym (kept_goes sees clock i from e entries gone)) (kept_seen visible sees clock fits now (redone e i) e.moment entries parts.1 by.1)
    ]

-- ---- the entries up to a moment

all_by : (t m : ℕ) (entries : List EntryFields) → AllAt m entries → m ≤ t → entries_by t entries ≡ entries
all_by t m [] at le = refl
all_by t m (e ∷ entries) at le =
    let test : leb e.moment t ≡ true = ap (λ (n : ℕ). leb n t) at.0 ∙ le-leb m t le in
    ap (λ b. cond b (e ∷ entries_by t entries) (entries_by t entries)) test ∙ ap (λ es. e ∷ es) (all_by t m entries at.1 le)

none_by : (t m : ℕ) (entries : List EntryFields) → AllAt m entries → t < m → entries_by t entries ≡ []
none_by t m [] at lt = refl
none_by t m (e ∷ entries) at lt =
    let test = ap (λ (n : ℕ). leb n t) at.0 ∙ lt-leb m t lt in
    ap (λ b. cond b (e ∷ entries_by t entries) (entries_by t entries)) test ∙ none_by t m entries at.1 lt

-- before a step nothing of it, and from its moment on all of it
by_before : AllOfOne → (p : Inode) (s : Span) (rest : List EntryFields) (t : ℕ) → t < s.from → entries_by t (step p s ++ rest) ≡ entries_by t rest
by_before one p s rest t lt = filter-append (entry_is_by t) (step p s) rest ∙ ap (λ (es : List EntryFields). es ++ entries_by t rest) (none_by t s.from (step p s) (step_at one p s) lt)

by_behind : AllOfOne → (p : Inode) (s : Span) (rest : List EntryFields) (t : ℕ) → s.from ≤ t → entries_by t (step p s ++ rest) ≡ step p s ++ entries_by t rest
by_behind one p s rest t le = filter-append (entry_is_by t) (step p s) rest ∙ ap (λ (es : List EntryFields). es ++ entries_by t rest) (all_by t s.from (step p s) (step_at one p s) le)

none_before : AllOfOne → (visible : ℕ → Bool) (clock w t : ℕ) (p : Inode) (spans : List Span) → Parted visible clock w spans → t ≤ w → entries_by t (entries_over p spans) ≡ []
none_before one visible clock w t p [] h le = refl
none_before one visible clock w t p (s ∷ spans) h le =
    let lt : w < s.from = h.0 in
    let low : s.from ≤ h.1.0 = h.1.1.0 in
    by_before one p s (entries_over (led p s.inode) spans) t (omega (arith, lt, le)) ∙ none_before one visible clock h.1.0 t (led p s.inode) spans h.1.1.1.1.1 (omega (arith, lt, low, le))

over_answered : AllOfOne → (visible : ℕ → Bool) (clock w t : ℕ) (p : Inode) (spans : List Span) → w ≤ clock → visible w ≡ true → Parted visible clock w spans → (u : ℕ) × ((w ≤ u) × ((u ≤ clock) × ((visible u ≡ true) × (entries_by u (entries_over p spans) ≡ entries_by t (entries_over p spans)))))
over_answered one visible clock w t p [] le is h = (w, (omega arith, (le, (is, refl))))
over_answered one visible clock w t p (s ∷ spans) le is h =
    let lt : w < s.from = h.0 in
    let v : ℕ = h.1.0 in
    let low : s.from ≤ v = h.1.1.0 in
    let rest : List EntryFields = entries_over (led p s.inode) spans in
    elim (cases_Bool (leb s.from t)) [
      | inl since ↦ (let from : s.from ≤ t = leb-true s.from t since in
          let found = over_answered one visible clock v t (led p s.inode) spans h.1.1.1.0 h.1.1.1.1.0 h.1.1.1.1.1 in
          let u : ℕ = found.0 in
          let high : v ≤ u = found.1.0 in
          (u, (omega (arith, lt, low, high), (found.1.1.0, (found.1.1.1.0, by_behind one p s rest u (omega (arith, low, high)) ∙ ap (λ (es : List EntryFields). step p s ++ es) found.1.1.1.1 ∙ sym (by_behind one p s rest t from))))))
      | inr before ↦ (let past : t < s.from = leb-false s.from t before in
          let nothing : entries_by t (step p s ++ rest) ≡ [] = by_before one p s rest t past ∙ none_before one visible clock v t (led p s.inode) spans h.1.1.1.1.1 (omega (arith, past, low)) in
          (w, (omega arith, (le, (is, none_before one visible clock w w p (s ∷ spans) h (omega arith) ∙ sym nothing)))))
    ]

-- ---- the kept chain

abbrev ChainAnswered : (ℕ → Bool) → ℕ → Option KeptChain → Type 0
ChainAnswered visible clock o = IfSome o (λ chain. (t : ℕ) → Answered visible clock chain.entries t)

chain_answered : AllOfOne → (visible : ℕ → Bool) (clock : ℕ) (spans : List Span) → BeginsSeen visible clock spans → ChainAnswered visible clock (chain_of spans)
chain_answered one visible clock [] h = tt
chain_answered one visible clock (s ∷ spans) h = λ t. (let found = over_answered one visible clock h.0 t s.inode spans h.1.0 h.1.1.0 h.1.1.1 in
    (found.0, found.1.1))

pub by_clock : (created latest clock : ℕ) (entries : List EntryFields) → latest ≤ clock → AllByRecursion (λ e. IsFromTo created latest e.moment) entries → By clock entries
by_clock created latest clock [] le h = tt
by_clock created latest clock (e ∷ entries) le h = (let most : e.moment ≤ latest = h.0.1 in omega (arith, most, le), by_clock created latest clock entries le h.1)

pub cleaned_seen : AllOfOne → GroupsAscend → AKeptChainHasSeenInodesAlone
cleaned_seen one ascend visible sees created latest clock first entries fits now le h =
    let spans : List Span = kept sees clock first 0 entries in
    elim (cases_Bool (any_live spans)) [
      | inl some ↦ subst (λ (o : Option KeptChain). ChainAnswered visible clock o) (sym (cond-true (any_live spans) (chain_of spans) None some)) (chain_answered one visible clock spans (kept_seen visible sees clock fits now first 0 entries (ascend entries h.groups) (by_clock created latest clock entries le h.order.moments)))
      | inr none ↦ subst (λ (o : Option KeptChain). ChainAnswered visible clock o) (sym (cond-false (any_live spans) (chain_of spans) None none)) tt
    ]
