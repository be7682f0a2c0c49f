-- A kept chain is in order.
use Rattle.std.proofs.Common.{◌≡◌, ℕ, zero, suc, ◌+◌, ◌<◌, ◌≤◌, ◌==◌, ◌&&◌, Bool, true, false, leb, ltb, inl, inr, List, [], ◌∷◌, ◌++◌, length, Option, Some, None, refl, sym, ap, subst, ◌∙◌, arith}
use Rattle.std.specs.Prelude.{◌||◌, IfSome}
use Rattle.std.specs.List.{AllByRecursion}
use Rattle.std.proofs.lemmas.Bool.{cases_Bool, and_parts, and_from, or_cases, or_right, le-leb, leb-true, eq-eqb, eqb-true, cond-true, cond-false, both_ways}
use Rattle.s4_types.specs.declared.limits.TheConstants.{CHANGE_ENTRIES}
use Rattle.lemmas.proofs.Bool.{or_false}
use Rattle.codec.specs.declared.inodes.Inode.{Inode}
use Rattle.codec.specs.Entry.{EntryFields, entry_rules}
use Rattle.undo_redo.specs.Redone.{redone}
use Rattle.undo_redo.specs.Runs.{Run, AllAt, blank}
use Rattle.undo_redo.specs.Groups.{continues, grouped_behind, grouped}
use Rattle.undo_redo.specs.Between.{CanLead, entries_between}
use Rattle.time_read.specs.Orderly.{IsFromTo, IsOrderlyChain, inode_behind}
use Rattle.chain_rewriting.specs.Cleaned.{Span, KeptChain, stays, kept, any_live, led, step, entries_over, end_over, chain_of, cleaned}
use Rattle.chain_rewriting.specs.Chains.{IsChain}
use Rattle.chain_rewriting.specs.CleaningLaws.{AKeptChainIsARun, AKeptChainHasOldMoments, AKeptChainIsGrouped, AKeptChainIsInOrder, AKeptChainIsAChain}
use Rattle.chain_rewriting.specs.private.Leading.{AllLead, LeadsOn}
use Rattle.chain_rewriting.proofs.Leading.{Onward, rules_of, begun, kept_stays, kept_goes, chain_leads}
use Rattle.chain_rewriting.proofs.Grouped.{BetweenGroups, of_step, of_cleaned, step_at, step_grouped}
use Rattle.chain_rewriting.proofs.Runs.{RunsJoin, step_run, run_over}
use Rattle.chain_rewriting.specs.private.Resting.{AllOfOne, BetweenRuns, Ends, Redoes}

abbrev pub Ruled : List EntryFields → Type 0
Ruled entries = AllByRecursion (λ e. entry_rules e ≡ true) entries

-- each entry begins at a live inode
abbrev pub Live : List EntryFields → Type 0
Live entries = AllByRecursion (λ e. e.before.alive ≡ true) entries

-- each but the first does
abbrev pub LaterLive : List EntryFields → Type 0
LaterLive [] = Unit {0}
LaterLive (e ∷ entries) = Live entries

pub join_all : (P : EntryFields → Type 0) (front back : List EntryFields) → AllByRecursion P front → AllByRecursion P back → AllByRecursion P (front ++ back)
join_all P [] back h k = k
join_all P (e ∷ front) back h k = (h.0, join_all P front back h.1 k)

pub join_later : (front back : List EntryFields) → LaterLive front → Live back → LaterLive (front ++ back)
join_later [] [] h k = tt
join_later [] (e ∷ back) h k = k.1
join_later (e ∷ front) back h k = join_all (λ f. f.before.alive ≡ true) front back h k

-- ---- entries of one moment

behind_live : (m count : ℕ) (e : EntryFields) (entries : List EntryFields) → e.moment ≡ m → AllAt m entries → grouped_behind count e entries ≡ true → Live entries
behind_live m count e [] is at h = tt
behind_live m count e (f ∷ entries) is at h =
    let same : (e.moment == f.moment) ≡ true = eq-eqb e.moment f.moment (is ∙ sym at.0) in
    let whole : ((ltb count CHANGE_ENTRIES && continues e f) && grouped_behind (count + 1) f entries) ≡ true = sym (cond-true (e.moment == f.moment) ((ltb count CHANGE_ENTRIES && continues e f) && grouped_behind (count + 1) f entries) (ltb e.moment f.moment && grouped_behind 1 f entries) same) ∙ h in
    let parts = and_parts (ltb count CHANGE_ENTRIES && continues e f) (grouped_behind (count + 1) f entries) whole in
    let on : continues e f ≡ true = (and_parts (ltb count CHANGE_ENTRIES) (continues e f) parts.0).1 in
    let both = and_parts (f.before.alive && f.after.alive) _ on in
    ((and_parts f.before.alive f.after.alive both.0).0, behind_live m (count + 1) f entries at.0 at.1 parts.1)

pub group_live : (m : ℕ) (entries : List EntryFields) → AllAt m entries → grouped entries ≡ true → LaterLive entries
group_live m [] at h = tt
group_live m (e ∷ entries) at h = behind_live m 1 e entries at.0 at.1 h

pub begin_live : (i j : Inode) (entries : List EntryFields) → Run i entries j → i.alive ≡ true → LaterLive entries → Live entries
begin_live i j [] r live h = tt
begin_live i j (e ∷ entries) r live h = (sym (ap (λ s. s.alive) r.1.status_before) ∙ live, h)

-- ---- the entries over what is kept

-- an inode is live where more is kept after it
abbrev pub LiveOver : Inode → List Span → Type 0
LiveOver p [] = Unit {0}
LiveOver p (s ∷ spans) = (p.alive ≡ true) × LiveOver s.inode spans

abbrev pub LiveSpans : List Span → Type 0
LiveSpans [] = Unit {0}
LiveSpans (s ∷ spans) = LiveOver s.inode spans

pub led_alive : (p i : Inode) → (led p i).alive ≡ i.alive
led_alive p i = elim (cases_Bool i.alive) [
  | inl live ↦ ap (λ (j : Inode). j.alive) (cond-true i.alive i (record p { alive = false }) live)
  | inr dead ↦ ap (λ (j : Inode). j.alive) (cond-false i.alive i (record p { alive = false }) dead) ∙ sym dead
]

pub live_same : (i j : Inode) (spans : List Span) → j.alive ≡ i.alive → LiveOver i spans → LiveOver j spans
live_same i j [] is h = tt
live_same i j (s ∷ spans) is h = (is ∙ h.0, h.1)

over_live : AllOfOne → BetweenGroups → BetweenRuns → (p : Inode) (spans : List Span) → AllLead p spans → LiveOver p spans → Live (entries_over p spans)
over_live one group run p [] lead h = tt
over_live one group run p (s ∷ spans) lead h =
    join_all (λ f. f.before.alive ≡ true) (step p s) (entries_over (led p s.inode) spans)
    (begin_live p (led p s.inode) (step p s) (step_run run p s lead.0) h.0 (group_live s.from (step p s) (step_at one p s) (step_grouped group p s lead.0)))
    (over_live one group run (led p s.inode) spans lead.1 (live_same s.inode (led p s.inode) spans (led_alive p s.inode) h.1))

over_later : AllOfOne → BetweenGroups → BetweenRuns → (p : Inode) (spans : List Span) → AllLead p spans → LiveSpans spans → LaterLive (entries_over p spans)
over_later one group run p [] lead h = tt
over_later one group run p (s ∷ spans) lead h =
    join_later (step p s) (entries_over (led p s.inode) spans)
    (group_live s.from (step p s) (step_at one p s) (step_grouped group p s lead.0))
    (over_live one group run (led p s.inode) spans lead.1 (live_same s.inode (led p s.inode) spans (led_alive p s.inode) h))

abbrev pub BetweenRules : Type 0
BetweenRules = (i j : Inode) (m : ℕ) → CanLead i j m → AllByRecursion (λ e. entry_rules e ≡ true) (entries_between i j m)

pub over_ruled : BetweenRules → (p : Inode) (spans : List Span) → AllLead p spans → Ruled (entries_over p spans)
over_ruled rules p [] lead = tt
over_ruled rules p (s ∷ spans) lead =
    join_all (λ e. entry_rules e ≡ true) (step p s) (entries_over (led p s.inode) spans)
    (of_step (λ es. Ruled es) p s tt (λ is. rules p (led p s.inode) s.from (lead.0 is)))
    (over_ruled rules (led p s.inode) spans lead.1)

abbrev pub BetweenSome : Type 0
BetweenSome = (i j : Inode) (m : ℕ) → 1 ≤ length (entries_between i j m)

abbrev pub Begun : List EntryFields → Type 0
Begun [] = ⊥
Begun (e ∷ entries) = Unit {0}

pub begun_of : (entries : List EntryFields) → 1 ≤ length entries → Begun entries
begun_of [] h = absurd (omega (arith, h))
begun_of (e ∷ entries) h = tt

begun_front : (front back : List EntryFields) → Begun front → Begun (front ++ back)
begun_front [] back h = absurd h
begun_front (e ∷ front) back h = tt

begun_back : (front back : List EntryFields) → Begun back → Begun (front ++ back)
begun_back [] back h = h
begun_back (e ∷ front) back h = tt

over_begun : BetweenSome → (p : Inode) (spans : List Span) → any_live spans ≡ true → Begun (entries_over p spans)
over_begun some p [] h = absurd (both_ways false refl h)
over_begun some p (s ∷ spans) h = elim (or_cases s.inode.alive (any_live spans) h) [
  | inl live ↦ begun_front (step p s) (entries_over (led p s.inode) spans) (subst Begun (sym (cond-true (p.alive || s.inode.alive) (entries_between p (led p s.inode) s.from) [] (or_right p.alive s.inode.alive live))) (begun_of (entries_between p (led p s.inode) s.from) (some p (led p s.inode) s.from)))
  | inr later ↦ begun_back (step p s) (entries_over (led p s.inode) spans) (over_begun some (led p s.inode) spans later)
]

-- ---- what is kept

cons_live : (i : Inode) (spans : List Span) → i.alive ≡ true → LiveSpans spans → LiveOver i spans
cons_live i [] live h = tt
cons_live i (s ∷ spans) live h = (live, h)

kept_live : (sees : ℕ → ℕ → Bool) (clock : ℕ) (i : Inode) (from : ℕ) (entries : List EntryFields) → Onward i entries → LiveSpans (kept sees clock i from entries)
kept_live sees clock i from [] o = tt
kept_live sees clock i from (e ∷ entries) o = elim (cases_Bool (stays sees from e.moment)) [
  | inl is ↦ subst LiveSpans (sym (kept_stays sees clock i from e entries is)) (cons_live i (kept sees clock (redone e i) e.moment entries) o.0 (kept_live sees clock (redone e i) e.moment entries o.3))
  | inr gone ↦ subst LiveSpans (sym (kept_goes sees clock i from e entries gone)) (kept_live sees clock (redone e i) e.moment entries o.3)
]

-- what is known of the kept inodes: those after the first lie so, and the first is changed in order, or dead and blank
pub record Begins (c latest : ℕ) (s : Span) (spans : List Span) : Type 0 where
  pub live : LiveSpans spans
  pub changed : s.inode.alive ≡ true → IsFromTo c latest s.inode.changed
  pub beginning : s.inode.alive ≡ false → any_live (s ∷ spans) ≡ true → s.inode ≡ blank c

abbrev pub BeginSpans : ℕ → ℕ → List Span → Type 0
BeginSpans c latest [] = Unit {0}
BeginSpans c latest (s ∷ spans) = Begins c latest s spans

behind_spans : (p : Inode) (spans : List Span) → LiveOver p spans → LiveSpans spans
behind_spans p [] h = tt
behind_spans p (s ∷ spans) h = h.1

onward_begins : (c latest : ℕ) (sees : ℕ → ℕ → Bool) (clock : ℕ) (i : Inode) (from : ℕ) (entries : List EntryFields) → Onward i entries → ((n : ℕ) → (inode_behind i entries n).alive ≡ true → IsFromTo c latest (inode_behind i entries n).changed) → BeginSpans c latest (kept sees clock i from entries)
onward_begins c latest sees clock i from [] o h = record { live = tt; changed = h 0; beginning = λ dead any. absurd (both_ways i.alive dead (sym (or_false i.alive) ∙ any)) }
onward_begins c latest sees clock i from (e ∷ entries) o h = elim (cases_Bool (stays sees from e.moment)) [
  | inl is ↦ subst (λ (spans : List Span). BeginSpans c latest spans) (sym (kept_stays sees clock i from e entries is)) (record { live = kept_live sees clock (redone e i) e.moment entries o.3; changed = h 0; beginning = λ dead any. absurd (both_ways i.alive dead o.0) })
  | inr gone ↦ subst (λ (spans : List Span). BeginSpans c latest spans) (sym (kept_goes sees clock i from e entries gone)) (onward_begins c latest sees clock (redone e i) e.moment entries o.3 (λ n. h (suc n)))
]

pub start_begins : Redoes → (c latest clock : ℕ) (sees : ℕ → ℕ → Bool) (first : Inode) (entries : List EntryFields) → IsChain c latest first entries → BeginSpans c latest (kept sees clock first 0 entries)
start_begins redoes c latest clock sees first [] h = record { live = tt; changed = h.order.changed 0; beginning = λ dead any. h.order.beginning dead }
start_begins redoes c latest clock sees first (e ∷ entries) h =
    let o = (begun redoes c latest first e entries h).1 in
    elim (cases_Bool (stays sees 0 e.moment)) [
      | inl on ↦ subst (λ (spans : List Span). BeginSpans c latest spans) (sym (kept_stays sees clock first 0 e entries on)) (record { live = kept_live sees clock (redone e first) e.moment entries o; changed = h.order.changed 0; beginning = λ dead any. h.order.beginning dead })
      | inr gone ↦ subst (λ (spans : List Span). BeginSpans c latest spans) (sym (kept_goes sees clock first 0 e entries gone)) (onward_begins c latest sees clock (redone e first) e.moment entries o (λ n. h.order.changed (suc n)))
    ]

-- ---- the inodes after the entries

both_alive : (e : EntryFields) → entry_rules e ≡ true → (e.before.alive || e.after.alive) ≡ true
unfolding entry_rules
both_alive e h = (and_parts (e.before.alive || e.after.alive) _ (and_parts (leb 1 e.moment) _ h).1).0

now_changed : (e : EntryFields) → entry_rules e ≡ true → e.after.alive ≡ true → e.after.changed ≡ e.moment
now_changed e h live = eqb-true e.after.changed e.moment (sym (cond-true e.after.alive _ _ live) ∙ (rules_of e h).now)

redone_alive : (e : EntryFields) (i : Inode) → (redone e i).alive ≡ e.after.alive
unfolding redone
redone_alive e i = refl

redone_changed : (e : EntryFields) (i : Inode) → (redone e i).changed ≡ e.after.changed
unfolding redone
redone_changed e i = refl

pub all_changed : (c latest : ℕ) (i : Inode) (entries : List EntryFields) → (i.alive ≡ true → IsFromTo c latest i.changed) → Ruled entries → AllByRecursion (λ e. IsFromTo c latest e.moment) entries → (n : ℕ) → (inode_behind i entries n).alive ≡ true → IsFromTo c latest (inode_behind i entries n).changed
all_changed c latest i [] h r m zero live = h live
all_changed c latest i [] h r m (suc n) live = h live
all_changed c latest i (e ∷ entries) h r m zero live = h live
all_changed c latest i (e ∷ entries) h r m (suc n) live =
    all_changed c latest (redone e i) entries (λ is. subst (λ (t : ℕ). IsFromTo c latest t) (sym (redone_changed e i ∙ now_changed e r.0 (sym (redone_alive e i) ∙ is))) m.0) r.1 m.1 n live

all_live : Redoes → (i j : Inode) (entries : List EntryFields) → Run i entries j → Live entries → (n : ℕ) → n < length entries → (inode_behind i entries n).alive ≡ true
all_live redoes i j [] r h n lt = absurd (omega (arith, lt))
all_live redoes i j (e ∷ entries) r h zero lt = ap (λ s. s.alive) r.1.status_before ∙ h.0
all_live redoes i j (e ∷ entries) r h (suc n) lt = all_live redoes (redone e i) j entries (subst (λ (k : Inode). Run k entries j) (redoes i r.0 e r.1) r.2) h.1 n (omega (arith, lt))

pub all_between : Redoes → (i j : Inode) (entries : List EntryFields) → Run i entries j → LaterLive entries → (n : ℕ) → 0 < n → n < length entries → (inode_behind i entries n).alive ≡ true
all_between redoes i j [] r h n pos lt = absurd (omega (arith, lt))
all_between redoes i j (e ∷ entries) r h zero pos lt = absurd (omega (arith, pos))
all_between redoes i j (e ∷ entries) r h (suc n) pos lt = all_live redoes (redone e i) j entries (subst (λ (k : Inode). Run k entries j) (redoes i r.0 e r.1) r.2) h n (omega (arith, lt))

pub some_live : (i j : Inode) (entries : List EntryFields) → Run i entries j → Ruled entries → i.alive ≡ false → Begun entries → (n : ℕ) × ((inode_behind i entries n).alive ≡ true)
some_live i j [] r h dead begun = absurd begun
some_live i j (e ∷ entries) r h dead begun = elim (or_cases e.before.alive e.after.alive (both_alive e h.0)) [
  | inl before ↦ absurd (both_ways i.alive dead (ap (λ s. s.alive) r.1.status_before ∙ before))
  | inr after ↦ (1, redone_alive e i ∙ after)
]

-- ---- all of it

moments_from : (c latest : ℕ) (entries : List EntryFields) → AllByRecursion (λ e. (leb c e.moment && leb e.moment latest) ≡ true) entries → AllByRecursion (λ e. IsFromTo c latest e.moment) entries
moments_from c latest [] h = tt
moments_from c latest (e ∷ entries) h = (let parts = and_parts (leb c e.moment) (leb e.moment latest) h.0 in (leb-true c e.moment parts.0, leb-true e.moment latest parts.1), moments_from c latest entries h.1)

moments_tested : (c latest : ℕ) (entries : List EntryFields) → AllByRecursion (λ e. IsFromTo c latest e.moment) entries → AllByRecursion (λ e. (leb c e.moment && leb e.moment latest) ≡ true) entries
moments_tested c latest [] h = tt
moments_tested c latest (e ∷ entries) h = (and_from (leb c e.moment) (leb e.moment latest) (le-leb c e.moment h.0.0) (le-leb e.moment latest h.0.1), moments_tested c latest entries h.1)

-- what the entries between two inodes are known to be
pub record Facts : Type 0 where
  pub redoes : Redoes
  pub one : AllOfOne
  pub group : BetweenGroups
  pub run : BetweenRuns
  pub join : RunsJoin
  pub rules : BetweenRules
  pub some : BetweenSome

abbrev OrderIn : ℕ → ℕ → KeptChain → Type 0
OrderIn c latest chain = AllByRecursion (λ e. IsFromTo c latest e.moment) chain.entries → IsOrderlyChain c latest chain.first chain.entries

chain_order : Facts → (c latest : ℕ) (spans : List Span) → BeginSpans c latest spans → LeadsOn None spans → any_live spans ≡ true → IfSome (chain_of spans) (OrderIn c latest)
chain_order f c latest [] b lead any = tt
chain_order f c latest (s ∷ spans) b lead any = λ moments.
    (let i : Inode = s.inode in
    let entries : List EntryFields = entries_over i spans in
    let run = run_over f.run f.join i spans lead in
    let ruled = over_ruled f.rules i spans lead in
    record {
      moments = moments;
      changed = all_changed c latest i entries b.changed ruled moments;
      between = all_between f.redoes i (end_over i spans) entries run (over_later f.one f.group f.run i spans lead b.live);
      beginning = λ dead. b.beginning dead any;
      live = elim (cases_Bool i.alive) [
        | inl is ↦ (0, is)
        | inr dead ↦ some_live i (end_over i spans) entries run ruled dead (over_begun f.some i spans (elim (or_cases i.alive (any_live spans) any) [ inl is ↦ absurd (both_ways i.alive dead is) | inr later ↦ later ]))
      ];
    })

both_some : (P Q : KeptChain → Type 0) (o : Option KeptChain) → IfSome o (λ chain. P chain → Q chain) → IfSome o P → IfSome o Q
both_some P Q None h k = tt
both_some P Q (Some chain) h k = h k

tested_some : (c latest : ℕ) (o : Option KeptChain) → IfSome o (λ chain. AllByRecursion (λ e. (leb c e.moment && leb e.moment latest) ≡ true) chain.entries) → IfSome o (λ chain. AllByRecursion (λ e. IsFromTo c latest e.moment) chain.entries)
tested_some c latest None h = tt
tested_some c latest (Some chain) h = moments_from c latest chain.entries h

pub cleaned_order : Facts → AKeptChainHasOldMoments → AKeptChainIsInOrder
cleaned_order f old sees created latest clock first entries h =
    both_some (λ chain. AllByRecursion (λ e. IsFromTo created latest e.moment) chain.entries) (λ chain. IsOrderlyChain created latest chain.first chain.entries) (cleaned sees clock first entries)
    (of_cleaned (OrderIn created latest) sees clock first entries (λ some. chain_order f created latest (kept sees clock first 0 entries) (start_begins f.redoes created latest clock sees first entries h) (chain_leads f.redoes created latest clock sees first entries h) some))
    (tested_some created latest (cleaned sees clock first entries) (old (λ m. leb created m && leb m latest) sees clock first entries (moments_tested created latest entries h.order.moments)))

-- ---- a chain again

abbrev ChainRuled : Option KeptChain → Type 0
ChainRuled o = IfSome o (λ chain. Ruled chain.entries)

chain_ruled : BetweenRules → (spans : List Span) → LeadsOn None spans → ChainRuled (chain_of spans)
chain_ruled rules [] lead = tt
chain_ruled rules (s ∷ spans) lead = over_ruled rules s.inode spans lead

all_parts : Ends → (c latest : ℕ) (o : Option KeptChain) → IfSome o (λ chain. Run chain.first chain.entries chain.last) → IfSome o (λ chain. grouped chain.entries ≡ true) → ChainRuled o → IfSome o (λ chain. IsOrderlyChain c latest chain.first chain.entries) → IfSome o (λ chain. IsChain c latest chain.first chain.entries)
all_parts ends c latest None run groups rules order = tt
all_parts ends c latest (Some chain) run groups rules order = record {
  run = subst (λ (j : Inode). Run chain.first chain.entries j) (ends chain.first chain.last chain.entries run) run;
  groups = groups;
  rules = rules;
  order = order;
}

pub cleaned_chain : Redoes → BetweenRules → Ends → AKeptChainIsARun → AKeptChainIsGrouped → AKeptChainIsInOrder → AKeptChainIsAChain
cleaned_chain redoes rules ends run groups order sees created latest clock first entries h =
    all_parts ends created latest (cleaned sees clock first entries) (run sees created latest clock first entries h) (groups sees created latest clock first entries h)
    (of_cleaned (λ chain. Ruled chain.entries) sees clock first entries (λ some. chain_ruled rules (kept sees clock first 0 entries) (chain_leads redoes created latest clock sees first entries h)))
    (order sees created latest clock first entries h)
