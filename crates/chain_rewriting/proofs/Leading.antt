-- Entries can lead over all that is kept of a chain, and what is joined step by step is the chain of all.
use Rattle.std.proofs.Common.{◌≡◌, ℕ, suc, ◌-◌, ◌<◌, ◌≤◌, Bool, true, false, leb, inl, inr, List, [], ◌∷◌, length, Option, Some, None, refl, sym, ap, subst, ◌∙◌, append_assoc, arith}
use Rattle.std.specs.Prelude.{◌||◌}
use Rattle.std.specs.List.{AllByRecursion}
use Rattle.std.proofs.lemmas.List.{append-nil}
use Rattle.std.proofs.lemmas.Bool.{cases_Bool, and_parts, or_cases, leb-true, eqb-true, cond-true, cond-false, both_ways}
use Rattle.s4_types.specs.declared.limits.TheConstants.{OBJECT_BYTES, OBJECT_BLOCKS}
use Rattle.lemmas.proofs.Bool.{or_assoc, or_false}
use Rattle.codec.specs.declared.inodes.Inode.{Inode}
use Rattle.codec.specs.Entry.{EntryFields, was_nothing, changes_now, entry_rules}
use Rattle.undo_redo.specs.Linked.{Linked}
use Rattle.undo_redo.specs.Redone.{redone}
use Rattle.undo_redo.specs.Runs.{Run, redone_all}
use Rattle.undo_redo.specs.Between.{CanLead}
use Rattle.undo_redo.proofs.BetweenLaws.{dead_is_empty}
use Rattle.time_read.specs.Orderly.{inode_behind}
use Rattle.chain_rewriting.specs.Cleaned.{Span, KeptChain, span_of, stays, kept, any_live, led, step, entries_over, end_over, chain_of, cleaned}
use Rattle.chain_rewriting.specs.Chains.{IsChain}
use Rattle.chain_rewriting.specs.private.Leading.{MayLead, AllLead, LeadsOn, LeadsTo, joined, continued}
use Rattle.chain_rewriting.specs.private.Resting.{Redoes}

-- what the rules of an entry tell of the two inodes that it ties
pub record Rules (e : EntryFields) : Type 0 where
  pub moment : 1 ≤ e.moment
  pub size_before : e.before.size ≤ OBJECT_BYTES
  pub size_after : e.after.size ≤ OBJECT_BYTES
  pub was : was_nothing e.before ≡ true
  pub now : changes_now e ≡ true

pub rules_of : (e : EntryFields) → entry_rules e ≡ true → Rules e
unfolding entry_rules
rules_of e h =
    let a = and_parts (leb 1 e.moment) _ h in
    let b = and_parts (e.before.alive || e.after.alive) _ a.1 in
    let c = and_parts (leb e.before.size OBJECT_BYTES) _ b.1 in
    let d = and_parts (leb e.after.size OBJECT_BYTES) _ c.1 in
    let f = and_parts (was_nothing e.before) _ d.1 in
    let g = and_parts (changes_now e) _ f.1 in
    record { moment = leb-true 1 e.moment a.0; size_before = leb-true e.before.size OBJECT_BYTES c.0; size_after = leb-true e.after.size OBJECT_BYTES d.0; was = f.0; now = g.0 }

-- an inode from which entries can lead
pub record Source (c : ℕ) (p : Inode) : Type 0 where
  pub created : p.created ≡ c
  pub count : length p.pointers ≡ OBJECT_BLOCKS
  pub size : p.size ≤ OBJECT_BYTES
  pub nothing : p.alive ≡ false → (p.size ≡ 0) × (p.changed ≡ 0)

-- an inode to which entries of this moment can lead
pub record Target (c : ℕ) (i : Inode) (from : ℕ) : Type 0 where
  pub created : i.created ≡ c
  pub count : length i.pointers ≡ OBJECT_BLOCKS
  pub size : i.size ≤ OBJECT_BYTES
  pub moment : 1 ≤ from
  pub changed : i.alive ≡ true → i.changed ≡ from

source_of : (c : ℕ) (i : Inode) (e : EntryFields) (j : Inode) → i.created ≡ c → Linked i e j → entry_rules e ≡ true → Source c i
source_of c i e j created l h =
    let r = rules_of e h in
    record {
      created = created;
      count = l.count_before;
      size = subst (λ s. s.size ≤ OBJECT_BYTES) (sym l.status_before) r.size_before;
      nothing = dead_is_empty i.alive i.size i.changed (ap (λ s. was_nothing s) l.status_before ∙ r.was);
    }

target_of : (c : ℕ) (i : Inode) (e : EntryFields) (j : Inode) → i.created ≡ c → Linked i e j → entry_rules e ≡ true → Target c j e.moment
target_of c i e j created l h =
    let r = rules_of e h in
    record {
      created = sym l.created ∙ created;
      count = l.count_after;
      size = subst (λ s. s.size ≤ OBJECT_BYTES) (sym l.status_after) r.size_after;
      moment = r.moment;
      changed = λ live. (let after : e.after.alive ≡ true = sym (ap (λ s. s.alive) l.status_after) ∙ live in
          ap (λ s. s.changed) l.status_after ∙ eqb-true e.after.changed e.moment (sym (cond-true e.after.alive _ _ after) ∙ r.now));
    }

pub led_live : (p i : Inode) → i.alive ≡ true → led p i ≡ i
led_live p i live = cond-true i.alive i (record p { alive = false }) live

pub led_dead : (p i : Inode) → i.alive ≡ false → led p i ≡ record p { alive = false }
led_dead p i dead = cond-false i.alive i (record p { alive = false }) dead

live_leads : (c : ℕ) (p i : Inode) (from : ℕ) → Source c p → Target c i from → i.alive ≡ true → CanLead p i from
live_leads c p i from s t live = record {
  moment = t.moment;
  created = s.created ∙ sym t.created;
  count_before = s.count;
  count_after = t.count;
  size_before = s.size;
  size_after = t.size;
  was_nothing = s.nothing;
  changed = t.changed;
  flag_alone = λ dead. absurd (both_ways i.alive dead live);
}

dead_leads : (c : ℕ) (p : Inode) (from : ℕ) → Source c p → 1 ≤ from → p.alive ≡ true → CanLead p (record p { alive = false }) from
dead_leads c p from s one live = record {
  moment = one;
  created = refl;
  count_before = s.count;
  count_after = s.count;
  size_before = s.size;
  size_after = s.size;
  was_nothing = s.nothing;
  changed = λ is. absurd (both_ways false refl is);
  flag_alone = λ dead. ap (λ (b : Bool). record p { alive = b }) live;
}

pub may_lead : (c : ℕ) (p i : Inode) (from last : ℕ) → Source c p → Target c i from → MayLead p (span_of i from last)
may_lead c p i from last s t one = elim (cases_Bool i.alive) [
  | inl live ↦ subst (λ (j : Inode). CanLead p j from) (sym (led_live p i live)) (live_leads c p i from s t live)
  | inr dead ↦ (let live : p.alive ≡ true = elim (or_cases p.alive i.alive one) [ inl is ↦ is | inr other ↦ absurd (both_ways i.alive dead other) ] in
      subst (λ (j : Inode). CanLead p j from) (sym (led_dead p i dead)) (dead_leads c p from s t.moment live))
]

-- entries that go on from an inode: each links two, keeps its rules, and begins at a live one
abbrev pub Onward : Inode → List EntryFields → Type 0
Onward i [] = Unit {0}
Onward i (e ∷ entries) = (i.alive ≡ true) × Linked i e (redone e i) × (entry_rules e ≡ true) × Onward (redone e i) entries

-- the two ways on
pub kept_stays : (sees : ℕ → ℕ → Bool) (clock : ℕ) (i : Inode) (from : ℕ) (e : EntryFields) (entries : List EntryFields) → stays sees from e.moment ≡ true → kept sees clock i from (e ∷ entries) ≡ span_of i from (e.moment - 1) ∷ kept sees clock (redone e i) e.moment entries
kept_stays sees clock i from e entries h = cond-true (stays sees from e.moment) _ _ h

pub kept_goes : (sees : ℕ → ℕ → Bool) (clock : ℕ) (i : Inode) (from : ℕ) (e : EntryFields) (entries : List EntryFields) → stays sees from e.moment ≡ false → kept sees clock i from (e ∷ entries) ≡ kept sees clock (redone e i) e.moment entries
kept_goes sees clock i from e entries h = cond-false (stays sees from e.moment) _ _ h

all_lead : (c : ℕ) (sees : ℕ → ℕ → Bool) (clock : ℕ) (p i : Inode) (from : ℕ) (entries : List EntryFields) → Source c p → Target c i from → Onward i entries → AllLead p (kept sees clock i from entries)
all_lead c sees clock p i from [] s t o = (may_lead c p i from clock s t, tt)
all_lead c sees clock p i from (e ∷ entries) s t o =
    let next = target_of c i e (redone e i) t.created o.1 o.2 in
    elim (cases_Bool (stays sees from e.moment)) [
      | inl is ↦ (let behind = all_lead c sees clock i (redone e i) e.moment entries (source_of c i e (redone e i) t.created o.1 o.2) next o.3 in
          let same : led p i ≡ i = led_live p i o.0 in
          subst (λ (spans : List Span). AllLead p spans) (sym (kept_stays sees clock i from e entries is)) (may_lead c p i from (e.moment - 1) s t, subst (λ (j : Inode). AllLead j (kept sees clock (redone e i) e.moment entries)) (sym same) behind))
      | inr gone ↦ subst (λ (spans : List Span). AllLead p spans) (sym (kept_goes sees clock i from e entries gone)) (all_lead c sees clock p (redone e i) e.moment entries s next o.3)
    ]

-- what is kept of a chain whose inodes between the first and the last are live
start_leads : (c : ℕ) (sees : ℕ → ℕ → Bool) (clock : ℕ) (i : Inode) (from : ℕ) (e : EntryFields) (entries : List EntryFields) → i.created ≡ c → Linked i e (redone e i) → entry_rules e ≡ true → Onward (redone e i) entries → LeadsOn None (kept sees clock (redone e i) e.moment entries) → LeadsOn None (kept sees clock i from (e ∷ entries))
start_leads c sees clock i from e entries created l r o rest = elim (cases_Bool (stays sees from e.moment)) [
  | inl is ↦ subst (λ (spans : List Span). LeadsOn None spans) (sym (kept_stays sees clock i from e entries is)) (all_lead c sees clock i (redone e i) e.moment entries (source_of c i e (redone e i) created l r) (target_of c i e (redone e i) created l r) o)
  | inr gone ↦ subst (λ (spans : List Span). LeadsOn None spans) (sym (kept_goes sees clock i from e entries gone)) rest
]

later_leads : (c : ℕ) (sees : ℕ → ℕ → Bool) (clock : ℕ) (i : Inode) (from : ℕ) (entries : List EntryFields) → i.created ≡ c → Onward i entries → LeadsOn None (kept sees clock i from entries)
later_leads c sees clock i from [] created o = tt
later_leads c sees clock i from (e ∷ entries) created o = start_leads c sees clock i from e entries created o.1 o.2 o.3 (later_leads c sees clock (redone e i) e.moment entries (sym o.1.created ∙ created) o.3)

onward_of : Redoes → (i : Inode) (entries : List EntryFields) (last : Inode) → Run i entries last → AllByRecursion (λ e. entry_rules e ≡ true) entries → ((n : ℕ) → n < length entries → (inode_behind i entries n).alive ≡ true) → Onward i entries
onward_of redoes i [] last r h live = tt
onward_of redoes i (e ∷ entries) last r h live =
    let is : r.0 ≡ redone e i = redoes i r.0 e r.1 in
    (live 0 (omega arith), subst (λ (j : Inode). Linked i e j) is r.1, h.0, onward_of redoes (redone e i) entries last (subst (λ (j : Inode). Run j entries last) is r.2) h.1 (λ n lt. live (suc n) (omega (arith, lt))))

-- the first entry of a chain links its first inode to the next, and the others go on from there
pub begun : Redoes → (c latest : ℕ) (first : Inode) (e : EntryFields) (entries : List EntryFields) → IsChain c latest first (e ∷ entries) → Linked first e (redone e first) × Onward (redone e first) entries
begun redoes c latest first e entries h =
    let is : h.run.0 ≡ redone e first = redoes first h.run.0 e h.run.1 in
    (subst (λ (j : Inode). Linked first e j) is h.run.1, onward_of redoes (redone e first) entries (redone_all (e ∷ entries) first) (subst (λ (j : Inode). Run j entries (redone_all (e ∷ entries) first)) is h.run.2) h.rules.1 (λ n lt. h.order.between (suc n) (omega arith) (omega (arith, lt))))

pub chain_leads : Redoes → (c latest clock : ℕ) (sees : ℕ → ℕ → Bool) (first : Inode) (entries : List EntryFields) → IsChain c latest first entries → LeadsOn None (kept sees clock first 0 entries)
chain_leads redoes c latest clock sees first [] h = tt
chain_leads redoes c latest clock sees first (e ∷ entries) h =
    let on = begun redoes c latest first e entries h in
    start_leads first.created sees clock first 0 e entries refl on.0 h.rules.0 on.1 (later_leads first.created sees clock (redone e first) e.moment entries (sym on.0.created) on.1)

-- ---- joining

pub continued_joined : (chain : Option KeptChain) (s : Span) (spans : List Span) → continued (Some (joined chain s)) spans ≡ continued chain (s ∷ spans)
continued_joined None s spans = refl
continued_joined (Some chain) s spans =
    ap (λ (es : List EntryFields). Some (record { first = chain.first; entries = es; last = end_over (led chain.last s.inode) spans })) (append_assoc chain.entries (step chain.last s) (entries_over (led chain.last s.inode) spans))

-- ---- the walk

-- What is joined, with all that is to come, is the chain of all that is kept; and so is what is live.
pub record Walks (sees : ℕ → ℕ → Bool) (clock : ℕ) (first : Inode) (all : List EntryFields) (chain : Option KeptChain) (live : Bool) (i : Inode) (from : ℕ) (rest : List EntryFields) : Type 0 where
  pub joined : continued chain (kept sees clock i from rest) ≡ chain_of (kept sees clock first 0 all)
  pub leads : LeadsOn chain (kept sees clock i from rest)
  pub any : (live || any_live (kept sees clock i from rest)) ≡ any_live (kept sees clock first 0 all)

pub walk_begins : Redoes → (c latest clock : ℕ) (sees : ℕ → ℕ → Bool) (first : Inode) (entries : List EntryFields) → IsChain c latest first entries → Walks sees clock first entries None false first 0 entries
walk_begins redoes c latest clock sees first entries h = record { joined = refl; leads = chain_leads redoes c latest clock sees first entries h; any = refl }

leads_to : (chain : Option KeptChain) (i : Inode) (from last : ℕ) (spans : List Span) → LeadsOn chain (span_of i from last ∷ spans) → LeadsTo chain (span_of i from 0)
leads_to None i from last spans h = tt
leads_to (Some chain) i from last spans h = h.0

joined_same : (chain : Option KeptChain) (i : Inode) (from last : ℕ) → joined chain (span_of i from 0) ≡ joined chain (span_of i from last)
joined_same None i from last = refl
joined_same (Some chain) i from last = refl

leads_behind : (chain : Option KeptChain) (s : Span) (spans : List Span) → LeadsOn chain (s ∷ spans) → LeadsOn (Some (joined chain s)) spans
leads_behind None s spans h = h
leads_behind (Some chain) s spans h = h.1

pub walk_may : (sees : ℕ → ℕ → Bool) (clock : ℕ) (first : Inode) (all : List EntryFields) (chain : Option KeptChain) (live : Bool) (i : Inode) (from : ℕ) (e : EntryFields) (rest : List EntryFields) → Walks sees clock first all chain live i from (e ∷ rest) → stays sees from e.moment ≡ true → LeadsTo chain (span_of i from 0)
walk_may sees clock first all chain live i from e rest w is =
    leads_to chain i from (e.moment - 1) (kept sees clock (redone e i) e.moment rest) (subst (λ (spans : List Span). LeadsOn chain spans) (kept_stays sees clock i from e rest is) w.leads)

pub walk_keeps : (sees : ℕ → ℕ → Bool) (clock : ℕ) (first : Inode) (all : List EntryFields) (chain : Option KeptChain) (live : Bool) (i : Inode) (from : ℕ) (e : EntryFields) (rest : List EntryFields) → Walks sees clock first all chain live i from (e ∷ rest) → stays sees from e.moment ≡ true → Walks sees clock first all (Some (joined chain (span_of i from 0))) (live || i.alive) (redone e i) e.moment rest
walk_keeps sees clock first all chain live i from e rest w is =
    let s : Span = span_of i from (e.moment - 1) in
    let behind : List Span = kept sees clock (redone e i) e.moment rest in
    let spans = kept_stays sees clock i from e rest is in
    record {
      joined = ap (λ (k : KeptChain). continued (Some k) behind) (joined_same chain i from (e.moment - 1)) ∙ continued_joined chain s behind ∙ sym (ap (continued chain) spans) ∙ w.joined;
      leads = subst (λ (k : KeptChain). LeadsOn (Some k) behind) (sym (joined_same chain i from (e.moment - 1))) (leads_behind chain s behind (subst (λ (ss : List Span). LeadsOn chain ss) spans w.leads));
      any = or_assoc live i.alive (any_live behind) ∙ sym (ap (λ (ss : List Span). live || any_live ss) spans) ∙ w.any;
    }

pub walk_goes : (sees : ℕ → ℕ → Bool) (clock : ℕ) (first : Inode) (all : List EntryFields) (chain : Option KeptChain) (live : Bool) (i : Inode) (from : ℕ) (e : EntryFields) (rest : List EntryFields) → Walks sees clock first all chain live i from (e ∷ rest) → stays sees from e.moment ≡ false → Walks sees clock first all chain live (redone e i) e.moment rest
walk_goes sees clock first all chain live i from e rest w gone =
    let spans = kept_goes sees clock i from e rest gone in
    record {
      joined = sym (ap (continued chain) spans) ∙ w.joined;
      leads = subst (λ (ss : List Span). LeadsOn chain ss) spans w.leads;
      any = sym (ap (λ (ss : List Span). live || any_live ss) spans) ∙ w.any;
    }

pub walk_end_may : (sees : ℕ → ℕ → Bool) (clock : ℕ) (first : Inode) (all : List EntryFields) (chain : Option KeptChain) (live : Bool) (i : Inode) (from : ℕ) → Walks sees clock first all chain live i from [] → LeadsTo chain (span_of i from 0)
walk_end_may sees clock first all chain live i from w = leads_to chain i from clock [] w.leads

nothing_more : (k : KeptChain) → Some k ≡ continued (Some k) []
nothing_more k = ap (λ (es : List EntryFields). Some (record { first = k.first; entries = es; last = k.last })) (sym (append-nil k.entries))

pub walk_ends : (sees : ℕ → ℕ → Bool) (clock : ℕ) (first : Inode) (all : List EntryFields) (chain : Option KeptChain) (live : Bool) (i : Inode) (from : ℕ) → Walks sees clock first all chain live i from [] → (live || i.alive) ≡ true → Some (joined chain (span_of i from 0)) ≡ cleaned sees clock first all
walk_ends sees clock first all chain live i from w is =
    let s : Span = span_of i from clock in
    let some : any_live (kept sees clock first 0 all) ≡ true = sym w.any ∙ ap (λ (b : Bool). live || b) (or_false i.alive) ∙ is in
    nothing_more (joined chain (span_of i from 0)) ∙ ap (λ (k : KeptChain). continued (Some k) []) (joined_same chain i from clock) ∙ continued_joined chain s [] ∙ w.joined ∙ sym (cond-true (any_live (kept sees clock first 0 all)) (chain_of (kept sees clock first 0 all)) None some)

pub walk_none : (sees : ℕ → ℕ → Bool) (clock : ℕ) (first : Inode) (all : List EntryFields) (chain : Option KeptChain) (live : Bool) (i : Inode) (from : ℕ) → Walks sees clock first all chain live i from [] → (live || i.alive) ≡ false → None ≡ cleaned sees clock first all
walk_none sees clock first all chain live i from w is =
    let none : any_live (kept sees clock first 0 all) ≡ false = sym w.any ∙ ap (λ (b : Bool). live || b) (or_false i.alive) ∙ is in
    sym (cond-false (any_live (kept sees clock first 0 all)) (chain_of (kept sees clock first 0 all)) None none)
