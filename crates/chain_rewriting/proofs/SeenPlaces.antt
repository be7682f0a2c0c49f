-- A kept chain tells of places alone to which a live inode points that it shows at a visible moment.
use Rattle.std.proofs.Common.{◌≡◌, ℕ, ◌+◌, ◌-◌, ◌<◌, ◌≤◌, ◌==◌, ◌&&◌, Bool, true, false, leb, ltb, inl, inr, List, [], ◌∷◌, length, Option, Some, None, sym, ap, subst, ◌∙◌, arith}
use Rattle.std.specs.Prelude.{◌⊎◌, ◌||◌, IfSome, slice_index_or}
use Rattle.std.specs.List.{AllByRecursion}
use Rattle.std.proofs.lemmas.Bool.{cases_Bool, and_parts, or_cases, leb-true, leb-false, le-leb, ltb-true, eqb-true, cond-true, cond-false, both_ways}
use Rattle.std.proofs.lemmas.List.{nil_from_length}
use Rattle.s4_types.specs.Pointer.{Place}
use Rattle.s4_types.specs.declared.limits.TheConstants.{CHANGE_ENTRIES}
use Rattle.lemmas.proofs.Option.{IfSome_from}
use Rattle.codec.specs.declared.inodes.Inode.{Inode}
use Rattle.codec.specs.declared.entries.Triple.{Triple}
use Rattle.codec.specs.Checkpoint.{pointer_at}
use Rattle.codec.specs.Entry.{EntryFields, entry_rules}
use Rattle.undo_redo.specs.Linked.{Linked}
use Rattle.undo_redo.specs.Redone.{redone, with_after}
use Rattle.undo_redo.specs.Runs.{Run, redone_all, inode_after, entries_by, blank, moments_ascend_from}
use Rattle.undo_redo.specs.Groups.{continues, grouped_behind}
use Rattle.chain_rewriting.specs.Cleaned.{KeptChain, cleaned}
use Rattle.chain_rewriting.specs.Chains.{IsChain}
use Rattle.chain_rewriting.specs.CleaningLaws.{ShowsAlike, IsPlaceOf, IsSeenPlaceOf, PointsWithin, TellsWithin, HasPlacesWithin, TellsOfPlacesWithin, AKeptChainIsARun, AKeptChainIsAChain, AKeptChainShowsTheSame, AKeptChainIsSeenAlive, AKeptChainHasSeenInodesAlone, AKeptChainPointsToOldPlaces, CleaningAgainChangesNothing, AKeptChainTellsOfSeenPlacesAlone, AKeptChainShowsALiveInode}
use Rattle.chain_rewriting.proofs.Leading.{Onward, rules_of, begun}
use Rattle.chain_rewriting.proofs.Showing.{chain_still, goes_on}
use Rattle.chain_rewriting.specs.private.Resting.{Facts}

abbrev pub HolesAlone : Type 0
HolesAlone = (created n : ℕ) → pointer_at (blank created) n ≡ None

-- an inode points to a place at this index
abbrev Points : Inode → ℕ → Place → Type 0
Points i k p = pointer_at i k ≡ Some p

-- a chain shows a live inode at some moment, from one on, that points to a place at this index
abbrev Shown : Inode → ℕ → List EntryFields → ℕ → Place → Type 0
Shown i low entries k p = (t : ℕ) × ((low ≤ t) × (((inode_after i entries t).alive ≡ true) × Points (inode_after i entries t) k p))

-- it does, or its first inode is dead and points there
abbrev Found : Inode → ℕ → List EntryFields → ℕ → Place → Type 0
Found i low entries k p = ((i.alive ≡ false) × Points i k p) ⊎ Shown i low entries k p

-- ---- an entry after which all is dead

-- it begins at a live inode, and changes no pointer
pub record Ends (e : EntryFields) : Type 0 where
  pub before : e.before.alive ≡ true
  pub triples : e.triples ≡ []

ends_of : (e : EntryFields) → entry_rules e ≡ true → e.after.alive ≡ false → Ends e
unfolding entry_rules
ends_of e h dead =
    let one = and_parts (e.before.alive || e.after.alive) _ (and_parts (leb 1 e.moment) _ h).1 in
    let rules = rules_of e h in
    let flag = sym (cond-false e.after.alive (e.after.changed == e.moment) _ dead) ∙ rules.now in
    let rest = and_parts (e.before.changed == e.after.changed) _ (and_parts (e.before.size == e.after.size) _ flag).1 in
    let none = and_parts _ (length e.triples == 0) rest.1 in
    record {
      before = elim (or_cases e.before.alive e.after.alive one.0) [ inl is ↦ is | inr live ↦ absurd (both_ways e.after.alive dead live) ];
      triples = nil_from_length e.triples (eqb-true (length e.triples) 0 none.1);
    }

same_pointers : (e : EntryFields) (i : Inode) → e.triples ≡ [] → (redone e i).pointers ≡ i.pointers
unfolding redone
same_pointers e i none = ap (λ (ts : List Triple). with_after ts i.pointers) none

-- ---- entries of one moment

-- an entry that is in a group with the one before it
abbrev InGroup : ℕ → EntryFields → EntryFields → List EntryFields → Bool
InGroup count e f entries = (ltb count CHANGE_ENTRIES && continues e f) && grouped_behind (count + 1) f entries

group_next : (count : ℕ) (e f : EntryFields) (entries : List EntryFields) → grouped_behind count e (f ∷ entries) ≡ true → (c : ℕ) × (grouped_behind c f entries ≡ true)
group_next count e f entries h = elim (cases_Bool (e.moment == f.moment)) [
  | inl same ↦ (count + 1, (and_parts (ltb count CHANGE_ENTRIES && continues e f) (grouped_behind (count + 1) f entries) (sym (cond-true (e.moment == f.moment) (InGroup count e f entries) (ltb e.moment f.moment && grouped_behind 1 f entries) same) ∙ h)).1)
  | inr later ↦ (1, (and_parts (ltb e.moment f.moment) (grouped_behind 1 f entries) (sym (cond-false (e.moment == f.moment) (InGroup count e f entries) (ltb e.moment f.moment && grouped_behind 1 f entries) later) ∙ h)).1)
]

-- one after which the inode is dead is of a later moment
group_ends : (count : ℕ) (e f : EntryFields) (entries : List EntryFields) → grouped_behind count e (f ∷ entries) ≡ true → f.after.alive ≡ false → e.moment < f.moment
group_ends count e f entries h dead = elim (cases_Bool (e.moment == f.moment)) [
  | inl same ↦ (let parts = and_parts (ltb count CHANGE_ENTRIES && continues e f) (grouped_behind (count + 1) f entries) (sym (cond-true (e.moment == f.moment) (InGroup count e f entries) (ltb e.moment f.moment && grouped_behind 1 f entries) same) ∙ h) in
      let on : continues e f ≡ true = (and_parts (ltb count CHANGE_ENTRIES) (continues e f) parts.0).1 in
      let both = and_parts (f.before.alive && f.after.alive) _ on in
      absurd (both_ways f.after.alive dead (and_parts f.before.alive f.after.alive both.0).1))
  | inr later ↦ ltb-true e.moment f.moment (and_parts (ltb e.moment f.moment) (grouped_behind 1 f entries) (sym (cond-false (e.moment == f.moment) (InGroup count e f entries) (ltb e.moment f.moment && grouped_behind 1 f entries) later) ∙ h)).0
]

-- ---- a place to which a dead inode points

-- what is found after an entry is found from before it on: where that inode is dead, the one before the entry is not
one_behind : Facts → (low : ℕ) (i : Inode) (e : EntryFields) (entries : List EntryFields) (k : ℕ) (p : Place) → low ≤ e.moment → (e.after.alive ≡ false → low < e.moment) → Linked i e (redone e i) → entry_rules e ≡ true → moments_ascend_from e.moment entries ≡ true → Found (redone e i) e.moment entries k p → Shown i low (e ∷ entries) k p
one_behind f low i e entries k p le lt linked rules up found = elim found [
  | inl dead ↦ (let off : e.after.alive ≡ false = sym (ap (λ s. s.alive) linked.status_after) ∙ dead.0 in
      let ends = ends_of e rules off in
      let later : low < e.moment = lt off in
      let still : inode_after i (e ∷ entries) (e.moment - 1) ≡ i = chain_still f i e entries (e.moment - 1) (omega (arith, later)) up in
      let alive : i.alive ≡ true = ap (λ s. s.alive) linked.status_before ∙ ends.before in
      let there : Points i k p = sym (ap (λ (ps : List (Option Place)). slice_index_or ps k None) (same_pointers e i ends.triples)) ∙ dead.1 in
      (e.moment - 1, (omega (arith, later), (ap (λ (j : Inode). j.alive) still ∙ alive, ap (λ (j : Inode). pointer_at j k) still ∙ there))))
  | inr shown ↦ (let high : e.moment ≤ shown.0 = shown.1.0 in
      let on : inode_after i (e ∷ entries) shown.0 ≡ inode_after (redone e i) entries shown.0 = goes_on i e entries shown.0 (le-leb e.moment shown.0 high) in
      (shown.0, (omega (arith, le, high), (ap (λ (j : Inode). j.alive) on ∙ shown.1.1.0, ap (λ (j : Inode). pointer_at j k) on ∙ shown.1.1.1))))
]

found_behind : Facts → (count : ℕ) (before : EntryFields) (i : Inode) (entries : List EntryFields) (u k : ℕ) (p : Place) → Onward i entries → grouped_behind count before entries ≡ true → moments_ascend_from before.moment entries ≡ true → (inode_after i entries u).alive ≡ false → Points (inode_after i entries u) k p → Found i before.moment entries k p
found_behind f count before i [] u k p o group up dead points = inl (dead, points)
found_behind f count before i (e ∷ entries) u k p o group up dead points =
    let parts = and_parts (leb before.moment e.moment) (moments_ascend_from e.moment entries) up in
    elim (cases_Bool (leb e.moment u)) [
      | inl by ↦ (let on = goes_on i e entries u by in
          let next = group_next count before e entries group in
          inr (one_behind f before.moment i e entries k p (leb-true before.moment e.moment parts.0) (group_ends count before e entries group) o.1 o.2 parts.1
          (found_behind f next.0 e (redone e i) entries u k p o.3 next.1 parts.1 (sym (ap (λ (j : Inode). j.alive) on) ∙ dead) (sym (ap (λ (j : Inode). pointer_at j k) on) ∙ points))))
      | inr past ↦ absurd (both_ways i.alive (sym (ap (λ (j : Inode). j.alive) (chain_still f i e entries u (leb-false e.moment u past) parts.1)) ∙ dead) o.0)
    ]

-- a dead first inode has holes alone
no_place : HolesAlone → (created latest k : ℕ) (first : Inode) (entries : List EntryFields) (p : Place) → IsChain created latest first entries → first.alive ≡ false → Points first k p → ⊥
no_place holes created latest k first entries p h dead points =
    let none : None ≡ Some p = sym (holes created k) ∙ sym (ap (λ (i : Inode). pointer_at i k) (h.order.beginning dead)) ∙ points in
    cc

-- where the inode of some moment points, a live one does
live_place : Facts → HolesAlone → (created latest : ℕ) (first : Inode) (entries : List EntryFields) (u k : ℕ) (p : Place) → IsChain created latest first entries → Points (inode_after first entries u) k p → Shown first 0 entries k p
live_place f holes created latest first [] u k p h points = elim (cases_Bool first.alive) [
  | inl live ↦ (u, (omega arith, (live, points)))
  | inr dead ↦ absurd (no_place holes created latest k first [] p h dead points)
]
live_place f holes created latest first (e ∷ entries) u k p h points =
    let up : moments_ascend_from e.moment entries ≡ true = (and_parts (leb 0 e.moment) (moments_ascend_from e.moment entries) (f.ascend (e ∷ entries) h.groups)).1 in
    let on = begun f.redoes created latest first e entries h in
    elim (cases_Bool (inode_after first (e ∷ entries) u).alive) [
      | inl live ↦ (u, (omega arith, (live, points)))
      | inr dead ↦ elim (cases_Bool (leb e.moment u)) [
        | inl by ↦ (let goes = goes_on first e entries u by in
            let rules = rules_of e h.rules.0 in
            let one : 1 ≤ e.moment = rules.moment in
            one_behind f 0 first e entries k p (omega arith) (λ off. omega (arith, one)) on.0 h.rules.0 up
            (found_behind f 1 e (redone e first) entries u k p on.1 h.groups up (sym (ap (λ (j : Inode). j.alive) goes) ∙ dead) (sym (ap (λ (j : Inode). pointer_at j k) goes) ∙ points)))
        | inr past ↦ (let still : inode_after first (e ∷ entries) u ≡ first = chain_still f first e entries u (leb-false e.moment u past) up in
            absurd (no_place holes created latest k first (e ∷ entries) p h (sym (ap (λ (j : Inode). j.alive) still) ∙ dead) (sym (ap (λ (j : Inode). pointer_at j k) still) ∙ points)))
      ]
    ]

-- ---- seen places

-- at each moment the entries up to it are those up to some visible one
abbrev pub Throughout : (ℕ → Bool) → ℕ → List EntryFields → Type 0
Throughout visible clock entries = (t : ℕ) → (u : ℕ) × ((u ≤ clock) × ((visible u ≡ true) × (entries_by u entries ≡ entries_by t entries)))

seen_place : Facts → HolesAlone → (visible : ℕ → Bool) (created latest clock : ℕ) (first : Inode) (entries : List EntryFields) (p : Place) → IsChain created latest first entries → Throughout visible clock entries → IsPlaceOf first entries p → IsSeenPlaceOf visible first entries p
seen_place f holes visible created latest clock first entries p h seen place =
    let shown = live_place f holes created latest first entries place.0 place.1 p h place.2 in
    let there = seen shown.0 in
    let same : inode_after first entries there.0 ≡ inode_after first entries shown.0 = ap (λ (es : List EntryFields). redone_all es first) there.1.1.1 in
    (there.0, (there.1.1.0, ap (λ (j : Inode). j.alive) same ∙ shown.1.1.0, (place.1, ap (λ (j : Inode). pointer_at j place.1) same ∙ shown.1.1.1)))

-- ---- from one kind of place to another

if_within : (A B : Place → Type 0) → ((p : Place) → A p → B p) → (o : Option Place) → IfSome o A → IfSome o B
if_within A B to None h = tt
if_within A B to (Some p) h = to p h

triples_within : (A B : Place → Type 0) → ((p : Place) → A p → B p) → (triples : List Triple) → AllByRecursion (λ t. IfSome t.before A × IfSome t.after A) triples → AllByRecursion (λ t. IfSome t.before B × IfSome t.after B) triples
triples_within A B to [] h = tt
triples_within A B to (t ∷ triples) h = ((if_within A B to t.before h.0.0, if_within A B to t.after h.0.1), triples_within A B to triples h.1)

entries_within : (A B : Place → Type 0) → ((p : Place) → A p → B p) → (entries : List EntryFields) → AllByRecursion (TellsWithin A) entries → AllByRecursion (TellsWithin B) entries
entries_within A B to [] h = tt
entries_within A B to (e ∷ entries) h = (triples_within A B to e.triples h.0, entries_within A B to entries h.1)

-- ---- the kept chain

-- what the laws tell of it: it is a chain that cleaning leaves as it is, and each of its inodes is seen
pub record Known (visible : ℕ → Bool) (sees : ℕ → ℕ → Bool) (created latest clock : ℕ) (found : KeptChain) : Type 0 where
  pub chain : IsChain created latest found.first found.entries
  pub run : Run found.first found.entries found.last
  pub again : cleaned sees clock found.first found.entries ≡ Some found
  pub seen : Throughout visible clock found.entries

-- the laws of kept chains
pub record Laws : Type 0 where
  pub run : AKeptChainIsARun
  pub chain : AKeptChainIsAChain
  pub again : CleaningAgainChangesNothing
  pub seen : AKeptChainHasSeenInodesAlone
  pub places : AKeptChainPointsToOldPlaces

tells : Facts → HolesAlone → AKeptChainPointsToOldPlaces → (visible : ℕ → Bool) (sees : ℕ → ℕ → Bool) (created latest clock : ℕ) (chain : KeptChain) → Known visible sees created latest clock chain → TellsOfPlacesWithin (IsSeenPlaceOf visible chain.first chain.entries) chain.first chain.entries
tells f holes places visible sees created latest clock chain known =
    let Is : Place → Type 0 = IsPlaceOf chain.first chain.entries in
    let Seen : Place → Type 0 = IsSeenPlaceOf visible chain.first chain.entries in
    let to = λ (p : Place) (place : Is p). seen_place f holes visible created latest clock chain.first chain.entries p known.chain known.seen place in
    let old : HasPlacesWithin Is chain = subst (λ (o : Option KeptChain). IfSome o (HasPlacesWithin Is)) known.again (places sees created latest clock chain.first chain.entries known.chain) in
    record {
      each = λ t k. IfSome_from (pointer_at (inode_after chain.first chain.entries t) k) Seen (λ p is. to p (t, k, is));
      entries = entries_within Is Seen to chain.entries old.entries;
      first = λ k. if_within Is Seen to (pointer_at chain.first k) (old.first k);
      last = subst (λ (i : Inode). PointsWithin Seen i) (f.ends chain.first chain.last chain.entries known.run) (λ k. if_within Is Seen to (pointer_at chain.last k) (old.last k));
    }

some_tells : Facts → HolesAlone → AKeptChainPointsToOldPlaces → (visible : ℕ → Bool) (sees : ℕ → ℕ → Bool) (created latest clock : ℕ) (o : Option KeptChain)
    → IfSome o (λ chain. Run chain.first chain.entries chain.last) → IfSome o (λ chain. IsChain created latest chain.first chain.entries) → IfSome o (λ chain. cleaned sees clock chain.first chain.entries ≡ Some chain) → IfSome o (λ chain. Throughout visible clock chain.entries)
    → IfSome o (λ chain. TellsOfPlacesWithin (IsSeenPlaceOf visible chain.first chain.entries) chain.first chain.entries)
some_tells f holes places visible sees created latest clock None run is again seen = tt
some_tells f holes places visible sees created latest clock (Some chain) run is again seen = tells f holes places visible sees created latest clock chain (record { chain = is; run = run; again = again; seen = seen })

pub cleaned_tells : Facts → HolesAlone → Laws → AKeptChainTellsOfSeenPlacesAlone
cleaned_tells f holes l visible sees created latest clock first entries fits now le h =
    some_tells f holes l.places visible sees created latest clock (cleaned sees clock first entries)
    (l.run sees created latest clock first entries h)
    (l.chain sees created latest clock first entries h)
    (l.again sees visible created latest clock first entries h fits)
    (l.seen visible sees created latest clock first entries fits now le h)

-- ---- a live inode

some_lives : (visible : ℕ → Bool) (first : Inode) (entries : List EntryFields) (o : Option KeptChain)
    → IfSome o (λ chain. (u : ℕ) × ((visible u ≡ true) × ((inode_after first entries u).alive ≡ true)))
    → ((t : ℕ) → visible t ≡ true → IfSome o (λ chain. ShowsAlike (inode_after first entries t) (inode_after chain.first chain.entries t)))
    → IfSome o (λ chain. (u : ℕ) × ((visible u ≡ true) × ((inode_after chain.first chain.entries u).alive ≡ true)))
some_lives visible first entries None old alike = tt
some_lives visible first entries (Some chain) old alike =
    let live : (inode_after first entries old.0).alive ≡ true = old.1.1 in
    elim (alike old.0 old.1.0) [
      | inl same ↦ (old.0, (old.1.0, sym (ap (λ (j : Inode). j.alive) same) ∙ live))
      | inr dead ↦ absurd (both_ways (inode_after first entries old.0).alive dead.0 live)
    ]

pub cleaned_shows_live : AKeptChainIsSeenAlive → AKeptChainShowsTheSame → AKeptChainShowsALiveInode
cleaned_shows_live seen same visible sees created latest clock first entries fits now le h =
    some_lives visible first entries (cleaned sees clock first entries)
    (seen sees visible created latest clock first entries fits now le h)
    (λ t is. same sees visible created latest clock t first entries h fits is)
