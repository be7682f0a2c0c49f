-- What is left of an object's chain represents the same versions.
use Rattle.std.proofs.Common.{◌≡◌, ℕ, ◌≤◌, Bool, true, false, leb, cond, inl, inr, List, Option, Some, None, sym, ap, ◌∙◌, arith}
use Rattle.s4_types.specs.Pointer.{Place}
use Rattle.s4_types.specs.declared.versions.Version.TheVariants.{Absent, Live}
use Rattle.codec.specs.declared.inodes.Inode.{Inode}
use Rattle.codec.specs.Entry.{EntryFields}
use Rattle.undo_redo.specs.Runs.{AllBy, undone_all, inode_after, entries_by}
use Rattle.inode.specs.Contents.{contents_of, meaning, bytes_of}
use Rattle.object_map.specs.declared.map.Row.{Row}
use Rattle.time_read.specs.Rows.{entries_of, inode_of, first_of}
use Rattle.version_store.specs.Store.{StoreFields}
use Rattle.version_store.specs.Versions.{inode_by, version_by, version_in}
use Rattle.version_store.specs.Replacing.{inode_led}
use Rattle.chain_rewriting.specs.Chains.{IsChain}
use Rattle.chain_rewriting.specs.Cleaned.{KeptChain, cleaned}
use Rattle.chain_rewriting.specs.CleaningLaws.{ShowsAlike, AKeptChainHasOldMoments, AKeptChainShowsTheSame, NoKeptChainShowsNothing, AKeptChainIsSeenAlive, AKeptChainHasSeenInodesAlone}
use Rattle.drive.proofs.Told.{live_meaning}
use Rattle.history_cleaner.specs.Laws.{HasChain, IsSight, first_stored, left_of, WhatIsLeftShowsTheSame, NothingIsLeftOfTheAbsent, WhatIsLeftIsSeen, WhatIsLeftIsSeenThroughout}
use Rattle.history_cleaner.specs.private.Chains.{RunLaws, ChainLaws}
use Rattle.history_cleaner.proofs.Stored.{at_moment, shown_is, stored_chain}
use Rattle.history_cleaner.proofs.Standing.{some_of, left_begins}

pub record Laws : Type 0 where
  pub chain : ChainLaws
  pub old : AKeptChainHasOldMoments
  pub same : AKeptChainShowsTheSame
  pub none : NoKeptChainShowsNothing
  pub alive : AKeptChainIsSeenAlive
  pub seen : AKeptChainHasSeenInodesAlone

dead_means : (contents : Place → List ℕ) (i : Inode) → i.alive ≡ false → meaning contents i ≡ Absent
dead_means contents i dead = ap (λ (b : Bool). cond b (Live (bytes_of contents i) i.attribute i.created i.changed) Absent) dead

alike_means : (contents : Place → List ℕ) (i j : Inode) → ShowsAlike i j → meaning contents j ≡ meaning contents i
alike_means contents i j alike = elim alike [
  | inl is ↦ sym (ap (meaning contents) is)
  | inr dead ↦ dead_means contents j dead.1 ∙ sym (dead_means contents i dead.0)
]

-- the version is what the inode means
version_is : (s : StoreFields) (o clock t : ℕ) (row : Row) → HasChain s o row clock → version_in s o t ≡ meaning (contents_of s.log.held) (inode_of s.log.held o row t)
version_is s o clock t row h = ap (λ (r : Option Row). version_by s.log.held (inode_by s.log.held o t r)) h.there

-- from the clock on it is the same
version_stays : RunLaws → (s : StoreFields) (o clock t : ℕ) (row : Row) → HasChain s o row clock → clock ≤ t → version_in s o t ≡ version_in s o clock
version_stays laws s o clock t row h le =
    let by = (h.store.objects o row h.there).by.entries in
    let first : Inode = first_of s.log.held o row in
    let entries : List EntryFields = entries_of s.log.held o row in
    let low : s.latest ≤ clock = h.latest in
    let same : inode_of s.log.held o row t ≡ inode_of s.log.held o row clock =
    at_moment s o row t ∙ laws.since first entries s.latest t by (omega (arith, low, le)) ∙ sym (laws.since first entries s.latest clock by low) ∙ sym (at_moment s o row clock) in
    version_is s o clock t row h ∙ ap (meaning (contents_of s.log.held)) same ∙ sym (version_is s o clock clock row h)

-- ---- what is left

seen_same : Laws → (sees : ℕ → ℕ → Bool) (visible : ℕ → Bool) (s : StoreFields) (o clock t : ℕ) (row : Row) (chain : KeptChain) → HasChain s o row clock → IsSight sees visible clock → left_of sees s o row clock ≡ Some chain → visible t ≡ true
    → meaning (contents_of s.log.held) (inode_led chain.last chain.entries t) ≡ version_in s o t
seen_same laws sees visible s o clock t row chain h sight left seen =
    let contents : Place → List ℕ = contents_of s.log.held in
    let first : Inode = first_stored s o row clock in
    let entries : List EntryFields = entries_of s.log.held o row in
    let base : IsChain row.created clock first entries = (stored_chain laws.chain s o clock row h).1 in
    let alike : ShowsAlike (inode_after first entries t) (inode_after chain.first chain.entries t) =
    some_of (cleaned sees clock first entries) (λ c. ShowsAlike (inode_after first entries t) (inode_after c.first c.entries t)) chain left (laws.same sees visible row.created clock clock t first entries base sight.fits seen) in
    ap (λ (i : Inode). meaning contents (inode_after i chain.entries t)) (sym (left_begins laws.chain sees s o clock row chain h left))
    ∙ alike_means contents (inode_after first entries t) (inode_after chain.first chain.entries t) alike
    ∙ ap (meaning contents) (shown_is laws.chain.run s o clock t row h)
    ∙ sym (version_is s o clock t row h)

pub left_same : Laws → WhatIsLeftShowsTheSame
left_same laws sees visible s o clock t row chain h sight left of = elim of [
  | inl seen ↦ seen_same laws sees visible s o clock t row chain h sight left seen
  | inr le ↦
      let low : s.latest ≤ clock = h.latest in
      let start : Inode = undone_all chain.entries chain.last in
      let by : AllBy s.latest chain.entries = some_of (left_of sees s o row clock) (λ c. AllBy s.latest c.entries) chain left (laws.old (λ m. leb m s.latest) sees clock (first_stored s o row clock) (entries_of s.log.held o row) (h.store.objects o row h.there).by.entries) in
      let stays : inode_after start chain.entries t ≡ inode_after start chain.entries clock = laws.chain.run.since start chain.entries s.latest t by (omega (arith, low, le)) ∙ sym (laws.chain.run.since start chain.entries s.latest clock by low) in
      ap (meaning (contents_of s.log.held)) stays
      ∙ seen_same laws sees visible s o clock clock row chain h sight left sight.now
      ∙ sym (version_stays laws.chain.run s o clock t row h le)
]

-- ---- where nothing is left

seen_absent : Laws → (sees : ℕ → ℕ → Bool) (visible : ℕ → Bool) (s : StoreFields) (o clock t : ℕ) (row : Row) → HasChain s o row clock → IsSight sees visible clock → left_of sees s o row clock ≡ None → visible t ≡ true → version_in s o t ≡ Absent
seen_absent laws sees visible s o clock t row h sight left seen =
    let first : Inode = first_stored s o row clock in
    let entries : List EntryFields = entries_of s.log.held o row in
    let base : IsChain row.created clock first entries = (stored_chain laws.chain s o clock row h).1 in
    let dead : (inode_after first entries t).alive ≡ false = laws.none sees visible row.created clock clock t first entries base sight.fits seen left in
    version_is s o clock t row h ∙ dead_means (contents_of s.log.held) (inode_of s.log.held o row t) (sym (ap (λ (i : Inode). i.alive) (shown_is laws.chain.run s o clock t row h)) ∙ dead)

pub none_absent : Laws → NothingIsLeftOfTheAbsent
none_absent laws sees visible s o clock t row h sight left of = elim of [
  | inl seen ↦ seen_absent laws sees visible s o clock t row h sight left seen
  | inr le ↦ version_stays laws.chain.run s o clock t row h le ∙ seen_absent laws sees visible s o clock clock row h sight left sight.now
]

-- ---- where something is left

not_live : (bytes attribute : List ℕ) (created changed : ℕ) → Live bytes attribute created changed ≡ Absent → ⊥
not_live bytes attribute created changed is = cc

pub left_seen : Laws → WhatIsLeftIsSeen
left_seen laws sees visible s o clock row chain h sight left =
    let first : Inode = first_stored s o row clock in
    let entries : List EntryFields = entries_of s.log.held o row in
    let base : IsChain row.created clock first entries = (stored_chain laws.chain s o clock row h).1 in
    let found = some_of (cleaned sees clock first entries) (λ c. (u : ℕ) × ((visible u ≡ true) × ((inode_after first entries u).alive ≡ true))) chain left (laws.alive sees visible row.created clock clock first entries sight.fits sight.now (omega arith) base) in
    let i : Inode = inode_of s.log.held o row found.0 in
    let there : version_in s o found.0 ≡ Live (bytes_of (contents_of s.log.held) i) i.attribute i.created i.changed =
    version_is s o clock found.0 row h ∙ live_meaning (contents_of s.log.held) i (sym (ap (λ (j : Inode). j.alive) (shown_is laws.chain.run s o clock found.0 row h)) ∙ found.1.1) in
    (found.0, (found.1.0, λ absent. not_live (bytes_of (contents_of s.log.held) i) i.attribute i.created i.changed (sym there ∙ absent)))

pub left_throughout : Laws → WhatIsLeftIsSeenThroughout
left_throughout laws sees visible s o clock t row chain h sight left =
    let first : Inode = first_stored s o row clock in
    let entries : List EntryFields = entries_of s.log.held o row in
    let base : IsChain row.created clock first entries = (stored_chain laws.chain s o clock row h).1 in
    let there = some_of (cleaned sees clock first entries) (λ c. (t : ℕ) → (u : ℕ) × ((u ≤ clock) × ((visible u ≡ true) × (entries_by u c.entries ≡ entries_by t c.entries)))) chain left (laws.seen visible sees row.created clock clock first entries sight.fits sight.now (omega arith) base) t in
    (there.0, there.1.1)
