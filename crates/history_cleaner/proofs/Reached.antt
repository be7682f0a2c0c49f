-- The data blocks that are held are those that are reached.
use Rattle.std.proofs.Common.{◌≡◌, ℕ, Bool, inl, inr, List, Option, Some, None, IsSome, refl, sym, ap, subst, ◌∙◌, arith}
use Rattle.std.specs.Prelude.{IfSome, MatchOption}
use Rattle.std.specs.List.{Contains}
use Rattle.std.proofs.lemmas.List.{get_or_default}
use Rattle.std.proofs.lemmas.List.Elements.{Contains-append_cases}
use Rattle.std.proofs.lemmas.Option.{same_Some, none-some}
use Rattle.s4_types.specs.Pointer.{Place}
use Rattle.block_log.specs.declared.kinds.BlockKind.TheVariants.{Data}
use Rattle.block_log.specs.Log.{Stored, of_kind}
use Rattle.codec.specs.Fields.{◌>>=◌}
use Rattle.codec.specs.declared.inodes.Inode.{Inode}
use Rattle.codec.specs.Checkpoint.{CheckpointFields, pointer_at}
use Rattle.codec.specs.Entry.{EntryFields}
use Rattle.undo_redo.specs.Runs.{Run, undone_all, redone_all, inode_after}
use Rattle.checkpoint.specs.Held.{checkpoint_held}
use Rattle.object_map.specs.declared.map.Row.{Row}
use Rattle.object_map.specs.Rows.{row_of}
use Rattle.time_read.specs.Rows.{IsRow, entries_of, first_of, inode_of, checkpoint_of}
use Rattle.s4_model.specs.State.{State}
use Rattle.version_store.specs.Store.{StoreFields, IsStore, IsNamed, Names, sides_told, pointers_kept, pointers_of}
use Rattle.version_store.specs.Versions.{inode_by}
use Rattle.version_store.specs.Laws.{HeldIsWhatRowsName, InodesPointToWhatRowsName}
use Rattle.chain_rewriting.specs.Chains.{IsChain}
use Rattle.chain_rewriting.specs.Cleaned.{KeptChain, cleaned}
use Rattle.chain_rewriting.specs.CleaningLaws.{IsSeenPlaceOf, TellsOfPlacesWithin, AKeptChainTellsOfSeenPlacesAlone, AnUnchangedChainIsTheKeptOne}
use Rattle.history_cleaner.specs.Laws.{HasChain, first_stored, left_of}
use Rattle.history_cleaner.specs.Sight.{is_visible}
use Rattle.history_cleaner.specs.Reaching.{IsReached, TellsOfSeenPlaces, RowTellsOfSeenPlaces, HeldIsWhatIsReached, WhatIsLeftTellsOfSeenPlaces, WhatIsLeftPointsToSeenPlaces, WhatIsLeftBeginsTheSame}
use Rattle.history_cleaner.specs.private.Chains.{ChainLaws}
use Rattle.history_cleaner.proofs.Stored.{at_moment, first_is, stored_chain}
use Rattle.history_cleaner.proofs.Standing.{some_of, left_run, left_begins, if_is, told_are}
use Rattle.history_cleaner.proofs.Seeing.{true_visible}

-- ---- what a row names

-- the pointers of a checkpoint that tells this inode, or of none, are the inode's
kept_by : (is : Place → Option CheckpointFields) (place : Option Place) (c : CheckpointFields) (none : Type 0) (p : Place) → MatchOption place none (λ q. is q ≡ Some c) → Contains (pointers_kept (place >>= is)) (Some p) → Contains c.inode.pointers (Some p)
kept_by is None c none p match there = let (n, below, at) = there in absurd (omega (arith, below))
kept_by is (Some q) c none p match there = subst (λ (x : Option CheckpointFields). Contains (pointers_kept x) (Some p)) match there

pointer_of : (i : Inode) (p : Place) → Contains i.pointers (Some p) → (n : ℕ) × (pointer_at i n ≡ Some p)
pointer_of i p there = let (n, below, at) = there in (n, get_or_default i.pointers n None (Some p) below ∙ at)

-- a place that a row names is one of which its chain tells
named_told : (Is : Place → Type 0) (s : StoreFields) (o : ℕ) (row : Row) (p : Place) → IsRow s.log.held o row → TellsOfPlacesWithin Is (first_of s.log.held o row) (entries_of s.log.held o row) → Contains (pointers_of s.log.held o row) (Some p) → Is p
named_told Is s o row p stands tells there =
    let held : Place → Option Stored = s.log.held in
    let i : Inode = inode_of held o row row.checkpoint_moment in
    let c : CheckpointFields = record { object = o; moment = row.checkpoint_moment; inode = i } in
    elim (Contains-append_cases (pointers_kept (checkpoint_of held o row)) (sides_told (entries_of held o row)) (Some p) there) [
      | inl kept ↦
          let found = pointer_of i p (kept_by (checkpoint_held held o) row.checkpoint c (row.checkpoint_moment ≡ 0) p stands.checkpoint kept) in
          let at : pointer_at (inode_after (first_of held o row) (entries_of held o row) row.checkpoint_moment) found.0 ≡ Some p = ap (λ (x : Inode). pointer_at x found.0) (sym (at_moment s o row row.checkpoint_moment)) ∙ found.1 in
          if_is Is (pointer_at (inode_after (first_of held o row) (entries_of held o row) row.checkpoint_moment) found.0) p at (tells.each row.checkpoint_moment found.0)
      | inr sides ↦ told_are Is (entries_of held o row) p tells.entries sides
    ]

-- ---- what is seen is reached

seen_reached : (s : StoreFields) (state : State) (o : ℕ) (row : Row) (p : Place) → row_of s.rows o ≡ Some row → IsSeenPlaceOf (is_visible state o) (first_of s.log.held o row) (entries_of s.log.held o row) p → IsReached s state o p
seen_reached s state o row p there seen =
    let u : ℕ = seen.0 in
    let is = at_moment s o row u in
    record {
      moment = u;
      visible = true_visible state o u seen.1.0;
      inode = inode_of s.log.held o row u;
      current = ap (inode_by s.log.held o u) there;
      alive = ap (λ (i : Inode). i.alive) is ∙ seen.1.1;
      index = seen.1.2.0;
      at = ap (λ (i : Inode). pointer_at i seen.1.2.0) is ∙ seen.1.2.1;
    }

reached_held : HeldIsWhatRowsName → InodesPointToWhatRowsName → (s : StoreFields) (state : State) (o : ℕ) (p : Place) → IsStore s → IsReached s state o p → IsSome (of_kind Data o s.log.held p)
reached_held exact points s state o p store reached = (exact s o Data p store).1 (points s o reached.moment reached.index reached.inode p reached.current reached.at)

held_reached : (s : StoreFields) (state : State) (o : ℕ) (p : Place) (r : Option Row) → IsStore s → row_of s.rows o ≡ r → IfSome r (RowTellsOfSeenPlaces s state o) → IsNamed s o Data p → IsReached s state o p
held_reached s state o p None store is tells named = absurd (none-some named.row (sym is ∙ named.there))
held_reached s state o p (Some row) store is tells named =
    let same : named.row ≡ row = same_Some named.row row (sym named.there ∙ is) in
    let names : Names s.log.held o row Data p = subst (λ (x : Row). Names s.log.held o x Data p) same named.names in
    seen_reached s state o row p is (named_told (IsSeenPlaceOf (is_visible state o) (first_of s.log.held o row) (entries_of s.log.held o row)) s o row p (store.objects o row is).stands tells names)

pub held_is_reached : HeldIsWhatRowsName → InodesPointToWhatRowsName → HeldIsWhatIsReached
held_is_reached exact points s state o store tells p = (
  λ held. held_reached s state o p (row_of s.rows o) store refl tells ((exact s o Data p store).0 held),
  λ reached. reached_held exact points s state o p store reached,
)

-- ---- what is left of a chain

pub record Laws : Type 0 where
  pub chain : ChainLaws
  pub tells : AKeptChainTellsOfSeenPlacesAlone
  pub unchanged : AnUnchangedChainIsTheKeptOne

pub left_tells : Laws → WhatIsLeftTellsOfSeenPlaces
left_tells laws sees visible s o clock row chain h sight left =
    let first : Inode = first_stored s o row clock in
    let entries : List EntryFields = entries_of s.log.held o row in
    let base : IsChain row.created clock first entries = (stored_chain laws.chain s o clock row h).1 in
    subst (λ (i : Inode). TellsOfSeenPlaces visible i chain.entries) (left_begins laws.chain sees s o clock row chain h left)
    (some_of (cleaned sees clock first entries) (λ c. TellsOfSeenPlaces visible c.first c.entries) chain left (laws.tells visible sees row.created clock clock first entries sight.fits sight.now (omega arith) base))

pub left_points : Laws → WhatIsLeftPointsToSeenPlaces
left_points laws sees visible s o clock row chain p h sight left there =
    let first : Inode = first_stored s o row clock in
    let entries : List EntryFields = entries_of s.log.held o row in
    let base : IsChain row.created clock first entries = (stored_chain laws.chain s o clock row h).1 in
    let start : Inode = undone_all chain.entries chain.last in
    let run : Run chain.first chain.entries chain.last = left_run laws.chain sees s o clock row chain h left in
    let end : redone_all chain.entries start ≡ chain.last = ap (redone_all chain.entries) (sym (laws.chain.run.begins chain.first chain.last chain.entries run)) ∙ sym (laws.chain.run.ends chain.first chain.last chain.entries run) in
    let tells : TellsOfSeenPlaces visible start chain.entries = left_tells laws sees visible s o clock row chain h sight left in
    let Is : Place → Type 0 = IsSeenPlaceOf visible start chain.entries in
    elim (Contains-append_cases chain.last.pointers (sides_told chain.entries) (Some p) there) [
      | inl kept ↦
          let found = pointer_of chain.last p kept in
          if_is Is (pointer_at (redone_all chain.entries start) found.0) p (ap (λ (i : Inode). pointer_at i found.0) end ∙ found.1) (tells.last found.0)
      | inr sides ↦ told_are Is chain.entries p tells.entries sides
    ]

pub left_same : Laws → WhatIsLeftBeginsTheSame
left_same laws sees visible s o clock row chain h sight left same =
    let first : Inode = first_stored s o row clock in
    let entries : List EntryFields = entries_of s.log.held o row in
    let base : IsChain row.created clock first entries = (stored_chain laws.chain s o clock row h).1 in
    sym (left_begins laws.chain sees s o clock row chain h left)
    ∙ ((some_of (cleaned sees clock first entries) (λ c. c.entries ≡ entries → (c.first ≡ first) × (c.last ≡ redone_all entries first)) chain left (laws.unchanged visible sees row.created clock clock first entries sight.fits sight.now (omega arith) base)) same).0
    ∙ first_is laws.chain.run s o clock row h
