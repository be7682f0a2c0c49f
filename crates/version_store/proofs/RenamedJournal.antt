-- A renaming whose new places held nothing is apart from what an object's row tells, and the row can tell the renamed journal.
use Rattle.std.proofs.Common.{◌≡◌, ℕ, ◌≤◌, Bool, true, List, Option, Some, None, IsSome, IfSome, MatchOption, is_some, option_map, refl, sym, ap, subst, ◌∙◌}
use Rattle.std.proofs.lemmas.List.Elements.{All-weaker}
use Rattle.s4_types.specs.Pointer.{Place}
use Rattle.s4_types.specs.declared.limits.TheConstants.{CHAIN_ENTRY_BYTES}
use Rattle.lemmas.proofs.Option.{IfSome_from}
use Rattle.block_log.specs.Log.{Stored, seen_as}
use Rattle.block_log.specs.declared.kinds.BlockKind.TheVariants.{Data}
use Rattle.codec.specs.Fields.{◌>>=◌}
use Rattle.codec.specs.Checkpoint.{CheckpointFields, pointer_at, checkpoint_rules}
use Rattle.codec.specs.Entry.{EntryFields}
use Rattle.codec.specs.declared.inodes.Inode.{Inode}
use Rattle.undo_redo.specs.Runs.{Run, blank, redone_all, inode_after, entries_by, undone_all}
use Rattle.checkpoint.specs.Held.{checkpoint_held}
use Rattle.object_map.specs.declared.map.Row.{Row}
use Rattle.time_read.specs.Rows.{IsRow, entries_of, checkpoint_of, first_of, inode_before, inode_of}
use Rattle.row_changes.specs.Moving.{CanTell, checkpoint_at, checkpoint_with, first_with}
use Rattle.chain_rewriting.specs.Renaming.{RenamingFields, move_of, renamed_entries, renamed_inode}
use Rattle.chain_rewriting.specs.Apart.{Passes, ToldWithin, HasDistinctPlaces, IsApart}
use Rattle.chain_rewriting.specs.Places.{WhatIsToldIsListed, ATestTellsApart}
use Rattle.chain_rewriting.specs.RenamingLaws.{RenamingCommutesWithRedoOfAll, RenamingCommutesWithUndoOfAll, ARenamedChainShowsRenamedInodes, ARenamedRunIsARun, ABlankInodeStays, ARenamedChainTakesAsManyBytes, RenamedEntriesStayInGroups, RenamedEntriesUpToAMoment, ARenamedCheckpointKeepsTheRules}
use Rattle.version_store.specs.Store.{IsLed, pointers_kept, pointers_of}
use Rattle.version_store.specs.Relocating.{renamed_checkpoint}
use Rattle.version_store.specs.private.Replacing.{RunsEnd}
use Rattle.version_store.proofs.Telling.{Leads, first_told, led_there}

-- ---- apart

-- something is held there
abbrev pub is_held : (Place → Option Stored) → Place → Bool
is_held held p = is_some (held p)

seen_held : (o : ℕ) (block : Option Stored) → IsSome (seen_as Data o block) → is_some block ≡ true
seen_held o None h = h
seen_held o (Some block) h = refl

slot_held : (held : Place → Option Stored) (o : ℕ) (slot : Option Place) → IsLed held o slot → IfSome slot (Passes (is_held held))
slot_held held o None led = tt
slot_held held o (Some p) led = seen_held o (held p) led

-- an inode of these pointers
abbrev pub of_pointers : List (Option Place) → Inode
of_pointers pointers = record (blank 0) { pointers = pointers }

-- the places of which the row's chain tells are held
told_held : WhatIsToldIsListed → (held : Place → Option Stored) (o : ℕ) (row : Row) → Leads held o (pointers_of held o row) → ToldWithin (Passes (is_held held)) (first_of held o row) (entries_of held o row)
told_held listed held o row led =
    let all = All-weaker (IsLed held o) (λ slot. IfSome slot (Passes (is_held held))) (λ slot one. slot_held held o slot one) (pointers_of held o row) led in
    let told : ToldWithin (Passes (is_held held)) (of_pointers (pointers_kept (checkpoint_of held o row))) (entries_of held o row) =
    (listed (is_held held) (of_pointers (pointers_kept (checkpoint_of held o row))) (entries_of held o row)).1 all in
    record {
      pointers = λ k. IfSome_from (pointer_at (first_of held o row) k) (Passes (is_held held))
          (λ p at. seen_held o (held p) (led_there held o (pointers_of held o row) p led (first_told row.created row.checkpoint_moment (entries_of held o row) (checkpoint_of held o row) k p at)));
      sides = told.sides;
    }

pub told_apart : WhatIsToldIsListed → ATestTellsApart → (held : Place → Option Stored) (o : ℕ) (row : Row) (r : RenamingFields) → HasDistinctPlaces r → ((n : ℕ) (q : Place) → move_of r n ≡ Some q → held q ≡ None) → Leads held o (pointers_of held o row)
    → IsApart r (first_of held o row) (entries_of held o row)
told_apart listed law held o row r distinct fresh led =
    law (is_held held) r (first_of held o row) (entries_of held o row) distinct (λ n p at. ap is_some (fresh n p at)) (told_held listed held o row led)

-- ---- what the row can tell

-- the renamed inode of a checkpoint
abbrev pub kept_renamed : RenamingFields → Option CheckpointFields → Option Inode
kept_renamed r c = option_map (renamed_inode r) (option_map (λ k. k.inode) c)

before_renamed : ABlankInodeStays → RenamingCommutesWithUndoOfAll → RenamedEntriesUpToAMoment → (o : ℕ) (row : Row) (r : RenamingFields) (entries : List EntryFields) (c : Option CheckpointFields)
    → first_with o row (kept_renamed r c) (renamed_entries r entries) ≡ renamed_inode r (inode_before row.created row.checkpoint_moment entries c)
unfolding inode_before
before_renamed blank undo by o row r entries None = sym (blank r row.created)
before_renamed blank undo by o row r entries (Some c) =
    ap (λ (es : List EntryFields). undone_all es (renamed_inode r c.inode)) (by r row.checkpoint_moment entries) ∙ undo r c.inode (entries_by row.checkpoint_moment entries)

pub first_renamed : ABlankInodeStays → RenamingCommutesWithUndoOfAll → RenamedEntriesUpToAMoment → (held : Place → Option Stored) (o : ℕ) (row : Row) (r : RenamingFields)
    → first_with o row (kept_renamed r (checkpoint_of held o row)) (renamed_entries r (entries_of held o row)) ≡ renamed_inode r (first_of held o row)
first_renamed blank undo by held o row r = before_renamed blank undo by o row r (entries_of held o row) (checkpoint_of held o row)

told_current : (N : Type 0) (place : Option Place) (read : Place → Option CheckpointFields) (c : CheckpointFields) → MatchOption place N (λ p. read p ≡ Some c) → IfSome (place >>= read) (λ k. k ≡ c)
told_current N None read c told = tt
told_current N (Some p) read c told = subst (λ (x : Option CheckpointFields). IfSome x (λ k. k ≡ c)) (sym told) refl

told_same : (N : Type 0) (place : Option Place) (read : Place → Option CheckpointFields) (c : CheckpointFields) → MatchOption place N (λ p. read p ≡ Some c) → is_some (place >>= read) ≡ is_some place
told_same N None read c told = refl
told_same N (Some p) read c told = ap is_some told

-- the checkpoint of the moment, with the inode that is current then
abbrev pub checkpoint_now : (Place → Option Stored) → ℕ → Row → CheckpointFields
checkpoint_now held o row = record { object = o; moment = row.checkpoint_moment; inode = inode_of held o row row.checkpoint_moment }

same_kept : (r : RenamingFields) (c : Option CheckpointFields) → is_some (kept_renamed r c) ≡ is_some c
same_kept r None = refl
same_kept r (Some c) = refl

rules_kept : ARenamedCheckpointKeepsTheRules → (o : ℕ) (row : Row) (r : RenamingFields) (c : Option CheckpointFields) (now : CheckpointFields) → now.object ≡ o → now.moment ≡ row.checkpoint_moment → IfSome c (λ k. k ≡ now) → IfSome c (λ k. checkpoint_rules k ≡ true)
    → IfSome (kept_renamed r c) (λ i. checkpoint_rules (checkpoint_at o row i) ≡ true)
rules_kept law o row r None now object moment is rules = tt
rules_kept law o row r (Some c) now object moment is rules =
    let of_object : c.object ≡ o = ap (λ (k : CheckpointFields). k.object) is ∙ object in
    let of_moment : c.moment ≡ row.checkpoint_moment = ap (λ (k : CheckpointFields). k.moment) is ∙ moment in
    ap (λ n. checkpoint_rules (record { object = n; moment = row.checkpoint_moment; inode = renamed_inode r c.inode })) (sym of_object)
    ∙ ap (λ n. checkpoint_rules (record { object = c.object; moment = n; inode = renamed_inode r c.inode })) (sym of_moment)
    ∙ law r c ∙ rules

current_kept : (r : RenamingFields) (c : Option CheckpointFields) (now : CheckpointFields) (i : Inode) → IfSome c (λ k. k ≡ now) → renamed_inode r now.inode ≡ i → IfSome (kept_renamed r c) (λ j. j ≡ i)
current_kept r None now i is shown = tt
current_kept r (Some c) now i is shown = ap (λ (k : CheckpointFields). renamed_inode r k.inode) is ∙ shown

-- at each moment the renamed journal shows the renamed inode
pub shown_renamed : ABlankInodeStays → RenamingCommutesWithUndoOfAll → RenamedEntriesUpToAMoment → ARenamedChainShowsRenamedInodes → (held : Place → Option Stored) (o : ℕ) (row : Row) (r : RenamingFields) (t : ℕ)
    → inode_after (first_with o row (kept_renamed r (checkpoint_of held o row)) (renamed_entries r (entries_of held o row))) (renamed_entries r (entries_of held o row)) t ≡ renamed_inode r (inode_of held o row t)
unfolding inode_of
shown_renamed blank undo by shown held o row r t =
    ap (λ (i : Inode). inode_after i (renamed_entries r (entries_of held o row)) t) (first_renamed blank undo by held o row r) ∙ shown r (first_of held o row) (entries_of held o row) t

-- The laws that a renamed journal rests on.
pub record RenamingStands : Type 0 where
  pub blank : ABlankInodeStays
  pub undo : RenamingCommutesWithUndoOfAll
  pub redo : RenamingCommutesWithRedoOfAll
  pub by : RenamedEntriesUpToAMoment
  pub shown : ARenamedChainShowsRenamedInodes
  pub run : ARenamedRunIsARun
  pub groups : RenamedEntriesStayInGroups
  pub bytes : ARenamedChainTakesAsManyBytes
  pub rules : ARenamedCheckpointKeepsTheRules
  pub end : RunsEnd

pub can_tell : RenamingStands → (held : Place → Option Stored) (o : ℕ) (row : Row) (r : RenamingFields) → IsRow held o row → IfSome (checkpoint_of held o row) (λ c. checkpoint_rules c ≡ true)
    → CanTell o row (kept_renamed r (checkpoint_of held o row)) (renamed_entries r (entries_of held o row))
can_tell laws held o row r stands rules =
    let entries : List EntryFields = entries_of held o row in
    let first : Inode = first_of held o row in
    let kept : Option Inode = kept_renamed r (checkpoint_of held o row) in
    let start : first_with o row kept (renamed_entries r entries) ≡ renamed_inode r first = first_renamed laws.blank laws.undo laws.by held o row r in
    let is = told_current (row.checkpoint_moment ≡ 0) row.checkpoint (checkpoint_held held o) (checkpoint_now held o row) stands.checkpoint in
    let last : renamed_inode r stands.last ≡ redone_all (renamed_entries r entries) (renamed_inode r first) = ap (renamed_inode r) (laws.end first stands.last entries stands.run) ∙ sym (laws.redo r first entries) in
    let run : Run (renamed_inode r first) (renamed_entries r entries) (redone_all (renamed_entries r entries) (renamed_inode r first)) = subst (λ (j : Inode). Run (renamed_inode r first) (renamed_entries r entries) j) last (laws.run r first stands.last entries stands.run) in
    record {
      same = same_kept r (checkpoint_of held o row) ∙ told_same (row.checkpoint_moment ≡ 0) row.checkpoint (checkpoint_held held o) (checkpoint_now held o row) stands.checkpoint;
      rules = rules_kept laws.rules o row r (checkpoint_of held o row) (checkpoint_now held o row) refl refl is rules;
      current = current_kept r (checkpoint_of held o row) (checkpoint_now held o row) (inode_after (first_with o row kept (renamed_entries r entries)) (renamed_entries r entries) row.checkpoint_moment) is
          (sym (shown_renamed laws.blank laws.undo laws.by laws.shown held o row r row.checkpoint_moment));
      run = subst (λ (i : Inode). Run i (renamed_entries r entries) (redone_all (renamed_entries r entries) i)) (sym start) run;
      groups = laws.groups r entries ∙ stands.groups;
      bytes = subst (λ n. n ≤ CHAIN_ENTRY_BYTES) (sym (laws.bytes r entries)) stands.chain.limit;
      created = ap (λ (i : Inode). i.created) start ∙ stands.created;
    }

-- the checkpoint that is told is the renamed one
told_is : (o : ℕ) (row : Row) (r : RenamingFields) (c : Option CheckpointFields) (now : CheckpointFields) → now.object ≡ o → now.moment ≡ row.checkpoint_moment → IfSome c (λ k. k ≡ now) → checkpoint_with o row (kept_renamed r c) ≡ option_map (renamed_checkpoint r) c
told_is o row r None now object moment is = refl
told_is o row r (Some c) now object moment is =
    let of_object : c.object ≡ o = ap (λ (k : CheckpointFields). k.object) is ∙ object in
    let of_moment : c.moment ≡ row.checkpoint_moment = ap (λ (k : CheckpointFields). k.moment) is ∙ moment in
    ap (λ n. Some (record { object = n; moment = row.checkpoint_moment; inode = renamed_inode r c.inode })) (sym of_object)
    ∙ ap (λ n. Some (record { object = c.object; moment = n; inode = renamed_inode r c.inode })) (sym of_moment)

pub checkpoint_renamed : (held : Place → Option Stored) (o : ℕ) (row : Row) (r : RenamingFields) → IsRow held o row → checkpoint_with o row (kept_renamed r (checkpoint_of held o row)) ≡ option_map (renamed_checkpoint r) (checkpoint_of held o row)
checkpoint_renamed held o row r stands =
    told_is o row r (checkpoint_of held o row) (checkpoint_now held o row) refl refl (told_current (row.checkpoint_moment ≡ 0) row.checkpoint (checkpoint_held held o) (checkpoint_now held o row) stands.checkpoint)
