-- An object of an image of any version can be written anew.
use Rattle.std.proofs.Common.{◌≡◌, ℕ, ◌*◌, ◌≤◌, Bool, true, false, List, [], ◌++◌, get_or, Option, Some, None, option_map, refl, sym, ap, ◌∙◌, subst, arith}
use Rattle.std.specs.Prelude.{IfSome, MatchOption}
use Rattle.std.specs.List.{All}
use Rattle.std.proofs.lemmas.Option.{cond_some}
use Rattle.s4_types.specs.Pointer.{Place}
use Rattle.s4_types.specs.declared.limits.TheConstants.{CHAIN_ENTRY_BYTES}
use Rattle.block_log.specs.Log.{Stored}
use Rattle.codec.specs.Fields.{◌>>=◌}
use Rattle.codec.specs.declared.inodes.Inode.{Inode}
use Rattle.codec.specs.Checkpoint.{CheckpointFields, checkpoint_rules, pointer_at}
use Rattle.codec.specs.Entry.{EntryFields, entries_length, entries_length_by}
use Rattle.codec.specs.Parts.{whole, joined}
use Rattle.codec.specs.Versions.{chain_entry_bytes_by}
use Rattle.codec.specs.declared.first_blocks.FirstBlock.{FirstBlock}
use Rattle.codec.specs.declared.versions.ImageVersion.{ImageVersion}
use Rattle.codec.specs.declared.versions.ImageVersion.TheVariants.{First, Second}
use Rattle.codec.proofs.Exact.{bind_some}
use Rattle.undo_redo.specs.Runs.{Run, redone_all, undone_all, entries_by, inode_after, blank}
use Rattle.checkpoint.specs.Held.{checkpoint_held, checkpoint_in, checkpoint_of, of_checkpoints, first_in, part_in}
use Rattle.time_read.specs.Rows.{inode_before}
use Rattle.time_read.specs.Orderly.{IsFromTo, BeginsDead}
use Rattle.chain_rewriting.specs.Apart.{Passes, ToldWithin}
use Rattle.chain_rewriting.specs.CleaningLaws.{PointsWithin, TellsWithin}
use Rattle.chain_rewriting.specs.Places.{WhatIsToldIsListed, AChainIsToldFromEitherEnd}
use Rattle.chain_rewriting.proofs.Told.{by_within}
use Rattle.row_changes.specs.Moving.{checkpoint_made, first_kept}
use Rattle.version_store.specs.Store.{pointers_kept, sides_told}
use Rattle.image_objects.specs.declared.rows.ImageRow.{ImageRow}
use Rattle.image_objects.specs.Inodes.{TellsTheRow, HasItsPlace, CheckpointStands, first_before, checkpoint_used}
use Rattle.image_objects.specs.Versions.{entries_used_by, first_used_by}
use Rattle.image_objects.specs.Writing.{inode_kept_in, is_data_of, AnObjectOfAVersionCanBeWritten}
use Rattle.image_objects.proofs.Keeping.{same_fields, created_is, first_undone}
use Rattle.image_objects.proofs.Grouping.{groups_of_a_version}

-- what the crates below say
pub record Laws : Type 0 where
  pub listed : WhatIsToldIsListed
  pub ends : AChainIsToldFromEitherEnd
  pub holes : (created n : ℕ) → pointer_at (blank created) n ≡ None
  pub grow : (entries : List EntryFields) → 17 * entries_length entries ≤ 18 * entries_length_by First entries

-- ---- bytes

few_bytes : Laws → (v : ImageVersion) (entries : List EntryFields) → entries_length_by v entries ≤ chain_entry_bytes_by v → entries_length entries ≤ CHAIN_ENTRY_BYTES
few_bytes laws First entries h =
    let few : entries_length_by First entries ≤ 11712 = h in
    let grown : 17 * entries_length entries ≤ 18 * entries_length_by First entries = laws.grow entries in
    omega (arith, few, grown)
few_bytes laws Second entries h = h

-- ---- a checkpoint keeps the rules

rules_of : (f : FirstBlock) (one two three : List (Option Place)) (c : CheckpointFields) → joined f one two three ≡ Some c → checkpoint_rules c ≡ true
rules_of f one two three c is =
    let w : CheckpointFields = whole f (f.pointers ++ (one ++ (two ++ three))) in
    let made = cond_some (checkpoint_rules w) w c is in
    subst (λ (k : CheckpointFields). checkpoint_rules k ≡ true) made.1 made.0

rules_in : (view : Place → Option (List ℕ)) (f : FirstBlock) (c : CheckpointFields) → checkpoint_of view f ≡ Some c → checkpoint_rules c ≡ true
rules_in view f c is =
    let (one, first, rest) = bind_some (part_in view f 1 (get_or f.parts 0 None)) (λ one. part_in view f 2 (get_or f.parts 1 None) >>= λ two. part_in view f 3 (get_or f.parts 2 None) >>= λ three. joined f one two three) c is in
    let (two, second, more) = bind_some (part_in view f 2 (get_or f.parts 1 None)) (λ two. part_in view f 3 (get_or f.parts 2 None) >>= λ three. joined f one two three) c rest in
    let (three, third, made) = bind_some (part_in view f 3 (get_or f.parts 2 None)) (λ three. joined f one two three) c more in
    rules_of f one two three c made

rules_held : (used : Place → Option Stored) (o : ℕ) (p : Place) (c : CheckpointFields) → checkpoint_held used o p ≡ Some c → checkpoint_rules c ≡ true
unfolding checkpoint_in
rules_held used o p c is =
    let (f, there, rest) = bind_some (first_in (of_checkpoints o used) p) (checkpoint_of (of_checkpoints o used)) c is in
    rules_in (of_checkpoints o used) f c rest

-- ---- the beginning, by the checkpoint that is found

abbrev Begins : ImageRow → ℕ → List EntryFields → Inode → Option CheckpointFields → Type 0
Begins row clock entries first found =
    MatchOption found ((row.checkpoint_moment ≡ 0) × BeginsDead entries × (first ≡ blank row.created))
    (λ c. (checkpoint_rules c ≡ true) × TellsTheRow row clock c × HasItsPlace row.checkpoint_moment entries c.inode × (first ≡ undone_all (entries_by row.checkpoint_moment entries) c.inode))

blank_first : (used : Place → Option Stored) (row : ImageRow) (entries : List EntryFields) → row.checkpoint ≡ None → first_before used row entries ≡ blank row.created
unfolding inode_before
blank_first used row entries names =
    ap (λ (o : Option CheckpointFields). inode_before row.created row.checkpoint_moment entries o) (ap (λ (q : Option Place). q >>= checkpoint_held used row.object) names)

begins : (used : Place → Option Stored) (row : ImageRow) (clock : ℕ) (entries : List EntryFields) (q : Option Place) → row.checkpoint ≡ q
    → MatchOption q ((row.checkpoint_moment ≡ 0) × BeginsDead entries) (λ p. CheckpointStands used row clock entries p)
    → Begins row clock entries (first_before used row entries) (checkpoint_used used row)
begins used row clock entries None names h =
    let none : checkpoint_used used row ≡ None = ap (λ (q : Option Place). q >>= checkpoint_held used row.object) names in
    subst (λ (o : Option CheckpointFields). Begins row clock entries (first_before used row entries) o) (sym none) (h.0, h.1, blank_first used row entries names)
begins used row clock entries (Some p) names h =
    let found : checkpoint_used used row ≡ Some h.found = ap (λ (q : Option Place). q >>= checkpoint_held used row.object) names ∙ h.decodes in
    subst (λ (o : Option CheckpointFields). Begins row clock entries (first_before used row entries) o) (sym found)
    (rules_held used row.object p h.found h.decodes, h.tells, h.place, sym (first_undone used row clock entries p h names))

abbrev kept_in : Option CheckpointFields → Option Inode
kept_in found = option_map (λ c. c.inode) found

first_same : (row : ImageRow) (clock : ℕ) (entries : List EntryFields) (first : Inode) (found : Option CheckpointFields) → Begins row clock entries first found
    → first_kept row.object row.created row.checkpoint_moment (kept_in found) entries ≡ first
unfolding inode_before
first_same row clock entries first None b = sym b.2
first_same row clock entries first (Some c) b = sym b.3

rules_kept : (row : ImageRow) (clock : ℕ) (entries : List EntryFields) (first : Inode) (found : Option CheckpointFields) → Begins row clock entries first found
    → MatchOption (kept_in found) (row.checkpoint_moment ≡ 0) (λ i. checkpoint_rules (checkpoint_made row.object row.checkpoint_moment i) ≡ true)
rules_kept row clock entries first None b = b.0
rules_kept row clock entries first (Some c) b =
    subst (λ (k : CheckpointFields). checkpoint_rules k ≡ true) (same_fields c row.object row.checkpoint_moment c.inode b.1.object b.1.moment refl) b.0

current_kept : (row : ImageRow) (clock : ℕ) (entries : List EntryFields) (first : Inode) (found : Option CheckpointFields) → Begins row clock entries first found
    → IfSome (kept_in found) (λ i. i ≡ inode_after (first_kept row.object row.created row.checkpoint_moment (kept_in found) entries) entries row.checkpoint_moment)
unfolding inode_before
current_kept row clock entries first None b = tt
current_kept row clock entries first (Some c) b = sym b.2

beginning_kept : (row : ImageRow) (clock : ℕ) (entries : List EntryFields) (first : Inode) (found : Option CheckpointFields) → Begins row clock entries first found
    → MatchOption (kept_in found) (BeginsDead entries) (λ i. IsFromTo row.created clock row.checkpoint_moment)
beginning_kept row clock entries first None b = b.1
beginning_kept row clock entries first (Some c) b = b.1.within

-- ---- what the entries and the first inode point to

-- an inode without any pointers, beside which the sides of entries are all that is told
abbrev bare : Inode
bare = record { alive = false; size = 0; created = 0; changed = 0; attribute = []; pointers = [] }

told : Laws → (test : Place → Bool) (row : ImageRow) (clock : ℕ) (entries : List EntryFields) (first : Inode) (found : Option CheckpointFields) → Begins row clock entries first found
    → All (λ slot. IfSome slot (Passes test)) (pointers_kept found ++ sides_told entries) → ToldWithin (Passes test) first entries
told laws test row clock entries first None b led =
    let alone : ToldWithin (Passes test) bare entries = (laws.listed test bare entries).1 led in
    record {
      pointers = λ k. subst (λ (slot : Option Place). IfSome slot (Passes test)) (sym (ap (λ (i : Inode). pointer_at i k) b.2 ∙ laws.holes row.created k)) tt;
      sides = alone.sides;
    }
told laws test row clock entries first (Some c) b led =
    let all : ToldWithin (Passes test) c.inode entries = (laws.listed test c.inode entries).1 led in
    let before : ToldWithin (Passes test) c.inode (entries_by row.checkpoint_moment entries) = record { pointers = all.pointers; sides = by_within (TellsWithin (Passes test)) row.checkpoint_moment entries all.sides } in
    let undone = (laws.ends test c.inode (entries_by row.checkpoint_moment entries) before).1 in
    record {
      pointers = subst (λ (i : Inode). PointsWithin (Passes test) i) (sym b.3) undone.pointers;
      sides = all.sides;
    }

-- ---- the object

pub can_be_written : Laws → AnObjectOfAVersionCanBeWritten
can_be_written laws v used row clock s =
    let entries = entries_used_by v used row in
    let first = first_used_by v used row in
    let found = checkpoint_used used row in
    let b : Begins row clock entries first found = begins used row clock entries row.checkpoint refl s.versions.beginning.0 in
    let same : first_kept row.object row.created row.checkpoint_moment (inode_kept_in used row) entries ≡ first = first_same row clock entries first found b in
    record {
      can = record {
        rules = rules_kept row clock entries first found b;
        current = current_kept row clock entries first found b;
        run = subst (λ (i : Inode). Run i entries (redone_all entries i)) (sym same) s.versions.run;
        groups = groups_of_a_version v entries s.versions.chain.groups;
        bytes = few_bytes laws v entries s.versions.chain.limit;
        created = ap (λ (i : Inode). i.created) same ∙ created_is used row clock entries row.checkpoint refl s.versions.beginning.0;
      };
      first = same;
      order = s.versions.order;
      beginning = beginning_kept row clock entries first found b;
      told = told laws (is_data_of used row.object) row clock entries first found b s.led;
    }
