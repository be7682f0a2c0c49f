-- What a change of an object begins with, and when there is room for what it comes to.
use Rattle.std.proofs.Common.{◌≡◌, ℕ, ◌+◌, ◌-◌, ◌≤◌, ltb, Bool, true, false, cond, List, [], ◌∷◌, length, map, drop, sum, Option, Some, None, refl, sym, ap, subst, ◌∙◌, inl, inr, arith}
use Rattle.std.specs.List.{AllByRecursion}
use Rattle.std.proofs.lemmas.Bool.{cases_Bool, cond-false, ltb-false, le-ltb, true≢false}
use Rattle.std.proofs.lemmas.List.{length-drop}
use Rattle.std.proofs.lemmas.Option.{none-some}
use Rattle.s4_types.specs.Pointer.{Place}
use Rattle.s4_types.specs.declared.changes.Change.{Change}
use Rattle.s4_types.specs.declared.refusals.Refusal.TheVariants.{ChainFull, NoSpace}
use Rattle.s4_types.specs.declared.versions.Version.TheVariants.{Absent, Live}
use Rattle.s4_types.specs.declared.limits.TheConstants.{CHAIN_ENTRY_BYTES, RESERVE_BLOCKS, JOURNAL_ENTRY_BYTES}
use Rattle.s4_model.specs.Refusals.{is_absent}
use Rattle.block_log.specs.Log.{Stored}
use Rattle.codec.specs.Entry.{EntryFields, entry_length, entries_length, pair_length}
use Rattle.codec.specs.declared.inodes.Inode.{Inode}
use Rattle.journal_chain.specs.Sizes.{blocks_needed}
use Rattle.undo_redo.specs.Between.{entries_between, triples_between, pair_between}
use Rattle.undo_redo.specs.Sizes.{entry_sizes}
use Rattle.journal_chain.specs.Packing.{AllFit}
use Rattle.journal_chain.specs.Push.{HasRoom}
use Rattle.inode.specs.Contents.{contents_of, meaning, bytes_of}
use Rattle.inode.specs.Tidiness.{Tidy, PointersHeld}
use Rattle.object_map.specs.declared.map.Row.{Row}
use Rattle.object_map.specs.Rows.{row_of}
use Rattle.time_read.specs.Rows.{chain_of, inode_of}
use Rattle.version_store.specs.Store.{StoreFields, IsStore}
use Rattle.version_store.specs.Versions.{inode_by, version_by, version_in}
use Rattle.version_store.specs.Costs.{row_or_fresh, subject_row, subject_inode, pointers_moved, data_blocks, attribute_by, sizes_by, refusal_by, room, short_of}
use Rattle.version_store.specs.Taking.{IsThere}
use Rattle.version_store.specs.private.Below.{EntriesHaveSizes, SizesAddUp}

-- an object that is there, and its present inode
pub record IsSubject (s : StoreFields) (o m : ℕ) (i : Inode) : Type 0 where
  pub row : Row
  pub there : row_of s.rows o ≡ Some row
  pub subject : subject_row s o m ≡ row
  pub is : i ≡ inode_of s.log.held o row s.latest
  pub alive : i.alive ≡ true
  pub tidy : Tidy (contents_of s.log.held) i
  pub pointers : PointersHeld s.log.held o i
  pub version : version_in s o s.latest ≡ meaning (contents_of s.log.held) i

pub alive_by : (contents : Place → List ℕ) (i : Inode) → is_absent (meaning contents i) ≡ false → i.alive ≡ true
alive_by contents i there = elim (cases_Bool i.alive) [
  | inl is ↦ is
  | inr dead ↦ absurd (true≢false (sym (ap is_absent (cond-false i.alive (Live (bytes_of contents i) i.attribute i.created i.changed) Absent dead)) ∙ there))
]

-- a row that is there
row_by : (held : Place → Option Stored) (o t : ℕ) (row : Option Row) → is_absent (version_by held (inode_by held o t row)) ≡ false → (r : Row) × (row ≡ Some r)
row_by held o t None there = absurd (true≢false there)
row_by held o t (Some row) there = (row, refl)

pub subject_of : (s : StoreFields) (o m : ℕ) (i : Inode) → IsStore s → IsThere s o → i ≡ subject_inode s o m → IsSubject s o m i
subject_of s o m i store is_there is =
    let found = row_by s.log.held o s.latest (row_of s.rows o) is_there in
    let subject : subject_row s o m ≡ found.0 = ap (row_or_fresh m) found.1 in
    let same : i ≡ inode_of s.log.held o found.0 s.latest = is ∙ ap (λ (r : Row). inode_of s.log.held o r s.latest) subject in
    let version : version_in s o s.latest ≡ meaning (contents_of s.log.held) i = ap (λ (r : Option Row). version_by s.log.held (inode_by s.log.held o s.latest r)) found.1 ∙ ap (meaning (contents_of s.log.held)) (sym same) in
    let object = store.objects o found.0 found.1 in
    record {
      row = found.0;
      there = found.1;
      subject = subject;
      is = same;
      alive = alive_by (contents_of s.log.held) i (sym (ap is_absent version) ∙ is_there);
      tidy = subst (Tidy (contents_of s.log.held)) (sym same) (object.tidy s.latest);
      pointers = subst (PointersHeld s.log.held o) (sym same) (object.pointers s.latest);
      version = version;
    }

-- ---- room

-- where neither test finds a refusal
pub neither : (a b : Bool) → cond a (Some ChainFull) (cond b (Some NoSpace) None) ≡ None → (a ≡ false) × (b ≡ false)
neither true b none = absurd (none-some ChainFull (sym none))
neither false true none = absurd (none-some NoSpace (sym none))
neither false false none = (refl, refl)

-- how much a change that isn't refused may take
pub record IsFree (space : ℕ) (change : Change) (row : Row) (i : Inode) : Type 0 where
  pub chain : row.journal_bytes + sum (sizes_by change i) ≤ CHAIN_ENTRY_BYTES
  pub blocks : data_blocks change i + blocks_needed row.head_bytes (sizes_by change i) ≤ space

pub free_of : (space : ℕ) (change : Change) (row : Row) (i : Inode) → refusal_by space change row i ≡ None → IsFree space change row i
free_of space change row i none =
    let both = neither (ltb CHAIN_ENTRY_BYTES (row.journal_bytes + sum (sizes_by change i))) (ltb space (data_blocks change i + blocks_needed row.head_bytes (sizes_by change i))) none in
    record {
      chain = ltb-false CHAIN_ENTRY_BYTES (row.journal_bytes + sum (sizes_by change i)) both.0;
      blocks = ltb-false space (data_blocks change i + blocks_needed row.head_bytes (sizes_by change i)) both.1;
    }

-- where neither test applies, nothing is refused
none_by : (a b : Bool) → a ≡ false → b ≡ false → cond a (Some ChainFull) (cond b (Some NoSpace) None) ≡ None
none_by a b first second = ap (λ (x : Bool). cond x (Some ChainFull) (cond b (Some NoSpace) None)) first ∙ ap (λ (x : Bool). cond x (Some NoSpace) None) second

-- what isn't refused with less room isn't with more
pub free_with_more : (less space : ℕ) (change : Change) (row : Row) (i : Inode) → less ≤ space → refusal_by less change row i ≡ None → refusal_by space change row i ≡ None
free_with_more less space change row i more none =
    let free = free_of less change row i none in
    let blocks = free.blocks in
    none_by (ltb CHAIN_ENTRY_BYTES (row.journal_bytes + sum (sizes_by change i))) (ltb space (data_blocks change i + blocks_needed row.head_bytes (sizes_by change i)))
    (le-ltb CHAIN_ENTRY_BYTES (row.journal_bytes + sum (sizes_by change i)) free.chain)
    (le-ltb space (data_blocks change i + blocks_needed row.head_bytes (sizes_by change i)) (omega (arith, blocks, more)))

-- a store with fewer places ahead has that much less room, down to none
pub room_short : (least : ℕ) (s : StoreFields) → room (short_of least s) ≡ room s - least
room_short least s = let left = length-drop least s.log.ahead in omega (arith, left)

-- with none fewer it is the store itself
pub short_of_none : (s : StoreFields) → short_of 0 s ≡ s
short_of_none s = refl

-- the entries of a change have the sizes that were counted
pub counted : EntriesHaveSizes → (change : Change) (i j : Inode) (m : ℕ) → length (triples_between i j) ≡ pointers_moved change i → j.attribute ≡ attribute_by change i
    → map entry_length (entries_between i j m) ≡ sizes_by change i
counted sizes change i j m moved attribute =
    sizes i j m ∙ ap (λ n. entry_sizes n (pair_length (pair_between i.attribute j.attribute))) moved
    ∙ ap (λ (a : List ℕ). entry_sizes (pointers_moved change i) (pair_length (pair_between i.attribute a))) attribute

-- each entry fits a block where its size does
all_fit : (entries : List EntryFields) → AllByRecursion (λ size. size ≤ JOURNAL_ENTRY_BYTES) (map entry_length entries) → AllFit entries
all_fit [] fit = tt
all_fit (e ∷ entries) fit = (fit.0, all_fit entries fit.1)

-- so they can be pushed, once the data blocks were appended
pub room_to_push : SizesAddUp → (change : Change) (row : Row) (o : ℕ) (before after : List Place) (entries : List EntryFields) (i : Inode) → IsFree (length before - RESERVE_BLOCKS) change row i
    → map entry_length entries ≡ sizes_by change i → AllByRecursion (λ size. size ≤ JOURNAL_ENTRY_BYTES) (sizes_by change i) → after ≡ drop (data_blocks change i) before → HasRoom (chain_of o row) after entries
room_to_push add_up change row o before after entries i free sizes fit ahead =
    let bytes : sum (sizes_by change i) ≡ entries_length entries = sym (ap sum sizes) ∙ add_up entries in
    let blocks : blocks_needed row.head_bytes (map entry_length entries) ≡ blocks_needed row.head_bytes (sizes_by change i) = ap (blocks_needed row.head_bytes) sizes in
    let left : length after ≡ length before - data_blocks change i = ap length ahead ∙ length-drop (data_blocks change i) before in
    let chain = free.chain in
    let few = free.blocks in
    record {
      fit = all_fit entries (subst (AllByRecursion (λ size. size ≤ JOURNAL_ENTRY_BYTES)) (sym sizes) fit);
      bytes = omega (arith, bytes, chain);
      blocks = omega (arith, blocks, left, few);
    }
