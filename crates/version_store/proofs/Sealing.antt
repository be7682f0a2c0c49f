-- A store whose table has other places ahead and holds what it held.
use Rattle.std.proofs.Common.{◌≡◌, ℕ, ◌+◌, ◌^◌, ◌<◌, ◌≤◌, List, [], ◌∷◌, ◌++◌, length, Option, refl, sym, ap, subst, ◌∙◌, arith, length-append}
use Rattle.std.specs.Prelude.{OnOk, OnErr}
use Rattle.std.specs.declared.result.Result.{Result}
use Rattle.std.specs.declared.result.Result.TheVariants.{Ok, Err}
use Rattle.s4_types.specs.Pointer.{Place}
use Rattle.block_log.specs.Log.{Log, Stored}
use Rattle.segment_table.specs.Table.{Table}
use Rattle.segment_table.specs.Room.{is_filling, numbers, rest_of, places_ahead}
use Rattle.segment_table.specs.Changes.{IsFilling, NoneIsFilling}
use Rattle.codec.specs.declared.inodes.Inode.{Inode}
use Rattle.checkpoint.specs.Held.{of_checkpoints}
use Rattle.checkpoint.specs.declared.cache.CacheKey.{CacheKey}
use Rattle.object_map.specs.declared.map.Row.{Row}
use Rattle.object_map.specs.Objects.{value_of}
use Rattle.object_map.specs.Rows.{row_of}
use Rattle.time_read.specs.Presents.{KeepsIndexOf}
use Rattle.time_read.specs.declared.presents.Present.{Present}
use Rattle.version_store.specs.Store.{StoreFields, IsStore}
use Rattle.version_store.specs.Versions.{inode_by, version_by, entries_of_row}
use Rattle.version_store.specs.private.Beside.{IsBeside}
use Rattle.version_store.proofs.Cached.{stays_true}
use Rattle.version_store.specs.Upkeep.{KeepsObjects}

fewer_by : (filling : List ℕ) (rest : ℕ → List Place) (before after : List Place) → length filling ≤ 1 → (filling ≡ [] → after ≡ before) → ((f : ℕ) → filling ≡ f ∷ [] → rest f ++ after ≡ before) → length after ≤ length before
fewer_by [] rest before after one idle sealed =
    let same : length after ≡ length before = ap length (idle refl) in
    omega (arith, same)
fewer_by (f ∷ []) rest before after one idle sealed =
    let same : length (rest f ++ after) ≡ length before = ap length (sealed f refl) in
    let sum : length (rest f ++ after) ≡ length (rest f) + length after = length-append (rest f) after in
    omega (arith, same, sum)
fewer_by (f ∷ g ∷ filling) rest before after one idle sealed = absurd (omega (arith, one))

-- a seal leaves no more places ahead
pub fewer_ahead : (old new : Table) → length (numbers is_filling 0 old.seat.frames) ≤ 1 → (NoneIsFilling old → new ≡ old) → ((f : ℕ) → IsFilling f old → rest_of old f ++ places_ahead new ≡ places_ahead old)
    → length (places_ahead new) ≤ length (places_ahead old)
fewer_ahead old new one idle sealed =
    fewer_by (numbers is_filling 0 old.seat.frames) (rest_of old) (places_ahead old) (places_ahead new) one (λ none. ap (λ (t : Table). places_ahead t) (idle none)) sealed

-- the store over another log
abbrev pub over : StoreFields → Log → StoreFields
over s log = record s { log = log }

-- no fewer places were ever taken, and those with the ones ahead are few enough
pub store_over : (s : StoreFields) (log : Log) → log.held ≡ s.log.held → log.named ≡ s.log.named → s.log.spent ≤ log.spent → log.spent + length log.ahead < 2 ^ 46 → IsStore s → IsStore (over s log)
store_over s log same named spent bounded store =
    subst (λ (h : Place → Option Stored). IsStore (over s (record log { held = h }))) (sym same) (subst (λ (n : Place → ℕ). IsStore (over s (record log { held = s.log.held; named = n }))) (sym named) (record {
      objects = store.objects;
      orderly = store.orderly;
      names = store.names;
      counted = store.counted;
      few = store.few;
      nothing = store.nothing;
      stamps = λ o row e. let bound = store.stamps o row e in omega (arith, spent, bound);
      bounded = bounded;
      ascending = store.ascending;
      apart = store.apart;
    }))

-- what is beside the rows does so over the other log
pub beside_over : (values : List (ℕ × Present)) (pairs : List (CacheKey × Inode)) (s : StoreFields) (log : Log) → log.held ≡ s.log.held → IsBeside values pairs s → IsBeside values pairs (over s log)
beside_over values pairs s log held beside = record {
  inodes = λ o. beside.inodes o ∙ sym (ap (λ (h : Place → Option Stored). inode_by h o s.latest (row_of s.rows o)) held);
  indexes = λ o. subst (λ (h : Place → Option Stored). KeepsIndexOf (value_of values o) (entries_of_row h o (row_of s.rows o))) (sym held) (beside.indexes o);
  cached = stays_true s.log.held log.held s.rows pairs (λ q. ap (of_checkpoints q) held) beside.cached;
}

pub shrunk_store : (s : StoreFields) (log : Log) → log.held ≡ s.log.held → log.named ≡ s.log.named → length log.ahead ≤ length s.log.ahead → log.spent ≡ s.log.spent → IsStore s → IsStore (over s log)
shrunk_store s log same named fewer spent store = let bound = store.bounded in store_over s log same named (omega (arith, spent)) (omega (arith, fewer, spent, bound)) store

-- no fewer places were ever taken, whatever a release answers
pub no_fewer_spent : {T E : Type 0} (r : Result T E) (old new : Log) → OnOk r (old.spent ≤ new.spent) → OnErr r (new ≡ old) → old.spent ≤ new.spent
no_fewer_spent (Ok x) old new grown same = grown
no_fewer_spent (Err e) old new grown same = let equal : new.spent ≡ old.spent = ap (λ (log : Log). log.spent) same in omega (arith, equal)

-- the objects of a store whose rows, whose last change and what it holds are as they were
pub keeps_objects : (s later : StoreFields) → later.log.held ≡ s.log.held → later.rows ≡ s.rows → later.latest ≡ s.latest → s.log.spent ≤ later.log.spent → KeepsObjects s later
keeps_objects s later held rows latest spent = record {
  held = held;
  rows = rows;
  latest = latest;
  spent = spent;
  inodes = λ o t. ap (λ (h : Place → Option Stored). inode_by h o t (row_of later.rows o)) held ∙ ap (λ (r : List (ℕ × Row)). inode_by s.log.held o t (row_of r o)) rows;
  versions = λ o t. ap (λ (h : Place → Option Stored). version_by h (inode_by h o t (row_of later.rows o))) held
      ∙ ap (λ (r : List (ℕ × Row)). version_by s.log.held (inode_by s.log.held o t (row_of r o))) rows;
}
