-- What is found in a cache is one of its pairs, and what a put leaves are pairs that it had, and the new one.
use Rattle.std.proofs.Common.{◌≡◌, ◌⊎◌, inl, inr, ℕ, ◌≤◌, ◌==◌, true, List, Option, Some, None, IfSome, Result, Ok, Err, OnOk, OnErr, sym, ap, subst, ◌∙◌}
use Rattle.std.specs.Prelude.{Contains}
use Rattle.std.specs.Map.{lookup}
use Rattle.std.proofs.lemmas.Bool.{and_parts, eqb-true}
use Rattle.lru.specs.LruCache.{LruCache, lru_cache, promoted, put_entries}
use Rattle.lru.proofs.CallerLemmas.{Contains-lookup, Contains-promoted, Contains-put_entries, IsPut}
use Rattle.codec.specs.declared.inodes.Inode.{Inode}
use Rattle.checkpoint.specs.declared.cache.CacheKey.{CacheKey}
use Rattle.checkpoint.specs.Cached.{CachedInodes, same_key, inode_cached, cache_used, cache_with}

abbrev pub Entries : Type 0
Entries = LruCache CacheKey Inode

-- a cache by its pairs and its capacity
abbrev pub seen : Entries → CachedInodes
seen c = record { pairs = c.entries; capacity = c.cap }

one_key : (j k : CacheKey) → same_key j k ≡ true → j ≡ k
one_key j k is =
    let parts = and_parts (j.object == k.object) (j.stamp == k.stamp) is in
    ap (λ (n : ℕ). record { object = n; stamp = j.stamp }) (eqb-true j.object k.object parts.0)
    ∙ ap (λ (n : ℕ). record { object = k.object; stamp = n }) (eqb-true j.stamp k.stamp parts.1)

-- ---- what is found

pub found_in : (pairs : List (CacheKey × Inode)) (key : CacheKey) (o : Option Inode) → o ≡ inode_cached pairs key → IfSome o (λ i. Contains pairs (key, i))
found_in pairs key None is = tt
found_in pairs key (Some i) is =
    let (k, there, same) = Contains-lookup (same_key key) pairs i (sym is) in
    subst (λ (j : CacheKey). Contains pairs (j, i)) (sym (one_key key k same)) there

pub still : (key : CacheKey) (old new : CachedInodes) (e : CacheKey × Inode) → new ≡ cache_used key old → Contains new.pairs e → Contains old.pairs e
still key old new e is there = Contains-promoted (same_key key) old.pairs e (subst (λ (c : CachedInodes). Contains c.pairs e) is there)

pub exact_is : (key : CacheKey) (c : Entries) (now : CachedInodes) (o : Option Inode) → seen c ≡ now → o ≡ lookup (same_key key) c.entries → o ≡ inode_cached now.pairs key
exact_is key c now o view is = is ∙ ap (λ (v : CachedInodes). lookup (same_key key) v.pairs) view

pub used_is : (key : CacheKey) (c new : Entries) (now : CachedInodes) → seen c ≡ now → new ≡ lru_cache (promoted (same_key key) c.entries) c.cap → seen new ≡ cache_used key now
used_is key c new now view is = ap seen is ∙ ap (λ (v : CachedInodes). cache_used key v) view

-- ---- what is put

is_new : (c : Entries) (k : CacheKey) (v : Inode) (e : CacheKey × Inode) → IsPut same_key c k v e → e ≡ (k, v)
is_new c k v e (value, key) = elim key [
  | inl same ↦ λ i. (same i, value i)
  | inr (w, there, is) ↦ let same : e.0 ≡ k = sym (one_key k e.0 is) in λ i. (same i, value i)
]

abbrev pub Puts : CacheKey → Inode → CachedInodes → CachedInodes → Type 0
Puts key inode old new = (new ≡ old) ⊎ (new ≡ cache_with key inode old)

abbrev pub PutsIn : {V : Type 0} → CacheKey → V → LruCache CacheKey V → LruCache CacheKey V → Type 0
PutsIn key value old new = (new ≡ old) ⊎ (new ≡ lru_cache (put_entries same_key old key value) old.cap)

-- whether it was refused or not
pub put_or_not : {V A E : Type 0} (r : Result A E) (old new : LruCache CacheKey V) (key : CacheKey) (value : V) → OnOk r (new ≡ lru_cache (put_entries same_key old key value) old.cap) → OnErr r (new ≡ old) → PutsIn key value old new
put_or_not (Ok x) old new key value ok err = inr ok
put_or_not (Err x) old new key value ok err = inl err

-- seen by its pairs and its capacity
pub puts_seen : (c new : Entries) (now : CachedInodes) (key : CacheKey) (inode : Inode) → seen c ≡ now → PutsIn key inode c new → Puts key inode now (seen new)
puts_seen c new now key inode view puts = elim puts [
  | inl same ↦ inl (ap seen same ∙ view)
  | inr is ↦ inr (ap seen is ∙ ap (λ (v : CachedInodes). cache_with key inode v) view)
]

pub put_only : (key : CacheKey) (inode : Inode) (old new : CachedInodes) (e : CacheKey × Inode) → Puts key inode old new → Contains new.pairs e → Contains old.pairs e ⊎ (e ≡ (key, inode))
put_only key inode old new e puts there = elim puts [
  | inl same ↦ inl (subst (λ (c : CachedInodes). Contains c.pairs e) same there)
  | inr is ↦ (let c : Entries = lru_cache old.pairs old.capacity in
      elim (Contains-put_entries same_key c key inode e (subst (λ (v : CachedInodes). Contains v.pairs e) is there)) [
        | inl was ↦ inl was
        | inr put ↦ inr (is_new c key inode e put)
      ])
]

-- how many there may be stays in bounds
pub cap_of : (c new : Entries) (key : CacheKey) (inode : Inode) (most : ℕ) → c.cap ≤ most → PutsIn key inode c new → new.cap ≤ most
cap_of c new key inode most few puts = elim puts [
  | inl same ↦ subst (λ (k : Entries). k.cap ≤ most) (sym same) few
  | inr is ↦ subst (λ (k : Entries). k.cap ≤ most) (sym is) few
]
