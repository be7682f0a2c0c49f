-- A cache of inodes as contracts see it.
use Rattle.std.specs.Prelude.{ℕ, Bool, ◌==◌, ◌&&◌, List, Option}
use Rattle.std.specs.Map.{lookup}
use Rattle.lru.specs.LruCache.{lru_cache, promoted, put_entries}
use Rattle.codec.specs.declared.inodes.Inode.{Inode}
use Rattle.checkpoint.specs.declared.cache.CacheKey.{CacheKey}

-- inodes and what they are kept under, the one that was used last first, and how many there may be
pub record CachedInodes : Type 0 where
  pub pairs : List (CacheKey × Inode)
  pub capacity : ℕ

abbrev pub same_key : CacheKey → CacheKey → Bool
same_key j k = j.object == k.object && j.stamp == k.stamp

-- the inode that is kept under a key
abbrev pub inode_cached : List (CacheKey × Inode) → CacheKey → Option Inode
inode_cached pairs key = lookup (same_key key) pairs

-- a cache, where a key was used: what is kept under it goes to the front
abbrev pub cache_used : CacheKey → CachedInodes → CachedInodes
cache_used key cache = record { pairs = promoted (same_key key) cache.pairs; capacity = cache.capacity }

-- a cache, where an inode is kept under a key in front of the others: in place of an older one, or else of the last of as many as there
-- may be
abbrev pub cache_with : CacheKey → Inode → CachedInodes → CachedInodes
cache_with key inode cache = record { pairs = put_entries same_key (lru_cache cache.pairs cache.capacity) key inode; capacity = cache.capacity }
