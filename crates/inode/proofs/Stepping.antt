-- The blocks of a write, appended one by one.
use Rattle.std.proofs.Common.{◌≡◌, ℕ, ◌+◌, ◌-◌, ◌*◌, ◌<◌, ◌≤◌, ◌&&◌, cond, nat_le, nat_lt, List, [], ◌∷◌, ◌++◌, length, get_or, set, slice_get, Option, Some, None, inl, inr, ap, sym, ◌∙◌, subst, arith}
use Rattle.std.proofs.lemmas.Bool.{cases_lt, cases_eq, and_from, and_left, and_right, le-leb, lt-ltb, lt-leb, le-ltb, cond-true, cond-false}
use Rattle.std.proofs.lemmas.List.{get_or-set_other, get_or-set_same, length-drop}
use Rattle.std.proofs.lemmas.List.FromFn.{map-range_with_len_more, length-map-range_with_len}
use Rattle.s4_types.specs.Pointer.{Place}
use Rattle.block_log.specs.Log.{Log}
use Rattle.codec.specs.Checkpoint.{pointer_at}
use Rattle.codec.specs.declared.inodes.Inode.{Inode}
use Rattle.inode.specs.Contents.{contents_of}
use Rattle.inode.specs.Tidiness.{PointersLead, AgreeAt}
use Rattle.inode.specs.Growth.{data_block, log_grown, with_data, GrowsBy}
use Rattle.inode.specs.Changed.{block_of, listed_blocks, byte_written}
use Rattle.inode.proofs.Listing.{listed-same}
use Rattle.inode.proofs.Growing.{with_data-push, grows-none, grows-more, slice_get-drop}
use Rattle.inode.proofs.Frames.{byte_of-same, kept-agree}

-- the pointer of an index, once the blocks from the first up to another index are appended at these places
abbrev pub pointer_upto : List Place → Inode → ℕ → ℕ → ℕ → Option Place
pointer_upto ahead i first index k = cond (nat_le first k && nat_lt k index) (slice_get ahead (k - first)) (pointer_at i k)

-- What is once the blocks from the first up to another index are appended.
pub record Upto (object : ℕ) (bytes_at : ℕ → ℕ) (i : Inode) (first index : ℕ) (before now : Log) (slots : List (Option Place)) : Type 0 where
  pub log : now ≡ with_data object (listed_blocks bytes_at first (index - first)) before
  pub growth : GrowsBy object (listed_blocks bytes_at first (index - first)) before now
  pub pointers : (k : ℕ) → get_or slots k None ≡ pointer_upto before.ahead i first index k

pub listed_blocks-length : (bytes_at : ℕ → ℕ) (first count : ℕ) → length (listed_blocks bytes_at first count) ≡ count
unfolding listed_blocks
listed_blocks-length bytes_at first count = length-map-range_with_len (block_of bytes_at) first count

listed_blocks-more : (bytes_at : ℕ → ℕ) (first count more index : ℕ) → count + 1 ≡ more → first + count ≡ index → listed_blocks bytes_at first more ≡ listed_blocks bytes_at first count ++ block_of bytes_at index ∷ []
unfolding listed_blocks
listed_blocks-more bytes_at first count more index e at = ap (λ n. listed_blocks bytes_at first n) (sym e) ∙ map-range_with_len_more (block_of bytes_at) first count index at

pointer_upto-in : (ahead : List Place) (i : Inode) (first index k : ℕ) → first ≤ k → k < index → pointer_upto ahead i first index k ≡ slice_get ahead (k - first)
pointer_upto-in ahead i first index k low high =
    cond-true (nat_le first k && nat_lt k index) (slice_get ahead (k - first)) (pointer_at i k) (and_from (nat_le first k) (nat_lt k index) (le-leb first k low) (lt-ltb k index high))

pointer_upto-before : (ahead : List Place) (i : Inode) (first index k : ℕ) → k < first → pointer_upto ahead i first index k ≡ pointer_at i k
pointer_upto-before ahead i first index k lt =
    cond-false (nat_le first k && nat_lt k index) (slice_get ahead (k - first)) (pointer_at i k) (and_left (nat_le first k) (nat_lt k index) (lt-leb first k lt))

pointer_upto-behind : (ahead : List Place) (i : Inode) (first index k : ℕ) → index ≤ k → pointer_upto ahead i first index k ≡ pointer_at i k
pointer_upto-behind ahead i first index k le =
    cond-false (nat_le first k && nat_lt k index) (slice_get ahead (k - first)) (pointer_at i k) (and_right (nat_le first k) (nat_lt k index) (le-ltb k index le))

pub upto-none : (object : ℕ) (bytes_at : ℕ → ℕ) (i : Inode) (first : ℕ) (log : Log) → Upto object bytes_at i first first log log i.pointers
unfolding listed_blocks
upto-none object bytes_at i first log = let none : first - first ≡ 0 = omega arith in record {
  log = ap (λ n. with_data object (listed_blocks bytes_at first n) log) (sym none);
  growth = subst (λ n. GrowsBy object (listed_blocks bytes_at first n) log log) (sym none) (grows-none object log);
  pointers = λ k. elim (cases_lt k first) [
    | inl before ↦ sym (pointer_upto-before log.ahead i first first k before)
    | inr behind ↦ sym (pointer_upto-behind log.ahead i first first k behind)
  ];
}

not_here : (k index : ℕ) → index ≤ k → (k ≡ index → ⊥) → index + 1 ≤ k
not_here k index le ne = elim (cases_lt index k) [ inl lt ↦ omega arith | inr ge ↦ absurd (ne (omega arith)) ]

pointers_beside : (ahead : List Place) (i : Inode) (first index k : ℕ) → (k ≡ index → ⊥) → pointer_upto ahead i first index k ≡ pointer_upto ahead i first (index + 1) k
pointers_beside ahead i first index k ne =
    elim (cases_lt k first) [
      | inl before ↦ pointer_upto-before ahead i first index k before ∙ sym (pointer_upto-before ahead i first (index + 1) k before)
      | inr past ↦ elim (cases_lt k index) [
        | inl within ↦ pointer_upto-in ahead i first index k past within ∙ sym (pointer_upto-in ahead i first (index + 1) k past (omega arith))
        | inr behind ↦ pointer_upto-behind ahead i first index k behind ∙ sym (pointer_upto-behind ahead i first (index + 1) k (not_here k index behind ne))
      ]
    ]

pointers_more : (ahead : List Place) (i : Inode) (first index : ℕ) (pointers : List (Option Place)) (p : Place) → first ≤ index → index < length pointers → ((k : ℕ) → get_or pointers k None ≡ pointer_upto ahead i first index k)
    → slice_get ahead (index - first) ≡ Some p → (k : ℕ) → get_or (set pointers index (Some p)) k None ≡ pointer_upto ahead i first (index + 1) k
pointers_more ahead i first index pointers p le lt each at k =
    elim (cases_eq k index) [
      | inl here ↦
          ap (λ n. get_or (set pointers index (Some p)) n None) here
          ∙ get_or-set_same pointers index (Some p) None lt
          ∙ sym at
          ∙ ap (λ n. slice_get ahead (n - first)) (sym here)
          ∙ sym (pointer_upto-in ahead i first (index + 1) k (omega arith) (omega arith))
      | inr ne ↦
          get_or-set_other pointers index k (Some p) None ne
          ∙ each k
          ∙ pointers_beside ahead i first index k ne
    ]

pub block_of-same : (f g : ℕ → ℕ) (k : ℕ) → ((n : ℕ) → f n ≡ g n) → block_of f k ≡ block_of g k
block_of-same f g k each = listed-same f g (512 * k) (512 * k) 512 (λ n lt. each (512 * k + n))

-- the bytes that a write makes are the same over contents that agree
pub byte_written-same : (contents others : Place → List ℕ) (i : Inode) (offset : ℕ) (bytes : List ℕ) (n : ℕ) → AgreeAt contents others i → byte_written others i offset bytes n ≡ byte_written contents i offset bytes n
unfolding byte_written
byte_written-same contents others i offset bytes n agree = ap (λ b. cond (nat_le offset n && nat_lt n (offset + length bytes)) (get_or bytes (n - offset) 0) b) (byte_of-same contents others i n agree)

pub upto-more : (object : ℕ) (bytes_at : ℕ → ℕ) (i : Inode) (first index : ℕ) (before now : Log) (pointers : List (Option Place)) (p : Place) → Upto object bytes_at i first index before now pointers
    → first ≤ index → index < length pointers → slice_get now.ahead 0 ≡ Some p → now.held p ≡ None
    → Upto object bytes_at i first (index + 1) before (log_grown now (data_block object (block_of bytes_at index))) (set pointers index (Some p))
upto-more object bytes_at i first index before now pointers p upto le lt at free =
    let count : length (listed_blocks bytes_at first (index - first)) ≡ index - first = listed_blocks-length bytes_at first (index - first) in
    let more : listed_blocks bytes_at first (index + 1 - first) ≡ listed_blocks bytes_at first (index - first) ++ block_of bytes_at index ∷ [] = listed_blocks-more bytes_at first (index - first) (index + 1 - first) index (omega arith) (omega arith) in
    let place : slice_get before.ahead (index - first) ≡ Some p = sym (slice_get-drop before.ahead (length (listed_blocks bytes_at first (index - first))) 0 (index - first) (omega arith)) ∙ ap (λ a. slice_get a 0) (sym upto.growth.takes.ahead) ∙ at in
    record {
      log = ap (λ l. log_grown l (data_block object (block_of bytes_at index))) upto.log ∙ sym (with_data-push object (listed_blocks bytes_at first (index - first)) (block_of bytes_at index) before) ∙ ap (λ blocks. with_data object blocks before) (sym more);
      growth = subst (λ blocks. GrowsBy object blocks before (log_grown now (data_block object (block_of bytes_at index)))) (sym more) (grows-more object (listed_blocks bytes_at first (index - first)) (block_of bytes_at index) before now p upto.growth at free);
      pointers = pointers_more before.ahead i first index pointers p le lt upto.pointers place;
    }

pub upto-room : (object : ℕ) (bytes_at : ℕ → ℕ) (i : Inode) (first index : ℕ) (before now : Log) (slots : List (Option Place)) → Upto object bytes_at i first index before now slots → index - first < length before.ahead → 0 < length now.ahead
upto-room object bytes_at i first index before now slots upto lt =
    let count : length (listed_blocks bytes_at first (index - first)) ≡ index - first = listed_blocks-length bytes_at first (index - first) in
    let left : length now.ahead ≡ length before.ahead - length (listed_blocks bytes_at first (index - first)) = ap length upto.growth.takes.ahead ∙ length-drop (length (listed_blocks bytes_at first (index - first))) before.ahead in
    omega arith

-- The step of a write: the block is made over the contents as they are now, which agree with those before wherever the
-- inode's pointers lead.
pub write-more : (object offset : ℕ) (bytes : List ℕ) (i : Inode) (first index : ℕ) (before now next : Log) (slots : List (Option Place)) (p : Place)
    → Upto object (byte_written (contents_of before.held) i offset bytes) i first index before now slots → PointersLead before.held i
    → next ≡ log_grown now (data_block object (block_of (byte_written (contents_of now.held) i offset bytes) index))
    → first ≤ index → index < length slots → slice_get now.ahead 0 ≡ Some p → now.held p ≡ None
    → Upto object (byte_written (contents_of before.held) i offset bytes) i first (index + 1) before next (set slots index (Some p))
write-more object offset bytes i first index before now next slots p upto leads is_next le lt at free =
    let agree : AgreeAt (contents_of before.held) (contents_of now.held) i = kept-agree before.held now.held i upto.growth.kept leads in
    let same : block_of (byte_written (contents_of now.held) i offset bytes) index ≡ block_of (byte_written (contents_of before.held) i offset bytes) index
    = block_of-same (byte_written (contents_of now.held) i offset bytes) (byte_written (contents_of before.held) i offset bytes) index (λ n. byte_written-same (contents_of before.held) (contents_of now.held) i offset bytes n agree) in
    subst (λ l. Upto object (byte_written (contents_of before.held) i offset bytes) i first (index + 1) before l (set slots index (Some p)))
    (ap (λ b. log_grown now (data_block object b)) (sym same) ∙ sym is_next)
    (upto-more object (byte_written (contents_of before.held) i offset bytes) i first index before now slots p upto le lt at free)

with_pointers : List (Option Place) → Inode → Inode
with_pointers slots i = record i { pointers = slots }

-- an inode that differs in its pointers alone still does with others
pub rest_more : (i next : Inode) (slots : List (Option Place)) → next ≡ record i { pointers = next.pointers } → ◌≡◌ {A = Inode} (record next { pointers = slots }) (record i { pointers = slots })
unfolding with_pointers
rest_more i next slots e = ap (with_pointers slots) e
