-- A truncation: the inode after it represents the version after it.
use Rattle.std.proofs.Common.{◌≡◌, ℕ, ◌+◌, ◌*◌, ◌/◌, ◌%◌, ◌<◌, ◌≤◌, ◌==◌, Bool, true, false, not, ◌&&◌, cond, nat_le, nat_lt, is_some, List, [], ◌∷◌, length, get_or, set, slice_get, Option, Some, None, inl, inr, refl, ap, sym, ◌∙◌, subst, arith}
use Rattle.std.proofs.lemmas.Bool.{cases_lt, cases_eq, cases_Bool, cond-true, cond-false, eq-eqb, ne_eqb, eqb-true, eqb-false, true≢false, lt-ltb, le-ltb, le-leb, lt-leb, ltb-true, ltb-false, and_parts, and_from, and_cases, and_left, and_right, not-false, not-true}
use Rattle.std.proofs.lemmas.List.{get_or-set_same, get_or-set_other}
use Rattle.std.proofs.lemmas.Option.{none-some}
use Rattle.s4_types.specs.Pointer.{Place}
use Rattle.s4_types.specs.declared.changes.Change.TheVariants.{Truncate}
use Rattle.s4_types.specs.declared.versions.Version.TheVariants.{Absent, Live}
use Rattle.s4_types.specs.declared.limits.TheConstants.{OBJECT_BYTES, OBJECT_BLOCKS}
use Rattle.s4_model.specs.Effect.{effect, resized}
use Rattle.block_log.specs.Log.{Log}
use Rattle.s4_model.proofs.PlainLemmas.{length-resized}
use Rattle.codec.specs.Checkpoint.{pointer_at}
use Rattle.codec.specs.declared.inodes.Inode.{Inode}
use Rattle.inode.specs.Contents.{byte_of, bytes_of, contents_of, meaning}
use Rattle.inode.specs.Tidiness.{Tidy, PointersLead, PointersHeld}
use Rattle.inode.specs.Growth.{GrowsBy, log_grown, data_block, with_data}
use Rattle.inode.specs.Touched.{is_cut, cut_count}
use Rattle.inode.specs.Changed.{byte_cut, blocks_cut, listed_blocks, block_of, Truncated}
use Rattle.inode.proofs.Listing.{listed-is, listed-at}
use Rattle.inode.proofs.Bytes.{bytes_of-at}
use Rattle.inode.proofs.Standing.{byte_of-hole}
use Rattle.inode.proofs.Placing.{resized-at}
use Rattle.inode.proofs.Growing.{grows-none, grows-more}
use Rattle.inode.proofs.Following.{byte_of-new, byte_of-old, held-new, held-old}

pub byte_cut-kept : (contents : Place → List ℕ) (i : Inode) (size n : ℕ) → n < size → byte_cut contents i size n ≡ byte_of contents i n
unfolding byte_cut
byte_cut-kept contents i size n lt = cond-true (nat_lt n size) (byte_of contents i n) 0 (lt-ltb n size lt)

pub byte_cut-past : (contents : Place → List ℕ) (i : Inode) (size n : ℕ) → size ≤ n → byte_cut contents i size n ≡ 0
unfolding byte_cut
byte_cut-past contents i size n le = cond-false (nat_lt n size) (byte_of contents i n) 0 (le-ltb n size le)

-- a block with zeros from a byte on is the one that a truncation makes
pub cut_is : (contents : Place → List ℕ) (i : Inode) (size : ℕ) (was now : List ℕ) → was ≡ block_of (byte_of contents i) (size / 512) → length now ≡ 512
    → ((n : ℕ) → n < 512 → get_or now n 0 ≡ cond (nat_lt n (size % 512)) (get_or was n 0) 0) → now ≡ block_of (byte_cut contents i size) (size / 512)
cut_is contents i size was now e len each =
    listed-is (byte_cut contents i size) (512 * (size / 512)) 512 now len
    (λ n lt. elim (cases_lt n (size % 512)) [
      | inl below ↦
          each n lt ∙ cond-true (nat_lt n (size % 512)) (get_or was n 0) 0 (lt-ltb n (size % 512) below)
          ∙ ap (λ l. get_or l n 0) e ∙ listed-at (byte_of contents i) (512 * (size / 512)) 512 n (512 * (size / 512) + n) 0 lt refl
          ∙ sym (byte_cut-kept contents i size (512 * (size / 512) + n) (omega arith))
      | inr past ↦
          each n lt ∙ cond-false (nat_lt n (size % 512)) (get_or was n 0) 0 (le-ltb n (size % 512) past)
          ∙ sym (byte_cut-past contents i size (512 * (size / 512) + n) (omega arith))
    ])

-- the pointer of an index after a truncation, where it is past the end, where its block is cut, and elsewhere
abbrev pointer_cut : List Place → Inode → ℕ → ℕ → Option Place
pointer_cut ahead i size k = cond (nat_le size (512 * k)) None (cond (is_cut i size && k == size / 512) (slice_get ahead 0) (pointer_at i k))

pointer_past : (ahead : List Place) (i : Inode) (size k : ℕ) → size ≤ 512 * k → pointer_cut ahead i size k ≡ None
pointer_past ahead i size k le = cond-true (nat_le size (512 * k)) None (cond (is_cut i size && k == size / 512) (slice_get ahead 0) (pointer_at i k)) (le-leb size (512 * k) le)

pointer_new : (ahead : List Place) (i : Inode) (size k : ℕ) → 512 * k < size → (is_cut i size && k == size / 512) ≡ true → pointer_cut ahead i size k ≡ slice_get ahead 0
pointer_new ahead i size k lt e =
    cond-false (nat_le size (512 * k)) None (cond (is_cut i size && k == size / 512) (slice_get ahead 0) (pointer_at i k)) (lt-leb size (512 * k) lt)
    ∙ cond-true (is_cut i size && k == size / 512) (slice_get ahead 0) (pointer_at i k) e

pointer_old : (ahead : List Place) (i : Inode) (size k : ℕ) → 512 * k < size → (is_cut i size && k == size / 512) ≡ false → pointer_cut ahead i size k ≡ pointer_at i k
pointer_old ahead i size k lt e =
    cond-false (nat_le size (512 * k)) None (cond (is_cut i size && k == size / 512) (slice_get ahead 0) (pointer_at i k)) (lt-leb size (512 * k) lt)
    ∙ cond-false (is_cut i size && k == size / 512) (slice_get ahead 0) (pointer_at i k) e

pub cut_one : (i : Inode) (size : ℕ) → is_cut i size ≡ true → cut_count i size ≡ 1
cut_one i size e = cond-true (is_cut i size) 1 0 e

pub cut_none : (i : Inode) (size : ℕ) → is_cut i size ≡ false → cut_count i size ≡ 0
cut_none i size e = cond-false (is_cut i size) 1 0 e

not_some : (o : Option Place) → is_some o ≡ false → o ≡ None
not_some None e = refl
not_some (Some p) e = absurd (true≢false e)

uncut_long : (old size n : ℕ) → nat_lt size old ≡ false → size ≤ n → old ≤ n
uncut_long old size n e le = let short : old ≤ size = ltb-false size old e in omega arith

-- where no block is cut, nothing comes after the size in the block that it ends in
uncut_zero : (contents : Place → List ℕ) (i : Inode) (size n : ℕ) → Tidy contents i → is_cut i size ≡ false → size ≤ n → n / 512 ≡ size / 512 → 512 * (n / 512) < size → byte_of contents i n ≡ 0
uncut_zero contents i size n tidy e le index low =
    elim (and_cases (nat_lt size i.size) (not (size % 512 == 0) && is_some (pointer_at i (size / 512))) e) [
      | inl long ↦ tidy.zeros n (uncut_long i.size size n long le)
      | inr rest ↦ elim (and_cases (not (size % 512 == 0)) (is_some (pointer_at i (size / 512))) rest) [
        | inl whole ↦ let none : size % 512 ≡ 0 = eqb-true (size % 512) 0 (not-false (size % 512 == 0) whole) in absurd (omega arith)
        | inr hole ↦ byte_of-hole contents i n (ap (pointer_at i) index ∙ not_some (pointer_at i (size / 512)) hole)
      ]
    ]

truncate_uncut : (contents : Place → List ℕ) (i : Inode) (size n : ℕ) → Tidy contents i → 512 * (n / 512) < size → (is_cut i size && n / 512 == size / 512) ≡ false → byte_of contents i n ≡ byte_cut contents i size n
truncate_uncut contents i size n tidy low e =
    elim (cases_lt n size) [
      | inl kept ↦ sym (byte_cut-kept contents i size n kept)
      | inr past ↦
          let index : n / 512 ≡ size / 512 = omega arith in
          elim (and_cases (is_cut i size) (n / 512 == size / 512) e) [
            | inl uncut ↦ uncut_zero contents i size n tidy uncut past index low ∙ sym (byte_cut-past contents i size n past)
            | inr other ↦ absurd (eqb-false (n / 512) (size / 512) other index)
          ]
    ]

-- after a truncation each byte is the one that it makes
pub byte_of-truncate : (object moment size : ℕ) (i j : Inode) (before after : Log) → GrowsBy object (blocks_cut (contents_of before.held) i size) before after → Truncated before.ahead moment size i j
    → Tidy (contents_of before.held) i → PointersLead before.held i → (n : ℕ) → byte_of (contents_of after.held) j n ≡ byte_cut (contents_of before.held) i size n
byte_of-truncate object moment size i j before after grows inode tidy leads n =
    elim (cases_lt (512 * (n / 512)) size) [
      | inr past ↦
          byte_of-hole (contents_of after.held) j n (inode.pointers (n / 512) ∙ pointer_past before.ahead i size (n / 512) past)
          ∙ sym (byte_cut-past (contents_of before.held) i size n (omega arith))
      | inl low ↦ elim (cases_Bool (is_cut i size && n / 512 == size / 512)) [
        | inl e ↦
            let parts = and_parts (is_cut i size) (n / 512 == size / 512) e in
            let index : n / 512 ≡ size / 512 = eqb-true (n / 512) (size / 512) parts.1 in
            let count : cut_count i size ≡ 1 = cut_one i size parts.0 in
            byte_of-new object (byte_cut (contents_of before.held) i size) (size / 512) (cut_count i size) before after j (n / 512) 0 n grows
            (inode.pointers (n / 512) ∙ pointer_new before.ahead i size (n / 512) low e)
            (omega (arith, count)) (omega (arith, index)) refl
        | inr e ↦
            byte_of-old before.held after.held i j n grows.kept leads (inode.pointers (n / 512) ∙ pointer_old before.ahead i size (n / 512) low e)
            ∙ truncate_uncut (contents_of before.held) i size n tidy low e
      ]
    ]

bytes_of-truncate : (contents after : Place → List ℕ) (size : ℕ) (i j : Inode) → j.size ≡ size → Tidy contents i → ((n : ℕ) → byte_of after j n ≡ byte_cut contents i size n) → bytes_of after j ≡ resized size (bytes_of contents i)
bytes_of-truncate contents after size i j is_size tidy each =
    sym (listed-is (byte_of after j) 0 j.size (resized size (bytes_of contents i)) (length-resized size (bytes_of contents i) ∙ sym is_size)
    (λ n lt. resized-at size (bytes_of contents i) n (omega arith) ∙ bytes_of-at contents i n tidy ∙ sym (byte_cut-kept contents i size n (omega arith)) ∙ sym (each n) ∙ ap (byte_of after j) (omega arith)))

live_or_absent : (alive was : Bool) (bytes old attribute old_attribute : List ℕ) (created old_created changed old_changed moment object size : ℕ) → alive ≡ was → bytes ≡ resized size old → attribute ≡ old_attribute → created ≡ old_created → changed ≡ moment
    → cond alive (Live bytes attribute created changed) Absent ≡ effect (Truncate object size) moment (cond was (Live old old_attribute old_created old_changed) Absent)
live_or_absent alive true bytes old attribute old_attribute created old_created changed old_changed moment object size e1 e2 e3 e4 e5 =
    ap (λ b. cond b (Live bytes attribute created changed) Absent) e1
    ∙ ap (λ b. Live b attribute created changed) e2
    ∙ ap (λ a. Live (resized size old) a created changed) e3
    ∙ ap (λ c. Live (resized size old) old_attribute c changed) e4
    ∙ ap (λ c. Live (resized size old) old_attribute old_created c) e5
live_or_absent alive false bytes old attribute old_attribute created old_created changed old_changed moment object size e1 e2 e3 e4 e5 = ap (λ b. cond b (Live bytes attribute created changed) Absent) e1

pub truncate_means : (object moment size : ℕ) (i j : Inode) (before after : Log) → GrowsBy object (blocks_cut (contents_of before.held) i size) before after → Truncated before.ahead moment size i j
    → Tidy (contents_of before.held) i → PointersLead before.held i → meaning (contents_of after.held) j ≡ effect (Truncate object size) moment (meaning (contents_of before.held) i)
truncate_means object moment size i j before after grows inode tidy leads =
    live_or_absent j.alive i.alive (bytes_of (contents_of after.held) j) (bytes_of (contents_of before.held) i) j.attribute i.attribute j.created i.created j.changed i.changed moment object size inode.alive
    (bytes_of-truncate (contents_of before.held) (contents_of after.held) size i j inode.size tidy (byte_of-truncate object moment size i j before after grows inode tidy leads))
    inode.attribute inode.created inode.changed

pub truncate_tidy : (object moment size : ℕ) (i j : Inode) (before after : Log) → GrowsBy object (blocks_cut (contents_of before.held) i size) before after → Truncated before.ahead moment size i j
    → Tidy (contents_of before.held) i → PointersLead before.held i → size ≤ OBJECT_BYTES → length j.pointers ≡ OBJECT_BLOCKS → Tidy (contents_of after.held) j
truncate_tidy object moment size i j before after grows inode tidy leads le count =
    let is_size : j.size ≡ size = inode.size in
    record {
      count = count;
      size = omega arith;
      holes = λ k past. inode.pointers k ∙ pointer_past before.ahead i size k (omega arith);
      zeros = λ n past. byte_of-truncate object moment size i j before after grows inode tidy leads n ∙ byte_cut-past (contents_of before.held) i size n (omega arith);
    }

pub truncate_held : (object moment size : ℕ) (i j : Inode) (before after : Log) → GrowsBy object (blocks_cut (contents_of before.held) i size) before after → Truncated before.ahead moment size i j
    → PointersHeld before.held object i → PointersHeld after.held object j
truncate_held object moment size i j before after grows inode held k p at =
    elim (cases_lt (512 * k) size) [
      | inr past ↦ absurd (none-some p (sym (inode.pointers k ∙ pointer_past before.ahead i size k past) ∙ at))
      | inl low ↦ elim (cases_Bool (is_cut i size && k == size / 512)) [
        | inl e ↦
            let parts = and_parts (is_cut i size) (k == size / 512) e in
            let count : cut_count i size ≡ 1 = cut_one i size parts.0 in
            held-new object (byte_cut (contents_of before.held) i size) (size / 512) (cut_count i size) before after 0 p grows
            (sym (inode.pointers k ∙ pointer_new before.ahead i size k low e) ∙ at) (omega (arith, count))
        | inr e ↦ held-old object before.held after.held i k p grows.kept held (sym (inode.pointers k ∙ pointer_old before.ahead i size k low e) ∙ at)
      ]
    ]

abbrev alive_of : Inode → Bool
alive_of i = i.alive

abbrev attribute_of : Inode → List ℕ
attribute_of i = i.attribute

abbrev created_of : Inode → ℕ
created_of i = i.created

not_whole : (size : ℕ) → (size % 512 ≡ 0 → ⊥) → 512 * (size / 512) < size
not_whole size ne = elim (cases_lt (512 * (size / 512)) size) [ inl lt ↦ lt | inr ge ↦ absurd (ne (omega arith)) ]

cut_parts : (i : Inode) (size : ℕ) → is_cut i size ≡ true → (size < i.size) × (512 * (size / 512) < size)
cut_parts i size e =
    let parts = and_parts (nat_lt size i.size) (not (size % 512 == 0) && is_some (pointer_at i (size / 512))) e in
    let rest = and_parts (not (size % 512 == 0)) (is_some (pointer_at i (size / 512))) parts.1 in
    (ltb-true size i.size parts.0, not_whole size (eqb-false (size % 512) 0 (not-true (size % 512 == 0) rest.0)))

pub is_cut-from : (i : Inode) (size : ℕ) → (cut_count i size ≡ 0 → ⊥) → is_cut i size ≡ true
is_cut-from i size some =
    elim (cases_Bool (is_cut i size)) [
      | inl e ↦ e
      | inr e ↦ absurd (some (cut_none i size e))
    ]

pub is_cut-none : (i : Inode) (size : ℕ) → cut_count i size ≡ 0 → is_cut i size ≡ false
is_cut-none i size none =
    elim (cases_Bool (is_cut i size)) [
      | inl e ↦ let one : cut_count i size ≡ 1 = cut_one i size e in absurd (omega arith)
      | inr e ↦ e
    ]

pub cut_within : (i : Inode) (size : ℕ) → (cut_count i size ≡ 0 → ⊥) → size < i.size
cut_within i size some = (cut_parts i size (is_cut-from i size some)).0

pub cut_room : (i : Inode) (size : ℕ) → (cut_count i size ≡ 0 → ⊥) → cut_count i size ≡ 1
cut_room i size some = cut_one i size (is_cut-from i size some)

whole_pointer : (ahead : List Place) (i : Inode) (size k : ℕ) → is_cut i size ≡ false → cond (nat_le size (512 * k)) None (pointer_at i k) ≡ pointer_cut ahead i size k
whole_pointer ahead i size k e =
    elim (cases_lt (512 * k) size) [
      | inl low ↦ cond-false (nat_le size (512 * k)) None (pointer_at i k) (lt-leb size (512 * k) low) ∙ sym (pointer_old ahead i size k low (and_left (is_cut i size) (k == size / 512) e))
      | inr past ↦ cond-true (nat_le size (512 * k)) None (pointer_at i k) (le-leb size (512 * k) past) ∙ sym (pointer_past ahead i size k past)
    ]

other_pointer : (ahead : List Place) (i : Inode) (size k : ℕ) → (k ≡ size / 512 → ⊥) → cond (nat_le size (512 * k)) None (pointer_at i k) ≡ pointer_cut ahead i size k
other_pointer ahead i size k ne =
    elim (cases_lt (512 * k) size) [
      | inl low ↦ cond-false (nat_le size (512 * k)) None (pointer_at i k) (lt-leb size (512 * k) low) ∙ sym (pointer_old ahead i size k low (and_right (is_cut i size) (k == size / 512) (ne_eqb k (size / 512) ne)))
      | inr past ↦ cond-true (nat_le size (512 * k)) None (pointer_at i k) (le-leb size (512 * k) past) ∙ sym (pointer_past ahead i size k past)
    ]

cut_length : (size count : ℕ) → 512 * (size / 512) < size → size ≤ OBJECT_BYTES → count ≡ OBJECT_BLOCKS → size / 512 < count
cut_length size count low le e = omega arith

cut_pointer : (ahead : List Place) (i : Inode) (size : ℕ) (pointers : List (Option Place)) (p : Place) (k : ℕ) → size / 512 < length pointers → ((k : ℕ) → get_or pointers k None ≡ cond (nat_le size (512 * k)) None (pointer_at i k))
    → is_cut i size ≡ true → slice_get ahead 0 ≡ Some p → get_or (set pointers (size / 512) (Some p)) k None ≡ pointer_cut ahead i size k
cut_pointer ahead i size pointers p k lt each cut at =
    elim (cases_eq k (size / 512)) [
      | inl here ↦
          let low : 512 * (size / 512) < size = (cut_parts i size cut).1 in
          ap (λ n. get_or (set pointers (size / 512) (Some p)) n None) here
          ∙ get_or-set_same pointers (size / 512) (Some p) None lt
          ∙ sym at
          ∙ sym (pointer_new ahead i size k (omega arith) (and_from (is_cut i size) (k == size / 512) cut (eq-eqb k (size / 512) here)))
      | inr ne ↦ get_or-set_other pointers (size / 512) k (Some p) None ne ∙ each k ∙ other_pointer ahead i size k ne
    ]

-- the inode with holes past the size is the one that a truncation makes, where no block is cut
pub whole_truncated : (ahead : List Place) (moment size : ℕ) (i next : Inode) → next ≡ record i { pointers = next.pointers } → ((k : ℕ) → pointer_at next k ≡ cond (nat_le size (512 * k)) None (pointer_at i k))
    → cut_count i size ≡ 0 → Truncated ahead moment size i (record next { size = size; changed = moment })
whole_truncated ahead moment size i next rest pointers none = record {
  alive = ap alive_of rest;
  attribute = ap attribute_of rest;
  created = ap created_of rest;
  changed = refl;
  size = refl;
  pointers = λ k. pointers k ∙ whole_pointer ahead i size k (is_cut-none i size none);
}

-- and with the block that is cut
pub cut_truncated : (ahead : List Place) (moment size : ℕ) (i next : Inode) (p : Place) → next ≡ record i { pointers = next.pointers } → length next.pointers ≡ OBJECT_BLOCKS → size ≤ OBJECT_BYTES → ((k : ℕ) → pointer_at next k ≡ cond (nat_le size (512 * k)) None (pointer_at i k))
    → (cut_count i size ≡ 0 → ⊥) → slice_get ahead 0 ≡ Some p → Truncated ahead moment size i (record next { size = size; changed = moment; pointers = set next.pointers (size / 512) (Some p) })
cut_truncated ahead moment size i next p rest count le pointers some at = record {
  alive = ap alive_of rest;
  attribute = ap attribute_of rest;
  created = ap created_of rest;
  changed = refl;
  size = refl;
  pointers = λ k. cut_pointer ahead i size next.pointers p k (cut_length size (length next.pointers) (cut_parts i size (is_cut-from i size some)).1 le count) pointers (is_cut-from i size some) at;
}

pub blocks_cut-one : (contents : Place → List ℕ) (i : Inode) (size : ℕ) → cut_count i size ≡ 1 → blocks_cut contents i size ≡ block_of (byte_cut contents i size) (size / 512) ∷ []
unfolding listed_blocks
blocks_cut-one contents i size e = ap (listed_blocks (byte_cut contents i size) (size / 512)) e

pub blocks_cut-none : (contents : Place → List ℕ) (i : Inode) (size : ℕ) → cut_count i size ≡ 0 → blocks_cut contents i size ≡ []
unfolding listed_blocks
blocks_cut-none contents i size e = ap (listed_blocks (byte_cut contents i size) (size / 512)) e

pub cut_growth : (object : ℕ) (contents : Place → List ℕ) (i : Inode) (size : ℕ) (before after : Log) (p : Place) → cut_count i size ≡ 1 → after ≡ log_grown before (data_block object (block_of (byte_cut contents i size) (size / 512)))
    → slice_get before.ahead 0 ≡ Some p → before.held p ≡ None → GrowsBy object (blocks_cut contents i size) before after
cut_growth object contents i size before after p one is_after at free =
    subst (λ blocks. GrowsBy object blocks before after) (sym (blocks_cut-one contents i size one))
    (subst (λ l. GrowsBy object (block_of (byte_cut contents i size) (size / 512) ∷ []) before l) (sym is_after)
    (grows-more object [] (block_of (byte_cut contents i size) (size / 512)) before before p (grows-none object before) at free))

pub cut_log : (object : ℕ) (contents : Place → List ℕ) (i : Inode) (size : ℕ) (before after : Log) → cut_count i size ≡ 1 → after ≡ log_grown before (data_block object (block_of (byte_cut contents i size) (size / 512)))
    → after ≡ with_data object (blocks_cut contents i size) before
cut_log object contents i size before after one is_after = is_after ∙ ap (λ blocks. with_data object blocks before) (sym (blocks_cut-one contents i size one))

pub whole_growth : (object : ℕ) (contents : Place → List ℕ) (i : Inode) (size : ℕ) (before : Log) → cut_count i size ≡ 0 → GrowsBy object (blocks_cut contents i size) before before
whole_growth object contents i size before none = subst (λ blocks. GrowsBy object blocks before before) (sym (blocks_cut-none contents i size none)) (grows-none object before)

pub whole_log : (object : ℕ) (contents : Place → List ℕ) (i : Inode) (size : ℕ) (before : Log) → cut_count i size ≡ 0 → before ≡ with_data object (blocks_cut contents i size) before
whole_log object contents i size before none = ap (λ blocks. with_data object blocks before) (sym (blocks_cut-none contents i size none))
