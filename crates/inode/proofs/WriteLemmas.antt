-- A write: the inode after it represents the version after it.
use Rattle.std.proofs.Common.{◌≡◌, ℕ, ◌+◌, ◌-◌, ◌*◌, ◌/◌, ◌<◌, ◌≤◌, max, Bool, true, false, cond, eqb, List, [], ◌∷◌, length, get_or, slice_get, None, inl, inr, refl, ap, sym, ◌∙◌, arith}
use Rattle.std.proofs.lemmas.Bool.{cases_lt, cases_Bool, cond-true, cond-false, eq-eqb, ne_eqb, true≢false}
use Rattle.s4_types.specs.Pointer.{Place}
use Rattle.s4_types.specs.declared.changes.Change.TheVariants.{Write}
use Rattle.s4_types.specs.declared.versions.Version.TheVariants.{Absent, Live}
use Rattle.s4_types.specs.declared.limits.TheConstants.{OBJECT_BYTES, OBJECT_BLOCKS}
use Rattle.s4_model.specs.Effect.{effect, written}
use Rattle.block_log.specs.Log.{Log}
use Rattle.codec.specs.Checkpoint.{pointer_at}
use Rattle.codec.specs.declared.inodes.Inode.{Inode}
use Rattle.inode.specs.Contents.{listed, byte_of, bytes_of, contents_of, meaning}
use Rattle.inode.specs.Tidiness.{Tidy, PointersLead, PointersHeld}
use Rattle.inode.specs.Growth.{GrowsBy}
use Rattle.inode.specs.Touched.{touched_count, is_touched}
use Rattle.inode.specs.Changed.{byte_written, blocks_written, size_written, Written}
use Rattle.inode.proofs.Listing.{listed-same, listed-is}
use Rattle.inode.proofs.Bytes.{bytes_of-length, bytes_of-at}
use Rattle.inode.proofs.Placing.{byte_written-in, byte_written-before, byte_written-behind, written-length, written-before, written-in, written-behind}
use Rattle.inode.proofs.Touching.{touched_within, touched_by, is_touched-true, is_touched-from}
use Rattle.inode.proofs.Following.{byte_of-new, byte_of-old, held-new, held-old}

-- a byte whose block no write touches isn't written
byte_untouched : (contents : Place → List ℕ) (i : Inode) (offset : ℕ) (bytes : List ℕ) (n : ℕ) → is_touched offset (length bytes) (n / 512) ≡ false → byte_written contents i offset bytes n ≡ byte_of contents i n
byte_untouched contents i offset bytes n e =
    elim (cases_lt n offset) [
      | inl before ↦ byte_written-before contents i offset bytes n before
      | inr past ↦ elim (cases_lt n (offset + length bytes)) [
        | inl within ↦
            let touched = touched_by offset (length bytes) (n / 512) (omega arith) (omega arith) (omega arith) in
            absurd (true≢false (sym (is_touched-from offset (length bytes) (n / 512) touched.0 touched.1) ∙ e))
        | inr behind ↦ byte_written-behind contents i offset bytes n behind
      ]
    ]

-- after a write each byte is the one that the write makes
pub byte_of-write : (object moment offset : ℕ) (bytes : List ℕ) (i j : Inode) (before after : Log) → GrowsBy object (blocks_written (contents_of before.held) i offset bytes) before after
    → Written before.ahead moment offset (length bytes) i j → PointersLead before.held i → (n : ℕ) → byte_of (contents_of after.held) j n ≡ byte_written (contents_of before.held) i offset bytes n
byte_of-write object moment offset bytes i j before after grows inode leads n =
    elim (cases_Bool (is_touched offset (length bytes) (n / 512))) [
      | inl e ↦
          let bounds = is_touched-true offset (length bytes) (n / 512) e in
          byte_of-new object (byte_written (contents_of before.held) i offset bytes) (offset / 512) (touched_count offset (length bytes)) before after j (n / 512) (n / 512 - offset / 512) n grows
          (inode.pointers (n / 512) ∙ cond-true (is_touched offset (length bytes) (n / 512)) (slice_get before.ahead (n / 512 - offset / 512)) (pointer_at i (n / 512)) e)
          (omega (arith, bounds.0, bounds.1)) (omega (arith, bounds.0)) refl
      | inr e ↦
          byte_of-old before.held after.held i j n grows.kept leads
          (inode.pointers (n / 512) ∙ cond-false (is_touched offset (length bytes) (n / 512)) (slice_get before.ahead (n / 512 - offset / 512)) (pointer_at i (n / 512)) e)
          ∙ sym (byte_untouched (contents_of before.held) i offset bytes n e)
    ]

pub size_written-none : (size offset len : ℕ) → len ≡ 0 → size_written size offset len ≡ size
size_written-none size offset len e = cond-true (eqb len 0) size (max size (offset + len)) (eq-eqb len 0 e)

pub size_written-some : (size offset len : ℕ) → 0 < len → size_written size offset len ≡ max size (offset + len)
size_written-some size offset len lt = cond-false (eqb len 0) size (max size (offset + len)) (ne_eqb len 0 (λ e. omega arith))

-- the bytes that a write makes, as a list
byte_is_written : (contents : Place → List ℕ) (i : Inode) (offset : ℕ) (bytes : List ℕ) (n : ℕ) → Tidy contents i → 0 < length bytes → get_or (written offset bytes (bytes_of contents i)) n 0 ≡ byte_written contents i offset bytes n
byte_is_written contents i offset bytes n tidy some =
    elim (cases_lt n offset) [
      | inl before ↦ written-before offset bytes (bytes_of contents i) n some before ∙ bytes_of-at contents i n tidy ∙ sym (byte_written-before contents i offset bytes n before)
      | inr past ↦ elim (cases_lt n (offset + length bytes)) [
        | inl within ↦ written-in offset bytes (bytes_of contents i) n past within ∙ sym (byte_written-in contents i offset bytes n past within)
        | inr behind ↦ written-behind offset bytes (bytes_of contents i) n some behind ∙ bytes_of-at contents i n tidy ∙ sym (byte_written-behind contents i offset bytes n behind)
      ]
    ]

written_none : (offset : ℕ) (bytes content : List ℕ) → length bytes ≡ 0 → written offset bytes content ≡ content
written_none offset [] content e = refl
written_none offset (b ∷ bytes) content e = absurd (omega arith)

nothing_written : (contents : Place → List ℕ) (i : Inode) (offset : ℕ) (bytes : List ℕ) (n : ℕ) → length bytes ≡ 0 → byte_written contents i offset bytes n ≡ byte_of contents i n
nothing_written contents i offset bytes n none =
    elim (cases_lt n offset) [
      | inl before ↦ byte_written-before contents i offset bytes n before
      | inr past ↦ byte_written-behind contents i offset bytes n (omega arith)
    ]

bytes_of-write : (contents after : Place → List ℕ) (ahead : List Place) (moment offset : ℕ) (bytes : List ℕ) (i j : Inode) → Written ahead moment offset (length bytes) i j → Tidy contents i
    → ((n : ℕ) → byte_of after j n ≡ byte_written contents i offset bytes n) → bytes_of after j ≡ written offset bytes (bytes_of contents i)
bytes_of-write contents after ahead moment offset bytes i j inode tidy each =
    elim (cases_lt 0 (length bytes)) [
      | inl some ↦
          let size : length (written offset bytes (bytes_of contents i)) ≡ j.size = written-length offset bytes (bytes_of contents i) some ∙ ap (λ n. max n (offset + length bytes)) (bytes_of-length contents i) ∙ sym (inode.size ∙ size_written-some i.size offset (length bytes) some) in
          sym (listed-is (byte_of after j) 0 j.size (written offset bytes (bytes_of contents i)) size
          (λ n lt. byte_is_written contents i offset bytes n tidy some ∙ sym (each n) ∙ ap (byte_of after j) (omega arith)))
      | inr none ↦
          listed-same (byte_of after j) (byte_of contents i) 0 0 j.size (λ n lt. each (0 + n) ∙ nothing_written contents i offset bytes (0 + n) (omega arith))
          ∙ ap (λ n. listed (byte_of contents i) 0 n) (inode.size ∙ size_written-none i.size offset (length bytes) (omega arith))
          ∙ sym (written_none offset bytes (bytes_of contents i) (omega arith))
    ]

live_or_absent : (alive was : Bool) (bytes old attribute old_attribute new : List ℕ) (created old_created changed old_changed moment object offset : ℕ) → alive ≡ was → bytes ≡ written offset new old → attribute ≡ old_attribute → created ≡ old_created → changed ≡ moment
    → cond alive (Live bytes attribute created changed) Absent ≡ effect (Write object offset new) moment (cond was (Live old old_attribute old_created old_changed) Absent)
live_or_absent alive true bytes old attribute old_attribute new created old_created changed old_changed moment object offset e1 e2 e3 e4 e5 =
    ap (λ b. cond b (Live bytes attribute created changed) Absent) e1
    ∙ ap (λ b. Live b attribute created changed) e2
    ∙ ap (λ a. Live (written offset new old) a created changed) e3
    ∙ ap (λ c. Live (written offset new old) old_attribute c changed) e4
    ∙ ap (λ c. Live (written offset new old) old_attribute old_created c) e5
live_or_absent alive false bytes old attribute old_attribute new created old_created changed old_changed moment object offset e1 e2 e3 e4 e5 = ap (λ b. cond b (Live bytes attribute created changed) Absent) e1

pub write_means : (object moment offset : ℕ) (bytes : List ℕ) (i j : Inode) (before after : Log) → GrowsBy object (blocks_written (contents_of before.held) i offset bytes) before after
    → Written before.ahead moment offset (length bytes) i j → Tidy (contents_of before.held) i → PointersLead before.held i
    → meaning (contents_of after.held) j ≡ effect (Write object offset bytes) moment (meaning (contents_of before.held) i)
write_means object moment offset bytes i j before after grows inode tidy leads =
    live_or_absent j.alive i.alive (bytes_of (contents_of after.held) j) (bytes_of (contents_of before.held) i) j.attribute i.attribute bytes j.created i.created j.changed i.changed moment object offset inode.alive
    (bytes_of-write (contents_of before.held) (contents_of after.held) before.ahead moment offset bytes i j inode tidy (byte_of-write object moment offset bytes i j before after grows inode leads))
    inode.attribute inode.created inode.changed

written_larger : (size offset len new : ℕ) → new ≡ size_written size offset len → size ≤ new
written_larger size offset len new e =
    elim (cases_lt 0 len) [
      | inl some ↦ let is = size_written-some size offset len some in omega arith
      | inr none ↦ let is = size_written-none size offset len (omega arith) in omega arith
    ]

written_within : (size offset len new : ℕ) → new ≡ size_written size offset len → size ≤ OBJECT_BYTES → offset + len ≤ OBJECT_BYTES → new ≤ OBJECT_BYTES
written_within size offset len new e le end =
    elim (cases_lt 0 len) [
      | inl some ↦ let is = size_written-some size offset len some in omega arith
      | inr none ↦ let is = size_written-none size offset len (omega arith) in omega arith
    ]

written_reaches : (size offset len new : ℕ) → new ≡ size_written size offset len → 0 < len → offset + len ≤ new
written_reaches size offset len new e some = let is = size_written-some size offset len some in omega arith

write_holes : (contents : Place → List ℕ) (ahead : List Place) (moment offset len : ℕ) (i j : Inode) (k : ℕ) → Written ahead moment offset len i j → Tidy contents i → j.size ≤ 512 * k → pointer_at j k ≡ None
write_holes contents ahead moment offset len i j k inode tidy le =
    let larger : i.size ≤ j.size = written_larger i.size offset len j.size inode.size in
    elim (cases_Bool (is_touched offset len k)) [
      | inl e ↦
          let bounds = is_touched-true offset len k e in
          let within = touched_within offset len k bounds.0 bounds.1 in
          let reaches : offset + len ≤ j.size = written_reaches i.size offset len j.size inode.size within.0 in
          absurd (omega (arith, within.1.1))
      | inr e ↦ inode.pointers k ∙ cond-false (is_touched offset len k) (slice_get ahead (k - offset / 512)) (pointer_at i k) e ∙ tidy.holes k (omega arith)
    ]

written_zeros : (contents : Place → List ℕ) (i : Inode) (offset : ℕ) (bytes : List ℕ) (n new : ℕ) → new ≡ size_written i.size offset (length bytes) → Tidy contents i → new ≤ n → byte_written contents i offset bytes n ≡ 0
written_zeros contents i offset bytes n new e tidy le =
    let larger : i.size ≤ new = written_larger i.size offset (length bytes) new e in
    elim (cases_lt 0 (length bytes)) [
      | inl some ↦
          let reaches : offset + length bytes ≤ new = written_reaches i.size offset (length bytes) new e some in
          byte_written-behind contents i offset bytes n (omega arith) ∙ tidy.zeros n (omega arith)
      | inr none ↦ nothing_written contents i offset bytes n (omega arith) ∙ tidy.zeros n (omega arith)
    ]

pub write_tidy : (object moment offset : ℕ) (bytes : List ℕ) (i j : Inode) (before after : Log) → GrowsBy object (blocks_written (contents_of before.held) i offset bytes) before after
    → Written before.ahead moment offset (length bytes) i j → Tidy (contents_of before.held) i → PointersLead before.held i → offset + length bytes ≤ OBJECT_BYTES → length j.pointers ≡ OBJECT_BLOCKS
    → Tidy (contents_of after.held) j
write_tidy object moment offset bytes i j before after grows inode tidy leads end count =
    let larger : i.size ≤ j.size = written_larger i.size offset (length bytes) j.size inode.size in
    record {
      count = count;
      size = written_within i.size offset (length bytes) j.size inode.size tidy.size end;
      holes = λ k le. write_holes (contents_of before.held) before.ahead moment offset (length bytes) i j k inode tidy le;
      zeros = λ n le. byte_of-write object moment offset bytes i j before after grows inode leads n ∙ written_zeros (contents_of before.held) i offset bytes n j.size inode.size tidy le;
    }

pub write_held : (object moment offset : ℕ) (bytes : List ℕ) (i j : Inode) (before after : Log) → GrowsBy object (blocks_written (contents_of before.held) i offset bytes) before after
    → Written before.ahead moment offset (length bytes) i j → PointersHeld before.held object i → PointersHeld after.held object j
write_held object moment offset bytes i j before after grows inode held k p at =
    elim (cases_Bool (is_touched offset (length bytes) k)) [
      | inl e ↦
          let bounds = is_touched-true offset (length bytes) k e in
          held-new object (byte_written (contents_of before.held) i offset bytes) (offset / 512) (touched_count offset (length bytes)) before after (k - offset / 512) p grows
          (sym (inode.pointers k ∙ cond-true (is_touched offset (length bytes) k) (slice_get before.ahead (k - offset / 512)) (pointer_at i k) e) ∙ at)
          (omega (arith, bounds.0, bounds.1))
      | inr e ↦
          held-old object before.held after.held i k p grows.kept held
          (sym (inode.pointers k ∙ cond-false (is_touched offset (length bytes) k) (slice_get before.ahead (k - offset / 512)) (pointer_at i k) e) ∙ at)
    ]

abbrev alive_of : Inode → Bool
alive_of i = i.alive

abbrev attribute_of : Inode → List ℕ
attribute_of i = i.attribute

abbrev created_of : Inode → ℕ
created_of i = i.created

-- an inode with the pointers of a write, and with its size and moment, is the one that it makes
pub is_written : (ahead : List Place) (moment offset len : ℕ) (i next : Inode) (size : ℕ) → next ≡ record i { pointers = next.pointers }
    → ((k : ℕ) → pointer_at next k ≡ cond (is_touched offset len k) (slice_get ahead (k - offset / 512)) (pointer_at i k)) → size ≡ size_written i.size offset len
    → Written ahead moment offset len i (record next { size = size; changed = moment })
is_written ahead moment offset len i next size rest pointers grown = record {
  alive = ap alive_of rest;
  attribute = ap attribute_of rest;
  created = ap created_of rest;
  changed = refl;
  size = grown;
  pointers = pointers;
}
