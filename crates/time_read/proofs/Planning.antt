-- A plan as far as it has come.
use Rattle.std.proofs.Common.{◌≡◌, ℕ, ◌+◌, ◌-◌, ◌/◌, ◌%◌, ◌<◌, ◌≤◌, ◌==◌, ◌⊎◌, ◌↔◌, ◌++◌, ◌||◌, Bool, true, false, true≢false, min, List, [], ◌∷◌, map, length, take, drop, slice_index, slice_index_or, Option, Some, None, inl, inr, refl, ap, sym, subst, ◌∙◌, arith}
use Rattle.std.specs.List.{list_any, range_with_len}
use Rattle.std.proofs.lemmas.Bool.{cond-true, cases_lt, eq-eqb}
use Rattle.std.proofs.lemmas.Option.{none-some}
use Rattle.std.proofs.lemmas.List.{get_or_append_left, get_or-append_right, get_or-replicate, get_or_default}
use Rattle.std.proofs.lemmas.List.FromFn.{map-range_with_len_more, length-map-range_with_len, get_or-map-range_with_len}
use Rattle.std.proofs.lemmas.List.Folds.{list_any-append, list_any_at}
use Rattle.s4_types.specs.Pointer.{Place}
use Rattle.s4_types.specs.declared.limits.TheConstants.{OBJECT_BYTES, OBJECT_BLOCKS}
use Rattle.codec.specs.Checkpoint.{pointer_at}
use Rattle.codec.specs.declared.inodes.Inode.{Inode}
use Rattle.codec.specs.Fields.{zeros}
use Rattle.inode.specs.Contents.{contents_of, byte_in, byte_of, bytes_of, listed}
use Rattle.inode.specs.Laws.{slot_bytes, EqualRanges, BytesFromAnOffset}
use Rattle.inode.specs.Touched.{touched_count}
use Rattle.segment_word.specs.Handles.{Held}
use Rattle.segment_word.specs.Layout.{block_bytes}
use Rattle.segment_word.specs.Counting.{pins_in}
use Rattle.segment_table.specs.Table.{Table, held_at}
use Rattle.inode.proofs.Touching.{touched_some}
use Rattle.time_read.specs.Plans.{Piece, Hole, Copied, Pinned, PlanFields, pins_held, piece_of, pieces_of, piece_bytes, byte_planned, bytes_planned, is_pinned, is_pinned_in, IsAt}
use Rattle.time_read.specs.private.Planning.{Keeps, AddsPiece}

-- a plan has the pieces of n blocks of an inode, from block `first` on
pub record Planned (t : Table) (i : Inode) (first n : ℕ) (plan : PlanFields) : Type 0 where
  pub pieces : plan.pieces ≡ map (λ k. piece_of t (pointer_at i k)) (range_with_len first n)
  pub bytes : (k : ℕ) → k < n → piece_bytes (pins_held plan.pin) (slice_index_or plan.pieces k Hole) ≡ slot_bytes (contents_of (held_at t)) (pointer_at i (first + k))
  pub frames : (f : ℕ) → (0 < pins_in f (pins_held plan.pin)) ↔ (list_any (is_pinned_in f) plan.pieces ≡ true)
  pub seat : list_any is_pinned plan.pieces ≡ false → plan.pin ≡ None
  pub at : IsAt t plan.pin

-- ---- the next piece

either_true : (a b : Bool) → ((a || (b || false)) ≡ true) ↔ ((a ≡ true) ⊎ (b ≡ true))
either_true true b = ((λ _. inl refl), (λ _. refl))
either_true false true = ((λ _. inr refl), (λ _. refl))
either_true false false = (
  (λ e. inr e),
  (λ e. elim e [
    | inl x ↦ x
    | inr x ↦ x
  ]),
)

neither : (a b : Bool) → (a || (b || false)) ≡ false → (a ≡ false) × (b ≡ false)
neither true b e = absurd (true≢false e)
neither false true e = absurd (true≢false e)
neither false false e = (refl, refl)

-- a piece whose frame stays counted on keeps its bytes
kept_bytes : (t : Table) (before after : PlanFields) (piece : Piece) → Keeps t before.pin after.pin → ((frame block : ℕ) → piece ≡ Pinned frame block → 0 < pins_in frame (pins_held before.pin))
    → piece_bytes (pins_held after.pin) piece ≡ piece_bytes (pins_held before.pin) piece
kept_bytes t before after Hole keeps counted = refl
kept_bytes t before after (Copied block) keeps counted = refl
kept_bytes t before after (Pinned frame block) keeps counted = ap (λ (c : List ℕ). block_bytes c block) (keeps.contents frame (counted frame block refl))

length_planned : (t : Table) (i : Inode) (first n : ℕ) (plan : PlanFields) → Planned t i first n plan → length plan.pieces ≡ n
length_planned t i first n plan is = ap (length {A = Piece}) is.pieces ∙ length-map-range_with_len (λ k. piece_of t (pointer_at i k)) first n

-- the frame of a pinned piece is counted on
counted_at : (t : Table) (i : Inode) (first n k : ℕ) (plan : PlanFields) → Planned t i first n plan → k < n → (frame block : ℕ) → slice_index_or plan.pieces k Hole ≡ Pinned frame block → 0 < pins_in frame (pins_held plan.pin)
counted_at t i first n k plan is lt frame block e =
    let all : length plan.pieces ≡ n = length_planned t i first n plan is in
    (is.frames frame).1 (list_any_at (is_pinned_in frame) plan.pieces k Hole (omega arith) (ap (is_pinned_in frame) e ∙ eq-eqb frame frame refl))

pub planned_more : (t : Table) (i : Inode) (first n m j : ℕ) (slot : Option Place) (before after : PlanFields) → Planned t i first n before → slot ≡ pointer_at i j → first + n ≡ j → m ≡ n + 1 → AddsPiece t slot before after → Planned t i first m after
planned_more t i first n m j slot before after is is_slot is_next is_more adds =
    let piece : Piece = piece_of t slot in
    let pieces : after.pieces ≡ before.pieces ++ piece ∷ [] = ap (λ (p : PlanFields). p.pieces) adds.rest in
    let keeps = adds.located.keeps in
    let all : length before.pieces ≡ n = length_planned t i first n before is in
    let any : (p : Piece → Bool) → list_any p after.pieces ≡ (list_any p before.pieces || (p piece || false)) = λ p. ap (list_any p) pieces ∙ list_any-append p before.pieces (piece ∷ []) in
    record {
      pieces =
          pieces ∙ ap (λ (l : List Piece). l ++ piece ∷ []) is.pieces
          ∙ ap (λ (s : Option Place). map (λ k. piece_of t (pointer_at i k)) (range_with_len first n) ++ piece_of t s ∷ []) is_slot
          ∙ sym (map-range_with_len_more (λ k. piece_of t (pointer_at i k)) first n j is_next)
          ∙ ap (λ (l : ℕ). map (λ k. piece_of t (pointer_at i k)) (range_with_len first l)) (sym is_more);
      bytes = λ k lt. elim (cases_lt k n) [
        | inl earlier ↦
            let same : slice_index_or after.pieces k Hole ≡ slice_index_or before.pieces k Hole = ap (λ (l : List Piece). slice_index_or l k Hole) pieces ∙ get_or_append_left before.pieces (piece ∷ []) Hole k (omega arith) in
            ap (piece_bytes (pins_held after.pin)) same
            ∙ kept_bytes t before after (slice_index_or before.pieces k Hole) keeps (counted_at t i first n k before is earlier)
            ∙ is.bytes k earlier
        | inr last ↦
            let next_is : j ≡ first + k = omega (arith, is_next, is_more, lt, last) in
            let first_behind : k - n ≡ 0 = omega (arith, is_more, lt, last) in
            let here : slice_index_or after.pieces k Hole ≡ piece =
            ap (λ (l : List Piece). slice_index_or l k Hole) pieces ∙ get_or-append_right before.pieces (piece ∷ []) n k Hole all (omega arith)
            ∙ ap (λ (d : ℕ). slice_index_or (piece ∷ []) d Hole) first_behind in
            ap (piece_bytes (pins_held after.pin)) here
            ∙ adds.located.bytes
            ∙ ap (slot_bytes (contents_of (held_at t))) (is_slot ∙ ap (pointer_at i) next_is)
      ];
      frames = λ f.
          let both = either_true (list_any (is_pinned_in f) before.pieces) (is_pinned_in f piece) in (
            (λ some. any (is_pinned_in f) ∙ both.1 (elim ((adds.located.frames f).0 some) [
              | inl earlier ↦ inl ((is.frames f).0 earlier)
              | inr this ↦ inr this
            ])),
            (λ some. (adds.located.frames f).1 (elim (both.0 (sym (any (is_pinned_in f)) ∙ some)) [
              | inl earlier ↦ inl ((is.frames f).1 earlier)
              | inr this ↦ inr this
            ])),
          );
      seat = λ none.
          let parts = neither (list_any is_pinned before.pieces) (is_pinned piece) (sym (any is_pinned) ∙ none) in
          adds.located.idle parts.1 ∙ is.seat parts.0;
      at = keeps.at;
    }

-- no piece yet
pub planned_none : (t : Table) (i : Inode) (first n : ℕ) (plan : PlanFields) → plan.pieces ≡ [] → plan.pin ≡ None → n ≡ 0 → Planned t i first n plan
planned_none t i first n plan none unpinned is = record {
  pieces = none ∙ ap (λ (m : ℕ). map (λ k. piece_of t (pointer_at i k)) (range_with_len first m)) (sym is);
  bytes = λ k lt. absurd (omega (arith, is, lt));
  frames = λ f. (
    (λ some. absurd (omega (arith, subst (λ (p : Option Held). 0 < pins_in f (pins_held p)) unpinned some))),
    (λ some. absurd (true≢false (sym some ∙ ap (list_any (is_pinned_in f)) none))),
  );
  seat = λ _. unpinned;
  at = λ held e. absurd (none-some held (sym unpinned ∙ e));
}

-- ---- the bytes that are planned

slot_byte : (contents : Place → List ℕ) (slot : Option Place) (n : ℕ) → n < 512 → slice_index (slot_bytes contents slot) n ≡ byte_in contents slot n
unfolding slot_bytes zeros
slot_byte contents None n lt = get_or-replicate {A = ℕ} 512 n 0 0 lt
slot_byte contents (Some p) n lt = refl

planned_byte : (t : Table) (i : Inode) (offset count n : ℕ) (plan : PlanFields) → Planned t i (offset / 512) (touched_count offset count) plan → n < count
    → byte_planned plan (offset % 512 + n) ≡ byte_of (contents_of (held_at t)) i (offset + n)
unfolding byte_planned byte_of
planned_byte t i offset count n plan is lt =
    let k : ℕ = (offset % 512 + n) / 512 in
    let r : ℕ = (offset % 512 + n) % 512 in
    let some : 0 < count = omega arith in
    let blocks = touched_some offset count some in
    let inside : (offset % 512 + n) / 512 < touched_count offset count = omega (arith, blocks, lt) in
    let small : (offset % 512 + n) % 512 < 512 = omega arith in
    let index : offset / 512 + (offset % 512 + n) / 512 ≡ (offset + n) / 512 = omega arith in
    let rest : (offset % 512 + n) % 512 ≡ (offset + n) % 512 = omega arith in
    ap (λ (l : List ℕ). slice_index l ((offset % 512 + n) % 512)) (is.bytes ((offset % 512 + n) / 512) inside)
    ∙ slot_byte (contents_of (held_at t)) (pointer_at i (offset / 512 + (offset % 512 + n) / 512)) ((offset % 512 + n) % 512) small
    ∙ ap (λ (b : ℕ). byte_in (contents_of (held_at t)) (pointer_at i b) ((offset % 512 + n) % 512)) index
    ∙ ap (byte_in (contents_of (held_at t)) (pointer_at i ((offset + n) / 512))) rest

pub planned_bytes : EqualRanges → BytesFromAnOffset → (t : Table) (i : Inode) (offset len n : ℕ) (plan : PlanFields) → Planned t i (offset / 512) n plan → n ≡ touched_count offset (min len (i.size - offset)) → plan.skip ≡ offset % 512 → plan.length ≡ min len (i.size - offset)
    → bytes_planned plan ≡ take len (drop offset (bytes_of (contents_of (held_at t)) i))
planned_bytes equal from t i offset len n plan is whole skip count =
    ap (λ (s : ℕ). listed (byte_planned plan) s plan.length) skip
    ∙ ap (listed (byte_planned plan) (offset % 512)) count
    ∙ equal (byte_planned plan) (byte_of (contents_of (held_at t)) i) (offset % 512) offset (min len (i.size - offset)) (λ m lt. planned_byte t i offset (min len (i.size - offset)) m plan (subst (λ (x : ℕ). Planned t i (offset / 512) x plan) whole is) lt)
    ∙ from (contents_of (held_at t)) i offset len

-- a block that has to be pinned is one of the pieces
pub pinned_among : (t : Table) (i : Inode) (offset count k : ℕ) → k < touched_count offset count → is_pinned (piece_of t (pointer_at i (offset / 512 + k))) ≡ true → list_any is_pinned (pieces_of t i offset count) ≡ true
pinned_among t i offset count k lt is =
    let all : length (pieces_of t i offset count) ≡ touched_count offset count = length-map-range_with_len (λ n. piece_of t (pointer_at i n)) (offset / 512) (touched_count offset count) in
    list_any_at is_pinned (pieces_of t i offset count) k Hole (omega (arith, all, lt))
    (ap is_pinned (get_or-map-range_with_len (λ n. piece_of t (pointer_at i n)) (offset / 512) (touched_count offset count) k (offset / 512 + k) Hole lt refl) ∙ is)

-- a slot of the inode, as an index gives it
pub slot_at : (i : Inode) (k : ℕ) (slot d : Option Place) → k < length i.pointers → slot ≡ slice_index_or i.pointers k d → slot ≡ pointer_at i k
slot_at i k slot d lt is = is ∙ get_or_default i.pointers k d None lt

-- how many blocks a loop from the first one to after the last has passed
pub passed : (count first behind index : ℕ) → behind ≡ first + count → behind ≤ index → index ≤ behind → index - first ≡ count
passed count first behind index is low high = omega arith

-- a block that has a byte of an inode is one of its OBJECT_BLOCKS
pub inside : (offset wanted size index : ℕ) → size ≤ OBJECT_BYTES → offset / 512 ≤ index → index < offset / 512 + touched_count offset (min wanted (size - offset)) → index < OBJECT_BLOCKS
inside offset wanted size index most low below = elim (cases_lt 0 (min wanted (size - offset))) [
  | inl some ↦
      let blocks = touched_some offset (min wanted (size - offset)) some in
      omega (arith, blocks, below, most)
  | inr none ↦
      let is : min wanted (size - offset) ≡ 0 = omega arith in
      let blocks : touched_count offset (min wanted (size - offset)) ≡ 0 = cond-true (min wanted (size - offset) == 0) 0 ((offset + min wanted (size - offset) - 1) / 512 + 1 - offset / 512) (eq-eqb (min wanted (size - offset)) 0 is) in
      absurd (omega (arith, blocks, below, low))
]
