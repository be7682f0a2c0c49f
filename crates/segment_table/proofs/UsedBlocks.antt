-- The used blocks of open and sealed frames: what they are, and what holding one changes.
use Rattle.std.proofs.Common.{◌≡◌, ◌≢◌, inl, inr, ◌⊎◌, ℕ, zero, suc, ◌+◌, ◌-◌, ◌^◌, ◌<◌, ◌≤◌, ltb, Bool, true, false, ◌==◌, ◌&&◌, ◌||◌, if◌then◌else◌, List, [], ◌∷◌, length, map, set, get_or, slice_get, Option, Some, None, IsSome, IfSome, option_map, refl, sym, ap, subst, ◌∙◌, arith}
use Rattle.std.proofs.lemmas.List.{get_or-set_same, get_or-set_other, get_or_past}
use Rattle.std.proofs.lemmas.Option.{slice_get-get_or, slice_get_past}
use Rattle.std.proofs.lemmas.Bool.{cases_Bool, cases_eq, cases_lt, cond-true, cond-false, eq-eqb, ne_eqb, eqb-true, lt-ltb, le-ltb}
use Rattle.std.proofs.Math.Seq.{map-set_same}
use Rattle.s4_types.specs.Pointer.{Place}
use Rattle.lemmas.proofs.Option.{none_not_some}
use Rattle.block_log.specs.Log.{Stored, same_place, is_data}
use Rattle.segment_word.specs.Frames.{Phase, Free, Open, Sealed, Draining, Frame, is_open, is_sealed}
use Rattle.segment_word.specs.Layout.{frame_at, block_bytes}
use Rattle.segment_word.specs.Handles.{Drive}
use Rattle.segment_table.specs.declared.slots.Slot.{Slot}
use Rattle.segment_table.specs.Slots.{no_slot, is_held, capped, data_names, with_names, hold_on}
use Rattle.segment_table.specs.Table.{Table, slots_at, block_slot, stored, held_block, held_at, named_at}
use Rattle.segment_table.specs.Used.{used_slot, with_bytes, is_named, used_block, used_at, HasWholeBlocks, HoldsUsedBlocks}
use Rattle.segment_table.specs.Sealing.{AreWhole, IsFit, IsSoundTable}
use Rattle.segment_table.proofs.Sound.{fit_put}
use Rattle.segment_table.proofs.Viewing.{view_changed}
use Rattle.segment_table.proofs.Reading.{IsUsed, held_used, held_frame}
use Rattle.segment_table.proofs.Naming.{slot_before}

-- the used block of that number
slot_here : (s : List Slot) (b : ℕ) → 1 ≤ b → b ≤ length s → used_slot s b ≡ Some (get_or s (b - 1) no_slot)
slot_here s zero low high = absurd (omega arith)
slot_here s (suc b) low high =
    let e : b ≡ suc b - 1 = omega arith in
    slice_get-get_or s b no_slot (omega arith) ∙ ap (λ (n : ℕ). Some (get_or s n no_slot)) e

slot_inside : (s : List Slot) (b : ℕ) → ((1 ≤ b) × (b ≤ length s)) ⊎ (used_slot s b ≡ None)
slot_inside s zero = inr refl
slot_inside s (suc b) = elim (cases_lt b (length s)) [ inl h ↦ inl (omega arith, omega arith) | inr h ↦ inr (slice_get_past s b h) ]

-- what a pointer names that refers to a used block
pub used_here : (k : Frame) (s : List Slot) (b g : ℕ) → is_named k ≡ true → k.generation ≡ g → 1 ≤ b → b ≤ length s → used_block k s b g ≡ Some (with_bytes (block_bytes k.contents b) (get_or s (b - 1) no_slot))
used_here k s b g named own low high =
    ap (λ (x : Bool). if x && k.generation == g then option_map (with_bytes (block_bytes k.contents b)) (used_slot s b) else None) named
    ∙ ap (λ (x : Bool). if x then option_map (with_bytes (block_bytes k.contents b)) (used_slot s b) else None) (eq-eqb k.generation g own)
    ∙ ap (λ (o : Option Slot). option_map (with_bytes (block_bytes k.contents b)) o) (slot_here s b low high)

-- a pointer names nothing where the frame isn't open or sealed, or is at another generation
pub unnamed_frame : (k : Frame) (s : List Slot) (b g : ℕ) → (is_named k && k.generation == g) ≡ false → used_block k s b g ≡ None
unnamed_frame k s b g other = ap (λ (x : Bool). if x then option_map (with_bytes (block_bytes k.contents b)) (used_slot s b) else None) other

-- A pointer that names a used block, and what it names.
pub record IsUsedAt (k : Frame) (s : List Slot) (b g : ℕ) : Type 0 where
  pub named : is_named k ≡ true
  pub generation : k.generation ≡ g
  pub low : 1 ≤ b
  pub high : b ≤ length s
  pub is : used_block k s b g ≡ Some (with_bytes (block_bytes k.contents b) (get_or s (b - 1) no_slot))

pub used_is : (k : Frame) (s : List Slot) (b g : ℕ) → IsSome (used_block k s b g) → IsUsedAt k s b g
used_is k s b g some = elim (cases_Bool (is_named k)) [
  | inl named ↦ elim (cases_Bool (k.generation == g)) [
    | inl own ↦ elim (slot_inside s b) [
      | inl at ↦ (let same : k.generation ≡ g = eqb-true k.generation g own in
          record { named = named; generation = same; low = at.0; high = at.1; is = used_here k s b g named same at.0 at.1 })
      | inr none ↦ absurd (none_not_some (used_block k s b g)
          (ap (λ (x : Bool). if x && k.generation == g then option_map (with_bytes (block_bytes k.contents b)) (used_slot s b) else None) named
          ∙ ap (λ (x : Bool). if x then option_map (with_bytes (block_bytes k.contents b)) (used_slot s b) else None) own
          ∙ ap (λ (o : Option Slot). option_map (with_bytes (block_bytes k.contents b)) o) none) some)
    ]
    | inr other ↦ absurd (none_not_some (used_block k s b g) (unnamed_frame k s b g (ap (λ (x : Bool). x && k.generation == g) named ∙ other)) some)
  ]
  | inr shut ↦ absurd (none_not_some (used_block k s b g) (unnamed_frame k s b g (ap (λ (x : Bool). x && k.generation == g) shut)) some)
]

-- a used block's frame is there
pub used_inside : (t : Table) (p : Place) → length t.slots ≡ length t.seat.frames → IsSome (used_at t p) → p.frame < length t.seat.frames
used_inside t p counted some =
    let at : IsUsedAt (frame_at t.seat.frames p.frame) (slots_at t.slots p.frame) p.block p.generation = used_is (frame_at t.seat.frames p.frame) (slots_at t.slots p.frame) p.block p.generation some in
    elim (cases_lt p.frame (length t.slots)) [
      | inl low ↦ omega arith
      | inr past ↦ (let none : length (slots_at t.slots p.frame) ≡ 0 = ap length (get_or_past t.slots p.frame [] past) in
          let few : p.block ≤ length (slots_at t.slots p.frame) = at.high in
          let some : 1 ≤ p.block = at.low in
          absurd (omega arith))
    ]

-- a frame that pointers name isn't free, nor being emptied
pub named_phase : (p : Phase) → (is_open p || is_sealed p) ≡ true → (p ≢ Free) × (p ≢ Draining)
named_phase Free e = absurd (cc)
named_phase Open e = (λ same. cc, λ same. cc)
named_phase Sealed e = (λ same. cc, λ same. cc)
named_phase Draining e = absurd (cc)

-- ---- holding one

slot_kept : (bytes : List ℕ) (s : List Slot) (i b : ℕ) → option_map (with_bytes bytes) (slice_get (hold_on s i) b) ≡ option_map (with_bytes bytes) (slice_get s b)
slot_kept bytes [] i b = refl
slot_kept bytes (x ∷ s) zero zero = refl
slot_kept bytes (x ∷ s) zero (suc b) = refl
slot_kept bytes (x ∷ s) (suc i) zero = refl
slot_kept bytes (x ∷ s) (suc i) (suc b) = slot_kept bytes s i b

-- the used blocks stay
pub used_kept : (k : Frame) (s : List Slot) (i b g : ℕ) → used_block k (hold_on s i) b g ≡ used_block k s b g
used_kept k s i zero g = refl
used_kept k s i (suc b) g = ap (λ (o : Option Stored). if is_named k && k.generation == g then o else None) (slot_kept (block_bytes k.contents (suc b)) s i b)

-- what is counted once more is counted
capped_some : (n : ℕ) → ltb 0 (capped (1 + n)) ≡ true
capped_some n = elim (cases_lt (1 + n) (2 ^ 32)) [
  | inl lt ↦ ap (λ (m : ℕ). ltb 0 m) (cond-true (ltb (1 + n) (2 ^ 32)) (1 + n) (2 ^ 32 - 1) (lt-ltb (1 + n) (2 ^ 32) lt)) ∙ lt-ltb 0 (1 + n) (omega arith)
  | inr past ↦ ap (λ (m : ℕ). ltb 0 m) (cond-false (ltb (1 + n) (2 ^ 32)) (1 + n) (2 ^ 32 - 1) (le-ltb (1 + n) (2 ^ 32) past))
]

-- what a frame holds after one of its blocks is held
held_on_at : (k : Frame) (s : List Slot) (p b g : ℕ) → 1 ≤ p → p ≤ length s
    → held_block k (hold_on s (p - 1)) b g ≡ (if p == b && k.generation == g then Some (with_bytes (block_bytes k.contents p) (get_or s (p - 1) no_slot)) else held_block k s b g)
held_on_at k s p zero g low high =
    let it : Stored = with_bytes (block_bytes k.contents p) (get_or s (p - 1) no_slot) in
    sym (ap (λ (x : Bool). if x && k.generation == g then Some it else held_block k s 0 g) (ne_eqb p 0 (λ (e : p ≡ 0). omega arith)))
held_on_at k s p (suc b) g low high =
    let n : ℕ = 1 + data_names (get_or s (p - 1) no_slot) in
    let slot : Slot = record (get_or s (p - 1) no_slot) { named = capped n } in
    let it : Stored = with_bytes (block_bytes k.contents p) (get_or s (p - 1) no_slot) in
    let none : Option Stored = None in
    elim (cases_eq b (p - 1)) [
      | inl at ↦ (let same : p ≡ suc b = omega arith in
          let inside : b < length s = omega arith in
          let put : get_or (set s (p - 1) slot) b no_slot ≡ slot = ap (λ (n : ℕ). get_or (set s n slot) b no_slot) (sym at) ∙ get_or-set_same s b slot no_slot inside in
          let is : stored (get_or (set s (p - 1) slot) b no_slot) (block_bytes k.contents (suc b)) ≡ Some it =
          ap (λ (x : Slot). stored x (block_bytes k.contents (suc b))) put
          ∙ cond-true (is_held slot) (Some (with_bytes (block_bytes k.contents (suc b)) (get_or s (p - 1) no_slot))) None (capped_some (data_names (get_or s (p - 1) no_slot)))
          ∙ ap (λ (n : ℕ). Some (with_bytes (block_bytes k.contents n) (get_or s (p - 1) no_slot))) (sym same) in
          ap (λ (x : Option Stored). if k.generation == g then x else None) is
          ∙ elim (cases_Bool (k.generation == g)) [
            | inl own ↦ ap (λ (x : Bool). if x then Some it else none) own
                ∙ sym (ap (λ (x : Bool). if x && k.generation == g then Some it else held_block k s (suc b) g) (eq-eqb p (suc b) same)
                ∙ ap (λ (x : Bool). if x then Some it else held_block k s (suc b) g) own)
            | inr other ↦ ap (λ (x : Bool). if x then Some it else none) other
                ∙ sym (ap (λ (x : Bool). if x && k.generation == g then Some it else held_block k s (suc b) g) (eq-eqb p (suc b) same)
                ∙ ap (λ (x : Bool). if x then Some it else held_block k s (suc b) g) other
                ∙ ap (λ (x : Bool). if x then stored (block_slot s (suc b)) (block_bytes k.contents (suc b)) else None) other)
          ])
      | inr ne ↦ ap (λ (x : Slot). if k.generation == g then stored x (block_bytes k.contents (suc b)) else None) (get_or-set_other s (p - 1) b slot no_slot ne)
          ∙ sym (ap (λ (x : Bool). if x && k.generation == g then Some it else held_block k s (suc b) g) (ne_eqb p (suc b) (λ (e : p ≡ suc b). ne (omega arith))))
    ]

-- a block that was put on hold is held, and all else as before
pub held_on : (old new : Table) (p q : Place) → p.frame < length old.slots → IsUsedAt (frame_at old.seat.frames p.frame) (slots_at old.slots p.frame) p.block p.generation
    → new.seat ≡ old.seat → new.slots ≡ set old.slots p.frame (hold_on (slots_at old.slots p.frame) (p.block - 1))
    → held_at new q ≡ (if same_place p q then used_at old p else held_at old q)
held_on old new p q inside used drive slots =
    let f : ℕ = p.frame in
    let s : List Slot = slots_at old.slots f in
    let k : Frame = frame_at old.seat.frames f in
    let it : Stored = with_bytes (block_bytes k.contents p.block) (get_or s (p.block - 1) no_slot) in
    ap (λ (d : Drive). held_block (frame_at d.frames q.frame) (slots_at new.slots q.frame) q.block q.generation) drive
    ∙ elim (cases_eq q.frame f) [
      | inl at ↦ (let P : ℕ → Type 0 = λ n. held_block (frame_at old.seat.frames n) (slots_at new.slots n) q.block q.generation ≡ (if f == n && (p.block == q.block && p.generation == q.generation) then Some it else held_block (frame_at old.seat.frames n) (slots_at old.slots n) q.block q.generation) in
          let here : slots_at new.slots f ≡ hold_on s (p.block - 1) = ap (λ (l : List (List Slot)). slots_at l f) slots ∙ get_or-set_same old.slots f (hold_on s (p.block - 1)) [] inside in
          subst P (sym at)
          (ap (λ (l : List Slot). held_block k l q.block q.generation) here
          ∙ held_on_at k s p.block q.block q.generation used.low used.high
          ∙ ap (λ (n : ℕ). if p.block == q.block && n == q.generation then Some it else held_block k s q.block q.generation) used.generation
          ∙ sym (ap (λ (x : Bool). if x && (p.block == q.block && p.generation == q.generation) then Some it else held_block k s q.block q.generation) (eq-eqb f f refl))))
      | inr ne ↦ ap (λ (l : List (List Slot)). held_block (frame_at old.seat.frames q.frame) (slots_at l q.frame) q.block q.generation) slots
          ∙ ap (λ (l : List Slot). held_block (frame_at old.seat.frames q.frame) l q.block q.generation) (get_or-set_other old.slots f q.frame (hold_on s (p.block - 1)) [] ne)
          ∙ sym (ap (λ (x : Bool). if x && (p.block == q.block && p.generation == q.generation) then Some it else held_at old q) (ne_eqb f q.frame (λ (same : f ≡ q.frame). ne (sym same))))
    ]
    ∙ ap (λ (o : Option Stored). if same_place p q then o else held_at old q) (sym used.is)

-- and of data it has one name more
pub named_on : (old new : Table) (p q : Place) → p.frame < length old.slots → IsUsedAt (frame_at old.seat.frames p.frame) (slots_at old.slots p.frame) p.block p.generation
    → new.seat ≡ old.seat → new.slots ≡ set old.slots p.frame (hold_on (slots_at old.slots p.frame) (p.block - 1))
    → named_at new q ≡ (if same_place p q then (if is_data (used_at old p) then capped (1 + named_at old p) else 0) else named_at old q)
named_on old new p q inside used drive slots =
    let n : ℕ = data_names (get_or (slots_at old.slots p.frame) (p.block - 1) no_slot) in
    let slot : Slot = record (get_or (slots_at old.slots p.frame) (p.block - 1) no_slot) { named = capped (1 + n) } in
    let here : named_at old p ≡ n =
    cond-true ((frame_at old.seat.frames p.frame).generation == p.generation) (data_names (block_slot (slots_at old.slots p.frame) p.block)) 0 (eq-eqb (frame_at old.seat.frames p.frame).generation p.generation used.generation)
    ∙ ap data_names (slot_before (slots_at old.slots p.frame) p.block used.low) in
    view_changed (λ (k : Frame) (b : ℕ) (x : Slot). data_names x) 0 old new p q slot inside used.low used.high used.generation drive slots
    ∙ ap (λ (o : Option Stored). if same_place p q then (if is_data o then capped (1 + n) else 0) else named_at old q) (sym used.is)
    ∙ ap (λ (m : ℕ). if same_place p q then (if is_data (used_at old p) then capped (1 + m) else 0) else named_at old q) (sym here)

-- and what is used stays
pub used_still : (old new : Table) (f i : ℕ) (q : Place) → f < length old.slots → new.seat ≡ old.seat → new.slots ≡ set old.slots f (hold_on (slots_at old.slots f) i) → used_at new q ≡ used_at old q
used_still old new f i q inside drive slots =
    ap (λ (d : Drive). used_block (frame_at d.frames q.frame) (slots_at new.slots q.frame) q.block q.generation) drive
    ∙ ap (λ (l : List (List Slot)). used_block (frame_at old.seat.frames q.frame) (slots_at l q.frame) q.block q.generation) slots
    ∙ elim (cases_eq q.frame f) [
      | inl at ↦ (let P : ℕ → Type 0 = λ n. used_block (frame_at old.seat.frames n) (slots_at (set old.slots f (hold_on (slots_at old.slots f) i)) n) q.block q.generation ≡ used_block (frame_at old.seat.frames n) (slots_at old.slots n) q.block q.generation in
          subst P (sym at)
          (ap (λ (l : List Slot). used_block (frame_at old.seat.frames f) l q.block q.generation) (get_or-set_same old.slots f (hold_on (slots_at old.slots f) i) [] inside)
          ∙ used_kept (frame_at old.seat.frames f) (slots_at old.slots f) i q.block q.generation))
      | inr ne ↦ ap (λ (l : List Slot). used_block (frame_at old.seat.frames q.frame) l q.block q.generation) (get_or-set_other old.slots f q.frame (hold_on (slots_at old.slots f) i) [] ne)
    ]

-- and what the used blocks are for, however many places name one of them
pub roles_still : (old : List (List Slot)) (f i n g : ℕ) → f < length old → map (λ (x : Slot). x.role) (slots_at (set old f (with_names (slots_at old f) i n)) g) ≡ map (λ (x : Slot). x.role) (slots_at old g)
roles_still old f i n g inside = elim (cases_eq g f) [
  | inl at ↦ (let P : ℕ → Type 0 = λ h. map (λ (x : Slot). x.role) (slots_at (set old f (with_names (slots_at old f) i n)) h) ≡ map (λ (x : Slot). x.role) (slots_at old h) in
      subst P (sym at)
      (ap (map (λ (x : Slot). x.role)) (get_or-set_same old f (with_names (slots_at old f) i n) [] inside)
      ∙ map-set_same (λ (x : Slot). x.role) (slots_at old f) i (record (get_or (slots_at old f) i no_slot) { named = n }) no_slot refl))
  | inr ne ↦ ap (map (λ (x : Slot). x.role)) (get_or-set_other old f g (with_names (slots_at old f) i n) [] ne)
]

-- the frame of a block that this many places name fits
pub fit_named : (f : ℕ) (k : Frame) (s : List Slot) (i n : ℕ) → IsFit f k s → k.phase ≢ Draining → IsFit f k (with_names s i n)
fit_named f k s i n fit ne = fit_put f k s i (record (get_or s i no_slot) { named = n }) refl fit (λ e. absurd (ne e))

-- ---- what holds of all

-- a used block has 512 bytes
whole_at : (contents : List ℕ) (s : List Slot) (b : ℕ) → AreWhole contents (length s) → IfSome (option_map (with_bytes (block_bytes contents b)) (used_slot s b)) (λ block. length block.bytes ≡ 512)
whole_at contents s b whole =
    let W : Option Slot → Type 0 = λ o. IfSome (option_map (with_bytes (block_bytes contents b)) o) (λ block. length block.bytes ≡ 512) in
    elim (slot_inside s b) [
      | inl at ↦ subst W (sym (slot_here s b at.0 at.1)) (whole b at.0 at.1)
      | inr none ↦ subst W (sym none) tt
    ]

used_whole : (k : Frame) (s : List Slot) (b g : ℕ) → AreWhole k.contents (length s) → IfSome (used_block k s b g) (λ block. length block.bytes ≡ 512)
used_whole k s b g whole =
    let W : Bool → Type 0 = λ x. IfSome (if x then option_map (with_bytes (block_bytes k.contents b)) (used_slot s b) else None) (λ block. length block.bytes ≡ 512) in
    elim (cases_Bool (is_named k && k.generation == g)) [
      | inl here ↦ subst W (sym here) (whole_at k.contents s b whole)
      | inr other ↦ subst W (sym other) tt
    ]

pub all_whole : (t : Table) (free : List ℕ) (current : Option ℕ) → IsSoundTable t free current → HasWholeBlocks t
all_whole t free current sound p =
    let k : Frame = frame_at t.seat.frames p.frame in
    let s : List Slot = slots_at t.slots p.frame in
    used_whole k s p.block p.generation (elim (cases_lt p.frame (length t.slots)) [
      | inl low ↦ (sound.fit p.frame (omega (arith, sound.counted))).whole
      | inr past ↦ (let none : length s ≡ 0 = ap length (get_or_past t.slots p.frame [] past) in λ b low high. absurd (omega arith))
    ])

-- what is held of a used block is the block
held_is : (k : Frame) (s : List Slot) (b g : ℕ) → IsUsed k s b g → held_block k s b g ≡ Some (with_bytes (block_bytes k.contents b) (get_or s (b - 1) no_slot))
held_is k s b g used =
    ap (λ (x : Bool). if x then stored (block_slot s b) (block_bytes k.contents b) else None) (eq-eqb k.generation g used.generation)
    ∙ ap (λ (x : Bool). if x then Some (with_bytes (block_bytes k.contents b) (block_slot s b)) else None) used.held
    ∙ ap (λ (x : Slot). Some (with_bytes (block_bytes k.contents b) x)) (slot_before s b used.low)

named_when : (p : Phase) → (p ≡ Open) ⊎ (p ≡ Sealed) → (is_open p || is_sealed p) ≡ true
named_when p (inl e) = ap (λ (x : Phase). is_open x || is_sealed x) e
named_when p (inr e) = ap (λ (x : Phase). is_open x || is_sealed x) e

pub all_used : (t : Table) (free : List ℕ) (current : Option ℕ) → IsSoundTable t free current → HoldsUsedBlocks t
all_used t free current sound p block is =
    let k : Frame = frame_at t.seat.frames p.frame in
    let s : List Slot = slots_at t.slots p.frame in
    let some : IsSome (held_at t p) = subst IsSome (sym is) refl in
    let used : IsUsed k s p.block p.generation = held_used k s p.block p.generation some in
    let named : is_named k ≡ true = named_when k.phase (held_frame t free current p sound some).1 in
    used_here k s p.block p.generation named used.generation used.low used.high ∙ sym (held_is k s p.block p.generation used) ∙ is
