-- What the places of a table hold, after one frame has changed.
use Rattle.std.proofs.Common.{◌≡◌, ◌≢◌, inl, inr, ◌⊎◌, ℕ, zero, suc, ◌+◌, ◌<◌, ◌≤◌, Bool, ◌==◌, ◌&&◌, if◌then◌else◌, List, [], ◌∷◌, ◌++◌, length, Some, None, refl, sym, ap, subst, ◌∙◌, add-one, length-append, arith}
use Rattle.std.proofs.lemmas.List.{get_or-set_same, get_or-set_other, get_or_past, get_or_push, get_or_append_left}
use Rattle.std.proofs.lemmas.Bool.{cases_Bool, cases_eq, cases_lt, eq-eqb, ne_eqb}
use Rattle.s4_types.specs.Pointer.{Place}
use Rattle.block_log.specs.Log.{Stored, with_held}
use Rattle.codec.specs.declared.summaries.BlockRole.{BlockRole}
use Rattle.segment_word.specs.Frames.{Frame}
use Rattle.segment_word.specs.Layout.{frame_at, block_bytes}
use Rattle.segment_table.specs.declared.slots.Slot.{Slot}
use Rattle.segment_table.specs.Slots.{no_slot}
use Rattle.segment_table.specs.Table.{Table, slots_at, block_slot, stored, held_block, held_at}
use Rattle.segment_table.specs.Changes.{IsAlone, KeepsGeneration, KeepsBlock, IsPut}
use Rattle.segment_table.proofs.Alone.{elsewhere, generation_alone}

-- a block is used, or nothing is stored there
slot_cases : (s : List Slot) (b : ℕ) → ((1 ≤ b) × (b ≤ length s)) ⊎ (block_slot s b ≡ no_slot)
slot_cases s zero = inr refl
slot_cases s (suc b) = elim (cases_lt b (length s)) [ inl h ↦ inl (omega arith, omega arith) | inr h ↦ inr (get_or_past s b no_slot h) ]

-- the same slot at the same generation, with bytes that are the same where it is used
pub held_same : (k k' : Frame) (s : List Slot) (b g : ℕ) → k'.generation ≡ k.generation → (1 ≤ b → b ≤ length s → block_bytes k'.contents b ≡ block_bytes k.contents b) → held_block k' s b g ≡ held_block k s b g
held_same k k' s b g e same =
    ap (λ (n : ℕ). if n == g then stored (block_slot s b) (block_bytes k'.contents b) else None) e
    ∙ elim (slot_cases s b) [
      | inl h ↦ ap (λ (x : List ℕ). if k.generation == g then stored (block_slot s b) x else None) (same h.0 h.1)
      | inr none ↦ ap (λ (slot : Slot). if k.generation == g then stored slot (block_bytes k'.contents b) else None) none
          ∙ sym (ap (λ (slot : Slot). if k.generation == g then stored slot (block_bytes k.contents b) else None) none)
    ]

held_kept_at : (old new : Table) (f : ℕ) (q : Place) → IsAlone f old.seat new.seat → KeepsGeneration f old.seat new.seat
    → ((b : ℕ) → 1 ≤ b → b ≤ length (slots_at old.slots f) → KeepsBlock f b old.seat new.seat)
    → new.slots ≡ old.slots → held_at new q ≡ held_at old q
held_kept_at old new f q a k same e =
    ap (λ (l : List (List Slot)). held_block (frame_at new.seat.frames q.frame) (slots_at l q.frame) q.block q.generation) e
    ∙ held_same (frame_at old.seat.frames q.frame) (frame_at new.seat.frames q.frame) (slots_at old.slots q.frame) q.block q.generation (generation_alone old.seat new.seat f q.frame a k)
    (λ low high. elim (cases_eq q.frame f) [
      | inl at ↦ (let P : ℕ → Type 0 = λ n. KeepsBlock n q.block old.seat new.seat in
          let H : ℕ → Type 0 = λ n. q.block ≤ length (slots_at old.slots n) in
          subst P (sym at) (same q.block low (subst H at high)))
      | inr ne ↦ ap (λ (x : Frame). block_bytes x.contents q.block) (elsewhere old.seat new.seat f q.frame a ne)
    ])

-- where the used blocks of the frame that changed are as they were, the same is held
pub held_kept : (old new : Table) (f : ℕ) → IsAlone f old.seat new.seat → KeepsGeneration f old.seat new.seat
    → ((b : ℕ) → 1 ≤ b → b ≤ length (slots_at old.slots f) → KeepsBlock f b old.seat new.seat)
    → new.slots ≡ old.slots → held_at new ≡ held_at old
held_kept old new f a k same e = λ i q. held_kept_at old new f q a k same e i

pub slot_more : (s : List Slot) (slot : Slot) (b : ℕ) → b ≢ length s + 1 → block_slot (s ++ slot ∷ []) b ≡ block_slot s b
slot_more s slot zero ne = refl
slot_more s slot (suc b) ne = elim (cases_lt b (length s)) [
  | inl h ↦ get_or_append_left s (slot ∷ []) no_slot b h
  | inr h ↦ elim (cases_eq b (length s)) [
    | inl e ↦ absurd (ne (omega arith))
    | inr apart ↦ (let past : length (s ++ slot ∷ []) ≤ b = elim (cases_lt (length s) b) [ inl less ↦ omega (arith, length-append s (slot ∷ [])) | inr more ↦ absurd (apart (omega arith)) ] in
        get_or_past (s ++ slot ∷ []) b no_slot past ∙ sym (get_or_past s b no_slot h))
  ]
]

pub slot_last : (s : List Slot) (slot : Slot) (b : ℕ) → b ≡ length s + 1 → block_slot (s ++ slot ∷ []) b ≡ slot
slot_last s slot zero e = absurd (omega arith)
slot_last s slot (suc b) e = get_or_push s slot no_slot b (omega arith)

-- what the place of the new block holds, and the other places of its frame
put_at : (k k' : Frame) (s : List Slot) (role : BlockRole) (block : List ℕ) (b g : ℕ) → k'.generation ≡ k.generation → block_bytes k'.contents (length s + 1) ≡ block
    → ((c : ℕ) → c < 16 → c ≢ length s + 1 → block_bytes k'.contents c ≡ block_bytes k.contents c) → length s < 15
    → held_block k' (s ++ (record { role = role; named = 1 }) ∷ []) b g ≡ (if (length s + 1) == b && k.generation == g then Some (record { kind = role.kind; object = role.object; bytes = block }) else held_block k s b g)
put_at k k' s role block b g e is others room =
    let slot : Slot = record { role = role; named = 1 } in
    elim (cases_eq b (length s + 1)) [
      | inl at ↦ ap (λ (n : ℕ). if n == g then stored (block_slot (s ++ slot ∷ []) b) (block_bytes k'.contents b) else None) e
          ∙ ap (λ (x : Slot). if k.generation == g then stored x (block_bytes k'.contents b) else None) (slot_last s slot b at)
          ∙ ap (λ (x : List ℕ). if k.generation == g then stored slot x else None) (ap (λ (n : ℕ). block_bytes k'.contents n) at ∙ is)
          ∙ elim (cases_Bool (k.generation == g)) [
            | inl own ↦ ap (λ (x : Bool). if x then stored slot block else None) own
                ∙ sym (ap (λ (x : Bool). if x && k.generation == g then Some (record { kind = role.kind; object = role.object; bytes = block }) else held_block k s b g) (eq-eqb (length s + 1) b (sym at))
                ∙ ap (λ (x : Bool). if x then Some (record { kind = role.kind; object = role.object; bytes = block }) else held_block k s b g) own)
            | inr other ↦ ap (λ (x : Bool). if x then stored slot block else None) other
                ∙ sym (ap (λ (x : Bool). if x && k.generation == g then Some (record { kind = role.kind; object = role.object; bytes = block }) else held_block k s b g) (eq-eqb (length s + 1) b (sym at))
                ∙ ap (λ (x : Bool). if x then Some (record { kind = role.kind; object = role.object; bytes = block }) else held_block k s b g) other
                ∙ ap (λ (x : Bool). if x then stored (block_slot s b) (block_bytes k.contents b) else None) other)
          ]
      | inr ne ↦ ap (λ (x : Slot). if k'.generation == g then stored x (block_bytes k'.contents b) else None) (slot_more s slot b ne)
          ∙ held_same k k' s b g e (λ low high. others b (omega arith) ne)
          ∙ sym (ap (λ (x : Bool). if x && k.generation == g then Some (record { kind = role.kind; object = role.object; bytes = block }) else held_block k s b g) (ne_eqb (length s + 1) b (λ (same : length s + 1 ≡ b). ne (sym same))))
    ]

held_put_at : (old new : Table) (f : ℕ) (role : BlockRole) (block : List ℕ) (q : Place) → f < length old.slots → length (slots_at old.slots f) < 15 → IsPut f (record { role = role; named = 1 }) block old new
    → held_at new q ≡ with_held (held_at old) (record { frame = f; block = length (slots_at old.slots f) + 1; generation = (frame_at old.seat.frames f).generation }) (record { kind = role.kind; object = role.object; bytes = block }) q
held_put_at old new f role block q inside room put =
    let slot : Slot = record { role = role; named = 1 } in
    let s : List Slot = slots_at old.slots f in
    let k : Frame = frame_at old.seat.frames f in
    let k' : Frame = frame_at new.seat.frames f in
    let st : Stored = record { kind = role.kind; object = role.object; bytes = block } in
    elim (cases_eq q.frame f) [
      | inl at ↦ (let P : ℕ → Type 0 = λ n. held_block (frame_at new.seat.frames n) (slots_at new.slots n) q.block q.generation ≡ (if f == n && ((length s + 1) == q.block && k.generation == q.generation) then Some st else held_block (frame_at old.seat.frames n) (slots_at old.slots n) q.block q.generation) in
          let here : slots_at new.slots f ≡ s ++ slot ∷ [] = ap (λ (l : List (List Slot)). slots_at l f) put.slots ∙ get_or-set_same old.slots f (s ++ slot ∷ []) [] inside in
          subst P (sym at)
          (ap (λ (l : List Slot). held_block k' l q.block q.generation) here
          ∙ put_at k k' s role block q.block q.generation put.generation put.bytes put.others room
          ∙ sym (ap (λ (x : Bool). if x && ((length s + 1) == q.block && k.generation == q.generation) then Some st else held_block k s q.block q.generation) (eq-eqb f f refl))))
      | inr ne ↦ ap (λ (l : List (List Slot)). held_block (frame_at new.seat.frames q.frame) (slots_at l q.frame) q.block q.generation) put.slots
          ∙ ap (λ (l : List Slot). held_block (frame_at new.seat.frames q.frame) l q.block q.generation) (get_or-set_other old.slots f q.frame (s ++ slot ∷ []) [] ne)
          ∙ ap (λ (x : Frame). held_block x (slots_at old.slots q.frame) q.block q.generation) (elsewhere old.seat new.seat f q.frame put.alone ne)
          ∙ sym (ap (λ (x : Bool). if x && ((length s + 1) == q.block && k.generation == q.generation) then Some st else held_at old q) (ne_eqb f q.frame (λ (same : f ≡ q.frame). ne (sym same))))
    ]

-- a block that was put into a frame is held at its place, and all else as before
pub held_put : (old new : Table) (f : ℕ) (role : BlockRole) (block : List ℕ) → f < length old.slots → length (slots_at old.slots f) < 15 → IsPut f (record { role = role; named = 1 }) block old new
    → held_at new ≡ with_held (held_at old) (record { frame = f; block = length (slots_at old.slots f) + 1; generation = (frame_at old.seat.frames f).generation }) (record { kind = role.kind; object = role.object; bytes = block })
held_put old new f role block inside room put = λ i q. held_put_at old new f role block q inside room put i

-- the next unused block holds nothing
pub held_fresh : (t : Table) (f g : ℕ) → held_block (frame_at t.seat.frames f) (slots_at t.slots f) (length (slots_at t.slots f) + 1) g ≡ None
held_fresh t f g =
    let k : Frame = frame_at t.seat.frames f in
    let s : List Slot = slots_at t.slots f in
    let none : block_slot s (length s + 1) ≡ no_slot = ap (λ (n : ℕ). block_slot s n) (add-one (length s)) ∙ get_or_past s (length s) no_slot (omega arith) in
    ap (λ (x : Slot). if k.generation == g then stored x (block_bytes k.contents (length s + 1)) else None) none
    ∙ elim (cases_Bool (k.generation == g)) [
      | inl same ↦ ap (λ (x : Bool). if x then stored no_slot (block_bytes k.contents (length s + 1)) else None) same
      | inr other ↦ ap (λ (x : Bool). if x then stored no_slot (block_bytes k.contents (length s + 1)) else None) other
    ]
