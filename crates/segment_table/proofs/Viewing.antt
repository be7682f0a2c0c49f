-- What a table shows of one place once one of its used blocks has changed.
use Rattle.std.proofs.Common.{◌≡◌, inl, inr, ℕ, zero, suc, ◌-◌, ◌<◌, ◌≤◌, Bool, cond, ◌==◌, ◌&&◌, List, [], length, set, get_or, refl, sym, ap, subst, ◌∙◌, arith}
use Rattle.std.proofs.lemmas.List.{get_or-set_same, get_or-set_other}
use Rattle.std.proofs.lemmas.Bool.{cases_Bool, cases_eq, eq-eqb, ne_eqb}
use Rattle.s4_types.specs.Pointer.{Place}
use Rattle.block_log.specs.Log.{same_place}
use Rattle.segment_word.specs.Frames.{Frame}
use Rattle.segment_word.specs.Layout.{frame_at}
use Rattle.segment_word.specs.Handles.{Drive}
use Rattle.segment_table.specs.declared.slots.Slot.{Slot}
use Rattle.segment_table.specs.Slots.{no_slot}
use Rattle.segment_table.specs.Table.{Table, slots_at, block_slot}

module _ {X : Type 0} (F : Frame → ℕ → Slot → X) (d : X) where
  -- what block b of a frame shows to a pointer of generation g
  abbrev pub block_view : Frame → List Slot → ℕ → ℕ → X
  block_view k s b g = cond (k.generation == g) (F k b (block_slot s b)) d

  -- what a place of a table shows
  abbrev pub view_at : Table → Place → X
  view_at t q = block_view (frame_at t.seat.frames q.frame) (slots_at t.slots q.frame) q.block q.generation

  pub view_set : (k : Frame) (s : List Slot) (p b g : ℕ) (slot : Slot) → 1 ≤ p → p ≤ length s
      → block_view k (set s (p - 1) slot) b g ≡ cond (p == b && k.generation == g) (F k b slot) (block_view k s b g)
  view_set k s p zero g slot low high =
      sym (ap (λ (x : Bool). cond (x && k.generation == g) (F k 0 slot) (block_view k s 0 g)) (ne_eqb p 0 (λ (e : p ≡ 0). omega arith)))
  view_set k s p (suc b) g slot low high = elim (cases_eq b (p - 1)) [
    | inl at ↦ (let same : p ≡ suc b = omega arith in
        let put : get_or (set s (p - 1) slot) b no_slot ≡ slot = ap (λ (n : ℕ). get_or (set s n slot) b no_slot) (sym at) ∙ get_or-set_same s b slot no_slot (omega arith) in
        ap (λ (x : Slot). cond (k.generation == g) (F k (suc b) x) d) put
        ∙ elim (cases_Bool (k.generation == g)) [
          | inl own ↦ ap (λ (x : Bool). cond x (F k (suc b) slot) d) own
              ∙ sym (ap (λ (x : Bool). cond (x && k.generation == g) (F k (suc b) slot) (block_view k s (suc b) g)) (eq-eqb p (suc b) same)
              ∙ ap (λ (x : Bool). cond x (F k (suc b) slot) (block_view k s (suc b) g)) own)
          | inr other ↦ ap (λ (x : Bool). cond x (F k (suc b) slot) d) other
              ∙ sym (ap (λ (x : Bool). cond (x && k.generation == g) (F k (suc b) slot) (block_view k s (suc b) g)) (eq-eqb p (suc b) same)
              ∙ ap (λ (x : Bool). cond x (F k (suc b) slot) (block_view k s (suc b) g)) other
              ∙ ap (λ (x : Bool). cond x (F k (suc b) (block_slot s (suc b))) d) other)
        ])
    | inr ne ↦ ap (λ (x : Slot). cond (k.generation == g) (F k (suc b) x) d) (get_or-set_other s (p - 1) b slot no_slot ne)
        ∙ sym (ap (λ (x : Bool). cond (x && k.generation == g) (F k (suc b) slot) (block_view k s (suc b) g)) (ne_eqb p (suc b) (λ (e : p ≡ suc b). ne (omega arith))))
  ]

  -- one used block was changed: its place shows it, and all others what they showed
  pub view_changed : (old new : Table) (p q : Place) (slot : Slot) → p.frame < length old.slots → 1 ≤ p.block → p.block ≤ length (slots_at old.slots p.frame) → (frame_at old.seat.frames p.frame).generation ≡ p.generation
      → new.seat ≡ old.seat → new.slots ≡ set old.slots p.frame (set (slots_at old.slots p.frame) (p.block - 1) slot)
      → view_at new q ≡ cond (same_place p q) (F (frame_at old.seat.frames q.frame) q.block slot) (view_at old q)
  view_changed old new p q slot inside low high current seat slots =
      let f : ℕ = p.frame in
      let s : List Slot = slots_at old.slots f in
      let k : Frame = frame_at old.seat.frames f in
      let after : List Slot = set s (p.block - 1) slot in
      ap (λ (e : Drive). block_view (frame_at e.frames q.frame) (slots_at new.slots q.frame) q.block q.generation) seat
      ∙ elim (cases_eq q.frame f) [
        | inl at ↦ (let P : ℕ → Type 0 = λ n. block_view (frame_at old.seat.frames n) (slots_at new.slots n) q.block q.generation
            ≡ cond (f == n && (p.block == q.block && p.generation == q.generation)) (F (frame_at old.seat.frames n) q.block slot) (block_view (frame_at old.seat.frames n) (slots_at old.slots n) q.block q.generation) in
            let here : slots_at new.slots f ≡ after = ap (λ (l : List (List Slot)). slots_at l f) slots ∙ get_or-set_same old.slots f after [] inside in
            subst P (sym at)
            (ap (λ (l : List Slot). block_view k l q.block q.generation) here
            ∙ view_set k s p.block q.block q.generation slot low high
            ∙ ap (λ (n : ℕ). cond (p.block == q.block && n == q.generation) (F k q.block slot) (block_view k s q.block q.generation)) current
            ∙ sym (ap (λ (x : Bool). cond (x && (p.block == q.block && p.generation == q.generation)) (F k q.block slot) (block_view k s q.block q.generation)) (eq-eqb f f refl))))
        | inr ne ↦ ap (λ (l : List (List Slot)). block_view (frame_at old.seat.frames q.frame) (slots_at l q.frame) q.block q.generation) slots
            ∙ ap (λ (l : List Slot). block_view (frame_at old.seat.frames q.frame) l q.block q.generation) (get_or-set_other old.slots f q.frame after [] ne)
            ∙ sym (ap (λ (x : Bool). cond (x && (p.block == q.block && p.generation == q.generation)) (F (frame_at old.seat.frames q.frame) q.block slot) (view_at old q)) (ne_eqb f q.frame (λ (same : f ≡ q.frame). ne (sym same))))
      ]
