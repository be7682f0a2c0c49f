-- An append: the frame is ready, the block is put, and a full frame is sealed.
use Rattle.std.proofs.Common.{◌≡◌, inl, inr, ℕ, ◌+◌, ◌<◌, ◌≤◌, List, [], ◌∷◌, ◌++◌, length, sym, ap, subst, ◌∙◌, length-append, arith}
use Rattle.std.proofs.lemmas.List.{get_or-set_same}
use Rattle.std.proofs.lemmas.Bool.{cases_lt}
use Rattle.s4_types.specs.Pointer.{Place}
use Rattle.codec.specs.declared.summaries.BlockRole.{BlockRole}
use Rattle.segment_word.specs.Frames.{Open, is_open}
use Rattle.segment_word.specs.Layout.{frame_at, block_bytes}
use Rattle.segment_table.specs.declared.slots.Slot.{Slot}
use Rattle.segment_table.specs.Table.{Table, slots_at}
use Rattle.segment_table.specs.Room.{is_filling}
use Rattle.segment_table.specs.Sealing.{IsSummed, IsPartFilled}
use Rattle.segment_table.specs.Changes.{IsAlone, KeepsGeneration, KeepsBlock, IsFilling, NoneIsFilling, IsReadyFrame, IsPut, IsSealedIn, IsAppended, with_slot}
use Rattle.segment_table.proofs.Alone.{alone_then}
use Rattle.segment_table.proofs.Numbers.{numbers_none, numbers_one}
use Rattle.segment_table.proofs.Ahead.{filling_at}

-- a table without an open frame has none that is part-filled
pub part_none : (t : Table) → NoneIsFilling t → IsPartFilled t
part_none t none f inside phase = absurd (numbers_none is_filling 0 f t.seat.frames none inside (ap is_open phase))

pub part_one : (t : Table) (f : ℕ) → IsFilling f t → 1 ≤ length (slots_at t.slots f) → length (slots_at t.slots f) < 15 → IsPartFilled t
part_one t f filling some room g inside phase =
    let same : f ≡ g = numbers_one is_filling 0 f g t.seat.frames filling inside (ap is_open phase) ∙ omega arith in
    let P : ℕ → Type 0 = λ n. (1 ≤ length (slots_at t.slots n)) × (length (slots_at t.slots n) < 15) in
    subst P same (some, room)

-- the block at the place that was taken, and those before it, once it was put
record IsTaken (f n : ℕ) (role : BlockRole) (block : List ℕ) (old new : Table) : Type 0 where
  alone : IsAlone f old.seat new.seat
  generation : KeepsGeneration f old.seat new.seat
  count : n ≡ length (slots_at old.slots f) + 1
  bytes : block_bytes (frame_at new.seat.frames f).contents n ≡ block
  others : (b : ℕ) → 1 ≤ b → b < n → KeepsBlock f b old.seat new.seat
  slots : new.slots ≡ with_slot old.slots f (record { role = role; named = 1 })
  many : length (slots_at new.slots f) ≡ n
  phase : (frame_at new.seat.frames f).phase ≡ Open

taken : (old ready put : Table) (f : ℕ) (role : BlockRole) (block : List ℕ) → IsReadyFrame f old ready → IsPut f (record { role = role; named = 1 }) block ready put → IsTaken f (length (slots_at ready.slots f) + 1) role block old put
taken old ready put f role block r h =
    let slot : Slot = record { role = role; named = 1 } in
    let s : List Slot = slots_at ready.slots f in
    record {
      alone = alone_then old.seat ready.seat put.seat f r.alone h.alone;
      generation = h.generation ∙ r.generation;
      count = ap (λ (l : List (List Slot)). length (slots_at l f) + 1) r.slots;
      bytes = h.bytes;
      others = λ b low high. (let room : length s < 15 = r.room in h.others b (omega arith) (λ (e : b ≡ length s + 1). omega arith)) ∙ ap (λ (l : List ℕ). block_bytes l b) r.contents;
      slots = h.slots ∙ ap (λ (l : List (List Slot)). with_slot l f slot) r.slots;
      many = ap (λ (l : List (List Slot)). length (slots_at l f)) h.slots ∙ ap length (get_or-set_same ready.slots f (s ++ slot ∷ []) [] r.within) ∙ length-append s (slot ∷ []);
      phase = h.phase ∙ (filling_at ready f r.filling).1;
    }

appended_open : (old new : Table) (p : Place) (role : BlockRole) (block : List ℕ) → p.block < 15 → IsTaken p.frame p.block role block old new → IsAppended p role block old new
appended_open old new p role block room t = record {
  alone = t.alone;
  generation = t.generation;
  place = t.count;
  bytes = t.bytes;
  others = t.others;
  slots = t.slots;
  filling = λ h. t.phase;
  sealed = λ e. absurd (omega arith);
  summed = λ e. absurd (omega arith);
}

appended_full : (old put new : Table) (p : Place) (role : BlockRole) (block : List ℕ) → p.block ≡ 15 → IsTaken p.frame p.block role block old put → IsSealedIn p.frame put new → IsAppended p role block old new
appended_full old put new p role block full t s =
    let S : List (List Slot) → Type 0 = λ l. IsSummed p.frame (frame_at new.seat.frames p.frame) (slots_at l p.frame) in
    let high : p.block ≤ length (slots_at put.slots p.frame) = let e : length (slots_at put.slots p.frame) ≡ p.block = t.many in omega arith in
    record {
      alone = alone_then old.seat put.seat new.seat p.frame t.alone s.0.alone;
      generation = s.0.generation ∙ t.generation;
      place = t.count;
      bytes = s.0.used p.block (omega arith) high ∙ t.bytes;
      others = λ b low below. s.0.used b low (omega arith) ∙ t.others b low below;
      slots = s.1 ∙ t.slots;
      filling = λ h. absurd (omega arith);
      sealed = λ e. s.0.phase;
      summed = λ e. subst S (sym s.1) s.0.summed;
    }

-- what an append makes of a table
pub append_made : (old ready put new : Table) (f : ℕ) (role : BlockRole) (block : List ℕ) (p : Place) → IsReadyFrame f old ready → IsPut f (record { role = role; named = 1 }) block ready put → IsFilling f put
    → p ≡ record { frame = f; block = length (slots_at ready.slots f) + 1; generation = (frame_at ready.seat.frames f).generation }
    → (length (slots_at put.slots f) < 15 → new ≡ put)
    → (length (slots_at put.slots f) ≡ 15 → IsSealedIn f put new × NoneIsFilling new)
    → IsAppended p role block old new × IsPartFilled new
append_made old ready put new f role block p r h filling at room full =
    let q : Place = record { frame = f; block = length (slots_at ready.slots f) + 1; generation = (frame_at ready.seat.frames f).generation } in
    let A : Place → Type 0 = λ x. IsAppended x role block old new in
    let t : IsTaken f q.block role block old put = taken old ready put f role block r h in
    let many : length (slots_at put.slots f) ≡ q.block = t.many in
    elim (cases_lt (length (slots_at put.slots f)) 15) [
      | inl low ↦ (let T : Table → Type 0 = λ x. IsAppended q role block old x × IsPartFilled x in
          let made = subst T (sym (room low)) (appended_open old put q role block (omega arith) t, part_one put f filling (omega arith) low) in
          (subst A (sym at) made.0, made.1))
      | inr high ↦ (let before : length (slots_at ready.slots f) < 15 = r.room in
          let last : length (slots_at put.slots f) ≡ 15 = omega arith in
          let sealed = full last in
          (subst A (sym at) (appended_full old put new q role block (omega arith) t sealed.0), part_none new sealed.1))
    ]
