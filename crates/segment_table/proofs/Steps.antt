-- What each step makes of a table, seen as a log.
use Rattle.std.proofs.Common.{◌≡◌, ◌≢◌, ℕ, ◌+◌, ◌-◌, ◌<◌, ◌≤◌, Bool, true, false, List, [], ◌∷◌, ◌++◌, length, reverse, set, get_or, Option, Some, refl, sym, ap, subst, ◌∙◌, arith}
use Rattle.std.proofs.lemmas.List.{get_or_read}
use Rattle.s4_types.specs.Pointer.{Place}
use Rattle.block_log.specs.Log.{Log, Stored, appended, appended_at, dropped, dropped_by, is_data}
use Rattle.codec.specs.declared.summaries.BlockRole.{BlockRole}
use Rattle.segment_word.specs.Frames.{Open, Frame}
use Rattle.segment_word.specs.Layout.{frame_at, block_bytes, with_block}
use Rattle.segment_word.specs.Handles.{Drive, with_changed}
use Rattle.segment_table.specs.declared.slots.Slot.{Slot}
use Rattle.segment_table.specs.Slots.{let_go}
use Rattle.segment_table.specs.Table.{Table, slots_at, held_at, named_at}
use Rattle.segment_table.specs.Room.{can_open, numbers, places, rest_of, places_ahead, places_spent, log_of}
use Rattle.segment_table.specs.Sealing.{IsSoundTable, IsPartFilled}
use Rattle.segment_table.specs.Changes.{KeepsBlock, IsFilling, NoneIsFilling, IsReadyFrame, IsPut, IsSealed, with_slot}
use Rattle.segment_table.proofs.Alone.{unchanged, alone, put_here, generation_alone}
use Rattle.segment_table.proofs.Holding.{held_kept, held_put}
use Rattle.segment_table.proofs.Naming.{held_dropped, named_dropped, named_same, named_put}
use Rattle.segment_table.proofs.Ahead.{CanOpen, vacant_first, filling_at, popped, ahead_put, ahead_sealed, ahead_opened, ahead_same, places_none}
use Rattle.segment_table.proofs.Sound.{opened_alone, opened_filling, opened_vacant, put_filling, sealed_filling, used_gone, unchanged_drive}
use Rattle.segment_table.proofs.Spending.{spent_same, spent_kept, spent_put}

pub same_logs : (old new : Table) → held_at new ≡ held_at old → places_ahead new ≡ places_ahead old → places_spent new ≡ places_spent old → named_at new ≡ named_at old → log_of new ≡ log_of old
same_logs old new held ahead spent named = λ i. record { held = held i; ahead = ahead i; spent = spent i; named = named i }

pub first_vacant : (old : Table) (free free' : List ℕ) (current : Option ℕ) (f : ℕ) → IsSoundTable old free current → free ≡ free' ++ f ∷ [] → CanOpen old.seat.frames f
first_vacant old free free' current f sound split =
    vacant_first old.seat.frames f (reverse free') (popped (numbers can_open 0 old.seat.frames) free free' f sound.vacant split)

no_slots_yet : (old : Table) (free : List ℕ) (current : Option ℕ) (f : ℕ) → IsSoundTable old free current → CanOpen old.seat.frames f → slots_at old.slots f ≡ []
no_slots_yet old free current f sound can = (sound.fit f can.inside).free can.free

pub ready_opened : (old new : Table) (free free' : List ℕ) (current : Option ℕ) (f : ℕ) → IsSoundTable old free current → NoneIsFilling old → free ≡ free' ++ f ∷ []
    → new.seat ≡ with_changed old.seat f (record (frame_at old.seat.frames f) { phase = Open }) → new.slots ≡ old.slots → IsReadyFrame f old new
ready_opened old new free free' current f sound none split changed slots =
    let can : CanOpen old.seat.frames f = first_vacant old free free' current f sound split in
    let a = opened_alone old.seat new.seat f can.inside changed in
    let empty : length (slots_at new.slots f) ≡ 0 = ap (λ (l : List (List Slot)). length (slots_at l f)) slots ∙ ap length (no_slots_yet old free current f sound can) in
    record {
      alone = a.0;
      generation = ap (λ (k : Frame). k.generation) a.1;
      contents = ap (λ (k : Frame). k.contents) a.1;
      slots = slots;
      within = let same : length new.slots ≡ length old.slots = ap length slots in let inside : f < length old.seat.frames = can.inside in omega (arith, sound.counted);
      filling = opened_filling old.seat new.seat f can.inside none changed;
      room = omega arith;
    }

pub log_opened : (old new : Table) (free free' : List ℕ) (current : Option ℕ) (f : ℕ) → IsSoundTable old free current → NoneIsFilling old → free ≡ free' ++ f ∷ []
    → new.seat ≡ with_changed old.seat f (record (frame_at old.seat.frames f) { phase = Open }) → new.slots ≡ old.slots → log_of new ≡ log_of old
log_opened old new free free' current f sound none split changed slots =
    let can : CanOpen old.seat.frames f = first_vacant old free free' current f sound split in
    let ready : IsReadyFrame f old new = ready_opened old new free free' current f sound none split changed slots in
    let first : numbers can_open 0 old.seat.frames ≡ f ∷ reverse free' = popped (numbers can_open 0 old.seat.frames) free free' f sound.vacant split in
    same_logs old new (held_kept old new f ready.alone ready.generation (λ b low high. ap (λ (l : List ℕ). block_bytes l b) ready.contents) slots)
    (ahead_opened old new f (reverse free') none first ready.filling (opened_vacant old.seat new.seat f (reverse free') first changed) ready.alone ready.generation slots (no_slots_yet old free current f sound can))
    (spent_kept old new f ready.alone ready.generation slots)
    (named_same old new (λ g. generation_alone old.seat new.seat f g ready.alone ready.generation) slots)

-- the open frame is ready as it is
pub ready_same : (t : Table) (f : ℕ) → f < length t.slots → IsFilling f t → IsPartFilled t → IsReadyFrame f t t
ready_same t f within filling role =
    let at = filling_at t f filling in
    record {
      alone = unchanged t.seat f;
      generation = refl;
      contents = refl;
      slots = refl;
      within = within;
      filling = filling;
      room = (role f at.0 at.1).1;
    }

pub put_is : (old new : Table) (f b : ℕ) (slot : Slot) (block : List ℕ) → f < length old.seat.frames → b ≡ length (slots_at old.slots f) + 1
    → new.seat ≡ with_changed old.seat f (with_block (frame_at old.seat.frames f) b block)
    → block_bytes (frame_at new.seat.frames f).contents b ≡ block
    → ((c : ℕ) → c < 16 → c ≢ b → KeepsBlock f c old.seat new.seat)
    → new.slots ≡ with_slot old.slots f slot → IsPut f slot block old new
put_is old new f b slot block inside next changed stored others slots =
    let k : Frame = with_block (frame_at old.seat.frames f) b block in
    let is : frame_at new.seat.frames f ≡ k = ap (λ (d : Drive). frame_at d.frames f) changed ∙ put_here old.seat f k inside in
    record {
      alone = alone old.seat new.seat f k inside changed;
      phase = ap (λ (x : Frame). x.phase) is;
      generation = ap (λ (x : Frame). x.generation) is;
      bytes = ap (λ (n : ℕ). block_bytes (frame_at new.seat.frames f).contents n) (sym next) ∙ stored;
      others = λ c low ne. others c low (λ (e : c ≡ b). ne (e ∙ next));
      slots = slots;
    }

-- the open frame of a table
pub record AtFilling (t : Table) (f : ℕ) : Type 0 where
  pub inside : f < length t.seat.frames
  pub within : f < length t.slots
  pub phase : (frame_at t.seat.frames f).phase ≡ Open
  pub filling : IsFilling f t

pub at_filling : (old t : Table) (free : List ℕ) (current : Option ℕ) (f : ℕ) → old ≡ t → IsSoundTable old free current → IsFilling f t → AtFilling old f
at_filling old t free current f same sound e =
    let F : Table → Type 0 = λ x. IsFilling f x in
    let filling : IsFilling f old = subst F (sym same) e in
    let at = filling_at old f filling in
    let inside : f < length old.seat.frames = at.0 in
    record { inside = inside; within = omega (arith, sound.counted); phase = at.1; filling = filling }

-- the used blocks that were read or lent are those of the table
pub put_made : (old new : Table) (f n : ℕ) (role : BlockRole) (block : List ℕ) (found lent pushed : List Slot) → AtFilling old f
    → n ≡ length found → found ≡ get_or old.slots f found → lent ≡ get_or old.slots f lent → pushed ≡ lent ++ (record { role = role; named = 1 }) ∷ []
    → new.seat ≡ with_changed old.seat f (with_block (frame_at old.seat.frames f) (n + 1) block)
    → block_bytes (frame_at new.seat.frames f).contents (n + 1) ≡ block
    → ((c : ℕ) → c < 16 → c ≢ n + 1 → KeepsBlock f c old.seat new.seat)
    → new.slots ≡ set old.slots f pushed → IsPut f (record { role = role; named = 1 }) block old new
put_made old new f n role block found lent pushed at count is_found is_lent is_pushed changed stored others slots =
    let slot : Slot = record { role = role; named = 1 } in
    put_is old new f (n + 1) slot block at.inside (ap (λ (m : ℕ). m + 1) (count ∙ ap length (get_or_read old.slots f found at.within is_found []))) changed stored others
    (slots ∙ ap (λ (l : List Slot). set old.slots f l) (is_pushed ∙ ap (λ (l : List Slot). l ++ slot ∷ []) (get_or_read old.slots f lent at.within is_lent [])))

-- a block that was put was appended
pub put_appended : (old new : Table) (f : ℕ) (role : BlockRole) (block : List ℕ) (p : Place) → IsFilling f old → f < length old.slots → length (slots_at old.slots f) < 15 → IsPut f (record { role = role; named = 1 }) block old new
    → p ≡ record { frame = f; block = length (slots_at old.slots f) + 1; generation = (frame_at old.seat.frames f).generation }
    → appended (log_of old) (record { kind = role.kind; object = role.object; bytes = block }) ≡ Some (p, log_of new)
put_appended old new f role block p filling inside room put at =
    let q : Place = record { frame = f; block = length (slots_at old.slots f) + 1; generation = (frame_at old.seat.frames f).generation } in
    let st : Stored = record { kind = role.kind; object = role.object; bytes = block } in
    let slot : Slot = record { role = role; named = 1 } in
    ap (λ (l : List Place). appended_at (log_of old) st l) (ahead_put old new f slot block filling (put_filling old new f slot block filling put) inside room put)
    ∙ (λ i. Some (sym at i, record { held = sym (held_put old new f role block inside room put) i; ahead = places_ahead new; spent = sym (spent_put old new f slot block (filling_at old f filling).0 inside put) i; named = sym (named_put old new f role block inside put) i }))

pub held_sealed : (old new : Table) (f : ℕ) → IsSealed f (slots_at old.slots f) old.seat new.seat → new.slots ≡ old.slots → held_at new ≡ held_at old
held_sealed old new f sealed slots = held_kept old new f sealed.alone sealed.generation sealed.used slots

pub rest_sealed : (old new : Table) (f : ℕ) → IsFilling f old → IsSealed f (slots_at old.slots f) old.seat new.seat → rest_of old f ++ places_ahead new ≡ places_ahead old
rest_sealed old new f filling sealed =
    ahead_sealed old new f filling (sealed_filling old.seat new.seat f filling sealed.alone sealed.phase) sealed.alone sealed.generation sealed.phase

-- where no block is left, sealing leaves the log
pub log_sealed : (old new : Table) (f : ℕ) → IsFilling f old → IsSealed f (slots_at old.slots f) old.seat new.seat → new.slots ≡ old.slots → length (slots_at old.slots f) ≡ 15 → log_of new ≡ log_of old
log_sealed old new f filling sealed slots full =
    let g : ℕ = (frame_at old.seat.frames f).generation in
    let none : rest_of old f ≡ [] = ap (λ (n : ℕ). places f g (n + 1) (15 - n)) full ∙ places_none f g 16 in
    same_logs old new (held_sealed old new f sealed slots) (ap (λ (l : List Place). l ++ places_ahead new) (sym none) ∙ rest_sealed old new f filling sealed)
    (spent_kept old new f sealed.alone sealed.generation slots)
    (named_same old new (λ g. generation_alone old.seat new.seat f g sealed.alone sealed.generation) slots)

dropped_parts : (b : Bool) (log : Log) (p : Place) → record { held = (dropped_by b log p).held; ahead = log.ahead; spent = log.spent; named = (dropped_by b log p).named } ≡ dropped_by b log p
dropped_parts true log p = refl
dropped_parts false log p = refl

pub log_gone : (old new : Table) (p : Place) → p.frame < length old.slots → 1 ≤ p.block → (frame_at old.seat.frames p.frame).generation ≡ p.generation → new.seat ≡ old.seat → new.slots ≡ set old.slots p.frame (let_go (slots_at old.slots p.frame) (p.block - 1))
    → log_of new ≡ dropped (log_of old) p
log_gone old new p inside low current seat slots =
    let held : held_at new ≡ (dropped (log_of old) p).held = held_dropped old new p inside low current seat slots in
    let named : named_at new ≡ (dropped (log_of old) p).named = named_dropped old new p inside low current seat slots in
    let used : (f : ℕ) → length (slots_at new.slots f) ≡ length (slots_at old.slots f) = λ f. ap (λ (l : List (List Slot)). length (slots_at l f)) slots ∙ used_gone old.slots p.frame (p.block - 1) f inside in
    let ahead : places_ahead new ≡ places_ahead old = ahead_same old new seat used in
    let spent : places_spent new ≡ places_spent old = spent_same old new p.frame (unchanged_drive old.seat new.seat p.frame seat) (ap (λ (d : Drive). (frame_at d.frames p.frame).generation) seat) used in
    (λ i. record { held = held i; ahead = ahead i; spent = spent i; named = named i }) ∙ dropped_parts (is_data (held_at old p)) (log_of old) p
