-- The steps of a table before its frames are shared.
use Rattle.std.proofs.Common.{◌≡◌, ◌≢◌, ℕ, ◌+◌, ◌-◌, ◌^◌, ◌<◌, ◌≤◌, if◌then◌else◌, List, [], length, map, set, get_or, drop, Option, Some, IsSome, refl, sym, ap, subst, ◌∙◌, set-set, arith}
use Rattle.std.proofs.lemmas.List.{get_or_read, get_or-set_same, length-set}
use Rattle.s4_types.specs.Pointer.{Place}
use Rattle.block_log.specs.Log.{same_place, is_data}
use Rattle.codec.specs.declared.summaries.BlockRole.{BlockRole}
use Rattle.codec.specs.Summary.{SummaryFields, KeepsSummaryRules, SpellsSummary}
use Rattle.segment_word.specs.Frames.{Phase, Free, Open, Frame, no_frame, is_open}
use Rattle.segment_word.specs.Layout.{frame_at}
use Rattle.segment_word.specs.Handles.{Drive}
use Rattle.segment_table.specs.declared.slots.Slot.{Slot}
use Rattle.segment_table.specs.Slots.{no_slot, capped, data_names, hold_on, unheld}
use Rattle.segment_table.specs.Table.{Table, slots_at, held_at, named_at}
use Rattle.segment_table.specs.Used.{used_at}
use Rattle.segment_table.specs.Room.{is_filling, numbers}
use Rattle.segment_table.specs.Sealing.{IsFit}
use Rattle.segment_table.specs.Building.{unnamed, IsSoundToBuild}
use Rattle.segment_table.specs.Changes.{IsAlone}
use Rattle.segment_table.specs.private.Storing.{AreStored}
use Rattle.segment_table.proofs.Sound.{unchanged_drive}
use Rattle.segment_table.proofs.Unshared.{alone_frames, changed_builder, filling_changed, free_unused, free_stays, fit_free, fit_used, held_unchanged, unheld_let_go, length-unheld}
use Rattle.segment_table.proofs.UsedBlocks.{IsUsedAt, used_is, used_inside, named_phase, held_on, named_on, used_still, roles_still, fit_named}

-- a free frame got its generation
pub freed_builder : (frames new : List Frame) (slots : List (List Slot)) (f g : ℕ) (current : Option ℕ) → IsSoundToBuild (unnamed frames slots) current → f < length frames → (frame_at frames f).phase ≡ Free → 1 ≤ g → g < 2 ^ 32
    → new ≡ set frames f (record (frame_at frames f) { phase = Free; generation = g }) → IsSoundToBuild (unnamed new slots) current
freed_builder frames new slots f g current sound inside free started small changed =
    let old : Table = unnamed frames slots in
    let k : Frame = record (frame_at frames f) { phase = Free; generation = g } in
    let at : frame_at new f ≡ k = ap (λ (l : List Frame). frame_at l f) changed ∙ get_or-set_same frames f k no_frame inside in
    let alone : new ≡ set frames f (frame_at new f) = changed ∙ ap (set frames f) (sym at) in
    let none : slots_at slots f ≡ [] = free_unused old f current sound inside free in
    let a : IsAlone f old.seat (unnamed new slots).seat = alone_frames frames new slots slots f alone in
    let F : Frame → Type 0 = λ x. IsFit f x [] in
    changed_builder old (unnamed new slots) f [] current current sound inside a (free_stays old f none) (subst F (sym at) (fit_free f k (started, small) refl))
    (filling_changed old (unnamed new slots) f Free current sound inside free a (ap (λ (x : Frame). x.phase) at) (λ (e : Free ≡ Open). absurd (cc)))
    (λ e. let clash : Free ≡ Open = sym (ap (λ (x : Frame). x.phase) at) ∙ e in absurd (cc))

-- What a free frame that is used leaves.
pub record AreUsed (frames new : List Frame) (slots : List (List Slot)) (f : ℕ) (p : Phase) (current : Option ℕ) (roles : List BlockRole) : Type 0 where
  pub alone : new ≡ set frames f (frame_at new f)
  pub sound : IsSoundToBuild (unnamed new (set slots f (unheld roles))) (if is_open p then Some f else current)
  pub held : (q : Place) → held_at (unnamed new (set slots f (unheld roles))) q ≡ held_at (unnamed frames slots) q

pub used_builder : (frames mid new : List Frame) (slots : List (List Slot)) (f g : ℕ) (p : Phase) (current : Option ℕ) (s : SummaryFields) (blocks : List (List ℕ)) → IsSoundToBuild (unnamed frames slots) current → f < length frames
    → (frame_at frames f).phase ≡ Free → AreStored f 16 blocks frames mid → new ≡ set mid f (record (frame_at mid f) { phase = p; generation = g }) → g ≡ s.generation → KeepsSummaryRules s → s.frame ≡ f
    → SpellsSummary (drop 1 blocks) (get_or blocks 0 []) s → length blocks ≡ 16 → p ≢ Free → (p ≡ Open → length s.roles ≤ 14) → (p ≡ Open → numbers is_filling 0 frames ≡ []) → AreUsed frames new slots f p current s.roles
used_builder frames mid new slots f g p current s blocks sound inside free stored changed generation rules number spelled long phase room none =
    let old : Table = unnamed frames slots in
    let made : Table = unnamed new (set slots f (unheld s.roles)) in
    let k : Frame = record (frame_at mid f) { phase = p; generation = g } in
    let count : length mid ≡ length frames = ap length stored.alone ∙ length-set frames f (frame_at mid f) in
    let at : frame_at new f ≡ k = ap (λ (l : List Frame). frame_at l f) changed ∙ get_or-set_same mid f k no_frame (omega arith) in
    let alone : new ≡ set frames f (frame_at new f) = changed ∙ ap (λ (l : List Frame). set l f k) stored.alone ∙ set-set frames f (frame_at mid f) k ∙ ap (set frames f) (sym at) in
    let a : IsAlone f old.seat made.seat = alone_frames frames new slots (set slots f (unheld s.roles)) f alone in
    let is : (frame_at new f).phase ≡ p = ap (λ (x : Frame). x.phase) at in
    let F : Frame → Type 0 = λ x. IsFit f x (unheld s.roles) in
    let fit : F (frame_at new f) = subst F (sym at) (fit_used f k s blocks rules number generation phase spelled long stored.stored stored.whole) in
    let some : 1 ≤ length s.roles = rules.used in
    let within : f < length slots = omega (arith, sound.counted) in
    record {
      alone = alone;
      sound = changed_builder old made f (unheld s.roles) current (if is_open p then Some f else current) sound inside a refl fit
          (filling_changed old made f p current sound inside free a is none)
          (λ e. let few : length s.roles ≤ 14 = room (sym is ∙ e) in (omega (arith, length-unheld s.roles), omega (arith, length-unheld s.roles)));
      held = λ q. held_unchanged old made f (unheld s.roles) q within a refl (free_unused old f current sound inside free) (unheld_let_go s.roles);
    }

hold_long : (s : List Slot) (i : ℕ) → length (hold_on s i) ≡ length s
hold_long s i = length-set s i (record (get_or s i no_slot) { named = capped (1 + data_names (get_or s i no_slot)) })

-- What holding a used block leaves.
pub record IsHeldOn (new given : Table) (p : Place) (current : Option ℕ) : Type 0 where
  pub sound : IsSoundToBuild new current
  pub held : (q : Place) → held_at new q ≡ (if same_place p q then used_at given p else held_at given q)
  pub named : (q : Place) → named_at new q ≡ (if same_place p q then (if is_data (used_at given p) then capped (1 + named_at given p) else 0) else named_at given q)
  pub used : (q : Place) → used_at new q ≡ used_at given q
  pub roles : (g : ℕ) → map (λ (x : Slot). x.role) (slots_at new.slots g) ≡ map (λ (x : Slot). x.role) (slots_at given.slots g)

held_first : (old new : Table) (current : Option ℕ) (p : Place) → IsSoundToBuild old current → IsSome (used_at old p) → new.seat ≡ old.seat → new.slots ≡ set old.slots p.frame (hold_on (slots_at old.slots p.frame) (p.block - 1)) → IsHeldOn new old p current
held_first old new current p sound some drive slots =
    let f : ℕ = p.frame in
    let k : Frame = frame_at old.seat.frames f in
    let s : List Slot = slots_at old.slots f in
    let used : IsUsedAt k s p.block p.generation = used_is k s p.block p.generation some in
    let inside : f < length old.seat.frames = used_inside old p sound.counted some in
    let within : f < length old.slots = omega (arith, sound.counted) in
    let F : Frame → Type 0 = λ x. IsFit f x (hold_on s (p.block - 1)) in
    let M : List (List Slot) → Type 0 = λ l. (g : ℕ) → map (λ (x : Slot). x.role) (slots_at l g) ≡ map (λ (x : Slot). x.role) (slots_at old.slots g) in
    let same : frame_at new.seat.frames f ≡ k = ap (λ (d : Drive). frame_at d.frames f) drive in
    record {
      sound = changed_builder old new f (hold_on s (p.block - 1)) current current sound inside (unchanged_drive old.seat new.seat f drive) slots
          (subst F (sym same) (fit_named f k s (p.block - 1) (capped (1 + data_names (get_or s (p.block - 1) no_slot))) (sound.fit f inside) (named_phase k.phase used.named).1))
          (sound.filling ∙ ap (λ (d : Drive). numbers is_filling 0 d.frames) (sym drive))
          (λ e. let open_before : k.phase ≡ Open = ap (λ (x : Frame). x.phase) (sym same) ∙ e in
          let filled = sound.part_filled f inside open_before in
          (omega (arith, hold_long s (p.block - 1), filled.0), omega (arith, hold_long s (p.block - 1), filled.1)));
      held = λ q. held_on old new p q within used drive slots;
      named = λ q. named_on old new p q within used drive slots;
      used = λ q. used_still old new f (p.block - 1) q within drive slots;
      roles = subst M (sym slots) (λ g. roles_still old.slots f (p.block - 1) (capped (1 + data_names (get_or s (p.block - 1) no_slot))) g within);
    }

pub held_made : (old new given : Table) (current : Option ℕ) (p : Place) (f b : ℕ) (lent after : List Slot) → old ≡ given → f ≡ p.frame → b ≡ p.block → IsSoundToBuild old current → IsSome (used_at given p)
    → lent ≡ get_or old.slots f lent → after ≡ hold_on lent (b - 1) → new.seat ≡ old.seat → new.slots ≡ set old.slots f after → IsHeldOn new given p current
held_made old new given current p f b lent after same at_frame at_block sound some is_lent is_after drive slots =
    let U : Table → Type 0 = λ t. IsSome (used_at t p) in
    let H : Table → Type 0 = λ t. IsHeldOn new t p current in
    let F : ℕ → Type 0 = λ n. lent ≡ get_or old.slots n lent in
    let before : U old = subst U (sym same) some in
    let inside : p.frame < length old.seat.frames = used_inside old p sound.counted before in
    let within : p.frame < length old.slots = omega (arith, sound.counted) in
    let read : lent ≡ slots_at old.slots p.frame = get_or_read old.slots p.frame lent within (subst F at_frame is_lent) [] in
    let made : new.slots ≡ set old.slots p.frame (hold_on (slots_at old.slots p.frame) (p.block - 1)) =
    slots ∙ ap (λ (n : ℕ). set old.slots n after) at_frame
    ∙ ap (λ (l : List Slot). set old.slots p.frame l) (is_after ∙ ap (λ (l : List Slot). hold_on l (b - 1)) read ∙ ap (λ (n : ℕ). hold_on (slots_at old.slots p.frame) (n - 1)) at_block) in
    subst H same (held_first old new current p sound before drive made)
