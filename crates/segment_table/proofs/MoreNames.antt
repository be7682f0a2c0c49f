-- One place more names a held data block.
use Rattle.std.proofs.Common.{◌≡◌, ◌≢◌, ◌⊎◌, inl, inr, ℕ, ◌+◌, ◌-◌, ◌<◌, ◌≤◌, true, List, [], length, map, reverse, set, get_or, Option, Some, None, IsSome, refl, sym, ap, subst, ◌∙◌, arith}
use Rattle.std.proofs.lemmas.Bool.{false≢true}
use Rattle.std.proofs.lemmas.List.{get_or_read, length-set}
use Rattle.s4_types.specs.Pointer.{Place}
use Rattle.block_log.specs.Log.{Stored, is_data, held_more}
use Rattle.segment_word.specs.Frames.{Open, Sealed, Draining, Frame}
use Rattle.segment_word.specs.Layout.{frame_at}
use Rattle.segment_word.specs.Handles.{Drive}
use Rattle.segment_table.specs.declared.slots.Slot.{Slot}
use Rattle.segment_table.specs.Slots.{no_slot, more_names}
use Rattle.segment_table.specs.Table.{Table, slots_at, held_at}
use Rattle.segment_table.specs.Room.{is_filling, can_open, numbers, places_ahead, places_spent, log_of}
use Rattle.segment_table.specs.Sealing.{IsFit, IsSoundTable}
use Rattle.segment_table.proofs.Ahead.{ahead_same}
use Rattle.segment_table.proofs.Naming.{held_more_same, named_more}
use Rattle.segment_table.proofs.Sound.{fits_changed, unchanged_drive}
use Rattle.segment_table.proofs.Spending.{spent_same}
use Rattle.segment_table.proofs.Reading.{held_used, held_frame}
use Rattle.segment_table.proofs.UsedBlocks.{fit_named, roles_still}
use Rattle.std.proofs.lemmas.Bool.{cases_eq}
use Rattle.std.proofs.lemmas.List.{get_or-set_same, get_or-set_other}

some_there : (there : Option Stored) → is_data there ≡ true → IsSome there
some_there None is = absurd (false≢true is)
some_there (Some block) is = refl

not_draining : (k : Frame) → (k.phase ≡ Open) ⊎ (k.phase ≡ Sealed) → k.phase ≢ Draining
not_draining k (inl opened) e = let clash : Open ≡ Draining = sym opened ∙ e in cc
not_draining k (inr closed) e = let clash : Sealed ≡ Draining = sym closed ∙ e in cc

used_same : (old : List (List Slot)) (f i g : ℕ) → f < length old → length (slots_at (set old f (more_names (slots_at old f) i)) g) ≡ length (slots_at old g)
used_same old f i g inside = elim (cases_eq g f) [
  | inl at ↦ (let P : ℕ → Type 0 = λ n. length (slots_at (set old f (more_names (slots_at old f) i)) n) ≡ length (slots_at old n) in
      subst P (sym at) (ap length (get_or-set_same old f (more_names (slots_at old f) i) [] inside) ∙ length-set (slots_at old f) i (record (get_or (slots_at old f) i no_slot) { named = 1 + (get_or (slots_at old f) i no_slot).named })))
  | inr ne ↦ ap length (get_or-set_other old f g (more_names (slots_at old f) i) [] ne)
]

sound_more : (old new : Table) (free : List ℕ) (current : Option ℕ) (f i : ℕ) → IsSoundTable old free current → f < length old.slots → (frame_at old.seat.frames f).phase ≢ Draining → new.seat ≡ old.seat → new.slots ≡ set old.slots f (more_names (slots_at old.slots f) i) → IsSoundTable new free current
sound_more old new free current f i sound inside phase seat slots =
    let s : List Slot = slots_at old.slots f in
    let within : f < length old.seat.frames = omega (arith, sound.counted) in
    let P : Frame → Type 0 = λ k. IsFit f k (more_names s i) in
    record {
      least = omega (arith, ap (λ (d : Drive). length d.frames) seat, sound.least);
      most = omega (arith, ap (λ (d : Drive). length d.frames) seat, sound.most);
      counted = ap length slots ∙ length-set old.slots f (more_names s i) ∙ sound.counted ∙ sym (ap (λ (d : Drive). length d.frames) seat);
      vacant = sound.vacant ∙ sym (ap (λ (d : Drive). reverse (numbers can_open 0 d.frames)) seat);
      filling = sound.filling ∙ sym (ap (λ (d : Drive). numbers is_filling 0 d.frames) seat);
      fit = fits_changed old new f (more_names s i) inside (unchanged_drive old.seat new.seat f seat) slots sound.fit
          (subst P (sym (ap (λ (d : Drive). frame_at d.frames f) seat)) (fit_named f (frame_at old.seat.frames f) s i (1 + (get_or s i no_slot).named) (sound.fit f within) phase));
    }

-- What one name more of a held data block makes of a table.
pub record IsNamedMore (new t : Table) (p : Place) (free : List ℕ) (current : Option ℕ) : Type 0 where
  pub sound : IsSoundTable new free current
  pub log : log_of new ≡ held_more (log_of t) p
  pub used : (g : ℕ) → length (slots_at new.slots g) ≡ length (slots_at t.slots g)
  pub roles : (g : ℕ) → map (λ (x : Slot). x.role) (slots_at new.slots g) ≡ map (λ (x : Slot). x.role) (slots_at t.slots g)

named_more_first : (old new : Table) (free : List ℕ) (current : Option ℕ) (p : Place) → 1 ≤ p.block → IsSoundTable old free current → is_data (held_at old p) ≡ true
    → new.seat ≡ old.seat → new.slots ≡ set old.slots p.frame (more_names (slots_at old.slots p.frame) (p.block - 1)) → IsNamedMore new old p free current
named_more_first old new free current p low sound there seat made =
    let some : IsSome (held_at old p) = some_there (held_at old p) there in
    let found = held_frame old free current p sound some in
    let used = held_used (frame_at old.seat.frames p.frame) (slots_at old.slots p.frame) p.block p.generation some in
    let here : p.frame < length old.slots = omega (arith, sound.counted, found.0) in
    let s : List Slot = slots_at old.slots p.frame in
    let held : held_at new ≡ held_at old = held_more_same old new p here low used.generation seat made there in
    let named = named_more old new p here low used.generation seat made there in
    let count : (g : ℕ) → length (slots_at new.slots g) ≡ length (slots_at old.slots g) = λ g. ap (λ (l : List (List Slot)). length (slots_at l g)) made ∙ used_same old.slots p.frame (p.block - 1) g here in
    let ahead : places_ahead new ≡ places_ahead old = ahead_same old new seat count in
    let spent : places_spent new ≡ places_spent old = spent_same old new p.frame (unchanged_drive old.seat new.seat p.frame seat) (ap (λ (d : Drive). (frame_at d.frames p.frame).generation) seat) count in
    record {
      sound = sound_more old new free current p.frame (p.block - 1) sound here (not_draining (frame_at old.seat.frames p.frame) found.1) seat made;
      log = λ i. record { held = held i; ahead = ahead i; spent = spent i; named = named i };
      used = count;
      roles = λ g. ap (λ (l : List (List Slot)). map (λ (x : Slot). x.role) (slots_at l g)) made ∙ roles_still old.slots p.frame (p.block - 1) (1 + (get_or s (p.block - 1) no_slot).named) g here;
    }

pub more_made : (old new t : Table) (free : List ℕ) (current : Option ℕ) (p : Place) (f b : ℕ) (lent after : List Slot) → old ≡ t → f ≡ p.frame → b ≡ p.block → 1 ≤ p.block → IsSoundTable old free current → is_data (held_at t p) ≡ true
    → lent ≡ get_or old.slots f lent → after ≡ more_names lent (b - 1) → new.seat ≡ old.seat → new.slots ≡ set old.slots f after → IsNamedMore new t p free current
more_made old new t free current p f b lent after same at_frame at_block low sound of_data is_lent is_after seat slots =
    let D : Table → Type 0 = λ x. is_data (held_at x p) ≡ true in
    let M : Table → Type 0 = λ x. IsNamedMore new x p free current in
    let F : ℕ → Type 0 = λ n. lent ≡ get_or old.slots n lent in
    let there : D old = subst D (sym same) of_data in
    let found = held_frame old free current p sound (some_there (held_at old p) there) in
    let here : p.frame < length old.slots = omega (arith, sound.counted, found.0) in
    let read : lent ≡ slots_at old.slots p.frame = get_or_read old.slots p.frame lent here (subst F at_frame is_lent) [] in
    let made : new.slots ≡ set old.slots p.frame (more_names (slots_at old.slots p.frame) (p.block - 1)) =
    slots ∙ ap (λ (n : ℕ). set old.slots n after) at_frame
    ∙ ap (λ (l : List Slot). set old.slots p.frame l) (is_after ∙ ap (λ (l : List Slot). more_names l (b - 1)) read ∙ ap (λ (n : ℕ). more_names (slots_at old.slots p.frame) (n - 1)) at_block) in
    subst M same (named_more_first old new free current p low sound there seat made)
