-- A frame is marked and released: what holds of a table goes on to hold, the same is held, and what is ahead.
use Rattle.std.proofs.Common.{◌≡◌, inl, inr, ℕ, suc, ◌+◌, ◌-◌, ◌<◌, ◌≤◌, Bool, true, false, ◌==◌, ◌||◌, if◌then◌else◌, List, [], ◌∷◌, ◌++◌, length, reverse, get_or, Option, Some, None, refl, sym, ap, subst, ◌∙◌, arith}
use Rattle.std.specs.List.{AllByRecursion, flat_map, list_any}
use Rattle.std.proofs.lemmas.Bool.{cases_Bool, eq-eqb, or_parts}
use Rattle.s4_types.specs.Pointer.{Place}
use Rattle.block_log.specs.Log.{Stored}
use Rattle.segment_word.specs.Frames.{Phase, Free, Open, Sealed, Draining, Frame, code_of, is_free, is_open, is_sealed}
use Rattle.segment_word.specs.Layout.{frame_at, block_bytes}
use Rattle.segment_word.specs.Handles.{Drive, with_changed}
use Rattle.segment_table.specs.declared.slots.Slot.{Slot}
use Rattle.segment_table.specs.Slots.{no_slot, is_held}
use Rattle.segment_table.specs.Table.{Table, slots_at, block_slot, stored, held_block}
use Rattle.segment_table.specs.Room.{is_filling, can_open, numbers, places, rest_of, whole_of, log_of}
use Rattle.segment_table.specs.Sealing.{IsLetGo, IsFit, IsSummed, IsSoundTable}
use Rattle.segment_table.specs.Changes.{IsAlone, KeepsGeneration, NoneHeld, IsMarked}
use Rattle.segment_table.proofs.Alone.{put_here, alone, length-alone, generation_alone, numbers_alone}
use Rattle.segment_table.proofs.Ahead.{vacant_same, wholes_same}
use Rattle.segment_table.proofs.Holding.{held_kept}
use Rattle.segment_table.proofs.Sound.{fits_changed, stays, same_lives}
use Rattle.segment_table.proofs.Spending.{spent_kept}
use Rattle.segment_table.proofs.Steps.{same_logs}
use Rattle.segment_table.proofs.Naming.{named_same}
use Rattle.segment_table.proofs.Unshared.{let_go_slot}

pub all_let_go : (s : List Slot) → list_any (λ (slot : Slot). is_held slot) s ≡ false → AllByRecursion IsLetGo s
all_let_go [] e = tt
all_let_go (x ∷ s) e = let t = or_parts (is_held x) (list_any (λ (slot : Slot). is_held slot) s) e in (t.0, all_let_go s t.1)

any_let_go : (s : List Slot) → AllByRecursion IsLetGo s → list_any (λ (slot : Slot). is_held slot) s ≡ false
any_let_go [] a = refl
any_let_go (x ∷ s) a = ap (λ (b : Bool). b || list_any (λ (slot : Slot). is_held slot) s) a.0 ∙ any_let_go s a.1

not_stored : (slot : Slot) (bytes : List ℕ) → is_held slot ≡ false → stored slot bytes ≡ None
not_stored slot bytes e = ap (λ (b : Bool). if b then Some (record { kind = slot.role.kind; object = slot.role.object; bytes = bytes }) else None) e

either_none : (b : Bool) (o : Option Stored) → o ≡ None → (if b then o else None) ≡ None
either_none true o e = e
either_none false o e = refl

pub none_held : (k : Frame) (s : List Slot) (b g : ℕ) → AllByRecursion IsLetGo s → held_block k s b g ≡ None
none_held k s b g a = either_none (k.generation == g) (stored (block_slot s b) (block_bytes k.contents b)) (not_stored (block_slot s b) (block_bytes k.contents b) (let_go_slot s b a))

pub none_held_at : (t : Table) (f : ℕ) → AllByRecursion IsLetGo (slots_at t.slots f) → NoneHeld f t
none_held_at t f a p at = ap (λ (n : ℕ). held_block (frame_at t.seat.frames n) (slots_at t.slots n) p.block p.generation) at ∙ none_held (frame_at t.seat.frames f) (slots_at t.slots f) p.block p.generation a

stored_not : (slot : Slot) (bytes : List ℕ) → stored slot bytes ≡ None → is_held slot ≡ false
stored_not slot bytes e = elim (cases_Bool (is_held slot)) [
  | inl t ↦ absurd (let is : Some (record { kind = slot.role.kind; object = slot.role.object; bytes = bytes }) ≡ None = sym (ap (λ (b : Bool). if b then Some (record { kind = slot.role.kind; object = slot.role.object; bytes = bytes }) else None) t) ∙ e in cc)
  | inr t ↦ t
]

let_go_each : (s : List Slot) → ((i : ℕ) → is_held (get_or s i no_slot) ≡ false) → AllByRecursion IsLetGo s
let_go_each [] h = tt
let_go_each (x ∷ s) h = (h 0, let_go_each s (λ i. h (suc i)))

pub none_is_held : (t : Table) (f : ℕ) → NoneHeld f t → list_any (λ (slot : Slot). is_held slot) (slots_at t.slots f) ≡ false
none_is_held t f none =
    let k : Frame = frame_at t.seat.frames f in
    let s : List Slot = slots_at t.slots f in
    any_let_go s (let_go_each s (λ i. stored_not (get_or s i no_slot) (block_bytes k.contents (suc i))
    (sym (ap (λ (b : Bool). if b then stored (get_or s i no_slot) (block_bytes k.contents (suc i)) else None) (eq-eqb k.generation k.generation refl)) ∙ none (record { frame = f; block = suc i; generation = k.generation }) refl)))

-- a frame that was changed and is neither open nor free, before or after, leaves what is ahead
rests_same : (old new : Table) (f : ℕ) (l : List ℕ) → IsAlone f old.seat new.seat → KeepsGeneration f old.seat new.seat → new.slots ≡ old.slots → flat_map (rest_of new) l ≡ flat_map (rest_of old) l
rests_same old new f l a k slots =
    λ i. flat_map (λ (g : ℕ). places g (generation_alone old.seat new.seat f g a k i) (length (slots_at (slots i) g) + 1) (15 - length (slots_at (slots i) g))) l

pub marked_here : (old new : Table) (f : ℕ) → f < length old.seat.frames → IsMarked f old new → IsAlone f old.seat new.seat × (frame_at new.seat.frames f ≡ record (frame_at old.seat.frames f) { phase = Draining })
marked_here old new f inside m =
    let k : Frame = record (frame_at old.seat.frames f) { phase = Draining } in
    (alone old.seat new.seat f k inside m.seat, ap (λ (d : Drive). frame_at d.frames f) m.seat ∙ put_here old.seat f k inside)

pub log_marked : (old new : Table) (f : ℕ) → f < length old.seat.frames → IsMarked f old new → log_of new ≡ log_of old
log_marked old new f inside m =
    let at = marked_here old new f inside m in
    let generation : KeepsGeneration f old.seat new.seat = ap (λ (k : Frame). k.generation) at.1 in
    let contents : (frame_at new.seat.frames f).contents ≡ (frame_at old.seat.frames f).contents = ap (λ (k : Frame). k.contents) at.1 in
    let phase : (frame_at new.seat.frames f).phase ≡ Draining = ap (λ (k : Frame). k.phase) at.1 in
    let filling : numbers is_filling 0 new.seat.frames ≡ numbers is_filling 0 old.seat.frames = numbers_alone is_filling old.seat new.seat f at.0 (ap is_open phase ∙ sym (ap is_open m.sealed)) in
    let vacant : numbers can_open 0 new.seat.frames ≡ numbers can_open 0 old.seat.frames = vacant_same old.seat new.seat f at.0 (ap is_free m.sealed) (ap is_free phase) in
    same_logs old new (held_kept old new f at.0 generation (λ b low high. ap (λ (l : List ℕ). block_bytes l b) contents) m.slots)
    (ap (λ (l : List ℕ). flat_map (rest_of new) l ++ flat_map (whole_of new) (numbers can_open 0 new.seat.frames)) filling
    ∙ ap (λ (l : List ℕ). flat_map (rest_of new) (numbers is_filling 0 old.seat.frames) ++ flat_map (whole_of new) l) vacant
    ∙ ap (λ (l : List Place). l ++ flat_map (whole_of new) (numbers can_open 0 old.seat.frames)) (rests_same old new f (numbers is_filling 0 old.seat.frames) at.0 generation m.slots)
    ∙ ap (λ (l : List Place). flat_map (rest_of old) (numbers is_filling 0 old.seat.frames) ++ l) (wholes_same old new f (numbers can_open 0 old.seat.frames) at.0 generation))
    (spent_kept old new f at.0 generation m.slots)
    (named_same old new (λ g. generation_alone old.seat new.seat f g at.0 generation) m.slots)

pub sound_marked : (old new : Table) (free : List ℕ) (current : Option ℕ) (f : ℕ) → IsSoundTable old free current → f < length old.seat.frames → AllByRecursion IsLetGo (slots_at old.slots f) → IsMarked f old new → IsSoundTable new free current
sound_marked old new free current f sound inside gone m =
    let at = marked_here old new f inside m in
    let k : Frame = frame_at old.seat.frames f in
    let phase : (frame_at new.seat.frames f).phase ≡ Draining = ap (λ (k : Frame). k.phase) at.1 in
    let fit : IsFit f k (slots_at old.slots f) = sound.fit f inside in
    let S : Frame → Type 0 = λ x. IsSummed f x (slots_at old.slots f) in
    let two : 2 ≤ code_of k.phase = (let is : code_of k.phase ≡ 2 = ap code_of m.sealed in omega arith) in
    let changed : IsFit f (frame_at new.seat.frames f) (slots_at old.slots f) = record {
      lives = same_lives k (frame_at new.seat.frames f) (ap (λ (x : Frame). x.generation) at.1) fit.lives;
      few = fit.few;
      owned = fit.owned;
      whole = λ b low high. ap (λ (x : Frame). length (block_bytes x.contents b)) at.1 ∙ fit.whole b low high;
      free = λ e. absurd (let is : Draining ≡ Free = sym phase ∙ e in cc);
      summed = λ h. subst S (sym at.1) (fit.summed two);
      draining = λ e. gone;
    } in
    record {
      least = omega (arith, length-alone old.seat new.seat f at.0, sound.least);
      most = omega (arith, length-alone old.seat new.seat f at.0, sound.most);
      counted = ap length m.slots ∙ sound.counted ∙ sym (length-alone old.seat new.seat f at.0);
      vacant = sound.vacant ∙ ap reverse (sym (vacant_same old.seat new.seat f at.0 (ap is_free m.sealed) (ap is_free phase)));
      filling = sound.filling ∙ sym (numbers_alone is_filling old.seat new.seat f at.0 (ap is_open phase ∙ sym (ap is_open m.sealed)));
      fit = fits_changed old new f (slots_at old.slots f) (omega (arith, sound.counted)) at.0 (m.slots ∙ stays old.slots f) sound.fit changed;
    }

pub sealed_is : (p : Phase) → is_sealed p ≡ true → p ≡ Sealed
sealed_is Free e = absurd (cc)
sealed_is Open e = absurd (cc)
sealed_is Sealed e = refl
sealed_is Draining e = absurd (cc)

-- what a mark makes of a table
pub record MarkMade (f : ℕ) (old new : Table) (free : List ℕ) (current : Option ℕ) : Type 0 where
  pub marked : IsMarked f old new
  pub sound : IsSoundTable new free current
  pub log : log_of new ≡ log_of old

pub mark_made : (old new : Table) (free : List ℕ) (current : Option ℕ) (f : ℕ) → IsSoundTable old free current → f < length old.seat.frames → is_sealed (frame_at old.seat.frames f).phase ≡ true
    → list_any (λ (slot : Slot). is_held slot) (slots_at old.slots f) ≡ false → new.seat ≡ with_changed old.seat f (record (frame_at old.seat.frames f) { phase = Draining }) → new.slots ≡ old.slots
    → MarkMade f old new free current
mark_made old new free current f sound inside sealed none drive slots =
    let gone : AllByRecursion IsLetGo (slots_at old.slots f) = all_let_go (slots_at old.slots f) none in
    let m : IsMarked f old new = record { sealed = sealed_is (frame_at old.seat.frames f).phase sealed; unheld = none_held_at old f gone; seat = drive; slots = slots } in
    record { marked = m; sound = sound_marked old new free current f sound inside gone m; log = log_marked old new f inside m }

-- what holds of a table is a matter of its frames and its used blocks
pub same_sound : (t : Table) (d : Drive) (free : List ℕ) (current : Option ℕ) → IsSoundTable t free current → d.frames ≡ t.seat.frames → IsSoundTable (record { seat = d; slots = t.slots }) free current
same_sound t d free current s e =
    subst (λ (l : List Frame). IsSoundTable (record { seat = record d { frames = l }; slots = t.slots }) free current) (sym e)
    (record { least = s.least; most = s.most; counted = s.counted; vacant = s.vacant; filling = s.filling; fit = s.fit })

pub same_log : (t : Table) (d : Drive) → d.frames ≡ t.seat.frames → log_of (record { seat = d; slots = t.slots }) ≡ log_of t
same_log t d e = ap (λ (l : List Frame). log_of (record { seat = record d { frames = l }; slots = t.slots })) e
