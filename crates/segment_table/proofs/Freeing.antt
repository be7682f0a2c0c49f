-- A frame is released: what holds of a table goes on to hold, the same is held, and its places are ahead again.
use Rattle.std.proofs.Common.{◌≡◌, ◌≢◌, inl, inr, ℕ, ◌+◌, ◌-◌, ◌^◌, ◌<◌, ◌≤◌, Bool, true, false, ◌&&◌, nat_lt, List, [], ◌∷◌, ◌++◌, length, reverse, set, Option, refl, sym, ap, subst, ◌∙◌, append_assoc, arith}
use Rattle.std.specs.Prelude.{Ok}
use Rattle.std.specs.List.{AllByRecursion, flat_map}
use Rattle.std.proofs.lemmas.List.{get_or-set_same, get_or-set_other, length-set, length-reverse}
use Rattle.std.proofs.lemmas.Bool.{cases_eq, lt-ltb, le-ltb, ltb-false}
use Rattle.s4_types.specs.Pointer.{Place}
use Rattle.block_log.specs.Log.{is_data}
use Rattle.segment_word.specs.Frames.{Free, Open, Draining, Frame, no_frame, code_of, is_free, is_open}
use Rattle.segment_word.specs.Layout.{frame_at}
use Rattle.segment_word.specs.Steps.{released}
use Rattle.segment_word.specs.Handles.{Drive, with_changed, with_released}
use Rattle.segment_table.specs.declared.slots.Slot.{Slot}
use Rattle.segment_table.specs.Table.{Table, slots_at, held_block, held_at, named_block, named_at}
use Rattle.segment_table.specs.Room.{is_filling, can_open, numbers, places, rest_of, whole_of, places_ahead, places_spent}
use Rattle.segment_table.specs.Sealing.{IsLetGo, IsFit, IsSoundTable, IsPartFilled}
use Rattle.segment_table.specs.Changes.{IsAlone, IsMarked, IsReleased, IsAheadAgain, ReleasesFrame}
use Rattle.segment_table.specs.private.Putting.{IsPutBetween}
use Rattle.segment_table.proofs.Alone.{put_here, alone, length-alone, elsewhere, numbers_alone}
use Rattle.segment_table.proofs.Numbers.{numbers_same}
use Rattle.segment_table.proofs.Sound.{fits_changed}
use Rattle.segment_table.proofs.Naming.{names_are}
use Rattle.segment_table.proofs.Vacating.{Joins, joins, numbers_fewer, apart_from, put_back_is, all_others}
use Rattle.segment_table.proofs.Spending.{spent_again}
use Rattle.segment_table.proofs.Emptying.{none_held_at, same_sound, marked_here}

-- a frame that is being emptied takes no append, open or free
not_open : (frames : List Frame) (f : ℕ) → (frame_at frames f).phase ≡ Draining → can_open (frame_at frames f) ≡ false
not_open frames f e = ap (λ (b : Bool). b && nat_lt ((frame_at frames f).generation + 1) (2 ^ 32)) (ap is_free e)

again_open : (k : Frame) → k.generation + 2 < 2 ^ 32 → can_open (released k) ≡ true
again_open k h = lt-ltb (k.generation + 1 + 1) (2 ^ 32) (omega arith)

retired_closed : (k : Frame) → 2 ^ 32 ≤ k.generation + 2 → can_open (released k) ≡ false
retired_closed k h = le-ltb (k.generation + 1 + 1) (2 ^ 32) (omega arith)

pub frames_are : (old new : Table) (f : ℕ) → IsReleased f old new → new.seat.frames ≡ set old.seat.frames f (released (frame_at old.seat.frames f))
frames_are old new f r = ap (λ (d : Drive). d.frames) r.seat

frame_else : (old new : Table) (f g : ℕ) → IsReleased f old new → g ≢ f → frame_at new.seat.frames g ≡ frame_at old.seat.frames g
frame_else old new f g r ne = ap (λ (l : List Frame). frame_at l g) (frames_are old new f r) ∙ get_or-set_other old.seat.frames f g (released (frame_at old.seat.frames f)) no_frame ne

slots_else : (old new : Table) (f g : ℕ) → IsReleased f old new → g ≢ f → slots_at new.slots g ≡ slots_at old.slots g
slots_else old new f g r ne = ap (λ (l : List (List Slot)). slots_at l g) r.slots ∙ get_or-set_other old.slots f g [] [] ne

-- the numbers of the frames that can be opened, where this one may be again and where it is retired
pub vacant_again : (old new : Table) (f : ℕ) → IsReleased f old new → (frame_at old.seat.frames f).generation + 2 < 2 ^ 32 → Joins can_open f old.seat.frames (released (frame_at old.seat.frames f))
vacant_again old new f r h = joins can_open f old.seat.frames (released (frame_at old.seat.frames f)) r.inside (not_open old.seat.frames f r.draining) (again_open (frame_at old.seat.frames f) h)

pub vacant_kept : (old new : Table) (f : ℕ) → IsReleased f old new → 2 ^ 32 ≤ (frame_at old.seat.frames f).generation + 2 → numbers can_open 0 (set old.seat.frames f (released (frame_at old.seat.frames f))) ≡ numbers can_open 0 old.seat.frames
vacant_kept old new f r h =
    numbers_same can_open 0 f old.seat.frames (released (frame_at old.seat.frames f)) (retired_closed (frame_at old.seat.frames f) h ∙ sym (not_open old.seat.frames f r.draining))

-- the list of the frames that can be opened is as it is to be
pub list_again : (old new : Table) (free free' : List ℕ) (current : Option ℕ) (f : ℕ) → IsSoundTable old free current → IsReleased f old new → (frame_at old.seat.frames f).generation + 2 < 2 ^ 32
    → IsPutBetween f free free'
    → free' ≡ reverse (numbers can_open 0 (set old.seat.frames f (released (frame_at old.seat.frames f))))
list_again old new free free' current f sound r h put =
    let j : Joins can_open f old.seat.frames (released (frame_at old.seat.frames f)) = vacant_again old new f r h in
    put_back_is free free' j.lower j.higher f (sound.vacant ∙ ap reverse j.was) j.below j.above put ∙ ap reverse (sym j.now)

pub list_kept : (old new : Table) (free : List ℕ) (current : Option ℕ) (f : ℕ) → IsSoundTable old free current → IsReleased f old new → 2 ^ 32 ≤ (frame_at old.seat.frames f).generation + 2
    → free ≡ reverse (numbers can_open 0 (set old.seat.frames f (released (frame_at old.seat.frames f))))
list_kept old new free current f sound r h = sound.vacant ∙ ap reverse (sym (vacant_kept old new f r h))

-- so there is room for one more
pub list_short : (old new : Table) (free : List ℕ) (current : Option ℕ) (f : ℕ) → IsSoundTable old free current → IsReleased f old new → length free < length old.seat.frames
list_short old new free current f sound r =
    let few : length (numbers can_open 0 old.seat.frames) < length old.seat.frames = numbers_fewer can_open 0 f old.seat.frames r.inside (not_open old.seat.frames f r.draining) in
    let count : length free ≡ length (numbers can_open 0 old.seat.frames) = ap length sound.vacant ∙ length-reverse (numbers can_open 0 old.seat.frames) in
    omega arith

pub released_generation : (old new : Table) (f : ℕ) → IsReleased f old new → (frame_at new.seat.frames f).generation ≡ (frame_at old.seat.frames f).generation + 1
released_generation old new f r =
    let k : Frame = released (frame_at old.seat.frames f) in
    ap (λ (l : List Frame). (frame_at l f).generation) (frames_are old new f r) ∙ ap (λ (x : Frame). x.generation) (get_or-set_same old.seat.frames f k no_frame r.inside)

pub release_is : (old : Table) (free : List ℕ) (current : Option ℕ) (f : ℕ) (freed drive : Drive) (slots : List Slot) → IsSoundTable old free current → f < length old.slots
    → (frame_at old.seat.frames f).phase ≡ Draining → freed ≡ with_released old.seat f → (frame_at old.seat.frames f).generation + 1 < 2 ^ 32 → drive ≡ freed → slots ≡ []
    → IsReleased f old (record { seat = drive; slots = set old.slots f slots })
release_is old free current f freed drive slots sound within draining is more same none = record {
  inside = omega (arith, sound.counted);
  draining = draining;
  goes_on = more;
  seat = same ∙ is;
  slots = ap (λ (s : List Slot). set old.slots f s) none;
}

pub sound_released : (old new : Table) (free free' : List ℕ) (current : Option ℕ) (f : ℕ) → IsSoundTable old free current → IsReleased f old new
    → free' ≡ reverse (numbers can_open 0 (set old.seat.frames f (released (frame_at old.seat.frames f)))) → IsSoundTable new free' current
sound_released old new free free' current f sound r vacant =
    let k : Frame = released (frame_at old.seat.frames f) in
    let d : Drive = with_changed old.seat f k in
    let mid : Table = record { seat = d; slots = new.slots } in
    let a : IsAlone f old.seat d = alone old.seat d f k r.inside refl in
    let is : frame_at d.frames f ≡ k = put_here old.seat f k r.inside in
    let phase : (frame_at d.frames f).phase ≡ Free = ap (λ (x : Frame). x.phase) is in
    let more : (frame_at old.seat.frames f).generation + 1 < 2 ^ 32 = r.goes_on in
    let next : (frame_at d.frames f).generation ≡ (frame_at old.seat.frames f).generation + 1 = ap (λ (x : Frame). x.generation) is in
    let fit : IsFit f (frame_at d.frames f) [] = record {
      lives = (omega (arith, next), omega (arith, next, more));
      few = omega arith;
      owned = tt;
      whole = λ b low high. absurd (omega arith);
      free = λ e. refl;
      summed = λ h. absurd (let z : code_of (frame_at d.frames f).phase ≡ 0 = ap code_of phase in omega arith);
      draining = λ e. tt;
    } in
    let made : IsSoundTable mid free' current = record {
      least = omega (arith, length-alone old.seat d f a, sound.least);
      most = omega (arith, length-alone old.seat d f a, sound.most);
      counted = ap length r.slots ∙ length-set old.slots f [] ∙ sound.counted ∙ sym (length-alone old.seat d f a);
      vacant = vacant;
      filling = sound.filling ∙ sym (numbers_alone is_filling old.seat d f a (ap is_open phase ∙ sym (ap is_open r.draining)));
      fit = fits_changed old mid f [] (let inside : f < length old.seat.frames = r.inside in omega (arith, sound.counted)) a r.slots sound.fit fit;
    } in
    same_sound mid new.seat free' current made (frames_are old new f r)

held_released_at : (old new : Table) (f : ℕ) (q : Place) → f < length old.slots → IsReleased f old new → AllByRecursion IsLetGo (slots_at old.slots f) → held_at new q ≡ held_at old q
held_released_at old new f q inside r gone = elim (cases_eq q.frame f) [
  | inl at ↦ (let none : slots_at new.slots f ≡ [] = ap (λ (l : List (List Slot)). slots_at l f) r.slots ∙ get_or-set_same old.slots f [] [] inside in
      none_held_at new f (subst (AllByRecursion IsLetGo) (sym none) tt) q at ∙ sym (none_held_at old f gone q at))
  | inr ne ↦ ap (λ (k : Frame). held_block k (slots_at new.slots q.frame) q.block q.generation) (frame_else old new f q.frame r ne)
      ∙ ap (λ (s : List Slot). held_block (frame_at old.seat.frames q.frame) s q.block q.generation) (slots_else old new f q.frame r ne)
]

pub held_released : (old new : Table) (free : List ℕ) (current : Option ℕ) (f : ℕ) → IsSoundTable old free current → IsReleased f old new → held_at new ≡ held_at old
held_released old new free current f sound r =
    let inside : f < length old.seat.frames = r.inside in
    λ i q. held_released_at old new f q (omega (arith, sound.counted)) r ((sound.fit f r.inside).draining r.draining) i

-- none of a frame's blocks is named where none is held
none_named_at : (t : Table) (f : ℕ) → AllByRecursion IsLetGo (slots_at t.slots f) → (p : Place) → p.frame ≡ f → named_at t p ≡ 0
none_named_at t f gone p at = let none = ltb-false 0 (named_at t p) (names_are t p ∙ ap is_data (none_held_at t f gone p at)) in omega (arith, none)

named_released_at : (old new : Table) (f : ℕ) (q : Place) → f < length old.slots → IsReleased f old new → AllByRecursion IsLetGo (slots_at old.slots f) → named_at new q ≡ named_at old q
named_released_at old new f q inside r gone = elim (cases_eq q.frame f) [
  | inl at ↦ (let none : slots_at new.slots f ≡ [] = ap (λ (l : List (List Slot)). slots_at l f) r.slots ∙ get_or-set_same old.slots f [] [] inside in
      none_named_at new f (subst (AllByRecursion IsLetGo) (sym none) tt) q at ∙ sym (none_named_at old f gone q at))
  | inr ne ↦ ap (λ (k : Frame). named_block k (slots_at new.slots q.frame) q.block q.generation) (frame_else old new f q.frame r ne)
      ∙ ap (λ (s : List Slot). named_block (frame_at old.seat.frames q.frame) s q.block q.generation) (slots_else old new f q.frame r ne)
]

pub named_released : (old new : Table) (free : List ℕ) (current : Option ℕ) (f : ℕ) → IsSoundTable old free current → IsReleased f old new → named_at new ≡ named_at old
named_released old new free current f sound r =
    let inside : f < length old.seat.frames = r.inside in
    λ i q. named_released_at old new f q (omega (arith, sound.counted)) r ((sound.fit f r.inside).draining r.draining) i

-- places by number are the same where they are the same for each of the numbers
alike : (u v : ℕ → List Place) (f : ℕ) (l : List ℕ) → ((g : ℕ) → g ≢ f → u g ≡ v g) → AllByRecursion (λ g. g ≢ f) l → flat_map u l ≡ flat_map v l
alike u v f [] same a = refl
alike u v f (x ∷ l) same a = ap (λ (p : List Place). p ++ flat_map u l) (same x a.0) ∙ ap (λ (p : List Place). v x ++ p) (alike u v f l same a.1)

parts_of : (u : ℕ → List Place) (l m : List ℕ) → flat_map u (l ++ m) ≡ flat_map u l ++ flat_map u m
parts_of u [] m = refl
parts_of u (x ∷ l) m = ap (λ (p : List Place). u x ++ p) (parts_of u l m) ∙ sym (append_assoc (u x) (flat_map u l) (flat_map u m))

not_less : (f : ℕ) (l : List ℕ) → AllByRecursion (λ n. n < f) l → AllByRecursion (λ n. n ≢ f) l
not_less f [] a = tt
not_less f (x ∷ l) a = ((λ e. let h : x < f = a.0 in omega arith), not_less f l a.1)

whole_else : (old new : Table) (f : ℕ) → IsReleased f old new → (g : ℕ) → g ≢ f → whole_of new g ≡ whole_of old g
whole_else old new f r g ne = ap (λ (k : Frame). places g k.generation 1 15) (frame_else old new f g r ne)

rest_else : (old new : Table) (f : ℕ) → IsReleased f old new → (g : ℕ) → g ≢ f → rest_of new g ≡ rest_of old g
rest_else old new f r g ne =
    ap (λ (k : Frame). places g k.generation (length (slots_at new.slots g) + 1) (15 - length (slots_at new.slots g))) (frame_else old new f g r ne)
    ∙ ap (λ (s : List Slot). places g (frame_at old.seat.frames g).generation (length s + 1) (15 - length s)) (slots_else old new f g r ne)

-- the open frame is another, so its unused blocks are as they were
opens_same : (old new : Table) (f : ℕ) → IsReleased f old new → flat_map (rest_of new) (numbers is_filling 0 new.seat.frames) ≡ flat_map (rest_of old) (numbers is_filling 0 old.seat.frames)
opens_same old new f r =
    let same : numbers is_filling 0 new.seat.frames ≡ numbers is_filling 0 old.seat.frames =
    ap (λ (l : List Frame). numbers is_filling 0 l) (frames_are old new f r)
    ∙ numbers_same is_filling 0 f old.seat.frames (released (frame_at old.seat.frames f)) (sym (ap is_open r.draining)) in
    ap (λ (l : List ℕ). flat_map (rest_of new) l) same
    ∙ alike (rest_of new) (rest_of old) f (numbers is_filling 0 old.seat.frames) (rest_else old new f r) (apart_from is_filling f old.seat.frames (ap is_open r.draining))

pub ahead_again : (old new : Table) (f : ℕ) → IsReleased f old new → (frame_at old.seat.frames f).generation + 2 < 2 ^ 32 → IsAheadAgain f old new
ahead_again old new f r h =
    let j : Joins can_open f old.seat.frames (released (frame_at old.seat.frames f)) = vacant_again old new f r h in
    let now : numbers can_open 0 new.seat.frames ≡ j.lower ++ f ∷ j.higher = ap (λ (l : List Frame). numbers can_open 0 l) (frames_are old new f r) ∙ j.now in
    record {
      lower = j.lower;
      higher = j.higher;
      vacant = j.was;
      below = j.below;
      above = j.above;
      ahead = ap (λ (p : List Place). p ++ flat_map (whole_of new) (numbers can_open 0 new.seat.frames)) (opens_same old new f r)
          ∙ ap (λ (p : List Place). flat_map (rest_of old) (numbers is_filling 0 old.seat.frames) ++ p)
          (ap (λ (l : List ℕ). flat_map (whole_of new) l) now ∙ parts_of (whole_of new) j.lower (f ∷ j.higher)
          ∙ ap (λ (p : List Place). p ++ (whole_of new f ++ flat_map (whole_of new) j.higher)) (alike (whole_of new) (whole_of old) f j.lower (whole_else old new f r) (not_less f j.lower j.below))
          ∙ ap (λ (p : List Place). flat_map (whole_of old) j.lower ++ (whole_of new f ++ p)) (alike (whole_of new) (whole_of old) f j.higher (whole_else old new f r) (all_others f j.higher j.above)));
    }

pub ahead_retired : (old new : Table) (f : ℕ) → IsReleased f old new → 2 ^ 32 ≤ (frame_at old.seat.frames f).generation + 2 → places_ahead new ≡ places_ahead old
ahead_retired old new f r h =
    let now : numbers can_open 0 new.seat.frames ≡ numbers can_open 0 old.seat.frames = ap (λ (l : List Frame). numbers can_open 0 l) (frames_are old new f r) ∙ vacant_kept old new f r h in
    ap (λ (p : List Place). p ++ flat_map (whole_of new) (numbers can_open 0 new.seat.frames)) (opens_same old new f r)
    ∙ ap (λ (p : List Place). flat_map (rest_of old) (numbers is_filling 0 old.seat.frames) ++ p)
    (ap (λ (l : List ℕ). flat_map (whole_of new) l) now
    ∙ alike (whole_of new) (whole_of old) f (numbers can_open 0 old.seat.frames) (whole_else old new f r) (apart_from can_open f old.seat.frames (not_open old.seat.frames f r.draining)))

-- no frame is open that wasn't before
pub part_marked : (old new : Table) (f : ℕ) → IsPartFilled old → f < length old.seat.frames → IsMarked f old new → IsPartFilled new
part_marked old new f role inside m g within phase =
    let at = marked_here old new f inside m in
    let P : List (List Slot) → Type 0 = λ l. (1 ≤ length (slots_at l g)) × (length (slots_at l g) < 15) in
    elim (cases_eq g f) [
      | inl same ↦ absurd (let is : Draining ≡ Open = sym (ap (λ (k : Frame). k.phase) at.1) ∙ ap (λ (n : ℕ). (frame_at new.seat.frames n).phase) (sym same) ∙ phase in cc)
      | inr ne ↦ subst P (sym m.slots) (role g (omega (arith, length-alone old.seat new.seat f at.0)) (ap (λ (k : Frame). k.phase) (sym (elsewhere old.seat new.seat f g at.0 ne)) ∙ phase))
    ]

pub part_released : (old new : Table) (f : ℕ) → IsPartFilled old → IsReleased f old new → IsPartFilled new
part_released old new f role r g within phase =
    let k : Frame = released (frame_at old.seat.frames f) in
    let P : List Slot → Type 0 = λ s. (1 ≤ length s) × (length s < 15) in
    let count : length new.seat.frames ≡ length old.seat.frames = ap length (frames_are old new f r) ∙ length-set old.seat.frames f k in
    elim (cases_eq g f) [
      | inl same ↦ absurd (let here : frame_at new.seat.frames f ≡ k = ap (λ (l : List Frame). frame_at l f) (frames_are old new f r) ∙ get_or-set_same old.seat.frames f k no_frame r.inside in
          let is : Free ≡ Open = sym (ap (λ (x : Frame). x.phase) here) ∙ ap (λ (n : ℕ). (frame_at new.seat.frames n).phase) (sym same) ∙ phase in cc)
      | inr ne ↦ subst P (sym (slots_else old new f g r ne)) (role g (omega arith) (ap (λ (x : Frame). x.phase) (sym (frame_else old new f g r ne)) ∙ phase))
    ]

pub part_same : (old new : Table) → IsPartFilled old → new.seat.frames ≡ old.seat.frames → new.slots ≡ old.slots → IsPartFilled new
part_same old new role frames slots g within phase =
    let P : List (List Slot) → Type 0 = λ l. (1 ≤ length (slots_at l g)) × (length (slots_at l g) < 15) in
    subst P (sym slots) (role g (subst (λ (l : List Frame). g < length l) frames within) (subst (λ (l : List Frame). (frame_at l g).phase ≡ Open) frames phase))

-- no fewer places were ever taken
pub spent_released : (old new : Table) (free : List ℕ) (current : Option ℕ) (f : ℕ) → IsSoundTable old free current → IsReleased f old new → places_spent old ≤ places_spent new
spent_released old new free current f sound r =
    let inside : f < length old.seat.frames = r.inside in
    spent_again old new f (released (frame_at old.seat.frames f)) inside (omega (arith, sound.counted, inside)) (frames_are old new f r) (released_generation old new f r) (sound.fit f inside) r.slots

-- what a release that won leaves of the table
pub released_so : (old new : Table) (free : List ℕ) (current : Option ℕ) (f : ℕ) → IsSoundTable old free current → IsReleased f old new → ReleasesFrame f old (Ok tt) new
released_so old new free current f sound r = record {
  released = r;
  held = held_released old new free current f sound r;
  named = named_released old new free current f sound r;
  spent = spent_released old new free current f sound r;
  again = λ low. ahead_again old new f r low;
  retired = λ high. ahead_retired old new f r (omega (arith, high));
  missed = tt;
  idle = tt;
  refused = tt;
  log = tt;
  table = ap (λ (d : Drive). d.table) r.seat;
  refusal = tt;
}
