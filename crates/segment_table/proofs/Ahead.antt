-- Which places the next appends take, after one frame has changed.
use Rattle.std.proofs.Common.{◌≡◌, ℕ, zero, suc, ◌+◌, ◌-◌, ◌*◌, ◌^◌, ◌<◌, ◌≤◌, Bool, true, false, ◌&&◌, nat_lt, if◌then◌else◌, List, [], ◌∷◌, ◌++◌, length, reverse, refl, sym, ap, subst, ◌∙◌, append-nil, length-append, arith}
use Rattle.std.specs.List.{flat_map}
use Rattle.std.proofs.lemmas.List.{get_or-set_same, reverse-reverse, reverse-append, length-reverse}
use Rattle.std.proofs.lemmas.Bool.{and_parts, ltb-true}
use Rattle.s4_types.specs.Pointer.{Place}
use Rattle.segment_word.specs.Frames.{Phase, Free, Open, Sealed, Draining, Frame, is_free, is_open}
use Rattle.segment_word.specs.Layout.{frame_at}
use Rattle.segment_word.specs.Handles.{Drive}
use Rattle.segment_table.specs.declared.slots.Slot.{Slot}
use Rattle.segment_table.specs.Table.{Table, slots_at}
use Rattle.segment_table.specs.Room.{is_filling, can_open, numbers, places, rest_of, whole_of, places_ahead}
use Rattle.segment_table.specs.Changes.{IsAlone, KeepsGeneration, IsFilling, NoneIsFilling, IsPut}
use Rattle.segment_table.proofs.Alone.{generation_alone, numbers_alone}
use Rattle.segment_table.proofs.Numbers.{numbers_first}

pub open_phase : (p : Phase) → is_open p ≡ true → p ≡ Open
open_phase Free e = absurd (cc)
open_phase Open e = refl
open_phase Sealed e = absurd (cc)
open_phase Draining e = absurd (cc)

free_phase : (p : Phase) → is_free p ≡ true → p ≡ Free
free_phase Free e = refl
free_phase Open e = absurd (cc)
free_phase Sealed e = absurd (cc)
free_phase Draining e = absurd (cc)

pub record CanOpen (frames : List Frame) (f : ℕ) : Type 0 where
  pub inside : f < length frames
  pub free : (frame_at frames f).phase ≡ Free
  pub goes_on : (frame_at frames f).generation + 1 < 2 ^ 32

-- the first frame that can be opened
pub vacant_first : (frames : List Frame) (f : ℕ) (rest : List ℕ) → numbers can_open 0 frames ≡ f ∷ rest → CanOpen frames f
vacant_first frames f rest e =
    let found = numbers_first can_open 0 f frames rest e in
    let at : found.0 ≡ f = let is : f ≡ 0 + found.0 = found.1 in omega arith in
    let P : ℕ → Type 0 = λ n. (n < length frames) × (can_open (frame_at frames n) ≡ true) in
    let here : P f = subst P at (found.2, found.3) in
    let parts = and_parts (is_free (frame_at frames f).phase) (nat_lt ((frame_at frames f).generation + 1) (2 ^ 32)) here.1 in
    record { inside = here.0; free = free_phase (frame_at frames f).phase parts.0; goes_on = ltb-true _ _ parts.1 }

-- the open frame
pub filling_at : (t : Table) (f : ℕ) → IsFilling f t → (f < length t.seat.frames) × ((frame_at t.seat.frames f).phase ≡ Open)
filling_at t f e =
    let found = numbers_first is_filling 0 f t.seat.frames [] e in
    let at : found.0 ≡ f = let is : f ≡ 0 + found.0 = found.1 in omega arith in
    let P : ℕ → Type 0 = λ n. (n < length t.seat.frames) × (is_open (frame_at t.seat.frames n).phase ≡ true) in
    let here : P f = subst P at (found.2, found.3) in
    (here.0, open_phase (frame_at t.seat.frames f).phase here.1)

-- a frame that is neither free before nor after
pub vacant_same : (old new : Drive) (f : ℕ) → IsAlone f old new → is_free (frame_at old.frames f).phase ≡ false → is_free (frame_at new.frames f).phase ≡ false → numbers can_open 0 new.frames ≡ numbers can_open 0 old.frames
vacant_same old new f a before after =
    numbers_alone can_open old new f a
    (ap (λ (x : Bool). x && nat_lt ((frame_at new.frames f).generation + 1) (2 ^ 32)) after
    ∙ sym (ap (λ (x : Bool). x && nat_lt ((frame_at old.frames f).generation + 1) (2 ^ 32)) before))

pub wholes_same : (old new : Table) (f : ℕ) (l : List ℕ) → IsAlone f old.seat new.seat → KeepsGeneration f old.seat new.seat → flat_map (whole_of new) l ≡ flat_map (whole_of old) l
wholes_same old new f l a k =
    λ i. flat_map (λ (g : ℕ). places g (generation_alone old.seat new.seat f g a k i) 1 15) l

places_cons : (f g b n : ℕ) → 0 < n → places f g b n ≡ (record { frame = f; block = b; generation = g }) ∷ places f g (b + 1) (n - 1)
unfolding places
places_cons f g b zero h = absurd (omega arith)
places_cons f g b (suc n) h = ap (λ (m : ℕ). (record { frame = f; block = b; generation = g }) ∷ places f g (b + 1) m) (omega arith)

pub length-places : (f g b n : ℕ) → length (places f g b n) ≡ n
unfolding places
length-places f g b zero = refl
length-places f g b (suc n) = ap suc (length-places f g (b + 1) n)

pub places_none : (f g b : ℕ) → places f g b 0 ≡ []
unfolding places
places_none f g b = refl

-- the places ahead where frame f is open, and where none is
ahead_filling : (t : Table) (f : ℕ) → IsFilling f t → places_ahead t ≡ rest_of t f ++ flat_map (whole_of t) (numbers can_open 0 t.seat.frames)
ahead_filling t f e =
    ap (λ (l : List ℕ). flat_map (rest_of t) l ++ flat_map (whole_of t) (numbers can_open 0 t.seat.frames)) e
    ∙ ap (λ (l : List Place). l ++ flat_map (whole_of t) (numbers can_open 0 t.seat.frames)) (append-nil (rest_of t f))

ahead_none : (t : Table) → NoneIsFilling t → places_ahead t ≡ flat_map (whole_of t) (numbers can_open 0 t.seat.frames)
ahead_none t e = ap (λ (l : List ℕ). flat_map (rest_of t) l ++ flat_map (whole_of t) (numbers can_open 0 t.seat.frames)) e

open_not_free : (p : Phase) → p ≡ Open → is_free p ≡ false
open_not_free p e = ap is_free e

-- a block that is put takes the first place ahead
pub ahead_put : (old new : Table) (f : ℕ) (slot : Slot) (block : List ℕ) → IsFilling f old → IsFilling f new → f < length old.slots → length (slots_at old.slots f) < 15 → IsPut f slot block old new
    → places_ahead old ≡ (record { frame = f; block = length (slots_at old.slots f) + 1; generation = (frame_at old.seat.frames f).generation }) ∷ places_ahead new
ahead_put old new f slot block before after inside room put =
    let used : ℕ = length (slots_at old.slots f) in
    let g : ℕ = (frame_at old.seat.frames f).generation in
    let g' : ℕ = (frame_at new.seat.frames f).generation in
    let p : Place = record { frame = f; block = used + 1; generation = g } in
    let opens : List ℕ = numbers can_open 0 old.seat.frames in
    let phase : (frame_at old.seat.frames f).phase ≡ Open = (filling_at old f before).1 in
    let here : slots_at new.slots f ≡ slots_at old.slots f ++ slot ∷ [] = ap (λ (l : List (List Slot)). slots_at l f) put.slots ∙ get_or-set_same old.slots f (slots_at old.slots f ++ slot ∷ []) [] inside in
    let more : length (slots_at new.slots f) ≡ used + 1 = ap length here ∙ length-append (slots_at old.slots f) (slot ∷ []) in
    let rest : rest_of old f ≡ p ∷ rest_of new f =
    places_cons f g (used + 1) (15 - used) (omega arith)
    ∙ ap (λ (l : List Place). p ∷ l)
    (ap (λ (n : ℕ). places f n (used + 1 + 1) (15 - used - 1)) (sym put.generation)
    ∙ ap (λ (n : ℕ). places f g' (n + 1) (15 - used - 1)) (sym more)
    ∙ ap (λ (n : ℕ). places f g' (length (slots_at new.slots f) + 1) n) (omega arith)) in
    ahead_filling old f before
    ∙ ap (λ (l : List Place). l ++ flat_map (whole_of old) opens) rest
    ∙ ap (λ (l : List Place). p ∷ (rest_of new f ++ l))
    (sym (wholes_same old new f opens put.alone put.generation)
    ∙ ap (λ (l : List ℕ). flat_map (whole_of new) l) (sym (vacant_same old.seat new.seat f put.alone (open_not_free _ phase) (open_not_free _ (put.phase ∙ phase)))))
    ∙ ap (λ (l : List Place). p ∷ l) (sym (ahead_filling new f after))

-- a frame that is sealed takes its rest with it
pub ahead_sealed : (old new : Table) (f : ℕ) → IsFilling f old → NoneIsFilling new → IsAlone f old.seat new.seat → KeepsGeneration f old.seat new.seat → (frame_at new.seat.frames f).phase ≡ Sealed
    → rest_of old f ++ places_ahead new ≡ places_ahead old
ahead_sealed old new f before after a k phase =
    let opens : List ℕ = numbers can_open 0 old.seat.frames in
    ap (λ (l : List Place). rest_of old f ++ l)
    (ahead_none new after
    ∙ ap (λ (l : List ℕ). flat_map (whole_of new) l) (vacant_same old.seat new.seat f a (open_not_free _ (filling_at old f before).1) (ap is_free phase))
    ∙ wholes_same old new f opens a k)
    ∙ sym (ahead_filling old f before)

-- a frame that is opened stays the next one
pub ahead_opened : (old new : Table) (f : ℕ) (rest : List ℕ) → NoneIsFilling old → numbers can_open 0 old.seat.frames ≡ f ∷ rest → IsFilling f new → numbers can_open 0 new.seat.frames ≡ rest
    → IsAlone f old.seat new.seat → KeepsGeneration f old.seat new.seat → new.slots ≡ old.slots → slots_at old.slots f ≡ [] → places_ahead new ≡ places_ahead old
ahead_opened old new f rest before first after others a k slots none =
    let g : ℕ = (frame_at old.seat.frames f).generation in
    ahead_filling new f after
    ∙ ap (λ (l : List ℕ). rest_of new f ++ flat_map (whole_of new) l) others
    ∙ ap (λ (l : List (List Slot)). places f (frame_at new.seat.frames f).generation (length (slots_at l f) + 1) (15 - length (slots_at l f)) ++ flat_map (whole_of new) rest) slots
    ∙ ap (λ (l : List Slot). places f (frame_at new.seat.frames f).generation (length l + 1) (15 - length l) ++ flat_map (whole_of new) rest) none
    ∙ ap (λ (n : ℕ). places f n 1 15 ++ flat_map (whole_of new) rest) k
    ∙ ap (λ (l : List Place). places f g 1 15 ++ l) (wholes_same old new f rest a k)
    ∙ sym (ahead_none old before ∙ ap (λ (l : List ℕ). flat_map (whole_of old) l) first)

-- only how many blocks are used counts
rests_same : (old new : Table) (l : List ℕ) → new.seat ≡ old.seat → ((f : ℕ) → length (slots_at new.slots f) ≡ length (slots_at old.slots f)) → flat_map (rest_of new) l ≡ flat_map (rest_of old) l
rests_same old new l drive used =
    ap (λ (d : Drive). flat_map (λ (f : ℕ). places f (frame_at d.frames f).generation (length (slots_at new.slots f) + 1) (15 - length (slots_at new.slots f))) l) drive
    ∙ (λ i. flat_map (λ (f : ℕ). places f (frame_at old.seat.frames f).generation (used f i + 1) (15 - used f i)) l)

pub ahead_same : (old new : Table) → new.seat ≡ old.seat → ((f : ℕ) → length (slots_at new.slots f) ≡ length (slots_at old.slots f)) → places_ahead new ≡ places_ahead old
ahead_same old new drive used =
    ap (λ (d : Drive). flat_map (rest_of new) (numbers is_filling 0 d.frames) ++ flat_map (λ (f : ℕ). places f (frame_at d.frames f).generation 1 15) (numbers can_open 0 d.frames)) drive
    ∙ ap (λ (l : List Place). l ++ flat_map (whole_of old) (numbers can_open 0 old.seat.frames)) (rests_same old new (numbers is_filling 0 old.seat.frames) drive used)

length_wholes : (t : Table) (l : List ℕ) → length (flat_map (whole_of t) l) ≡ 15 * length l
length_wholes t [] = refl
length_wholes t (f ∷ l) =
    let more : length (flat_map (whole_of t) l) ≡ 15 * length l = length_wholes t l in
    let one : length (whole_of t f) ≡ 15 = length-places f (frame_at t.seat.frames f).generation 1 15 in
    let sum : length (whole_of t f ++ flat_map (whole_of t) l) ≡ length (whole_of t f) + length (flat_map (whole_of t) l) = length-append (whole_of t f) (flat_map (whole_of t) l) in
    omega arith

pub left_filling : (t : Table) (f : ℕ) (vacant : List ℕ) → IsFilling f t → vacant ≡ reverse (numbers can_open 0 t.seat.frames) → length (places_ahead t) ≡ 15 * length vacant + (15 - length (slots_at t.slots f))
left_filling t f vacant e free =
    let opens : List ℕ = numbers can_open 0 t.seat.frames in
    let count : length vacant ≡ length opens = ap length free ∙ length-reverse opens in
    let rest : length (rest_of t f) ≡ 15 - length (slots_at t.slots f) = length-places f (frame_at t.seat.frames f).generation (length (slots_at t.slots f) + 1) (15 - length (slots_at t.slots f)) in
    let whole : length (flat_map (whole_of t) opens) ≡ 15 * length opens = length_wholes t opens in
    let sum : length (places_ahead t) ≡ length (rest_of t f) + length (flat_map (whole_of t) opens) = ap length (ahead_filling t f e) ∙ length-append (rest_of t f) (flat_map (whole_of t) opens) in
    omega arith

pub left_none : (t : Table) (vacant : List ℕ) → NoneIsFilling t → vacant ≡ reverse (numbers can_open 0 t.seat.frames) → length (places_ahead t) ≡ 15 * length vacant
left_none t vacant e free =
    let opens : List ℕ = numbers can_open 0 t.seat.frames in
    let count : length vacant ≡ length opens = ap length free ∙ length-reverse opens in
    let whole : length (flat_map (whole_of t) opens) ≡ 15 * length opens = length_wholes t opens in
    let sum : length (places_ahead t) ≡ length (flat_map (whole_of t) opens) = ap length (ahead_none t e) in
    omega arith

-- the last of the numbers in the other order is the first
pub popped : (ns xs ys : List ℕ) (x : ℕ) → xs ≡ reverse ns → xs ≡ ys ++ x ∷ [] → ns ≡ x ∷ reverse ys
popped ns xs ys x e f =
    sym (reverse-reverse ns) ∙ ap reverse (sym e ∙ f) ∙ reverse-append ys (x ∷ [])

-- no more frames than there are can be opened
pub numbers_few : (test : Frame → Bool) (n : ℕ) (ks : List Frame) → length (numbers test n ks) ≤ length ks
numbers_few test n [] = omega arith
numbers_few test n (k ∷ ks) =
    let rest : length (numbers test (n + 1) ks) ≤ length ks = numbers_few test (n + 1) ks in
    elim (test k) as (λ (b : Bool). length (if b then n ∷ numbers test (n + 1) ks else numbers test (n + 1) ks) ≤ suc (length ks)) [ true ↦ omega arith | false ↦ omega arith ]

-- no frame is both open and one that can be opened, so together they are no more than there are
apart : (p : Phase) (b : Bool) → (is_open p && (is_free p && b)) ≡ false
apart Free b = refl
apart Open b = refl
apart Sealed b = refl
apart Draining b = refl

one_of_two : (filling vacant : Bool) (xs ys : List ℕ) (n m : ℕ) → (filling && vacant) ≡ false → length xs + length ys ≤ m → length (if filling then n ∷ xs else xs) + length (if vacant then n ∷ ys else ys) ≤ suc m
one_of_two true true xs ys n m h le = absurd (cc)
one_of_two true false xs ys n m h le = omega (arith, le)
one_of_two false true xs ys n m h le = omega (arith, le)
one_of_two false false xs ys n m h le = omega (arith, le)

pub numbers_apart : (n : ℕ) (ks : List Frame) → length (numbers is_filling n ks) + length (numbers can_open n ks) ≤ length ks
numbers_apart n [] = omega arith
numbers_apart n (k ∷ ks) =
    one_of_two (is_filling k) (can_open k) (numbers is_filling (n + 1) ks) (numbers can_open (n + 1) ks) n (length ks) (apart k.phase (nat_lt (k.generation + 1) (2 ^ 32))) (numbers_apart (n + 1) ks)
