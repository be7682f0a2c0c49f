-- What is known of a block that is held, of the open frame, and of a new table.
use Rattle.std.proofs.Common.{◌≡◌, ◌≢◌, inl, inr, ◌⊎◌, ℕ, zero, suc, ◌+◌, ◌-◌, ◌*◌, ◌^◌, ◌<◌, ◌≤◌, Bool, true, false, ◌==◌, if◌then◌else◌, List, [], ◌∷◌, ◌++◌, length, map, set, get_or, slice_get, replicate, Option, Some, None, IsSome, IfSome, MatchBool, option_map, refl, sym, ap, subst, ◌∙◌, arith}
use Rattle.std.specs.List.{AllByRecursion, flat_map, range_with_len}
use Rattle.std.specs.Option.{option_to_list}
use Rattle.std.proofs.lemmas.List.{get_or_past, get_or_read, get_or-replicate, length-reverse, length-replicate}
use Rattle.std.proofs.lemmas.Bool.{cases_Bool, cases_lt, cases_eq, eqb-true, eq-eqb, ne_eqb}
use Rattle.s4_types.specs.Pointer.{Place}
use Rattle.lemmas.proofs.Option.{none_not_some}
use Rattle.block_log.specs.Log.{Stored, dropped}
use Rattle.segment_word.specs.Frames.{Phase, Free, Open, Sealed, Draining, Frame, no_frame, is_open}
use Rattle.segment_word.specs.Layout.{frame_at, block_bytes}
use Rattle.segment_word.specs.Handles.{fresh_frame}
use Rattle.segment_table.specs.declared.slots.Slot.{Slot}
use Rattle.segment_table.specs.Slots.{no_slot, let_go, held_role, is_held}
use Rattle.segment_table.specs.Table.{Table, slots_at, block_slot, stored, held_block, held_at, named_block, named_at, HoldsWholeBlocks, role_of}
use Rattle.segment_table.specs.Room.{is_filling, can_open, numbers, places, rest_of, whole_of, places_ahead, places_spent, log_of, new_places}
use Rattle.segment_table.specs.Sealing.{IsLetGo, AreWhole, IsSoundTable}
use Rattle.segment_table.specs.Changes.{IsFilling, NoneIsFilling}
use Rattle.segment_table.proofs.Numbers.{numbers_none, numbers_one, numbers_all, numbers_nil}
use Rattle.segment_table.proofs.Ahead.{filling_at, numbers_few, left_filling, left_none, numbers_apart}
use Rattle.segment_table.proofs.Sound.{roles_gone, sound_gone}
use Rattle.segment_table.proofs.Spending.{spent_new, spent_most}
use Rattle.segment_table.proofs.Steps.{log_gone}
use Rattle.segment_table.proofs.Naming.{slot_before}

-- a held block is used, at its frame's generation
pub record IsUsed (k : Frame) (s : List Slot) (b g : ℕ) : Type 0 where
  pub generation : k.generation ≡ g
  pub low : 1 ≤ b
  pub high : b ≤ length s
  pub held : is_held (block_slot s b) ≡ true

pub used_when_held : (s : List Slot) (b : ℕ) → is_held (block_slot s b) ≡ true → (1 ≤ b) × (b ≤ length s)
used_when_held s zero h = absurd (cc)
used_when_held s (suc b) h = elim (cases_lt b (length s)) [
  | inl low ↦ (omega arith, omega arith)
  | inr past ↦ (let none : is_held (block_slot s (suc b)) ≡ false = ap (λ (x : Slot). is_held x) (get_or_past s b no_slot past) in
      let clash : true ≡ false = sym h ∙ none in
      absurd (cc))
]

pub held_used : (k : Frame) (s : List Slot) (b g : ℕ) → IsSome (held_block k s b g) → IsUsed k s b g
held_used k s b g h = elim (cases_Bool (k.generation == g)) [
  | inl own ↦ elim (cases_Bool (is_held (block_slot s b))) [
    | inl held ↦ (let used = used_when_held s b held in
        record { generation = eqb-true k.generation g own; low = used.0; high = used.1; held = held })
    | inr gone ↦ (let none : held_block k s b g ≡ None =
        ap (λ (x : Bool). if x then stored (block_slot s b) (block_bytes k.contents b) else None) own
        ∙ ap (λ (x : Bool). if x then Some (record { kind = (block_slot s b).role.kind; object = (block_slot s b).role.object; bytes = block_bytes k.contents b }) else None) gone in
        absurd (none_not_some (held_block k s b g) none h))
  ]
  | inr other ↦ (let none : held_block k s b g ≡ None = ap (λ (x : Bool). if x then stored (block_slot s b) (block_bytes k.contents b) else None) other in
      absurd (none_not_some (held_block k s b g) none h))
]

whole_stored : (slot : Slot) (bytes : List ℕ) → (is_held slot ≡ true → length bytes ≡ 512) → IfSome (stored slot bytes) (λ block. length block.bytes ≡ 512)
whole_stored slot bytes h =
    let W : Bool → Type 0 = λ x. IfSome {T = Stored} (if x then Some (record { kind = slot.role.kind; object = slot.role.object; bytes = bytes }) else None) (λ block. length block.bytes ≡ 512) in
    elim (cases_Bool (is_held slot)) [
      | inl held ↦ subst W (sym held) (h held)
      | inr gone ↦ subst W (sym gone) tt
    ]

-- a held block has 512 bytes where the used ones do
pub held_whole : (k : Frame) (s : List Slot) (b g : ℕ) → AreWhole k.contents (length s) → IfSome (held_block k s b g) (λ block. length block.bytes ≡ 512)
held_whole k s b g whole =
    let W : Bool → Type 0 = λ x. IfSome (if x then stored (block_slot s b) (block_bytes k.contents b) else None) (λ block. length block.bytes ≡ 512) in
    elim (cases_Bool (k.generation == g)) [
      | inl own ↦ subst W (sym own) (whole_stored (block_slot s b) (block_bytes k.contents b) (λ held. let used = used_when_held s b held in whole b used.0 used.1))
      | inr other ↦ subst W (sym other) tt
    ]

all_let_go : (s : List Slot) (b : ℕ) → AllByRecursion IsLetGo s → is_held (block_slot s b) ≡ true → ⊥
all_let_go s zero all h = cc
all_let_go [] (suc b) all h = cc
all_let_go (x ∷ s) (suc zero) all h = let clash : true ≡ false = sym h ∙ all.0 in cc
all_let_go (x ∷ s) (suc (suc b)) all h = all_let_go s (suc b) all.1 h

phase_cases : (p : Phase) → (p ≡ Free) ⊎ ((p ≡ Open) ⊎ ((p ≡ Sealed) ⊎ (p ≡ Draining)))
phase_cases Free = inl refl
phase_cases Open = inr (inl refl)
phase_cases Sealed = inr (inr (inl refl))
phase_cases Draining = inr (inr (inr refl))

-- a held block's frame is there, and open or sealed
pub held_frame : (t : Table) (free : List ℕ) (current : Option ℕ) (p : Place) → IsSoundTable t free current → IsSome (held_at t p) → (p.frame < length t.seat.frames) × (((frame_at t.seat.frames p.frame).phase ≡ Open) ⊎ ((frame_at t.seat.frames p.frame).phase ≡ Sealed))
held_frame t free current p sound h =
    let k : Frame = frame_at t.seat.frames p.frame in
    let s : List Slot = slots_at t.slots p.frame in
    let used : IsUsed k s p.block p.generation = held_used k s p.block p.generation h in
    let inside : p.frame < length t.seat.frames = elim (cases_lt p.frame (length t.slots)) [
      | inl low ↦ omega (arith, sound.counted)
      | inr past ↦ (let none : length s ≡ 0 = ap length (get_or_past t.slots p.frame [] past) in absurd (omega arith))
    ] in
    let fit = sound.fit p.frame inside in (
      inside,
      elim (phase_cases k.phase) [
        | inl e ↦ (let none : length s ≡ 0 = ap length (fit.free e) in absurd (omega arith))
        | inr (inl e) ↦ inl e
        | inr (inr (inl e)) ↦ inr e
        | inr (inr (inr e)) ↦ absurd (all_let_go s p.block (fit.draining e) used.held)
      ],
    )

-- each held block has 512 bytes: those of the used blocks have, and a frame that isn't there has none
pub sound_whole : (t : Table) (free : List ℕ) (current : Option ℕ) → IsSoundTable t free current → HoldsWholeBlocks t
sound_whole t free current sound p =
    let k : Frame = frame_at t.seat.frames p.frame in
    let s : List Slot = slots_at t.slots p.frame in
    held_whole k s p.block p.generation (elim (cases_lt p.frame (length t.slots)) [
      | inl low ↦ (sound.fit p.frame (omega (arith, sound.counted))).whole
      | inr past ↦ (let none : length s ≡ 0 = ap length (get_or_past t.slots p.frame [] past) in λ b low high. absurd (omega arith))
    ])

-- an open frame is the one that the table knows
only_open : (t : Table) (current : Option ℕ) (f : ℕ) → option_to_list current ≡ numbers is_filling 0 t.seat.frames → f < length t.seat.frames → (frame_at t.seat.frames f).phase ≡ Open → current ≡ Some f
only_open t None f e inside phase = absurd (numbers_none is_filling 0 f t.seat.frames (sym e) inside (ap is_open phase))
only_open t (Some g) f e inside phase = ap (λ (x : ℕ). Some x) (numbers_one is_filling 0 g f t.seat.frames (sym e) inside (ap is_open phase) ∙ omega arith)

-- a held block of no open frame is sealed
pub held_sealed_frame : (t : Table) (free : List ℕ) (current : Option ℕ) (p : Place) → IsSoundTable t free current → IsSome (held_at t p) → current ≢ Some p.frame → (frame_at t.seat.frames p.frame).phase ≡ Sealed
held_sealed_frame t free current p sound h ne =
    let found = held_frame t free current p sound h in
    elim found.1 [ inl e ↦ absurd (ne (only_open t current p.frame sound.filling found.0 e)) | inr e ↦ e ]

pub current_filling : (t : Table) (free : List ℕ) (current : Option ℕ) (f : ℕ) → IsSoundTable t free current → current ≡ Some f → IsFilling f t
current_filling t free current f sound e = sym sound.filling ∙ ap option_to_list e

pub current_none : (t : Table) (free : List ℕ) (current : Option ℕ) → IsSoundTable t free current → current ≡ None → NoneIsFilling t
current_none t free current sound e = sym sound.filling ∙ ap option_to_list e

pub free_few : (t : Table) (free : List ℕ) (current : Option ℕ) → IsSoundTable t free current → length free ≤ 1024
free_few t free current sound =
    let opens : List ℕ = numbers can_open 0 t.seat.frames in
    let count : length free ≡ length opens = ap length sound.vacant ∙ length-reverse opens in
    let few : length opens ≤ length t.seat.frames = numbers_few can_open 0 t.seat.frames in
    omega (arith, sound.most)

-- a block that was let go leaves a table that holds together
pub gone_made : (old new t : Table) (free : List ℕ) (current : Option ℕ) (p : Place) (f b : ℕ) (lent after : List Slot) → old ≡ t → f ≡ p.frame → b ≡ p.block → 1 ≤ p.block → IsSoundTable old free current
    → p.frame < length t.seat.frames → (frame_at t.seat.frames p.frame).generation ≡ p.generation
    → lent ≡ get_or old.slots f lent → after ≡ let_go lent (b - 1) → new.seat ≡ old.seat → new.slots ≡ set old.slots f after
    → IsSoundTable new free current × ((log_of new ≡ dropped (log_of t) p) × ((g : ℕ) → map (λ (x : Slot). x.role) (slots_at new.slots g) ≡ map (λ (x : Slot). x.role) (slots_at t.slots g)))
gone_made old new t free current p f b lent after same at_frame at_block low sound inside own is_lent is_after drive slots =
    let I : Table → Type 0 = λ x. p.frame < length x.seat.frames in
    let G : Table → Type 0 = λ x. (frame_at x.seat.frames p.frame).generation ≡ p.generation in
    let L : Table → Type 0 = λ x. log_of new ≡ dropped (log_of x) p in
    let P : Table → Type 0 = λ x. (g : ℕ) → map (λ (x : Slot). x.role) (slots_at new.slots g) ≡ map (λ (x : Slot). x.role) (slots_at x.slots g) in
    let S : List (List Slot) → Type 0 = λ l. (g : ℕ) → map (λ (x : Slot). x.role) (slots_at l g) ≡ map (λ (x : Slot). x.role) (slots_at old.slots g) in
    let F : ℕ → Type 0 = λ n. lent ≡ get_or old.slots n lent in
    let within : I old = subst I (sym same) inside in
    let here : p.frame < length old.slots = omega (arith, sound.counted) in
    let read : lent ≡ slots_at old.slots p.frame = get_or_read old.slots p.frame lent here (subst F at_frame is_lent) [] in
    let made : new.slots ≡ set old.slots p.frame (let_go (slots_at old.slots p.frame) (p.block - 1)) =
    slots ∙ ap (λ (n : ℕ). set old.slots n after) at_frame
    ∙ ap (λ (l : List Slot). set old.slots p.frame l) (is_after ∙ ap (λ (l : List Slot). let_go l (b - 1)) read ∙ ap (λ (n : ℕ). let_go (slots_at old.slots p.frame) (n - 1)) at_block) in (
      sound_gone old new free current p.frame (p.block - 1) sound here drive made,
      (subst L same (log_gone old new p here low (subst G (sym same) own) drive made), subst P same (subst S (sym made) (λ g. roles_gone old.slots p.frame (p.block - 1) g here))),
    )

role_stored : (s : List Slot) (i : ℕ) (bytes : List ℕ) → held_role (slice_get s i) ≡ option_map role_of (stored (get_or s i no_slot) bytes)
role_stored [] i bytes = refl
role_stored (x ∷ s) zero bytes = elim (cases_Bool (is_held x)) [
  | inl h ↦ ap (λ (b : Bool). if b then Some x.role else None) h ∙ sym (ap (λ (b : Bool). option_map role_of (if b then Some (record { kind = x.role.kind; object = x.role.object; bytes = bytes }) else None)) h)
  | inr h ↦ ap (λ (b : Bool). if b then Some x.role else None) h ∙ sym (ap (λ (b : Bool). option_map role_of (if b then Some (record { kind = x.role.kind; object = x.role.object; bytes = bytes }) else None)) h)
]
role_stored (x ∷ s) (suc i) bytes = role_stored s i bytes

-- what a block is for, where it is held
pub role_is : (t : Table) (p : Place) → (frame_at t.seat.frames p.frame).generation ≡ p.generation → 1 ≤ p.block → held_role (slice_get (slots_at t.slots p.frame) (p.block - 1)) ≡ option_map role_of (held_at t p)
role_is t p own low =
    let k : Frame = frame_at t.seat.frames p.frame in
    let s : List Slot = slots_at t.slots p.frame in
    role_stored s (p.block - 1) (block_bytes k.contents p.block)
    ∙ sym (ap (λ (x : Bool). option_map role_of (if x then stored (block_slot s p.block) (block_bytes k.contents p.block) else None)) (eq-eqb k.generation p.generation own)
    ∙ ap (λ (x : Slot). option_map role_of (stored x (block_bytes k.contents p.block))) (slot_before s p.block low))

none_held : (k : Frame) (b g : ℕ) → held_block k [] b g ≡ None
none_held k zero g = elim (cases_Bool (k.generation == g)) [
  | inl e ↦ ap (λ (x : Bool). if x then stored no_slot (block_bytes k.contents 0) else None) e
  | inr e ↦ ap (λ (x : Bool). if x then stored no_slot (block_bytes k.contents 0) else None) e
]
none_held k (suc b) g = elim (cases_Bool (k.generation == g)) [
  | inl e ↦ ap (λ (x : Bool). if x then stored no_slot (block_bytes k.contents (suc b)) else None) e
  | inr e ↦ ap (λ (x : Bool). if x then stored no_slot (block_bytes k.contents (suc b)) else None) e
]

none_named : (k : Frame) (b g : ℕ) → named_block k [] b g ≡ 0
none_named k zero g = elim (cases_Bool (k.generation == g)) [ inl e ↦ ap (λ (x : Bool). if x then 0 else 0) e | inr e ↦ ap (λ (x : Bool). if x then 0 else 0) e ]
none_named k (suc b) g = elim (cases_Bool (k.generation == g)) [ inl e ↦ ap (λ (x : Bool). if x then 0 else 0) e | inr e ↦ ap (λ (x : Bool). if x then 0 else 0) e ]

pub no_slots_at : (n f : ℕ) → slots_at (replicate n []) f ≡ []
no_slots_at n f = elim (cases_lt f n) [
  | inl h ↦ get_or-replicate n f [] [] h
  | inr h ↦ get_or_past (replicate n []) f [] (omega (arith, length-replicate {A = List Slot} n []))
]

wholes_new : (t : Table) (count a n : ℕ) → t.seat.frames ≡ replicate count fresh_frame → a + n ≤ count → flat_map (whole_of t) (range_with_len a n) ≡ flat_map (λ (f : ℕ). places f 1 1 15) (range_with_len a n)
wholes_new t count a zero frames h = refl
wholes_new t count a (suc n) frames h =
    let low : a < count = omega arith in
    ap (λ (g : ℕ). places a g 1 15 ++ flat_map (whole_of t) (range_with_len (a + 1) n)) (ap (λ (l : List Frame). (frame_at l a).generation) frames ∙ ap (λ (k : Frame). k.generation) (get_or-replicate count a fresh_frame no_frame low))
    ∙ ap (λ (l : List Place). places a 1 1 15 ++ l) (wholes_new t count (a + 1) n frames (omega arith))

-- a new table holds nothing, and all its places are ahead
pub new_log : (t : Table) (count : ℕ) → t.seat.frames ≡ replicate count fresh_frame → t.slots ≡ replicate count [] → log_of t ≡ record { held = λ p. None; ahead = new_places count; spent = 0; named = λ p. 0 }
new_log t count frames slots =
    let held : (p : Place) → held_at t p ≡ None = λ p.
    ap (λ (l : List Slot). held_block (frame_at t.seat.frames p.frame) l p.block p.generation) (ap (λ (l : List (List Slot)). slots_at l p.frame) slots ∙ no_slots_at count p.frame) ∙ none_held (frame_at t.seat.frames p.frame) p.block p.generation in
    let ahead : places_ahead t ≡ new_places count =
    ap (λ (l : List ℕ). flat_map (rest_of t) l ++ flat_map (whole_of t) (numbers can_open 0 t.seat.frames)) (ap (λ (l : List Frame). numbers is_filling 0 l) frames ∙ numbers_nil is_filling 0 count fresh_frame refl)
    ∙ ap (λ (l : List ℕ). flat_map (whole_of t) l) (ap (λ (l : List Frame). numbers can_open 0 l) frames ∙ numbers_all can_open 0 count fresh_frame refl)
    ∙ wholes_new t count 0 count frames (omega arith) in
    let spent : places_spent t ≡ 0 = spent_new t count frames slots in
    let named : (p : Place) → named_at t p ≡ 0 = λ p. ap (λ (l : List Slot). named_block (frame_at t.seat.frames p.frame) l p.block p.generation) (ap (λ (l : List (List Slot)). slots_at l p.frame) slots ∙ no_slots_at count p.frame) ∙ none_named (frame_at t.seat.frames p.frame) p.block p.generation in
    λ i. record { held = λ p. held p i; ahead = ahead i; spent = spent i; named = λ p. named p i }

-- a held block's frame is open where it is the one that the table knows, and else sealed
pub open_or_sealed : (t : Table) (free : List ℕ) (current : Option ℕ) (p : Place) (f g : ℕ) → IsSoundTable t free current → IsSome (held_at t p) → current ≡ Some f → g ≡ p.frame
    → MatchBool (f == g) ((frame_at t.seat.frames p.frame).phase ≡ Open) ((frame_at t.seat.frames p.frame).phase ≡ Sealed)
open_or_sealed t free current p f g sound h is at = elim (cases_eq f g) [
  | inl e ↦ (let M : Bool → Type 0 = λ b. MatchBool b ((frame_at t.seat.frames p.frame).phase ≡ Open) ((frame_at t.seat.frames p.frame).phase ≡ Sealed) in
      let P : ℕ → Type 0 = λ n. (frame_at t.seat.frames n).phase ≡ Open in
      subst M (sym (eq-eqb f g e)) (subst P (e ∙ at) (filling_at t f (current_filling t free current f sound is)).1))
  | inr ne ↦ (let M : Bool → Type 0 = λ b. MatchBool b ((frame_at t.seat.frames p.frame).phase ≡ Open) ((frame_at t.seat.frames p.frame).phase ≡ Sealed) in
      subst M (sym (ne_eqb f g ne))
      (held_sealed_frame t free current p sound h (λ e. let same : Some f ≡ Some p.frame = sym is ∙ e in let equal : f ≡ p.frame = (cc) in ne (equal ∙ sym at))))
]

-- at most 15,360 places are ahead
ahead_few : (t : Table) (free : List ℕ) (current : Option ℕ) → IsSoundTable t free current → length (places_ahead t) ≤ 15360
ahead_few t free None sound =
    let left : length (places_ahead t) ≡ 15 * length free = left_none t free (current_none t free None sound refl) sound.vacant in
    let few : length free ≤ 1024 = free_few t free None sound in
    omega (arith, left, few)
ahead_few t free (Some f) sound =
    let filling : IsFilling f t = current_filling t free (Some f) f sound refl in
    let left : length (places_ahead t) ≡ 15 * length free + (15 - length (slots_at t.slots f)) = left_filling t f free filling sound.vacant in
    let opens : List ℕ = numbers can_open 0 t.seat.frames in
    let count : length free ≡ length opens = ap length sound.vacant ∙ length-reverse opens in
    let one : length (numbers is_filling 0 t.seat.frames) ≡ 1 = ap length filling in
    let most : length t.seat.frames ≤ 1024 = sound.most in
    omega (arith, numbers_apart 0 t.seat.frames, left, count, one, most)

-- with all that were ever taken they are fewer than 2^46
pub places_few : (t : Table) (free : List ℕ) (current : Option ℕ) → IsSoundTable t free current → places_spent t + length (places_ahead t) < 2 ^ 46
places_few t free current sound =
    let ahead : length (places_ahead t) ≤ 15360 = ahead_few t free current sound in
    let spent : places_spent t ≤ 1024 * (15 * 2 ^ 32) = spent_most t free current sound in
    omega (arith, ahead, spent)

-- whether a frame is the open one, which the table knows
pub is_open_one : (t : Table) (free : List ℕ) (current : Option ℕ) (f g : ℕ) → IsSoundTable t free current → f < length t.seat.frames → current ≡ Some g
    → MatchBool (g == f) ((frame_at t.seat.frames f).phase ≡ Open) ((frame_at t.seat.frames f).phase ≢ Open)
is_open_one t free current f g sound inside is =
    let M : Bool → Type 0 = λ b. MatchBool b ((frame_at t.seat.frames f).phase ≡ Open) ((frame_at t.seat.frames f).phase ≢ Open) in
    elim (cases_eq g f) [
      | inl e ↦ (let P : ℕ → Type 0 = λ n. (frame_at t.seat.frames n).phase ≡ Open in
          subst M (sym (eq-eqb g f e)) (subst P e (filling_at t g (current_filling t free current g sound is)).1))
      | inr ne ↦ subst M (sym (ne_eqb g f ne))
          (λ phase. let same : Some g ≡ Some f = sym is ∙ only_open t current f sound.filling inside phase in let equal : g ≡ f = (cc) in ne equal)
    ]

-- and none is, where it knows none
pub no_open_one : (t : Table) (free : List ℕ) (current : Option ℕ) (f : ℕ) → IsSoundTable t free current → f < length t.seat.frames → current ≡ None → (frame_at t.seat.frames f).phase ≢ Open
no_open_one t free current f sound inside is phase =
    let same : None ≡ Some f = sym is ∙ only_open t current f sound.filling inside phase in
    cc
