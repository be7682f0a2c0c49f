-- What holds of a table before its frames are shared goes on to hold.
use Rattle.std.proofs.Common.{◌≡◌, ◌≢◌, inl, inr, ℕ, zero, suc, ◌+◌, ◌^◌, ◌<◌, ◌≤◌, Bool, true, false, ◌==◌, if◌then◌else◌, List, [], ◌∷◌, length, map, set, get_or, drop, reverse, replicate, Option, Some, None, refl, sym, ap, subst, ◌∙◌, set-set, arith}
use Rattle.std.specs.List.{AllByRecursion, range_with_len}
use Rattle.std.specs.Option.{option_to_list}
use Rattle.std.proofs.lemmas.List.{get_or-set_same, get_or-set_other, length-set, length-map, get_or-replicate, length-replicate}
use Rattle.std.proofs.lemmas.Grind.{get_or_after_one}
use Rattle.std.proofs.lemmas.Bool.{cases_eq}
use Rattle.s4_types.specs.Pointer.{Place}
use Rattle.block_log.specs.Log.{Stored}
use Rattle.codec.specs.declared.summaries.BlockRole.{BlockRole}
use Rattle.codec.specs.Summary.{SummaryFields, KeepsSummaryRules, SpellsSummary}
use Rattle.s4_types.specs.declared.limits.TheConstants.{FEWEST_FRAMES}
use Rattle.segment_word.specs.Frames.{Phase, Free, Open, Sealed, Draining, Frame, no_frame, code_of, is_open}
use Rattle.segment_word.specs.Layout.{frame_at, block_bytes, with_block}
use Rattle.segment_word.specs.Handles.{Drive, fresh_frame}
use Rattle.segment_table.specs.declared.slots.Slot.{Slot}
use Rattle.segment_table.specs.Slots.{unheld, is_held}
use Rattle.segment_table.specs.Table.{Table, slots_at, block_slot, held_block, held_at}
use Rattle.segment_table.specs.Room.{is_filling, can_open, numbers}
use Rattle.segment_table.specs.Sealing.{blocks_from, payload_of, summary_of, IsOwned, IsLetGo, IsFit, IsSoundTable}
use Rattle.segment_table.specs.Building.{unnamed, IsSoundToBuild}
use Rattle.segment_table.specs.Changes.{IsAlone}
use Rattle.segment_table.specs.private.Storing.{AreStored}
use Rattle.segment_table.proofs.Numbers.{numbers_gained}
use Rattle.segment_table.proofs.Alone.{length-alone, elsewhere, numbers_alone}
use Rattle.segment_table.proofs.Sound.{fits_changed, stays, sound_new}

-- the frames of such a table after one of them has changed
pub alone_frames : (old new : List Frame) (ss ts : List (List Slot)) (f : ℕ) → new ≡ set old f (frame_at new f) → IsAlone f (unnamed old ss).seat (unnamed new ts).seat
alone_frames old new ss ts f e = ap (λ (l : List Frame). (unnamed l ts).seat) e

pub sound_table : (t : Table) (current : Option ℕ) → IsSoundToBuild t current → IsSoundTable t (reverse (numbers can_open 0 t.seat.frames)) current
sound_table t current sound = record { least = sound.least; most = sound.most; counted = sound.counted; vacant = refl; filling = sound.filling; fit = sound.fit }

-- one frame has changed and fits
pub changed_builder : (old new : Table) (f : ℕ) (s : List Slot) (current current' : Option ℕ) → IsSoundToBuild old current → f < length old.seat.frames → IsAlone f old.seat new.seat → new.slots ≡ set old.slots f s
    → IsFit f (frame_at new.seat.frames f) s → option_to_list current' ≡ numbers is_filling 0 new.seat.frames
    → ((frame_at new.seat.frames f).phase ≡ Open → (1 ≤ length s) × (length s < 15)) → IsSoundToBuild new current'
changed_builder old new f s current current' sound inside alone slots fit filling room =
    let within : f < length old.slots = omega (arith, sound.counted) in
    record {
      least = omega (arith, length-alone old.seat new.seat f alone, sound.least);
      most = omega (arith, length-alone old.seat new.seat f alone, sound.most);
      counted = ap length slots ∙ length-set old.slots f s ∙ sound.counted ∙ sym (length-alone old.seat new.seat f alone);
      filling = filling;
      fit = fits_changed old new f s within alone slots sound.fit fit;
      part_filled = λ g h phase. elim (cases_eq g f) [
        | inl at ↦ (let here : slots_at new.slots g ≡ s = ap (λ (n : ℕ). slots_at new.slots n) at ∙ ap (λ (l : List (List Slot)). slots_at l f) slots ∙ get_or-set_same old.slots f s [] within in
            let P : ℕ → Type 0 = λ n. (frame_at new.seat.frames n).phase ≡ Open in
            let R : List Slot → Type 0 = λ l. (1 ≤ length l) × (length l < 15) in
            subst R (sym here) (room (subst P at phase)))
        | inr ne ↦ (let same : frame_at new.seat.frames g ≡ frame_at old.seat.frames g = elsewhere old.seat new.seat f g alone ne in
            let there : slots_at new.slots g ≡ slots_at old.slots g = ap (λ (l : List (List Slot)). slots_at l g) slots ∙ get_or-set_other old.slots f g s [] ne in
            let R : List Slot → Type 0 = λ l. (1 ≤ length l) × (length l < 15) in
            let within : g < length old.seat.frames = omega (arith, length-alone old.seat new.seat f alone) in
            subst R (sym there) (sound.part_filled g within (ap (λ (k : Frame). k.phase) (sym same) ∙ phase)))
      ];
    }

-- which frame is open after a free one got a phase
pub filling_changed : (old new : Table) (f : ℕ) (p : Phase) (current : Option ℕ) → IsSoundToBuild old current → f < length old.seat.frames → (frame_at old.seat.frames f).phase ≡ Free → IsAlone f old.seat new.seat
    → (frame_at new.seat.frames f).phase ≡ p → (p ≡ Open → numbers is_filling 0 old.seat.frames ≡ []) → option_to_list (if is_open p then Some f else current) ≡ numbers is_filling 0 new.seat.frames
filling_changed old new f Free current sound inside free alone phase none = sound.filling ∙ sym (numbers_alone is_filling old.seat new.seat f alone (ap is_open phase ∙ sym (ap is_open free)))
filling_changed old new f Open current sound inside free alone phase none =
    sym (ap (λ (d : Drive). numbers is_filling 0 d.frames) alone ∙ numbers_gained is_filling 0 f old.seat.frames (frame_at new.seat.frames f) (none refl) inside (ap is_open phase) ∙ ap (λ (n : ℕ). n ∷ []) (omega arith))
filling_changed old new f Sealed current sound inside free alone phase none = sound.filling ∙ sym (numbers_alone is_filling old.seat new.seat f alone (ap is_open phase ∙ sym (ap is_open free)))
filling_changed old new f Draining current sound inside free alone phase none = sound.filling ∙ sym (numbers_alone is_filling old.seat new.seat f alone (ap is_open phase ∙ sym (ap is_open free)))

-- a free frame has no used block
pub free_unused : (t : Table) (f : ℕ) (current : Option ℕ) → IsSoundToBuild t current → f < length t.seat.frames → (frame_at t.seat.frames f).phase ≡ Free → slots_at t.slots f ≡ []
free_unused t f current sound inside free = (sound.fit f inside).free free

pub free_stays : (t : Table) (f : ℕ) → slots_at t.slots f ≡ [] → t.slots ≡ set t.slots f []
free_stays t f none = stays t.slots f ∙ ap (λ (l : List Slot). set t.slots f l) none

pub fit_free : (f : ℕ) (k : Frame) → (1 ≤ k.generation) × (k.generation < 2 ^ 32) → k.phase ≡ Free → IsFit f k []
fit_free f k lives free = record {
  lives = lives;
  few = omega arith;
  owned = tt;
  whole = λ b low high. absurd (omega arith);
  free = λ e. refl;
  summed = λ h. absurd (let is : code_of k.phase ≡ 0 = ap code_of free in omega arith);
  draining = λ e. tt;
}

-- ---- what is held

pub let_go_slot : (s : List Slot) (b : ℕ) → AllByRecursion IsLetGo s → is_held (block_slot s b) ≡ false
let_go_slot s zero all = refl
let_go_slot [] (suc b) all = refl
let_go_slot (x ∷ s) (suc zero) all = all.0
let_go_slot (x ∷ s) (suc (suc b)) all = let_go_slot s (suc b) all.1

nothing_either : (b : Bool) → ◌≡◌ {A = Option Stored} (if b then None else None) None
nothing_either true = refl
nothing_either false = refl

none_held : (k : Frame) (s : List Slot) (b g : ℕ) → AllByRecursion IsLetGo s → held_block k s b g ≡ None
none_held k s b g all =
    ap (λ (x : Bool). if k.generation == g then (if x then Some (record { kind = (block_slot s b).role.kind; object = (block_slot s b).role.object; bytes = block_bytes k.contents b }) else None) else None) (let_go_slot s b all)
    ∙ nothing_either (k.generation == g)

-- a frame of which nothing was held and nothing is held leaves what is held
pub held_unchanged : (old new : Table) (f : ℕ) (s : List Slot) (q : Place) → f < length old.slots → IsAlone f old.seat new.seat → new.slots ≡ set old.slots f s → slots_at old.slots f ≡ [] → AllByRecursion IsLetGo s → held_at new q ≡ held_at old q
held_unchanged old new f s q within alone slots none all =
    elim (cases_eq q.frame f) [
      | inl at ↦ (let here : slots_at new.slots q.frame ≡ s = ap (λ (n : ℕ). slots_at new.slots n) at ∙ ap (λ (l : List (List Slot)). slots_at l f) slots ∙ get_or-set_same old.slots f s [] within in
          let there : slots_at old.slots q.frame ≡ [] = ap (λ (n : ℕ). slots_at old.slots n) at ∙ none in
          ap (λ (l : List Slot). held_block (frame_at new.seat.frames q.frame) l q.block q.generation) here
          ∙ none_held (frame_at new.seat.frames q.frame) s q.block q.generation all
          ∙ sym (ap (λ (l : List Slot). held_block (frame_at old.seat.frames q.frame) l q.block q.generation) there
          ∙ none_held (frame_at old.seat.frames q.frame) [] q.block q.generation tt))
      | inr ne ↦ ap (λ (l : List (List Slot)). held_block (frame_at new.seat.frames q.frame) (slots_at l q.frame) q.block q.generation) slots
          ∙ ap (λ (l : List Slot). held_block (frame_at new.seat.frames q.frame) l q.block q.generation) (get_or-set_other old.slots f q.frame s [] ne)
          ∙ ap (λ (x : Frame). held_block x (slots_at old.slots q.frame) q.block q.generation) (elsewhere old.seat new.seat f q.frame alone ne)
    ]

pub unheld_let_go : (roles : List BlockRole) → AllByRecursion IsLetGo (unheld roles)
unheld_let_go [] = tt
unheld_let_go (x ∷ roles) = (refl, unheld_let_go roles)

unheld_owned : (roles : List BlockRole) → AllByRecursion (λ p. 1 ≤ p.object) roles → AllByRecursion IsOwned (unheld roles)
unheld_owned [] all = tt
unheld_owned (x ∷ roles) all = (all.0, unheld_owned roles all.1)

pub unheld_roles : (roles : List BlockRole) → map (λ (slot : Slot). slot.role) (unheld roles) ≡ roles
unheld_roles [] = refl
unheld_roles (x ∷ roles) = ap (λ (l : List BlockRole). x ∷ l) (unheld_roles roles)

pub length-unheld : (roles : List BlockRole) → length (unheld roles) ≡ length roles
length-unheld roles = length-map roles (λ (role : BlockRole). record { role = role; named = 0 })

-- ---- a frame's blocks

-- blocks that are these, one by one
read_as : (contents : List ℕ) (l : List (List ℕ)) (b : ℕ) → ((j : ℕ) → j < length l → block_bytes contents (b + j) ≡ get_or l j []) → blocks_from contents b (length l) ≡ l
unfolding blocks_from
read_as contents [] b same = refl
read_as contents (x ∷ l) b same =
    let first : block_bytes contents b ≡ x = ap (λ (n : ℕ). block_bytes contents n) (omega arith) ∙ same 0 (omega arith) in
    ap (λ (y : List ℕ). y ∷ blocks_from contents (b + 1) (length l)) first
    ∙ ap (λ (m : List (List ℕ)). x ∷ m) (read_as contents l (b + 1) (λ j low. ap (λ (n : ℕ). block_bytes contents n) (omega arith) ∙ same (suc j) (omega arith)))

tail_long : (l : List (List ℕ)) (n : ℕ) → length l ≡ n + 1 → length (drop 1 l) ≡ n
tail_long [] n long = absurd (omega arith)
tail_long (x ∷ l) n long = omega arith

payload_is : (contents : List ℕ) (blocks : List (List ℕ)) → length blocks ≡ 16 → ((b : ℕ) → b < 16 → block_bytes contents b ≡ get_or blocks b []) → payload_of contents ≡ drop 1 blocks
payload_is contents blocks long same =
    let count : length (drop 1 blocks) ≡ 15 = tail_long blocks 15 long in
    ap (λ (n : ℕ). blocks_from contents 1 n) (sym count)
    ∙ read_as contents (drop 1 blocks) 1 (λ j low. same (1 + j) (omega arith) ∙ sym (get_or_after_one blocks j []))

-- a frame that got the blocks that a summary tells of fits it
pub fit_used : (f : ℕ) (k : Frame) (s : SummaryFields) (blocks : List (List ℕ)) → KeepsSummaryRules s → s.frame ≡ f → k.generation ≡ s.generation → k.phase ≢ Free → SpellsSummary (drop 1 blocks) (get_or blocks 0 []) s
    → length blocks ≡ 16 → ((b : ℕ) → b < 16 → block_bytes k.contents b ≡ get_or blocks b []) → ((b : ℕ) → b < 16 → length (block_bytes k.contents b) ≡ 512) → IsFit f k (unheld s.roles)
fit_used f k s blocks rules number generation phase spelled long same whole =
    let count : length (unheld s.roles) ≡ length s.roles = length-unheld s.roles in
    let some : 1 ≤ s.generation = rules.least in
    let more : s.generation + 1 < 2 ^ 32 = rules.most in
    let room : length s.roles ≤ 15 = rules.room in
    let roles : map (λ (slot : Slot). slot.role) (unheld s.roles) ≡ s.roles = unheld_roles s.roles in
    let is : s ≡ summary_of f k (unheld s.roles) = λ i. record { frame = number i; generation = (sym generation) i; roles = (sym roles) i } in
    let A : List (List ℕ) → Type 0 = λ l. SpellsSummary l (get_or blocks 0 []) s in
    let B : List ℕ → Type 0 = λ x. SpellsSummary (payload_of k.contents) x s in
    let C : SummaryFields → Type 0 = λ x. SpellsSummary (payload_of k.contents) (block_bytes k.contents 0) x in
    record {
      lives = (omega arith, omega arith);
      few = omega arith;
      owned = unheld_owned s.roles rules.objects;
      whole = λ b low high. whole b (omega arith);
      free = λ e. absurd (phase e);
      summed = λ h. subst C is (subst B (sym (same 0 (omega arith))) (subst A (sym (payload_is k.contents blocks long same)) spelled));
      draining = λ e. unheld_let_go s.roles;
    }

-- ---- storing them

pub stored_more : (f n : ℕ) (blocks : List (List ℕ)) (block : List ℕ) (old mid new : List Frame) → f < length old → n < 16 → AreStored f n blocks old mid → new ≡ set mid f (with_block (frame_at mid f) n block)
    → block_bytes (frame_at new f).contents n ≡ block → ((b : ℕ) → b < 16 → b ≢ n → block_bytes (frame_at new f).contents b ≡ block_bytes (frame_at mid f).contents b)
    → block ≡ get_or blocks n [] → length block ≡ 512 → AreStored f (n + 1) blocks old new
stored_more f n blocks block old mid new inside low are changed here others is long =
    let k : Frame = with_block (frame_at mid f) n block in
    let count : length mid ≡ length old = ap length are.alone ∙ length-set old f (frame_at mid f) in
    let at : frame_at new f ≡ k = ap (λ (l : List Frame). frame_at l f) changed ∙ get_or-set_same mid f k no_frame (omega arith) in
    record {
      alone = changed ∙ ap (λ (l : List Frame). set l f k) are.alone ∙ set-set old f (frame_at mid f) k ∙ ap (set old f) (sym at);
      phase = ap (λ (x : Frame). x.phase) at ∙ are.phase;
      generation = ap (λ (x : Frame). x.generation) at ∙ are.generation;
      stored = λ b small. elim (cases_eq b n) [
        | inl e ↦ ap (λ (m : ℕ). block_bytes (frame_at new f).contents m) e ∙ here ∙ is ∙ ap (λ (m : ℕ). get_or blocks m []) (sym e)
        | inr ne ↦ others b (omega arith) ne ∙ are.stored b (omega arith)
      ];
      whole = λ b small. elim (cases_eq b n) [
        | inl e ↦ ap (λ (m : ℕ). length (block_bytes (frame_at new f).contents m)) e ∙ ap length here ∙ long
        | inr ne ↦ ap length (others b (omega arith) ne) ∙ are.whole b (omega arith)
      ];
    }

-- ---- all free

pub sound_free : (count : ℕ) → FEWEST_FRAMES ≤ count → count ≤ 1024 → IsSoundToBuild (unnamed (replicate count fresh_frame) (replicate count [])) None
sound_free count enough small =
    let t : Table = unnamed (replicate count fresh_frame) (replicate count []) in
    let sound = sound_new t count enough small refl refl (reverse (range_with_len 0 count)) refl in
    record {
      least = sound.least;
      most = sound.most;
      counted = sound.counted;
      filling = sound.filling;
      fit = sound.fit;
      part_filled = λ f h phase. (let low : f < count = omega (arith, length-replicate count fresh_frame) in
          let free : (frame_at t.seat.frames f).phase ≡ Free = ap (λ (k : Frame). k.phase) (get_or-replicate count f fresh_frame no_frame low) in
          let clash : Free ≡ Open = sym free ∙ phase in
          absurd (cc));
    }
