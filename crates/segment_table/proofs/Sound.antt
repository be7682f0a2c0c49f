-- What holds of a table goes on to hold, after each change of one frame.
use Rattle.std.proofs.Common.{◌≡◌, inl, inr, ℕ, zero, suc, ◌+◌, ◌^◌, ◌<◌, ◌≤◌, List, [], ◌∷◌, ◌++◌, length, map, reverse, set, get_or, replicate, ltb, cond, ◌-◌, Option, Some, None, refl, sym, ap, subst, ◌∙◌, length-append, arith, Bool}
use Rattle.std.specs.List.{AllByRecursion, range_with_len}
use Rattle.std.proofs.lemmas.List.{get_or-set_same, get_or-set_other, set-get_or, length-set, reverse-reverse, get_or-replicate, length-replicate}
use Rattle.std.proofs.lemmas.Bool.{cases_eq, cases_Bool, ltb-false}
use Rattle.block_log.specs.Log.{same_kind}
use Rattle.block_log.specs.declared.kinds.BlockKind.TheVariants.{Data}
use Rattle.std.proofs.Math.Seq.{map-set_same}
use Rattle.codec.specs.declared.summaries.BlockRole.{BlockRole}
use Rattle.codec.specs.Summary.{SpellsSummary}
use Rattle.s4_types.specs.declared.limits.TheConstants.{FEWEST_FRAMES}
use Rattle.segment_word.specs.Frames.{Free, Open, Sealed, Draining, Frame, no_frame, code_of, is_free, is_open}
use Rattle.segment_word.specs.Layout.{frame_at, block_bytes}
use Rattle.segment_word.specs.Handles.{Drive, with_changed, fresh_frame}
use Rattle.segment_table.specs.declared.slots.Slot.{Slot}
use Rattle.segment_table.specs.Slots.{no_slot, data_names, fewer_names, let_go}
use Rattle.segment_table.specs.Table.{Table, slots_at}
use Rattle.segment_table.specs.Room.{is_filling, can_open, numbers}
use Rattle.segment_table.specs.Sealing.{payload_of, IsOwned, IsLetGo, AreWhole, IsFit, IsSoundTable}
use Rattle.segment_table.specs.Changes.{IsAlone, IsFilling, NoneIsFilling, IsPut, IsSealed}
use Rattle.segment_table.proofs.Numbers.{numbers_lost, numbers_gained, numbers_all, numbers_nil}
use Rattle.segment_table.proofs.Alone.{put_here, alone, unchanged, length-alone, elsewhere, numbers_alone}
use Rattle.segment_table.proofs.Ahead.{vacant_first, filling_at, vacant_same, popped}

-- the frame that changed fits, and so do the others
pub fits_changed : (old new : Table) (f : ℕ) (s : List Slot) → f < length old.slots → IsAlone f old.seat new.seat → new.slots ≡ set old.slots f s
    → ((g : ℕ) → g < length old.seat.frames → IsFit g (frame_at old.seat.frames g) (slots_at old.slots g)) → IsFit f (frame_at new.seat.frames f) s
    → (g : ℕ) → g < length new.seat.frames → IsFit g (frame_at new.seat.frames g) (slots_at new.slots g)
fits_changed old new f s inside a slots fits fit g h = elim (cases_eq g f) [
  | inl at ↦ (let P : ℕ → Type 0 = λ n. IsFit n (frame_at new.seat.frames n) (slots_at new.slots n) in
      let Q : List Slot → Type 0 = λ l. IsFit f (frame_at new.seat.frames f) l in
      subst P (sym at) (subst Q (sym (ap (λ (l : List (List Slot)). slots_at l f) slots ∙ get_or-set_same old.slots f s [] inside)) fit))
  | inr ne ↦ (let P : Frame → Type 0 = λ k. IsFit g k (slots_at old.slots g) in
      let Q : List Slot → Type 0 = λ l. IsFit g (frame_at new.seat.frames g) l in
      let within : g < length old.seat.frames = omega (arith, length-alone old.seat new.seat f a) in
      subst Q (sym (ap (λ (l : List (List Slot)). slots_at l g) slots ∙ get_or-set_other old.slots f g s [] ne))
      (subst P (sym (elsewhere old.seat new.seat f g a ne)) (fits g within)))
]

pub stays : (l : List (List Slot)) (f : ℕ) → l ≡ set l f (slots_at l f)
stays l f = sym (set-get_or l f [])

-- a frame of the same generation has as many lives
pub same_lives : (k k' : Frame) → k'.generation ≡ k.generation → (1 ≤ k.generation) × (k.generation < 2 ^ 32) → (1 ≤ k'.generation) × (k'.generation < 2 ^ 32)
same_lives k k' same lives = subst (λ (n : ℕ). (1 ≤ n) × (n < 2 ^ 32)) (sym same) lives

-- a frame that can be opened is opened
pub opened_alone : (old : Drive) (new : Drive) (f : ℕ) → f < length old.frames → new ≡ with_changed old f (record (frame_at old.frames f) { phase = Open }) → IsAlone f old new × (frame_at new.frames f ≡ record (frame_at old.frames f) { phase = Open })
opened_alone old new f inside e =
    let k : Frame = record (frame_at old.frames f) { phase = Open } in
    (alone old new f k inside e, ap (λ (d : Drive). frame_at d.frames f) e ∙ put_here old f k inside)

pub opened_filling : (old new : Drive) (f : ℕ) → f < length old.frames → numbers is_filling 0 old.frames ≡ [] → new ≡ with_changed old f (record (frame_at old.frames f) { phase = Open }) → numbers is_filling 0 new.frames ≡ f ∷ []
opened_filling old new f inside none e =
    ap (λ (d : Drive). numbers is_filling 0 d.frames) e ∙ numbers_gained is_filling 0 f old.frames (record (frame_at old.frames f) { phase = Open }) none inside refl ∙ ap (λ (n : ℕ). n ∷ []) (omega arith)

pub opened_vacant : (old new : Drive) (f : ℕ) (rest : List ℕ) → numbers can_open 0 old.frames ≡ f ∷ rest → new ≡ with_changed old f (record (frame_at old.frames f) { phase = Open }) → numbers can_open 0 new.frames ≡ rest
opened_vacant old new f rest first e =
    ap (λ (d : Drive). numbers can_open 0 d.frames) e
    ∙ numbers_lost can_open 0 f old.frames (record (frame_at old.frames f) { phase = Open }) rest (first ∙ ap (λ (n : ℕ). n ∷ rest) (omega arith)) refl

fit_opened : (f : ℕ) (k k' : Frame) (s : List Slot) → IsFit f k s → k'.phase ≡ Open → k'.generation ≡ k.generation → k'.contents ≡ k.contents → IsFit f k' s
fit_opened f k k' s fit phase generation contents = record {
  lives = same_lives k k' generation fit.lives;
  few = fit.few;
  owned = fit.owned;
  whole = λ b low high. ap (λ (l : List ℕ). length (block_bytes l b)) contents ∙ fit.whole b low high;
  free = λ e. absurd (let is : Open ≡ Free = sym phase ∙ e in cc);
  summed = λ h. absurd (let is : code_of k'.phase ≡ 1 = ap code_of phase in omega arith);
  draining = λ e. absurd (let is : Open ≡ Draining = sym phase ∙ e in cc);
}

pub sound_opened : (old new : Table) (free free' : List ℕ) (current : Option ℕ) (f : ℕ) → IsSoundTable old free current → NoneIsFilling old → free ≡ free' ++ f ∷ [] → new.seat ≡ with_changed old.seat f (record (frame_at old.seat.frames f) { phase = Open }) → new.slots ≡ old.slots
    → IsSoundTable new free' (Some f)
sound_opened old new free free' current f sound none split changed slots =
    let first : numbers can_open 0 old.seat.frames ≡ f ∷ reverse free' = popped (numbers can_open 0 old.seat.frames) free free' f sound.vacant split in
    let inside : f < length old.seat.frames = (vacant_first old.seat.frames f (reverse free') first).inside in
    let a = opened_alone old.seat new.seat f inside changed in
    record {
      least = omega (arith, length-alone old.seat new.seat f a.0, sound.least);
      most = omega (arith, length-alone old.seat new.seat f a.0, sound.most);
      counted = ap length slots ∙ sound.counted ∙ sym (length-alone old.seat new.seat f a.0);
      vacant = sym (ap reverse (opened_vacant old.seat new.seat f (reverse free') first changed) ∙ reverse-reverse free');
      filling = sym (opened_filling old.seat new.seat f inside none changed);
      fit = fits_changed old new f (slots_at old.slots f) (omega (arith, sound.counted)) a.0 (slots ∙ stays old.slots f) sound.fit
          (fit_opened f (frame_at old.seat.frames f) (frame_at new.seat.frames f) (slots_at old.slots f) (sound.fit f inside) (ap (λ (k : Frame). k.phase) a.1) (ap (λ (k : Frame). k.generation) a.1)
          (ap (λ (k : Frame). k.contents) a.1));
    }

owned_more : (s : List Slot) (slot : Slot) → AllByRecursion IsOwned s → IsOwned slot → AllByRecursion IsOwned (s ++ slot ∷ [])
owned_more [] slot all h = (h, tt)
owned_more (x ∷ s) slot all h = (all.0, owned_more s slot all.1 h)

-- one block more is used, and has 512 bytes
put_whole : (old new : Table) (f : ℕ) (slot : Slot) (block : List ℕ) → length (slots_at old.slots f) < 15 → length block ≡ 512 → IsPut f slot block old new
    → AreWhole (frame_at old.seat.frames f).contents (length (slots_at old.slots f)) → AreWhole (frame_at new.seat.frames f).contents (length (slots_at old.slots f ++ slot ∷ []))
put_whole old new f slot block room size put whole b low high = elim (cases_eq b (length (slots_at old.slots f) + 1)) [
  | inl at ↦ ap (λ (n : ℕ). length (block_bytes (frame_at new.seat.frames f).contents n)) at ∙ ap length put.bytes ∙ size
  | inr ne ↦ (let few : b ≤ length (slots_at old.slots f) + 1 = omega (arith, length-append (slots_at old.slots f) (slot ∷ [])) in
      ap length (put.others b (omega arith) ne) ∙ whole b low (omega arith))
]

pub put_filling : (old new : Table) (f : ℕ) (slot : Slot) (block : List ℕ) → IsFilling f old → IsPut f slot block old new → IsFilling f new
put_filling old new f slot block e put =
    numbers_alone is_filling old.seat new.seat f put.alone (ap is_open put.phase) ∙ e

pub sound_put : (old new : Table) (free : List ℕ) (current : Option ℕ) (f : ℕ) (slot : Slot) (block : List ℕ) → IsSoundTable old free current → IsFilling f old → length (slots_at old.slots f) < 15 → IsOwned slot → length block ≡ 512 → IsPut f slot block old new → IsSoundTable new free current
sound_put old new free current f slot block sound filling room own size put =
    let at = filling_at old f filling in
    let inside : f < length old.seat.frames = at.0 in
    let phase : (frame_at new.seat.frames f).phase ≡ Open = put.phase ∙ at.1 in
    let fit : IsFit f (frame_at old.seat.frames f) (slots_at old.slots f) = sound.fit f inside in
    let changed : IsFit f (frame_at new.seat.frames f) (slots_at old.slots f ++ slot ∷ []) = record {
      lives = same_lives (frame_at old.seat.frames f) (frame_at new.seat.frames f) put.generation fit.lives;
      few = omega (arith, length-append (slots_at old.slots f) (slot ∷ []));
      owned = owned_more (slots_at old.slots f) slot fit.owned own;
      whole = put_whole old new f slot block room size put fit.whole;
      free = λ e. absurd (let is : Open ≡ Free = sym phase ∙ e in cc);
      summed = λ h. absurd (let is : code_of (frame_at new.seat.frames f).phase ≡ 1 = ap code_of phase in omega arith);
      draining = λ e. absurd (let is : Open ≡ Draining = sym phase ∙ e in cc);
    } in
    record {
      least = omega (arith, length-alone old.seat new.seat f put.alone, sound.least);
      most = omega (arith, length-alone old.seat new.seat f put.alone, sound.most);
      counted = ap length put.slots ∙ length-set old.slots f (slots_at old.slots f ++ slot ∷ []) ∙ sound.counted ∙ sym (length-alone old.seat new.seat f put.alone);
      vacant = sound.vacant ∙ ap reverse (sym (vacant_same old.seat new.seat f put.alone (ap is_free at.1) (ap is_free phase)));
      filling = sound.filling ∙ sym (numbers_alone is_filling old.seat new.seat f put.alone (ap is_open put.phase));
      fit = fits_changed old new f (slots_at old.slots f ++ slot ∷ []) (omega (arith, sound.counted)) put.alone put.slots sound.fit changed;
    }

pub sealed_filling : (old new : Drive) (f : ℕ) → numbers is_filling 0 old.frames ≡ f ∷ [] → IsAlone f old new → (frame_at new.frames f).phase ≡ Sealed → numbers is_filling 0 new.frames ≡ []
sealed_filling old new f e a phase =
    ap (λ (d : Drive). numbers is_filling 0 d.frames) a ∙ numbers_lost is_filling 0 f old.frames (frame_at new.frames f) [] (e ∙ ap (λ (n : ℕ). n ∷ []) (omega arith)) (ap is_open phase)

pub sound_sealed : (old new : Table) (free : List ℕ) (current : Option ℕ) (f : ℕ) → IsSoundTable old free current → IsFilling f old → IsSealed f (slots_at old.slots f) old.seat new.seat → new.slots ≡ old.slots → IsSoundTable new free None
sound_sealed old new free current f sound filling sealed slots =
    let at = filling_at old f filling in
    let inside : f < length old.seat.frames = at.0 in
    let fit : IsFit f (frame_at old.seat.frames f) (slots_at old.slots f) = sound.fit f inside in
    let changed : IsFit f (frame_at new.seat.frames f) (slots_at old.slots f) = record {
      lives = same_lives (frame_at old.seat.frames f) (frame_at new.seat.frames f) sealed.generation fit.lives;
      few = fit.few;
      owned = fit.owned;
      whole = λ b low high. ap length (sealed.used b low high) ∙ fit.whole b low high;
      free = λ e. absurd (let is : Sealed ≡ Free = sym sealed.phase ∙ e in cc);
      summed = λ h. sealed.summed;
      draining = λ e. absurd (let is : Sealed ≡ Draining = sym sealed.phase ∙ e in cc);
    } in
    record {
      least = omega (arith, length-alone old.seat new.seat f sealed.alone, sound.least);
      most = omega (arith, length-alone old.seat new.seat f sealed.alone, sound.most);
      counted = ap length slots ∙ sound.counted ∙ sym (length-alone old.seat new.seat f sealed.alone);
      vacant = sound.vacant ∙ ap reverse (sym (vacant_same old.seat new.seat f sealed.alone (ap is_free at.1) (ap is_free sealed.phase)));
      filling = sym (sealed_filling old.seat new.seat f filling sealed.alone sealed.phase);
      fit = fits_changed old new f (slots_at old.slots f) (omega (arith, sound.counted)) sealed.alone (slots ∙ stays old.slots f) sound.fit changed;
    }

pub gone_owned : (s : List Slot) (i : ℕ) (slot : Slot) → AllByRecursion IsOwned s → (i < length s → IsOwned slot) → AllByRecursion IsOwned (set s i slot)
gone_owned [] i slot all h = tt
gone_owned (x ∷ s) zero slot all h = (h (omega arith), all.1)
gone_owned (x ∷ s) (suc i) slot all h = (all.0, gone_owned s i slot all.1 (λ low. h (omega arith)))

pub owned_at : (s : List Slot) (i : ℕ) → AllByRecursion IsOwned s → i < length s → IsOwned (get_or s i no_slot)
owned_at [] i all h = absurd (omega arith)
owned_at (x ∷ s) zero all h = all.0
owned_at (x ∷ s) (suc i) all h = owned_at s i all.1 (omega arith)

gone_let_go : (s : List Slot) (i : ℕ) (slot : Slot) → AllByRecursion IsLetGo s → IsLetGo slot → AllByRecursion IsLetGo (set s i slot)
gone_let_go [] i slot all h = tt
gone_let_go (x ∷ s) zero slot all h = (h, all.1)
gone_let_go (x ∷ s) (suc i) slot all h = (all.0, gone_let_go s i slot all.1 h)

none_named : (slot : Slot) → IsLetGo slot → IsLetGo (fewer_names slot)
none_named slot gone =
    let none : slot.named ≤ 0 = ltb-false 0 slot.named gone in
    let less : data_names slot - 1 ≡ 0 = elim (cases_Bool (same_kind slot.role.kind Data)) [
      | inl of_data ↦ let same : data_names slot ≡ slot.named = ap (λ (b : Bool). cond b slot.named 0) of_data in omega (arith, same, none)
      | inr other ↦ let zero_is : data_names slot ≡ 0 = ap (λ (b : Bool). cond b slot.named 0) other in omega (arith, zero_is)
    ] in
    ap (λ (n : ℕ). ltb 0 n) less

let_go_there : (s : List Slot) (i : ℕ) → AllByRecursion IsLetGo s → IsLetGo (get_or s i no_slot)
let_go_there [] i all = refl
let_go_there (x ∷ s) zero all = all.0
let_go_there (x ∷ s) (suc i) all = let_go_there s i all.1

-- a frame fits where one of its slots has other names
pub fit_put : (f : ℕ) (k : Frame) (s : List Slot) (i : ℕ) (slot : Slot) → slot.role ≡ (get_or s i no_slot).role → IsFit f k s → (k.phase ≡ Draining → AllByRecursion IsLetGo (set s i slot)) → IsFit f k (set s i slot)
fit_put f k s i slot same fit draining =
    let P : List BlockRole → Type 0 = λ roles. SpellsSummary (payload_of k.contents) (block_bytes k.contents 0) (record { frame = f; generation = k.generation; roles = roles }) in
    let roles : map (λ (x : Slot). x.role) (set s i slot) ≡ map (λ (x : Slot). x.role) s = map-set_same (λ (x : Slot). x.role) s i slot no_slot same in
    record {
      lives = fit.lives;
      few = omega (arith, length-set s i slot, fit.few);
      owned = gone_owned s i slot fit.owned (λ low. subst (λ (role : BlockRole). 1 ≤ role.object) (sym same) (owned_at s i fit.owned low));
      whole = λ b low high. fit.whole b low (omega (arith, length-set s i slot));
      free = λ e. ap (λ (l : List Slot). set l i slot) (fit.free e);
      summed = λ h. subst P (sym roles) (fit.summed h);
      draining = draining;
    }

fit_gone : (f : ℕ) (k : Frame) (s : List Slot) (i : ℕ) → IsFit f k s → IsFit f k (let_go s i)
fit_gone f k s i fit =
    let slot : Slot = fewer_names (get_or s i no_slot) in
    fit_put f k s i slot refl fit (λ e. gone_let_go s i slot (fit.draining e) (none_named (get_or s i no_slot) (let_go_there s i (fit.draining e))))

pub used_gone : (old : List (List Slot)) (f i g : ℕ) → f < length old → length (slots_at (set old f (let_go (slots_at old f) i)) g) ≡ length (slots_at old g)
used_gone old f i g inside = elim (cases_eq g f) [
  | inl at ↦ (let P : ℕ → Type 0 = λ n. length (slots_at (set old f (let_go (slots_at old f) i)) n) ≡ length (slots_at old n) in
      subst P (sym at)
      (ap length (get_or-set_same old f (let_go (slots_at old f) i) [] inside) ∙ length-set (slots_at old f) i (fewer_names (get_or (slots_at old f) i no_slot))))
  | inr ne ↦ ap length (get_or-set_other old f g (let_go (slots_at old f) i) [] ne)
]

pub roles_gone : (old : List (List Slot)) (f i g : ℕ) → f < length old
    → map (λ (x : Slot). x.role) (slots_at (set old f (let_go (slots_at old f) i)) g) ≡ map (λ (x : Slot). x.role) (slots_at old g)
roles_gone old f i g inside = elim (cases_eq g f) [
  | inl at ↦ (let P : ℕ → Type 0 = λ n. map (λ (x : Slot). x.role) (slots_at (set old f (let_go (slots_at old f) i)) n) ≡ map (λ (x : Slot). x.role) (slots_at old n) in
      subst P (sym at)
      (ap (map (λ (x : Slot). x.role)) (get_or-set_same old f (let_go (slots_at old f) i) [] inside)
      ∙ map-set_same (λ (x : Slot). x.role) (slots_at old f) i (fewer_names (get_or (slots_at old f) i no_slot)) no_slot refl))
  | inr ne ↦ ap (map (λ (x : Slot). x.role)) (get_or-set_other old f g (let_go (slots_at old f) i) [] ne)
]

pub unchanged_drive : (d e : Drive) (f : ℕ) → e ≡ d → IsAlone f d e
unchanged_drive d e f same = same ∙ unchanged d f ∙ ap (λ (x : Drive). with_changed d f (frame_at x.frames f)) (sym same)

pub sound_gone : (old new : Table) (free : List ℕ) (current : Option ℕ) (f i : ℕ) → IsSoundTable old free current → f < length old.slots → new.seat ≡ old.seat → new.slots ≡ set old.slots f (let_go (slots_at old.slots f) i) → IsSoundTable new free current
sound_gone old new free current f i sound inside drive slots =
    let s : List Slot = slots_at old.slots f in
    let within : f < length old.seat.frames = omega (arith, sound.counted) in
    let P : Frame → Type 0 = λ k. IsFit f k (let_go s i) in
    record {
      least = omega (arith, ap (λ (d : Drive). length d.frames) drive, sound.least);
      most = omega (arith, ap (λ (d : Drive). length d.frames) drive, sound.most);
      counted = ap length slots ∙ length-set old.slots f (let_go s i) ∙ sound.counted ∙ sym (ap (λ (d : Drive). length d.frames) drive);
      vacant = sound.vacant ∙ sym (ap (λ (d : Drive). reverse (numbers can_open 0 d.frames)) drive);
      filling = sound.filling ∙ sym (ap (λ (d : Drive). numbers is_filling 0 d.frames) drive);
      fit = fits_changed old new f (let_go s i) inside (unchanged_drive old.seat new.seat f drive) slots sound.fit
          (subst P (sym (ap (λ (d : Drive). frame_at d.frames f) drive)) (fit_gone f (frame_at old.seat.frames f) s i (sound.fit f within)));
    }

fit_fresh : (f : ℕ) → IsFit f fresh_frame []
fit_fresh f = record {
  lives = (omega arith, omega arith);
  few = omega arith;
  owned = tt;
  whole = λ b low high. absurd (omega arith);
  free = λ e. refl;
  summed = λ h. absurd (omega arith);
  draining = λ e. tt;
}

-- a new table
pub sound_new : (t : Table) (count : ℕ) → FEWEST_FRAMES ≤ count → count ≤ 1024 → t.seat.frames ≡ replicate count fresh_frame → t.slots ≡ replicate count [] → (free : List ℕ) → free ≡ reverse (range_with_len 0 count) → IsSoundTable t free None
sound_new t count enough small frames slots free e =
    let long : length t.seat.frames ≡ count = ap length frames ∙ length-replicate count fresh_frame in
    record {
      least = omega (arith, long);
      most = omega (arith, long);
      counted = ap length slots ∙ length-replicate count [] ∙ sym long;
      vacant = e ∙ ap reverse (sym (ap (λ (l : List Frame). numbers can_open 0 l) frames ∙ numbers_all can_open 0 count fresh_frame refl));
      filling = sym (ap (λ (l : List Frame). numbers is_filling 0 l) frames ∙ numbers_nil is_filling 0 count fresh_frame refl);
      fit = λ f h. (let low : f < count = omega (arith, long) in
          let P : Frame → Type 0 = λ k. IsFit f k (slots_at t.slots f) in
          let Q : List Slot → Type 0 = λ l. IsFit f fresh_frame l in
          subst P (sym (ap (λ (l : List Frame). frame_at l f) frames ∙ get_or-replicate count f fresh_frame no_frame low))
          (subst Q (sym (ap (λ (l : List (List Slot)). slots_at l f) slots ∙ get_or-replicate count f [] [] low)) (fit_fresh f)));
    }
