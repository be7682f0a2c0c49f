-- The used blocks of the whole frames of an image that isn't damaged are those of the image.
use Rattle.std.proofs.Common.{◌≡◌, ◌≢◌, ◌⊎◌, inl, inr, ℕ, zero, suc, ◌+◌, ◌<◌, ◌≤◌, ◌==◌, ◌||◌, ◌&&◌, if◌then◌else◌, Bool, true, false, cond, eqb, List, [], ◌∷◌, length, map, get_or, Option, None, refl, sym, ap, subst, ◌∙◌, arith}
use Rattle.std.specs.Prelude.{option_map, ◌↔◌}
use Rattle.std.specs.List.{Contains}
use std.Path.{fun_ext}
use Rattle.std.proofs.lemmas.Bool.{cases_lt, ne_eqb}
use Rattle.std.proofs.lemmas.List.{get_or_past, length-map}
use Rattle.s4_types.specs.Pointer.{Place}
use Rattle.block_log.specs.Log.{Stored}
use Rattle.codec.specs.declared.summaries.BlockRole.{BlockRole}
use Rattle.codec.specs.Summary.{SummaryFields, KeepsSummaryRules, summary_rules}
use Rattle.image_parts.specs.Frames.{FrameFields, state_of, KeepsFrameRules, EachKeepsFrameRules}
use Rattle.segment_word.specs.Frames.{Phase, Free, Open, Sealed, Draining, Frame, no_frame, is_open, is_sealed}
use Rattle.segment_word.specs.Layout.{phase_of, frame_at, block_bytes}
use Rattle.segment_table.specs.declared.slots.Slot.{Slot}
use Rattle.segment_table.specs.Slots.{unheld}
use Rattle.segment_table.specs.Table.{Table, slots_at}
use Rattle.segment_table.specs.Used.{used_slot, with_bytes, used_block, used_at}
use Rattle.segment_table.specs.Sealing.{summary_of}
use Rattle.verifier.specs.Tables.{no_part, IsFrameOf, IsTableOf}
use Rattle.verifier.proofs.Retold.{same_used_slot}
use Rattle.image_salvage.specs.Frames.{IsWhole, HasBlocksOf, IsSeen, Sees, AreLostOf}
use Rattle.image_salvage.proofs.Seeing.{OneSummaryASpelling}

-- what the rules of a summary are
abbrev pub RulesOfASummary : Type 0
RulesOfASummary = (s : SummaryFields) → (summary_rules s ≡ true) ↔ KeepsSummaryRules s

-- ---- what a block is named for

abbrev roles_in : List Slot → List BlockRole
roles_in slots = map (λ slot. slot.role) slots

roles_unheld : (roles : List BlockRole) → roles_in (unheld roles) ≡ roles
roles_unheld [] = refl
roles_unheld (role ∷ roles) = ap (λ (l : List BlockRole). role ∷ l) (roles_unheld roles)

-- ---- by phases

abbrev named_by : Phase → ℕ → ℕ → Option Stored → Option Stored
named_by p n g x = if (is_open p || is_sealed p) && n == g then x else None

none_named : (p : Phase) (n g : ℕ) (x : Option Stored) → (p ≡ Open → ⊥) → (p ≡ Sealed → ⊥) → named_by p n g x ≡ None
none_named Free n g x no_open no_sealed = refl
none_named Open n g x no_open no_sealed = absurd (no_open refl)
none_named Sealed n g x no_open no_sealed = absurd (no_sealed refl)
none_named Draining n g x no_open no_sealed = refl

some_named : (p : Phase) (n g : ℕ) (x : Option Stored) → (p ≡ Open) ⊎ (p ≡ Sealed) → named_by p n g x ≡ named_by Sealed n g x
some_named Free n g x (inl is) = absurd (cc)
some_named Free n g x (inr is) = absurd (cc)
some_named Open n g x is = refl
some_named Sealed n g x is = refl
some_named Draining n g x (inl is) = absurd (cc)
some_named Draining n g x (inr is) = absurd (cc)

state_named : (state : ℕ) → (state ≡ 1) ⊎ (state ≡ 2) → (phase_of state ≡ Open) ⊎ (phase_of state ≡ Sealed)
state_named state (inl one) = inl (ap phase_of one)
state_named state (inr two) = inr (ap phase_of two)

by_others : (a b c : Bool) → b ≡ false → c ≡ false → (cond a Free (cond b Open (cond c Sealed Draining)) ≡ Open → ⊥) × (cond a Free (cond b Open (cond c Sealed Draining)) ≡ Sealed → ⊥)
by_others true b c one two = ((λ e. absurd (let clash : Free ≡ Open = e in cc)), (λ e. absurd (let clash : Free ≡ Sealed = e in cc)))
by_others false true c one two = absurd (let clash : true ≡ false = one in cc)
by_others false false true one two = absurd (let clash : true ≡ false = two in cc)
by_others false false false one two = ((λ e. absurd (let clash : Draining ≡ Open = e in cc)), (λ e. absurd (let clash : Draining ≡ Sealed = e in cc)))

state_other : (state : ℕ) → ((state ≡ 1) ⊎ (state ≡ 2) → ⊥) → (phase_of state ≡ Open → ⊥) × (phase_of state ≡ Sealed → ⊥)
state_other state other = by_others (eqb state 0) (eqb state 1) (eqb state 2) (ne_eqb state 1 (λ e. other (inl e))) (ne_eqb state 2 (λ e. other (inr e)))

-- ---- one frame

whole_alike : RulesOfASummary → OneSummaryASpelling → (n : ℕ) (f : FrameFields) (k m : Frame) (slots others : List Slot) (b g : ℕ) → IsWhole n f → HasBlocksOf n f k slots → IsFrameOf n f m others → used_block k slots b g ≡ used_block m others b g
whole_alike rules_of one n f k m slots others b g whole has is =
    let named : (m.phase ≡ Open) ⊎ (m.phase ≡ Sealed) = subst (λ (p : Phase). (p ≡ Open) ⊎ (p ≡ Sealed)) (sym is.phase) (state_named (state_of f.word) whole.state) in
    let used : m.phase ≢ Free = (λ e. elim named [
      | inl a ↦ absurd (let clash : Open ≡ Free = sym a ∙ e in cc)
      | inr a ↦ absurd (let clash : Sealed ≡ Free = sym a ∙ e in cc)
    ]) in
    let same : has.summary ≡ summary_of n m others = one _ _ has.summary (summary_of n m others) has.spelled (is.summary used) in
    let life : k.generation ≡ m.generation = has.generation ∙ ap (λ (s : SummaryFields). s.generation) same in
    let roles : roles_in slots ≡ roles_in others = ap (λ (l : List Slot). roles_in l) has.roles ∙ roles_unheld has.summary.roles ∙ ap (λ (s : SummaryFields). s.roles) same in
    let lengths : length slots ≡ length others = sym (length-map slots (λ (slot : Slot). slot.role)) ∙ ap length roles ∙ length-map others (λ (slot : Slot). slot.role) in
    let room : length (roles_in others) ≤ 15 = ((rules_of (summary_of n m others)).0 (is.summary used).0.0).room in
    let most : length others ≤ 15 = omega (arith, room, length-map others (λ (slot : Slot). slot.role)) in
    let block : option_map (with_bytes (block_bytes k.contents b)) (used_slot slots b) ≡ option_map (with_bytes (block_bytes m.contents b)) (used_slot others b) =
    same_used_slot slots others k.contents m.contents b roles (λ i low high. has.blocks i (omega (arith, high, lengths, most)) ∙ sym (is.blocks used i low (omega (arith, high, lengths)))) in
    ap (λ (p : Phase). named_by p k.generation g (option_map (with_bytes (block_bytes k.contents b)) (used_slot slots b))) has.phase
    ∙ ap (λ (x : ℕ). named_by Sealed x g (option_map (with_bytes (block_bytes k.contents b)) (used_slot slots b))) life
    ∙ ap (named_by Sealed m.generation g) block
    ∙ sym (some_named m.phase m.generation g (option_map (with_bytes (block_bytes m.contents b)) (used_slot others b)) named)

other_alike : (n : ℕ) (f : FrameFields) (k m : Frame) (slots others : List Slot) (b g : ℕ) → KeepsFrameRules n f → (IsWhole n f → ⊥) → k.phase ≡ Free → IsFrameOf n f m others → used_block k slots b g ≡ used_block m others b g
other_alike n f k m slots others b g rules other free is =
    let apart = state_other (state_of f.word) (λ state. other (record { state = state; rules = rules })) in
    ap (λ (p : Phase). named_by p k.generation g (option_map (with_bytes (block_bytes k.contents b)) (used_slot slots b))) free
    ∙ sym (none_named m.phase m.generation g (option_map (with_bytes (block_bytes m.contents b)) (used_slot others b)) (λ e. apart.0 (sym is.phase ∙ e)) (λ e. apart.1 (sym is.phase ∙ e)))

frame_alike : RulesOfASummary → OneSummaryASpelling → (n : ℕ) (f : FrameFields) (k m : Frame) (slots others : List Slot) (b g : ℕ) → KeepsFrameRules n f → IsSeen n f k slots → IsFrameOf n f m others → used_block k slots b g ≡ used_block m others b g
frame_alike rules_of one n f k m slots others b g rules (inl (whole, has)) is = whole_alike rules_of one n f k m slots others b g whole has is
frame_alike rules_of one n f k m slots others b g rules (inr (other, free)) is = other_alike n f k m slots others b g rules other free is

-- ---- all frames

each_keeps : (n : ℕ) (frames : List FrameFields) (k : ℕ) → EachKeepsFrameRules n frames → k < length frames → KeepsFrameRules (n + k) (get_or frames k no_part)
each_keeps n [] k all h = absurd (omega arith)
each_keeps n (f ∷ frames) zero all h = subst (λ (x : ℕ). KeepsFrameRules x f) (omega arith) all.0
each_keeps n (f ∷ frames) (suc k) all h =
    subst (λ (x : ℕ). KeepsFrameRules x (get_or frames k no_part)) (omega arith) (each_keeps (n + 1) frames k all.1 (omega arith))

past_named : (t : Table) (p : Place) → length t.seat.frames ≤ p.frame → used_at t p ≡ None
past_named t p h =
    ap (λ (k : Frame). used_block k (slots_at t.slots p.frame) p.block p.generation) (get_or_past t.seat.frames p.frame no_frame h)

place_alike : RulesOfASummary → OneSummaryASpelling → (frames : List FrameFields) (seen t : Table) (p : Place) → EachKeepsFrameRules 0 frames → Sees frames seen → IsTableOf frames t → used_at seen p ≡ used_at t p
place_alike rules_of one frames seen t p rules sees is = elim (cases_lt p.frame (length frames)) [
  | inl below ↦ (let keeps : KeepsFrameRules p.frame (get_or frames p.frame no_part) = subst (λ (x : ℕ). KeepsFrameRules x (get_or frames p.frame no_part)) (omega arith) (each_keeps 0 frames p.frame rules below) in
      frame_alike rules_of one p.frame (get_or frames p.frame no_part) (frame_at seen.seat.frames p.frame) (frame_at t.seat.frames p.frame) (slots_at seen.slots p.frame) (slots_at t.slots p.frame) p.block p.generation keeps (sees.each p.frame below) (is.each p.frame below))
  | inr past ↦ past_named seen p (omega (arith, past, sees.frame_count)) ∙ sym (past_named t p (omega (arith, past, is.frame_count)))
]

pub used_alike : RulesOfASummary → OneSummaryASpelling → (frames : List FrameFields) (seen t : Table) → EachKeepsFrameRules 0 frames → Sees frames seen → IsTableOf frames t → used_at seen ≡ used_at t
used_alike rules_of one frames seen t rules sees is = fun_ext (λ (p : Place). place_alike rules_of one frames seen t p rules sees is)

-- ---- none is lost

none_there : (lost : List ℕ) → ((k : ℕ) → Contains lost k → ⊥) → lost ≡ []
none_there [] none = refl
none_there (k ∷ lost) none = absurd (none k (0, omega arith, refl))

pub none_lost_of : (frames : List FrameFields) (lost : List ℕ) → EachKeepsFrameRules 0 frames → AreLostOf frames (length frames) lost → lost ≡ []
none_lost_of frames lost rules are = none_there lost (λ k has.
    let is = (are k).0 has in
    let keeps : KeepsFrameRules k (get_or frames k no_part) = subst (λ (x : ℕ). KeepsFrameRules x (get_or frames k no_part)) (omega arith) (each_keeps 0 frames k rules is.0) in
    is.1.1 (record { state = is.1.0; rules = keeps }))
