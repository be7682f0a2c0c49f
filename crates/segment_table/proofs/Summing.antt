-- The summary of a frame that is sealed: it keeps the rules, and encodes what the frame then has.
use Rattle.std.proofs.Common.{◌≡◌, ◌≢◌, ℕ, zero, suc, ◌+◌, ◌-◌, ◌^◌, ◌<◌, ◌≤◌, Bool, true, ◌&&◌, if◌then◌else◌, nat_le, nat_lt, List, [], ◌∷◌, length, map, drop, Option, Some, None, IsSome, refl, sym, ap, subst, ◌∙◌, arith}
use Rattle.std.specs.List.{AllByRecursion, list_all}
use Rattle.std.proofs.lemmas.List.{length-map}
use Rattle.std.proofs.lemmas.Bool.{and_from, le-leb, lt-ltb}
use Rattle.codec.specs.Fields.{Reads}
use Rattle.codec.specs.declared.summaries.BlockRole.{BlockRole}
use Rattle.codec.specs.Summary.{SummaryFields, has_object, summary_rules, IsBlank, UnusedAreBlank, SpellsSummary, checked_summary}
use Rattle.segment_word.specs.Frames.{Sealed, Frame}
use Rattle.segment_word.specs.Layout.{frame_at, block_bytes, with_block}
use Rattle.segment_word.specs.Handles.{Drive, with_changed}
use Rattle.segment_table.specs.declared.slots.Slot.{Slot}
use Rattle.segment_table.specs.Sealing.{blocks_from, payload_of, summary_of, IsOwned}
use Rattle.segment_table.specs.Changes.{IsAlone, KeepsBlock, IsCleared, IsSealed}
use Rattle.segment_table.proofs.Alone.{put_here, alone, alone_then, length-alone}

abbrev roles_of : List Slot → List BlockRole
roles_of slots = map (λ (slot : Slot). slot.role) slots

have_objects : (slots : List Slot) → AllByRecursion IsOwned slots → list_all has_object (roles_of slots) ≡ true
have_objects [] all = refl
have_objects (x ∷ slots) all = and_from (has_object x.role) (list_all has_object (roles_of slots)) (le-leb 1 x.role.object all.0) (have_objects slots all.1)

-- what the summary needs of a frame
pub record CanSum (g : ℕ) (slots : List Slot) : Type 0 where
  pub started : 1 ≤ g
  pub goes_on : g + 1 < 2 ^ 32
  pub some : 1 ≤ length slots
  pub few : length slots ≤ 15
  pub owned : AllByRecursion IsOwned slots

rules_kept : (f g : ℕ) (slots : List Slot) → CanSum g slots → summary_rules (record { frame = f; generation = g; roles = roles_of slots }) ≡ true
unfolding summary_rules
rules_kept f g slots can =
    let count : length (roles_of slots) ≡ length slots = length-map slots (λ (slot : Slot). slot.role) in
    and_from (nat_le 1 g) (nat_lt (g + 1) (2 ^ 32) && (nat_le 1 (length (roles_of slots)) && (nat_le (length (roles_of slots)) 15 && list_all has_object (roles_of slots)))) (le-leb 1 g can.started)
    (and_from (nat_lt (g + 1) (2 ^ 32)) (nat_le 1 (length (roles_of slots)) && (nat_le (length (roles_of slots)) 15 && list_all has_object (roles_of slots))) (lt-ltb (g + 1) (2 ^ 32) can.goes_on)
    (and_from (nat_le 1 (length (roles_of slots))) (nat_le (length (roles_of slots)) 15 && list_all has_object (roles_of slots)) (le-leb 1 (length (roles_of slots)) (omega arith))
    (and_from (nat_le (length (roles_of slots)) 15) (list_all has_object (roles_of slots)) (le-leb (length (roles_of slots)) 15 (omega arith)) (have_objects slots can.owned))))

summed : (f g : ℕ) (slots : List Slot) (roles : List BlockRole) → CanSum g slots → roles ≡ roles_of slots → checked_summary (record { frame = f; generation = g; roles = roles }) ≡ Some (record { frame = f; generation = g; roles = roles_of slots })
summed f g slots roles can e =
    ap (λ (l : List BlockRole). checked_summary (record { frame = f; generation = g; roles = l })) e
    ∙ ap (λ (b : Bool). if b then Some (record { frame = f; generation = g; roles = roles_of slots }) else None) (rules_kept f g slots can)

-- a summary is never refused
pub never_refused : (f g : ℕ) (slots : List Slot) (roles : List BlockRole) (made : Option SummaryFields) → CanSum g slots → roles ≡ roles_of slots
    → Reads (λ s. s) made (checked_summary (record { frame = f; generation = g; roles = roles })) → IsSome made
never_refused f g slots roles None can e made =
    let some : checked_summary (record { frame = f; generation = g; roles = roles }) ≡ Some (record { frame = f; generation = g; roles = roles_of slots }) = summed f g slots roles can e in
    absurd (cc)
never_refused f g slots roles (Some s) can e made = refl

-- it has the frame's fields
pub summary_is : (f g : ℕ) (slots : List Slot) (roles : List BlockRole) (s : SummaryFields) → CanSum g slots → roles ≡ roles_of slots → checked_summary (record { frame = f; generation = g; roles = roles }) ≡ Some s → s ≡ record { frame = f; generation = g; roles = roles_of slots }
summary_is f g slots roles s can e made =
    let some : checked_summary (record { frame = f; generation = g; roles = roles }) ≡ Some (record { frame = f; generation = g; roles = roles_of slots }) = summed f g slots roles can e in
    cc

drop_blocks : (contents : List ℕ) (u b n : ℕ) → drop u (blocks_from contents b n) ≡ blocks_from contents (b + u) (n - u)
unfolding blocks_from
drop_blocks contents zero b n =
    let e : b ≡ b + 0 = omega arith in
    let g : n ≡ n - 0 = omega arith in
    ap (λ (m : ℕ). blocks_from contents m n) e ∙ ap (λ (m : ℕ). blocks_from contents (b + 0) m) g
drop_blocks contents (suc u) b zero =
    let g : 0 ≡ 0 - suc u = omega arith in
    ap (λ (m : ℕ). blocks_from contents (b + suc u) m) g
drop_blocks contents (suc u) b (suc n) =
    let e : b + 1 + u ≡ b + suc u = omega arith in
    let g : n - u ≡ suc n - suc u = omega arith in
    drop_blocks contents u (b + 1) n ∙ ap (λ (m : ℕ). blocks_from contents m (n - u)) e ∙ ap (λ (m : ℕ). blocks_from contents (b + suc u) m) g

all_blank : (contents : List ℕ) (b n : ℕ) → ((c : ℕ) → b ≤ c → c < b + n → IsBlank (block_bytes contents c)) → AllByRecursion IsBlank (blocks_from contents b n)
unfolding blocks_from
all_blank contents b zero h = tt
all_blank contents b (suc n) h = (h b (omega arith) (omega arith), all_blank contents (b + 1) n (λ c low high. h c (omega arith) (omega arith)))

blocks_same : (one other : List ℕ) (b n : ℕ) → ((c : ℕ) → b ≤ c → c < b + n → block_bytes one c ≡ block_bytes other c) → blocks_from one b n ≡ blocks_from other b n
unfolding blocks_from
blocks_same one other b zero h = refl
blocks_same one other b (suc n) h =
    ap (λ (x : List ℕ). x ∷ blocks_from one (b + 1) n) (h b (omega arith) (omega arith))
    ∙ ap (λ (l : List (List ℕ)). block_bytes other b ∷ l) (blocks_same one other (b + 1) n (λ c low high. h c (omega arith) (omega arith)))

-- the unused blocks of a frame that was cleared are zeros
pub unused_blank : (f used : ℕ) (old new : Drive) → used ≤ 15 → IsCleared f (used + 1) 16 old new → UnusedAreBlank used (payload_of (frame_at new.frames f).contents)
unused_blank f used old new few cleared =
    let contents : List ℕ = (frame_at new.frames f).contents in
    let P : List (List ℕ) → Type 0 = λ l. AllByRecursion IsBlank l in
    subst P (sym (drop_blocks contents used 1 15)) (all_blank contents (1 + used) (15 - used) (λ c low high. cleared.blank c (omega arith) (omega arith)))

-- a frame whose unused blocks were cleared, whose summary was stored, and that was sealed
pub sealed_is : (f : ℕ) (slots : List Slot) (old cleared stored sealed : Drive) (block : List ℕ) (payload : List (List ℕ)) (s : SummaryFields) → f < length old.frames → length slots ≤ 15
    → IsCleared f (length slots + 1) 16 old cleared
    → stored ≡ with_changed cleared f (with_block (frame_at cleared.frames f) 0 block)
    → block_bytes (frame_at stored.frames f).contents 0 ≡ block
    → ((b : ℕ) → b < 16 → b ≢ 0 → KeepsBlock f b cleared stored)
    → sealed ≡ with_changed stored f (record (frame_at stored.frames f) { phase = Sealed })
    → payload ≡ payload_of (frame_at cleared.frames f).contents
    → s ≡ summary_of f (frame_at cleared.frames f) slots
    → (UnusedAreBlank (length s.roles) payload → SpellsSummary payload block s)
    → IsSealed f slots old sealed
sealed_is f slots old cleared stored sealed block payload s inside few clear changed at others raised is_payload is_s spells =
    let k1 : Frame = with_block (frame_at cleared.frames f) 0 block in
    let k2 : Frame = record (frame_at stored.frames f) { phase = Sealed } in
    let inside1 : f < length cleared.frames = omega (arith, length-alone old cleared f clear.alone) in
    let alone1 : IsAlone f cleared stored = alone cleared stored f k1 inside1 changed in
    let inside2 : f < length stored.frames = omega (arith, length-alone cleared stored f alone1) in
    let is1 : frame_at stored.frames f ≡ k1 = ap (λ (d : Drive). frame_at d.frames f) changed ∙ put_here cleared f k1 inside1 in
    let is2 : frame_at sealed.frames f ≡ k2 = ap (λ (d : Drive). frame_at d.frames f) raised ∙ put_here stored f k2 inside2 in
    let contents : (frame_at sealed.frames f).contents ≡ (frame_at stored.frames f).contents = ap (λ (k : Frame). k.contents) is2 in
    let generation : (frame_at sealed.frames f).generation ≡ (frame_at cleared.frames f).generation = ap (λ (k : Frame). k.generation) is2 ∙ ap (λ (k : Frame). k.generation) is1 in
    let keeps : (b : ℕ) → 1 ≤ b → b < 16 → block_bytes (frame_at sealed.frames f).contents b ≡ block_bytes (frame_at cleared.frames f).contents b =
    λ b low high. ap (λ (l : List ℕ). block_bytes l b) contents ∙ others b high (λ (e : b ≡ 0). omega arith) in
    let paid : payload ≡ payload_of (frame_at sealed.frames f).contents =
    is_payload ∙ sym (blocks_same (frame_at sealed.frames f).contents (frame_at cleared.frames f).contents 1 15 (λ c low high. keeps c low (omega arith))) in
    let zeroth : block ≡ block_bytes (frame_at sealed.frames f).contents 0 = sym (ap (λ (l : List ℕ). block_bytes l 0) contents ∙ at) in
    let named : s ≡ summary_of f (frame_at sealed.frames f) slots =
    is_s ∙ ap (λ (g : ℕ). record { frame = f; generation = g; roles = roles_of slots }) (sym generation) in
    let count : length s.roles ≡ length slots = ap (λ (x : SummaryFields). length x.roles) is_s ∙ length-map slots (λ (slot : Slot). slot.role) in
    let U : ℕ → Type 0 = λ n. UnusedAreBlank n payload in
    let V : List (List ℕ) → Type 0 = λ l. UnusedAreBlank (length slots) l in
    let blank : UnusedAreBlank (length s.roles) payload = subst U (sym count) (subst V (sym is_payload) (unused_blank f (length slots) old cleared few clear)) in
    let A : List (List ℕ) → Type 0 = λ l. SpellsSummary l block s in
    let B : List ℕ → Type 0 = λ x. SpellsSummary (payload_of (frame_at sealed.frames f).contents) x s in
    let C : SummaryFields → Type 0 = λ x. SpellsSummary (payload_of (frame_at sealed.frames f).contents) (block_bytes (frame_at sealed.frames f).contents 0) x in
    record {
      alone = alone_then old stored sealed f (alone_then old cleared stored f clear.alone alone1) (alone stored sealed f k2 inside2 raised);
      phase = ap (λ (k : Frame). k.phase) is2;
      generation = generation ∙ clear.generation;
      used = λ b low high. keeps b low (omega arith) ∙ clear.before b (omega arith);
      summed = subst C named (subst B zeroth (subst A paid (spells blank)));
    }
