-- The blocks of a frame as they are saved: read one by one, and what they encode.
use Rattle.std.proofs.Common.{◌≡◌, ◌≢◌, inl, inr, ◌⊎◌, ℕ, zero, suc, ◌+◌, ◌<◌, ◌≤◌, List, [], ◌∷◌, ◌++◌, length, take, drop, set, get_or, replicate, refl, sym, ap, subst, ◌∙◌, add-one, arith}
use Rattle.std.specs.List.{AllByRecursion}
use Rattle.std.proofs.lemmas.List.{take_more_set, length-map, get_or-replicate, drop_all, append-nil}
use borrow.Rule.Slice.PartMut.{put_mid}
use Rattle.codec.specs.Fields.{zeros}
use Rattle.codec.specs.Summary.{SummaryFields, IsBlank, UnusedAreBlank, SpellsSummary}
use Rattle.segment_word.specs.Frames.{Phase, Free, Open, Sealed, Draining, Frame, code_of}
use Rattle.segment_word.specs.Layout.{block_bytes}
use Rattle.segment_table.specs.declared.slots.Slot.{Slot}
use Rattle.segment_table.specs.Sealing.{blocks_from, payload_of, summary_of, IsFit}
use Rattle.segment_table.proofs.Clearing.{blocks_from-suc}

-- the block of that number among those that were read
pub from_at : (contents : List ℕ) (b n j : ℕ) → j < n → get_or (blocks_from contents b n) j [] ≡ block_bytes contents (b + j)
unfolding blocks_from
from_at contents b zero j h = absurd (omega arith)
from_at contents b (suc n) zero h = ap (λ (m : ℕ). block_bytes contents m) (omega arith)
from_at contents b (suc n) (suc j) h = from_at contents (b + 1) n j (omega arith) ∙ ap (λ (m : ℕ). block_bytes contents m) (omega arith)

-- all blocks but the first are the payload
pub behind_first : (contents : List ℕ) → drop 1 (blocks_from contents 0 16) ≡ payload_of contents
unfolding blocks_from
behind_first contents = refl

-- one block more was read, from the first on
pub saved_more : (contents : List ℕ) (blocks : List (List ℕ)) (i : ℕ) (block : List ℕ) → i < length blocks → take i blocks ≡ blocks_from contents 0 i → block ≡ block_bytes contents i
    → take (i + 1) (set blocks i block) ≡ blocks_from contents 0 (i + 1)
saved_more contents blocks i block inside sofar is =
    take_more_set blocks i block inside
    ∙ ap (λ (l : List (List ℕ)). l ++ block ∷ []) sofar
    ∙ ap (λ (x : List ℕ). blocks_from contents 0 i ++ x ∷ []) (is ∙ ap (λ (m : ℕ). block_bytes contents m) (omega arith))
    ∙ sym (ap (λ (n : ℕ). blocks_from contents 0 n) (add-one i) ∙ blocks_from-suc contents 0 i)

pub saved_none : (contents : List ℕ) → [] ≡ blocks_from contents 0 0
unfolding blocks_from
saved_none contents = refl

-- what holds of each element from one on holds of all after the ones before
behind : (P : List ℕ → Type 0) (l : List (List ℕ)) (n : ℕ) → ((j : ℕ) → n ≤ j → j < length l → P (get_or l j [])) → AllByRecursion P (drop n l)
behind P [] zero h = tt
behind P [] (suc n) h = tt
behind P (x ∷ l) zero h = (h 0 (omega arith) (omega arith), behind P l 0 (λ j low high. h (suc j) (omega arith) (omega arith)))
behind P (x ∷ l) (suc n) h = behind P l n (λ j low high. h (suc j) (omega arith) (omega arith))

pub unused_after : (l : List (List ℕ)) (n : ℕ) → length l ≡ 15 → ((b : ℕ) → n ≤ b → b < 15 → IsBlank (get_or l b [])) → UnusedAreBlank n l
unused_after l n long blank = behind IsBlank l n (λ j low high. blank j low (omega arith))

phase_cases : (p : Phase) → (p ≡ Free) ⊎ ((p ≡ Open) ⊎ (2 ≤ code_of p))
phase_cases Free = inl refl
phase_cases Open = inr (inl refl)
phase_cases Sealed = inr (inr (omega arith))
phase_cases Draining = inr (inr (omega arith))

-- a frame that isn't free and isn't open has its summary
pub others_are_summed : (p : Phase) → 0 < code_of p → p ≢ Open → 2 ≤ code_of p
others_are_summed p some ne = elim (phase_cases p) [
  | inl e ↦ (let none : code_of p ≡ 0 = ap code_of e in omega arith)
  | inr (inl e) ↦ absurd (ne e)
  | inr (inr h) ↦ h
]

-- before any was read all are zeros
pub all_zeros : (b : ℕ) → b < 15 → IsBlank (get_or (replicate 15 (replicate 512 0)) b [])
unfolding zeros
all_zeros b low = get_or-replicate 15 b (replicate 512 0) [] low

-- A frame's blocks, of which these are used: its summary in front of a payload of which the unused blocks are zeros.
pub spelled_as : (f : ℕ) (k : Frame) (slots : List Slot) (blocks payload : List (List ℕ)) (block : List ℕ) (s : SummaryFields) → blocks ≡ block ∷ payload → s ≡ summary_of f k slots → UnusedAreBlank (length slots) payload
    → (UnusedAreBlank (length s.roles) payload → SpellsSummary payload block s) → SpellsSummary (drop 1 blocks) (get_or blocks 0 []) (summary_of f k slots)
spelled_as f k slots blocks payload block s are is blank spells =
    let count : length s.roles ≡ length slots = ap (λ (x : SummaryFields). length x.roles) is ∙ length-map slots (λ (slot : Slot). slot.role) in
    let U : ℕ → Type 0 = λ n. UnusedAreBlank n payload in
    let A : List (List ℕ) → Type 0 = λ l. SpellsSummary (drop 1 l) (get_or l 0 []) (summary_of f k slots) in
    let B : SummaryFields → Type 0 = λ x. SpellsSummary payload block x in
    subst A (sym are) (subst B is (spells (subst U (sym count) blank)))

-- a list gets a new first element, and others after it
pub written : (n : ℕ) (blocks payload : List (List ℕ)) (block : List ℕ) → length blocks ≡ n + 1 → length payload ≡ n → put_mid 1 n (set blocks 0 block) payload ≡ block ∷ payload
written n [] payload block long same = absurd (omega arith)
written n (x ∷ blocks) payload block long same =
    let past : length blocks ≤ n = omega arith in
    ap (λ (l : List (List ℕ)). block ∷ (payload ++ l)) (drop_all n blocks past) ∙ ap (λ (l : List (List ℕ)). block ∷ l) (append-nil payload)

-- What all 16 blocks of a frame are that isn't free and isn't open.
pub record AreSaved (f : ℕ) (k : Frame) (slots : List Slot) (blocks : List (List ℕ)) : Type 0 where
  pub spelled : SpellsSummary (drop 1 blocks) (get_or blocks 0 []) (summary_of f k slots)
  pub whole : (b : ℕ) → b < 16 → get_or blocks b [] ≡ block_bytes k.contents b
  pub few : length slots ≤ 15

pub all_saved : (f : ℕ) (k : Frame) (slots : List Slot) (blocks : List (List ℕ)) → IsFit f k slots → 0 < code_of k.phase → k.phase ≢ Open → blocks ≡ blocks_from k.contents 0 16 → AreSaved f k slots blocks
all_saved f k slots blocks fit some ne are =
    let whole : (b : ℕ) → b < 16 → get_or blocks b [] ≡ block_bytes k.contents b = λ b low. ap (λ (l : List (List ℕ)). get_or l b []) are ∙ from_at k.contents 0 16 b low ∙ ap (λ (n : ℕ). block_bytes k.contents n) (omega arith) in
    let A : List (List ℕ) → Type 0 = λ l. SpellsSummary l (get_or blocks 0 []) (summary_of f k slots) in
    let B : List ℕ → Type 0 = λ x. SpellsSummary (payload_of k.contents) x (summary_of f k slots) in
    record {
      spelled = subst A (sym (ap (drop 1) are ∙ behind_first k.contents)) (subst B (sym (whole 0 (omega arith))) (fit.summed (others_are_summed k.phase some ne)));
      whole = whole;
      few = fit.few;
    }
