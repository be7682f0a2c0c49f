-- Zeros are stored in a frame's blocks one by one, and its blocks are read one by one.
use Rattle.std.proofs.Common.{◌≡◌, ◌≢◌, inl, inr, ℕ, zero, suc, ◌+◌, ◌<◌, ◌≤◌, List, [], ◌∷◌, ◌++◌, length, take, set, replicate, refl, sym, ap, ◌∙◌, add-one, arith}
use Rattle.std.proofs.lemmas.List.{take_more_set}
use Rattle.std.proofs.lemmas.Bool.{cases_eq}
use Rattle.codec.specs.Fields.{zeros}
use Rattle.segment_word.specs.Frames.{Frame}
use Rattle.segment_word.specs.Layout.{frame_at, block_bytes, with_block}
use Rattle.segment_word.specs.Handles.{Drive, with_changed}
use Rattle.segment_table.specs.Sealing.{blocks_from}
use Rattle.segment_table.specs.Changes.{KeepsBlock, IsCleared}
use Rattle.segment_table.proofs.Alone.{put_here, unchanged, alone, alone_then, length-alone}

pub cleared_none : (f first end : ℕ) (d : Drive) → first ≡ end → IsCleared f first end d d
cleared_none f first end d e = record {
  alone = unchanged d f;
  phase = refl;
  generation = refl;
  before = λ b h. refl;
  after = λ b h g. refl;
  blank = λ b h g. absurd (omega arith);
}

pub cleared_more : (f first end : ℕ) (old mid new : Drive) (bytes : List ℕ) → f < length old.frames → first ≤ end → end < 16 → IsCleared f first end old mid
    → new ≡ with_changed mid f (with_block (frame_at mid.frames f) end bytes)
    → block_bytes (frame_at new.frames f).contents end ≡ bytes
    → ((b : ℕ) → b < 16 → b ≢ end → KeepsBlock f b mid new)
    → bytes ≡ replicate 512 0
    → IsCleared f first (end + 1) old new
unfolding zeros
cleared_more f first end old mid new bytes inside order low c changed stored others blank =
    let k : Frame = with_block (frame_at mid.frames f) end bytes in
    let within : f < length mid.frames = omega (arith, length-alone old mid f c.alone) in
    let is : frame_at new.frames f ≡ k = ap (λ (d : Drive). frame_at d.frames f) changed ∙ put_here mid f k within in
    record {
      alone = alone_then old mid new f c.alone (alone mid new f k within changed);
      phase = ap (λ (x : Frame). x.phase) is ∙ c.phase;
      generation = ap (λ (x : Frame). x.generation) is ∙ c.generation;
      before = λ b h. others b (omega arith) (λ (e : b ≡ end). omega arith) ∙ c.before b h;
      after = λ b h g. others b g (λ (e : b ≡ end). omega arith) ∙ c.after b (omega arith) g;
      blank = λ b h g. elim (cases_eq b end) [
        | inl e ↦ ap (λ (n : ℕ). block_bytes (frame_at new.frames f).contents n) e ∙ stored ∙ blank
        | inr ne ↦ others b (omega arith) ne ∙ c.blank b h (elim (cases_eq b end) [ inl e ↦ absurd (ne e) | inr apart ↦ omega arith ])
      ];
    }

pub blocks_from-suc : (contents : List ℕ) (b n : ℕ) → blocks_from contents b (suc n) ≡ blocks_from contents b n ++ block_bytes contents (b + n) ∷ []
unfolding blocks_from
blocks_from-suc contents b zero = ap (λ (m : ℕ). block_bytes contents m ∷ []) (omega arith)
blocks_from-suc contents b (suc n) =
    ap (λ (l : List (List ℕ)). block_bytes contents b ∷ l) (blocks_from-suc contents (b + 1) n ∙ ap (λ (m : ℕ). blocks_from contents (b + 1) n ++ block_bytes contents m ∷ []) (omega arith))

-- one block more was read
pub read_more : (contents : List ℕ) (blocks : List (List ℕ)) (i : ℕ) (block : List ℕ) → i < length blocks → take i blocks ≡ blocks_from contents 1 i → block ≡ block_bytes contents (i + 1)
    → take (i + 1) (set blocks i block) ≡ blocks_from contents 1 (i + 1)
read_more contents blocks i block inside sofar is =
    take_more_set blocks i block inside
    ∙ ap (λ (l : List (List ℕ)). l ++ block ∷ []) sofar
    ∙ ap (λ (x : List ℕ). blocks_from contents 1 i ++ x ∷ []) (is ∙ ap (λ (m : ℕ). block_bytes contents m) (omega arith))
    ∙ sym (ap (λ (n : ℕ). blocks_from contents 1 n) (add-one i) ∙ blocks_from-suc contents 1 i)

pub read_none : (contents : List ℕ) → [] ≡ blocks_from contents 1 0
unfolding blocks_from
read_none contents = refl
