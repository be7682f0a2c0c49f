-- Whether a block of a frame is listed as a part of a checkpoint is seen of the summary that is read of it.
use Rattle.std.proofs.Common.{◌≡◌, ◌≢◌, ℕ, Bool, true, false, List, [], sym, ap, ◌∙◌, drop}
use Rattle.std.specs.Prelude.{MatchBool, slice_index_or}
use Rattle.std.proofs.lemmas.Bool.{false≢true}
use Rattle.codec.specs.Summary.{SummaryFields, SpellsSummary, has_no_parts}
use Rattle.image_parts.specs.Frames.{FrameFields, state_of, blocks_of, HasNoParts}

-- no two summaries share an encoding
abbrev pub OneSummary : Type 0
OneSummary = (payload : List (List ℕ)) (block : List ℕ) (s t : SummaryFields) → SpellsSummary payload block s → SpellsSummary payload block t → s ≡ t

pub free_without : (f : FrameFields) → state_of f.word ≡ 0 → HasNoParts f
free_without f free = λ used s spells. absurd (used free)

pub seen_of_used : OneSummary → (f : FrameFields) (s : SummaryFields) (b : Bool) → (state_of f.word ≢ 0) × SpellsSummary (drop 1 (blocks_of f.contents)) (slice_index_or (blocks_of f.contents) 0 []) s → b ≡ has_no_parts s → MatchBool b (HasNoParts f) (HasNoParts f → ⊥)
seen_of_used one f s true read is = λ used t spells. ap has_no_parts (sym (one (drop 1 (blocks_of f.contents)) (slice_index_or (blocks_of f.contents) 0 []) s t read.1 spells)) ∙ sym is
seen_of_used one f s false read is = λ none. false≢true (is ∙ none read.0 s read.1)
