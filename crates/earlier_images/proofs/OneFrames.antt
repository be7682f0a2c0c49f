-- Frames are read in one way.
use Rattle.std.proofs.Common.{◌≡◌, ℕ, List, [], ◌∷◌, refl, sym, ap, ◌∙◌}
use Rattle.codec.specs.Summary.{SummaryFields, SpellsSummary}
use Rattle.image_parts.specs.Frames.{FrameFields, IsReadOf}
use Rattle.image_parts.specs.declared.frame_rules.FrameRead.{FrameRead}
use Rattle.image_parts.specs.declared.frame_rules.FrameRead.TheVariants.{Free, Used}
use Rattle.earlier_images.specs.declared.frames.EarlierFrame.{EarlierFrame}
use Rattle.earlier_images.specs.Used.{AreFramesOf}

-- what a_summary_has_one_encoding says of two summaries
abbrev pub OneSummaryASpelling : Type 0
OneSummaryASpelling = (payload : List (List ℕ)) (block : List ℕ) (s t : SummaryFields) → SpellsSummary payload block s → SpellsSummary payload block t → s ≡ t

same_read : OneSummaryASpelling → (f : FrameFields) (a b : FrameRead) → IsReadOf f a → IsReadOf f b → a ≡ b
same_read one f Free Free x y = refl
same_read one f Free (Used t) x y = absurd (y.0 x)
same_read one f (Used s) Free x y = absurd (x.0 y)
same_read one f (Used s) (Used t) x y = ap Used (one _ _ s t x.1 y.1)

abbrev frame_with : FrameFields → FrameRead → EarlierFrame
frame_with f read = record { part = f; read = read }

same_frame : OneSummaryASpelling → (f : FrameFields) (k m : EarlierFrame) → (k.part ≡ f) × IsReadOf f k.read → (m.part ≡ f) × IsReadOf f m.read → k ≡ m
same_frame one f k m x y = ap (λ (p : FrameFields). frame_with p k.read) (x.0 ∙ sym y.0) ∙ ap (λ (r : FrameRead). frame_with m.part r) (same_read one f k.read m.read x.1 y.1)

pub same_frames : OneSummaryASpelling → (parts : List FrameFields) (frames others : List EarlierFrame) → AreFramesOf parts frames → AreFramesOf parts others → frames ≡ others
same_frames one [] [] [] x y = refl
same_frames one [] [] (m ∷ others) x y = absurd y
same_frames one [] (k ∷ frames) others x y = absurd x
same_frames one (f ∷ parts) [] others x y = absurd x
same_frames one (f ∷ parts) (k ∷ frames) [] x y = absurd y
same_frames one (f ∷ parts) (k ∷ frames) (m ∷ others) x y =
    ap (λ (h : EarlierFrame). h ∷ frames) (same_frame one f k m x.0 y.0) ∙ ap (λ (l : List EarlierFrame). m ∷ l) (same_frames one parts frames others x.1 y.1)
