-- One frame of a drive changes, and again.
use Rattle.std.proofs.Common.{◌≡◌, ◌≢◌, inl, inr, ℕ, ◌<◌, Bool, List, length, sym, ap, subst, ◌∙◌, set-set}
use Rattle.std.proofs.lemmas.List.{get_or-set_same, get_or-set_other, set-get_or, length-set}
use Rattle.std.proofs.lemmas.Bool.{cases_eq}
use Rattle.segment_word.specs.Frames.{Frame, no_frame}
use Rattle.segment_word.specs.Layout.{frame_at}
use Rattle.segment_word.specs.Handles.{Drive, with_changed}
use Rattle.segment_table.specs.Room.{numbers}
use Rattle.segment_table.specs.Changes.{IsAlone, KeepsGeneration}
use Rattle.segment_table.proofs.Numbers.{numbers_same}

pub put_here : (d : Drive) (f : ℕ) (k : Frame) → f < length d.frames → frame_at (with_changed d f k).frames f ≡ k
put_here d f k h = get_or-set_same d.frames f k no_frame h

pub unchanged : (d : Drive) (f : ℕ) → IsAlone f d d
unchanged d f = ap (λ (l : List Frame). record d { frames = l }) (sym (set-get_or d.frames f no_frame))

pub alone : (old new : Drive) (f : ℕ) (k : Frame) → f < length old.frames → new ≡ with_changed old f k → IsAlone f old new
alone old new f k h e =
    e ∙ ap (λ (x : Frame). with_changed old f x) (sym (ap (λ (d : Drive). frame_at d.frames f) e ∙ put_here old f k h))

pub alone_then : (old mid new : Drive) (f : ℕ) → IsAlone f old mid → IsAlone f mid new → IsAlone f old new
alone_then old mid new f a b =
    b ∙ ap (λ (d : Drive). with_changed d f (frame_at new.frames f)) a
    ∙ ap (λ (l : List Frame). record old { frames = l }) (set-set old.frames f (frame_at mid.frames f) (frame_at new.frames f))

pub length-alone : (old new : Drive) (f : ℕ) → IsAlone f old new → length new.frames ≡ length old.frames
length-alone old new f a = ap (λ (d : Drive). length d.frames) a ∙ length-set old.frames f (frame_at new.frames f)

pub elsewhere : (old new : Drive) (f g : ℕ) → IsAlone f old new → g ≢ f → frame_at new.frames g ≡ frame_at old.frames g
elsewhere old new f g a ne =
    ap (λ (d : Drive). frame_at d.frames g) a ∙ get_or-set_other old.frames f g (frame_at new.frames f) no_frame ne

pub generation_alone : (old new : Drive) (f g : ℕ) → IsAlone f old new → KeepsGeneration f old new → KeepsGeneration g old new
generation_alone old new f g a k = elim (cases_eq g f) [
  | inl e ↦ (let P : ℕ → Type 0 = λ n. KeepsGeneration n old new in subst P (sym e) k)
  | inr ne ↦ ap (λ (x : Frame). x.generation) (elsewhere old new f g a ne)
]

pub numbers_alone : (test : Frame → Bool) (old new : Drive) (f : ℕ) → IsAlone f old new → test (frame_at new.frames f) ≡ test (frame_at old.frames f) → numbers test 0 new.frames ≡ numbers test 0 old.frames
numbers_alone test old new f a t =
    ap (λ (d : Drive). numbers test 0 d.frames) a ∙ numbers_same test 0 f old.frames (frame_at new.frames f) t
