-- Frames that are encoded are read, and what is read of them is encoded.
use Rattle.std.proofs.Common.{◌≡◌, ℕ, zero, suc, ◌+◌, ◌≤◌, List, [], ◌∷◌, ◌++◌, length, take, drop, refl, sym, ap, subst, ◌∙◌, arith, append_assoc, length-append, length-drop}
use Rattle.std.specs.Int.{w64}
use Rattle.std.specs.List.{flat_map, AllByRecursion}
use Rattle.std.proofs.Math.Seq.{take-add}
use Rattle.std.proofs.lemmas.List.{take_at, drop_at, drop-drop, length-take}
use Rattle.std.proofs.lemmas.List.Concat.{flat_map-cons}
use Rattle.lemmas.proofs.Bytes.{bytes_before, bytes_after, IsBytes}
use Rattle.codec.specs.Fields.{number}
use Rattle.codec.proofs.Lengths.{long_length}
use Rattle.image_parts.specs.Header.{number_in}
use Rattle.image_parts.specs.Frames.{FrameFields, IsFrame, contents_length, frame_bytes, frame_in, frame_length, frames_in, frames_length}
use Rattle.image_parts.proofs.NumberLaws.{long_again, long_behind, long_back, long_below}

-- ---- what is read is encoded

frame_back : (bytes : List ℕ) → IsBytes bytes → frame_length bytes ≤ length bytes → frame_bytes (frame_in bytes) ≡ take (frame_length bytes) bytes
frame_back bytes h le =
    let c = contents_length (number_in w64 bytes) in
    rw (long_back bytes h (omega (arith, le))) (sym (take-add 8 c bytes))

pub frames_back : (n : ℕ) (bytes : List ℕ) → IsBytes bytes → frames_length n bytes ≤ length bytes → flat_map frame_bytes (frames_in n bytes) ≡ take (frames_length n bytes) bytes
frames_back zero bytes h le = refl
frames_back (suc n) bytes h le =
    let size = frame_length bytes in
    let rest = drop size bytes in
    let here = frame_back bytes h (omega (arith, le)) in
    let later = frames_back n rest (bytes_after size bytes h) (omega (arith, le, length-drop size bytes)) in
    flat_map-cons frame_bytes (frame_in bytes) (frames_in n rest) ∙ rw (here, later) (sym (take-add size (frames_length n rest) bytes))

frame_is : (bytes : List ℕ) → IsBytes bytes → frame_length bytes ≤ length bytes → IsFrame (frame_in bytes)
frame_is bytes h le =
    let c = contents_length (number_in w64 bytes) in
    record { word = long_below bytes h; contents = omega (arith, le, length-take c (drop 8 bytes), length-drop 8 bytes); bytes = bytes_before c (drop 8 bytes) (bytes_after 8 bytes h) }

pub frames_are : (n : ℕ) (bytes : List ℕ) → IsBytes bytes → frames_length n bytes ≤ length bytes → AllByRecursion IsFrame (frames_in n bytes)
frames_are zero bytes h le = tt
frames_are (suc n) bytes h le =
    let size = frame_length bytes in
    (frame_is bytes h (omega (arith, le)), frames_are n (drop size bytes) (bytes_after size bytes h) (omega (arith, le, length-drop size bytes)))

-- ---- what is encoded is read

-- the bytes begin with a frame, and go on with others
record Begins (bytes : List ℕ) (f : FrameFields) (rest : List ℕ) : Type 0 where
  is : frame_in bytes ≡ f
  size : frame_length bytes ≡ length (frame_bytes f)
  behind : drop (frame_length bytes) bytes ≡ rest

made : ℕ → List ℕ → FrameFields
made word contents = record { word = word; contents = contents }

same : (a b : ℕ) (x y : List ℕ) → a ≡ b → x ≡ y → made a x ≡ made b y
same a b x y p q = cc

begins : (f : FrameFields) (rest : List ℕ) → IsFrame f → Begins (number w64 f.word ++ (f.contents ++ rest)) f rest
unfolding made
begins f rest k =
    let bytes = number w64 f.word ++ (f.contents ++ rest) in
    let word : number_in w64 bytes ≡ f.word = long_again f.word (f.contents ++ rest) k.word in
    let count : contents_length (number_in w64 bytes) ≡ length f.contents = ap contents_length word ∙ sym k.contents in
    let tail : drop 8 bytes ≡ f.contents ++ rest = long_behind f.word (f.contents ++ rest) in
    let contents : take (contents_length (number_in w64 bytes)) (drop 8 bytes) ≡ f.contents = rw (count, tail) (take_at f.contents rest (length f.contents) refl) in
    let behind : drop (contents_length (number_in w64 bytes)) (drop 8 bytes) ≡ rest = rw (count, tail) (drop_at f.contents rest (length f.contents) refl) in
    record {
      is = same (number_in w64 bytes) f.word (take (contents_length (number_in w64 bytes)) (drop 8 bytes)) f.contents word contents;
      size = omega (arith, count, length-append (number w64 f.word) f.contents, long_length f.word);
      behind = sym (drop-drop (contents_length (number_in w64 bytes)) 8 bytes) ∙ behind;
    }

-- this many frames are read, and have this many bytes
pub record AllRead (frames : List FrameFields) (bytes : List ℕ) : Type 0 where
  pub are : frames_in (length frames) bytes ≡ frames
  pub size : frames_length (length frames) bytes ≡ length (flat_map frame_bytes frames)

pub frames_again : (frames : List FrameFields) (rest : List ℕ) → AllByRecursion IsFrame frames → AllRead frames (flat_map frame_bytes frames ++ rest)
frames_again [] rest fits = record { are = refl; size = refl }
frames_again (f ∷ frames) rest fits =
    let tail = flat_map frame_bytes frames ++ rest in
    let bytes = number w64 f.word ++ (f.contents ++ tail) in
    let front = flat_map-cons frame_bytes f frames in
    let regrouped : flat_map frame_bytes (f ∷ frames) ++ rest ≡ bytes =
    ap (λ (b : List ℕ). b ++ rest) front ∙ append_assoc (frame_bytes f) (flat_map frame_bytes frames) rest ∙ append_assoc (number w64 f.word) f.contents tail in
    let b = begins f tail fits.0 in
    let later = frames_again frames rest fits.1 in
    let rest_read : AllRead frames (drop (frame_length bytes) bytes) = subst (AllRead frames) (sym b.behind) later in
    let len : length (flat_map frame_bytes (f ∷ frames)) ≡ length (frame_bytes f) + length (flat_map frame_bytes frames) = ap length front ∙ length-append (frame_bytes f) (flat_map frame_bytes frames) in
    let read : AllRead (f ∷ frames) bytes = record { are = rw (b.is, rest_read.are) refl; size = omega (arith, b.size, rest_read.size, len) } in
    subst (AllRead (f ∷ frames)) (sym regrouped) read
