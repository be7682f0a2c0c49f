-- Frames one after the other, as loops go over them.
use Rattle.std.proofs.Common.{◌≡◌, ◌≢◌, ℕ, zero, suc, ◌+◌, ◌-◌, ◌*◌, ◌<◌, ◌≤◌, List, Bool, true, false, length, drop, refl, sym, ap, ◌∙◌, arith, length-drop, drop-drop}
use Rattle.std.specs.Prelude.{if◌then◌else◌, ◌==◌}
use Rattle.std.specs.Int.{w64}
use Rattle.image_parts.specs.Header.{number_in}
use Rattle.image_parts.specs.Frames.{state_of, contents_length, frame_length, frames_in, frames_length}

length_more : (count : ℕ) (bytes : List ℕ) → count ≢ 0 → frames_length count bytes ≡ frame_length bytes + frames_length (count - 1) (drop (frame_length bytes) bytes)
length_more zero bytes some = absurd (some refl)
length_more (suc n) bytes some = let k : suc n - 1 ≡ n = omega arith in rw k refl

-- after the first frame the others fit what is left
pub rest_fits : (count : ℕ) (bytes rest : List ℕ) → count ≢ 0 → frames_length count bytes ≤ length bytes → rest ≡ drop (frame_length bytes) bytes → frames_length (count - 1) rest ≤ length rest
rest_fits count bytes rest some fits is =
    let more = length_more count bytes some in
    rw is (omega (arith, fits, more, length-drop (frame_length bytes) bytes))

-- this many of the frames were passed, and the others are here
pub record Passed (count i : ℕ) (bytes rest : List ℕ) : Type 0 where
  pub total : frames_length count bytes + length rest ≡ frames_length (count - i) rest + length bytes
  pub behind : drop (frames_length (count - i) rest) rest ≡ drop (frames_length count bytes) bytes

pub passed_none : (count : ℕ) (bytes : List ℕ) → Passed count 0 bytes bytes
passed_none count bytes = let k : count - 0 ≡ count = omega arith in record { total = rw k refl; behind = rw k refl }

pub passed_one : (count i : ℕ) (bytes rest after : List ℕ) → i < count → Passed count i bytes rest → after ≡ drop (frame_length rest) rest → frame_length rest ≤ length rest → Passed count (i + 1) bytes after
passed_one count i bytes rest after lt p is fits =
    let left : count - (i + 1) ≡ count - i - 1 = omega arith in
    let some : count - i ≢ 0 = λ e. omega (arith, e) in
    let more = length_more (count - i) rest some in
    let len : length after + frame_length rest ≡ length rest = rw is (omega (arith, fits, length-drop (frame_length rest) rest)) in
    let later : frames_length (count - i - 1) after ≡ frames_length (count - i - 1) (drop (frame_length rest) rest) = ap (frames_length (count - i - 1)) is in
    let at : drop (frames_length (count - i - 1) after) after ≡ drop (frames_length (count - i) rest) rest =
    rw (is, more) (drop-drop (frames_length (count - i - 1) (drop (frame_length rest) rest)) (frame_length rest) rest) in
    record { total = rw left (omega (arith, p.total, more, len, later)); behind = rw left (at ∙ p.behind) }

-- where the next frame isn't whole, the frames aren't
pub passed_short : (count i : ℕ) (bytes rest : List ℕ) → i < count → Passed count i bytes rest → length rest < frame_length rest → length bytes < frames_length count bytes
passed_short count i bytes rest lt p short =
    let some : count - i ≢ 0 = λ e. omega (arith, e) in
    let more = length_more (count - i) rest some in
    omega (arith, p.total, more, short)

pub passed_all : (count i : ℕ) (bytes rest : List ℕ) → count ≤ i → Passed count i bytes rest → (rest ≡ drop (frames_length count bytes) bytes) × (frames_length count bytes ≤ length bytes)
passed_all count i bytes rest le p =
    let none : count - i ≡ 0 = omega arith in
    let end : frames_length (count - i) rest ≡ 0 = rw none refl in
    let here : drop (frames_length (count - i) rest) rest ≡ rest = rw end refl in
    (sym here ∙ p.behind, omega (arith, p.total, end))

pub frames_count : (count : ℕ) (bytes : List ℕ) → length (frames_in count bytes) ≡ count
frames_count zero bytes = refl
frames_count (suc n) bytes = omega (arith, frames_count n (drop (frame_length bytes) bytes))

-- ---- how many bytes frames have at most

most_of : (is_free : Bool) → (if is_free then 0 else 8192) ≤ 8192
most_of true = omega arith
most_of false = omega arith

contents_most : (word : ℕ) → contents_length word ≤ 8192
unfolding contents_length
contents_most word = most_of (state_of word == 0)

pub frames_most : (count : ℕ) (bytes : List ℕ) → frames_length count bytes ≤ 8 * count + 8192 * count
frames_most zero bytes = omega arith
frames_most (suc n) bytes = omega (arith, contents_most (number_in w64 bytes), frames_most n (drop (frame_length bytes) bytes))
