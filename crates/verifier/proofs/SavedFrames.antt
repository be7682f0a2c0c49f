-- The frames of a table as they are saved: what a frame's word and blocks tell, and frames added one by one.
use Rattle.std.proofs.Common.{◌≡◌, ◌≢◌, ℕ, zero, suc, ◌+◌, ◌-◌, ◌*◌, ◌/◌, ◌%◌, ◌^◌, ◌<◌, ◌≤◌, Bool, true, false, cond, eqb, List, [], ◌∷◌, ◌++◌, length, get_or, take, drop, refl, sym, ap, subst, ◌∙◌, inl, inr, append_assoc, length-append, arith}
use Rattle.std.specs.List.{count_by, concat, flat_map, AllByRecursion}
use Rattle.std.specs.Int.{w64}
use Rattle.std.specs.Simd.{first_chunks}
use Rattle.std.proofs.lemmas.Bool.{cases_eq, cases_lt, eq-eqb, ne_eqb}
use Rattle.std.proofs.lemmas.List.{append-nil, length-map, get_or_past, take_all, drop_all, take-append-le, drop-append-le, get_or_append_left, get_or-append_right, get_or-append-add}
use Rattle.std.proofs.lemmas.List.Concat.{flat_map-append}
use Rattle.std.proofs.lemmas.List.Sums.{sum_by-cons}
use Rattle.codec.specs.Fields.{number}
use Rattle.codec.specs.Summary.{SummaryFields, KeepsSummaryRules, SpellsSummary, UnusedAreBlank, summary_spelling}
use Rattle.image_parts.specs.Header.{AreBytes}
use Rattle.image_parts.specs.Frames.{FrameFields, IsFrame, state_of, readers_of, generation_of, contents_length, blocks_of, frame_bytes, KeepsFrameRules, EachKeepsFrameRules, is_open}
use Rattle.segment_word.specs.Frames.{Phase, Free, Open, Sealed, Draining, Frame, code_of, is_open as phase_is_open}
use Rattle.segment_word.specs.Layout.{word_of, phase_of, frame_at, block_bytes}
use Rattle.segment_word.proofs.Words.{code_below_four}
use Rattle.segment_word.proofs.UnreadWords.{phase_of-code_of}
use Rattle.codec.proofs.Zeros.{zeros_length}
use Rattle.segment_table.specs.declared.slots.Slot.{Slot}
use Rattle.segment_table.specs.Table.{Table, slots_at}
use Rattle.segment_table.specs.Room.{is_filling, numbers}
use Rattle.segment_table.specs.Sealing.{summary_of, IsFit}
use Rattle.verifier.specs.Tables.{no_part, IsFrameOf}
use Rattle.verifier.specs.SavedFrame.{AddsFrame}
use Rattle.verifier.specs.Saved.{AddsFrames}

-- ---- words

free_code : (p : Phase) → code_of p ≡ 0 → p ≡ Free
free_code Free e = refl
free_code Open e = absurd (omega arith)
free_code Sealed e = absurd (omega arith)
free_code Draining e = absurd (omega arith)

open_code : (p : Phase) → code_of p ≡ 1 → p ≡ Open
open_code Free e = absurd (omega arith)
open_code Open e = refl
open_code Sealed e = absurd (omega arith)
open_code Draining e = absurd (omega arith)

-- What a word tells that counts no reader.
record IsWordOf (k : Frame) (word : ℕ) : Type 0 where
  pub state : state_of word ≡ code_of k.phase
  pub readers : readers_of word ≡ 0
  pub generation : generation_of word ≡ k.generation
  pub range : word < 2 ^ 64

parts_of_word : (code generation word : ℕ) → code < 4 → generation < 2 ^ 32 → word ≡ code + 4 * 0 + 2 ^ 32 * generation → (word % 4 ≡ code) × (word / 4 ≡ 2 ^ 30 * generation) × (word / 2 ^ 32 ≡ generation) × (word < 2 ^ 64)
parts_of_word code generation word few low is = (omega arith, omega arith, omega arith, omega arith)

no_rest : (n generation : ℕ) → n ≡ 2 ^ 30 * generation → n % 2 ^ 30 ≡ 0
no_rest n generation is = omega arith

word_tells : (k : Frame) (word : ℕ) → k.generation < 2 ^ 32 → word ≡ word_of k 0 → IsWordOf k word
word_tells k word low is =
    let few : code_of k.phase < 4 = code_below_four k.phase in
    let parts = parts_of_word (code_of k.phase) k.generation word few low is in
    record { state = parts.0; readers = no_rest (word / 4) k.generation parts.1; generation = parts.2; range = parts.3 }

-- the frame that a word tells isn't free
pub used_code : (k : Frame) (word : ℕ) → k.generation < 2 ^ 32 → word ≡ word_of k 0 → word % 4 ≢ 0 → 0 < code_of k.phase
used_code k word low is ne = let tells : IsWordOf k word = word_tells k word low is in let state : word % 4 ≡ code_of k.phase = tells.state in omega arith

-- ---- blocks

abbrev pub IsBlock : List ℕ → Type 0
IsBlock block = length block ≡ 512

joined_length : (blocks : List (List ℕ)) → AllByRecursion IsBlock blocks → length (concat blocks) ≡ 512 * length blocks
joined_length [] all = refl
joined_length (b ∷ blocks) all =
    let len : length b ≡ 512 = all.0 in
    let more : length (concat blocks) ≡ 512 * length blocks = joined_length blocks all.1 in
    omega (arith, length-append b (concat blocks))

chunks_again : (n : ℕ) (blocks : List (List ℕ)) → AllByRecursion (λ b. length b ≡ n) blocks → first_chunks n (length blocks) (concat blocks) ≡ blocks
chunks_again n [] all = refl
chunks_again n (b ∷ blocks) all =
    let len : length b ≡ n = all.0 in
    let front : take n (b ++ concat blocks) ≡ b = take-append-le n b (concat blocks) (omega arith) ∙ take_all n b (omega arith) in
    let rest : drop n (b ++ concat blocks) ≡ concat blocks = drop-append-le n b (concat blocks) (omega arith) ∙ ap (λ (l : List ℕ). l ++ concat blocks) (drop_all n b (omega arith)) in
    ap (λ (l : List ℕ). l ∷ first_chunks n (length blocks) (drop n (b ++ concat blocks))) front
    ∙ ap (λ (l : List ℕ). b ∷ first_chunks n (length blocks) l) rest
    ∙ ap (λ (l : List (List ℕ)). b ∷ l) (chunks_again n blocks all.1)

-- blocks that were joined are found again
blocks_again : (blocks : List (List ℕ)) → AllByRecursion IsBlock blocks → blocks_of (concat blocks) ≡ blocks
unfolding blocks_of
blocks_again blocks all =
    let len : length (concat blocks) ≡ 512 * length blocks = joined_length blocks all in
    let count : length (concat blocks) / 512 ≡ length blocks = omega arith in
    ap (λ (n : ℕ). first_chunks 512 n (concat blocks)) count ∙ chunks_again 512 blocks all

-- blocks of which the first ones are whole, and the others blank
all_whole : (payload : List (List ℕ)) (used : ℕ) → ((j : ℕ) → j < used → IsBlock (get_or payload j [])) → UnusedAreBlank used payload → AllByRecursion IsBlock payload
all_whole [] used first rest = tt
all_whole (b ∷ payload) zero first rest = (ap length rest.0 ∙ zeros_length 512, all_whole payload zero (λ j h. absurd (omega arith)) rest.1)
all_whole (b ∷ payload) (suc used) first rest = (first 0 (omega arith), all_whole payload used (λ j h. first (suc j) (omega arith)) rest)

-- a frame's blocks have 512 bytes each
blocks_whole : (blocks : List (List ℕ)) (s : SummaryFields) (used : ℕ) → length blocks ≡ 16 → length s.roles ≡ used → IsBlock (summary_spelling s (drop 1 blocks)) → SpellsSummary (drop 1 blocks) (get_or blocks 0 []) s
    → ((b : ℕ) → 1 ≤ b → b ≤ used → IsBlock (get_or blocks b [])) → AllByRecursion IsBlock blocks
blocks_whole [] s used count parts head spelled kept = absurd (omega arith)
blocks_whole (block ∷ payload) s used count parts head spelled kept =
    let U : ℕ → Type 0 = λ n. UnusedAreBlank n payload in
    (ap length spelled.1.1 ∙ head, all_whole payload used (λ j h. kept (suc j) (omega arith) (omega arith)) (subst U parts spelled.1.0))

-- what is at the end of a list of bytes is bytes
bytes_behind : (before word contents after : List ℕ) → after ≡ before ++ (word ++ contents) → ((i d : ℕ) → i < length after → get_or after i d < 256) → AreBytes contents
bytes_behind before word contents after is bytes i = elim (cases_lt i (length contents)) [
  | inl lt ↦ (let at : get_or after (length before + (length word + i)) 0 ≡ get_or contents i 0 =
      ap (λ (l : List ℕ). get_or l (length before + (length word + i)) 0) is ∙ get_or-append-add before (word ++ contents) (length word + i) 0 ∙ get_or-append-add word contents i 0 in
      let size : length after ≡ length before + (length word + length contents) = ap length is ∙ length-append before (word ++ contents) ∙ ap (λ (n : ℕ). length before + n) (length-append word contents) in
      let low : get_or after (length before + (length word + i)) 0 < 256 = bytes (length before + (length word + i)) 0 (omega arith) in
      subst (λ (n : ℕ). n < 256) at low)
  | inr le ↦ rw (get_or_past contents i 0 le) (omega arith)
]

-- ---- one frame

-- An image's frame that is the table's, and has an encoding and keeps its rules.
record IsSaved (number : ℕ) (f : FrameFields) (k : Frame) (slots : List Slot) : Type 0 where
  pub is : IsFrame f
  pub rules : KeepsFrameRules number f
  pub of : IsFrameOf number f k slots

nothing_behind : (word : ℕ) → state_of word ≡ 0 → contents_length word ≡ 0
unfolding contents_length
nothing_behind word e = ap (λ (b : Bool). cond {A = ℕ} b 0 8192) (eq-eqb (state_of word) 0 e)

blocks_behind : (word : ℕ) → state_of word ≢ 0 → contents_length word ≡ 8192
unfolding contents_length
blocks_behind word ne = ap (λ (b : Bool). cond {A = ℕ} b 0 8192) (ne_eqb (state_of word) 0 ne)

free_saved : (number word : ℕ) (k : Frame) (slots : List Slot) → IsFit number k slots → word ≡ word_of k 0 → word % 4 ≡ 0 → IsSaved number (record { word = word; contents = [] }) k slots
free_saved number word k slots fit is free =
    let tells : IsWordOf k word = word_tells k word fit.lives.1 is in
    let state : word % 4 ≡ 0 = free in
    let code : code_of k.phase ≡ 0 = sym tells.state ∙ free in
    let phase : k.phase ≡ Free = free_code k.phase code in
    record {
      is = record { word = tells.range; contents = sym (nothing_behind word free); bytes = λ i. omega arith };
      rules = record {
        readers = tells.readers;
        least = omega (arith, fit.lives.0, tells.generation);
        most = λ ne. absurd (ne free);
        summary = λ ne. absurd (ne free);
      };
      of = record {
        phase = sym (phase_of-code_of k.phase) ∙ ap phase_of (sym tells.state);
        generation = sym tells.generation;
        free = fit.free;
        summary = λ ne. absurd (ne phase);
        blocks = λ ne. absurd (ne phase);
      };
    }

used_saved : (number word : ℕ) (k : Frame) (slots : List Slot) (blocks : List (List ℕ)) → IsFit number k slots → (k.phase ≡ Open → length slots < 15) → word ≡ word_of k 0 → word % 4 ≢ 0
    → length blocks ≡ 16 → IsBlock (summary_spelling (summary_of number k slots) (drop 1 blocks)) → AreBytes (concat blocks) → KeepsSummaryRules (summary_of number k slots)
    → SpellsSummary (drop 1 blocks) (get_or blocks 0 []) (summary_of number k slots) → ((b : ℕ) → 1 ≤ b → b ≤ length slots → get_or blocks b [] ≡ block_bytes k.contents b)
    → IsSaved number (record { word = word; contents = concat blocks }) k slots
used_saved number word k slots blocks fit filled is used count head bytes keeps spelled kept =
    let parts : length (summary_of number k slots).roles ≡ length slots = length-map slots (λ (slot : Slot). slot.role) in
    let long : AllByRecursion IsBlock blocks = blocks_whole blocks (summary_of number k slots) (length slots) count parts head spelled (λ b low high. ap length (kept b low high) ∙ fit.whole b low high) in
    let tells : IsWordOf k word = word_tells k word fit.lives.1 is in
    let again : blocks_of (concat blocks) ≡ blocks = blocks_again blocks long in
    let len : length (concat blocks) ≡ 512 * length blocks = joined_length blocks long in
    let S : List (List ℕ) → Type 0 = λ l. SpellsSummary (drop 1 l) (get_or l 0 []) (summary_of number k slots) in
    let told : S (blocks_of (concat blocks)) = subst S (sym again) spelled in
    record {
      is = record { word = tells.range; contents = (let all : length (concat blocks) ≡ 8192 = omega arith in all ∙ sym (blocks_behind word used)); bytes = bytes };
      rules = record {
        readers = tells.readers;
        least = omega (arith, fit.lives.0, tells.generation);
        most = λ ne. omega (arith, keeps.most, tells.generation);
        summary = λ ne. record {
          summary = summary_of number k slots;
          frame = refl;
          generation = sym tells.generation;
          spelled = told;
          room = λ e. (let open_frame : k.phase ≡ Open = open_code k.phase (sym tells.state ∙ e) in
              let few : length slots < 15 = filled open_frame in
              omega (arith, length-map slots (λ (slot : Slot). slot.role)));
        };
      };
      of = record {
        phase = sym (phase_of-code_of k.phase) ∙ ap phase_of (sym tells.state);
        generation = sym tells.generation;
        free = fit.free;
        summary = λ ne. told;
        blocks = λ ne b low high. sym (kept b low high) ∙ ap (λ (l : List (List ℕ)). get_or l b []) (sym again);
      };
    }

pub free_added : (t : Table) (n word : ℕ) (before after : List ℕ) → IsFit n (frame_at t.seat.frames n) (slots_at t.slots n) → word ≡ word_of (frame_at t.seat.frames n) 0 → word % 4 ≡ 0
    → after ≡ before ++ (number w64 word ++ []) → AddsFrame t n before after
free_added t n word before after fit is free bytes =
    let saved : IsSaved n (record { word = word; contents = [] }) (frame_at t.seat.frames n) (slots_at t.slots n) = free_saved n word (frame_at t.seat.frames n) (slots_at t.slots n) fit is free in
    record { frame = record { word = word; contents = [] }; is = saved.is; rules = saved.rules; of = saved.of; bytes = bytes }

-- What the 16 blocks of a used frame tell as they are saved.
pub record AreBlocksOf (t : Table) (n : ℕ) (blocks : List (List ℕ)) : Type 0 where
  pub spelled : SpellsSummary (drop 1 blocks) (get_or blocks 0 []) (summary_of n (frame_at t.seat.frames n) (slots_at t.slots n))
  pub kept : (b : ℕ) → 1 ≤ b → b ≤ length (slots_at t.slots n) → get_or blocks b [] ≡ block_bytes (frame_at t.seat.frames n).contents b

pub used_added : (t : Table) (n word : ℕ) (blocks : List (List ℕ)) (before after : List ℕ) → IsFit n (frame_at t.seat.frames n) (slots_at t.slots n)
    → ((frame_at t.seat.frames n).phase ≡ Open → length (slots_at t.slots n) < 15) → word ≡ word_of (frame_at t.seat.frames n) 0 → word % 4 ≢ 0
    → length blocks ≡ 16 → IsBlock (summary_spelling (summary_of n (frame_at t.seat.frames n) (slots_at t.slots n)) (drop 1 blocks)) → ((i d : ℕ) → i < length after → get_or after i d < 256) → KeepsSummaryRules (summary_of n (frame_at t.seat.frames n) (slots_at t.slots n))
    → AreBlocksOf t n blocks → after ≡ before ++ (number w64 word ++ concat blocks) → AddsFrame t n before after
used_added t n word blocks before after fit filled is used count head bytes keeps of added =
    let saved : IsSaved n (record { word = word; contents = concat blocks }) (frame_at t.seat.frames n) (slots_at t.slots n) =
    used_saved n word (frame_at t.seat.frames n) (slots_at t.slots n) blocks fit filled is used count head (bytes_behind before (number w64 word) (concat blocks) after added bytes) keeps of.spelled of.kept in
    record { frame = record { word = word; contents = concat blocks }; is = saved.is; rules = saved.rules; of = saved.of; bytes = added }

-- ---- all frames

-- The first n frames of a table are added to bytes.
pub record AreAdded (t : Table) (n : ℕ) (before after : List ℕ) : Type 0 where
  pub frames : List FrameFields
  pub count : length frames ≡ n
  pub is : AllByRecursion IsFrame frames
  pub rules : EachKeepsFrameRules 0 frames
  pub each : (i : ℕ) → i < n → IsFrameOf i (get_or frames i no_part) (frame_at t.seat.frames i) (slots_at t.slots i)
  pub bytes : after ≡ before ++ flat_map frame_bytes frames

pub none_added : (t : Table) (before : List ℕ) → AreAdded t 0 before before
none_added t before = record { frames = []; count = refl; is = tt; rules = tt; each = λ i h. absurd (omega arith); bytes = sym (append-nil before) }

all_more : (P : FrameFields → Type 0) (frames : List FrameFields) (f : FrameFields) → AllByRecursion P frames → P f → AllByRecursion P (frames ++ f ∷ [])
all_more P [] f all one = (one, tt)
all_more P (x ∷ frames) f all one = (all.0, all_more P frames f all.1 one)

rules_more : (m n : ℕ) (frames : List FrameFields) (f : FrameFields) → EachKeepsFrameRules m frames → n ≡ m + length frames → KeepsFrameRules n f → EachKeepsFrameRules m (frames ++ f ∷ [])
rules_more m n [] f all is one = (let K : ℕ → Type 0 = λ i. KeepsFrameRules i f in subst K (omega arith) one, tt)
rules_more m n (x ∷ frames) f all is one = (all.0, rules_more (m + 1) n frames f all.1 (omega arith) one)

pub one_added : (t : Table) (n : ℕ) (before old new : List ℕ) → AreAdded t n before old → AddsFrame t n old new → AreAdded t (n + 1) before new
one_added t n before old new were one =
    let frames = were.frames in
    let f = one.frame in
    record {
      frames = frames ++ f ∷ [];
      count = omega (arith, length-append frames (f ∷ []), were.count);
      is = all_more IsFrame frames f were.is one.is;
      rules = rules_more 0 n frames f were.rules (omega (arith, were.count)) one.rules;
      each = λ i h. elim (cases_eq i n) [
        | inl at ↦ (let first : i - n ≡ 0 = omega arith in
            let there : get_or (frames ++ f ∷ []) i no_part ≡ f = get_or-append_right frames (f ∷ []) n i no_part were.count (omega arith) ∙ ap (λ (j : ℕ). get_or (f ∷ []) j no_part) first in
            let F : ℕ → Type 0 = λ j. IsFrameOf j f (frame_at t.seat.frames j) (slots_at t.slots j) in
            let G : FrameFields → Type 0 = λ x. IsFrameOf i x (frame_at t.seat.frames i) (slots_at t.slots i) in
            subst G (sym there) (subst F (sym at) one.of))
        | inr ne ↦ (let before_it : i < n = omega arith in
            let G : FrameFields → Type 0 = λ x. IsFrameOf i x (frame_at t.seat.frames i) (slots_at t.slots i) in
            subst G (sym (get_or_append_left frames (f ∷ []) no_part i (omega (arith, were.count)))) (were.each i before_it))
      ];
      bytes =
          one.bytes ∙ ap (λ (l : List ℕ). l ++ frame_bytes f) were.bytes ∙ append_assoc before (flat_map frame_bytes frames) (frame_bytes f)
          ∙ ap (λ (l : List ℕ). before ++ (flat_map frame_bytes frames ++ l)) (sym (append-nil (frame_bytes f)))
          ∙ ap (λ (l : List ℕ). before ++ l) (sym (flat_map-append frame_bytes frames (f ∷ [])));
    }

-- ---- at most one is open

by_others : (c : Bool) → phase_is_open (cond c Sealed Draining) ≡ false
by_others true = refl
by_others false = refl

open_alike : (code : ℕ) → eqb code 1 ≡ phase_is_open (phase_of code)
open_alike code = elim (cases_eq code 0) [
  | inl e ↦ rw e refl
  | inr used ↦ elim (cases_eq code 1) [
    | inl e ↦ rw e refl
    | inr ne ↦ rw (ne_eqb code 0 used, ne_eqb code 1 ne) (sym (by_others (eqb code 2)))
  ]
]

listed_or_not : (b : Bool) (n : ℕ) (xs : List ℕ) → length (cond b (n ∷ xs) xs) ≡ cond b 1 0 + length xs
listed_or_not true n xs = omega arith
listed_or_not false n xs = omega arith

counted_alike : (fs : List FrameFields) (ks : List Frame) (m : ℕ) → length ks ≡ length fs → ((i : ℕ) → i < length fs → is_open (get_or fs i no_part) ≡ is_filling (frame_at ks i)) → count_by is_open fs ≡ length (numbers is_filling m ks)
counted_alike [] [] m same each = refl
counted_alike [] (k ∷ ks) m same each = absurd (omega arith)
counted_alike (f ∷ fs) [] m same each = absurd (omega arith)
counted_alike (f ∷ fs) (k ∷ ks) m same each =
    let here : is_open f ≡ is_filling k = each 0 (omega arith) in
    let more : count_by is_open fs ≡ length (numbers is_filling (m + 1) ks) = counted_alike fs ks (m + 1) (omega arith) (λ i h. each (suc i) (omega arith)) in
    sum_by-cons (λ x. cond (is_open x) 1 0) f fs
    ∙ ap (λ (b : Bool). cond b 1 0 + count_by is_open fs) here
    ∙ ap (λ (n : ℕ). cond (is_filling k) 1 0 + n) more
    ∙ sym (listed_or_not (is_filling k) m (numbers is_filling (m + 1) ks))

pub all_added : (t : Table) (n : ℕ) (before after : List ℕ) → AreAdded t n before after → n ≡ length t.seat.frames → length t.slots ≡ length t.seat.frames → length (numbers is_filling 0 t.seat.frames) ≤ 1 → AddsFrames t before after
all_added t n before after are all slots one =
    let alike : (i : ℕ) → i < length are.frames → is_open (get_or are.frames i no_part) ≡ is_filling (frame_at t.seat.frames i) =
    λ i h. open_alike (state_of (get_or are.frames i no_part).word) ∙ ap phase_is_open (sym (are.each i (omega (arith, are.count))).phase) in
    let counted : count_by is_open are.frames ≡ length (numbers is_filling 0 t.seat.frames) = counted_alike are.frames t.seat.frames 0 (omega (arith, are.count)) alike in
    record {
      frames = are.frames;
      is = are.is;
      rules = record { each = are.rules; open_one = omega arith };
      table = record { frame_count = omega (arith, are.count); slot_count = omega (arith, are.count); each = λ i h. are.each i (omega (arith, are.count)) };
      bytes = are.bytes;
    }
