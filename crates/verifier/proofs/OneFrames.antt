-- The frames of an image are told by the table that they are.
use Rattle.std.proofs.Common.{◌≡◌, ◌≢◌, ℕ, zero, suc, ◌+◌, ◌*◌, ◌/◌, ◌%◌, ◌^◌, ◌<◌, ◌≤◌, Bool, cond, List, [], ◌∷◌, ◌++◌, length, get_or, take, drop, refl, sym, ap, ◌∙◌, inl, inr, arith, length-drop}
use Rattle.std.specs.List.{concat, AllByRecursion}
use Rattle.std.specs.Simd.{first_chunks}
use Rattle.std.proofs.lemmas.Bool.{cases_eq, eq-eqb, ne_eqb}
use Rattle.std.proofs.lemmas.List.{ext_get_or, length-map, take-append-drop}
use Rattle.std.proofs.lemmas.List.Elements.{All-from_recursion, All-get_or}
use Rattle.codec.specs.Summary.{SummaryFields, SpellsSummary, UnusedAreBlank, summary_spelling}
use Rattle.image_parts.specs.Frames.{FrameFields, IsFrame, state_of, readers_of, contents_length, blocks_of, EachKeepsFrameRules, KeepFrameRules}
use Rattle.segment_word.specs.Frames.{Free, Frame, code_of}
use Rattle.segment_word.specs.Layout.{phase_of, frame_at}
use Rattle.segment_word.proofs.Opening.{code_of-phase_of}
use Rattle.segment_table.specs.declared.slots.Slot.{Slot}
use Rattle.segment_table.specs.Table.{Table, slots_at}
use Rattle.segment_table.specs.Sealing.{summary_of}
use Rattle.verifier.specs.Tables.{no_part, IsFrameOf, IsTableOf}

-- ---- words

-- a phase is of one state
one_state : (word other : ℕ) → phase_of (state_of word) ≡ phase_of (state_of other) → state_of word ≡ state_of other
one_state word other same = sym (code_of-phase_of (state_of word) (omega arith)) ∙ ap code_of same ∙ code_of-phase_of (state_of other) (omega arith)

-- state, readers and generation are all that a word tells
one_word : (word other : ℕ) → word % 4 ≡ other % 4 → word / 4 % 2 ^ 30 ≡ other / 4 % 2 ^ 30 → word / 2 ^ 32 ≡ other / 2 ^ 32 → word ≡ other
one_word word other state readers generation = omega arith

-- ---- blocks

chunk_count : (n count : ℕ) (contents : List ℕ) → length (first_chunks n count contents) ≡ count
chunk_count n zero contents = refl
chunk_count n (suc count) contents = ap suc (chunk_count n count (drop n contents))

none_left : (contents : List ℕ) → length contents ≡ 0 → contents ≡ []
none_left [] none = refl
none_left (b ∷ contents) none = absurd (omega arith)

-- contents that were parted in blocks are found again
joined_again : (n count : ℕ) (contents : List ℕ) → length contents ≡ n * count → concat (first_chunks n count contents) ≡ contents
joined_again n zero contents whole = sym (none_left contents (omega arith))
joined_again n (suc count) contents whole =
    let rest : length (drop n contents) ≡ n * count = omega (arith, length-drop n contents) in
    ap (λ (l : List ℕ). take n contents ++ l) (joined_again n count (drop n contents) rest) ∙ take-append-drop n contents

parted : (contents : List ℕ) → length contents ≡ 8192 → blocks_of contents ≡ first_chunks 512 16 contents
unfolding blocks_of
parted contents whole = ap (λ (n : ℕ). first_chunks 512 (n / 512) contents) whole

block_count : (contents : List ℕ) → length contents ≡ 8192 → length (blocks_of contents) ≡ 16
block_count contents whole = ap length (parted contents whole) ∙ chunk_count 512 16 contents

contents_again : (contents : List ℕ) → length contents ≡ 8192 → concat (blocks_of contents) ≡ contents
contents_again contents whole = ap (λ (blocks : List (List ℕ)). concat blocks) (parted contents whole) ∙ joined_again 512 16 contents whole

-- payload blocks of which the used ones are the same, and the others blank
one_payload : (used : ℕ) (xs ys : List (List ℕ)) → length xs ≡ length ys → ((j : ℕ) → j < used → get_or xs j [] ≡ get_or ys j []) → UnusedAreBlank used xs → UnusedAreBlank used ys → xs ≡ ys
one_payload used [] [] count same blank_x blank_y = refl
one_payload used [] (y ∷ ys) count same blank_x blank_y = absurd (omega arith)
one_payload used (x ∷ xs) [] count same blank_x blank_y = absurd (omega arith)
one_payload zero (x ∷ xs) (y ∷ ys) count same blank_x blank_y =
    ap (λ (b : List ℕ). b ∷ xs) (blank_x.0 ∙ sym blank_y.0) ∙ ap (λ (l : List (List ℕ)). y ∷ l) (one_payload zero xs ys (omega arith) (λ j few. absurd (omega arith)) blank_x.1 blank_y.1)
one_payload (suc used) (x ∷ xs) (y ∷ ys) count same blank_x blank_y =
    ap (λ (b : List ℕ). b ∷ xs) (same 0 (omega arith))
    ∙ ap (λ (l : List (List ℕ)). y ∷ l) (one_payload used xs ys (omega arith) (λ j few. same (suc j) (omega arith)) blank_x blank_y)

-- the blocks of a frame, by its summary and its used payload blocks
one_list_of_blocks : (s : SummaryFields) (used : ℕ) (xs ys : List (List ℕ)) → length s.roles ≡ used → length xs ≡ length ys → SpellsSummary (drop 1 xs) (get_or xs 0 []) s → SpellsSummary (drop 1 ys) (get_or ys 0 []) s
    → ((b : ℕ) → 1 ≤ b → b ≤ used → get_or xs b [] ≡ get_or ys b []) → xs ≡ ys
one_list_of_blocks s used [] [] parts count spelled_x spelled_y same = refl
one_list_of_blocks s used [] (y ∷ ys) parts count spelled_x spelled_y same = absurd (omega arith)
one_list_of_blocks s used (x ∷ xs) [] parts count spelled_x spelled_y same = absurd (omega arith)
one_list_of_blocks s used (x ∷ xs) (y ∷ ys) parts count spelled_x spelled_y same =
    let payload : xs ≡ ys = one_payload (length s.roles) xs ys (omega arith) (λ j few. same (suc j) (omega arith) (omega arith)) spelled_x.1.0 spelled_y.1.0 in
    let summary : x ≡ y = spelled_x.1.1 ∙ ap (summary_spelling s) payload ∙ sym spelled_y.1.1 in
    ap (λ (b : List ℕ). b ∷ xs) summary ∙ ap (λ (l : List (List ℕ)). y ∷ l) payload

-- ---- one frame

length_told : (f : FrameFields) → IsFrame f → state_of f.word ≢ 0 → length f.contents ≡ 8192
unfolding contents_length
length_told f is used = is.contents ∙ ap (λ (b : Bool). cond {A = ℕ} b 0 8192) (ne_eqb (state_of f.word) 0 used)

nothing_told : (f : FrameFields) → IsFrame f → state_of f.word ≡ 0 → f.contents ≡ []
unfolding contents_length
nothing_told f is free = none_left f.contents (is.contents ∙ ap (λ (b : Bool). cond {A = ℕ} b 0 8192) (eq-eqb (state_of f.word) 0 free))

used_contents : (number : ℕ) (f g : FrameFields) (k : Frame) (slots : List Slot) → length f.contents ≡ 8192 → length g.contents ≡ 8192 → k.phase ≢ Free → IsFrameOf number f k slots → IsFrameOf number g k slots → f.contents ≡ g.contents
used_contents number f g k slots whole_f whole_g used of_f of_g =
    let parts : length (summary_of number k slots).roles ≡ length slots = length-map slots (λ (slot : Slot). slot.role) in
    let count : length (blocks_of f.contents) ≡ length (blocks_of g.contents) = block_count f.contents whole_f ∙ sym (block_count g.contents whole_g) in
    let blocks : blocks_of f.contents ≡ blocks_of g.contents =
    one_list_of_blocks (summary_of number k slots) (length slots) (blocks_of f.contents) (blocks_of g.contents) parts count (of_f.summary used) (of_g.summary used) (λ b low high. sym (of_f.blocks used b low high) ∙ of_g.blocks used b low high) in
    sym (contents_again f.contents whole_f) ∙ ap (λ (l : List (List ℕ)). concat l) blocks ∙ contents_again g.contents whole_g

made : ℕ → List ℕ → FrameFields
made word contents = record { word = word; contents = contents }

same_frame : (f g : FrameFields) → f.word ≡ g.word → f.contents ≡ g.contents → f ≡ g
unfolding made
same_frame f g word contents = ap (λ (n : ℕ). made n f.contents) word ∙ ap (made g.word) contents

one_frame : (number : ℕ) (f g : FrameFields) (k : Frame) (slots : List Slot) → IsFrame f → IsFrame g → readers_of f.word ≡ 0 → readers_of g.word ≡ 0 → IsFrameOf number f k slots → IsFrameOf number g k slots → f ≡ g
one_frame number f g k slots is_f is_g none_f none_g of_f of_g =
    let state : state_of f.word ≡ state_of g.word = one_state f.word g.word (sym of_f.phase ∙ of_g.phase) in
    let word : f.word ≡ g.word = one_word f.word g.word state (none_f ∙ sym none_g) (sym of_f.generation ∙ of_g.generation) in
    same_frame f g word (elim (cases_eq (state_of f.word) 0) [
      | inl free ↦ nothing_told f is_f free ∙ sym (nothing_told g is_g (sym state ∙ free))
      | inr used ↦
          let used_g : state_of g.word ≢ 0 = λ free. used (state ∙ free) in
          let phase : k.phase ≢ Free = λ free. used (sym (code_of-phase_of (state_of f.word) (omega arith)) ∙ ap code_of (sym of_f.phase ∙ free)) in
          used_contents number f g k slots (length_told f is_f used) (length_told g is_g used_g) phase of_f of_g
    ])

-- ---- all frames

without_readers : (number : ℕ) (frames : List FrameFields) → EachKeepsFrameRules number frames → AllByRecursion (λ f. readers_of f.word ≡ 0) frames
without_readers number [] rules = tt
without_readers number (f ∷ frames) rules = (rules.0.readers, without_readers (number + 1) frames rules.1)

each_at : (P : FrameFields → Type 0) (frames : List FrameFields) (n : ℕ) → n < length frames → AllByRecursion P frames → P (get_or frames n no_part)
each_at P frames n inside all = All-get_or P frames n no_part inside (All-from_recursion P frames all)

pub one_list_of_frames : (t : Table) (frames others : List FrameFields) → AllByRecursion IsFrame frames → AllByRecursion IsFrame others → KeepFrameRules frames → KeepFrameRules others → IsTableOf frames t → IsTableOf others t → frames ≡ others
one_list_of_frames t frames others is_f is_g rules_f rules_g of_f of_g =
    let N : FrameFields → Type 0 = λ f. readers_of f.word ≡ 0 in
    let count : length frames ≡ length others = sym of_f.frame_count ∙ of_g.frame_count in
    ext_get_or no_part frames others count (λ n inside. (let there : n < length others = omega arith in
    one_frame n (get_or frames n no_part) (get_or others n no_part) (frame_at t.seat.frames n) (slots_at t.slots n) (each_at IsFrame frames n inside is_f) (each_at IsFrame others n there is_g)
    (each_at N frames n inside (without_readers 0 frames rules_f.each)) (each_at N others n there (without_readers 0 others rules_g.each)) (of_f.each n inside) (of_g.each n there)))
