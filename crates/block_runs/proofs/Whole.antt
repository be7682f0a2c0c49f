-- Runs that are written one after the other give the bytes.
use Rattle.std.proofs.Common.{◌≡◌, ◌≢◌, ◌∙◌, ◌⊎◌, inl, inr, eq-eqb, ◌+◌, ◌-◌, ◌<◌, ◌≤◌, ◌==◌, max, ℕ, Bool, true, false, List, [], ◌∷◌, ◌++◌, length, take, drop, get_or, slice_index, replicate, Option, None, Some, refl, sym, ap, subst, arith}
use Rattle.std.proofs.lemmas.Bool.{cases_Bool, cases_lt, or_parts, or_right}
use Rattle.std.proofs.lemmas.Bool.Decides.{nat_tests}
use Rattle.std.proofs.lemmas.List.{append-nil, get_or-take, get_or-drop, get_or-append_right, get_or_append_left, get_or_past, get_or-replicate, ext_get_or, length-append, length-take, length-drop, length-replicate, length-take-le}
use Rattle.s4_model.specs.Effect.{resized, written}
use Rattle.s4_model.specs.Step.{part}
use Rattle.block_runs.specs.declared.running.Run.{Run}
use Rattle.block_runs.specs.Runs.{AreRuns, IsRun, IsSized, RunsAreWhole, differs, end_block, is_cut_whole, is_put, runs_below, runs_to, sized, written_over}
use Rattle.block_runs.proofs.Exact.{exact_by}
use Rattle.block_runs.proofs.Cutting.{cut_by, put_whole, put_within, when_whole}

-- ---- one place of a list that was cut or written over

pub length_resized : (n : ℕ) (xs : List ℕ) → length (resized n xs) ≡ n
length_resized n xs = omega (arith, length-append (take n xs) (replicate (n - length xs) 0), length-take n xs, length-replicate {A = ℕ} (n - length xs) 0)

zeros : (n i : ℕ) → get_or {A = ℕ} (replicate n 0) i 0 ≡ 0
zeros n i = elim (cases_lt i n) [ inl less ↦ get_or-replicate n i 0 0 less | inr past ↦ get_or_past (replicate n 0) i 0 (omega (arith, length-replicate {A = ℕ} n 0)) ]

-- up to its size a list is the same
pub at_resized : (n : ℕ) (xs : List ℕ) (i : ℕ) → i < n → get_or (resized n xs) i 0 ≡ get_or xs i 0
at_resized n xs i below = elim (cases_lt i (length xs)) [
  | inl less ↦ get_or_append_left (take n xs) (replicate (n - length xs) 0) 0 i (omega (arith, length-take n xs)) ∙ get_or-take n xs i 0 below
  | inr past ↦ get_or-append_right (take n xs) (replicate (n - length xs) 0) (length xs) i 0 (omega (arith, length-take n xs)) past ∙ zeros (n - length xs) (i - length xs) ∙ sym (get_or_past xs i 0 past)
]

-- where bytes were written
written_some : (offset : ℕ) (new content : List ℕ) → 0 < length new → written offset new content ≡ (resized offset content ++ new) ++ drop (offset + length new) content
written_some offset [] content some = absurd (omega arith)
written_some offset (b ∷ bs) content some = refl

at_three : (front new back : List ℕ) (offset size i : ℕ) → length front ≡ offset → length new ≡ size → offset ≤ i → i < offset + size → get_or ((front ++ new) ++ back) i 0 ≡ get_or new (i - offset) 0
at_three front new back offset size i first second low high =
    get_or_append_left (front ++ new) back 0 i (omega (arith, length-append front new)) ∙ get_or-append_right front new offset i 0 first low

in_front : (front new back : List ℕ) (offset i : ℕ) → length front ≡ offset → i < offset → get_or ((front ++ new) ++ back) i 0 ≡ get_or front i 0
in_front front new back offset i first less =
    get_or_append_left (front ++ new) back 0 i (omega (arith, length-append front new)) ∙ get_or_append_left front new 0 i (omega arith)

behind : (front new back : List ℕ) (offset size i : ℕ) → length front ≡ offset → length new ≡ size → offset + size ≤ i → get_or ((front ++ new) ++ back) i 0 ≡ get_or back (i - (offset + size)) 0
behind front new back offset size i first second past = get_or-append_right (front ++ new) back (offset + size) i 0 (omega (arith, length-append front new)) past

-- a run of bytes written over others, which have as many as lie in front of it at least, or fewer
abbrev pub over : List ℕ → Run → List ℕ → List ℕ
over bytes r now = written r.offset (part bytes r.offset (r.end - r.offset)) now

length_part : (bytes : List ℕ) (offset end : ℕ) → offset < end → end ≤ length bytes → length (part bytes offset (end - offset)) ≡ end - offset
length_part bytes offset end some within = length-take-le (end - offset) (drop offset bytes) (omega (arith, length-drop offset bytes))

over_is : (bytes now : List ℕ) (r : Run) → r.offset < r.end → r.end ≤ length bytes
    → over bytes r now ≡ (resized r.offset now ++ part bytes r.offset (r.end - r.offset)) ++ drop r.end now
over_is bytes now r some within =
    let new : List ℕ = part bytes r.offset (r.end - r.offset) in
    let size : length new ≡ r.end - r.offset = length_part bytes r.offset r.end some within in
    let end : r.offset + length new ≡ r.end = omega arith in
    written_some r.offset new now (omega arith) ∙ ap (λ n. (resized r.offset now ++ new) ++ drop n now) end

length_over : (bytes now : List ℕ) (r : Run) → r.offset < r.end → r.end ≤ length bytes → length (over bytes r now) ≡ max (length now) r.end
length_over bytes now r some within =
    let front : List ℕ = resized r.offset now in
    let new : List ℕ = part bytes r.offset (r.end - r.offset) in
    let first : length front ≡ r.offset = length_resized r.offset now in
    let size : length new ≡ r.end - r.offset = length_part bytes r.offset r.end some within in
    ap length (over_is bytes now r some within) ∙ omega (arith, length-append (front ++ new) (drop r.end now), length-append front new, length-drop r.end now)

at_over : (bytes now : List ℕ) (r : Run) (i : ℕ) → r.offset < r.end → r.end ≤ length bytes → r.offset ≤ i → i < r.end → get_or (over bytes r now) i 0 ≡ get_or bytes i 0
at_over bytes now r i some within low high =
    let new : List ℕ = part bytes r.offset (r.end - r.offset) in
    let at : r.offset + (i - r.offset) ≡ i = omega arith in
    ap (λ xs. get_or xs i 0) (over_is bytes now r some within)
    ∙ at_three (resized r.offset now) new (drop r.end now) r.offset (r.end - r.offset) i (length_resized r.offset now) (length_part bytes r.offset r.end some within) low (omega arith)
    ∙ get_or-take (r.end - r.offset) (drop r.offset bytes) (i - r.offset) 0 (omega arith)
    ∙ get_or-drop r.offset bytes (i - r.offset) 0
    ∙ ap (λ k. get_or bytes k 0) at

in_front_of : (bytes now : List ℕ) (r : Run) (i : ℕ) → r.offset < r.end → r.end ≤ length bytes → i < r.offset → get_or (over bytes r now) i 0 ≡ get_or now i 0
in_front_of bytes now r i some within less =
    ap (λ xs. get_or xs i 0) (over_is bytes now r some within)
    ∙ in_front (resized r.offset now) (part bytes r.offset (r.end - r.offset)) (drop r.end now) r.offset i (length_resized r.offset now) less
    ∙ at_resized r.offset now i less

behind_of : (bytes now : List ℕ) (r : Run) (i : ℕ) → r.offset < r.end → r.end ≤ length bytes → r.end ≤ i → get_or (over bytes r now) i 0 ≡ get_or now i 0
behind_of bytes now r i some within past =
    let e : r.offset + (r.end - r.offset) ≡ r.end = omega arith in
    let at : r.end + (i - r.end) ≡ i = omega arith in
    ap (λ xs. get_or xs i 0) (over_is bytes now r some within)
    ∙ behind (resized r.offset now) (part bytes r.offset (r.end - r.offset)) (drop r.end now) r.offset (r.end - r.offset) i (length_resized r.offset now) (length_part bytes r.offset r.end some within) (omega arith)
    ∙ ap (λ k. get_or (drop r.end now) (i - k) 0) e
    ∙ get_or-drop r.end now (i - r.end) 0
    ∙ ap (λ k. get_or now k 0) at

-- ---- all runs

-- the bytes that don't differ, and those in front of an index, are what they were
abbrev pub AreSame : (ℕ → Bool) → List ℕ → ℕ → List ℕ → Type 0
AreSame d bytes i now = (j : ℕ) → j < length bytes → (j < i) ⊎ (d j ≡ false) → get_or now j 0 ≡ get_or bytes j 0

after_run : (d : ℕ → Bool) (gap : ℕ) (bytes now : List ℕ) (i block : ℕ) (r : Run) → IsRun d gap (length bytes) i block r → AreSame d bytes i now → AreSame d bytes r.end (over bytes r now)
after_run d gap bytes now i block r run same j below which =
    elim (cases_lt j r.offset) [
      | inl front ↦ in_front_of bytes now r j run.some run.within front ∙ elim (cases_lt j i) [ inl less ↦ same j below (inl less) | inr from ↦ same j below (inr (run.before j from front)) ]
      | inr low ↦ elim (cases_lt j r.end) [
        | inl high ↦ at_over bytes now r j run.some run.within low high
        | inr past ↦ behind_of bytes now r j run.some run.within past ∙ elim which [ inl less ↦ absurd (omega arith) | inr is ↦ same j below (inr is) ]
      ]
    ]

all_same : (d : ℕ → Bool) (gap : ℕ) (bytes now : List ℕ) (i block : ℕ) (rs : List Run) → AreRuns d gap (length bytes) i block rs → AreSame d bytes i now → (j : ℕ) → j < length bytes → get_or (written_over bytes rs now) j 0 ≡ get_or bytes j 0
all_same d gap bytes now i block [] are same j below = elim (cases_lt j i) [ inl less ↦ same j below (inl less) | inr from ↦ same j below (inr (are j from below)) ]
all_same d gap bytes now i block (r ∷ rs) are same j below = all_same d gap bytes (over bytes r now) r.end _ rs are.1 (after_run d gap bytes now i block r are.0 same) j below

-- there are as many, or the last one differs and isn't written yet
abbrev pub Reaches : (ℕ → Bool) → ℕ → ℕ → List ℕ → Type 0
Reaches d count i now = (length now ≤ count) × ((length now ≡ count) ⊎ ((i < count) × (d (count - 1) ≡ true)))

reaches_on : (d : ℕ → Bool) (gap : ℕ) (bytes now : List ℕ) (i block : ℕ) (r : Run) → IsRun d gap (length bytes) i block r → Reaches d (length bytes) i now → Reaches d (length bytes) r.end (over bytes r now)
reaches_on d gap bytes now i block r run reaches =
    let some : r.offset < r.end = run.some in
    let within : r.end ≤ length bytes = run.within in
    let size : length (over bytes r now) ≡ max (length now) r.end = length_over bytes now r some within in
    let most : length now ≤ length bytes = reaches.0 in
    (omega arith, elim reaches.1 [ inl all ↦ inl (omega arith) | inr left ↦ elim (cases_lt r.end (length bytes)) [ inl less ↦ inr (less, left.1) | inr past ↦ inl (omega arith) ] ])

length_written : (d : ℕ → Bool) (gap : ℕ) (bytes now : List ℕ) (i block : ℕ) (rs : List Run) → AreRuns d gap (length bytes) i block rs → Reaches d (length bytes) i now → length (written_over bytes rs now) ≡ length bytes
length_written d gap bytes now i block [] are reaches = elim reaches.1 [
  | inl all ↦ all
  | inr left ↦ let less : i < length bytes = left.0 in let same : d (length bytes - 1) ≡ false = are (length bytes - 1) (omega arith) (omega arith) in let other : d (length bytes - 1) ≡ true = left.1 in cc
]
length_written d gap bytes now i block (r ∷ rs) are reaches = length_written d gap bytes (over bytes r now) r.end _ rs are.1 (reaches_on d gap bytes now i block r are.0 reaches)

-- So they give the bytes, where what isn't written is what it was, and there are as many or the last is written.
written_whole : (d : ℕ → Bool) (gap : ℕ) (bytes now : List ℕ) → ((j : ℕ) → j < length bytes → d j ≡ false → get_or now j 0 ≡ get_or bytes j 0) → length now ≤ length bytes → (length now ≡ length bytes) ⊎ (d (length bytes - 1) ≡ true)
    → written_over bytes (runs_below d gap (length bytes) []) now ≡ bytes
written_whole d gap bytes now same most reaches =
    let rs = runs_below d gap (length bytes) [] in
    let begun : AreSame d bytes 0 now = λ j below which. elim which [ inl less ↦ absurd (omega arith) | inr is ↦ same j below is ] in
    let ends : Reaches d (length bytes) 0 now = (
      most,
      elim reaches [
        | inl all ↦ inl all
        | inr last ↦ elim (cases_lt 0 (length bytes)) [ inl some ↦ inr (some, last) | inr none ↦ inl (omega arith) ]
      ],
    ) in
    let count = length_written d gap bytes now 0 0 rs (exact_by d gap (length bytes)) ends in
    ext_get_or 0 (written_over bytes rs now) bytes count
    (λ i less. all_same d gap bytes now 0 0 rs (exact_by d gap (length bytes)) begun i (subst (λ n. i < n) count less))

-- ---- bytes that were sized first

same_at : (bytes now : List ℕ) (i : ℕ) → differs bytes now i ≡ false → get_or now i 0 ≡ get_or bytes i 0
same_at bytes now i is = grind (arith, nat_tests)

other_at : (bytes now : List ℕ) (i : ℕ) → (get_or bytes i 0 ≡ get_or now i 0 → ⊥) → differs bytes now i ≡ true
other_at bytes now i apart = grind (arith, nat_tests)

last_differs : (bytes now : List ℕ) → length now < length bytes → slice_index bytes (length bytes - 1) ≢ 0 → differs bytes now (length bytes - 1) ≡ true
last_differs bytes now less some =
    let none : get_or now (length bytes - 1) 0 ≡ 0 = get_or_past now (length bytes - 1) 0 (omega arith) in
    other_at bytes now (length bytes - 1) (λ (e : get_or bytes (length bytes - 1) 0 ≡ get_or now (length bytes - 1) 0). some (e ∙ none))

-- where no block is cut off
same_within : (bytes now : List ℕ) → is_cut_whole bytes now ≡ false → (j : ℕ) → is_put bytes now j ≡ false → get_or now j 0 ≡ get_or bytes j 0
same_within bytes now wrong j is = same_at bytes now j (sym (put_within bytes now j wrong) ∙ is)

same_resized : (bytes now : List ℕ) (size : ℕ) → is_cut_whole bytes now ≡ false → size ≡ length bytes → (j : ℕ) → j < length bytes → is_put bytes now j ≡ false → get_or (resized size now) j 0 ≡ get_or bytes j 0
same_resized bytes now size wrong all j below is = at_resized size now j (omega arith) ∙ same_within bytes now wrong j is

cut_within : (bytes now : List ℕ) (size : Option ℕ) (gap : ℕ) → is_cut_whole bytes now ≡ false → IsSized bytes now size → written_over bytes (runs_to gap bytes now) (sized size now) ≡ bytes
cut_within bytes now None gap wrong is =
    written_whole (is_put bytes now) gap bytes now (λ j below same. same_within bytes now wrong j same) is.0
    (elim is.1 [
      | inl all ↦ inl all
      | inr some ↦ elim (cases_lt (length now) (length bytes)) [
        | inl less ↦ inr (put_within bytes now (length bytes - 1) wrong ∙ last_differs bytes now less some)
        | inr past ↦ inl (omega (arith, is.0))
      ]
    ])
cut_within bytes now (Some size) gap wrong is =
    let all : size ≡ length bytes = elim is [ inl shorter ↦ shorter.1 ∙ cut_by bytes now false wrong | inr longer ↦ longer.2 ] in
    let count : length (resized size now) ≡ length bytes = length_resized size now ∙ all in
    written_whole (is_put bytes now) gap bytes (resized size now) (same_resized bytes now size wrong all) (omega arith) (inl count)

-- ---- where one is

-- what is cut in front of the last block
cut_off : (bytes now : List ℕ) → length bytes < length now → resized (end_block (length bytes)) now ≡ take (end_block (length bytes)) now
cut_off bytes now less =
    let none : end_block (length bytes) - length now ≡ 0 = omega arith in
    ap (λ n. take (end_block (length bytes)) now ++ replicate n 0) none ∙ append-nil (take (end_block (length bytes)) now)

same_whole : (bytes now : List ℕ) → is_cut_whole bytes now ≡ true → (j : ℕ) → is_put bytes now j ≡ false → get_or (take (end_block (length bytes)) now) j 0 ≡ get_or bytes j 0
same_whole bytes now right j is =
    same_at bytes (take (end_block (length bytes)) now) j (or_parts (differs bytes (take (end_block (length bytes)) now) j) (j + 1 == length bytes) (sym (put_whole bytes now j right) ∙ is)).0

-- the last byte is written then
pub last_put : (bytes now : List ℕ) → is_cut_whole bytes now ≡ true → 0 < length bytes → is_put bytes now (length bytes - 1) ≡ true
last_put bytes now right some =
    let last : length bytes - 1 + 1 ≡ length bytes = omega arith in
    put_whole bytes now (length bytes - 1) right
    ∙ or_right (differs bytes (take (end_block (length bytes)) now) (length bytes - 1)) (length bytes - 1 + 1 == length bytes) (eq-eqb (length bytes - 1 + 1) (length bytes) last)

cut_whole : (bytes now : List ℕ) (size : Option ℕ) (gap : ℕ) → is_cut_whole bytes now ≡ true → IsSized bytes now size → written_over bytes (runs_to gap bytes now) (sized size now) ≡ bytes
cut_whole bytes now None gap right is = let less : length bytes < length now = (when_whole bytes now right).0 in absurd (omega (arith, is.0))
cut_whole bytes now (Some size) gap right (inr is) = let less : length bytes < length now = (when_whole bytes now right).0 in absurd (omega (arith, is.0))
cut_whole bytes now (Some size) gap right (inl is) =
    let few : length (take (end_block (length bytes)) now) ≤ length bytes = omega (arith, length-take (end_block (length bytes)) now) in
    ap (λ there. written_over bytes (runs_to gap bytes now) there) (ap (λ n. resized n now) (is.1 ∙ cut_by bytes now true right) ∙ cut_off bytes now is.0)
    ∙ written_whole (is_put bytes now) gap bytes (take (end_block (length bytes)) now) (λ j below same. same_whole bytes now right j same) few
    (elim (cases_lt 0 (length bytes)) [ inl some ↦ inr (last_put bytes now right some) | inr none ↦ inl (omega arith) ])

pub runs_are_whole : RunsAreWhole
runs_are_whole gap bytes now size is = elim (cases_Bool (is_cut_whole bytes now)) [
  | inl right ↦ cut_whole bytes now size gap right is
  | inr wrong ↦ cut_within bytes now size gap wrong is
]
