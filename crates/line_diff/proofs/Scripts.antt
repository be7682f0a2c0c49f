-- A script of two texts: what both begin with, what changes, and what both end with.
use Rattle.std.proofs.Common.{◌≡◌, ◌∙◌, ◌-◌, ◌<◌, ◌++◌, ℕ, List, [], length, take, drop, map, ap, ap₂, sym, subst₂, append_assoc, take-append-drop, length-drop, length-take-le, add-zero, get_or-take, get_or-drop, arith}
use Rattle.line_diff.specs.declared.script.Sign.TheVariants.{Kept}
use Rattle.line_diff.specs.Script.{TextRow, row_with, line_at, Turns, AreApart, IsScript}
use Rattle.line_diff.specs.private.Trimming.{IsFront, IsBack}

-- what lies between what two lists begin with and end with alike
abbrev pub middle : List (List ℕ) → ℕ → ℕ → List (List ℕ)
middle lines front back = take (length (drop front lines) - back) (drop front lines)

-- what they end with
abbrev pub ending : List (List ℕ) → ℕ → ℕ → List (List ℕ)
ending lines front back = drop (length (drop front lines) - back) (drop front lines)

-- a list is these three parts
parts : (lines : List (List ℕ)) (front back : ℕ) → lines ≡ take front lines ++ (middle lines front back ++ ending lines front back)
parts lines front back = sym (take-append-drop front lines) ∙ ap (λ (l : List (List ℕ)). take front lines ++ l) (sym (take-append-drop (length (drop front lines) - back) (drop front lines)))

-- how many lines lie between
middle_count : (lines : List (List ℕ)) (front back : ℕ) → length (middle lines front back) ≡ length (drop front lines) - back
middle_count lines front back = length-take-le (length (drop front lines) - back) (drop front lines) (omega arith)

-- where there are any, they begin after the front
within_front : (lines : List (List ℕ)) (front back : ℕ) → 0 < length (middle lines front back) → front < length lines
within_front lines front back some = omega (arith, some, middle_count lines front back, length-drop front lines)

within_back : (lines : List (List ℕ)) (front back : ℕ) → 0 < length (middle lines front back) → back < length (drop front lines)
within_back lines front back some = omega (arith, some, middle_count lines front back)

begins_at : (lines : List (List ℕ)) (front back : ℕ) → 0 < length (middle lines front back) → line_at (middle lines front back) 0 ≡ line_at lines front
begins_at lines front back some =
    let n = length (drop front lines) - back in
    let any : 0 < n = omega (arith, some, middle_count lines front back) in
    get_or-take n (drop front lines) 0 [] any ∙ get_or-drop front lines 0 [] ∙ ap (line_at lines) (add-zero front)

ends_at : (lines : List (List ℕ)) (front back : ℕ) → 0 < length (middle lines front back) → line_at (middle lines front back) (length (middle lines front back) - 1) ≡ line_at (drop front lines) (length (drop front lines) - back - 1)
ends_at lines front back some =
    let n = length (drop front lines) - back in
    let last : n - 1 < n = omega (arith, some, middle_count lines front back) in
    ap (λ k. line_at (middle lines front back) (k - 1)) (middle_count lines front back) ∙ get_or-take n (drop front lines) (n - 1) [] last

apart_between : (old new : List (List ℕ)) (front back : ℕ) → IsFront old new front → IsBack (drop front old) (drop front new) back → AreApart (middle old front back) (middle new front back)
apart_between old new front back at_front at_back = record {
  begins = λ gone come same. at_front.apart (within_front old front back gone) (within_front new front back come) (sym (begins_at old front back gone) ∙ same ∙ begins_at new front back come);
  ends = λ gone come same. at_back.apart (within_back old front back gone) (within_back new front back come) (sym (ends_at old front back gone) ∙ same ∙ ends_at new front back come);
}

-- the lines that both begin with, rows that turn what lies between, and the lines that both end
-- with are a script
pub script_made : (old new : List (List ℕ)) (front back : ℕ) (changes rows : List TextRow) → IsFront old new front → IsBack (drop front old) (drop front new) back → Turns (middle old front back) (middle new front back) changes
    → rows ≡ map (row_with Kept) (take front old) ++ (changes ++ map (row_with Kept) (ending old front back)) → IsScript old new rows
script_made old new front back changes rows at_front at_back turns is = record {
  front = take front old;
  back = ending old front back;
  removed = middle old front back;
  added = middle new front back;
  changes = changes;
  before = parts old front back;
  after = parts new front back ∙ ap₂ (λ (x y : List (List ℕ)). x ++ (middle new front back ++ y)) (sym at_front.same) (sym at_back.same);
  apart = apart_between old new front back at_front at_back;
  turns = turns;
  rows = is;
}

-- the same of parts that were cut one after the other
pub script_whole : (old new kept old_rest new_rest removed added rest : List (List ℕ)) (front back lo ln : ℕ) (changes begun changed whole : List TextRow) → IsFront old new front → kept ≡ take front old → old_rest ≡ drop front old
    → new_rest ≡ drop front new → IsBack old_rest new_rest back → lo ≡ length old_rest → ln ≡ length new_rest → removed ≡ take (lo - back) old_rest → added ≡ take (ln - back) new_rest → rest ≡ drop (lo - back) old_rest
    → Turns removed added changes → begun ≡ map (row_with Kept) kept → changed ≡ begun ++ changes → whole ≡ changed ++ map (row_with Kept) rest → IsScript old new whole
script_whole old new kept old_rest new_rest removed added rest front back lo ln changes begun changed whole at_front kept_is old_is new_is at_back lo_is ln_is removed_is added_is rest_is turns begun_is changed_is whole_is =
    let removed_all : removed ≡ middle old front back = removed_is ∙ ap₂ (λ (k : ℕ) (l : List (List ℕ)). take (k - back) l) (lo_is ∙ ap length old_is) old_is in
    let added_all : added ≡ middle new front back = added_is ∙ ap₂ (λ (k : ℕ) (l : List (List ℕ)). take (k - back) l) (ln_is ∙ ap length new_is) new_is in
    let rest_all : rest ≡ ending old front back = rest_is ∙ ap₂ (λ (k : ℕ) (l : List (List ℕ)). drop (k - back) l) (lo_is ∙ ap length old_is) old_is in
    let rows : whole ≡ map (row_with Kept) (take front old) ++ (changes ++ map (row_with Kept) (ending old front back)) =
    whole_is ∙ ap₂ (λ (x y : List TextRow). x ++ y) (changed_is ∙ ap (λ (x : List TextRow). x ++ changes) (begun_is ∙ ap (map (row_with Kept)) kept_is)) (ap (map (row_with Kept)) rest_all)
    ∙ append_assoc (map (row_with Kept) (take front old)) changes (map (row_with Kept) (ending old front back)) in
    script_made old new front back changes whole at_front (subst₂ (λ (x y : List (List ℕ)). IsBack x y back) old_is new_is at_back) (subst₂ (λ (x y : List (List ℕ)). Turns x y changes) removed_all added_all turns) rows
