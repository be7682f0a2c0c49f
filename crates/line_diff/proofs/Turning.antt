-- Rows that turn some lines into others, one after the other.
use Rattle.std.proofs.Common.{◌≡◌, ◌∙◌, ◌+◌, ◌-◌, ◌<◌, ◌++◌, ℕ, List, [], ◌∷◌, length, get_or, take, drop, map, filter, refl, ap, ap₂, sym, subst, subst₂, append-nil, append_assoc, take-append-drop, arith}
use Rattle.std.proofs.lemmas.List.{map-append, map_push, take_more}
use Rattle.std.proofs.lemmas.List.Elements.{filter-append}
use Rattle.line_diff.specs.declared.places.Place.{Place}
use Rattle.line_diff.specs.declared.script.Sign.{Sign}
use Rattle.line_diff.specs.declared.script.Sign.TheVariants.{Kept, Removed, Added}
use Rattle.line_diff.specs.declared.script.Row.{Row}
use Rattle.line_diff.specs.Script.{line_at}
use Rattle.line_diff.specs.Script.{TextRow, row_of, row_with, is_old, is_new, line_of, old_lines, new_lines, Turns}
use Rattle.line_diff.specs.private.Reaching.{change_rows, IsReached, IsNextMatch}
use Rattle.line_diff.proofs.Lists.{joined, at_place}
use Rattle.lemmas.proofs.List.{map_take_next}

-- one row more has the next line
pub rows_more : {S : Type 0} (bytes : S → List ℕ) (sign : Sign) (base : List TextRow) (rows after : List Row) (row : Row) (lines : List S) (i : ℕ) (line : S) → i < length lines → line ≡ get_or lines i line
    → map row_of rows ≡ base ++ map (row_with sign) (map bytes (take i lines)) → after ≡ rows ++ row ∷ [] → row_of row ≡ row_with sign (bytes line)
    → map row_of after ≡ base ++ map (row_with sign) (map bytes (take (i + 1) lines))
rows_more bytes sign base rows after row lines i line lt is before grown gives =
    let so_far = map (row_with sign) (map bytes (take i lines)) in
    let next : so_far ++ row_of row ∷ [] ≡ map (row_with sign) (map bytes (take (i + 1) lines)) =
    ap (λ (r : TextRow). so_far ++ r ∷ []) gives ∙ sym (map_push (row_with sign) (map bytes (take i lines)) (bytes line)) ∙ ap (map (row_with sign)) (sym (map_take_next bytes lines i line lt is)) in
    ap (map row_of) grown ∙ map_push row_of rows row ∙ ap (λ (l : List TextRow). l ++ row_of row ∷ []) before ∙ append_assoc base so_far (row_of row ∷ []) ∙ ap (λ (l : List TextRow). base ++ l) next

-- ---- what rows turn into what

pub old_both : (rows more : List TextRow) → old_lines (rows ++ more) ≡ old_lines rows ++ old_lines more
old_both rows more = ap (map line_of) (filter-append is_old rows more) ∙ map-append line_of (filter is_old rows) (filter is_old more)

pub new_both : (rows more : List TextRow) → new_lines (rows ++ more) ≡ new_lines rows ++ new_lines more
new_both rows more = ap (map line_of) (filter-append is_new rows more) ∙ map-append line_of (filter is_new rows) (filter is_new more)

-- some rows and then others
pub turns_both : (a b c d : List (List ℕ)) (rows more : List TextRow) → Turns a b rows → Turns c d more → Turns (a ++ c) (b ++ d) (rows ++ more)
turns_both a b c d rows more one other = record {
  before = old_both rows more ∙ ap₂ (λ (x y : List (List ℕ)). x ++ y) one.before other.before;
  after = new_both rows more ∙ ap₂ (λ (x y : List (List ℕ)). x ++ y) one.after other.after;
}

old_kept : (lines : List (List ℕ)) → old_lines (map (row_with Kept) lines) ≡ lines
old_kept [] = refl
old_kept (line ∷ lines) = ap (λ (l : List (List ℕ)). line ∷ l) (old_kept lines)

new_kept : (lines : List (List ℕ)) → new_lines (map (row_with Kept) lines) ≡ lines
new_kept [] = refl
new_kept (line ∷ lines) = ap (λ (l : List (List ℕ)). line ∷ l) (new_kept lines)

old_removed : (lines : List (List ℕ)) → old_lines (map (row_with Removed) lines) ≡ lines
old_removed [] = refl
old_removed (line ∷ lines) = ap (λ (l : List (List ℕ)). line ∷ l) (old_removed lines)

new_removed : (lines : List (List ℕ)) → new_lines (map (row_with Removed) lines) ≡ []
new_removed [] = refl
new_removed (line ∷ lines) = new_removed lines

old_added : (lines : List (List ℕ)) → old_lines (map (row_with Added) lines) ≡ []
old_added [] = refl
old_added (line ∷ lines) = old_added lines

new_added : (lines : List (List ℕ)) → new_lines (map (row_with Added) lines) ≡ lines
new_added [] = refl
new_added (line ∷ lines) = ap (λ (l : List (List ℕ)). line ∷ l) (new_added lines)

pub turns_kept : (lines : List (List ℕ)) → Turns lines lines (map (row_with Kept) lines)
turns_kept lines = record { before = old_kept lines; after = new_kept lines }

pub turns_change : (old new : List (List ℕ)) → Turns old new (change_rows old new)
turns_change old new =
    let removed : Turns old [] (map (row_with Removed) old) = record { before = old_removed old; after = new_removed old } in
    let added : Turns [] new (map (row_with Added) new) = record { before = old_added new; after = new_added new } in
    subst (λ (x : List (List ℕ)). Turns x new (change_rows old new)) (append-nil old) (turns_both old [] [] new (map (row_with Removed) old) (map (row_with Added) new) removed added)

-- ---- how far rows reach

-- nothing is reached at first
pub reached_none : (old new : List (List ℕ)) → IsReached old new (record { old = 0; new = 0 }) []
reached_none old new = record { within_old = omega arith; within_new = omega arith; turns = record { before = refl; after = refl } }

-- the rows that remove and add what is in front of a match, and keep its line, reach after it
pub reached_more : (old new : List (List ℕ)) (at place : Place) (rows : List TextRow) (n : ℕ) → n ≡ 1 → IsReached old new at rows → IsNextMatch old new at place
    → IsReached old new (record { old = place.old + 1; new = place.new + 1 })
    ((rows ++ change_rows (take (place.old - at.old) (drop at.old old)) (take (place.new - at.new) (drop at.new new))) ++ map (row_with Kept) (take n (drop place.old old)))
reached_more old new at place rows n one reached match =
    let gone = take (place.old - at.old) (drop at.old old) in
    let come = take (place.new - at.new) (drop at.new new) in
    let line = line_at old place.old in
    let old_line : take n (drop place.old old) ≡ line ∷ [] = at_place old place.old n [] match.old_within one in
    let before : Turns (take place.old old) (take place.new new) (rows ++ change_rows gone come) =
    subst₂ (λ (x y : List (List ℕ)). Turns x y (rows ++ change_rows gone come)) (joined old at.old place.old match.old_from) (joined new at.new place.new match.new_from)
    (turns_both (take at.old old) (take at.new new) gone come rows (change_rows gone come) reached.turns (turns_change gone come)) in
    let kept : Turns (line ∷ []) (line ∷ []) (map (row_with Kept) (take n (drop place.old old))) =
    subst (λ (x : List (List ℕ)). Turns (line ∷ []) (line ∷ []) (map (row_with Kept) x)) (sym old_line) (turns_kept (line ∷ [])) in
    let old_whole : take place.old old ++ line ∷ [] ≡ take (place.old + 1) old = sym (take_more old place.old [] match.old_within) in
    let new_whole : take place.new new ++ line ∷ [] ≡ take (place.new + 1) new = ap (λ (x : List ℕ). take place.new new ++ x ∷ []) match.same ∙ sym (take_more new place.new [] match.new_within) in
    let all = (rows ++ change_rows gone come) ++ map (row_with Kept) (take n (drop place.old old)) in
    record {
      within_old = omega (arith, match.old_within);
      within_new = omega (arith, match.new_within);
      turns = subst₂ (λ (x y : List (List ℕ)). Turns x y all) old_whole new_whole
          (turns_both (take place.old old) (take place.new new) (line ∷ []) (line ∷ []) (rows ++ change_rows gone come) (map (row_with Kept) (take n (drop place.old old))) before kept);
    }

-- rows that remove and add all that is left turn all
pub reached_all : (old new : List (List ℕ)) (at : Place) (rows : List TextRow) → IsReached old new at rows → Turns old new (rows ++ change_rows (drop at.old old) (drop at.new new))
reached_all old new at rows reached =
    let more = change_rows (drop at.old old) (drop at.new new) in
    subst₂ (λ (x y : List (List ℕ)). Turns x y (rows ++ more)) (take-append-drop at.old old) (take-append-drop at.new new)
    (turns_both (take at.old old) (take at.new new) (drop at.old old) (drop at.new new) rows more reached.turns (turns_change (drop at.old old) (drop at.new new)))
