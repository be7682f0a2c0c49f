-- What each call leaves.
use Rattle.std.specs.Prelude.{Result, Ok, Err, OnOk, IsTrue, is_ok}
use Rattle.std.proofs.Common.{◌≡◌, ℕ, zero, suc, ◌+◌, ◌-◌, ◌<◌, ◌≤◌, ◌==◌, ◌||◌, Bool, true, false, not, if◌then◌else◌, List, [], ◌∷◌, ◌++◌, length, take, drop, refl, sym, ap, subst, ◌∙◌, arith, inl, inr, ◌⊎◌, Option, None, Some}
use Rattle.std.specs.Str.{bytes_eq}
use Rattle.std.proofs.lemmas.Slice.Eq.{bytes_eq-Decides}
use Rattle.std.proofs.lemmas.Bool.{false_from_ne_true}
use Rattle.std.proofs.lemmas.List.{length-take-le, length-drop}
use Rattle.std.proofs.Math.Seq.{take-add, take-length}
use Rattle.std.proofs.lemmas.Bool.Decides.{Decides-eqb}
use Rattle.host_calls.specs.Events.{Answer, Done, Short, Unsupported, Failed, Event, Made, Locked, Written, Cut, Synced, Renamed, Linked, Removed, FolderSynced}
use Rattle.host_calls.specs.Replay.{Lying, Before, Whole, Front, Nothing, Unknown, World, place_of, unless_at, written, unwritten, cut, uncut, settled, changed_at, changed, synced_at, made_at, maybe_at, names_synced, folder_path, after, replay, Leaves, LeavesOne, MayLeave}
use Rattle.host_calls.specs.Files.{locked_by, is_locked, mode_by, made_mode}
use Rattle.host_calls.specs.Worlds.{IsFile, IsAt, Begins, HasBytes, SameAt, SameNames, IsSettled, AddsNone, AddsOnly, IsWriting, GoesOn, ChangesOnly, SamePlaces}

-- the world after one more call
pub replayed : (new old : List Event) (call : Event) → new ≡ call ∷ old → replay new ≡ after call (replay old)
unfolding replay
replayed new old call is = ap replay is

is_same : (p : List ℕ) → bytes_eq p p ≡ true
is_same p = (bytes_eq-Decides p p).1 refl

is_other : (p q : List ℕ) → (q ≡ p → ⊥) → bytes_eq p q ≡ false
is_other p q n = false_from_ne_true (bytes_eq p q) (λ e. n (sym ((bytes_eq-Decides p q).0 e)))

here : {A : Type 0} (p : List ℕ) (x y : A) → (if bytes_eq p p then x else y) ≡ x
here p x y = rw (is_same p)

there : {A : Type 0} (p q : List ℕ) (x y : A) → (q ≡ p → ⊥) → (if bytes_eq p q then x else y) ≡ y
there p q x y n = rw (is_other p q n)

-- the test of two numbers that are one
is_at : {A : Type 0} (n m : ℕ) (x y : A) → n ≡ m → (if n == m then x else y) ≡ x
is_at n m x y e = rw ((Decides-eqb n m).1 e)

number_here : {A : Type 0} (n : ℕ) (x y : A) → (if n == n then x else y) ≡ x
number_here n x y = is_at n n x y refl

pub place_made : (path : List ℕ) (number : ℕ) (w : World) → 0 < number → place_of (made_at path number w) number ≡ Some path
place_made path zero w h = absurd (omega arith)
place_made path (suc n) w h = number_here (suc n) (Some path) (unless_at path (w.place (suc n)))

pub file_made : (path : List ℕ) (number : ℕ) (w : World) → (made_at path number w).named path ≡ Whole false []
file_made path number w = here path (Whole false []) (w.named path)

pub at_made : (path : List ℕ) (number : ℕ) (w : World) → 0 < number → IsAt (made_at path number w) number path
at_made path number w h = record { place = place_made path number w h; file = rw (file_made path number w) tt }

pub others_made : (path : List ℕ) (number : ℕ) (w : World) (q : List ℕ) → (q ≡ path → ⊥) → SameAt w (made_at path number w) q
others_made path number w q n = record {
  named = there path q (Whole false []) (w.named q) n;
  others = there path q (w.named q ∷ w.others q) (w.others q) n;
}

number_other : (w : World) (n : ℕ) (path : List ℕ) → place_of w n ≡ Some path → 0 < n
number_other w zero path h = absurd (cc)
number_other w (suc n) path h = omega arith

-- the place of each number is that of another world where its places are
same_place : (w w' : World) (n : ℕ) (path : List ℕ) → ((m : ℕ) → w'.place m ≡ w.place m) → place_of w n ≡ Some path → place_of w' n ≡ Some path
same_place w w' zero path same h = h
same_place w w' (suc n) path same h = same (suc n) ∙ h

-- A file at a path is changed.

module _ (how : Lying → Lying) (path : List ℕ) (w : World) where
  pub changed_here : (changed_at how path w).named path ≡ how (w.named path)
  changed_here = here path (how (w.named path)) (w.named path)

  pub changed_there : (q : List ℕ) → (q ≡ path → ⊥) → SameAt w (changed_at how path w) q
  changed_there q n = record { named = there path q (how (w.named q)) (w.named q) n; others = refl }

  pub changed_place : (n : ℕ) (q : List ℕ) → place_of w n ≡ Some q → place_of (changed_at how path w) n ≡ Some q
  changed_place n q h = same_place w (changed_at how path w) n q (λ m. refl) h

-- the world that is changed where a file is at a path
changed_is : (how : Lying → Lying) (w : World) (n : ℕ) (path : List ℕ) → IsAt w n path → changed how (place_of w n) w ≡ changed_at how path w
changed_is how w n path is = rw is.place

pub record IsChanged (how : Lying → Lying) (path : List ℕ) (w w' : World) : Type 0 where
  pub here : w'.named path ≡ how (w.named path)
  pub there : (q : List ℕ) → (q ≡ path → ⊥) → SameAt w w' q
  pub place : (n : ℕ) (q : List ℕ) → place_of w n ≡ Some q → place_of w' n ≡ Some q

is_changed_at : (how : Lying → Lying) (path : List ℕ) (w : World) → IsChanged how path w (changed_at how path w)
is_changed_at how path w = record { here = changed_here how path w; there = changed_there how path w; place = changed_place how path w }

-- what is changed by the number of the file at a path is that
pub is_changed : (how : Lying → Lying) (w : World) (n : ℕ) (path : List ℕ) → IsAt w n path → IsChanged how path w (changed how (place_of w n) w)
is_changed how w n path is = subst (λ x. IsChanged how path w x) (sym (changed_is how w n path is)) (is_changed_at how path w)

-- a change fails nothing
pub changed_failed : (how : Lying → Lying) (place : Option (List ℕ)) (w : World) → (changed how place w).failed ≡ w.failed
changed_failed how None w = refl
changed_failed how (Some path) w = refl

-- Bytes are written from the front on.

no_items : (xs : List ℕ) → 0 ≡ length xs → xs ≡ []
no_items [] e = refl
no_items (x ∷ xs) e = absurd (omega arith)

written_test : (at : ℕ) (t z : Bool) (piece before : List ℕ) → IsFile (if t then Whole false (before ++ piece) else if z then Front piece else Front [])
written_test at true z piece before = tt
written_test at false true piece before = tt
written_test at false false piece before = tt

front_test : (t z : Bool) (piece before : List ℕ) → IsFile (if t then Front (before ++ piece) else if z then Front piece else Front [])
front_test true z piece before = tt
front_test false true piece before = tt
front_test false false piece before = tt

unwritten_test : (t : Bool) (before : List ℕ) → IsFile (if t then Front before else Front [])
unwritten_test true before = tt
unwritten_test false before = tt

cut_test : (t z : Bool) (before : List ℕ) → IsFile (if t then Whole false before else if z then Whole false [] else Front [])
cut_test true z before = tt
cut_test false true before = tt
cut_test false false before = tt

pub file_written : (at : ℕ) (piece : List ℕ) (x : Lying) → IsFile x → IsFile (written at piece x)
file_written at piece (Before path) h = absurd h
file_written at piece (Whole lasts before) h = written_test at (at == length before) (at == 0) piece before
file_written at piece (Front before) h = front_test (at == length before) (at == 0) piece before
file_written at piece Nothing h = absurd h
file_written at piece Unknown h = absurd h

pub file_unwritten : (at : ℕ) (x : Lying) → IsFile x → IsFile (unwritten at x)
file_unwritten at (Before path) h = absurd h
file_unwritten at (Whole lasts before) h = unwritten_test (at == length before) before
file_unwritten at (Front before) h = unwritten_test (at == length before) before
file_unwritten at Nothing h = absurd h
file_unwritten at Unknown h = absurd h

pub file_cut : (len : ℕ) (x : Lying) → IsFile x → IsFile (cut len x)
file_cut len (Before path) h = absurd h
file_cut len (Whole lasts before) h = cut_test (len == length before) (len == 0) before
file_cut len (Front before) h = cut_test (len == length before) (len == 0) before
file_cut len Nothing h = absurd h
file_cut len Unknown h = absurd h

pub file_uncut : (x : Lying) → IsFile x → IsFile (uncut x)
file_uncut (Before path) h = absurd h
file_uncut (Whole lasts before) h = tt
file_uncut (Front before) h = tt
file_uncut Nothing h = absurd h
file_uncut Unknown h = absurd h

pub file_settled : (x : Lying) → IsFile x → IsFile (settled x)
file_settled (Before path) h = absurd h
file_settled (Whole lasts before) h = tt
file_settled (Front before) h = tt
file_settled Nothing h = absurd h
file_settled Unknown h = absurd h

-- a write at the end of what a file begins with
begins_test : (t z : Bool) (piece before front : List ℕ) → t ≡ true → before ≡ front → Begins (if t then Whole false (before ++ piece) else if z then Front piece else Front []) (front ++ piece)
begins_test true z piece before front e h = ap (λ (b : List ℕ). b ++ piece) h
begins_test false z piece before front e h = absurd (cc)

front_begins_test : (t z : Bool) (piece before front : List ℕ) → t ≡ true → before ≡ front → Begins (if t then Front (before ++ piece) else if z then Front piece else Front []) (front ++ piece)
front_begins_test true z piece before front e h = ap (λ (b : List ℕ). b ++ piece) h
front_begins_test false z piece before front e h = absurd (cc)

pub begins_further : (at : ℕ) (front piece : List ℕ) (x : Lying) → Begins x front → at ≡ length front → Begins (written at piece x) (front ++ piece)
begins_further at front piece (Before path) h e = absurd h
begins_further at front piece (Whole lasts before) h e = begins_test (at == length before) (at == 0) piece before front ((Decides-eqb at (length before)).1 (e ∙ ap length (sym h))) h
begins_further at front piece (Front before) h e = front_begins_test (at == length before) (at == 0) piece before front ((Decides-eqb at (length before)).1 (e ∙ ap length (sym h))) h
begins_further at front piece Nothing h e = absurd h
begins_further at front piece Unknown h e = absurd h

begins_first_test : (t : Bool) (piece before : List ℕ) → t ≡ (0 == length before) → Begins (if t then Whole false (before ++ piece) else Front piece) piece
begins_first_test true piece before e = ap (λ (b : List ℕ). b ++ piece) (no_items before ((Decides-eqb 0 (length before)).0 (sym e)))
begins_first_test false piece before e = refl

front_first_test : (t : Bool) (piece before : List ℕ) → t ≡ (0 == length before) → Begins (if t then Front (before ++ piece) else Front piece) piece
front_first_test true piece before e = ap (λ (b : List ℕ). b ++ piece) (no_items before ((Decides-eqb 0 (length before)).0 (sym e)))
front_first_test false piece before e = refl

-- a write at the beginning of a file
pub begins_first : (piece : List ℕ) (x : Lying) → IsFile x → Begins (written 0 piece x) piece
begins_first piece (Before path) h = absurd h
begins_first piece (Whole lasts before) h = begins_first_test (0 == length before) piece before refl
begins_first piece (Front before) h = front_first_test (0 == length before) piece before refl
begins_first piece Nothing h = absurd h
begins_first piece Unknown h = absurd h

begins_still_test : (t : Bool) (before front : List ℕ) → t ≡ true → before ≡ front → Begins (if t then Front before else Front []) front
begins_still_test true before front e h = h
begins_still_test false before front e h = absurd (cc)

-- a write at the end of what a file begins with that fails
pub begins_still : (at : ℕ) (front : List ℕ) (x : Lying) → Begins x front → at ≡ length front → Begins (unwritten at x) front
begins_still at front (Before path) h e = absurd h
begins_still at front (Whole lasts before) h e = begins_still_test (at == length before) before front ((Decides-eqb at (length before)).1 (e ∙ ap length (sym h))) h
begins_still at front (Front before) h e = begins_still_test (at == length before) before front ((Decides-eqb at (length before)).1 (e ∙ ap length (sym h))) h
begins_still at front Nothing h e = absurd h
begins_still at front Unknown h e = absurd h

cut_here_test : (t z : Bool) (before front : List ℕ) → t ≡ true → before ≡ front → (if t then Whole false before else if z then Whole false [] else Front []) ≡ Whole false front
cut_here_test true z before front e h = ap (λ (b : List ℕ). Whole false b) h
cut_here_test false z before front e h = absurd (cc)

-- a file that is cut at the end of what it begins with
pub cut_here : (len : ℕ) (front : List ℕ) (x : Lying) → Begins x front → len ≡ length front → cut len x ≡ Whole false front
cut_here len front (Before path) h e = absurd h
cut_here len front (Whole lasts before) h e = cut_here_test (len == length before) (len == 0) before front ((Decides-eqb len (length before)).1 (e ∙ ap length (sym h))) h
cut_here len front (Front before) h e = cut_here_test (len == length before) (len == 0) before front ((Decides-eqb len (length before)).1 (e ∙ ap length (sym h))) h
cut_here len front Nothing h e = absurd h
cut_here len front Unknown h e = absurd h

cut_all_test : (t : Bool) (before : List ℕ) → t ≡ (0 == length before) → (if t then Whole false before else Whole false []) ≡ Whole false []
cut_all_test true before e = ap (λ (b : List ℕ). Whole false b) (no_items before ((Decides-eqb 0 (length before)).0 (sym e)))
cut_all_test false before e = refl

-- one that is cut at its beginning
pub cut_all : (x : Lying) → IsFile x → cut 0 x ≡ Whole false []
cut_all (Before path) h = absurd h
cut_all (Whole lasts before) h = cut_all_test (0 == length before) before refl
cut_all (Front before) h = cut_all_test (0 == length before) before refl
cut_all Nothing h = absurd h
cut_all Unknown h = absurd h

pub same_then : (w v u : World) (q : List ℕ) → SameAt w v q → SameAt v u q → SameAt w u q
same_then w v u q one two = record { named = two.named ∙ one.named; others = two.others ∙ one.others }

length_front : (done : ℕ) (bytes : List ℕ) → done ≤ length bytes → done ≡ length (take done bytes)
length_front done bytes h = sym (length-take-le done bytes h)

-- nothing is written yet
pub writing_begins : (n : ℕ) (bytes path : List ℕ) (w : World) → IsAt w n path → IsWriting n 0 bytes path w w
writing_begins n bytes path w at = record { at = at; begins = inl refl; others = λ q other. record { named = refl; others = refl } }

begins_more : (done k : ℕ) (bytes : List ℕ) (x : Lying) → IsFile x → done + k ≤ length bytes → (done ≡ 0) ⊎ Begins x (take done bytes)
    → Begins (written done (take k (drop done bytes)) x) (take (done + k) bytes)
begins_more done k bytes x file fits (inl none) =
    let none_dropped : drop 0 bytes ≡ bytes = refl in
    let more : 0 + k ≡ k = omega arith in
    rw (none, none_dropped, more) (begins_first (take k bytes) x file)
begins_more done k bytes x file fits (inr begins) =
    rw take-add (begins_further done (take done bytes) (take k (drop done bytes)) x begins (length_front done bytes (omega arith)))

-- what is left of a slice from an index on
pub rest_of : (done : ℕ) (bytes : List ℕ) → take (length bytes - done) (drop done bytes) ≡ drop done bytes
rest_of done bytes = ap (λ (n : ℕ). take n (drop done bytes)) (sym (length-drop done bytes)) ∙ take-length (drop done bytes)

-- more bytes are
pub writing_more : (n done k : ℕ) (bytes path : List ℕ) (w v : World) → IsWriting n done bytes path w v → done + k ≤ length bytes
    → IsWriting n (done + k) bytes path w (after (Written n done (take k (drop done bytes)) true) v)
writing_more n done k bytes path w v so fits =
    let changed = is_changed (written done (take k (drop done bytes))) v n path so.at in
    record {
      at = record {
        place = changed.place n path so.at.place;
        file = rw changed.here (file_written done (take k (drop done bytes)) (v.named path) so.at.file);
      };
      begins = inr (rw changed.here (begins_more done k bytes (v.named path) so.at.file fits so.begins));
      others = λ q other. same_then w v _ q (so.others q other) (changed.there q other);
    }

begins_kept : (done : ℕ) (bytes : List ℕ) (x : Lying) → done ≤ length bytes → (done ≡ 0) ⊎ Begins x (take done bytes)
    → (done ≡ 0) ⊎ Begins (unwritten done x) (take done bytes)
begins_kept done bytes x fits (inl none) = inl none
begins_kept done bytes x fits (inr begins) = inr (begins_still done (take done bytes) x begins (length_front done bytes fits))

-- no more are, since a write failed
pub writing_fails : (n done : ℕ) (bytes path : List ℕ) (w v : World) → IsWriting n done bytes path w v → done ≤ length bytes
    → IsWriting n done bytes path w (after (Written n done [] false) v)
writing_fails n done bytes path w v so fits =
    let changed = is_changed (unwritten done) v n path so.at in
    record {
      at = record { place = changed.place n path so.at.place; file = rw changed.here (file_unwritten done (v.named path) so.at.file) };
      begins = rw changed.here (begins_kept done bytes (v.named path) fits so.begins);
      others = λ q other. same_then w v _ q (so.others q other) (changed.there q other);
    }

pub goes_more : (n done k : ℕ) (bytes : List ℕ) (v : World) → done + k ≤ length bytes → GoesOn n done (done + k) bytes v (after (Written n done (take k (drop done bytes)) true) v)
goes_more n done k bytes v fits = record { on = λ path w so. writing_more n done k bytes path w v so fits }

pub goes_nowhere : (n done : ℕ) (bytes : List ℕ) (v : World) → done ≤ length bytes → GoesOn n done done bytes v (after (Written n done [] false) v)
goes_nowhere n done bytes v fits = record { on = λ path w so. writing_fails n done bytes path w v so fits }

pub written_failed : (n at : ℕ) (bytes : List ℕ) (ok : Bool) (w : World) → (after (Written n at bytes ok) w).failed ≡ w.failed
written_failed n at bytes true w = changed_failed (written at bytes) (place_of w n) w
written_failed n at bytes false w = changed_failed (unwritten at) (place_of w n) w

cut_filled : (done : ℕ) (bytes : List ℕ) (x : Lying) → done ≡ length bytes → IsFile x → (done ≡ 0) ⊎ Begins x (take done bytes) → cut done x ≡ Whole false bytes
cut_filled done bytes x all file (inl none) =
    let empty : bytes ≡ [] = no_items bytes (sym none ∙ all) in
    rw (none, empty) (cut_all x file)
cut_filled done bytes x all file (inr begins) =
    cut_here done bytes x (subst (λ (b : List ℕ). Begins x b) (ap (λ (d : ℕ). take d bytes) all ∙ take-length bytes) begins) all

-- all of them are, and the file is cut there
pub writing_ends : (n done : ℕ) (bytes path : List ℕ) (w v : World) → IsWriting n done bytes path w v → done ≡ length bytes
    → HasBytes (after (Cut n done true) v) path bytes
writing_ends n done bytes path w v so all =
    let changed = is_changed (cut done) v n path so.at in
    record { lasts = false; has = changed.here ∙ cut_filled done bytes (v.named path) all so.at.file so.begins }

-- the file of a number stays at its path where that is cut
pub cut_stays : (n len : ℕ) (ok : Bool) (path : List ℕ) (w : World) → IsAt w n path → IsAt (after (Cut n len ok) w) n path
cut_stays n len true path w at =
    let changed = is_changed (cut len) w n path at in
    record { place = changed.place n path at.place; file = rw changed.here (file_cut len (w.named path) at.file) }
cut_stays n len false path w at =
    let changed = is_changed uncut w n path at in
    record { place = changed.place n path at.place; file = rw changed.here (file_uncut (w.named path) at.file) }

-- and all other paths are as they were
pub cut_others : (n len : ℕ) (ok : Bool) (path : List ℕ) (w : World) → IsAt w n path → (q : List ℕ) → (q ≡ path → ⊥) → SameAt w (after (Cut n len ok) w) q
cut_others n len true path w at q other = (is_changed (cut len) w n path at).there q other
cut_others n len false path w at q other = (is_changed uncut w n path at).there q other

pub cut_failed : (n len : ℕ) (ok : Bool) (w : World) → (after (Cut n len ok) w).failed ≡ w.failed
cut_failed n len true w = changed_failed (cut len) (place_of w n) w
cut_failed n len false w = changed_failed uncut (place_of w n) w

-- A sync.

settled_leaves : (was : List ℕ → List ℕ → Type 0) (x : Lying) (c : List ℕ) → Leaves was (settled x) c → Leaves was x c
settled_leaves was (Before path) c h = h
settled_leaves was (Whole true bytes) c h = h
settled_leaves was (Whole false bytes) c h = tt
settled_leaves was (Front bytes) c h = h
settled_leaves was Nothing c h = h
settled_leaves was Unknown c h = h

settled_if : (was : List ℕ → List ℕ → Type 0) (t : Bool) (x : Lying) (c : List ℕ) → Leaves was (if t then settled x else x) c → Leaves was x c
settled_if was true x c h = settled_leaves was x c h
settled_if was false x c h = h

synced_adds : (was : List ℕ → List ℕ → Type 0) (place : Option (List ℕ)) (w : World) → AddsNone was w (synced_at place w)
synced_adds was None w q c h = h
synced_adds was (Some path) w q c (inl h) = inl (settled_if was (bytes_eq path q) (w.named q) c h)
synced_adds was (Some path) w q c (inr h) = inr h

if_failed_adds : (was : List ℕ → List ℕ → Type 0) (t : Bool) (w v : World) → AddsNone was w v → AddsNone was w (if t then w else v)
if_failed_adds was true w v h = λ q c l. l
if_failed_adds was false w v h = h

pub sync_adds : (was : List ℕ → List ℕ → Type 0) (n : ℕ) (ok : Bool) (w : World) → AddsNone was w (after (Synced n ok) w)
sync_adds was n true w = if_failed_adds was w.failed w (synced_at (place_of w n) w) (synced_adds was (place_of w n) w)
sync_adds was n false w = λ q c h. h

-- what a file that is at its path has after a sync
module _ (n : ℕ) (path : List ℕ) (w : World) (at : IsAt w n path) (sound : w.failed ≡ false) where
  sync_is : after (Synced n true) w ≡ changed_at settled path w
  sync_is = rw (sound, at.place)

  pub sync_lasts : (bytes : List ℕ) → HasBytes w path bytes → (after (Synced n true) w).named path ≡ Whole true bytes
  sync_lasts bytes has = ap (λ (v : World). v.named path) sync_is ∙ changed_here settled path w ∙ ap settled has.has

settled_whole : (t : Bool) (lasts : Bool) (bytes : List ℕ) (x : Lying) → x ≡ Whole lasts bytes → (after_lasts : Bool) × ((if t then settled x else x) ≡ Whole after_lasts bytes)
settled_whole true lasts bytes x e = (true, ap settled e)
settled_whole false lasts bytes x e = (lasts, e)

synced_keeps : (place : Option (List ℕ)) (w : World) (path bytes : List ℕ) → HasBytes w path bytes → HasBytes (synced_at place w) path bytes
synced_keeps None w path bytes has = has
synced_keeps (Some other) w path bytes has =
    let so = settled_whole (bytes_eq other path) has.lasts bytes (w.named path) has.has in record { lasts = so.0; has = so.1 }

if_failed_keeps : (t : Bool) (w v : World) (path bytes : List ℕ) → HasBytes w path bytes → HasBytes v path bytes → HasBytes (if t then w else v) path bytes
if_failed_keeps true w v path bytes one two = one
if_failed_keeps false w v path bytes one two = two

-- it is read as before
pub sync_keeps : (n : ℕ) (ok : Bool) (w : World) (path bytes : List ℕ) → HasBytes w path bytes → HasBytes (after (Synced n ok) w) path bytes
sync_keeps n true w path bytes has = if_failed_keeps w.failed w (synced_at (place_of w n) w) path bytes has (synced_keeps (place_of w n) w path bytes has)
sync_keeps n false w path bytes has = record { lasts = has.lasts; has = has.has }

settled_or : (t : Bool) (x : Lying) → IsSettled x (if t then settled x else x)
settled_or true x = inr refl
settled_or false x = inl refl

synced_settles : (place : Option (List ℕ)) (w : World) (path : List ℕ) → IsSettled (w.named path) ((synced_at place w).named path)
synced_settles None w path = inl refl
synced_settles (Some other) w path = settled_or (bytes_eq other path) (w.named path)

if_failed_settles : (t : Bool) (w v : World) (path : List ℕ) → IsSettled (w.named path) (v.named path) → IsSettled (w.named path) ((if t then w else v).named path)
if_failed_settles true w v path h = inl refl
if_failed_settles false w v path h = h

-- Each path has what it had.
pub sync_settles : (n : ℕ) (ok : Bool) (w : World) (path : List ℕ) → IsSettled (w.named path) ((after (Synced n ok) w).named path)
sync_settles n true w path = if_failed_settles w.failed w (synced_at (place_of w n) w) path (synced_settles (place_of w n) w path)
sync_settles n false w path = inl refl

synced_failed : (place : Option (List ℕ)) (w : World) → (synced_at place w).failed ≡ w.failed
synced_failed None w = refl
synced_failed (Some path) w = refl

if_failed : (t : Bool) (w v : World) → w.failed ≡ false → v.failed ≡ false → (if t then w else v).failed ≡ false
if_failed true w v one two = one
if_failed false w v one two = two

-- A sync that ends well fails nothing, and one that doesn't has failed.
pub sync_failed : (n : ℕ) (ok : Bool) (w : World) → w.failed ≡ false → (after (Synced n ok) w).failed ≡ not ok
sync_failed n true w sound = if_failed w.failed w (synced_at (place_of w n) w) sound (synced_failed (place_of w n) w ∙ sound)
sync_failed n false w sound = refl

-- A sync of a folder.

names_left : (was : List ℕ → List ℕ → Type 0) (t : Bool) (xs : List Lying) (c : List ℕ) → LeavesOne was (if t then [] else xs) c → LeavesOne was xs c
names_left was true xs c h = absurd h
names_left was false xs c h = h

names_adds : (was : List ℕ → List ℕ → Type 0) (folder : List ℕ) (w : World) → AddsNone was w (names_synced folder w)
names_adds was folder w q c (inl h) = inl h
names_adds was folder w q c (inr h) = inr (names_left was (bytes_eq folder (folder_path q)) (w.others q) c h)

pub folder_adds : (was : List ℕ → List ℕ → Type 0) (folder : List ℕ) (answer : Answer) (w : World) → AddsNone was w (after (FolderSynced folder answer) w)
folder_adds was folder Done w = if_failed_adds was w.failed w (names_synced folder w) (names_adds was folder w)
folder_adds was folder Unsupported w = if_failed_adds was w.failed w (names_synced folder w) (names_adds was folder w)
folder_adds was folder Short w = λ q c h. h
folder_adds was folder Failed w = λ q c h. h

if_failed_named : (t : Bool) (w v : World) (q : List ℕ) → v.named q ≡ w.named q → (if t then w else v).named q ≡ w.named q
if_failed_named true w v q e = refl
if_failed_named false w v q e = e

pub folder_named : (folder : List ℕ) (answer : Answer) (w : World) → SameNames w (after (FolderSynced folder answer) w)
folder_named folder Done w q = if_failed_named w.failed w (names_synced folder w) q refl
folder_named folder Unsupported w q = if_failed_named w.failed w (names_synced folder w) q refl
folder_named folder Short w q = refl
folder_named folder Failed w q = refl

none_else : (folder : List ℕ) (w : World) (path : List ℕ) → folder ≡ folder_path path → (names_synced folder w).others path ≡ []
none_else folder w path e = rw ((bytes_eq-Decides folder (folder_path path)).1 e)

-- Nothing else may have a name of a folder that was synced.
pub folder_lasts : (folder : List ℕ) (answer : Answer) (w : World) (path : List ℕ) → w.failed ≡ false → (answer ≡ Done) ⊎ (answer ≡ Unsupported) → folder ≡ folder_path path
    → (after (FolderSynced folder answer) w).others path ≡ []
folder_lasts folder Done w path sound well e = rw sound (none_else folder w path e)
folder_lasts folder Unsupported w path sound well e = rw sound (none_else folder w path e)
folder_lasts folder Short w path sound (inl well) e = absurd (cc)
folder_lasts folder Short w path sound (inr well) e = absurd (cc)
folder_lasts folder Failed w path sound (inl well) e = absurd (cc)
folder_lasts folder Failed w path sound (inr well) e = absurd (cc)

abbrev pub ends_well : Answer → Bool
ends_well Done = true
ends_well Unsupported = true
ends_well Short = false
ends_well Failed = false

pub folder_failed : (folder : List ℕ) (answer : Answer) (w : World) → w.failed ≡ false → (after (FolderSynced folder answer) w).failed ≡ not (ends_well answer)
folder_failed folder Done w sound = if_failed w.failed w (names_synced folder w) sound sound
folder_failed folder Unsupported w sound = if_failed w.failed w (names_synced folder w) sound sound
folder_failed folder Short w sound = refl
folder_failed folder Failed w sound = refl

-- A rename.

renamed_test : (was : List ℕ → List ℕ → Type 0) (t s : Bool) (x y : Lying) (ys : List Lying) (c : List ℕ)
    → Leaves was (if t then x else if s then Nothing else y) c ⊎ LeavesOne was (if t || s then y ∷ ys else ys) c → (Leaves was y c ⊎ LeavesOne was ys c) ⊎ Leaves was x c
renamed_test was true s x y ys c (inl h) = inr h
renamed_test was true s x y ys c (inr h) = inl h
renamed_test was false true x y ys c (inl h) = absurd h
renamed_test was false true x y ys c (inr h) = inl h
renamed_test was false false x y ys c h = inl h

maybe_test : (was : List ℕ → List ℕ → Type 0) (t : Bool) (x y : Lying) (ys : List Lying) (c : List ℕ)
    → Leaves was y c ⊎ LeavesOne was (if t then x ∷ ys else ys) c → (Leaves was y c ⊎ LeavesOne was ys c) ⊎ Leaves was x c
maybe_test was true x y ys c (inl h) = inl (inl h)
maybe_test was true x y ys c (inr (inl h)) = inr h
maybe_test was true x y ys c (inr (inr h)) = inl (inr h)
maybe_test was false x y ys c h = inl h

pub rename_adds : (was : List ℕ → List ℕ → Type 0) (from to : List ℕ) (answer : Answer) (w : World) → AddsOnly was (w.named from) w (after (Renamed from to answer) w)
rename_adds was from to Done w = λ q c h. renamed_test was (bytes_eq to q) (bytes_eq from q) (w.named from) (w.named q) (w.others q) c h
rename_adds was from to Short w = λ q c h. inl h
rename_adds was from to Unsupported w = λ q c h. maybe_test was (bytes_eq to q) (w.named from) (w.named q) (w.others q) c h
rename_adds was from to Failed w = λ q c h. maybe_test was (bytes_eq to q) (w.named from) (w.named q) (w.others q) c h

-- the second path has what the first had
pub rename_names : (from to : List ℕ) (w : World) → (after (Renamed from to Done) w).named to ≡ w.named from
rename_names from to w = here to (w.named from) (if bytes_eq from to then Nothing else w.named to)

-- What has neither name is as it was.
pub rename_others : (from to : List ℕ) (answer : Answer) (w : World) (q : List ℕ) → (q ≡ from → ⊥) → (q ≡ to → ⊥) → SameAt w (after (Renamed from to answer) w) q
rename_others from to Done w q m n = record {
  named = there to q (w.named from) (if bytes_eq from q then Nothing else w.named q) n ∙ there from q Nothing (w.named q) m;
  others = rw (is_other to q n, is_other from q m);
}
rename_others from to Short w q m n = record { named = refl; others = refl }
rename_others from to Unsupported w q m n = record { named = refl; others = there to q (w.named from ∷ w.others q) (w.others q) n }
rename_others from to Failed w q m n = record { named = refl; others = there to q (w.named from ∷ w.others q) (w.others q) n }

pub rename_failed : (from to : List ℕ) (answer : Answer) (w : World) → (after (Renamed from to answer) w).failed ≡ w.failed
rename_failed from to Done w = refl
rename_failed from to Short w = refl
rename_failed from to Unsupported w = refl
rename_failed from to Failed w = refl

-- A rename that isn't done leaves the names as they are.
pub rename_refused : (from to : List ℕ) (answer : Answer) (w : World) → (answer ≡ Done → ⊥) → SameNames w (after (Renamed from to answer) w)
rename_refused from to Done w n = absurd (n refl)
rename_refused from to Short w n = λ q. refl
rename_refused from to Unsupported w n = λ q. refl
rename_refused from to Failed w n = λ q. refl

-- A link.

linked_test : (was : List ℕ → List ℕ → Type 0) (t : Bool) (x y : Lying) (ys : List Lying) (c : List ℕ)
    → Leaves was (if t then x else y) c ⊎ LeavesOne was (if t then y ∷ ys else ys) c → (Leaves was y c ⊎ LeavesOne was ys c) ⊎ Leaves was x c
linked_test was true x y ys c (inl h) = inr h
linked_test was true x y ys c (inr h) = inl h
linked_test was false x y ys c h = inl h

pub link_adds : (was : List ℕ → List ℕ → Type 0) (from to : List ℕ) (ok : Bool) (w : World) → AddsOnly was (w.named from) w (after (Linked from to ok) w)
link_adds was from to true w = λ q c h. linked_test was (bytes_eq to q) (w.named from) (w.named q) (w.others q) c h
link_adds was from to false w = λ q c h. maybe_test was (bytes_eq to q) (w.named from) (w.named q) (w.others q) c h

pub link_others : (from to : List ℕ) (ok : Bool) (w : World) (q : List ℕ) → (q ≡ to → ⊥) → SameAt w (after (Linked from to ok) w) q
link_others from to true w q n = record {
  named = there to q (w.named from) (w.named q) n;
  others = there to q (w.named q ∷ w.others q) (w.others q) n;
}
link_others from to false w q n = record { named = refl; others = there to q (w.named from ∷ w.others q) (w.others q) n }

pub link_failed : (from to : List ℕ) (ok : Bool) (w : World) → (after (Linked from to ok) w).failed ≡ w.failed
link_failed from to true w = refl
link_failed from to false w = refl

-- A file is removed.

removed_test : (was : List ℕ → List ℕ → Type 0) (t : Bool) (y : Lying) (ys : List Lying) (c : List ℕ)
    → Leaves was (if t then Nothing else y) c ⊎ LeavesOne was (if t then y ∷ ys else ys) c → Leaves was y c ⊎ LeavesOne was ys c
removed_test was true y ys c (inl h) = absurd h
removed_test was true y ys c (inr h) = h
removed_test was false y ys c h = h

pub remove_adds : (was : List ℕ → List ℕ → Type 0) (path : List ℕ) (ok : Bool) (w : World) → AddsNone was w (after (Removed path ok) w)
remove_adds was path true w = λ q c h. removed_test was (bytes_eq path q) (w.named q) (w.others q) c h
remove_adds was path false w = λ q c h. h

pub remove_others : (path : List ℕ) (ok : Bool) (w : World) (q : List ℕ) → (q ≡ path → ⊥) → SameAt w (after (Removed path ok) w) q
remove_others path true w q n = record {
  named = there path q Nothing (w.named q) n;
  others = there path q (w.named q ∷ w.others q) (w.others q) n;
}
remove_others path false w q n = record { named = refl; others = refl }

pub remove_failed : (path : List ℕ) (ok : Bool) (w : World) → (after (Removed path ok) w).failed ≡ w.failed
remove_failed path true w = refl
remove_failed path false w = refl

pub changes_none : (n : ℕ) (w : World) → ChangesOnly n w w
changes_none n w = record { at = λ path at. at; others = λ path other at ne. record { named = refl; others = refl }; failed = refl }

pub changes_then : (n : ℕ) (w v u : World) → ChangesOnly n w v → ChangesOnly n v u → ChangesOnly n w u
changes_then n w v u one two = record {
  at = λ path at. two.at path (one.at path at);
  others = λ path other at ne. same_then w v u other (one.others path other at ne) (two.others path other (one.at path at) ne);
  failed = two.failed ∙ one.failed;
}

changed_only : (how : Lying → Lying) (n : ℕ) (w : World) → ((x : Lying) → IsFile x → IsFile (how x)) → ChangesOnly n w (changed how (place_of w n) w)
changed_only how n w files = record {
  at = λ path at.
      let so = is_changed how w n path at in
      record { place = so.place n path at.place; file = rw so.here (files (w.named path) at.file) };
  others = λ path other at ne. (is_changed how w n path at).there other ne;
  failed = changed_failed how (place_of w n) w;
}

pub written_only : (n at : ℕ) (bytes : List ℕ) (w : World) → ChangesOnly n w (after (Written n at bytes true) w)
written_only n at bytes w = changed_only (written at bytes) n w (file_written at bytes)

pub unwritten_only : (n at : ℕ) (bytes : List ℕ) (w : World) → ChangesOnly n w (after (Written n at bytes false) w)
unwritten_only n at bytes w = changed_only (unwritten at) n w (file_unwritten at)

file_settled_if : (t : Bool) (x : Lying) → IsFile x → IsFile (if t then settled x else x)
file_settled_if true x h = file_settled x h
file_settled_if false x h = h

synced_place : (place : Option (List ℕ)) (w : World) → SamePlaces w (synced_at place w)
synced_place None w n path at = at
synced_place (Some other) w n path at = record {
  place = changed_place settled other w n path at.place;
  file = file_settled_if (bytes_eq other path) (w.named path) at.file;
}

if_failed_place : (t : Bool) (w v : World) → SamePlaces w v → SamePlaces w (if t then w else v)
if_failed_place true w v h = λ n path at. at
if_failed_place false w v h = h

pub sync_place : (n : ℕ) (ok : Bool) (w : World) → SamePlaces w (after (Synced n ok) w)
sync_place n true w = if_failed_place w.failed w (synced_at (place_of w n) w) (synced_place (place_of w n) w)
sync_place n false w = λ m path at. record { place = same_place w (after (Synced n false) w) m path (λ k. refl) at.place; file = at.file }

-- Where a rename isn't done, all files stay where they are.
pub rename_place : (from to : List ℕ) (answer : Answer) (w : World) → (answer ≡ Done → ⊥) → SamePlaces w (after (Renamed from to answer) w)
rename_place from to Done w n = absurd (n refl)
rename_place from to Short w n = λ m path at. at
rename_place from to Unsupported w n = λ m path at. record { place = same_place w (maybe_at from to w) m path (λ k. refl) at.place; file = at.file }
rename_place from to Failed w n = λ m path at. record { place = same_place w (maybe_at from to w) m path (λ k. refl) at.place; file = at.file }

link_from_test : (t : Bool) (x : Lying) → (if t then x else x) ≡ x
link_from_test true x = refl
link_from_test false x = refl

pub link_names : (from to : List ℕ) (w : World) → (after (Linked from to true) w).named to ≡ w.named from
link_names from to w = here to (w.named from) (w.named to)

-- What got another name has its own as well.
pub link_from : (from to : List ℕ) (ok : Bool) (w : World) → (after (Linked from to ok) w).named from ≡ w.named from
link_from from to true w = link_from_test (bytes_eq to from) (w.named from)
link_from from to false w = refl

adds_or : (was : List ℕ → List ℕ → Type 0) (x : Lying) (w v : World) (path c : List ℕ) → AddsOnly was x w v → MayLeave was v path c ⊎ Leaves was x c → MayLeave was w path c ⊎ Leaves was x c
adds_or was x w v path c one (inl h) = one path c h
adds_or was x w v path c one (inr h) = inr h

-- what a crash leaves after two steps, of which each adds no more than this
pub adds_then : (was : List ℕ → List ℕ → Type 0) (x : Lying) (w v u : World) → AddsOnly was x w v → AddsOnly was x v u → AddsOnly was x w u
adds_then was x w v u one two path c h = adds_or was x w v path c one (two path c h)

-- What calls did to a file since it was made.

-- a file is locked after the call that locks it
pub locked_now : (n : ℕ) (new old : List Event) → new ≡ Locked n true ∷ old → is_locked n new ≡ true
unfolding is_locked
locked_now n new old is = ap (is_locked n) is ∙ number_here n true (is_locked n old)

-- it has the mode that it is made with
pub mode_made : (path : List ℕ) (mode n : ℕ) (new old : List Event) → new ≡ Made path mode n true ∷ old → made_mode n new ≡ mode
unfolding made_mode
mode_made path mode n new old is = ap (made_mode n) is ∙ number_here n mode (made_mode n old)

-- which a lock doesn't change
pub mode_stays : (m n : ℕ) (ok : Bool) (new old : List Event) → new ≡ Locked n ok ∷ old → made_mode m new ≡ made_mode m old
unfolding made_mode
mode_stays m n ok new old is = ap (made_mode m) is

-- so it is where the call says that it was done
pub locked_if : {A E : Type 0} (n : ℕ) (new old : List Event) (r : Result A E) → new ≡ Locked n (is_ok r) ∷ old → OnOk r (IsTrue (is_locked n new))
locked_if n new old (Ok x) is = locked_now n new old is
locked_if n new old (Err e) is = tt
