-- What is printed of a drive, line by line.
use Rattle.std.proofs.Common.{◌≡◌, ◌+◌, ◌-◌, ◌<◌, ◌≤◌, ◌++◌, ◌∙◌, ◌==◌, ◌*◌, ◌%◌, ◌^◌, ℕ, Bool, true, false, List, [], ◌∷◌, length, count_by, cond, Option, get_or, take, drop, ap, ap₂, sym, subst, refl, arith}
use Rattle.std.proofs.lemmas.List.{length-append, drop_more, drop_all}
use Rattle.std.proofs.lemmas.List.Sums.{count_by-le-length, sum_by_more, sum_by_push}
use Rattle.std.specs.List.{flat_map}
use Rattle.std.specs.Io.KnownBytes.{Appends}
use Rattle.std.proofs.KnownBytes.{Appends-trans, Appends-nil}
use Rattle.s4_types.specs.declared.spans.Span.{Span}
use Rattle.s4_model.specs.State.{State}
use Rattle.segment_word.specs.Frames.{Frame, Phase, Free, Open, Sealed, Draining, code_of, is_free, no_frame}
use Rattle.segment_word.specs.Layout.{word_of, frame_at}
use Rattle.version_store.specs.Store.{StoreFields}
use Rattle.history_view.specs.declared.listing.Listed.{Listed}
use Rattle.history_view.specs.Listing.{AreListedFrom, IsListedNext, IsPassed}
use Rattle.history_versions.specs.Lines.{line_with_versions}
use Rattle.history_versions.specs.declared.lines.VersionsAsked.{VersionsAsked}
use Rattle.segment_word.proofs.Words.{code_below_four}
use Rattle.s4_reading.specs.Listing.{ListsRows}
use Rattle.s4_reading.specs.Telling.{CountsObjects, objects_hidden}
use Rattle.history_view.proofs.Fronts.{IsFront, front_begun, front_more, front_whole, flat_more}

-- ---- lists

-- the objects up to one are listed
pub record ListedTo (s : State) (store : StoreFields) (t : ℕ) (deleted : Bool) (line : Listed → List ℕ) (last : ℕ) (output output' : Option (List ℕ)) : Type 0 where
  pub rows : List Listed
  pub front : IsFront (AreListedFrom s store deleted t) rows last
  pub wrote : Appends output output' (flat_map line rows)

-- none is at first
pub none_listed : (s : State) (store : StoreFields) (t : ℕ) (deleted : Bool) (line : Listed → List ℕ) (output : Option (List ℕ)) → ListedTo s store t deleted line 0 output output
none_listed s store t deleted line output = record { rows = []; front = front_begun (AreListedFrom s store deleted t); wrote = Appends-nil output }

-- the next one is
pub listed_on : (s : State) (store : StoreFields) (t : ℕ) (deleted : Bool) (line : Listed → List ℕ) (last : ℕ) (row : Listed) (a b c : Option (List ℕ)) → ListedTo s store t deleted line last a b → IsListedNext s store deleted t last row
    → Appends b c (line row) → ListedTo s store t deleted line row.object a c
listed_on s store t deleted line last row a b c before next wrote = record {
  rows = before.rows ++ row ∷ [];
  front = front_more (AreListedFrom s store deleted t) before.rows row last row.object before.front (λ rest more. (next, more));
  wrote = subst (Appends a c) (sym (flat_more line before.rows row)) (Appends-trans a b c (flat_map line before.rows) (line row) before.wrote wrote);
}

-- all are, where nothing is listed after the last
pub all_listed : (s : State) (store : StoreFields) (t : ℕ) (deleted : Bool) (line : Listed → List ℕ) (last : ℕ) (a b : Option (List ℕ)) → ListedTo s store t deleted line last a b → ((o : ℕ) → last < o → IsPassed s store deleted t o)
    → ListsRows s store t deleted line a b
all_listed s store t deleted line last a b before none = record {
  rows = before.rows;
  listed = front_whole (AreListedFrom s store deleted t) before.rows last before.front none;
  wrote = before.wrote;
}

-- ---- drives that stay

-- what is listed next of an equal drive is the same
pub next_as_alike : (s s' : State) (store store' : StoreFields) (deleted : Bool) (t after : ℕ) (row : Listed) → s ≡ s' → store ≡ store' → IsListedNext s store deleted t after row → IsListedNext s' store' deleted t after row
next_as_alike s s' store store' deleted t after row state stored next =
    subst (λ (x : StoreFields). IsListedNext s' x deleted t after row) stored (subst (λ (x : State). IsListedNext x store deleted t after row) state next)

-- so is what is passed
pub passed_as_alike : (s s' : State) (store store' : StoreFields) (deleted : Bool) (t o : ℕ) → s ≡ s' → store ≡ store' → IsPassed s store deleted t o → IsPassed s' store' deleted t o
passed_as_alike s s' store store' deleted t o state stored passed =
    subst (λ (x : StoreFields). IsPassed s' x deleted t o) stored (subst (λ (x : State). IsPassed x store deleted t o) state passed)

-- and the line of an object with its versions
pub line_as_alike : (s s' : State) (store store' : StoreFields) (asked : VersionsAsked) (row : Listed) (a b : Option (List ℕ)) → s ≡ s' → store ≡ store' → Appends a b (line_with_versions s store asked row) → Appends a b (line_with_versions s' store' asked row)
line_as_alike s s' store store' asked row a b state stored wrote =
    subst (λ (x : StoreFields). Appends a b (line_with_versions s' x asked row)) stored (subst (λ (x : State). Appends a b (line_with_versions x store asked row)) state wrote)

-- ---- counts

-- the objects up to one are counted: those that are live, and all
pub record CountedTo (s : State) (store : StoreFields) (last live all : ℕ) : Type 0 where
  pub rows : List Listed
  pub front : IsFront (AreListedFrom s store true s.clock) rows last
  pub are_live : live ≡ count_by (λ row. row.is_live) rows
  pub are_all : all ≡ length rows

-- none is at first
pub none_counted : (s : State) (store : StoreFields) → CountedTo s store 0 0 0
none_counted s store = record { rows = []; front = front_begun (AreListedFrom s store true s.clock); are_live = refl; are_all = refl }

-- one more that is live or isn't
one_more : (rows : List Listed) (row : Listed) → count_by (λ r. r.is_live) (rows ++ row ∷ []) ≡ count_by (λ r. r.is_live) rows + cond row.is_live 1 0
one_more rows row = sum_by_push (λ r. cond r.is_live 1 0) rows row

-- the next one is counted
pub counted_on : (s : State) (store : StoreFields) (last live all more : ℕ) (row : Listed) → CountedTo s store last live all → IsListedNext s store true s.clock last row → more ≡ cond row.is_live 1 0
    → CountedTo s store row.object (live + more) (all + 1)
counted_on s store last live all more row before next is = record {
  rows = before.rows ++ row ∷ [];
  front = front_more (AreListedFrom s store true s.clock) before.rows row last row.object before.front (λ rest after. (next, after));
  are_live = ap₂ (λ a b. a + b) before.are_live is ∙ sym (one_more before.rows row);
  are_all = ap (λ n. n + 1) before.are_all ∙ sym (length-append before.rows (row ∷ []));
}

-- all are counted, where nothing is listed after the last
pub all_counted : (s : State) (store : StoreFields) (last live all : ℕ) → CountedTo s store last live all → ((o : ℕ) → last < o → IsPassed s store true s.clock o) → CountsObjects s store live (all - live)
all_counted s store last live all before none = record {
  rows = before.rows;
  listed = front_whole (AreListedFrom s store true s.clock) before.rows last before.front none;
  are_live = before.are_live;
  are_all = omega (arith, before.are_live, before.are_all, count_by-le-length (λ r. r.is_live) before.rows);
}

-- as many are live as there are at most
pub live_among_all : (s : State) (store : StoreFields) (last live all : ℕ) → CountedTo s store last live all → live ≤ all
live_among_all s store last live all before = omega (arith, before.are_live, before.are_all, count_by-le-length (λ r. r.is_live) before.rows)

-- ---- free frames

low_bits : (code g : ℕ) → code < 4 → (code + 4 * 0 + 2 ^ 32 * g) % 4 ≡ code
low_bits code g few = omega (arith, few)

free_by_code : (phase : Phase) → (code_of phase == 0) ≡ is_free phase
free_by_code Free = refl
free_by_code Open = refl
free_by_code Sealed = refl
free_by_code Draining = refl

-- the two low bits of a frame's word say whether it is free
pub free_by_word : (k : Frame) (word : ℕ) → word ≡ word_of k 0 → (word % 4 == 0) ≡ is_free k.phase
free_by_word k word is = ap (λ n. n == 0) (ap (λ n. n % 4) is ∙ low_bits (code_of k.phase) k.generation (code_below_four k.phase)) ∙ free_by_code k.phase

pub at_most_one : (test : Bool) (n : ℕ) → n ≡ cond test 1 0 → n ≤ 1
at_most_one true n is = omega (arith, is)
at_most_one false n is = omega (arith, is)

-- one frame more is counted by a test
pub frame_counted : (test : Frame → Bool) (frames : List Frame) (f n : ℕ) (passes : Bool) (more : ℕ) → f < length frames → n ≡ count_by test (take f frames) → passes ≡ test (frame_at frames f) → more ≡ cond passes 1 0
    → n + more ≡ count_by test (take (f + 1) frames)
frame_counted test frames f n passes more inside so_far tested is =
    ap₂ (λ a b. a + b) so_far (is ∙ ap (λ (b : Bool). cond b 1 0) tested) ∙ sym (sum_by_more (λ k. cond (test k) 1 0) frames f no_frame inside)

-- ---- hidden moments

-- one run more is counted
pub objects_on : (runs : List Span) (i last counted all : ℕ) (run : Span) → i < length runs → run ≡ get_or runs i run → counted + objects_hidden last (drop i runs) ≡ all
    → (counted + cond (run.object == last) 0 1) + objects_hidden run.object (drop (i + 1) runs) ≡ all
objects_on runs i last counted all run lt here so_far =
    let rest = drop (i + 1) runs in
    let more : objects_hidden last (drop i runs) ≡ cond (run.object == last) 0 1 + objects_hidden run.object rest =
    ap (objects_hidden last) (drop_more runs i run lt ∙ ap (λ (r : Span). r ∷ rest) (sym here)) in
    omega (arith, so_far, more)

-- all are, at the end
pub objects_all : (runs : List Span) (i last counted all : ℕ) → length runs ≤ i → counted + objects_hidden last (drop i runs) ≡ all → counted ≡ all
objects_all runs i last counted all over so_far =
    let none : objects_hidden last (drop i runs) ≡ 0 = ap (objects_hidden last) (drop_all i runs over) in
    omega (arith, so_far, none)
