-- What a call leaves of the file that it is of.
use Rattle.std.proofs.Common.{◌≡◌, ◌==◌, ℕ, Bool, true, false, if◌then◌else◌, List, ◌∷◌, refl, ap, ◌∙◌}
use Rattle.std.specs.Prelude.{Result, Ok, Err, OnErr, OnOk, is_ok}
use Rattle.std.proofs.lemmas.Bool.Decides.{Decides-eqb}
use Rattle.host_calls.specs.Events.{Event, Made, Written, Cut, Synced}
use Rattle.log_files.specs.Contents.{made, written, unwritten, cut, settled, after, before, contents}

-- the contents after one more call
pub replayed : (number : ℕ) (writes : List (List ℕ)) (new old : List Event) (call : Event) → new ≡ call ∷ old
    → contents number writes new ≡ after number call writes (contents number (before call writes) old)
unfolding contents
replayed number writes new old call is = ap (contents number writes) is

itself : {A : Type 0} (n : ℕ) (x y : A) → (if n == n then x else y) ≡ x
itself n x y = rw ((Decides-eqb n n).1 refl)

-- a file was made
pub made_now : (n mode : ℕ) (path : List ℕ) (writes : List (List ℕ)) (new old : List Event) → new ≡ Made path mode n true ∷ old → contents n writes new ≡ made
made_now n mode path writes new old is = replayed n writes new old _ is ∙ itself n made (contents n writes old)

-- none was
pub unmade_now : (n mode : ℕ) (path : List ℕ) (writes : List (List ℕ)) (new old : List Event) → new ≡ Made path mode 0 false ∷ old → contents n writes new ≡ contents n writes old
unmade_now n mode path writes new old is = replayed n writes new old _ is

-- bytes were taken
pub written_now : (n at : ℕ) (bytes : List ℕ) (writes : List (List ℕ)) (new old : List Event) → new ≡ Written n at bytes true ∷ old
    → contents n writes new ≡ written at bytes (contents n writes old)
written_now n at bytes writes new old is = replayed n writes new old _ is ∙ itself n (written at bytes (contents n writes old)) (contents n writes old)

-- a write failed, and what it was to write is noted
pub unwritten_now : (n at : ℕ) (bytes : List ℕ) (taken : List ℕ) (writes : List (List ℕ)) (new old : List Event) → new ≡ Written n at taken false ∷ old
    → contents n (bytes ∷ writes) new ≡ unwritten at (bytes ∷ writes) (contents n writes old)
unwritten_now n at bytes taken writes new old is = replayed n (bytes ∷ writes) new old _ is ∙ itself n (unwritten at (bytes ∷ writes) (contents n writes old)) (contents n writes old)

-- a file got a length, or may have
pub cut_now : (n len : ℕ) (ok : Bool) (writes : List (List ℕ)) (new old : List Event) → new ≡ Cut n len ok ∷ old
    → contents n writes new ≡ cut len ok (contents n writes old)
cut_now n len ok writes new old is = replayed n writes new old _ is ∙ itself n (cut len ok (contents n writes old)) (contents n writes old)

-- a file was synced, or may have been
pub synced_now : (n : ℕ) (ok : Bool) (writes : List (List ℕ)) (new old : List Event) → new ≡ Synced n ok ∷ old
    → contents n writes new ≡ settled ok (contents n writes old)
synced_now n ok writes new old is = replayed n writes new old _ is ∙ itself n (settled ok (contents n writes old)) (contents n writes old)

-- what holds where a call ended well
pub ok_then : {T E : Type 0} (r : Result T E) (P : Type 0) → (is_ok r ≡ true → P) → OnOk r P
ok_then (Ok x) P h = h refl
ok_then (Err e) P h = tt

pub err_then : {T E : Type 0} (r : Result T E) (P : Type 0) → P → OnErr r P
err_then (Ok x) P h = tt
err_then (Err e) P h = h

pub ok_map : {T E : Type 0} (r : Result T E) (P Q : Type 0) → (P → Q) → OnOk r P → OnOk r Q
ok_map (Ok x) P Q how h = how h
ok_map (Err e) P Q how h = tt
