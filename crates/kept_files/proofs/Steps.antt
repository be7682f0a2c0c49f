-- What steps leave, one after the other.
use Rattle.std.proofs.Common.{◌≡◌, ◌≢◌, ◌∙◌, ◌⊎◌, ◌+◌, ◌++◌, ◌&&◌, not, ℕ, Bool, true, false, List, [], inl, inr, refl, sym, ap, subst, arith, length, length-append}
use Rattle.std.specs.Prelude.{codes, Option, None, Some, IsSomeAnd, Result, Ok, Err, OnOk, is_ok, string_bytes}
use Rattle.host_calls.specs.Events.{Event}
use Rattle.host_calls.specs.Replay.{Lying, Whole, World, Leaves, LeavesOne, MayLeave, replay}
use Rattle.host_calls.specs.Worlds.{AddsNone, AddsOnly, HasBytes, HasLasting, IsAt, SameAt, SameNames}
use Rattle.image_commands.specs.Beside.{numbered, part_path}
use Rattle.image_keeping.specs.Leaving.{Only}
use Rattle.kept_files.specs.Besides.{BesideLeaves, IsBesideWritten}
use Rattle.kept_files.specs.Places.{AreOthersAsBefore, AreRestAsBefore, IsAsBefore}
use Rattle.kept_files.specs.declared.making.Beside.{Beside}

pub before_of : (path : List ℕ) (w v : World) → SameAt w v path → v.failed ≡ w.failed → IsAsBefore path w v
before_of path w v same failed = record { same = same; failed = failed }

pub before_equal : (path : List ℕ) (w v : World) → v ≡ w → IsAsBefore path w v
before_equal path w v e = record {
  same = record { named = ap (λ (u : World). u.named path) e; others = ap (λ (u : World). u.others path) e };
  failed = ap (λ (u : World). u.failed) e;
}

pub before_then : (path : List ℕ) (w v u : World) → IsAsBefore path w v → IsAsBefore path v u → IsAsBefore path w u
before_then path w v u one two = record {
  same = record { named = two.same.named ∙ one.same.named; others = two.same.others ∙ one.same.others };
  failed = two.failed ∙ one.failed;
}

pub others_of : (path : List ℕ) (w v : World) → ((other : List ℕ) → other ≢ path → SameAt w v other) → v.failed ≡ w.failed → AreOthersAsBefore path w v
others_of path w v same failed = record { each = λ other apart. record { same = same other apart; failed = failed } }

pub others_equal : (path : List ℕ) (w v : World) → v ≡ w → AreOthersAsBefore path w v
others_equal path w v e = record { each = λ other apart. before_equal other w v e }

pub others_then : (path : List ℕ) (w v u : World) → AreOthersAsBefore path w v → AreOthersAsBefore path v u → AreOthersAsBefore path w u
others_then path w v u one two = record { each = λ other apart. before_then other w v u (one.each other apart) (two.each other apart) }

pub other_is : (path other : List ℕ) (w v : World) → AreOthersAsBefore path w v → other ≢ path → IsAsBefore other w v
other_is path other w v so apart = so.each other apart

pub rest_equal : (one two : List ℕ) (w v : World) → v ≡ w → AreRestAsBefore one two w v
rest_equal one two w v e = record { each = λ other m n. before_equal other w v e }

-- all paths but the first, or but the second
pub rest_of_first : (one two : List ℕ) (w v : World) → AreOthersAsBefore one w v → AreRestAsBefore one two w v
rest_of_first one two w v so = record { each = λ other m n. so.each other m }

pub rest_of_second : (one two : List ℕ) (w v : World) → AreOthersAsBefore two w v → AreRestAsBefore one two w v
rest_of_second one two w v so = record { each = λ other m n. so.each other n }

pub rest_then : (one two : List ℕ) (w v u : World) → AreRestAsBefore one two w v → AreRestAsBefore one two v u → AreRestAsBefore one two w u
rest_then one two w v u here next = record { each = λ other m n. before_then other w v u (here.each other m n) (next.each other m n) }

pub rest_of : (one two : List ℕ) (w v : World) → ((other : List ℕ) → other ≢ one → other ≢ two → SameAt w v other) → v.failed ≡ w.failed → AreRestAsBefore one two w v
rest_of one two w v same failed = record { each = λ other m n. record { same = same other m n; failed = failed } }

pub rest_named : (one two other : List ℕ) (w v : World) → AreRestAsBefore one two w v → other ≢ one → other ≢ two → v.named other ≡ w.named other
rest_named one two other w v so m n = (so.each other m n).same.named

-- no file beside an image has its path
pub part_apart : (image : List ℕ) (number : ℕ) (path : List ℕ) → path ≡ part_path image number → image ≢ path
part_apart image number path is same =
    let front : length (codes ".s4serve.new.part") ≡ 17 = refl in
    let both = length-append (codes ".s4serve.new.part") (numbered number) in
    let all = length-append image (codes ".s4serve.new.part" ++ numbered number) in
    let e : length image ≡ length (image ++ (codes ".s4serve.new.part" ++ numbered number)) = ap length (same ∙ is) in
    absurd (omega (arith, front, both, all, e))

-- A crash leaves at a path that is as it was what it might have left before.
pub before_adds : (was : List ℕ → List ℕ → Type 0) (path c : List ℕ) (w v : World) → IsAsBefore path w v → MayLeave was v path c → MayLeave was w path c
before_adds was path c w v so h =
    subst (λ (x : Lying). Leaves was x c ⊎ LeavesOne was (w.others path) c) so.same.named
    (subst (λ (xs : List Lying). Leaves was (v.named path) c ⊎ LeavesOne was xs c) so.same.others h)

-- what a crash leaves of one name, once another has what that had
pub named_adds : (was : List ℕ → List ℕ → Type 0) (x y : Lying) (c : List ℕ) → y ≡ x → Leaves was y c → Leaves was x c
named_adds was x y c e h = subst (λ (z : Lying). Leaves was z c) e h

pub none_adds_only : (was : List ℕ → List ℕ → Type 0) (x : Lying) (w v : World) → AddsNone was w v → AddsOnly was x w v
none_adds_only was x w v none = λ path c h. inl (none path c h)

adds_or : (was : List ℕ → List ℕ → Type 0) (x : Lying) (w v : World) (path c : List ℕ) → AddsOnly was x w v → MayLeave was v path c ⊎ Leaves was x c
    → MayLeave was w path c ⊎ Leaves was x c
adds_or was x w v path c one (inl h) = one path c h
adds_or was x w v path c one (inr h) = inr h

-- what it leaves after two steps, of which each adds no more than this
pub adds_then : (was : List ℕ → List ℕ → Type 0) (x : Lying) (w v u : World) → AddsOnly was x w v → AddsOnly was x v u → AddsOnly was x w u
adds_then was x w v u one two = λ path c h. adds_or was x w v path c one (two path c h)

-- nothing but what has a name may have it where nothing else may
pub lasts_adds : (was : List ℕ → List ℕ → Type 0) (path c : List ℕ) (w : World) → w.others path ≡ [] → MayLeave was w path c → Leaves was (w.named path) c
lasts_adds was path c w none (inl h) = h
lasts_adds was path c w none (inr h) = absurd (subst (λ (xs : List Lying). LeavesOne was xs c) none h)

-- the bytes of a name, once another has what that had
pub bytes_named : (path other bytes : List ℕ) (w v : World) → v.named other ≡ w.named path → HasBytes w path bytes → HasBytes v other bytes
bytes_named path other bytes w v e has = record { lasts = has.lasts; has = e ∙ has.has }

-- before the first call no sync has failed
pub none_failed : (events : List Event) → events ≡ [] → (replay events).failed ≡ false
unfolding replay
none_failed events none = ap (λ (all : List Event). (replay all).failed) none

-- the image's path is as it was where all but that of a file beside it are
pub numbered_image : (image given : List ℕ) (number : ℕ) (path bytes : List ℕ) (w v : World) → given ≡ image → path ≡ part_path given number → bytes ≡ path
    → AreOthersAsBefore bytes w v → IsAsBefore image w v
numbered_image image given number path bytes w v one two three so =
    so.each image (λ e. part_apart image number path (two ∙ ap (λ (i : List ℕ). part_path i number) one) (e ∙ three))

-- what a crash leaves of a file that was synced
pub lasting_leaves : (was : List ℕ → List ℕ → Type 0) (w : World) (path bytes c : List ℕ) → HasLasting w path bytes → Leaves was (w.named path) c → c ≡ bytes
lasting_leaves was w path bytes c lasts h = subst (λ (x : Lying). Leaves was x c) lasts h

pub lasting_there : (was : List ℕ → List ℕ → Type 0) (w : World) (path bytes : List ℕ) → HasLasting w path bytes → Leaves was (w.named path) bytes
lasting_there was w path bytes lasts = subst (λ (x : Lying). Leaves was x bytes) (sym lasts) refl

-- what holds where one ends well, where that is so of both or of none
pub on_both : {A B E F : Type 0} (r : Result A E) (s : Result B F) (P Q : Type 0) → is_ok r ≡ is_ok s → OnOk s P → (P → Q) → OnOk r Q
on_both (Ok x) (Ok y) P Q same h so = so h
on_both (Ok x) (Err e) P Q same h so = absurd (cc)
on_both (Err e) s P Q same h so = tt

module _ {F D : Type 0} (number : F → ℕ) (was : List ℕ → List ℕ → Type 0) (w v : World) (beside : Option (Beside F D)) (b : Beside F D) (is : beside ≡ Some b) where
  -- A file beside an image that was synced leaves its bytes alone.
  pub beside_durable : ((path bytes : List ℕ) → IsAt w (number b.file) path → HasBytes w path bytes → HasLasting v path bytes)
      → (bytes : List ℕ) → IsBesideWritten number w beside bytes → Only bytes (BesideLeaves was v beside)
  beside_durable lasts =
      subst (λ (o : Option (Beside F D)). (bytes : List ℕ) → IsBesideWritten number w o bytes → Only bytes (BesideLeaves was v o)) (sym is)
      (λ bytes written c h. lasting_leaves was v (string_bytes b.path) bytes c (lasts (string_bytes b.path) bytes written.at written.has) h)

  pub beside_there : ((path bytes : List ℕ) → IsAt w (number b.file) path → HasBytes w path bytes → HasLasting v path bytes)
      → (bytes : List ℕ) → IsBesideWritten number w beside bytes → BesideLeaves was v beside bytes
  beside_there lasts =
      subst (λ (o : Option (Beside F D)). (bytes : List ℕ) → IsBesideWritten number w o bytes → BesideLeaves was v o bytes) (sym is)
      (λ bytes written. lasting_there was v (string_bytes b.path) bytes (lasts (string_bytes b.path) bytes written.at written.has))

  -- what has its bytes, once its names are as they were and it was given another
  pub beside_whole : (u : World) (path : List ℕ) → ((p : List ℕ) → v.named p ≡ w.named p)
      → ((bytes : List ℕ) → HasBytes v (string_bytes b.path) bytes → HasBytes u path bytes)
      → (bytes : List ℕ) → IsBesideWritten number w beside bytes → HasBytes u path bytes
  beside_whole u path names whole =
      subst (λ (o : Option (Beside F D)). (bytes : List ℕ) → IsBesideWritten number w o bytes → HasBytes u path bytes) (sym is)
      (λ bytes written. whole bytes (bytes_named (string_bytes b.path) (string_bytes b.path) bytes w v (names (string_bytes b.path)) written.has))

-- what a usable folder says of its calls
pub sound_of : (a b : Bool) → (a && not b) ≡ true → b ≡ false
sound_of a false e = refl
sound_of true true e = absurd (cc)
sound_of false true e = absurd (cc)
