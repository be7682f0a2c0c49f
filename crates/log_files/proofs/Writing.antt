-- How contents are changed.
use Rattle.std.proofs.Common.{◌≡◌, ◌||◌, ℕ, ◌+◌, ◌-◌, ◌<◌, ◌≤◌, Bool, true, false, List, [], ◌∷◌, length, take, drop, slice_index, IsTrue, refl, sym, ap, subst, ◌∙◌, inl, inr, arith, length-take, length-drop, get_or-take, get_or-drop}
use Rattle.std.proofs.lemmas.Bool.{cases_lt}
use Rattle.sqlite_disk.specs.Disk.{Holds, Torn, Mixed, Cut, Follows}
use Rattle.sqlite_disk.specs.Events.{overlaid}
use Rattle.sqlite_disk.proofs.EventLemmas.{Holds-overlaid, Torn-overlaid, Torn-within, Mixed-held, Mixed-refl, Mixed-then, Cut-padded, length-padded}
use Rattle.log_files.specs.Contents.{Contents, Leaves, LeavesIf, written, unwritten, cut, settled}
use Rattle.log_files.specs.Taking.{is_sound, Overlays, HasWritten, GoesOn, BreaksOff, Cuts, HasCut, Keeps, Lasts}

-- Nothing was written.

pub overlays_none : (at : ℕ) (bytes : List ℕ) (c : Contents) → Overlays at bytes c c
overlays_none at bytes c = record {
  seen = (Mixed-refl at bytes c.seen).torn;
  mixed = λ left may. (left, may, Mixed-refl at bytes left);
  usable = refl;
  known = refl;
}

pub written_none : (at : ℕ) (bytes : List ℕ) (c : Contents) → HasWritten at 0 bytes c c
written_none at bytes c = record {
  overlays = overlays_none at bytes c;
  long = λ h. absurd (omega arith);
  each = λ i h. absurd (omega arith);
  torn = refl;
}

-- More was.

-- what a crash leaves after bytes were taken
leaves_taken : (known : Bool) (from byte : ℕ) (bytes : List ℕ) (c : Contents) (left : List ℕ) → LeavesIf known (written from (byte ∷ bytes) c) left
    → (d : List ℕ) × LeavesIf known c d × Mixed from (byte ∷ bytes) d left
leaves_taken true from byte bytes c left (inl seen) =
    (c.seen, inl refl, rw seen (Mixed-held from (byte ∷ bytes) c.seen _ (Torn-overlaid c.seen from (byte ∷ bytes)) (Holds-overlaid c.seen from (byte ∷ bytes))))
leaves_taken true from byte bytes c left (inr reached) = (reached.0, inr reached.1, reached.2.1 refl)
leaves_taken false from byte bytes c left may = (left, tt, Mixed-refl from (byte ∷ bytes) left)

-- and after a write failed
leaves_refused : (known : Bool) (from : ℕ) (bytes : List ℕ) (others : List (List ℕ)) (c : Contents) (left : List ℕ) → LeavesIf known (unwritten from (bytes ∷ others) c) left
    → (d : List ℕ) × LeavesIf known c d × Mixed from bytes d left
leaves_refused true from bytes others c left (inl seen) = (left, inl seen, Mixed-refl from bytes left)
leaves_refused true from bytes others c left (inr reached) = (reached.0, inr reached.1, reached.2.1 refl)
leaves_refused false from bytes others c left may = (left, tt, Mixed-refl from bytes left)

module _ (at done : ℕ) (bytes part : List ℕ) (fits : done + length part ≤ length bytes) (alike : (i : ℕ) → i < length part → slice_index part i ≡ slice_index bytes (done + i)) where
  follows : (one two three : List ℕ → Type 0) → Follows (Mixed at bytes) one two → Follows (Mixed (at + done) part) two three → Follows (Mixed at bytes) one three
  follows one two three first next left may =
      let now = next left may in
      let before = first now.0 now.1 in
      (before.0, before.1, Mixed-then at done (at + done) bytes part before.0 now.0 left refl fits alike before.2 now.2)

  -- a write of the rest failed
  pub refused_more : (others : List (List ℕ)) (c c' : Contents) → Overlays at bytes c c' → Overlays at bytes c (unwritten (at + done) (part ∷ others) c')
  refused_more others c c' so = record {
    seen = so.seen;
    mixed = follows (Leaves c) (Leaves c') _ so.mixed (leaves_refused c'.is_known (at + done) part others c');
    usable = so.usable;
    known = so.known;
  }

-- some of the rest was taken
taken_more : (at done : ℕ) (bytes part : List ℕ) (c c' : Contents) → 0 < length part → done + length part ≤ length bytes
    → ((i : ℕ) → i < length part → slice_index part i ≡ slice_index bytes (done + i)) → HasWritten at done bytes c c'
    → HasWritten at (done + length part) bytes c (written (at + done) part c')
taken_more at done bytes [] c c' some fits alike so = absurd (omega arith)
taken_more at done bytes (byte ∷ more) c c' some fits alike so =
    let part = byte ∷ more in
    let from = at + done in
    let torn = Torn-overlaid c'.seen from part in
    let holds = Holds-overlaid c'.seen from part in
    record {
      overlays = record {
        seen = Torn-within at (length bytes) from (length part) c.seen c'.seen _ (omega arith) (omega arith) so.overlays.seen torn;
        mixed = follows at done bytes part fits alike (Leaves c) (Leaves c') _ so.overlays.mixed (leaves_taken c'.is_known from byte more c');
        usable = so.overlays.usable;
        known = so.overlays.known;
      };
      long = λ _. omega (arith, holds.within);
      each = λ i low. elim (cases_lt i done) [
        | inl early ↦ torn.below (at + i) (omega (arith, so.long (omega arith))) (omega arith) ∙ so.each i early
        | inr late ↦
            let here : at + i ≡ from + (i - done) = omega arith in
            let there : done + (i - done) ≡ i = omega arith in
            ap (slice_index (overlaid c'.seen from part)) here ∙ holds.each (i - done) (omega arith) ∙ alike (i - done) (omega arith) ∙ ap (slice_index bytes) there
      ];
      torn = so.torn;
    }

front_alike : (done more : ℕ) (bytes : List ℕ) (i : ℕ) → i < more → slice_index (take more (drop done bytes)) i ≡ slice_index bytes (done + i)
front_alike done more bytes i low = get_or-take more (drop done bytes) i 0 low ∙ get_or-drop done bytes i 0

front_long : (done more : ℕ) (bytes : List ℕ) → done + more ≤ length bytes → length (take more (drop done bytes)) ≡ more
front_long done more bytes fits = omega (arith, length-take more (drop done bytes), length-drop done bytes)

pub goes_on : (at done more : ℕ) (bytes : List ℕ) (c : Contents) → 0 < more → done + more ≤ length bytes
    → GoesOn at done (done + more) bytes c (written (at + done) (take more (drop done bytes)) c)
goes_on at done more bytes c some fits =
    let long = front_long done more bytes fits in
    record {
      on = λ start so. subst (λ (n : ℕ). HasWritten at (done + n) bytes start (written (at + done) (take more (drop done bytes)) c)) long
          (taken_more at done bytes (take more (drop done bytes)) start c (omega arith) (omega arith) (λ i low. front_alike done more bytes i (omega arith)) so);
    }

-- No byte was taken.
pub breaks_none : (at done : ℕ) (bytes : List ℕ) (c : Contents) → BreaksOff at done bytes c c
breaks_none at done bytes c = record { on = λ start so. so.overlays }

pub breaks_empty : (at done from count : ℕ) (bytes rest : List ℕ) (c : Contents) → count ≡ 0 → BreaksOff at done bytes c (written from (take count rest) c)
breaks_empty at done from count bytes rest c none = rw none (breaks_none at done bytes c)

pub breaks_off : (at done : ℕ) (bytes : List ℕ) (others : List (List ℕ)) (c : Contents) → done ≤ length bytes
    → BreaksOff at done bytes c (unwritten (at + done) (drop done bytes ∷ others) c)
breaks_off at done bytes others c fits = record {
  on = λ start so.
      refused_more at done bytes (drop done bytes) (omega (arith, length-drop done bytes)) (λ i low. get_or-drop done bytes i 0) others start c so.overlays;
}

-- A length.

cut_seen : (len : ℕ) (ok : Bool) (c : Contents) → Cut len c.seen (cut len ok c).seen
cut_seen len true c = Cut-padded c.seen len
cut_seen len false c = record { no_shorter = omega arith; no_longer = omega arith; below = λ i low short. refl }

cut_same : (len : ℕ) (file : List ℕ) → Cut len file file
cut_same len file = record { no_shorter = omega arith; no_longer = omega arith; below = λ i low short. refl }

leaves_cut : (known ok : Bool) (len : ℕ) (c : Contents) (left : List ℕ) → LeavesIf known (cut len ok c) left → (d : List ℕ) × LeavesIf known c d × Cut len d left
leaves_cut true true len c left (inl seen) = (c.seen, inl refl, rw seen (Cut-padded c.seen len))
leaves_cut true true len c left (inr reached) = (reached.0, inr reached.1, reached.2)
leaves_cut true false len c left (inl seen) = (left, inl seen, cut_same len left)
leaves_cut true false len c left (inr reached) = (reached.0, inr reached.1, reached.2)
leaves_cut false ok len c left may = (left, tt, cut_same len left)

cut_known : (len : ℕ) (ok : Bool) (c : Contents) → (cut len ok c).is_known ≡ c.is_known
cut_known len true c = refl
cut_known len false c = refl

cut_usable : (len : ℕ) (ok : Bool) (c : Contents) → (cut len ok c).is_usable ≡ c.is_usable
cut_usable len true c = refl
cut_usable len false c = refl

pub cuts : (len : ℕ) (ok : Bool) (c : Contents) → Cuts len c (cut len ok c)
cuts len ok c = record {
  seen = cut_seen len ok c;
  left = λ left may. leaves_cut c.is_known ok len c left (subst (λ (k : Bool). LeavesIf k (cut len ok c) left) (cut_known len ok c) may);
  usable = cut_usable len ok c;
  known = cut_known len ok c;
}

pub cuts_none : (len : ℕ) (c : Contents) → Cuts len c c
cuts_none len c = record { seen = cut_same len c.seen; left = λ left may. (left, may, cut_same len left); usable = refl; known = refl }

pub has_cut : (len : ℕ) (c : Contents) → HasCut len c (cut len true c)
has_cut len c = record { length = length-padded c.seen len; torn = refl }

-- A sync.

pub keeps_all : (c : Contents) → Keeps c c
keeps_all c = record { seen = refl; fewer = λ left may. may }

settled_leaves : (known : Bool) (c : Contents) (left : List ℕ) → LeavesIf known (record c { synced = c.seen; steps = [] }) left → LeavesIf known c left
settled_leaves true c left (inl seen) = inl seen
settled_leaves true c left (inr reached) = inl reached
settled_leaves false c left may = tt

settled_only : (c : Contents) (left : List ℕ) → LeavesIf true (record c { synced = c.seen; steps = [] }) left → left ≡ c.seen
settled_only c left (inl seen) = seen
settled_only c left (inr reached) = reached

-- what is sound, and not torn
sound_is : (c : Contents) → IsTrue (is_sound true false c) → (c.is_usable ≡ true) × (c.is_known ≡ true) × (c.is_torn ≡ false)
sound_is c sound = grind arith

settles : (c : Contents) → IsTrue (is_sound true false c) → settled true c ≡ record c { synced = c.seen; steps = [] }
settles c sound = let so = sound_is c sound in rw (so.0, so.2) refl

failed_leaves : (known : Bool) (c : Contents) (left : List ℕ) → LeavesIf known (record c { is_usable = false }) left → LeavesIf known c left
failed_leaves true c left may = may
failed_leaves false c left may = tt

pub keeps : (ok : Bool) (c : Contents) → IsTrue (is_sound true false c) → Keeps c (settled ok c)
keeps true c sound = subst (λ (d : Contents). Keeps c d) (sym (settles c sound)) record { seen = refl; fewer = settled_leaves c.is_known c }
keeps false c sound = record { seen = refl; fewer = failed_leaves c.is_known c }

pub lasts : (c : Contents) → IsTrue (is_sound true false c) → Lasts false c (settled true c)
lasts c sound =
    let so = sound_is c sound in
    subst (λ (d : Contents). Lasts false c d) (sym (settles c sound)) record {
      only = λ left may. settled_only c left (subst (λ (k : Bool). LeavesIf k (record c { synced = c.seen; steps = [] }) left) so.1 may);
      sound = sound;
    }

-- What a disk says of them.

pub holds_all : (at n : ℕ) (bytes : List ℕ) (c c' : Contents) → n ≡ length bytes → HasWritten at n bytes c c' → 0 < length bytes → Holds c'.seen at bytes
holds_all at n bytes c c' all so some = record {
  within = omega (arith, all, so.long (omega arith));
  each = λ i low. so.each i (omega arith);
}

-- in which way a crash leaves bytes that were being written
pub torn_left : (at : ℕ) (bytes : List ℕ) (c c' : Contents) → Overlays at bytes c c' → Follows (Torn at (length bytes)) (Leaves c) (Leaves c')
torn_left at bytes c c' so left may = let before = so.mixed left may in (before.0, before.1, before.2.torn)

-- what is sound stays so, where a failure is noted
pub sound_still : (is_usable is_torn has_failed : Bool) (c c' : Contents) → c'.is_usable ≡ c.is_usable → c'.is_known ≡ c.is_known → (has_failed ≡ false → c'.is_torn ≡ c.is_torn)
    → IsTrue (is_sound is_usable is_torn c) → IsTrue (is_sound is_usable (is_torn || has_failed) c')
sound_still false is_torn has_failed c c' usable known torn sound = refl
sound_still true true has_failed c c' usable known torn sound = grind arith
sound_still true false true c c' usable known torn sound = grind arith
sound_still true false false c c' usable known torn sound = let same = torn refl in grind arith
