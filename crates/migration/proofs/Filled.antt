-- A table that is filled from its first frame on.
use Rattle.std.proofs.Common.{◌≡◌, ◌≢◌, ℕ, zero, suc, ◌+◌, ◌-◌, ◌*◌, ◌<◌, ◌≤◌, List, [], ◌∷◌, ◌++◌, length, drop, Option, Some, None, Result, Ok, Err, IfOk, OnErr, inl, inr, replicate, refl, sym, ap, subst, ◌∙◌, arith}
use Rattle.std.specs.Prelude.{MatchOption}
use Rattle.std.specs.List.{flat_map, range_with_len}
use Rattle.std.proofs.Math.ListN.{length-set, set}
use Rattle.std.proofs.lemmas.List.{length-append, length-drop, length-replicate, drop-drop, drop-append-le, drop_at, get_or-replicate, get_or-set_other}
use Rattle.std.proofs.lemmas.Bool.{cases_eq, cases_lt}
use Rattle.std.proofs.lemmas.Option.{none-some, same_Some}
use Rattle.s4_types.specs.Pointer.{Place}
use Rattle.s4_types.specs.declared.refusals.Refusal.{Refusal}
use Rattle.block_log.specs.Log.{Log, Stored, appended, appended_at}
use Rattle.block_log.specs.Taken.{TakesPlaces}
use Rattle.codec.specs.declared.versions.ImageVersion.{ImageVersion}
use Rattle.codec.specs.declared.summaries.BlockRole.{BlockRole}
use Rattle.segment_word.specs.Frames.{Open, Sealed, Frame, no_frame}
use Rattle.segment_word.specs.Handles.{Drive, fresh_frame}
use Rattle.segment_word.specs.Layout.{frame_at}
use Rattle.segment_table.specs.Changes.{IsAppended}
use Rattle.segment_table.specs.Room.{log_of, new_places, places}
use Rattle.segment_table.specs.Table.{Table}
use Rattle.object_map.specs.declared.map.Row.{Row}
use Rattle.segment_table.proofs.Ahead.{length-places}
use Rattle.image_objects.specs.declared.rows.ImageRow.{ImageRow}
use Rattle.migration.specs.Frames.{FillsFrames, IsFilled, fresh_log, frames_needed}
use Rattle.migration.specs.Rows.{CopyRows, blocks_of_rows}
use Rattle.migration.proofs.Appending.{PlacesAddUp}

-- ---- how many places a new table has

length_from : (first n : ℕ) → length (flat_map (λ f. places f 1 1 15) (range_with_len first n)) ≡ 15 * n
length_from first zero = refl
length_from first (suc n) =
    let here = length-places first 1 1 15 in
    let rest = length_from (first + 1) n in
    let all = length-append (places first 1 1 15) (flat_map (λ f. places f 1 1 15) (range_with_len (first + 1) n)) in
    omega (arith, here, rest, all)

pub length_new : (n : ℕ) → length (new_places n) ≡ 15 * n
length_new n = length_from 0 n

-- ---- one more block

some_ahead : (log : Log) (block : Stored) (ahead : List Place) (p : Place) (after : Log) → appended_at log block ahead ≡ Some (p, after) → 0 < length ahead
some_ahead log block [] p after is = absurd (none-some (p, after) is)
some_ahead log block (q ∷ ahead) p after is = omega arith

-- the first place after some of those of one frame
drop_places : (f g b k n : ℕ) → k < n → drop k (places f g b n) ≡ (record { frame = f; block = b + k; generation = g }) ∷ drop (suc k) (places f g b n)
unfolding places
drop_places f g b k zero l = absurd (omega (arith, l))
drop_places f g b zero (suc n) l = ap (λ m. (record { frame = f; block = m; generation = g }) ∷ places f g (b + 1) n) (let same : b ≡ b + 0 = omega arith in same)
drop_places f g b (suc k) (suc n) l =
    drop_places f g (b + 1) k n (omega (arith, l)) ∙ ap (λ m. (record { frame = f; block = m; generation = g }) ∷ drop (suc k) (places f g (b + 1) n)) (let same : b + 1 + k ≡ b + suc k = omega arith in same)

-- where it is
pub record IsRanked (p : Place) (rank : ℕ) : Type 0 where
  pub rank_is : 15 * p.frame + p.block ≡ rank + 1
  pub least : 1 ≤ p.block
  pub most : p.block ≤ 15

nil_cons : (p : Place) (rest : List Place) → [] ≡ p ∷ rest → ⊥
nil_cons p rest is = absurd (cc)

drop_none : (k : ℕ) (p : Place) (rest l : List Place) → l ≡ [] → drop k l ≡ p ∷ rest → ⊥
drop_none zero p rest [] none is = nil_cons p rest is
drop_none (suc k) p rest [] none is = nil_cons p rest is
drop_none k p rest (q ∷ l) none is = absurd (cc)

head_is : (p q : Place) (xs ys : List Place) → p ∷ xs ≡ q ∷ ys → p ≡ q
head_is p q xs ys is = cc

ranked : (first n k : ℕ) (p : Place) (rest : List Place) → drop k (flat_map (λ f. places f 1 1 15) (range_with_len first n)) ≡ p ∷ rest → IsRanked p (15 * first + k)
ranked first zero k p rest is = absurd (drop_none k p rest [] refl is)
ranked first (suc n) k p rest is = elim (cases_lt k 15) [
  | inl low ↦ (let later : List Place = flat_map (λ f. places f 1 1 15) (range_with_len (first + 1) n) in
      let fits : k ≤ length (places first 1 1 15) = (let count = length-places first 1 1 15 in omega (arith, count, low)) in
      let split : drop k (places first 1 1 15 ++ later) ≡ (record { frame = first; block = 1 + k; generation = 1 }) ∷ (drop (suc k) (places first 1 1 15) ++ later) =
      drop-append-le k (places first 1 1 15) later fits ∙ ap (λ (l : List Place). l ++ later) (drop_places first 1 1 k 15 low) in
      let here : p ≡ record { frame = first; block = 1 + k; generation = 1 } = head_is p (record { frame = first; block = 1 + k; generation = 1 }) rest (drop (suc k) (places first 1 1 15) ++ later) (sym is ∙ split) in
      subst (λ (q : Place). IsRanked q (15 * first + k)) (sym here) (record { rank_is = omega arith; least = omega arith; most = omega (arith, low) }))
  | inr high ↦ (let later : List Place = flat_map (λ f. places f 1 1 15) (range_with_len (first + 1) n) in
      let past : drop k (places first 1 1 15 ++ later) ≡ drop (k - 15) later = ap (λ m. drop m (places first 1 1 15 ++ later)) (let back : k ≡ 15 + (k - 15) = omega (arith, high) in back)
      ∙ sym (drop-drop (k - 15) 15 (places first 1 1 15 ++ later)) ∙ ap (λ (l : List Place). drop (k - 15) l) (drop_at (places first 1 1 15) later 15 (length-places first 1 1 15)) in
      let found = ranked (first + 1) n (k - 15) p rest (sym past ∙ is) in
      let rank = found.rank_is in
      record { rank_is = omega (arith, rank, high); least = found.least; most = found.most })
]

first_ahead : (log : Log) (block : Stored) (ahead : List Place) (p : Place) (after : Log) → appended_at log block ahead ≡ Some (p, after) → (rest : List Place) × (ahead ≡ p ∷ rest)
first_ahead log block [] p after is = absurd (none-some (p, after) is)
first_ahead log block (q ∷ ahead) p after is =
    let pair = same_Some _ (p, after) is in
    (ahead, ap (λ (x : Place). x ∷ ahead) (ap (λ (x : Place × Log). x.0) pair))

filled_put : (old new : Table) (p : Place) (role : BlockRole) (bytes : List ℕ) (block : Stored) → TakesPlaces 1 (log_of old) (log_of new) → appended (log_of old) block ≡ Some (p, log_of new) → IsAppended p role bytes old new → IsFilled old → IsFilled new
filled_put old new p role bytes block takes is exact filled =
    let n : ℕ = length old.seat.frames in
    let spent : ℕ = (log_of old).spent in
    let first = first_ahead (log_of old) block (log_of old).ahead p (log_of new) is in
    let at : IsRanked p (15 * 0 + spent) = ranked 0 n spent p first.0 (sym filled.ahead ∙ first.1) in
    let rank = at.rank_is in
    let least = at.least in
    let most = at.most in
    let frames : new.seat.frames ≡ set old.seat.frames p.frame (frame_at new.seat.frames p.frame) = ap (λ (d : Drive). d.frames) exact.alone in
    let count : length new.seat.frames ≡ n = ap (λ (l : List Frame). length l) frames ∙ length-set old.seat.frames p.frame (frame_at new.seat.frames p.frame) in
    let some = some_ahead (log_of old) block (log_of old).ahead p (log_of new) is in
    let left : length (log_of old).ahead ≡ length (new_places n) - spent = ap length filled.ahead ∙ length-drop spent (new_places n) in
    let next : (log_of new).spent ≡ spent + 1 = (let one = takes.spent in omega (arith, one)) in
    let beside : (m : ℕ) → m ≢ p.frame → frame_at new.seat.frames m ≡ frame_at old.seat.frames m = λ m other.
    ap (λ (l : List Frame). frame_at l m) frames ∙ get_or-set_other old.seat.frames p.frame m (frame_at new.seat.frames p.frame) no_frame other in
    record {
      ahead = takes.ahead ∙ ap (λ (l : List Place). drop 1 l) filled.ahead ∙ drop-drop 1 spent (new_places n)
          ∙ ap (λ k. drop k (new_places n)) (sym next) ∙ ap (λ k. drop (log_of new).spent (new_places k)) (sym count);
      within = omega (arith, some, left, next, count, length_new n);
      lives = λ m inside. elim (cases_eq m p.frame) [
        | inl here ↦ subst (λ k. (frame_at new.seat.frames k).generation ≡ 1) (sym here) (exact.generation ∙ filled.lives p.frame (omega (arith, inside, here, count)))
        | inr other ↦ ap (λ (k : Frame). k.generation) (beside m other) ∙ filled.lives m (omega (arith, inside, count))
      ];
      full = λ m past. elim (cases_eq m p.frame) [
        | inl here ↦ subst (λ k. (frame_at new.seat.frames k).phase ≡ Sealed) (sym here) (exact.sealed (omega (arith, past, next, rank, least, most, here)))
        | inr other ↦ ap (λ (k : Frame). k.phase) (beside m other) ∙ filled.full m (behind m p.frame p.block spent (log_of new).spent rank next least most other past)
      ];
      part = λ m some_taken some_left. elim (cases_eq m p.frame) [
        | inl here ↦ subst (λ k. (frame_at new.seat.frames k).phase ≡ Open) (sym here) (exact.filling (omega (arith, some_left, next, rank, here)))
        | inr other ↦ absurd (other (omega (arith, some_taken, some_left, next, rank, least, most)))
      ];
      others = λ m free inside.
          let other : m ≢ p.frame = λ here. omega (arith, free, next, rank, least, most, here) in
          ap (λ (k : Frame). k.phase) (beside m other) ∙ filled.others m (omega (arith, free, next)) (omega (arith, inside, count));
    }
  where
    behind : (m f b spent later : ℕ) → 15 * f + b ≡ 15 * 0 + spent + 1 → later ≡ spent + 1 → 1 ≤ b → b ≤ 15 → m ≢ f → 15 * (m + 1) ≤ later → 15 * (m + 1) ≤ spent
    behind m f b spent later rank next least most other past = elim (cases_lt spent (15 * (m + 1))) [
      | inl less ↦ absurd (other (omega (arith, rank, next, least, most, past, less)))
      | inr enough ↦ enough
    ]

-- ---- the table stays

pub filled_stays : (old new : Table) → new.seat ≡ old.seat → (log_of new).ahead ≡ (log_of old).ahead → (log_of new).spent ≡ (log_of old).spent → IsFilled old → IsFilled new
filled_stays old new seat ahead spent filled =
    let count : length new.seat.frames ≡ length old.seat.frames = ap (λ (d : Drive). length d.frames) seat in
    let same : (m : ℕ) → frame_at new.seat.frames m ≡ frame_at old.seat.frames m = λ m. ap (λ (d : Drive). frame_at d.frames m) seat in
    let within = filled.within in
    record {
      ahead = ahead ∙ filled.ahead ∙ ap (λ k. drop k (new_places (length old.seat.frames))) (sym spent) ∙ ap (λ k. drop (log_of new).spent (new_places k)) (sym count);
      within = omega (arith, within, spent, count);
      lives = λ m inside. ap (λ (k : Frame). k.generation) (same m) ∙ filled.lives m (omega (arith, inside, count));
      full = λ m past. ap (λ (k : Frame). k.phase) (same m) ∙ filled.full m (omega (arith, past, spent));
      part = λ m taken left. ap (λ (k : Frame). k.phase) (same m) ∙ filled.part m (omega (arith, taken, spent)) (omega (arith, left, spent));
      others = λ m free inside. ap (λ (k : Frame). k.phase) (same m) ∙ filled.others m (omega (arith, free, spent)) (omega (arith, inside, count));
    }

pub filled_new : (t : Table) (count : ℕ) → t.seat.frames ≡ replicate count fresh_frame → log_of t ≡ fresh_log count → IsFilled t
filled_new t count frames log =
    let size : length t.seat.frames ≡ count = ap (λ (l : List Frame). length l) frames ∙ length-replicate count fresh_frame in
    let spent : (log_of t).spent ≡ 0 = ap (λ (l : Log). l.spent) log in
    let is : (m : ℕ) → m < length t.seat.frames → frame_at t.seat.frames m ≡ fresh_frame = λ m inside.
    ap (λ (l : List Frame). frame_at l m) frames ∙ get_or-replicate count m fresh_frame no_frame (omega (arith, inside, size)) in
    record {
      ahead = ap (λ (l : Log). l.ahead) log ∙ ap new_places (sym size) ∙ ap (λ k. drop k (new_places (length t.seat.frames))) (sym spent);
      within = omega (arith, spent);
      lives = λ m inside. ap (λ (k : Frame). k.generation) (is m inside);
      full = λ m past. absurd (omega (arith, past, spent));
      part = λ m taken left. absurd (omega (arith, taken, spent));
      others = λ m free inside. ap (λ (k : Frame). k.phase) (is m inside);
    }

pub filled_more : (result : Result Place Refusal) (old new : Table) (role : BlockRole) (bytes : List ℕ) (block : Stored) → ((p : Place) → appended (log_of old) block ≡ Some (p, log_of new) → TakesPlaces 1 (log_of old) (log_of new))
    → IfOk result (λ p. appended (log_of old) block ≡ Some (p, log_of new)) → IfOk result (λ p. IsAppended p role bytes old new) → OnErr result (new ≡ old) → IsFilled old → IsFilled new
filled_more (Ok p) old new role bytes block takes is exact same filled = filled_put old new p role bytes block (takes p is) is exact filled
filled_more (Err e) old new role bytes block takes is exact same filled = subst (λ (t : Table). IsFilled t) (sym same) filled

-- ---- all rows

pub takes_all : PlacesAddUp → ((log : Log) → TakesPlaces 0 log log) → (v : ImageVersion) (used : Place → Option Stored) (rows : List ImageRow) (laters : List Row) (before after : Log) → CopyRows v used rows laters before after → TakesPlaces (blocks_of_rows v used rows) before after
takes_all add_up none v used [] [] before after copied = subst (λ (l : Log). TakesPlaces 0 before l) copied (none before)
takes_all add_up none v used [] (later ∷ laters) before after copied = absurd copied
takes_all add_up none v used (row ∷ rows) [] before after copied = absurd copied
takes_all add_up none v used (row ∷ rows) (later ∷ laters) before after (between, one, rest) =
    add_up _ (blocks_of_rows v used rows) before between after one.takes (takes_all add_up none v used rows laters between after rest)

-- as many blocks were counted as there are
pub counted : (found : Option ℕ) (blocks total most : ℕ) → found ≡ Some blocks → MatchOption found (most < total) (λ n. (n ≡ total) × (n ≤ most)) → blocks ≡ total
counted None blocks total most is match = absurd (none-some blocks is)
counted (Some n) blocks total most is match = sym (same_Some n blocks is) ∙ match.0

-- there is room for as many blocks as were counted
pub has_room : (old blocks : ℕ) → blocks ≤ 15 * frames_needed old blocks
has_room old blocks = omega arith

pub fills : (frames blocks : ℕ) (t : Table) → TakesPlaces blocks (fresh_log frames) (log_of t) → blocks ≤ 15 * frames → IsFilled t → FillsFrames blocks frames t
fills frames blocks t takes room filled =
    let n : ℕ = length t.seat.frames in
    let spent : (log_of t).spent ≡ blocks = (let is = takes.spent in omega (arith, is)) in
    let left : length (log_of t).ahead ≡ length (new_places frames) - blocks = ap length takes.ahead ∙ length-drop blocks (new_places frames) in
    let too : length (log_of t).ahead ≡ length (new_places n) - (log_of t).spent = ap length filled.ahead ∙ length-drop (log_of t).spent (new_places n) in
    let within = filled.within in
    record {
      count = omega (arith, spent, left, too, within, room, length_new n, length_new frames);
      spent = spent;
      filled = filled;
    }
