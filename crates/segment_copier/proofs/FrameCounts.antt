-- What is counted of a frame, block by block.
use Rattle.std.proofs.Common.{◌≡◌, inl, inr, ℕ, zero, suc, ◌+◌, ◌*◌, ◌<◌, ◌≤◌, Bool, true, false, List, [], ◌∷◌, ◌++◌, length, take, drop, count_by, Option, Some, None, refl, sym, ap, ◌∙◌, arith, length-append}
use Rattle.std.specs.Prelude.{is_some, option_map}
use Rattle.std.proofs.lemmas.Bool.{cases_Bool}
use Rattle.std.proofs.lemmas.List.{drop_more, drop_all}
use Rattle.std.proofs.lemmas.List.Sums.{count_by_more_yes, count_by_more_no, count_by-le-length}
use Rattle.s4_types.specs.Pointer.{Place}
use Rattle.block_log.specs.Log.{Stored}
use Rattle.codec.specs.declared.summaries.BlockRole.{BlockRole}
use Rattle.segment_word.specs.Layout.{frame_at}
use Rattle.segment_table.specs.Table.{Table, held_at, role_of}
use Rattle.segment_table.specs.Room.{whole_of}
use Rattle.segment_table.specs.Counts.{held_count}
use Rattle.segment_copier.specs.declared.counting.Counted.{Counted}
use Rattle.segment_copier.specs.Counting.{blocks_added, added_at, objects_at, objects_after, objects_in, blocks_to_move, blocks_to_empty}
use Rattle.segment_copier.specs.private.Surveying.{block_at}
use Rattle.segment_copier.proofs.Surveyed.{length-whole_of, whole_at, place_is, count_all}

-- ---- one block

-- what is held, by its role
pub added_some : (written : ℕ → ℕ) (before : List ℕ) (held : Option Stored) (role : BlockRole) → Some role ≡ option_map role_of held → added_at written before held ≡ blocks_added written before role.kind role.object
added_some written before None role e = absurd (cc)
added_some written before (Some block) role e =
    let same : role_of block ≡ role = (cc) in
    ap (λ (r : BlockRole). blocks_added written before r.kind r.object) same

pub objects_some : (before : List ℕ) (held : Option Stored) (role : BlockRole) → Some role ≡ option_map role_of held → objects_at before held ≡ before ++ role.object ∷ []
objects_some before None role e = absurd (cc)
objects_some before (Some block) role e =
    let same : role_of block ≡ role = (cc) in
    ap (λ (r : BlockRole). before ++ r.object ∷ []) same

-- nothing is held
pub added_none : (written : ℕ → ℕ) (before : List ℕ) (held : Option Stored) → None ≡ option_map role_of held → added_at written before held ≡ 0
added_none written before None e = refl
added_none written before (Some block) e = absurd (cc)

pub objects_none : (before : List ℕ) (held : Option Stored) → None ≡ option_map role_of held → objects_at before held ≡ before
objects_none before None e = refl
objects_none before (Some block) e = absurd (cc)

-- ---- how many blocks are held

abbrev is_held : Table → Place → Bool
is_held t p = is_some (held_at t p)

-- how many of the first n blocks are held
abbrev held_to : Table → ℕ → ℕ → ℕ
held_to t f n = count_by (λ p. is_some (held_at t p)) (take n (whole_of t f))

one_more : (before : List ℕ) (held : Option Stored) → is_some held ≡ true → length (objects_at before held) ≡ length before + 1
one_more before None some = absurd (cc)
one_more before (Some block) some = length-append before (block.object ∷ [])

no_more : (before : List ℕ) (held : Option Stored) → is_some held ≡ false → length (objects_at before held) ≡ length before
no_more before None none = refl
no_more before (Some block) none = absurd (cc)

few_more : (before : List ℕ) (held : Option Stored) → length (objects_at before held) ≤ length before + 1
few_more before None = omega arith
few_more before (Some block) = let more = length-append before (block.object ∷ []) in omega (arith, more)

-- as many as there are objects, with one block more
held_next : (t : Table) (f n : ℕ) (before : List ℕ) → n < 15 → length before ≡ held_to t f n → length (objects_at before (held_at t (block_at t f (n + 1)))) ≡ held_to t f (n + 1)
held_next t f n before h is =
    let p : Place = block_at t f (n + 1) in
    let inside : n < length (whole_of t f) = omega (arith, length-whole_of t f, h) in
    elim (cases_Bool (is_held t p)) [
      | inl some ↦ (let more = count_by_more_yes (is_held t) (whole_of t f) n p inside (ap (is_held t) (whole_at t f n h) ∙ some) in omega (arith, is, more, one_more before (held_at t p) some))
      | inr none ↦ (let same = count_by_more_no (is_held t) (whole_of t f) n p inside (ap (is_held t) (whole_at t f n h) ∙ none) in omega (arith, is, same, no_more before (held_at t p) none))
    ]

-- ---- as far as the loop has come

-- what is held where the loop has come, and what is after it
next_block : (written : ℕ → ℕ) (t : Table) (f n : ℕ) (before : List ℕ) → n < 15 → blocks_to_move written t before (drop n (whole_of t f))
    ≡ added_at written before (held_at t (block_at t f (n + 1))) + blocks_to_move written t (objects_at before (held_at t (block_at t f (n + 1)))) (drop (n + 1) (whole_of t f))
next_block written t f n before h =
    let blocks : List Place = whole_of t f in
    ap (blocks_to_move written t before) (drop_more blocks n (block_at t f (n + 1)) (omega (arith, length-whole_of t f)) ∙ ap (λ (p : Place). p ∷ drop (n + 1) blocks) (whole_at t f n h))

next_object : (t : Table) (f n : ℕ) (before : List ℕ) → n < 15
    → objects_after t before (drop n (whole_of t f)) ≡ objects_after t (objects_at before (held_at t (block_at t f (n + 1)))) (drop (n + 1) (whole_of t f))
next_object t f n before h =
    let blocks : List Place = whole_of t f in
    ap (objects_after t before) (drop_more blocks n (block_at t f (n + 1)) (omega (arith, length-whole_of t f)) ∙ ap (λ (p : Place). p ∷ drop (n + 1) blocks) (whole_at t f n h))

-- Of the first n blocks so much was counted, of each at most MOST_REWRITTEN and one, which are 274; with what is after them that comes
-- to all.
pub record CountsTo (written : ℕ → ℕ) (t : Table) (f n : ℕ) (c : Counted) : Type 0 where
  pub few : c.blocks ≤ 274 * n
  pub within : length c.objects.items ≤ n
  pub held : length c.objects.items ≡ held_to t f n
  pub rest : c.blocks + blocks_to_move written t c.objects.items (drop n (whole_of t f)) ≡ blocks_to_empty written t f
  pub others : objects_after t c.objects.items (drop n (whole_of t f)) ≡ objects_in t f

-- what is held at the next place was counted too
record Adds (written : ℕ → ℕ) (old new : Counted) (held : Option Stored) : Type 0 where
  pub blocks : new.blocks ≡ old.blocks + added_at written old.objects.items held
  pub objects : new.objects.items ≡ objects_at old.objects.items held
  pub few : new.blocks ≤ old.blocks + 274

counted_there : (written : ℕ → ℕ) (t : Table) (f n : ℕ) (old new : Counted) → n < 15 → Adds written old new (held_at t (block_at t f (n + 1))) → CountsTo written t f n old → CountsTo written t f (n + 1) new
counted_there written t f n old new h adds before =
    let held : Option Stored = held_at t (block_at t f (n + 1)) in
    let after : List ℕ = objects_at old.objects.items held in
    let later : List Place = drop (n + 1) (whole_of t f) in
    let were : old.blocks ≤ 274 * n = before.few in
    let more : new.blocks ≤ old.blocks + 274 = adds.few in
    let had : length old.objects.items ≤ n = before.within in
    let long : length new.objects.items ≡ length after = ap (λ (os : List ℕ). length os) adds.objects in
    let one : length after ≤ length old.objects.items + 1 = few_more old.objects.items held in
    let rest : blocks_to_move written t new.objects.items later ≡ blocks_to_move written t after later = ap (λ (os : List ℕ). blocks_to_move written t os later) adds.objects in
    let next = next_block written t f n old.objects.items h in
    let sum = adds.blocks in
    let all = before.rest in
    record {
      few = omega (arith, were, more);
      within = omega (arith, had, long, one);
      held = long ∙ held_next t f n old.objects.items h before.held;
      rest = omega (arith, sum, rest, next, all);
      others = ap (λ (os : List ℕ). objects_after t os later) adds.objects ∙ sym (next_object t f n old.objects.items h) ∙ before.others;
    }

-- the next block was looked at
pub counted_next : (written : ℕ → ℕ) (t : Table) (f n m g : ℕ) (p : Place) (old new : Counted) → n < 15 → p ≡ record { frame = f; block = m; generation = g } → m ≡ n + 1 → g ≡ (frame_at t.seat.frames f).generation
    → new.blocks ≡ old.blocks + added_at written old.objects.items (held_at t p) → new.objects.items ≡ objects_at old.objects.items (held_at t p) → new.blocks ≤ old.blocks + 274
    → CountsTo written t f n old → CountsTo written t f (n + 1) new
counted_next written t f n m g p old new h place block generation blocks objects few =
    let same : p ≡ block_at t f (n + 1) = place_is t f (n + 1) m g p place block generation in
    counted_there written t f n old new h (record {
      blocks = blocks ∙ ap (λ (q : Place). old.blocks + added_at written old.objects.items (held_at t q)) same;
      objects = objects ∙ ap (λ (q : Place). objects_at old.objects.items (held_at t q)) same;
      few = few;
    })

-- ---- all blocks were looked at

pub blocks_counted : (written : ℕ → ℕ) (t : Table) (f n : ℕ) (c : Counted) → n ≡ 15 → CountsTo written t f n c → c.blocks ≡ blocks_to_empty written t f
blocks_counted written t f n c end all =
    let none : blocks_to_move written t c.objects.items (drop n (whole_of t f)) ≡ 0 = ap (blocks_to_move written t c.objects.items) (drop_all n (whole_of t f) (omega (arith, length-whole_of t f, end))) in
    let whole = all.rest in
    omega (arith, none, whole)

pub objects_counted : (written : ℕ → ℕ) (t : Table) (f n : ℕ) (c : Counted) → n ≡ 15 → CountsTo written t f n c → c.objects.items ≡ objects_in t f
objects_counted written t f n c end all = sym (ap (objects_after t c.objects.items) (drop_all n (whole_of t f) (omega (arith, length-whole_of t f, end)))) ∙ all.others

pub held_counted : (written : ℕ → ℕ) (t : Table) (f n : ℕ) (c : Counted) → n ≡ 15 → CountsTo written t f n c → length c.objects.items ≡ held_count t f
held_counted written t f n c end all = all.held ∙ ap (λ (m : ℕ). held_to t f m) end ∙ count_all t f

-- no more blocks are held than a frame has
pub few_held : (t : Table) (f : ℕ) → held_count t f ≤ 15
few_held t f = let long = length-whole_of t f in omega (arith, long, count_by-le-length (is_held t) (whole_of t f))
