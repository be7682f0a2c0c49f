-- What is found in a frame, block by block.
use Rattle.std.proofs.Common.{◌≡◌, inl, inr, ℕ, zero, suc, ◌+◌, ◌<◌, ◌≤◌, min, Bool, true, List, length, get_or, take, count_by, Option, Some, None, refl, sym, ap, subst, ◌∙◌, arith}
use Rattle.std.specs.Prelude.{is_some, IfSome, IfNone, option_map}
use Rattle.std.proofs.lemmas.Bool.{cases_eq, cases_lt, eq-eqb, eqb-true}
use Rattle.std.proofs.lemmas.List.{take_all}
use Rattle.std.proofs.lemmas.List.Sums.{count_by_more_no}
use Rattle.s4_types.specs.Pointer.{Place}
use Rattle.block_log.specs.Log.{Stored}
use Rattle.codec.specs.declared.summaries.BlockRole.{BlockRole}
use Rattle.segment_word.specs.Layout.{frame_at}
use Rattle.segment_table.specs.Table.{Table, held_at, is_of, role_of}
use Rattle.segment_table.specs.Room.{places, whole_of}
use Rattle.segment_table.proofs.Ahead.{length-places}
use Rattle.segment_copier.specs.Choosing.{held_count, IsSparse}
use Rattle.segment_copier.specs.private.Surveying.{block_at, IsLowestTo, HoldsNothing, IsFound}

-- ---- the places of a frame

get_or-places : (f g b n i : ℕ) (d : Place) → i < n → get_or (places f g b n) i d ≡ record { frame = f; block = b + i; generation = g }
unfolding places
get_or-places f g b zero i d h = absurd (omega arith)
get_or-places f g b (suc n) zero d h = ap (λ (m : ℕ). record { frame = f; block = m; generation = g }) (omega arith)
get_or-places f g b (suc n) (suc i) d h = get_or-places f g (b + 1) n i d (omega arith) ∙ ap (λ (m : ℕ). record { frame = f; block = m; generation = g }) (omega arith)

pub length-whole_of : (t : Table) (f : ℕ) → length (whole_of t f) ≡ 15
length-whole_of t f = length-places f (frame_at t.seat.frames f).generation 1 15

pub whole_at : (t : Table) (f n : ℕ) → n < 15 → get_or (whole_of t f) n (block_at t f (n + 1)) ≡ block_at t f (n + 1)
whole_at t f n h = get_or-places f (frame_at t.seat.frames f).generation 1 15 n (block_at t f (n + 1)) h
    ∙ ap (λ (m : ℕ). record { frame = f; block = m; generation = (frame_at t.seat.frames f).generation }) (omega arith)

-- the place of a block, from its numbers
pub place_is : (t : Table) (f b m g : ℕ) (p : Place) → p ≡ record { frame = f; block = m; generation = g } → m ≡ b → g ≡ (frame_at t.seat.frames f).generation → p ≡ block_at t f b
place_is t f b m g p is block generation = is ∙ ap (λ (n : ℕ). record { frame = f; block = n; generation = g }) block ∙ ap (λ (n : ℕ). record { frame = f; block = b; generation = n }) generation

-- ---- how many blocks are held

abbrev is_held : Table → Place → Bool
is_held t p = is_some (held_at t p)

-- how many of the first n blocks are held
abbrev count_to : Table → ℕ → ℕ → ℕ
count_to t f n = count_by (λ p. is_some (held_at t p)) (take n (whole_of t f))

count_same : (t : Table) (f n : ℕ) → n < 15 → held_at t (block_at t f (n + 1)) ≡ None → count_to t f (n + 1) ≡ count_to t f n
count_same t f n h is = count_by_more_no (is_held t) (whole_of t f) n (block_at t f (n + 1)) (omega (arith, length-whole_of t f))
    (ap (is_held t) (whole_at t f n h) ∙ ap (λ (held : Option Stored). is_some held) is)

-- of all 15
pub count_all : (t : Table) (f : ℕ) → count_to t f 15 ≡ held_count t f
count_all t f = ap (λ (l : List Place). count_by (λ p. is_some (held_at t p)) l) (take_all 15 (whole_of t f) (omega (arith, length-whole_of t f)))

-- ---- block by block

-- what is so of the first n blocks and of the next one
up_to : (P : ℕ → Type 0) (n : ℕ) → ((b : ℕ) → 1 ≤ b → b ≤ n → P b) → P (n + 1) → (b : ℕ) → 1 ≤ b → b ≤ n + 1 → P b
up_to P n before here b low high = elim (cases_eq b (n + 1)) [
  | inl same ↦ subst P (sym same) here
  | inr other ↦ before b low (omega (arith, other, high))
]

of_none : (o : ℕ) (held : Option Stored) → held ≡ None → is_of o held ≡ true → ⊥
of_none o None is e = absurd (cc)
of_none o (Some block) is e = absurd (cc)

of_block : (o : ℕ) (held : Option Stored) (block : Stored) → held ≡ Some block → is_of o held ≡ true → block.object ≡ o
of_block o held block is e = eqb-true block.object o (ap (is_of o) (sym is) ∙ e)

is_block : (o : ℕ) (held : Option Stored) (block : Stored) → held ≡ Some block → block.object ≡ o → is_of o held ≡ true
is_block o held block is e = ap (is_of o) is ∙ eq-eqb block.object o e

-- the next block isn't held
step_none : (t : Table) (f n : ℕ) (found : Option ℕ) → n < 15 → held_at t (block_at t f (n + 1)) ≡ None → IsFound t f n found → IsFound t f (n + 1) found
step_none t f n None h is before = record {
  count = count_same t f n h is ∙ before.count;
  none = up_to (λ b. held_at t (block_at t f b) ≡ None) n before.none is;
}
step_none t f n (Some o) h is before = record {
  block = before.block;
  payload = (before.payload.0, (let low : before.block ≤ n = before.payload.1 in omega (arith, low)));
  holds = before.holds;
  lowest = λ b q low high. up_to (λ c. is_of q (held_at t (block_at t f c)) ≡ true → o ≤ q) n (λ c. before.lowest c q) (λ e. absurd (of_none q (held_at t (block_at t f (n + 1))) is e)) b low high;
}

-- the next block is the first one that is held
first_held : (t : Table) (f n : ℕ) (block : Stored) (o : ℕ) → held_at t (block_at t f (n + 1)) ≡ Some block → HoldsNothing t f n → o ≡ block.object → IsLowestTo t f (n + 1) o
first_held t f n block o is before object = record {
  block = n + 1;
  payload = (omega arith, omega arith);
  holds = is_block o (held_at t (block_at t f (n + 1))) block is (sym object);
  lowest = λ b q. up_to (λ c. is_of q (held_at t (block_at t f c)) ≡ true → o ≤ q) n (λ c low high e. absurd (of_none q (held_at t (block_at t f c)) (before.none c low high) e))
      (λ e. omega (arith, object, of_block q (held_at t (block_at t f (n + 1))) block is e)) b;
}

-- one that is held has the least object so far, or a greater one
next_held : (t : Table) (f n : ℕ) (block : Stored) (old o : ℕ) → held_at t (block_at t f (n + 1)) ≡ Some block → IsLowestTo t f n old → o ≡ min old block.object → IsLowestTo t f (n + 1) o
next_held t f n block old o is before lowest =
    let within : before.block ≤ n = before.payload.1 in
    let least : (b q : ℕ) → 1 ≤ b → b ≤ n + 1 → is_of q (held_at t (block_at t f b)) ≡ true → o ≤ q =
    λ b q. up_to (λ c. is_of q (held_at t (block_at t f c)) ≡ true → o ≤ q) n (λ c low high e. omega (arith, lowest, before.lowest c q low high e))
    (λ e. omega (arith, lowest, of_block q (held_at t (block_at t f (n + 1))) block is e)) b in
    elim (cases_lt block.object old) [
      | inl lower ↦ record {
        block = n + 1;
        payload = (omega arith, omega arith);
        holds = is_block o (held_at t (block_at t f (n + 1))) block is (omega (arith, lowest, lower));
        lowest = least;
      }
      | inr other ↦ record {
        block = before.block;
        payload = (before.payload.0, omega (arith, within));
        holds = (let same : old ≡ o = omega (arith, lowest, other) in subst (λ (q : ℕ). is_of q (held_at t (block_at t f before.block)) ≡ true) same before.holds);
        lowest = least;
      }
    ]

step_held : (t : Table) (f n : ℕ) (found : Option ℕ) (block : Stored) (o : ℕ) → held_at t (block_at t f (n + 1)) ≡ Some block → IsFound t f n found
    → IfNone found (o ≡ block.object) → IfSome found (λ old. o ≡ min old block.object) → IsLowestTo t f (n + 1) o
step_held t f n None block o is before first more = first_held t f n block o is before first
step_held t f n (Some old) block o is before first more = next_held t f n block old o is before more

-- ---- by the parts that are looked at

pub step_without : (t : Table) (f n m g : ℕ) (found : Option ℕ) (p : Place) → n < 15 → p ≡ record { frame = f; block = m; generation = g } → m ≡ n + 1 → g ≡ (frame_at t.seat.frames f).generation
    → None ≡ option_map role_of (held_at t p) → IsFound t f n found → IsFound t f (n + 1) found
step_without t f n m g found p h place block generation role before = step_none t f n found h
    (none_held (held_at t (block_at t f (n + 1))) (role ∙ ap (λ (q : Place). option_map role_of (held_at t q)) (place_is t f (n + 1) m g p place block generation))) before where
      none_held : (held : Option Stored) → None ≡ option_map role_of held → held ≡ None
      none_held None e = refl
      none_held (Some block) e = absurd (cc)

some_held : (t : Table) (f n : ℕ) (found : Option ℕ) (held : Option Stored) (role : BlockRole) (o : ℕ) → held_at t (block_at t f (n + 1)) ≡ held → Some role ≡ option_map role_of held → IsFound t f n found
    → IfNone found (o ≡ role.object) → IfSome found (λ old. o ≡ min old role.object) → IsLowestTo t f (n + 1) o
some_held t f n found None role o is e before first more = absurd (cc)
some_held t f n found (Some block) role o is e before first more =
    let same : role ≡ role_of block = (cc) in
    step_held t f n found block o is before
    (subst (λ (x : BlockRole). IfNone found (o ≡ x.object)) same first)
    (subst (λ (x : BlockRole). IfSome found (λ old. o ≡ min old x.object)) same more)

pub step_with : (t : Table) (f n m g : ℕ) (found : Option ℕ) (p : Place) (role : BlockRole) (o : ℕ) → p ≡ record { frame = f; block = m; generation = g } → m ≡ n + 1 → g ≡ (frame_at t.seat.frames f).generation
    → Some role ≡ option_map role_of (held_at t p) → IsFound t f n found
    → IfNone found (o ≡ role.object) → IfSome found (λ old. o ≡ min old role.object) → IsLowestTo t f (n + 1) o
step_with t f n m g found p role o place block generation is before first more = some_held t f n found (held_at t (block_at t f (n + 1))) role o refl
    (is ∙ ap (λ (q : Place). option_map role_of (held_at t q)) (place_is t f (n + 1) m g p place block generation)) before first more

-- where nothing is found in a frame, no move can be made out of it
pub none_sparse : (t : Table) (f n : ℕ) (found : Option ℕ) → n ≡ 15 → IsFound t f n found → IfNone found (IsSparse t f → ⊥)
none_sparse t f n (Some o) end all = tt
none_sparse t f n None end all =
    let none : count_to t f 15 ≡ 0 = subst (λ (m : ℕ). count_to t f m ≡ 0) end all.count in
    λ sparse. (let some : 1 ≤ held_count t f = sparse.some in absurd (omega (arith, none, count_all t f, some)))
