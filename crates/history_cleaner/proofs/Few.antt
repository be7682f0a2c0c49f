-- Objects that have a row are few: each has a block at a place of its own, and the frames have few places.
use Rattle.std.proofs.Common.{◌≡◌, ◌⊎◌, ℕ, zero, suc, ◌+◌, ◌*◌, ◌/◌, ◌%◌, ◌^◌, ◌<◌, ◌≤◌, ◌==◌, ◌&&◌, Bool, true, false, inl, inr, List, [], ◌∷◌, length, map, Option, Some, None, IsSome, refl, sym, ap, subst, ◌∙◌, arith}
use Rattle.std.specs.Prelude.{not, is_some, IfSome, MatchOption, count_by}
use Rattle.std.specs.List.{range_with_len}
use Rattle.std.proofs.lemmas.Bool.{cases_Bool, cases_eq, and_parts, and_from, and_left, eqb-true, eqb-false, ne_eqb, not-true, cond-false, false≢true, false_from_ne_true}
use Rattle.std.proofs.lemmas.Option.{none-some, same_Some}
use Rattle.std.proofs.lemmas.List.FromFn.{length-map-range_with_len}
use Rattle.s4_types.specs.Pointer.{Place, IsPlace}
use Rattle.block_log.specs.declared.kinds.BlockKind.{BlockKind}
use Rattle.block_log.specs.declared.kinds.BlockKind.TheVariants.{Journal}
use Rattle.block_log.specs.Log.{Stored, of_kind, seen_as, same_kind}
use Rattle.segment_word.specs.Layout.{frame_at, block_bytes}
use Rattle.segment_table.specs.Table.{Table, slots_at, held_at, stored, block_slot}
use Rattle.codec.specs.Fields.{◌>>=◌}
use Rattle.codec.specs.Checkpoint.{CheckpointFields}
use Rattle.codec.specs.Entry.{EntryFields}
use Rattle.codec.specs.Journal.{JournalFields}
use Rattle.journal_chain.specs.Packing.{joined}
use Rattle.journal_chain.specs.Chain.{BlockView, Link, journal_of, journal_in, links_from, chain_links, entries_in}
use Rattle.s4_types.specs.declared.limits.TheConstants.{CHAIN_BLOCKS}
use Rattle.lemmas.proofs.Range.{count_first, tally}
use Rattle.object_map.specs.declared.map.Row.{Row}
use Rattle.object_map.specs.Rows.{row_of}
use Rattle.codec.proofs.Fronts.{bit_most}
use Rattle.time_read.specs.Rows.{entries_of, inode_of}
use Rattle.time_read.specs.Orderly.{BeginsDead, IsFromTo}
use Rattle.version_store.specs.Store.{IsStore}
use Rattle.checkpoint.specs.Held.{checkpoint_held, checkpoint_places, of_checkpoints, is_one_of, HasBytes, HasItsBlocks}
use Rattle.checkpoint.proofs.OwnBlocks.{IsOwn, seen_own, has_some}
use Rattle.drive.specs.Fields.{DriveFields, store_of}
use Rattle.history_cleaner.proofs.Emptied.{count_alike}

-- ---- numbers of a list

-- a number is one of these
abbrev IsIn : ℕ → List ℕ → Type 0
IsIn o [] = ⊥
IsIn o (x ∷ xs) = (o ≡ x) ⊎ IsIn o xs

-- a test that fails at one number more
abbrev but : (ℕ → Bool) → ℕ → ℕ → Bool
but test x o = test o && not (o == x)

but_else : (test : ℕ → Bool) (x o : ℕ) → (o ≡ x → ⊥) → test o ≡ but test x o
but_else test x o other = elim (cases_Bool (test o)) [
  | inl is ↦ is ∙ sym (and_from (test o) (not (o == x)) is (ap not (ne_eqb o x other)))
  | inr fails ↦ fails ∙ sym (and_left (test o) (not (o == x)) fails)
]

but_past : (test : ℕ → Bool) (x a n : ℕ) → x < a → count_by test (range_with_len a n) ≡ count_by (but test x) (range_with_len a n)
but_past test x a n past = count_alike test (but test x) a n (λ k low high. but_else test x k (λ same. omega (arith, same, low, past)))

one_more : (test : ℕ → Bool) (x a n : ℕ) → count_by test (range_with_len a n) ≤ count_by (but test x) (range_with_len a n) + 1
one_more test x a zero = omega arith
one_more test x a (suc n) = elim (cases_eq a x) [
  | inl here ↦
      let rest : count_by test (range_with_len (a + 1) n) ≡ count_by (but test x) (range_with_len (a + 1) n) = but_past test x (a + 1) n (omega (arith, here)) in
      omega (arith, count_first test a n, count_first (but test x) a n, rest, bit_most (test a))
  | inr other ↦
      let same : tally (test a) ≡ tally (but test x a) = ap tally (but_else test x a other) in
      omega (arith, count_first test a n, count_first (but test x) a n, same, one_more test x (a + 1) n)
]

none_counted : (test : ℕ → Bool) (a n : ℕ) → ((o : ℕ) → a ≤ o → o < a + n → test o ≡ true → ⊥) → count_by test (range_with_len a n) ≡ 0
none_counted test a zero none = refl
none_counted test a (suc n) none =
    let here : tally (test a) ≡ tally false = ap tally (false_from_ne_true (test a) (none a (omega arith) (omega arith))) in
    omega (arith, count_first test a n, here, none_counted test (a + 1) n (λ o low high is. none o (omega (arith, low)) (omega (arith, high)) is))

in_rest : (xs : List ℕ) (x o : ℕ) → (o == x) ≡ false → IsIn o (x ∷ xs) → IsIn o xs
in_rest xs x o other there = elim there [
  | inl here ↦ absurd (eqb-false o x other here)
  | inr behind ↦ behind
]

-- numbers that are all in a list are no more than the list has
few_tested : (xs : List ℕ) (test : ℕ → Bool) (a n : ℕ) → ((o : ℕ) → a ≤ o → o < a + n → test o ≡ true → IsIn o xs) → count_by test (range_with_len a n) ≤ length xs
few_tested [] test a n all = omega (arith, none_counted test a n all)
few_tested (x ∷ xs) test a n all =
    let rest : count_by (but test x) (range_with_len a n) ≤ length xs = few_tested xs (but test x) a n
    (λ o low high is. let both = and_parts (test o) (not (o == x)) is in in_rest xs x o (not-true (o == x) both.1) (all o low high both.0)) in
    omega (arith, one_more test x a n, rest)

-- a value of a function is among its values
is_value : (f : ℕ → ℕ) (a n c o : ℕ) → a ≤ c → c < a + n → f c ≡ o → IsIn o (map f (range_with_len a n))
is_value f a zero c o low high is = absurd (omega (arith, low, high))
is_value f a (suc n) c o low high is = elim (cases_eq c a) [
  | inl here ↦ inl (sym is ∙ ap f here)
  | inr other ↦ inr (is_value f (a + 1) n c o (omega (arith, low, other)) (omega (arith, high)) is)
]

-- ---- the owners of places

abbrev owner_of : Option Stored → ℕ
owner_of None = 0
owner_of (Some block) = block.object

-- the place of that number, at its frame's present generation
abbrev place_at : Table → ℕ → Place
place_at t c = record { frame = c / 16; block = c % 16; generation = (frame_at t.seat.frames (c / 16)).generation }

abbrev owner_at : Table → ℕ → ℕ
owner_at t c = owner_of (held_at t (place_at t c))

same_frame : (f b : ℕ) → b < 16 → (16 * f + b) / 16 ≡ f
same_frame f b small = omega (arith, small)

same_block : (f b : ℕ) → b < 16 → (16 * f + b) % 16 ≡ b
same_block f b small = omega (arith, small)

-- a block is held at a place of the frame's present generation alone
held_now : (t : Table) (p : Place) (block : Stored) → held_at t p ≡ Some block → (frame_at t.seat.frames p.frame).generation ≡ p.generation
held_now t p block is =
    let k = frame_at t.seat.frames p.frame in
    let found = stored (block_slot (slots_at t.slots p.frame) p.block) (block_bytes k.contents p.block) in
    elim (cases_Bool (k.generation == p.generation)) [
      | inl same ↦ eqb-true k.generation p.generation same
      | inr other ↦ absurd (none-some block (sym (cond-false (k.generation == p.generation) found None other) ∙ is))
    ]

place_is : (t : Table) (p : Place) (block : Stored) → IsPlace p → held_at t p ≡ Some block → place_at t (16 * p.frame + p.block) ≡ p
place_is t p block place is =
    let low : p.block ≤ 15 = place.highest_block in
    let f : (16 * p.frame + p.block) / 16 ≡ p.frame = same_frame p.frame p.block (omega (arith, low)) in
    let b : (16 * p.frame + p.block) % 16 ≡ p.block = same_block p.frame p.block (omega (arith, low)) in
    let g : (frame_at t.seat.frames ((16 * p.frame + p.block) / 16)).generation ≡ p.generation = ap (λ (n : ℕ). (frame_at t.seat.frames n).generation) f ∙ held_now t p block is in
    ap (λ (n : ℕ). record { frame = n; block = (16 * p.frame + p.block) % 16; generation = (frame_at t.seat.frames ((16 * p.frame + p.block) / 16)).generation }) f
    ∙ ap (λ (n : ℕ). record { frame = p.frame; block = n; generation = (frame_at t.seat.frames ((16 * p.frame + p.block) / 16)).generation }) b
    ∙ ap (λ (n : ℕ). record { frame = p.frame; block = p.block; generation = n }) g

-- a block of an object is held at a place
pub record HasBlock (t : Table) (o : ℕ) : Type 0 where
  pub place : Place
  pub is_place : IsPlace place
  pub block : Stored
  pub held : held_at t place ≡ Some block
  pub owned : block.object ≡ o

is_owner : (t : Table) (width o : ℕ) → (has : HasBlock t o) → has.place.frame < width → IsIn o (map (owner_at t) (range_with_len 0 (16 * width)))
is_owner t width o has wide =
    let p : Place = has.place in
    let low : p.block ≤ 15 = has.is_place.highest_block in
    let is : owner_at t (16 * p.frame + p.block) ≡ o = ap (λ (q : Place). owner_of (held_at t q)) (place_is t p has.block has.is_place has.held) ∙ ap owner_of has.held ∙ has.owned in
    is_value (owner_at t) 0 (16 * width) (16 * p.frame + p.block) o (omega arith) (omega (arith, wide, low)) is

few_below : (t : Table) (width : ℕ) (test : ℕ → Bool) (n : ℕ) → ((k : ℕ) → k < 2 ^ 16 → k < width) → ((o : ℕ) → o < n → test o ≡ true → HasBlock t o) → count_by test (range_with_len 0 n) ≤ 16 * width
few_below t width test n wide all =
    let few : count_by test (range_with_len 0 n) ≤ length (map (owner_at t) (range_with_len 0 (16 * width))) = few_tested (map (owner_at t) (range_with_len 0 (16 * width))) test 0 n
    (λ o low high is. let has : HasBlock t o = all o (omega (arith, high)) is in is_owner t width o has (wide has.place.frame has.is_place.frame)) in
    subst (λ (m : ℕ). count_by test (range_with_len 0 n) ≤ m) (length-map-range_with_len (owner_at t) 0 (16 * width)) few

-- of the objects that have a block no more than 2^20 pass a test
pub few_with_blocks : (t : Table) (test : ℕ → Bool) (n : ℕ) → ((o : ℕ) → o < n → test o ≡ true → HasBlock t o) → count_by test (range_with_len 0 n) ≤ 1048576
few_with_blocks t test n all = few_below t 65536 test n (λ k below. below) all

-- ---- the block of a row

seen_block : (kind : BlockKind) (o : ℕ) (found : Option Stored) → IsSome (seen_as kind o found) → (block : Stored) × ((found ≡ Some block) × (block.object ≡ o))
seen_block kind o None there = absurd (false≢true there)
seen_block kind o (Some block) there = elim (cases_Bool (same_kind kind block.kind && block.object == o)) [
  | inl is ↦ (block, (refl, eqb-true block.object o (and_parts (same_kind kind block.kind) (block.object == o) is).1))
  | inr other ↦ absurd (false≢true (subst (λ (x : Option (List ℕ)). IsSome x) (cond-false (same_kind kind block.kind && block.object == o) (Some block.bytes) None other) there))
]

bound_some : {A B : Type 0} (x : Option A) (f : A → Option B) (y : B) → (x >>= f) ≡ Some y → (a : A) × (x ≡ Some a)
bound_some None f y is = absurd (none-some y is)
bound_some (Some a) f y is = (a, refl)

first_link : (fuel : ℕ) (blocks : Place → Option JournalFields) (p : Place) (links : List Link) → links_from fuel blocks (Some p) ≡ Some links → (block : JournalFields) × (blocks p ≡ Some block)
unfolding links_from
first_link zero blocks p links is = absurd (none-some links is)
first_link (suc fuel) blocks p links is = bound_some (blocks p) _ links is

no_link : (view : BlockView) (o : ℕ) (entries : List EntryFields) → entries_in view o None ≡ Some entries → [] ≡ entries
unfolding chain_links links_from joined
no_link view o entries is = same_Some [] entries is

-- a journal that begins dead has a first block
head_there : (view : BlockView) (o : ℕ) (head : Option Place) (entries : List EntryFields) → entries_in view o head ≡ Some entries → BeginsDead entries → (p : Place) × ((head ≡ Some p) × IsSome (view p))
unfolding chain_links
head_there view o None entries walk begins = absurd (subst BeginsDead (sym (no_link view o entries walk)) begins)
head_there view o (Some p) entries walk begins =
    let (links, is) = bound_some (chain_links view o (Some p)) _ entries walk in
    let (block, at) = first_link CHAIN_BLOCKS (journal_in o view) p links is in
    let (bytes, there) = bound_some (view p) (journal_of o) block at in
    (p, (refl, subst (λ (x : Option (List ℕ)). IsSome x) (sym there) refl))

block_at : (d : DriveFields) (o : ℕ) (kind : BlockKind) (p : Place) → IsPlace p → IsSome (of_kind kind o (store_of d).log.held p) → HasBlock d.store.table o
block_at d o kind p place there =
    let (block, (is, owned)) = seen_block kind o (held_at d.store.table p) there in
    record { place = p; is_place = place; block = block; held = is; owned = owned }

placed : (slot : Option Place) (p : Place) → slot ≡ Some p → IfSome slot IsPlace → IsPlace p
placed slot p is h = subst (λ (x : Option Place). IfSome x IsPlace) is h

-- The pointer that a checkpoint is told by leads to a block that is held as one of the object's checkpoints.
abbrev pub LeadsToItsOwn : Type 0
LeadsToItsOwn = (held : Place → Option Stored) (o : ℕ) (p : Place) → IsSome (checkpoint_held held o p) → HasBytes (of_checkpoints o held p)

-- So it is by the laws of checkpoints.
pub leads : ((held : Place → Option Stored) (o : ℕ) (p : Place) → IsSome (checkpoint_held held o p) → HasItsBlocks held o (Some p))
    → ((held : Place → Option Stored) (o : ℕ) (p : Place) → is_one_of (checkpoint_places held o p) p ≡ true) → LeadsToItsOwn
leads blocks first held o p told = blocks held o p told p (first held o p)

row_block_at : LeadsToItsOwn → (d : DriveFields) (o : ℕ) (row : Row) (checkpoint : Option Place) → row.checkpoint ≡ checkpoint → IsStore (store_of d) → row_of d.store.rows o ≡ Some row
    → MatchOption checkpoint (BeginsDead (entries_of (store_of d).log.held o row)) (λ p. IsFromTo row.created (store_of d).latest row.checkpoint_moment) → IfSome row.checkpoint IsPlace → IfSome row.head IsPlace → HasBlock d.store.table o
row_block_at own d o row None is store there begins first last =
    let chain = (store.objects o row there).stands.chain in
    let (p, (at, held)) = head_there (of_kind Journal o (store_of d).log.held) o row.head (entries_of (store_of d).log.held o row) chain.walk begins in
    block_at d o Journal p (placed row.head p at last) held
row_block_at own d o row (Some p) is store there begins first last =
    let held = (store_of d).log.held in
    let c : CheckpointFields = record { object = o; moment = row.checkpoint_moment; inode = inode_of held o row row.checkpoint_moment } in
    let told : checkpoint_held held o p ≡ Some c = subst (λ (x : Option Place). MatchOption x (row.checkpoint_moment ≡ 0) (λ q. checkpoint_held held o q ≡ Some c)) is (store.objects o row there).stands.checkpoint in
    let its : IsOwn o (held p) = seen_own o (held p) (has_some (of_checkpoints o held p) (own held o p (ap is_some told))) in
    record { place = p; is_place = placed row.checkpoint p is first; block = its.block; held = its.is; owned = its.object }

-- an object with a row has a block
pub row_block : LeadsToItsOwn → (d : DriveFields) (o : ℕ) (row : Row) → IsStore (store_of d) → row_of d.store.rows o ≡ Some row → IfSome row.checkpoint IsPlace → IfSome row.head IsPlace → HasBlock d.store.table o
row_block own d o row store there first last = row_block_at own d o row row.checkpoint refl store there (store.orderly o row there).checkpoint first last
