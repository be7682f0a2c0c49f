-- A drive has fewer rows than 2^20: each names a block of its own.
use Rattle.std.proofs.Common.{◌≡◌, ◌⊎◌, inl, inr, ℕ, suc, Bool, true, false, cond, eqb, ◌==◌, ◌&&◌, ◌+◌, ◌-◌, ◌*◌, ◌/◌, ◌%◌, ◌<◌, ◌≤◌, ◌^◌, List, [], ◌∷◌, length, Option, Some, None, IsSome, is_some, refl, sym, ap, ◌∙◌, subst, arith}
use Rattle.std.specs.Prelude.{IfSome, MatchOption, unwrap_or}
use Rattle.std.specs.List.{AllByRecursion, IsDistinct, list_any}
use Rattle.std.specs.Option.{option_map}
use Rattle.std.proofs.lemmas.Bool.{and_parts, or_cases, cases_Bool, cond-false, eqb-true, ne_eqb}
use Rattle.std.proofs.lemmas.Option.{none-some, same_Some}
use Rattle.std.proofs.lemmas.Map.Steps.{length-le_from_distinct_below}
use Rattle.s4_types.specs.Pointer.{Place, IsPlace}
use Rattle.s4_types.specs.declared.limits.TheConstants.{CHAIN_BLOCKS}
use Rattle.lemmas.proofs.List.{all_weaker}
use Rattle.block_log.specs.declared.kinds.BlockKind.{BlockKind}
use Rattle.block_log.specs.declared.kinds.BlockKind.TheVariants.{Journal, Checkpoint, Pointers}
use Rattle.block_log.specs.Log.{Stored, of_kind, seen_as, same_kind}
use Rattle.codec.specs.Fields.{◌>>=◌}
use Rattle.codec.specs.Entry.{EntryFields}
use Rattle.codec.specs.Checkpoint.{CheckpointFields}
use Rattle.journal_chain.specs.Packing.{joined}
use Rattle.journal_chain.specs.Chain.{BlockView, linked, links_from, chain_links, chain_entries, journal_in, journal_of, blocks_of}
use Rattle.checkpoint.specs.Held.{checkpoint_held, checkpoint_places, begun_by, or_others, seen_of, HasBytes, is_one_of, HasItsBlocks}
use Rattle.object_map.specs.declared.map.Row.{Row}
use Rattle.time_read.specs.Rows.{IsRow, entries_of, inode_of}
use Rattle.time_read.specs.Orderly.{IsOrderly, IsFromTo, BeginsDead}
use Rattle.segment_table.specs.declared.slots.Slot.{Slot}
use Rattle.segment_table.specs.Slots.{is_held}
use Rattle.segment_table.specs.Table.{Table, slots_at, block_slot, stored, held_at}
use Rattle.segment_word.specs.Layout.{frame_at, block_bytes}
use Rattle.image_objects.specs.Saved.{ObjectsAscend}

-- a block of an object is held, at a place that a pointer can have
pub record Owns (held : Place → Option Stored) (o : ℕ) : Type 0 where
  pub place : Place
  pub is : IsPlace place
  pub block : Stored
  pub there : held place ≡ Some block
  pub own : block.object ≡ o

owned : (k : BlockKind) (o : ℕ) (b : Option Stored) (bytes : List ℕ) → seen_as k o b ≡ Some bytes → (block : Stored) × ((b ≡ Some block) × (block.object ≡ o))
owned k o None bytes h = absurd (none-some bytes h)
owned k o (Some block) bytes h = elim (cases_Bool (same_kind k block.kind && block.object == o)) [
  | inl is ↦ (block, (refl, eqb-true block.object o (and_parts (same_kind k block.kind) (block.object == o) is).1))
  | inr other ↦ absurd (none-some bytes (sym (cond-false (same_kind k block.kind && block.object == o) (Some block.bytes) None other) ∙ h))
]

owns : (held : Place → Option Stored) (k : BlockKind) (o : ℕ) (p : Place) (bytes : List ℕ) → IsPlace p → of_kind k o held p ≡ Some bytes → Owns held o
owns held k o p bytes is h =
    let (block, (there, own)) = owned k o (held p) bytes h in
    record { place = p; is = is; block = block; there = there; own = own }

pub some_or_none : {A : Type 0} (x : Option A) → (x ≡ None) ⊎ ((y : A) × (x ≡ Some y))
some_or_none None = inl refl
some_or_none (Some y) = inr (y, refl)

-- a chain with entries has a block at its head
headed : (held : Place → Option Stored) (o : ℕ) (head : Option Place) → IfSome head IsPlace → BeginsDead (unwrap_or (chain_entries held o head) []) → Owns held o
unfolding chain_entries chain_links links_from joined
headed held o None is dead = absurd dead
headed held o (Some p) is dead =
    let view : BlockView = of_kind Journal o held in
    elim (some_or_none (view p)) [
      | inl none ↦
          let nothing : chain_entries held o (Some p) ≡ None =
          ap (λ (b : Option (List ℕ)). ((b >>= journal_of o) >>= λ block. (links_from (CHAIN_BLOCKS - 1) (journal_in o view) block.previous >>= λ older. Some (linked p block older))) >>= λ links. Some (joined (blocks_of links))) none in
          let D : Option (List EntryFields) → Type 0 = λ es. BeginsDead (unwrap_or es []) in
          absurd (subst D nothing dead)
      | inr some ↦ owns held Journal o p some.0 is some.1
    ]

-- Where a checkpoint is told, each of its blocks is held, and the pointer that it is told by leads to one of them.
pub record CheckpointLaws : Type 0 where
  pub held : (held : Place → Option Stored) (o : ℕ) (p : Place) → IsSome (checkpoint_held held o p) → HasItsBlocks held o (Some p)
  pub first : (held : Place → Option Stored) (o : ℕ) (p : Place) → is_one_of (checkpoint_places held o p) p ≡ true

-- a block that is seen with some bytes, as one of an object's checkpoints, is there and the object's
checkpoint_owned : (o : ℕ) (b : Option Stored) → HasBytes (seen_of o b) → (block : Stored) × ((b ≡ Some block) × (block.object ≡ o))
checkpoint_owned o b has = elim (some_or_none (seen_as Checkpoint o b)) [
  | inr first ↦ owned Checkpoint o b first.0 first.1
  | inl no_first ↦ elim (some_or_none (seen_as Pointers o b)) [
    | inr part ↦ owned Pointers o b part.0 part.1
    | inl no_part ↦
        let either : Option (List ℕ) → Option (List ℕ) → Type 0 = λ x y. HasBytes (or_others (option_map (begun_by Checkpoint) x) (option_map (begun_by Pointers) y)) in
        absurd (subst (either None) no_part (subst (λ (x : Option (List ℕ)). either x (seen_as Pointers o b)) no_first has))
  ]
]

checkpointed : CheckpointLaws → (held : Place → Option Stored) (o : ℕ) (p : Place) (c : CheckpointFields) → IsPlace p → checkpoint_held held o p ≡ Some c → Owns held o
checkpointed laws held o p c is h =
    let (block, (there, own)) = checkpoint_owned o (held p) (laws.held held o p (ap is_some h) p (laws.first held o p)) in
    record { place = p; is = is; block = block; there = there; own = own }

by_checkpoint : CheckpointLaws → (held : Place → Option Stored) (o : ℕ) (hole dead : Type 0) (kept : Place → Type 0) (c : CheckpointFields) (q : Option Place) → IfSome q IsPlace → MatchOption q hole (λ p. checkpoint_held held o p ≡ Some c) → MatchOption q dead kept → (dead → Owns held o) → Owns held o
by_checkpoint laws held o hole dead kept c None is stands orderly begins = begins orderly
by_checkpoint laws held o hole dead kept c (Some p) is stands orderly begins = checkpointed laws held o p c is stands

-- a row names a block of its object: its checkpoint, or else the newest of its journal
pub row_owns : CheckpointLaws → (held : Place → Option Stored) (o latest : ℕ) (row : Row) → IfSome row.checkpoint IsPlace → IfSome row.head IsPlace → IsRow held o row → IsOrderly held o row latest → Owns held o
row_owns laws held o latest row checkpoint head stands orderly =
    by_checkpoint laws held o (row.checkpoint_moment ≡ 0) (BeginsDead (entries_of held o row)) (λ p. IsFromTo row.created latest row.checkpoint_moment)
    (record { object = o; moment = row.checkpoint_moment; inode = inode_of held o row row.checkpoint_moment })
    row.checkpoint checkpoint stands.checkpoint orderly.checkpoint (headed held o row.head head)

-- ---- the blocks of a table are numbered, those of a frame one by one

abbrev owner : Table → ℕ → ℕ
owner t n = (block_slot (slots_at t.slots (n / 16)) (n % 16)).role.object

some_of : {A : Type 0} (b : Bool) (x : Option A) (y : A) → cond b x None ≡ Some y → x ≡ Some y
some_of true x y h = h
some_of false x y h = absurd (none-some y h)

owner_is : (t : Table) (p : Place) (block : Stored) → held_at t p ≡ Some block → (block_slot (slots_at t.slots p.frame) p.block).role.object ≡ block.object
owner_is t p block h =
    let k = frame_at t.seat.frames p.frame in
    let slot : Slot = block_slot (slots_at t.slots p.frame) p.block in
    let here : Stored = record { kind = slot.role.kind; object = slot.role.object; bytes = block_bytes k.contents p.block } in
    let there : stored slot (block_bytes k.contents p.block) ≡ Some block = some_of (k.generation == p.generation) (stored slot (block_bytes k.contents p.block)) block h in
    ap (λ (b : Stored). b.object) (same_Some here block (some_of (is_held slot) (Some here) block there))

-- a number below 2^20, whose block is the object's
pub record Numbered (t : Table) (o : ℕ) : Type 0 where
  pub number : ℕ
  pub small : number < 2 ^ 20
  pub own : owner t number ≡ o

pub numbered : (t : Table) (o : ℕ) → Owns (held_at t) o → Numbered t o
numbered t o h =
    let frame : h.place.frame < 2 ^ 16 = h.is.frame in
    let block : h.place.block ≤ 15 = h.is.highest_block in
    let whole : (16 * h.place.frame + h.place.block) / 16 ≡ h.place.frame = omega arith in
    let part : (16 * h.place.frame + h.place.block) % 16 ≡ h.place.block = omega arith in
    record {
      number = 16 * h.place.frame + h.place.block;
      small = omega arith;
      own = ap (λ f. (block_slot (slots_at t.slots f) ((16 * h.place.frame + h.place.block) % 16)).role.object) whole
          ∙ ap (λ b. (block_slot (slots_at t.slots h.place.frame) b).role.object) part
          ∙ owner_is t h.place h.block h.there ∙ h.own;
    }

-- ---- numbers of objects that ascend are distinct

record Numbers (t : Table) (low count : ℕ) : Type 0 where
  all : List ℕ
  counted : length all ≡ count
  distinct : IsDistinct eqb all
  small : AllByRecursion (λ n. n < 2 ^ 20) all
  later : AllByRecursion (λ n. low ≤ owner t n) all

numbers : (t : Table) (low : ℕ) (rows : List (ℕ × Row)) → ObjectsAscend low rows → AllByRecursion (λ (e : ℕ × Row). Numbered t e.0) rows → Numbers t low (length rows)
unfolding IsDistinct
numbers t low [] ascend each = record { all = []; counted = refl; distinct = tt; small = tt; later = tt }
numbers t low (e ∷ rows) ascend each =
    let behind : Numbers t (e.0 + 1) (length rows) = numbers t (e.0 + 1) rows ascend.1 each.1 in
    let n : ℕ = each.0.number in
    let own : owner t n ≡ e.0 = each.0.own in
    let from : low ≤ e.0 = ascend.0 in
    record {
      all = n ∷ behind.all;
      counted = ap suc behind.counted;
      distinct = (all_weaker (λ m. e.0 + 1 ≤ owner t m) (λ m. eqb n m ≡ false) behind.all (λ m after. ne_eqb n m (λ is. omega (arith, after, own, ap (owner t) is))) behind.later, behind.distinct);
      small = (each.0.small, behind.small);
      later = (omega (arith, own), all_weaker (λ m. e.0 + 1 ≤ owner t m) (λ m. low ≤ owner t m) behind.all (λ m after. omega (arith, after)) behind.later);
    }

one_of : (P : ℕ → Type 0) (xs : List ℕ) (q : ℕ) → AllByRecursion P xs → list_any (eqb q) xs ≡ true → P q
one_of P [] q all h = cc
one_of P (x ∷ xs) q all h = elim (or_cases (eqb q x) (list_any (eqb q) xs) h) [
  | inl is ↦ subst P (sym (eqb-true q x is)) all.0
  | inr on ↦ one_of P xs q all.1 on
]

-- rows of ascending objects, each of which owns a block of the table, are at most as many as it can have
pub few_rows : (t : Table) (low : ℕ) (rows : List (ℕ × Row)) → ObjectsAscend low rows → AllByRecursion (λ (e : ℕ × Row). Owns (held_at t) e.0) rows → length rows ≤ 2 ^ 20
few_rows t low rows ascend each =
    let found : Numbers t low (length rows) = numbers t low rows ascend (all_weaker (λ (e : ℕ × Row). Owns (held_at t) e.0) (λ (e : ℕ × Row). Numbered t e.0) rows (λ e own. numbered t e.0 own) each) in
    omega (arith, found.counted, length-le_from_distinct_below found.all (2 ^ 20) found.distinct (λ q there. one_of (λ n. n < 2 ^ 20) found.all q found.small there))
