-- What emptying a frame may take is no less than what the move of an object out of it takes.
use Rattle.std.proofs.Common.{◌≡◌, inl, inr, ℕ, ◌+◌, ◌*◌, ◌/◌, ◌<◌, ◌≤◌, ◌==◌, ◌||◌, Bool, true, false, cond, if◌then◌else◌, List, [], ◌∷◌, ◌++◌, length, map, filter, Option, Some, None, refl, sym, ap, subst, ◌∙◌, arith}
use Rattle.std.proofs.lemmas.Bool.{cases_Bool, eqb-true, leb-false}
use Rattle.std.proofs.lemmas.List.Folds.{list_any-append}
use Rattle.s4_types.specs.Pointer.{Place}
use Rattle.block_log.specs.Log.{Stored, same_kind}
use Rattle.block_log.specs.declared.kinds.BlockKind.TheVariants.{Data}
use Rattle.codec.specs.Entry.{EntryFields, entry_length, entries_length}
use Rattle.journal_chain.specs.Packing.{packed, filled_bytes, AllFit, KeepsTheRule}
use Rattle.journal_chain.specs.Push.{whole_blocks}
use Rattle.journal_chain.specs.Sizes.{fits, filled_with, breaks}
use Rattle.object_map.specs.declared.map.Row.{Row}
use Rattle.object_map.specs.Rows.{row_of}
use Rattle.row_changes.specs.Moving.{row_blocks}
use Rattle.time_read.specs.Rows.{IsRow, entries_of}
use Rattle.segment_table.specs.Table.{Table, held_at, is_of}
use Rattle.segment_table.specs.Room.{whole_of, pointers_in}
use Rattle.journal_chain.proofs.Adding.{filled-none}
use Rattle.version_store.specs.Store.{IsStore}
use Rattle.drive.specs.Fields.{DriveFields, store_of}
use Rattle.segment_copier.specs.Choosing.{HoldsIn}
use Rattle.segment_copier.specs.Commits.{blocks_moved}
use Rattle.segment_copier.specs.Counting.{is_among, objects_at, added_at, blocks_to_move}
use Rattle.segment_copier.specs.Gathering.{most_journal, most_of_row, most_rewritten, most_to_empty}
use Rattle.segment_copier.specs.Moves.{is_data, data_in}
use Rattle.segment_copier.proofs.Listed.{some_sealed}

-- ---- a journal

-- Blocks that are begun because an entry doesn't fit the one before: two neighbours have more bytes than one has room for.
record ArePaired (filled begun bytes : ℕ) : Type 0 where
  pub all : 489 * ((begun + 1) / 2) ≤ filled + bytes
  pub later : 489 * (begun / 2) ≤ bytes

paired : (filled : ℕ) (entries : List EntryFields) → ArePaired filled (breaks filled (map entry_length entries)) (entries_length entries)
unfolding entries_length
paired filled [] = record { all = omega arith; later = omega arith }
paired filled (e ∷ entries) =
    let size : ℕ = entry_length e in
    let rest : ArePaired (filled_with filled size) (breaks (filled_with filled size) (map entry_length entries)) (entries_length entries) = paired (filled_with filled size) entries in
    let all = rest.all in
    let later = rest.later in
    elim (cases_Bool (fits filled size)) [
      | inl h ↦ (let here : cond {A = ℕ} (fits filled size) 0 1 ≡ 0 = ap (λ (b : Bool). cond {A = ℕ} b 0 1) h in
          let now : filled_with filled size ≡ filled + size = ap (λ (b : Bool). cond {A = ℕ} b (filled + size) size) h in
          record { all = omega (arith, here, now, all); later = omega (arith, here, later) })
      | inr h ↦ (let here : cond {A = ℕ} (fits filled size) 0 1 ≡ 1 = ap (λ (b : Bool). cond {A = ℕ} b 0 1) h in
          let now : filled_with filled size ≡ size = ap (λ (b : Bool). cond {A = ℕ} b (filled + size) size) h in
          let long : 488 < filled + size = leb-false (filled + size) 488 h in
          record { all = omega (arith, here, now, later, long); later = omega (arith, here, now, all) })
    ]

some_bytes : (e : EntryFields) → 0 < entry_length e
unfolding entry_length
some_bytes e = omega arith

-- how many blocks a whole journal of these entries is, by halves
halved : (entries : List EntryFields) → 489 * (whole_blocks entries / 2) ≤ entries_length entries
unfolding entries_length
halved [] = omega arith
halved (e ∷ entries) =
    let size : ℕ = entry_length e in
    let rest = (paired (filled_with 0 size) entries).all in
    let now : filled_with 0 size ≡ size = filled-none size in
    omega (arith, rest, now)

none_where_empty : (entries : List EntryFields) → entries_length entries ≡ 0 → whole_blocks entries ≡ 0
unfolding entries_length
none_where_empty [] e = refl
none_where_empty (x ∷ entries) e = absurd (let some = some_bytes x in omega (arith, some, e))

few_filled : (blocks : List (List EntryFields)) → KeepsTheRule blocks → filled_bytes blocks ≤ 488
unfolding filled_bytes
few_filled [] rule = omega arith
few_filled (newest ∷ older) rule = rule.0.few

journal_few : (entries : List EntryFields) (bytes head : ℕ) → KeepsTheRule (packed entries) → bytes ≡ entries_length entries → head ≡ filled_bytes (packed entries) → whole_blocks entries ≤ most_journal bytes head
journal_few entries bytes head rule is filled =
    let halves = halved entries in
    let few : filled_bytes (packed entries) ≤ 488 = few_filled (packed entries) rule in
    elim (cases_Bool (bytes == 0)) [
      | inl none ↦ (let zero_bytes : bytes ≡ 0 = eqb-true bytes 0 none in
          let whole : whole_blocks entries ≡ 0 = none_where_empty entries (sym is ∙ zero_bytes) in omega (arith, whole))
      | inr some ↦ subst (λ (b : Bool). whole_blocks entries ≤ (if b then 0 else (if bytes == head then 1 else bytes / 488 * 2 + 1))) (sym some)
          (elim (cases_Bool (bytes == head)) [
            | inl one ↦ (let same : bytes ≡ head = eqb-true bytes head one in
                subst (λ (b : Bool). whole_blocks entries ≤ (if b then 1 else bytes / 488 * 2 + 1)) (sym one) (omega (arith, halves, few, same, is, filled)))
            | inr more ↦ subst (λ (b : Bool). whole_blocks entries ≤ (if b then 1 else bytes / 488 * 2 + 1)) (sym more) (omega (arith, halves, is))
          ])
    ]

-- ---- an object's checkpoint and journal

rewritten_few : ((entries : List EntryFields) → AllFit entries → KeepsTheRule (packed entries)) → (t : Table) (o : ℕ) (row : Row) → IsRow (held_at t) o row → row_blocks (held_at t) o row ≤ most_of_row t o (Some row)
rewritten_few packing t o row is =
    let entries : List EntryFields = entries_of (held_at t) o row in
    let journal : whole_blocks entries ≤ most_journal row.journal_bytes row.head_bytes = journal_few entries row.journal_bytes row.head_bytes (packing entries is.chain.fit) is.chain.bytes is.chain.filled in
    omega (arith, journal)

-- ---- the blocks of a frame

-- an object's blocks at these places, and those of data among them
abbrev own : Table → ℕ → List Place → List Place
own t o places = filter (λ p. is_of o (held_at t p)) places

abbrev own_data : Table → ℕ → List Place → List Place
own_data t o places = filter (λ p. is_data (held_at t p)) (own t o places)

abbrev one_if : Bool → ℕ
one_if b = if b then 1 else 0

-- an object's data blocks are counted, and what is written of it, where its is none of the blocks before
record AreCounted (t : Table) (written : ℕ → ℕ) (o : ℕ) (before : List ℕ) (places : List Place) : Type 0 where
  pub copied : length (own_data t o places) ≤ blocks_to_move written t before places
  pub with_row : is_among o before ≡ false → (own t o places ≡ [] → ⊥) → length (own_data t o places) + written o ≤ blocks_to_move written t before places

among_more : (o other : ℕ) (before : List ℕ) → (other == o) ≡ false → is_among o before ≡ false → is_among o (before ++ other ∷ []) ≡ false
among_more o other before apart none = list_any-append (λ (one : ℕ). one == o) before (other ∷ [])
    ∙ ap (λ (b : Bool). b || ((other == o) || false)) none ∙ ap (λ (b : Bool). b || false) apart

-- a place where nothing of the object is held
beside : (t : Table) (o : ℕ) (p : Place) (places : List Place) → is_of o (held_at t p) ≡ false → own t o (p ∷ places) ≡ own t o places
beside t o p places none = ap (λ (b : Bool). cond b (p ∷ own t o places) (own t o places)) none

-- a place where a block of the object is
here : (t : Table) (o : ℕ) (p : Place) (places : List Place) → is_of o (held_at t p) ≡ true → own t o (p ∷ places) ≡ p ∷ own t o places
here t o p places is = ap (λ (b : Bool). cond b (p ∷ own t o places) (own t o places)) is

longer : (b : Bool) (p : Place) (places : List Place) → length (cond b (p ∷ places) places) ≡ one_if b + length places
longer true p places = omega arith
longer false p places = omega arith

data_here : (t : Table) (o : ℕ) (p : Place) (places : List Place) (b : Bool) → is_of o (held_at t p) ≡ true → is_data (held_at t p) ≡ b → length (own_data t o (p ∷ places)) ≡ one_if b + length (own_data t o places)
data_here t o p places b is kind =
    ap (λ (l : List Place). length (filter (λ q. is_data (held_at t q)) l)) (here t o p places is)
    ∙ ap (λ (x : Bool). length (cond x (p ∷ own_data t o places) (own_data t o places))) kind
    ∙ longer b p (own_data t o places)

-- what is written for a held block
sum_here : (t : Table) (written : ℕ → ℕ) (before : List ℕ) (p : Place) (places : List Place) (held : Option Stored) → held_at t p ≡ held
    → blocks_to_move written t before (p ∷ places) ≡ added_at written before held + blocks_to_move written t (objects_at before held) places
sum_here t written before p places held e = ap (λ (x : Option Stored). added_at written before x + blocks_to_move written t (objects_at before x) places) e

counted_beside : (t : Table) (written : ℕ → ℕ) (o : ℕ) (before after : List ℕ) (p : Place) (places : List Place) → is_of o (held_at t p) ≡ false → (is_among o before ≡ false → is_among o after ≡ false)
    → blocks_to_move written t after places ≤ blocks_to_move written t before (p ∷ places) → AreCounted t written o after places → AreCounted t written o before (p ∷ places)
counted_beside t written o before after p places none apart more rest =
    let same : own t o (p ∷ places) ≡ own t o places = beside t o p places none in
    let long : length (own_data t o (p ∷ places)) ≡ length (own_data t o places) = ap (λ (l : List Place). length (filter (λ q. is_data (held_at t q)) l)) same in
    let each = rest.copied in
    record {
      copied = omega (arith, long, each, more);
      with_row = λ far some. (let all = rest.with_row (apart far) (λ empty. some (same ∙ empty)) in omega (arith, long, all, more));
    }

counted_block : (t : Table) (written : ℕ → ℕ) (o : ℕ) (before : List ℕ) (p : Place) (places : List Place) (block : Stored) → held_at t p ≡ Some block → (block.object == o) ≡ true
    → AreCounted t written o (before ++ block.object ∷ []) places → AreCounted t written o before (p ∷ places)
counted_block t written o before p places block e its rest =
    let same : block.object ≡ o = eqb-true block.object o its in
    let kind : Bool = same_kind Data block.kind in
    let long : length (own_data t o (p ∷ places)) ≡ one_if kind + length (own_data t o places) = data_here t o p places kind (ap (is_of o) e ∙ its) (ap is_data e) in
    let sum : blocks_to_move written t before (p ∷ places) ≡ (one_if kind + (if is_among block.object before then 0 else written block.object)) + blocks_to_move written t (before ++ block.object ∷ []) places = sum_here t written before p places (Some block) e in
    let each = rest.copied in
    record {
      copied = omega (arith, long, sum, each);
      with_row = λ far some.
          (let once : (if is_among block.object before then 0 else written block.object) ≡ written o = ap (λ (n : ℕ). if is_among n before then 0 else written n) same ∙ ap (λ (b : Bool). if b then 0 else written o) far in
          omega (arith, long, sum, each, once));
    }

counted_next : (t : Table) (written : ℕ → ℕ) (o : ℕ) (before : List ℕ) (p : Place) (places : List Place) (held : Option Stored) → held_at t p ≡ held → ((after : List ℕ) → AreCounted t written o after places) → AreCounted t written o before (p ∷ places)
counted_next t written o before p places None e rest =
    let sum = sum_here t written before p places None e in
    counted_beside t written o before before p places (ap (is_of o) e) (λ far. far) (omega (arith, sum)) (rest before)
counted_next t written o before p places (Some block) e rest = elim (cases_Bool (block.object == o)) [
  | inl its ↦ counted_block t written o before p places block e its (rest (before ++ block.object ∷ []))
  | inr other ↦
      let sum = sum_here t written before p places (Some block) e in
      counted_beside t written o before (before ++ block.object ∷ []) p places (ap (is_of o) e ∙ other) (among_more o block.object before other) (omega (arith, sum)) (rest (before ++ block.object ∷ []))
]

counted_own : (t : Table) (written : ℕ → ℕ) (o : ℕ) (places : List Place) (before : List ℕ) → AreCounted t written o before places
counted_own t written o [] before = record { copied = omega arith; with_row = λ far some. absurd (some refl) }
counted_own t written o (p ∷ places) before = counted_next t written o before p places (held_at t p) refl (counted_own t written o places)

-- ---- the law

pub takes_the_move : ((entries : List EntryFields) → AllFit entries → KeepsTheRule (packed entries)) → (d : DriveFields) (f o : ℕ) (row : Row) → IsStore (store_of d) → row_of d.store.rows o ≡ Some row
    → HoldsIn d.store.table f o → blocks_moved d f o row ≤ most_to_empty d f
takes_the_move packing d f o row rules has holds =
    let t : Table = d.store.table in
    let is : IsRow (held_at t) o row = (rules.objects o row has).stands in
    let listed : pointers_in t o f ≡ own t o (whole_of t f) = ap (λ (b : Bool). if b then own t o (whole_of t f) else []) (some_sealed t o f holds) in
    let copied : length (data_in t o f) ≡ length (own_data t o (whole_of t f)) = ap (λ (l : List Place). length (filter (λ p. is_data (held_at t p)) l)) listed in
    let counted : length (own_data t o (whole_of t f)) + most_rewritten d o ≤ most_to_empty d f =
    (counted_own t (most_rewritten d) o (whole_of t f) []).with_row refl (λ none. holds (listed ∙ none)) in
    let written : row_blocks (held_at t) o row ≤ most_of_row t o (Some row) = rewritten_few packing t o row is in
    let its : most_rewritten d o ≡ most_of_row t o (Some row) = ap (most_of_row t o) has in
    omega (arith, counted, copied, written, its)
