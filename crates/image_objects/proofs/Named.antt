-- The places that a row names, and what is at them.
use Rattle.std.proofs.Common.{◌≡◌, ℕ, zero, suc, ◌+◌, ◌<◌, ◌==◌, ◌&&◌, ◌||◌, true, false, cond, inl, inr, List, [], ◌∷◌, ◌++◌, length, get_or, Option, Some, None, IsSome, MatchOption, is_some, refl, sym, ap, ◌∙◌, subst, arith}
use Rattle.std.specs.Prelude.{◌⊎◌}
use Rattle.std.specs.List.{Contains}
use Rattle.std.specs.Option.{option_to_list}
use Rattle.std.proofs.lemmas.Bool.{cases_Bool, cases_lt, cond-false, false≢true, and_parts, eqb-true}
use Rattle.std.proofs.lemmas.List.Elements.{Contains-append_left, Contains-append_right, Contains-append_cases, Contains-push_cases, All-contains}
use Rattle.std.proofs.lemmas.List.Folds.{list_any_at}
use Rattle.std.proofs.lemmas.List.Sums.{sum_by-cons}
use Rattle.s4_types.specs.Pointer.{Place}
use Rattle.lemmas.proofs.Contains.{contains_none}
use Rattle.block_log.specs.Log.{Stored, of_kind, seen_as, same_kind, same_place, is_data}
use Rattle.block_log.specs.declared.kinds.BlockKind.{BlockKind}
use Rattle.block_log.specs.declared.kinds.BlockKind.TheVariants.{Journal, Checkpoint, Data, Pointers}
use Rattle.block_log.proofs.Places.{same_place_itself, same_place_turned}
use Rattle.block_log.proofs.BlockKinds.{one_kind, seen_is_some}
use Rattle.codec.specs.Fields.{bit}
use Rattle.codec.specs.Entry.{EntryFields}
use Rattle.journal_chain.specs.Chain.{times}
use Rattle.checkpoint.specs.Held.{checkpoint_held, is_one_of, of_checkpoints, HasItsBlocks}
use Rattle.checkpoint.proofs.OwnBlocks.{IsOwn, seen_own, has_some, own_no_data}
use Rattle.journal_chain.proofs.Places.{times-cons, times-none}
use Rattle.time_read.specs.Orderly.{BeginsDead}
use Rattle.version_store.specs.Store.{IsLed, is_at, times_led}
use Rattle.image_objects.specs.declared.rows.ImageRow.{ImageRow}
use Rattle.image_objects.specs.Chains.{entries_used}
use Rattle.image_objects.specs.Inodes.{CheckpointStands, checkpoint_places_used}
use Rattle.image_objects.specs.Objects.{ObjectStands, pointers_used}
use Rattle.image_objects.specs.Naming.{NamesUsed}
use Rattle.image_objects.specs.private.Places.{places_in, places_of_chain, places_named}
use Rattle.image_objects.proofs.RowWalk.{place_there}
use Rattle.image_objects.proofs.HeldByName.{own_named}

-- ---- what is listed

here_alone : (p : Place) → Contains (p ∷ []) p
here_alone p = (0, omega arith, refl)

only_itself : (p q : Place) → Contains (q ∷ []) p → q ≡ p
only_itself p q listed = elim (Contains-push_cases [] q p listed) [ inl none ↦ absurd (contains_none p none) | inr same ↦ same ]

in_slot : (slot : Option Place) (p : Place) → slot ≡ Some p → Contains (option_to_list slot) p
in_slot slot p is = subst (λ (s : Option Place). Contains (option_to_list s) p) (sym is) (here_alone p)

of_slot : (slot : Option Place) (p : Place) → Contains (option_to_list slot) p → slot ≡ Some p
of_slot None p listed = absurd (contains_none p listed)
of_slot (Some q) p listed = ap Some (only_itself p q listed)

slot_listed : (slots : List (Option Place)) (k : ℕ) (p : Place) → k < length slots → get_or slots k (Some p) ≡ Some p → Contains (places_in slots) p
slot_listed [] k p lt is = absurd (omega (arith, lt))
slot_listed (s ∷ slots) zero p lt is = Contains-append_left (option_to_list s) (places_in slots) p (in_slot s p is)
slot_listed (s ∷ slots) (suc k) p lt is = Contains-append_right (option_to_list s) (places_in slots) p (slot_listed slots k p (omega (arith, lt)) is)

listed_slot : (slots : List (Option Place)) (p : Place) → Contains (places_in slots) p → Contains slots (Some p)
listed_slot [] p listed = absurd (contains_none p listed)
listed_slot (s ∷ slots) p listed = elim (Contains-append_cases (option_to_list s) (places_in slots) p listed) [
  | inl here ↦ Contains-append_left (s ∷ []) slots (Some p) (0, omega arith, of_slot s p here)
  | inr later ↦ Contains-append_right (s ∷ []) slots (Some p) (listed_slot slots p later)
]

-- ---- how often a place is listed

abbrev pub OneName : Type 0
OneName = (p q : Place) → same_place p q ≡ true → p ≡ q

once_there : (places : List Place) (k : ℕ) (p : Place) → k < length places → get_or places k p ≡ p → 0 < times p places
once_there [] k p lt is = absurd (omega (arith, lt))
once_there (q ∷ places) zero p lt is =
    let one : bit (same_place p q) ≡ 1 = ap bit (ap (same_place p) is ∙ same_place_itself p) in
    omega (arith, times-cons p q places, one)
once_there (q ∷ places) (suc k) p lt is =
    let some : 0 < times p places = once_there places k p (omega (arith, lt)) is in
    omega (arith, times-cons p q places, some)

pub there_once : OneName → (places : List Place) (p : Place) → 0 < times p places → Contains places p
there_once names [] p some = absurd (omega (arith, some, times-none p))
there_once names (q ∷ places) p some = elim (cases_Bool (same_place p q)) [
  | inl same ↦ Contains-append_left (q ∷ []) places p (0, omega arith, sym (names p q same))
  | inr other ↦ (let none : bit (same_place p q) ≡ 0 = ap bit other in
      Contains-append_right (q ∷ []) places p (there_once names places p (omega (arith, times-cons p q places, none, some))))
]

-- a place that is listed is found by the test, and one that the test finds is listed
listed_one : (places : List Place) (p : Place) → Contains places p → is_one_of places p ≡ true
listed_one places p listed = let (n, below, at) = listed in list_any_at (λ q. same_place q p) places n p below (ap (λ q. same_place q p) at ∙ same_place_itself p)

one_listed : OneName → (places : List Place) (p : Place) → is_one_of places p ≡ true → Contains places p
one_listed names [] p is = absurd (false≢true is)
one_listed names (q ∷ places) p is = elim (cases_Bool (same_place q p)) [
  | inl same ↦ Contains-append_left (q ∷ []) places p (0, omega arith, names q p same)
  | inr other ↦ Contains-append_right (q ∷ []) places p (one_listed names places p (sym (ap (λ b. b || is_one_of places p) other) ∙ is))
]

-- ---- the blocks of a row's checkpoint

abbrev pub HasBlocks : Type 0
HasBlocks = (held : Place → Option Stored) (o : ℕ) (p : Place) → IsSome (checkpoint_held held o p) → HasItsBlocks held o (Some p)

named_blocks : HasBlocks → (used : Place → Option Stored) (row : ImageRow) (clock : ℕ) (entries : List EntryFields) (N : Type 0) (c : Option Place) → MatchOption c N (λ q. CheckpointStands used row clock entries q) → HasItsBlocks used row.object c
named_blocks has used row clock entries N None h p is = absurd (false≢true is)
named_blocks has used row clock entries N (Some q) h p is = has used row.object q (ap is_some h.decodes) p is

pub has_its_blocks : HasBlocks → (used : Place → Option Stored) (row : ImageRow) (clock : ℕ) → ObjectStands used row clock → HasItsBlocks used row.object row.checkpoint
has_its_blocks has used row clock stands =
    let entries = entries_used used row in
    named_blocks has used row clock entries ((row.checkpoint_moment ≡ 0) × BeginsDead entries) row.checkpoint stands.versions.beginning

-- each of them is used as a block of the object's checkpoints
own_there : HasBlocks → (used : Place → Option Stored) (row : ImageRow) (clock : ℕ) (p : Place) → ObjectStands used row clock → is_one_of (checkpoint_places_used used row) p ≡ true → IsOwn row.object (used p)
own_there has used row clock p stands is = seen_own row.object (used p) (has_some (of_checkpoints row.object used p) (has_its_blocks has used row clock stands p is))

-- ---- what a row names

listed_is_named : HasBlocks → (used : Place → Option Stored) (row : ImageRow) (clock : ℕ) (p : Place) → ObjectStands used row clock → Contains (places_named used row) p → (kind : BlockKind) × NamesUsed used row kind p
listed_is_named has used row clock p stands listed =
    let c = places_of_chain used row in
    elim (Contains-append_cases (c ++ checkpoint_places_used used row) (places_in (pointers_used used row)) p listed) [
      | inl front ↦ (elim (Contains-append_cases c (checkpoint_places_used used row) p front) [
        | inl chain ↦ (Journal, once_there c chain.0 p chain.1 chain.2)
        | inr checkpoint ↦
            (let is = listed_one (checkpoint_places_used used row) p checkpoint in
            let own : IsOwn row.object (used p) = own_there has used row clock p stands is in
            (own.block.kind, own_named used row p own is))
      ])
      | inr data_there ↦ (Data, listed_slot (pointers_used used row) p data_there)
    ]

checkpoint_listed : OneName → (used : Place → Option Stored) (row : ImageRow) (p : Place) → is_one_of (checkpoint_places_used used row) p ≡ true → Contains (places_named used row) p
checkpoint_listed names used row p is =
    let c = places_of_chain used row in
    Contains-append_left (c ++ checkpoint_places_used used row) (places_in (pointers_used used row)) p (Contains-append_right c (checkpoint_places_used used row) p (one_listed names (checkpoint_places_used used row) p is))

named_is_listed : OneName → (used : Place → Option Stored) (row : ImageRow) (kind : BlockKind) (p : Place) → NamesUsed used row kind p → Contains (places_named used row) p
named_is_listed names used row Journal p named =
    let c = places_of_chain used row in
    Contains-append_left (c ++ checkpoint_places_used used row) (places_in (pointers_used used row)) p (Contains-append_left c (checkpoint_places_used used row) p (there_once names c p named))
named_is_listed names used row Checkpoint p named = checkpoint_listed names used row p named.0
named_is_listed names used row Data p named =
    let c = places_of_chain used row in
    Contains-append_right (c ++ checkpoint_places_used used row) (places_in (pointers_used used row)) p (slot_listed (pointers_used used row) named.0 p named.1 named.2)
named_is_listed names used row Pointers p named = checkpoint_listed names used row p named.0

-- each named place has a used block of the object, of that kind
pub named_is_used : OneName → (used : Place → Option Stored) (row : ImageRow) (clock : ℕ) (kind : BlockKind) (p : Place) → ObjectStands used row clock → NamesUsed used row kind p → IsSome (of_kind kind row.object used p)
named_is_used names used row clock Journal p stands named = place_there used row p stands.versions.chain.walk (there_once names (places_of_chain used row) p named)
named_is_used names used row clock Checkpoint p stands named = named.1
named_is_used names used row clock Data p stands named = All-contains (IsLed used row.object) (pointers_used used row) (Some p) stands.led named
named_is_used names used row clock Pointers p stands named = named.1

-- ---- how often a row names data

times_joined : (p : Place) (front back : List Place) → times p (front ++ back) ≡ times p front + times p back
times_joined p [] back = let none = times-none p in omega (arith, none)
times_joined p (q ∷ front) back =
    let whole : times p (q ∷ (front ++ back)) ≡ bit (same_place p q) + times p (front ++ back) = times-cons p q (front ++ back) in
    let first : times p (q ∷ front) ≡ bit (same_place p q) + times p front = times-cons p q front in
    let rest = times_joined p front back in
    omega (arith, whole, first, rest)

-- as often as slots refer to a place, it is listed among the places that they refer to
slots_counted : OneName → (p : Place) (slots : List (Option Place)) → times p (places_in slots) ≡ times_led p slots
slots_counted names p [] = times-none p
slots_counted names p (None ∷ slots) =
    let first : times_led p (None ∷ slots) ≡ 0 + times_led p slots = sum_by-cons (λ (x : Option Place). cond (is_at x p) 1 0) None slots in
    slots_counted names p slots ∙ omega (arith, first)
slots_counted names p (Some q ∷ slots) =
    let first : times_led p (Some q ∷ slots) ≡ bit (same_place q p) + times_led p slots = sum_by-cons (λ (x : Option Place). cond (is_at x p) 1 0) (Some q) slots in
    let listed : times p (q ∷ places_in slots) ≡ bit (same_place p q) + times p (places_in slots) = times-cons p q (places_in slots) in
    let same : bit (same_place p q) ≡ bit (same_place q p) = ap bit (same_place_turned p q) in
    let rest = slots_counted names p slots in
    omega (arith, first, listed, same, rest)

-- a place that slots refer to is one of them
pub led_there : OneName → (slots : List (Option Place)) (p : Place) → 0 < times_led p slots → Contains slots (Some p)
led_there names slots p some =
    let same = slots_counted names p slots in
    listed_slot slots p (there_once names (places_in slots) p (omega (arith, same, some)))

-- what is seen of a kind and of an object is of both
pub seen_parts : (k : BlockKind) (o : ℕ) (block : Stored) → IsSome (seen_as k o (Some block)) → (same_kind k block.kind ≡ true) × (block.object ≡ o)
seen_parts k o block some =
    let test = same_kind k block.kind && block.object == o in
    elim (cases_Bool test) [
      | inl is ↦ (let parts = and_parts (same_kind k block.kind) (block.object == o) is in (parts.0, eqb-true block.object o parts.1))
      | inr ne ↦ absurd (false≢true (sym (ap is_some (cond-false test (Some block.bytes) None ne)) ∙ some))
    ]

-- a block of data is seen as data alone
seen_of_data : (k : BlockKind) (o : ℕ) (found : Option Stored) → IsSome (seen_as k o found) → is_data found ≡ true → same_kind k Data ≡ true
seen_of_data k o None some is = absurd (false≢true some)
seen_of_data k o (Some block) some is = let parts = seen_parts k o block some in ap (same_kind k) ((sym (one_kind block.kind Data is))) ∙ parts.0

never_listed : OneName → (places : List Place) (p : Place) → (Contains places p → ⊥) → times p places ≡ 0
never_listed names places p never = elim (cases_lt 0 (times p places)) [
  | inl some ↦ absurd (never (there_once names places p some))
  | inr few ↦ omega (arith, few)
]

named_other : OneName → (used : Place → Option Stored) (row : ImageRow) (clock : ℕ) (kind : BlockKind) (p : Place) → ObjectStands used row clock → is_data (used p) ≡ true → same_kind kind Data ≡ false → NamesUsed used row kind p → ⊥
named_other names used row clock kind p stands is other named =
    false≢true (sym other ∙ seen_of_data kind row.object (used p) (named_is_used names used row clock kind p stands named) is)

checkpoint_other : HasBlocks → (used : Place → Option Stored) (row : ImageRow) (clock : ℕ) (p : Place) → ObjectStands used row clock → is_data (used p) ≡ true → is_one_of (checkpoint_places_used used row) p ≡ true → ⊥
checkpoint_other has used row clock p stands is one =
    let own : IsOwn row.object (used p) = own_there has used row clock p stands one in
    false≢true (sym (own_no_data row.object (used p) own) ∙ ap is_data (sym own.is) ∙ is)

-- so a used block of data is listed as often as the row's pointers refer to it
times_named : OneName → HasBlocks → (used : Place → Option Stored) (row : ImageRow) (clock : ℕ) (p : Place) → ObjectStands used row clock → is_data (used p) ≡ true → times p (places_named used row) ≡ times_led p (pointers_used used row)
times_named names has used row clock p stands is =
    let chain = places_of_chain used row in
    let checkpoint = checkpoint_places_used used row in
    let slots = pointers_used used row in
    let no_chain : times p chain ≡ 0 = never_listed names chain p (λ there. named_other names used row clock Journal p stands is refl (once_there chain there.0 p there.1 there.2)) in
    let no_checkpoint : times p checkpoint ≡ 0 = never_listed names checkpoint p (λ there. checkpoint_other has used row clock p stands is (listed_one checkpoint p there)) in
    let whole : times p ((chain ++ checkpoint) ++ places_in slots) ≡ times p (chain ++ checkpoint) + times p (places_in slots) = times_joined p (chain ++ checkpoint) (places_in slots) in
    let front = times_joined p chain checkpoint in
    let led = slots_counted names p slots in
    omega (arith, no_chain, no_checkpoint, whole, front, led)

-- ---- what adding them makes of a list

pub only_named : HasBlocks → (used : Place → Option Stored) (row : ImageRow) (clock : ℕ) (before items : List Place) → ObjectStands used row clock → items ≡ before ++ places_named used row → (p : Place) → Contains items p → Contains before p ⊎ ((kind : BlockKind) × NamesUsed used row kind p)
only_named has used row clock before items stands is p listed = elim (Contains-append_cases before (places_named used row) p (subst (λ (l : List Place). Contains l p) is listed)) [
  | inl old ↦ inl old
  | inr new ↦ inr (listed_is_named has used row clock p stands new)
]

pub all_named : OneName → (used : Place → Option Stored) (row : ImageRow) (before items : List Place) → items ≡ before ++ places_named used row → (kind : BlockKind) (p : Place) → NamesUsed used row kind p → Contains items p
all_named names used row before items is kind p named = subst (λ (l : List Place). Contains l p) (sym is) (Contains-append_right before (places_named used row) p (named_is_listed names used row kind p named))

pub all_kept : (used : Place → Option Stored) (row : ImageRow) (before items : List Place) → items ≡ before ++ places_named used row → (p : Place) → Contains before p → Contains items p
all_kept used row before items is p old = subst (λ (l : List Place). Contains l p) (sym is) (Contains-append_left before (places_named used row) p old)

pub only_used : OneName → HasBlocks → (used : Place → Option Stored) (row : ImageRow) (clock : ℕ) (before items : List Place) → ObjectStands used row clock → items ≡ before ++ places_named used row → (p : Place) → Contains items p → Contains before p ⊎ IsSome (used p)
only_used names has used row clock before items stands is p listed = elim (only_named has used row clock before items stands is p listed) [
  | inl old ↦ inl old
  | inr new ↦ inr (seen_is_some new.0 row.object (used p) (named_is_used names used row clock new.0 p stands new.1))
]

pub data_counted : OneName → HasBlocks → (used : Place → Option Stored) (row : ImageRow) (clock : ℕ) (before items : List Place) → ObjectStands used row clock → items ≡ before ++ places_named used row → (p : Place) → is_data (used p) ≡ true
    → times p items ≡ times p before + times_led p (pointers_used used row)
data_counted names has used row clock before items stands is p of_data =
    let same : times p items ≡ times p (before ++ places_named used row) = ap (times p) is in
    let joined = times_joined p before (places_named used row) in
    let led = times_named names has used row clock p stands of_data in
    omega (arith, same, joined, led)
