-- The blocks that a change appends: each has one name, by a pointer of the next inode, until the row gives it one.
use Rattle.std.proofs.Common.{◌≡◌, inl, inr, ℕ, zero, suc, ◌+◌, ◌-◌, ◌*◌, ◌/◌, ◌≤◌, ◌<◌, ◌==◌, ◌&&◌, leb, ltb, cond, true, false, List, [], ◌∷◌, length, map, take, drop, get_or, slice_get, Option, Some, None, IsSome, is_some, refl, sym, ap, subst, ◌∙◌, arith}
use Rattle.std.specs.List.{All, Contains}
use Rattle.std.proofs.lemmas.Bool.{cases_Bool, cases_lt, cond-true, cond-false, and_from, le-leb, lt-leb, lt-ltb, ltb-false, eq-eqb, eqb-true, false≢true}
use Rattle.std.proofs.lemmas.List.{ext_get_or, get_or-drop, get_or-take, get_or_default, length-drop, length-map, length-take-le}
use Rattle.std.proofs.lemmas.List.Elements.{All-contains, All-contains_itself, All-drop, All-take}
use Rattle.s4_types.specs.Pointer.{Place}
use Rattle.s4_types.specs.declared.limits.TheConstants.{OBJECT_BLOCKS, OBJECT_BYTES}
use Rattle.block_log.specs.declared.kinds.BlockKind.TheVariants.{Data}
use Rattle.block_log.specs.Log.{Log, Stored, of_kind, seen_as, same_place, is_data, NamesAreOfData}
use Rattle.codec.specs.Checkpoint.{pointer_at}
use Rattle.codec.specs.declared.inodes.Inode.{Inode}
use Rattle.inode.specs.Touched.{touched_count, is_touched, is_cut, cut_count}
use Rattle.inode.specs.Changed.{Written, Truncated}
use Rattle.inode.specs.Growth.{GrowsBy, data_block, grown_at, with_data}
use Rattle.inode.specs.Tidiness.{PointersHeld}
use Rattle.object_map.specs.declared.map.Row.{Row}
use Rattle.object_map.specs.Rows.{row_of}
use Rattle.block_log.proofs.BlockKinds.{seen_is_some}
use Rattle.version_store.specs.Store.{IsLed, IsStore, StoreFields, named_of, pointers_named, times_led}
use Rattle.version_store.specs.private.Below.{OnePlace}
use Rattle.version_store.specs.private.Turning.{LeadsTo, times_given}
use Rattle.version_store.proofs.Counted.{more_is}
use Rattle.version_store.proofs.Counting.{past_uncut}
use Rattle.version_store.proofs.Frames.{growth_stays}
use Rattle.version_store.proofs.Named.{named_alike, named_none, named_some, none_led, others_data, times_first}
use Rattle.version_store.proofs.Recounted.{same_named, told_led}

-- ---- the places that were taken

abbrev pub as_pointers : List Place → List (Option Place)
as_pointers places = map (λ p. Some p) places

grown_first : (o : ℕ) (b : List ℕ) (blocks : List (List ℕ)) (log : Log) (p : Place) (ahead : List Place) → log.ahead ≡ ahead → length (b ∷ blocks) ≤ length ahead
    → ((next : Log) → length blocks ≤ length next.ahead → (with_data o blocks next).named p ≡ times_led p (as_pointers (take (length blocks) next.ahead)) + next.named p)
    → (with_data o blocks (grown_at log (data_block o b) ahead)).named p ≡ times_led p (as_pointers (take (length (b ∷ blocks)) ahead)) + log.named p
grown_first o b blocks log p [] e room others = absurd (omega (arith, room))
grown_first o b blocks log p (q ∷ ahead) e room others =
    let next : Log = grown_at log (data_block o b) (q ∷ ahead) in
    let rest = others next (omega (arith, room)) in
    let first = times_first p (Some q) (as_pointers (take (length blocks) ahead)) in
    let more = more_is (same_place q p) (log.named p) in
    omega (arith, rest, first, more)

-- data that is appended is named by the first places ahead
named_grown : (o : ℕ) (blocks : List (List ℕ)) (log : Log) (p : Place) → length blocks ≤ length log.ahead → (with_data o blocks log).named p ≡ times_led p (as_pointers (take (length blocks) log.ahead)) + log.named p
named_grown o [] log p room = omega arith
named_grown o (b ∷ blocks) log p room = grown_first o b blocks log p log.ahead refl room (λ next fits. named_grown o blocks next p fits)

mapped_get : (ahead : List Place) (n i : ℕ) → i < n → get_or (as_pointers (take n ahead)) i None ≡ slice_get ahead i
mapped_get ahead zero i lt = absurd (omega (arith, lt))
mapped_get [] (suc n) i lt = refl
mapped_get (p ∷ ahead) (suc n) zero lt = refl
mapped_get (p ∷ ahead) (suc n) (suc i) lt = mapped_get ahead n i (omega (arith, lt))

-- pointers that lead to the first places are those places
pub hand_is : (ahead : List Place) (pointers : List (Option Place)) (first count : ℕ) → first + count ≤ length pointers → count ≤ length ahead → ((n : ℕ) → n < count → get_or pointers (first + n) None ≡ slice_get ahead n)
    → take count (drop first pointers) ≡ as_pointers (take count ahead)
hand_is ahead pointers first count within room are =
    let dropped = length-drop first pointers in
    let left : length (take count (drop first pointers)) ≡ count = length-take-le count (drop first pointers) (omega (arith, dropped, within)) in
    let mapped : length (as_pointers (take count ahead)) ≡ length (take count ahead) = length-map (take count ahead) (λ p. Some p) in
    let right : length (take count ahead) ≡ count = length-take-le count ahead room in
    ext_get_or None (take count (drop first pointers)) (as_pointers (take count ahead)) (omega (arith, left, mapped, right)) (λ i below.
    let lt : i < count = omega (arith, below, left) in
    get_or-take count (drop first pointers) i None lt ∙ get_or-drop first pointers i None ∙ are i lt ∙ sym (mapped_get ahead count i lt))

-- what some of an inode's pointers refer to it refers to
sub_leads : (j : Inode) (first count : ℕ) (p : Place) → Contains (take count (drop first j.pointers)) (Some p) → LeadsTo j p
sub_leads j first count p there =
    let among : Contains j.pointers (Some p) =
    All-contains (Contains j.pointers) (take count (drop first j.pointers)) (Some p) (All-take (Contains j.pointers) count (drop first j.pointers) (All-drop (Contains j.pointers) first j.pointers (All-contains_itself j.pointers))) there in
    let (n, below, at) = among in
    (n, get_or_default j.pointers n None (Some p) below ∙ at)

-- ---- what is in hand

-- Once data was appended, the names that it has beside those of before are given by these pointers of the next inode.
pub record IsInHand (before after : Log) (j : Inode) (hand : List (Option Place)) : Type 0 where
  pub names : NamesAreOfData after
  pub named : (p : Place) → after.named p ≡ times_led p hand + before.named p
  pub led : (p : Place) → Contains hand (Some p) → LeadsTo j p
  pub short : length hand ≤ OBJECT_BLOCKS

pub none_contained : (p : Place) → Contains [] (Some p) → ⊥
none_contained p (n, below, at) = omega (arith, below)

pub nothing_in_hand : (log : Log) (j : Inode) → NamesAreOfData log → IsInHand log log j []
nothing_in_hand log j names = record { names = names; named = λ p. omega arith; led = λ p there. absurd (none_contained p there); short = omega arith }

appended_hand : (o : ℕ) (blocks : List (List ℕ)) (before after : Log) (j : Inode) (hand : List (Option Place)) (first count : ℕ) → length blocks ≡ count → length blocks ≤ length before.ahead → after ≡ with_data o blocks before
    → length j.pointers ≡ OBJECT_BLOCKS → first + count ≤ OBJECT_BLOCKS → ((n : ℕ) → n < count → pointer_at j (first + n) ≡ slice_get before.ahead n) → hand ≡ take count (drop first j.pointers) → NamesAreOfData after
    → IsInHand before after j hand
appended_hand o blocks before after j hand first count amount room made full within are is names =
    let enough : count ≤ length before.ahead = omega (arith, amount, room) in
    let places = is ∙ hand_is before.ahead j.pointers first count (omega (arith, full, within)) enough are in
    record {
      names = names;
      named = λ p.
          ap (λ (log : Log). log.named p) made ∙ named_grown o blocks before p room
          ∙ ap (λ (n : ℕ). times_led p (as_pointers (take n before.ahead)) + before.named p) amount
          ∙ ap (λ (xs : List (Option Place)). times_led p xs + before.named p) (sym places);
      led = λ p there. sub_leads j first count p (subst (λ (xs : List (Option Place)). Contains xs (Some p)) is there);
      short =
          let mapped : length hand ≡ length (take count before.ahead) = ap length places ∙ length-map (take count before.ahead) (λ p. Some p) in
          let taken : length (take count before.ahead) ≡ count = length-take-le count before.ahead enough in
          omega (arith, mapped, taken, within);
    }

-- how far a write reaches
pub written_within : (offset len : ℕ) → offset + len ≤ OBJECT_BYTES → offset / 512 + touched_count offset len ≤ OBJECT_BLOCKS
written_within offset len end = elim (cases_Bool (len == 0)) [
  | inl is ↦ let none : touched_count offset len ≡ 0 = cond-true (len == 0) 0 ((offset + len - 1) / 512 + 1 - offset / 512) is in omega (arith, none, end)
  | inr some ↦
      let are : touched_count offset len ≡ (offset + len - 1) / 512 + 1 - offset / 512 = cond-false (len == 0) 0 ((offset + len - 1) / 512 + 1 - offset / 512) some in
      omega (arith, are, end)
]

pub written_in_hand : (o m offset len : ℕ) (blocks : List (List ℕ)) (before after : Log) (i j : Inode) (hand : List (Option Place)) → length blocks ≡ touched_count offset len → length blocks ≤ length before.ahead → after ≡ with_data o blocks before
    → Written before.ahead m offset len i j → length j.pointers ≡ OBJECT_BLOCKS → offset + len ≤ OBJECT_BYTES → hand ≡ take (touched_count offset len) (drop (offset / 512) j.pointers) → NamesAreOfData after → IsInHand before after j hand
written_in_hand o m offset len blocks before after i j hand amount room made written full end is names =
    appended_hand o blocks before after j hand (offset / 512) (touched_count offset len) amount room made full (written_within offset len end)
    (λ n below.
    let k : ℕ = offset / 512 + n in
    let touched : is_touched offset len k ≡ true = and_from (leb (offset / 512) k) (ltb k (offset / 512 + touched_count offset len)) (le-leb (offset / 512) k (omega arith)) (lt-ltb k (offset / 512 + touched_count offset len) (omega (arith, below))) in
    let nth : k - offset / 512 ≡ n = omega arith in
    written.pointers k ∙ cond-true (is_touched offset len k) (slice_get before.ahead (k - offset / 512)) (pointer_at i k) touched ∙ ap (slice_get before.ahead) nth)
    is names

-- where a truncation cuts
pub cut_within : (i : Inode) (size : ℕ) → size ≤ OBJECT_BYTES → i.size ≤ OBJECT_BYTES → size / 512 + cut_count i size ≤ OBJECT_BLOCKS
cut_within i size end most = elim (cases_Bool (is_cut i size)) [
  | inl is ↦
      let one : cut_count i size ≡ 1 = cond-true (is_cut i size) 1 0 is in
      let here : (is_cut i size && size / 512 == size / 512) ≡ true = and_from (is_cut i size) (size / 512 == size / 512) is (eq-eqb (size / 512) (size / 512) refl) in
      elim (cases_lt (512 * (size / 512)) size) [
        | inl less ↦ omega (arith, one, less, end)
        | inr past ↦ absurd (past_uncut i size (size / 512) here past)
      ]
  | inr whole ↦ let none : cut_count i size ≡ 0 = cond-false (is_cut i size) 1 0 whole in omega (arith, none, end)
]

pub cut_in_hand : (o m size : ℕ) (blocks : List (List ℕ)) (before after : Log) (i j : Inode) (hand : List (Option Place)) → length blocks ≡ cut_count i size → length blocks ≤ length before.ahead → after ≡ with_data o blocks before
    → Truncated before.ahead m size i j → length j.pointers ≡ OBJECT_BLOCKS → size ≤ OBJECT_BYTES → i.size ≤ OBJECT_BYTES → hand ≡ take (cut_count i size) (drop (size / 512) j.pointers) → NamesAreOfData after → IsInHand before after j hand
cut_in_hand o m size blocks before after i j hand amount room made truncated full end most is names =
    appended_hand o blocks before after j hand (size / 512) (cut_count i size) amount room made full (cut_within i size end most)
    (λ n below. elim (cases_Bool (is_cut i size)) [
      | inl cut ↦
          let one : cut_count i size ≡ 1 = cond-true (is_cut i size) 1 0 cut in
          let k : ℕ = size / 512 + n in
          let first : n ≡ 0 = omega (arith, one, below) in
          let same : k ≡ size / 512 = omega (arith, first) in
          let here : (is_cut i size && k == size / 512) ≡ true = and_from (is_cut i size) (k == size / 512) cut (eq-eqb k (size / 512) same) in
          let short : leb size (512 * k) ≡ false = lt-leb size (512 * k) (elim (cases_lt (512 * k) size) [ inl less ↦ less | inr past ↦ absurd (past_uncut i size k here past) ]) in
          truncated.pointers k
          ∙ cond-false (leb size (512 * k)) None (cond (is_cut i size && k == size / 512) (slice_get before.ahead 0) (pointer_at i k)) short
          ∙ cond-true (is_cut i size && k == size / 512) (slice_get before.ahead 0) (pointer_at i k) here
          ∙ ap (slice_get before.ahead) (sym first)
      | inr whole ↦ let none : cut_count i size ≡ 0 = cond-false (is_cut i size) 1 0 whole in absurd (omega (arith, none, below))
    ])
    is names

-- ---- how the data is named then

-- each data block of an object has the names that its row gives, and of the changed one those that are in hand besides
pub grown_counted : OnePlace → (s : StoreFields) (log : Log) (object : ℕ) (blocks : List (List ℕ)) (j : Inode) (hand : List (Option Place)) → GrowsBy object blocks s.log log → IsInHand s.log log j hand → PointersHeld log.held object j → IsStore s
    → (q : ℕ) (row : Row) → row_of s.rows q ≡ Some row → (p : Place) → named_of q log p ≡ times_led p (pointers_named log.held q row) + times_given object q hand p
grown_counted one s log object blocks j hand grows in_hand pointers store q row e p =
    let stays = growth_stays object blocks s.log log q grows in
    let same : times_led p (pointers_named log.held q row) ≡ times_led p (pointers_named s.log.held q row) = ap (times_led p) (same_named s.log.held log.held q row stays.journal stays.checkpoints) in
    let counted = store.counted q row e p in
    let now : named_of q log p ≡ named_of q s.log p + times_given object q hand p = named_now in
    omega (arith, same, counted, now)
  where
    led : All (IsLed log.held object) hand
    led = told_led log.held object hand (λ r there. let (k, at) = in_hand.led r there in pointers k r at)

    -- what was held has no name in hand
    kept_here : IsSome (s.log.held p) → (log.held p ≡ s.log.held p) × (times_led p hand ≡ 0)
    kept_here some =
        let same = grows.kept p some in
        let names = grows.names_kept p same in
        let named = in_hand.named p in
        (same, omega (arith, names, named))

    -- the names of the object's own data
    own : object ≡ q → named_of q log p ≡ named_of q s.log p + times_led p hand
    own is = elim (cases_Bool (is_some (of_kind Data q s.log.held p))) [
      | inl was ↦
          let (same, none) = kept_here (seen_is_some Data q (s.log.held p) was) in
          let before = named_some q s.log p was in
          let later = named_some q log p (ap (λ (there : Option Stored). is_some (seen_as Data q there)) same ∙ was) in
          let named = in_hand.named p in
          omega (arith, before, later, named, none)
      | inr not_before ↦
          let before = named_none q s.log p not_before in
          elim (cases_Bool (is_some (of_kind Data q log.held p))) [
            | inl now ↦
                let later = named_some q log p now in
                let named = in_hand.named p in
                let free : s.log.named p ≡ 0 = elim (cases_Bool (is_data (s.log.held p))) [
                  | inl of_data ↦
                      let (same, none) = kept_here (data_some (s.log.held p) of_data) in
                      absurd (false≢true (sym not_before ∙ ap (λ (there : Option Stored). is_some (seen_as Data q there)) (sym same) ∙ now))
                  | inr other ↦ let few = ltb-false 0 (s.log.named p) (store.names p ∙ other) in omega (arith, few)
                ] in
                omega (arith, before, later, named, free)
            | inr never ↦
                let later = named_none q log p never in
                let none = none_led one object log.held hand p led (subst (λ (n : ℕ). is_some (of_kind Data n log.held p) ≡ false) (sym is) never) in
                omega (arith, before, later, none)
          ]
    ]
      where
        data_some : (there : Option Stored) → is_data there ≡ true → IsSome there
        data_some None is = is
        data_some (Some block) is = refl

    -- and of another's
    other : (object == q) ≡ false → named_of q log p ≡ named_of q s.log p
    other beside =
        let same = grows.others Data q p beside in
        elim (cases_Bool (is_some (of_kind Data q log.held p))) [
          | inl some ↦
              let none = none_led one object log.held hand p led (others_data object q (log.held p) beside some) in
              let named = in_hand.named p in
              named_alike q s.log log p same (omega (arith, named, none))
          | inr nothing ↦ named_none q log p nothing ∙ sym (named_none q s.log p (sym (ap is_some same) ∙ nothing))
        ]

    named_now : named_of q log p ≡ named_of q s.log p + times_given object q hand p
    named_now = elim (cases_Bool (object == q)) [
      | inl is ↦
          let mine = own (eqb-true object q is) in
          let given : times_given object q hand p ≡ times_led p hand = cond-true (object == q) (times_led p hand) 0 is in
          omega (arith, mine, given)
      | inr beside ↦
          let its = other beside in
          let given : times_given object q hand p ≡ 0 = cond-false (object == q) (times_led p hand) 0 beside in
          omega (arith, its, given)
    ]
