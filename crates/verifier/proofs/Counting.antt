-- How many names data blocks get from the places that rows name.
use Rattle.std.proofs.Common.{◌≡◌, inl, inr, ℕ, ◌+◌, ◌-◌, ◌^◌, ◌<◌, ◌≤◌, ltb, true, false, cond, List, [], ◌∷◌, ◌++◌, length, get_or, take, Option, None, sym, ap, ◌∙◌, subst, arith}
use Rattle.std.proofs.lemmas.Bool.{cases_Bool, cases_lt, cond-true, cond-false, lt-ltb, le-ltb, ltb-false, false≢true}
use Rattle.std.proofs.lemmas.List.{take_more}
use Rattle.s4_types.specs.Pointer.{Place}
use Rattle.s4_types.specs.declared.limits.TheConstants.{ROW_POINTERS}
use Rattle.block_log.specs.Log.{Log, Stored, same_place, is_data, NamesAreOfData}
use Rattle.block_log.proofs.Places.{same_place_itself}
use Rattle.codec.specs.Fields.{bit}
use Rattle.journal_chain.specs.Chain.{times}
use Rattle.segment_table.specs.Slots.{capped}
use Rattle.journal_chain.proofs.Places.{times-none}
use Rattle.version_store.specs.Store.{times_led}
use Rattle.image_objects.specs.declared.rows.ImageRow.{ImageRow}
use Rattle.image_objects.specs.Objects.{pointers_used}
use Rattle.image_objects.specs.Naming.{times_told, NamesAreCounted}
use Rattle.verifier.specs.Reading.{NamesAreCapped}
use Rattle.verifier.proofs.Holding.{OneName}

-- ---- numbers as 32 bits count them

capped_low : (n : ℕ) → n < 2 ^ 32 → capped n ≡ n
capped_low n low = cond-true (ltb n (2 ^ 32)) n (2 ^ 32 - 1) (lt-ltb n (2 ^ 32) low)

capped_high : (n : ℕ) → 2 ^ 32 ≤ n → capped n ≡ 2 ^ 32 - 1
capped_high n past = cond-false (ltb n (2 ^ 32)) n (2 ^ 32 - 1) (le-ltb n (2 ^ 32) past)

-- one more than what is counted of a number counts as one more than the number
capped_more : (n : ℕ) → capped (1 + capped n) ≡ capped (1 + n)
capped_more n = elim (cases_lt n (2 ^ 32)) [
  | inl low ↦ ap (λ (m : ℕ). capped (1 + m)) (capped_low n low)
  | inr past ↦ ap (λ (m : ℕ). capped (1 + m)) (capped_high n past) ∙ capped_high (1 + (2 ^ 32 - 1)) (omega arith) ∙ sym (capped_high (1 + n) (omega (arith, past)))
]

-- ---- how often a place is among places

times_push : (p : Place) (places : List Place) (place : Place) → times p (places ++ place ∷ []) ≡ times p places + bit (same_place p place)
unfolding times
times_push p [] place = omega arith
times_push p (q ∷ places) place = let rest = times_push p places place in omega (arith, rest)

other_way : OneName → (p q : Place) → same_place p q ≡ false → same_place q p ≡ false
other_way name p q apart = elim (cases_Bool (same_place q p)) [
  | inl is ↦ absurd (false≢true (sym apart ∙ subst (λ (r : Place). same_place r q ≡ true) (name q p is) (same_place_itself q)))
  | inr other ↦ other
]

times_here : OneName → (p : Place) (places : List Place) (place : Place) (n : ℕ) → same_place place p ≡ true → 1 + (n + times p places) ≡ n + times p (places ++ place ∷ [])
times_here name p places place n is =
    let one : bit (same_place p place) ≡ 1 = ap bit (subst (λ (q : Place). same_place p q ≡ true) (sym (name place p is)) (same_place_itself p)) in
    omega (arith, one, times_push p places place)

times_elsewhere : OneName → (p : Place) (places : List Place) (place : Place) (n : ℕ) → same_place place p ≡ false → n + times p places ≡ n + times p (places ++ place ∷ [])
times_elsewhere name p places place n apart =
    let none : bit (same_place p place) ≡ 0 = ap bit (other_way name place p apart) in
    omega (arith, none, times_push p places place)

-- ---- one place more, and so all of a list

pub named_none : (named : Place → ℕ) (p : Place) (n : ℕ) → named p ≡ capped n → named p ≡ capped (n + times p [])
named_none named p n was = let same : n ≡ n + times p [] = omega (arith, times-none p) in was ∙ ap (λ (m : ℕ). capped m) same

named_one : OneName → (used : Place → Option Stored) (now after : Place → ℕ) (places : List Place) (place p : Place) (n : ℕ)
    → ((q : Place) → after q ≡ cond (same_place place q) (cond (is_data (used place)) (capped (1 + now place)) 0) (now q))
    → is_data (used p) ≡ true → now p ≡ capped (n + times p places) → after p ≡ capped (n + times p (places ++ place ∷ []))
named_one name used now after places place p n step of_data was = elim (cases_Bool (same_place place p)) [
  | inl is ↦
      step p ∙ cond-true (same_place place p) (cond (is_data (used place)) (capped (1 + now place)) 0) (now p) is
      ∙ ap (λ (q : Place). cond (is_data (used q)) (capped (1 + now q)) 0) (name place p is)
      ∙ cond-true (is_data (used p)) (capped (1 + now p)) 0 of_data
      ∙ ap (λ (m : ℕ). capped (1 + m)) was ∙ capped_more (n + times p places)
      ∙ ap (λ (m : ℕ). capped m) (times_here name p places place n is)
  | inr apart ↦
      step p ∙ cond-false (same_place place p) (cond (is_data (used place)) (capped (1 + now place)) 0) (now p) apart
      ∙ was ∙ ap (λ (m : ℕ). capped m) (times_elsewhere name p places place n apart)
]

pub named_more : OneName → (used : Place → Option Stored) (now after : Place → ℕ) (places : List Place) (i : ℕ) (place p : Place) (n : ℕ) → i < length places → place ≡ get_or places i place
    → ((q : Place) → after q ≡ cond (same_place place q) (cond (is_data (used place)) (capped (1 + now place)) 0) (now q))
    → is_data (used p) ≡ true → now p ≡ capped (n + times p (take i places)) → after p ≡ capped (n + times p (take (i + 1) places))
named_more name used now after places i place p n lt is step of_data was =
    subst (λ (l : List Place). after p ≡ capped (n + times p l)) (sym (take_more places i place lt ∙ ap (λ (q : Place). take i places ++ q ∷ []) (sym is)))
    (named_one name used now after (take i places) place p n step of_data was)

-- ---- what rows tell

-- what is counted where nothing was before
pub counted_alone : (p : Place) (before places : List Place) (n : ℕ) → before ≡ [] → times p places ≡ times p before + n → times p places ≡ n
counted_alone p before places n cleared is = let none : times p before ≡ 0 = ap (times p) cleared ∙ times-none p in omega (arith, is, none)

told_push : (used : Place → Option Stored) (rows : List ImageRow) (row : ImageRow) (p : Place) → times_told used (rows ++ row ∷ []) p ≡ times_told used rows p + times_led p (pointers_used used row)
told_push used [] row p = omega arith
told_push used (x ∷ rows) row p = let rest = told_push used rows row p in omega (arith, rest)

-- where nothing is held nothing has a name
pub names_none : (used : Place → Option Stored) (log : Log) → ((p : Place) → log.held p ≡ None) → NamesAreOfData log → NamesAreCapped used log.named []
names_none used log nothing names p of_data =
    let none : log.named p ≤ 0 = ltb-false 0 (log.named p) (names p ∙ ap is_data (nothing p)) in
    let zero_names : log.named p ≡ 0 = omega (arith, none) in
    zero_names ∙ sym (capped_low 0 (omega arith))

-- one row more gives each data block a name more for each of its pointers that refers to it
pub names_more : (used : Place → Option Stored) (named after : Place → ℕ) (rows : List ImageRow) (row : ImageRow) (places : List Place)
    → ((p : Place) (n : ℕ) → is_data (used p) ≡ true → named p ≡ capped n → after p ≡ capped (n + times p places))
    → ((p : Place) → is_data (used p) ≡ true → times p places ≡ times_led p (pointers_used used row))
    → NamesAreCapped used named rows → NamesAreCapped used after (rows ++ row ∷ [])
names_more used named after rows row places given counted before p of_data =
    given p (times_told used rows p) of_data (before p of_data)
    ∙ ap (λ (n : ℕ). capped (times_told used rows p + n)) (counted p of_data)
    ∙ ap (λ (n : ℕ). capped n) (sym (told_push used rows row p))

-- numbers that 32 bits count are what they are counted as
pub names_counted : (used : Place → Option Stored) (named : Place → ℕ) (rows : List ImageRow) → NamesAreCapped used named rows → ((p : Place) → times_told used rows p ≤ ROW_POINTERS) → NamesAreCounted used named rows
names_counted used named rows capped_names few p of_data = capped_names p of_data ∙ capped_low (times_told used rows p) (omega (arith, few p))
