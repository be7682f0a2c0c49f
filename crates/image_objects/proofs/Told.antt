-- How often the pointers of rows that are in order refer to a place: those of one row alone do, that of the object whose data is there.
use Rattle.std.proofs.Common.{◌≡◌, inl, inr, ℕ, ◌<◌, ◌≤◌, false, List, [], ◌∷◌, length, Option, Some, None, IsSome, is_some, refl, sym, ap, ◌∙◌, subst, append-nil, arith}
use Rattle.std.specs.List.{All, AllByRecursion, Contains}
use Rattle.std.proofs.lemmas.Bool.{cases_Bool, cases_lt, cond-true, cond-false, false≢true}
use Rattle.std.proofs.lemmas.List.Elements.{All-contains, Contains-append_left, Contains-append_right}
use Rattle.std.proofs.lemmas.List.Sums.{count_by-le-length}
use Rattle.s4_types.specs.Pointer.{Place}
use Rattle.s4_types.specs.declared.limits.TheConstants.{ROW_POINTERS}
use Rattle.lemmas.proofs.Option.{value_there}
use Rattle.lemmas.proofs.Contains.{contains_none, contains_cases}
use Rattle.block_log.specs.Log.{Log, Stored, of_kind, seen_as}
use Rattle.block_log.specs.declared.kinds.BlockKind.TheVariants.{Data}
use Rattle.object_map.specs.declared.map.Row.{Row}
use Rattle.block_log.proofs.BlockKinds.{seen_is_data}
use Rattle.version_store.specs.Laws.{RowsHaveFewPointers}
use Rattle.version_store.specs.Store.{IsLed, IsNamedBy, is_at, times_led, pointers_of, pointers_named}
use Rattle.image_objects.specs.declared.rows.ImageRow.{ImageRow}
use Rattle.image_objects.specs.VersionChain.{kept_row}
use Rattle.image_objects.specs.Objects.{ObjectStands, pointers_used}
use Rattle.image_objects.specs.Naming.{HoldsWhatIsNamed, NamesAreCounted, times_told}
use Rattle.image_objects.specs.Rows.{RowsAscend, RowsStand}
use Rattle.image_objects.specs.Laws.{IsHeldAsUsed}
use Rattle.image_objects.proofs.Listed.{above}
use Rattle.image_objects.proofs.HeldByName.{held_named}
use Rattle.image_objects.proofs.Named.{OneName, led_there, seen_parts}
use Rattle.image_objects.proofs.Standing.{CheckpointIsTold, named_as_used}

-- ---- a place that a row refers to

one_object : (o q : ℕ) (found : Option Stored) → IsSome (seen_as Data o found) → IsSome (seen_as Data q found) → o ≡ q
one_object o q None first second = absurd (false≢true first)
one_object o q (Some block) first second =
    let a = seen_parts Data o block first in
    let b = seen_parts Data q block second in
    sym a.1 ∙ b.1

-- what a row that stands leads to is used as its object's data
led_used : OneName → (used : Place → Option Stored) (row : ImageRow) (clock : ℕ) (p : Place) → ObjectStands used row clock → 0 < times_led p (pointers_used used row) → IsSome (of_kind Data row.object used p)
led_used names used row clock p stands some = All-contains (IsLed used row.object) (pointers_used used row) (Some p) stands.led (led_there names (pointers_used used row) p some)

other_led : OneName → (used : Place → Option Stored) (row : ImageRow) (clock o : ℕ) (p : Place) → ObjectStands used row clock → IsSome (of_kind Data o used p) → (row.object ≡ o → ⊥) → times_led p (pointers_used used row) ≡ 0
other_led names used row clock o p stands there apart = elim (cases_lt 0 (times_led p (pointers_used used row))) [
  | inl some ↦ absurd (apart (one_object row.object o (used p) (led_used names used row clock p stands some) there))
  | inr few ↦ omega (arith, few)
]

-- ---- all rows taken together

-- rows of objects above one lead to none of its data
none_told : OneName → (used : Place → Option Stored) (clock low made : ℕ) (rows : List ImageRow) (o : ℕ) (p : Place) → o ≤ low → IsSome (of_kind Data o used p) → RowsAscend clock low made rows → AllByRecursion (λ row. ObjectStands used row clock) rows
    → times_told used rows p ≡ 0
none_told names used clock low made [] o p upto there ascend stand = refl
none_told names used clock low made (x ∷ rows) o p upto there ascend stand =
    let over = ascend.0 in
    let none = other_led names used x clock o p stand.0 there (λ same. omega (arith, same, over, upto)) in
    let rest = none_told names used clock x.object x.created rows o p (omega (arith, over, upto)) there ascend.3 stand.1 in
    omega (arith, none, rest)

-- to an object's data its own row leads alone
one_told : OneName → (used : Place → Option Stored) (clock low made : ℕ) (rows : List ImageRow) (row : ImageRow) (p : Place) → IsSome (of_kind Data row.object used p) → RowsAscend clock low made rows → AllByRecursion (λ row. ObjectStands used row clock) rows
    → Contains rows row → times_told used rows p ≡ times_led p (pointers_used used row)
one_told names used clock low made [] row p there ascend stand listed = absurd (contains_none row listed)
one_told names used clock low made (x ∷ rows) row p there ascend stand listed = elim (contains_cases x rows row listed) [
  | inl is ↦
      let object : x.object ≡ row.object = ap (λ (r : ImageRow). r.object) is in
      let here : times_led p (pointers_used used x) ≡ times_led p (pointers_used used row) = ap (λ (r : ImageRow). times_led p (pointers_used used r)) is in
      let rest = none_told names used clock x.object x.created rows row.object p (omega (arith, object)) there ascend.3 stand.1 in
      omega (arith, here, rest)
  | inr behind ↦
      let (over, later) = above clock x.object x.created rows row ascend.3 behind in
      let none = other_led names used x clock row.object p stand.0 there (λ same. omega (arith, same, over)) in
      let rest = one_told names used clock x.object x.created rows row p there ascend.3 stand.1 behind in
      omega (arith, none, rest)
]

-- so no place is told more often than one row refers to it
few_told : OneName → (used : Place → Option Stored) (clock low made : ℕ) (rows : List ImageRow) (p : Place) (most : ℕ) → RowsAscend clock low made rows → AllByRecursion (λ row. ObjectStands used row clock) rows
    → ((row : ImageRow) → Contains rows row → times_led p (pointers_used used row) ≤ most) → times_told used rows p ≤ most
few_told names used clock low made [] p most ascend stand each = omega arith
few_told names used clock low made (x ∷ rows) p most ascend stand each = elim (cases_lt 0 (times_led p (pointers_used used x))) [
  | inl some ↦
      let here = each x (Contains-append_left (x ∷ []) rows x (0, omega arith, refl)) in
      let rest = none_told names used clock x.object x.created rows x.object p (omega arith) (led_used names used x clock p stand.0 some) ascend.3 stand.1 in
      omega (arith, here, rest)
  | inr none ↦
      let rest = few_told names used clock x.object x.created rows p most ascend.3 stand.1 (λ row there. each row (Contains-append_right (x ∷ []) rows row there)) in
      omega (arith, none, rest)
]

-- ---- what is held of them

few_led : CheckpointIsTold → RowsHaveFewPointers → (used held : Place → Option Stored) (rows : List ImageRow) (row : ImageRow) (clock : ℕ) (p : Place) → RowsAscend clock 0 0 rows → HoldsWhatIsNamed used held rows → Contains rows row → IsHeldAsUsed used held row clock 0
    → times_led p (pointers_used used row) ≤ ROW_POINTERS
few_led told law used held rows row clock p ascend holds there as_used =
    let kept = kept_row used row 0 in
    let few : length (pointers_named held row.object kept) ≤ ROW_POINTERS = law held row.object kept clock as_used.object (omega arith) in
    let same : length (pointers_named held row.object kept) ≡ length (pointers_used used row) = ap (λ (slots : List (Option Place)). length slots) (named_as_used told used held rows row clock 0 ascend holds there as_used) in
    let times : times_led p (pointers_used used row) ≤ length (pointers_used used row) = count_by-le-length (λ (x : Option Place). is_at x p) (pointers_used used row) in
    omega (arith, few, same, times)

pub rows_tell_few : OneName → CheckpointIsTold → RowsHaveFewPointers → (used held : Place → Option Stored) (rows : List ImageRow) (clock : ℕ) (p : Place) → RowsAscend clock 0 0 rows → RowsStand used rows clock → HoldsWhatIsNamed used held rows
    → ((row : ImageRow) → Contains rows row → IsHeldAsUsed used held row clock 0) → times_told used rows p ≤ ROW_POINTERS
rows_tell_few names told law used held rows clock p ascend stand holds as_used =
    few_told names used clock 0 0 rows p ROW_POINTERS ascend stand.objects (λ row there. few_led told law used held rows row clock p ascend holds there (as_used row there))

-- each data block of an object that is held has as many names as the pointers of its row refer to it
abbrev pub IsCounted : Log → ℕ → Row → Type 0
IsCounted log o row = IsNamedBy o log (pointers_named log.held o row)

none_led : OneName → (held : Place → Option Stored) (o : ℕ) (slots : List (Option Place)) (p : Place) → All (IsLed held o) slots → is_some (of_kind Data o held p) ≡ false → times_led p slots ≡ 0
none_led names held o slots p led none = elim (cases_lt 0 (times_led p slots)) [
  | inl some ↦
      let there : IsSome (of_kind Data o held p) = All-contains (IsLed held o) slots (Some p) led (led_there names slots p some) in
      absurd (false≢true (sym none ∙ there))
  | inr few ↦ omega (arith, few)
]

pub row_counted : OneName → CheckpointIsTold → (used : Place → Option Stored) (rows : List ImageRow) (clock : ℕ) (log : Log) (row : ImageRow) → RowsAscend clock 0 0 rows → RowsStand used rows clock → HoldsWhatIsNamed used log.held rows → NamesAreCounted used log.named rows
    → Contains rows row → IsHeldAsUsed used log.held row clock 0 → IsCounted log row.object (kept_row used row 0)
row_counted names told used rows clock log row ascend stand holds counted there as_used p =
    let o = row.object in
    let slots = pointers_named log.held o (kept_row used row 0) in
    let is : slots ≡ pointers_used used row = named_as_used told used log.held rows row clock 0 ascend holds there as_used in
    elim (cases_Bool (is_some (of_kind Data o log.held p))) [
      | inl some ↦
          let (bytes, at) = value_there (of_kind Data o log.held p) some in
          let held = held_named used log.held rows clock row Data p bytes ascend holds there at in
          let seen : IsSome (of_kind Data o used p) = ap (λ (b : Option (List ℕ)). is_some b) held.0 in
          cond-true (is_some (of_kind Data o log.held p)) (log.named p) 0 some
          ∙ counted p (seen_is_data o (used p) seen)
          ∙ one_told names used clock 0 0 rows row p seen ascend stand.objects there
          ∙ sym (ap (times_led p) is)
      | inr none ↦
          let led : All (IsLed log.held o) slots = subst (λ (pointers : List (Option Place)). All (IsLed log.held o) pointers) (sym (append-nil (pointers_of log.held o (kept_row used row 0)))) as_used.object.led in
          cond-false (is_some (of_kind Data o log.held p)) (log.named p) 0 none ∙ sym (none_led names log.held o slots p led none)
    ]
