-- How many used blocks of a frame are held.
use Rattle.std.proofs.Common.{◌≡◌, inl, inr, ℕ, ◌+◌, ◌<◌, ◌≤◌, Bool, cond, ltb, ◌||◌, List, [], ◌∷◌, ◌++◌, length, get_or, count_by, refl, sym, ap, ◌∙◌, arith}
use Rattle.std.specs.List.{list_any}
use Rattle.std.proofs.lemmas.Bool.{cases_Bool, lt-ltb}
use Rattle.std.proofs.lemmas.List.Sums.{sum_by-cons, sum_by_push, sum_by-set, get_or-le-sum_by, count_by-le-length}
use Rattle.codec.specs.declared.summaries.BlockRole.{BlockRole}
use Rattle.segment_table.specs.declared.slots.Slot.{Slot}
use Rattle.segment_table.specs.Slots.{no_slot, is_held, with_names, unheld}

abbrev pub held_count : List Slot → ℕ
held_count s = count_by (λ (slot : Slot). is_held slot) s

-- what a used block adds
abbrev pub adds : Slot → ℕ
adds slot = cond (is_held slot) 1 0

pub count_few : (s : List Slot) → held_count s ≤ length s
count_few s = count_by-le-length (λ (slot : Slot). is_held slot) s

-- one more, which one place names
pub count_push : (s : List Slot) (role : BlockRole) → held_count (s ++ (record { role = role; named = 1 }) ∷ []) ≡ held_count s + 1
count_push s role = sum_by_push adds s (record { role = role; named = 1 })

pub count_some : (s : List Slot) (i : ℕ) → i < length s → adds (get_or s i no_slot) ≤ held_count s
count_some s i inside = get_or-le-sum_by adds s i no_slot inside

-- one that this many places name instead
pub count_set : (s : List Slot) (i n held after : ℕ) → i < length s → held ≡ held_count s → after + adds (get_or s i no_slot) ≡ held + cond (ltb 0 n) 1 0 → after ≡ held_count (with_names s i n)
count_set s i n held after inside is step =
    let e = sum_by-set adds s i (record (get_or s i no_slot) { named = n }) no_slot inside in
    omega (arith, e, is, step)

pub none_counted : (roles : List BlockRole) → held_count (unheld roles) ≡ 0
none_counted [] = refl
none_counted (x ∷ roles) = sum_by-cons adds (record { role = x; named = 0 }) (unheld roles) ∙ (let rest = none_counted roles in omega (arith, rest))

pub any_counted : (s : List Slot) → list_any (λ (slot : Slot). is_held slot) s ≡ ltb 0 (held_count s)
any_counted [] = refl
any_counted (x ∷ s) = elim (cases_Bool (is_held x)) [
  | inl held ↦ ap (λ (b : Bool). b || list_any (λ (slot : Slot). is_held slot) s) held
      ∙ sym (lt-ltb 0 (held_count (x ∷ s)) (let e = sum_by-cons adds x s in let one : adds x ≡ 1 = ap (λ (b : Bool). cond b 1 0) held in omega (arith, e, one)))
  | inr gone ↦
      let none : adds x ≡ 0 = ap (λ (b : Bool). cond b 1 0) gone in
      let same : held_count (x ∷ s) ≡ held_count s = (let e = sum_by-cons adds x s in omega (arith, e, none)) in
      ap (λ (b : Bool). b || list_any (λ (slot : Slot). is_held slot) s) gone ∙ any_counted s ∙ sym (ap (ltb 0) same)
]
