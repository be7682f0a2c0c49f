-- Names of data blocks: what a drop leaves of them, and where there is none.
use Rattle.std.proofs.Common.{◌≡◌, inl, inr, ℕ, ◌-◌, ◌≤◌, Bool, true, false, if◌then◌else◌, None, refl, sym, ap, ◌∙◌, subst, arith}
use Rattle.std.proofs.lemmas.Bool.{cases_Bool, cond-true, cond-false, le-leb, ltb-false}
use Rattle.s4_types.specs.Pointer.{Place}
use Rattle.block_log.specs.Log.{Log, same_place, without, is_data, dropped_by, dropped, NamesAreOfData}

-- a block that is named once or not at all goes, whatever it is for
last_gone_by : (b : Bool) (log : Log) (p : Place) → log.named p ≤ 1 → (dropped_by b log p).held ≡ without log.held p
last_gone_by true log p few = ap (λ (x : Bool). if x then without log.held p else log.held) (le-leb (log.named p) 1 few)
last_gone_by false log p few = refl

pub last_gone : (log : Log) (p : Place) → log.named p ≤ 1 → (dropped log p).held ≡ without log.held p
last_gone log p few = last_gone_by (is_data (log.held p)) log p few

no_more_by : (b : Bool) (log : Log) (p q : Place) → (dropped_by b log p).named q ≤ log.named q
no_more_by true log p q = elim (cases_Bool (same_place p q)) [
  | inl here ↦ subst (λ (n : ℕ). n ≤ log.named q) (sym (cond-true (same_place p q) (log.named q - 1) (log.named q) here)) (omega arith)
  | inr beside ↦ subst (λ (n : ℕ). n ≤ log.named q) (sym (cond-false (same_place p q) (log.named q - 1) (log.named q) beside)) (omega arith)
]
no_more_by false log p q = omega arith

pub no_more_names : (log : Log) (p q : Place) → (dropped log p).named q ≤ log.named q
no_more_names log p q = no_more_by (is_data (log.held p)) log p q

pub nameless : (log : Log) (p : Place) → NamesAreOfData log → log.held p ≡ None → log.named p ≡ 0
nameless log p names none =
    let few = ltb-false 0 (log.named p) (names p ∙ ap is_data none) in
    omega (arith, few)
