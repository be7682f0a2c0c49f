-- One request after another.
use Rattle.std.proofs.Common.{◌≡◌, ◌∙◌, ◌-◌, ◌≤◌, ℕ, max, refl, sym, subst, arith}
use Rattle.s4_model.specs.State.{State}
use Rattle.history_restore.specs.Keeping.{LeavesPast, LeavesOthers}

-- what is the same is left
pub past_same : (s later : State) → later ≡ s → LeavesPast s later
past_same s later same = subst (LeavesPast s) (sym same) (record {
  versions = λ o t le. refl;
  hidden = λ o t. refl;
  clock = omega arith;
  window = refl;
  floor = omega arith;
  reach = omega arith;
  next = omega arith;
})

pub others_same : (o : ℕ) (s later : State) → later ≡ s → LeavesOthers o s later
others_same o s later same = subst (LeavesOthers o s) (sym same) (λ q apart. refl)

-- how far floors reach
floors_reach : (f g k w c d : ℕ) → g ≤ max f (c - w) → k ≤ max g (d - w) → c ≤ d → k ≤ max f (d - w)
floors_reach f g k w c d first second le = omega arith

pub past_on : (s middle later : State) → LeavesPast s middle → LeavesPast middle later → LeavesPast s later
past_on s middle later first second = record {
  versions = λ o t le. second.versions o t (omega (arith, first.clock)) ∙ first.versions o t le;
  hidden = λ o t. second.hidden o t ∙ first.hidden o t;
  clock = omega (arith, first.clock, second.clock);
  window = second.window ∙ first.window;
  floor = omega (arith, first.floor, second.floor);
  reach = floors_reach s.floor middle.floor later.floor s.window middle.clock later.clock first.reach
      (subst (λ w. later.floor ≤ max middle.floor (later.clock - w)) first.window second.reach) second.clock;
  next = omega (arith, first.next, second.next);
}

pub others_on : (o : ℕ) (s middle later : State) → LeavesOthers o s middle → LeavesOthers o middle later → LeavesOthers o s later
others_on o s middle later first second q apart = second q apart ∙ first q apart
