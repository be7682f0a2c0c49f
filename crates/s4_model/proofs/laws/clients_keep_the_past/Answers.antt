use Rattle.std.proofs.Common.{◌∙◌, ℕ, ◌-◌, max, ap, sym}
use Rattle.s4_model.specs.Numbers.{floor_of, clock_of}
use Rattle.s4_model.proofs.laws.clients_keep_the_past.Goals as goal

pub returns : goal.returns
returns c = λ h after exchanges clients leads.
    let law = c.nobody_with_a_clients_rights_can_erase.ensures in
    let moved = law.floor h after exchanges clients leads in
    record {
      visible = λ o t seen above. (law.visible h after exchanges o t clients leads seen above).0;
      same = λ o t seen. (law.past h after exchanges o t clients leads seen.reached).1;
      window = moved.0;
      floor = moved.1 ∙ ap (λ (w : ℕ). max (floor_of h) (clock_of after - w)) (sym moved.0);
    }
