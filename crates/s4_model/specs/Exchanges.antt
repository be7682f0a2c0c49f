-- Lists of steps.
use Rattle.std.specs.Prelude.{◌≡◌, ℕ, List, [], ◌∷◌}
use Rattle.s4_types.specs.History.{History}
use Rattle.s4_types.specs.declared.requests.Role.{Role}
use Rattle.s4_types.specs.declared.requests.Role.TheVariants.{Client}
use Rattle.s4_types.specs.declared.requests.Request.{Request}
use Rattle.s4_types.specs.declared.replies.Reply.{Reply}
use Rattle.s4_model.specs.Step.{Step}

-- what was asked, by whom and when, and what was answered
pub record Exchange : Type 0 where
  pub role : Role
  pub request : Request
  pub now : ℕ
  pub reply : Reply

-- these exchanges lead from one history to another, each by a step
abbrev pub Leads : History → List Exchange → History → Type 0
Leads h [] after = after ≡ h
Leads h (e ∷ exchanges) after = (middle : History) × Step h e.role e.request e.now e.reply middle × Leads middle exchanges after

-- none of these exchanges was an administrator's
abbrev pub AreOfClients : List Exchange → Type 0
AreOfClients [] = Unit {0}
AreOfClients (e ∷ exchanges) = (e.role ≡ Client) × AreOfClients exchanges
