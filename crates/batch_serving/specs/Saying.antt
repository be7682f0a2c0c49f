-- What a session has said since it began.
use Rattle.std.specs.Prelude.{◌≡◌, ℕ, ⊤, List, ◌++◌, Option, Some, None}
use Rattle.s4_types.specs.declared.requests.Request.{Request}
use Rattle.s4_types.specs.declared.replies.Reply.{Reply}
use Rattle.rpc.specs.declared.items.Item.{Item}
use Rattle.serving.specs.Answering.{Answered, said}

-- what was sent, where it is known, and what is held are all of these bytes
abbrev pub Completes : Option (List ℕ) → (held all : List ℕ) → Type 0
Completes None held all = ⊤
Completes (Some sent) held all = sent ++ held ≡ all

-- What was sent and what is held are the replies of a backend that has come from one of these beginnings to where it is now, and nothing else.
pub record HasSaid {B C : Type 0} (steps : B → Request → ℕ → Reply → B → Type 0) (draws : C → ℕ → C → Type 0) (begins : B → Type 0) (sent : Option (List ℕ)) (held : List ℕ) (now : B) (clock : C) : Type 0 where
  pub first : B
  pub begun : begins first
  pub before : C
  pub items : List (Item Request)
  pub replies : List Reply
  pub answered : Answered steps draws items replies first before now clock
  pub all : Completes sent held (said replies)
