-- How room is made journal by journal.
use Rattle.std.proofs.Common.{◌≡◌, ◌∙◌, ◌+◌, ◌<◌, ℕ, List, [], ◌∷◌, ◌++◌, Option, length, take, get_or, ap, sym, refl, subst}
use Rattle.std.proofs.lemmas.List.{take_more}
use Rattle.s4_types.specs.declared.spans.Span.{Span}
use Rattle.drive.specs.Fields.{DriveFields}
use Rattle.restore_orders.specs.MakingRoom.{MakesRoom}
use Rattle.restore_orders.specs.declared.dating.Moments.{Moments}
use Rattle.restore_search.specs.declared.rooms.Room.{Room}
use Rattle.restore_trials.specs.Surveys.{AreMade}

-- room in one journal more
pub made_more : (d : DriveFields) (moments : Moments) (full : List Room) (room : Room) (middle later : DriveFields) → AreMade d moments full middle → (hidden : Option Span) × MakesRoom middle moments.asked moments.at room hidden later → AreMade d moments (full ++ room ∷ []) later
made_more d moments [] room middle later made here =
    (here.0, later, subst (λ (e : DriveFields). MakesRoom e moments.asked moments.at room here.0 later) made here.1, refl)
made_more d moments (first ∷ full) room middle later made here =
    (made.0, made.1, made.2, made_more made.1 moments full room middle later made.3 here)

pub made_at : (d : DriveFields) (moments : Moments) (full : List Room) (i : ℕ) (room : Room) (middle later : DriveFields) → i < length full → room ≡ get_or full i room → AreMade d moments (take i full) middle → (hidden : Option Span) × MakesRoom middle moments.asked moments.at room hidden later → AreMade d moments (take (i + 1) full) later
made_at d moments full i room middle later lt is made here =
    let more : take i full ++ room ∷ [] ≡ take (i + 1) full = ap (λ (r : Room). take i full ++ r ∷ []) is ∙ sym (take_more full i room lt) in
    subst (λ (rooms : List Room). AreMade d moments rooms later) more (made_more d moments (take i full) room middle later made here)
