-- What a read leaves in a reader.
use Rattle.std.proofs.Common.{◌≡◌, ◌∙◌, ℕ, ◌-◌, ◌≤◌, ◌<◌, ◌==◌, List, [], ◌∷◌, length, take, drop, Some, None, Option, arith, refl, sym, ap}
use Rattle.std.proofs.lemmas.List.{length-take}
use Rattle.door_lines.specs.Reading.{GivesPiece, IsNext, KeepsPieces, held_piece}
use Rattle.door_lines.specs.private.Scanning.{Fails, Fills}
use Rattle.door_lines.specs.declared.reader.DoorEnd.TheVariants.{Ended, ReadFailed}

-- of bytes that were read
held_given : (count : ℕ) (into : List ℕ) → count ≤ length into → record { rest = take (count - 0) (drop 0 into); is_full = count == 512 } ≡ held_piece (take count into)
held_given count into within =
    let same : count - 0 ≡ count = omega arith in
    let long : length (take count into) ≡ count = grind (arith, length-take, within) in
    rw (same, long) refl

next_fills : (pieces later : List (List ℕ)) (count : ℕ) (into : List ℕ) → 0 < count → count ≤ length into → IsNext pieces later (take count into)
    → Fills (Some pieces) (Some later) (record { rest = take (count - 0) (drop 0 into); is_full = count == 512 })
next_fills [] later count into some within next =
    let none : length (take count into) ≡ 0 = ap length next.0 in
    let long : length (take count into) ≡ count = grind (arith, length-take, within) in
    absurd (omega (arith, none, long, some))
next_fills (piece ∷ pieces) later count into some within next = (
  piece,
  ap (λ rest. piece ∷ rest) (sym next.1),
  held_given count into within ∙ ap held_piece next.0,
)

pub filled : (pieces later : Option (List (List ℕ))) (count : ℕ) (into : List ℕ) → 0 < count → count ≤ length into → GivesPiece pieces later (take count into)
    → Fills pieces later (record { rest = take (count - 0) (drop 0 into); is_full = count == 512 })
filled None later count into some within gives = tt
filled (Some pieces) None count into some within gives = absurd gives
filled (Some pieces) (Some later) count into some within gives = next_fills pieces later count into some within gives

none_next : (pieces later : List (List ℕ)) (given : List ℕ) → given ≡ [] → IsNext pieces later given → Fails (Some pieces) (Some later) Ended
none_next [] later given none next = (next.1, next.1)
none_next (piece ∷ pieces) later given none next =
    let empty : length piece ≡ 0 = ap length (sym next.0 ∙ none) in
    absurd (omega (arith, empty, next.2))

pub over : (pieces later : Option (List (List ℕ))) (into : List ℕ) → GivesPiece pieces later (take 0 into) → Fails pieces later Ended
over None later into gives = tt
over (Some pieces) None into gives = absurd gives
over (Some pieces) (Some later) into gives = none_next pieces later (take 0 into) refl gives

pub failed : (pieces later : Option (List (List ℕ))) → KeepsPieces pieces later → Fails pieces later ReadFailed
failed None later keeps = tt
failed (Some pieces) None keeps = absurd keeps
failed (Some pieces) (Some later) keeps = (keeps, tt)
