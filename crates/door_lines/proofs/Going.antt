-- A reader goes on with a line.
use Rattle.std.proofs.Common.{◌≡◌, ◌∙◌, ℕ, true, false, List, [], ◌∷◌, ◌++◌, Some, None, Option, refl, sym, ap, append_assoc, append-nil}
use Rattle.door_lines.specs.Lines.{held_of}
use Rattle.door_lines.specs.Reading.{Ends, Held, Says, Takes, begun_after, cut_line, held_piece, next_line}
use Rattle.door_lines.specs.private.Scanning.{Fails, Fills, Finishes, HasPassed, Passes}
use Rattle.door_lines.specs.declared.line.DoorLine.{DoorLine}
use Rattle.door_lines.specs.declared.reader.DoorEnd.{DoorEnd}

-- what is held has the rest of the line
next_held : (front : List ℕ) (held : Held) (part rest : List ℕ) (pieces : List (List ℕ)) → cut_line held.rest ≡ Some (part, rest)
    → next_line front held pieces ≡ Some (record { line = front ++ part; held = record { rest = rest; is_full = held.is_full }; pieces = pieces })
next_held front held part rest [] cut = rw cut refl
next_held front held part rest (piece ∷ pieces) cut = rw cut refl

-- it comes with another piece
next_piece : (front : List ℕ) (held : Held) (piece : List ℕ) (pieces : List (List ℕ)) → cut_line held.rest ≡ None
    → next_line front held (piece ∷ pieces) ≡ next_line (begun_after front held) (held_piece piece) pieces
next_piece front held piece pieces none = rw none refl

-- or not at all
next_none : (front : List ℕ) (held : Held) → cut_line held.rest ≡ None → next_line front held [] ≡ None
next_none front held none = rw none refl

begins : (held : Held) (pieces : Option (List (List ℕ))) → Passes held held pieces pieces []
begins held None = tt
begins held (Some pieces) = ([], refl, λ more. refl)

-- before anything was read
pub begun : (held : Held) (pieces : Option (List (List ℕ))) (line : Option (List ℕ)) → line ≡ Some [] → HasPassed held held pieces pieces line
begun held pieces line none = record { front = []; is = none; passes = begins held pieces }

reads_on : (held held' held'' : Held) (pieces later last : Option (List (List ℕ))) (front : List ℕ) → Passes held held' pieces later front → cut_line held'.rest ≡ None
    → Fills later last held'' → Passes held held'' pieces last (begun_after front held')
reads_on held held' held'' None later last front p none f = tt
reads_on held held' held'' (Some pieces) None last front p none f = absurd p
reads_on held held' held'' (Some pieces) (Some later) None front p none f = absurd f
reads_on held held' held'' (Some pieces) (Some later) (Some last) front p none f = (
  p.0 ++ f.0 ∷ [],
  p.1 ∙ ap (λ l. p.0 ++ l) f.1 ∙ sym (append_assoc p.0 (f.0 ∷ []) last),
  λ more. ap (λ l. next_line [] held l) (append_assoc p.0 (f.0 ∷ []) more) ∙ p.2 (f.0 ∷ more) ∙ next_piece front held' f.0 more none
      ∙ ap (λ h. next_line (begun_after front held') h more) (sym f.2),
)

-- all that was read is gone over, and another piece is read
pub refilled : (held held' next held'' : Held) (pieces later last : Option (List (List ℕ))) (line line' : Option (List ℕ))
    → HasPassed held held' pieces later line → ((front : List ℕ) → line ≡ held_of front → Finishes held' front false next line') → Fills later last held''
    → HasPassed held held'' pieces last line'
refilled held held' next held'' pieces later last line line' h finishes fills =
    let f = finishes h.front h.is in record {
      front = begun_after h.front held';
      is = f.1;
      passes = reads_on held held' held'' pieces later last h.front h.passes f.0 fills;
    }

takes : (held held' held'' : Held) (pieces later : Option (List (List ℕ))) (front part : List ℕ) (said : DoorLine) → Passes held held' pieces later front
    → cut_line held'.rest ≡ Some (part, held''.rest) → held''.is_full ≡ held'.is_full → Says (front ++ part) said → Takes held held'' pieces later said
takes held held' held'' None later front part said p cut same says = tt
takes held held' held'' (Some pieces) None front part said p cut same says = absurd p
takes held held' held'' (Some pieces) (Some later) front part said p cut same says = (
  front ++ part,
  ap (λ l. next_line [] held l) p.1 ∙ p.2 later ∙ next_held front held' part held''.rest later cut
      ∙ ap (λ full. Some (record { line = front ++ part; held = record { rest = held''.rest; is_full = full }; pieces = later })) (sym same),
  says,
)

-- the line is whole
pub taken : (held held' held'' : Held) (pieces later : Option (List (List ℕ))) (line line' : Option (List ℕ)) (said : DoorLine)
    → HasPassed held held' pieces later line → ((front : List ℕ) → line ≡ held_of front → Finishes held' front true held'' line')
    → ((whole : List ℕ) → line' ≡ held_of whole → Says whole said) → Takes held held'' pieces later said
taken held held' held'' pieces later line line' said h finishes says =
    let f = finishes h.front h.is in
    takes held held' held'' pieces later h.front f.0 said h.passes f.1 f.2 (says (h.front ++ f.0) f.3)

ends : (held held' : Held) (pieces later last : Option (List (List ℕ))) (front : List ℕ) (end : DoorEnd) → Passes held held' pieces later front → cut_line held'.rest ≡ None
    → Fails later last end → Ends held pieces last end
ends held held' None later last front end p none f = tt
ends held held' (Some pieces) None last front end p none f = absurd p
ends held held' (Some pieces) (Some later) None front end p none f = absurd f
ends held held' (Some pieces) (Some later) (Some last) front end p none f = (
  p.0,
  p.1 ∙ ap (λ l. p.0 ++ l) (sym f.0),
  ap (λ l. next_line [] held l) (sym (append-nil p.0)) ∙ p.2 [] ∙ next_none front held' none,
  f.1,
)

-- all that was read is gone over, and no more comes
pub ended : (held held' next : Held) (pieces later last : Option (List (List ℕ))) (line line' : Option (List ℕ)) (end : DoorEnd)
    → HasPassed held held' pieces later line → ((front : List ℕ) → line ≡ held_of front → Finishes held' front false next line') → Fails later last end
    → Ends held pieces last end
ended held held' next pieces later last line line' end h finishes fails = ends held held' pieces later last h.front end h.passes (finishes h.front h.is).0 fails
