use Rattle.std.proofs.Common.{◌∙◌, ◌+◌, ◌-◌, ◌==◌, ℕ, List, true, false, take, drop, Option, None, subst, sym, arith}
use Rattle.door_lines.specs.Reading.{Held}
use Rattle.door_lines.specs.private.Scanning.{Finishes, IsScanned}
use Rattle.door_lines.proofs.Cutting.{dropped, goes_on, whole, within_end}
use Rattle.door_lines.proofs.reader.DoorReader.finish.Goals as goal
use Rattle.door_lines.proofs.reader.DoorReader.finish.Goals.{then-self-lt-PIECE_BYTES, else-self-lt-PIECE_BYTES}

pub overflow_add-self : goal.overflow_add-self
overflow_add-self c =
    let within = within_end c.self.inside.piece c.self.inside.begin c.self.inside.end c.in-Some.at c.self.invariant.0 c.in-Some.ensures.within in
    omega (arith, within, c.self.invariant.1)

pub overflow_add-self-in-Some : goal.overflow_add-self-in-Some
overflow_add-self-in-Some c =
    let within = within_end c.self.inside.piece c.self.inside.begin c.self.inside.end c.in-Some.at c.self.invariant.0 c.in-Some.ensures.within in
    omega (arith, within, c.self.invariant.1)

pub invariant_of-self : goal.invariant_of-self
invariant_of-self c =
    (within_end c.self.inside.piece c.self.inside.begin c.self.inside.end c.in-Some.at c.self.invariant.0 c.in-Some.ensures.within, c.self.invariant.1)

pub returns-in-Some : goal.returns-in-Some
returns-in-Some c = λ front h.
    let piece = c.self.inside.piece in
    let begin = c.self.inside.begin in
    let end = c.self.inside.end in
    let at = c.in-Some.at in
    let within = within_end piece begin end at c.self.invariant.0 c.in-Some.ensures.within in
    subst (λ (held : Held). Finishes held front true (record { rest = take (end - (begin + (at + 1))) (drop (begin + (at + 1)) piece); is_full = end == 512 }) c.scan.new.line) c.self.view_is
    (whole piece begin end at front c.scan.new.line within (c.in-Some.ensures.held front h))

pub returns-after-self-lt-PIECE_BYTES : goal.returns-after-self-lt-PIECE_BYTES
returns-after-self-lt-PIECE_BYTES c = λ front h.
    let bytes : List ℕ = take (c.self.inside.end - c.self.inside.begin) (drop c.self.inside.begin c.self.inside.piece) in
    let end = c.self.inside.end in
    let scanned : IsScanned front bytes None c.scan.new.line = c.in-None.ensures.held front h in
    let kept : Finishes (record { rest = bytes; is_full = end == 512 }) front false (record { rest = bytes; is_full = end == 512 }) c.if-self-lt-PIECE_BYTES.line = elim c.if-self-lt-PIECE_BYTES.branch [
      | then-self-lt-PIECE_BYTES w ↦ dropped bytes front end c.scan.new.line c.if-self-lt-PIECE_BYTES.line (record { rest = bytes; is_full = end == 512 }) w.if-self-lt-PIECE_BYTES.true (w.line-is ∙ w.new.ensures) scanned
      | else-self-lt-PIECE_BYTES w ↦ goes_on bytes front end c.if-self-lt-PIECE_BYTES.line (record { rest = bytes; is_full = end == 512 }) c.self.invariant.1 w.if-self-lt-PIECE_BYTES.false
          (subst (λ (line : Option (List ℕ)). IsScanned front bytes None line) (sym w.line-is) scanned)
    ] in
    subst (λ (held : Held). Finishes held front false held c.if-self-lt-PIECE_BYTES.line) c.self.view_is kept
