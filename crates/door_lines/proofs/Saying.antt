-- What a line says, by what is held of it.
use Rattle.std.proofs.Common.{◌≡◌, ◌≢◌, ◌∙◌, ℕ, ◌≤◌, ◌&&◌, Bool, true, false, nat_le, List, length, Some, None, if◌then◌else◌, arith, refl, sym, ap, subst}
use Rattle.std.specs.List.{list_all}
use Rattle.std.proofs.lemmas.Bool.Decides.{nat_tests}
use Rattle.door_lines.specs.Lines.{IsName, IsSessionName, held_of, is_name_byte, stop_word}
use Rattle.door_lines.specs.Reading.{Says}
use Rattle.door_lines.specs.declared.line.DoorLine.TheVariants.{Nothing, Session, Stop}

held_name : (line : List ℕ) → IsName line → held_of line ≡ Some line
held_name line n =
    let short : nat_le (length line) 64 ≡ true = grind (arith, nat_tests, n.short) in
    rw (short, n.plain) refl

chosen : (test : Bool) (line text : List ℕ) → (if test then Some line else None) ≡ Some text → line ≡ text
chosen true line text e = cc
chosen false line text e = absurd cc

held_all : (line text : List ℕ) → held_of line ≡ Some text → line ≡ text
held_all line text e = chosen (nat_le (length line) 64 && list_all is_name_byte line) line text e

pub other_says : (line : List ℕ) → None ≡ held_of line → Says line Nothing
other_says line none = (
  (λ is. let e : None ≡ Some stop_word = subst (λ (l : List ℕ). None ≡ held_of l) is none in absurd cc),
  (λ name. let e : None ≡ Some line = none ∙ held_name line name.0 in absurd cc),
)

pub empty_says : (line text : List ℕ) → Some text ≡ held_of line → length text ≡ 0 → Says line Nothing
empty_says line text some empty =
    let is = held_all line text (sym some) in
    let none : length line ≡ 0 = ap length is ∙ empty in (
      (λ stop. let four : length line ≡ 4 = ap length stop in omega arith),
      (λ name. omega (arith, name.0.some)),
    )

pub stop_says : (line text : List ℕ) → Some text ≡ held_of line → text ≡ stop_word → Says line Stop
stop_says line text some stop = held_all line text (sym some) ∙ stop

pub session_says : (line text : List ℕ) → Some text ≡ held_of line → IsSessionName text → Says line (Session text)
session_says line text some name =
    let is = sym (held_all line text (sym some)) in
    (is, subst IsSessionName is name)

pub session_name : (text : List ℕ) → length text ≢ 0 → length text ≤ 64 → list_all is_name_byte text ≡ true → text ≢ stop_word → IsSessionName text
session_name text some short plain other = (record { some = omega (arith, some); short = short; plain = plain }, other)
