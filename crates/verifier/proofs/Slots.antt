-- The bytes of a pointer or of a hole.
use Rattle.std.proofs.Common.{◌≡◌, ℕ, ◌<◌, List, length, get_or, Option, Some, None, sym, ap, subst, ◌∙◌, arith}
use Rattle.std.proofs.lemmas.Nat.{be_bytes_8}
use Rattle.std.specs.Int.{w64, from_be_bytes}
use Rattle.std.specs.Prelude.{IfSome}
use Rattle.std.specs.List.{AllByRecursion}
use Rattle.s4_types.specs.Pointer.{Place, IsPlace}
use Rattle.lemmas.proofs.Bytes.{bytes_from_all}
use Rattle.codec.specs.Fields.{slot, number, zeros}
use Rattle.codec.proofs.Lengths.{slot_length}

pub are_bytes : (q : Option Place) → IfSome q IsPlace → AllByRecursion (λ b. b < 256) (slot q)
unfolding slot number zeros
are_bytes None is = (omega arith, (omega arith, (omega arith, (omega arith, (omega arith, (omega arith, (omega arith, (omega arith, tt))))))))
are_bytes (Some p) is = (omega arith, (omega arith, (omega (arith, is.highest_block), (omega arith, (omega arith, (omega arith, (omega arith, (omega arith, tt))))))))

pub slot_bytes : (q : Option Place) → IfSome q IsPlace → (i : ℕ) → get_or (slot q) i 0 < 256
slot_bytes q is = bytes_from_all (slot q) (are_bytes q is)

-- the number that the bytes of a pointer or of a hole represent has these bytes
pub number_of_slot : (q : Option Place) (bytes : List ℕ) (n : ℕ) → IfSome q IsPlace → bytes ≡ slot q → n ≡ from_be_bytes w64 bytes → number w64 n ≡ slot q
unfolding number
number_of_slot q bytes n is spells from =
    be_bytes_8 bytes n (ap length spells ∙ slot_length q) (subst (λ (l : List ℕ). (i : ℕ) → get_or l i 0 < 256) (sym spells) (slot_bytes q is)) from ∙ spells
