-- One piece written after another.
use Rattle.std.proofs.Common.{ℕ, List, [], ◌++◌, sym, ap, ◌∙◌, append_assoc, append-nil, arith, length-append}
use Rattle.std.specs.Global.{Vec}
use Rattle.rpc.specs.private.Room.{Appended}

pub Appended-then : (a b c : Vec ℕ) (x y : List ℕ) → Appended a b x → Appended b c y → Appended a c (x ++ y)
Appended-then a b c x y p q = record {
  items = q.items ∙ ap (λ (front : List ℕ). front ++ y) p.items ∙ append_assoc a.items x y;
  len = omega (arith, p.len, q.len, length-append x y);
  capacity = omega (arith, p.capacity, q.capacity);
}

-- nothing was written
pub Appended-nothing : (a : Vec ℕ) → Appended a a []
Appended-nothing a = record { items = sym (append-nil a.items); len = omega arith; capacity = omega arith }
