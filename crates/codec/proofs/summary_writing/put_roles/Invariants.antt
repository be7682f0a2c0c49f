use Rattle.std.proofs.Common.{◌≡◌, ◌++◌, ◌+◌, ◌*◌, length, take}
use Rattle.std.specs.List.{flat_map, AllByRecursion}
use Rattle.codec.specs.Summary.{IsBlockRole, role_spelling}
use Rattle.codec.proofs.summary_writing.put_roles.Given as goal

abbrev pub invariant-loop-role : goal.invariant-loop-role
invariant-loop-role l = record {
  items : l.out.items ≡ l.initial.out.items ++ flat_map role_spelling (take l.role-index l.roles);
  len : length l.out.items ≡ length l.initial.out.items + 9 * l.role-index;
  range : AllByRecursion IsBlockRole (take l.role-index l.roles);
}
