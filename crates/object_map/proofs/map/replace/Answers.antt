use Rattle.std.proofs.Common.{◌+◌, ◌<◌, ◌^◌, Option, IfSome, is_some, sym, ap, subst}
use Rattle.object_map.specs.declared.map.Kept.{Kept}
use Rattle.object_map.proofs.Mapped.{found_in_box, replaced, none_replaced}
use Rattle.object_map.proofs.map.replace.Goals as goal

pub put_anew-requires : goal.put_anew-requires
put_anew-requires g c =
    let found = found_in_box c.args.map.now.entries c.args.key c.in-Some.kept.now c.in-Some.ensures.value in
    subst (λ (r : Option (Kept _)). IfSome r (λ old. old.row.stamp + 1 < 2 ^ 64)) found c.requires.there

pub returns-in-Some : goal.returns-in-Some
returns-in-Some g c = record {
  changed = replaced c.args.map.now.entries _ c.args.key c.in-Some.kept.now c.put_anew.new.place (λ (old : Kept _). record { row = record c.args.row.now { stamp = old.row.stamp + 1 }; value = c.args.value })
      c.in-Some.ensures.value c.put_anew.ensures ((c.get_mut.follows.holds c.put_anew.new.place).3 (ap is_some (sym c.in-Some.ensures.value))).0;
}

pub returns-in_default : goal.returns-in_default
returns-in_default g c = record { changed = none_replaced c.args.map.now.entries c.args.key _ c.in_default.ensures.value }
