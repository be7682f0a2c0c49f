use Rattle.std.proofs.Common.{◌≡◌, ◌++◌, [], ◌∷◌, subst}
use Rattle.object_map.specs.declared.map.Kept.{Kept}
use Rattle.object_map.specs.Objects.{PutsAt, unboxed}
use Rattle.object_map.proofs.Mapped.{put_at, puts_unboxed, boxed_behind}
use Rattle.object_map.proofs.map.put.Goals as goal

pub returns-clause-behind : goal.returns-clause-behind
returns-clause-behind g c = λ below.
    let objects = c.args.map.now.entries in
    let after = c.insert.new.self.entries in
    subst (λ (kept : Kept _). unboxed after ≡ unboxed objects ++ (c.args.key, kept) ∷ []) c.in_ok-place.ensures.ok
    (boxed_behind objects after c.args.key c.in_ok-place.place c.in_ok-insert.ensures.entries below)

pub returns-clause-put : goal.returns-clause-put
returns-clause-put g c =
    let objects = c.args.map.now.entries in
    let after = c.insert.new.self.entries in
    subst (λ (kept : Kept _). PutsAt (unboxed objects) c.args.key kept (unboxed after)) c.in_ok-place.ensures.ok
    (puts_unboxed objects after c.args.key c.in_ok-place.place (put_at objects after c.args.key c.in_ok-place.place c.in_ok-insert.ensures.updates.0))
