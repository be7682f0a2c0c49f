use Rattle.object_map.proofs.Padded.{pushed_fits, pushed_is, pushed_all}
use Rattle.object_map.proofs.sides.Sides.push.Goals as goal

pub invariant_of-self : goal.invariant_of-self
invariant_of-self c =
    pushed_fits c.args.self.now c.as_slice-older.result.now c.staying-kept.result.now c.padded_with.result c.args.side c.as_slice-older.ensures.value c.as_slice-older.ensures.few c.staying-kept.ensures c.padded_with.ensures

pub returns-clause-sides : goal.returns-clause-sides
returns-clause-sides c =
    pushed_is c.args.self.now c.as_slice-older.result.now c.staying-kept.result.now c.padded_with.result c.args.side c.as_slice-older.ensures.value c.as_slice-older.ensures.few c.staying-kept.ensures c.padded_with.ensures

pub returns-clause-all : goal.returns-clause-all
returns-clause-all c =
    pushed_all c.args.self.now c.as_slice-older.result.now c.staying-kept.result.now c.padded_with.result c.args.side c.going.result
    c.as_slice-older.ensures.value c.as_slice-older.ensures.few c.staying-kept.ensures c.padded_with.ensures c.going.ensures
