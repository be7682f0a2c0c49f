use Rattle.version_store.specs.Store.{fields_of}
use Rattle.s4_model.specs.Effect.{object_of}
use Rattle.version_store.proofs.Present.{begins_tidy}
use Rattle.version_store.proofs.store.Store.count.Goals as goal

pub bytes_of_entries-requires-clause-size : goal.bytes_of_entries-requires-clause-size
bytes_of_entries-requires-clause-size g c =
    (begins_tidy c.requires.laws.fresh_inode c.requires.laws.blank_count c.requires.laws.blank_holes (fields_of g.B.Blocks.log c.args.self.now) (object_of c.args.change.now) c.args.moment c.args.inode.now c.requires.store c.requires.inode).size

pub bytes_of_entries-requires-clause-count : goal.bytes_of_entries-requires-clause-count
bytes_of_entries-requires-clause-count g c =
    (begins_tidy c.requires.laws.fresh_inode c.requires.laws.blank_count c.requires.laws.blank_holes (fields_of g.B.Blocks.log c.args.self.now) (object_of c.args.change.now) c.args.moment c.args.inode.now c.requires.store c.requires.inode).count
