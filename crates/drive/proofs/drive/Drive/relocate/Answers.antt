use Rattle.std.proofs.Common.{◌≡◌, ℕ, ◌==◌, cond, OnOk, option_map, subst}
use Rattle.segment_table.specs.Room.{log_of}
use Rattle.chain_rewriting.specs.Renaming.{renamed_inode}
use Rattle.version_store.specs.Store.{StoreFields, fields_of}
use Rattle.version_store.specs.Versions.{inode_in}
use Rattle.version_store.specs.Relocating.{renaming_by}
use Rattle.drive.specs.Fields.{DriveFields, store_of}
use Rattle.drive.proofs.drive.Drive.relocate.Goals as goal

pub returns-clause-inodes : goal.returns-clause-inodes
returns-clause-inodes g c =
    let later : StoreFields = fields_of log_of c.relocate.new.self in
    subst (λ (d : DriveFields). OnOk c.relocate.result ((q t : ℕ) → inode_in later q t
    ≡ cond (c.args.object == q) (option_map (renamed_inode (renaming_by c.args.copies.now (store_of d).log.ahead)) (inode_in (store_of d) q t)) (inode_in (store_of d) q t))) c.self.view_is c.relocate.ensures.inodes
