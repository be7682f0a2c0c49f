use Rattle.std.proofs.Common.{rules, ◌≡◌, ◌∙◌, Some, true, sym, subst}
use Rattle.version_store.specs.Versions.{inode_in}
use Rattle.drive.specs.Fields.{state_in, store_of}
use Rattle.history_view.specs.Listing.{is_visible, is_listed, IsListedAt}
use Rattle.history_view.proofs.Shown.{listed_is_there}
use Rattle.history_view.proofs.listing.look_at.Goals as goal

pub returns-clause-some : goal.returns-clause-some
returns-clause-some g c =
    let s = state_in c.args.drive.now in
    let store = store_of c.args.drive.now in
    let shown : is_visible s c.args.object c.args.at ≡ true = search rules in
    let there : is_listed c.args.deleted c.in-Some.inode ≡ true = search rules in
    let found : inode_in store c.args.object c.args.at ≡ Some c.in-Some.inode = sym c.inode_at.ensures.inode ∙ c.in-Some.is in
    subst (IsListedAt s store c.args.deleted c.args.at c.args.object) (sym c.listed_of.ensures)
    (listed_is_there s store c.args.deleted c.args.object c.args.at c.in-Some.inode c.rules.ensures.decodes shown found there)
