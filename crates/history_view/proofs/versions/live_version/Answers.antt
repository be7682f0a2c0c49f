use Rattle.std.proofs.Common.{rules, ◌≡◌, ◌∙◌, List, ℕ, ap}
use Rattle.s4_types.specs.declared.versions.Version.TheVariants.{Live}
use Rattle.history_view.proofs.versions.live_version.Goals as goal

pub returns-clause-version : goal.returns-clause-version
returns-clause-version g c =
    let inode = c.args.inode.now in
    let same : c.in-Ok.attribute ≡ inode.attribute = search rules in
    ap (λ (a : List ℕ). Live c.in_ok-bytes.bytes a inode.created inode.changed) same ∙ c.in_ok-bytes.ensures.whole
