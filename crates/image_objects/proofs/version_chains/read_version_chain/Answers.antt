use Rattle.std.proofs.Common.{◌≡◌, Option, None, subst, rules}
use Rattle.std.specs.Prelude.{IfSome, IfNone}
use Rattle.codec.specs.declared.versions.ImageVersion.TheVariants.{Second}
use Rattle.image_objects.specs.Read.{IsReadBy}
use Rattle.image_objects.specs.Versions.{VersionChainStandsBy}
use Rattle.image_objects.proofs.Seconds.{versions_are, versions_again}
use Rattle.image_objects.proofs.version_chains.read_version_chain.Goals as goal

pub with_chain_bytes-versions-requires : goal.with_chain_bytes-versions-requires
with_chain_bytes-versions-requires g c = (subst (λ (o : Option _). IfSome o (IsReadBy Second (g.U.UsedBlocks.used c.args.used.now) c.args.row.now)) c.in-Some.is c.in_ok-versions.ensures.read).most

pub returns-in_default-clause-only : goal.returns-in_default-clause-only
returns-in_default-clause-only g c = λ s.
    let used = g.U.UsedBlocks.used c.args.used.now in
    let row = c.args.row.now in
    let none : c.in_ok-versions.field-0 ≡ None = search rules in
    let only = subst (λ (o : Option _). IfNone o (VersionChainStandsBy Second used row c.args.clock → ⊥)) none c.in_ok-versions.ensures.only in
    only (versions_again used row c.args.clock s)

pub returns-clause-stands : goal.returns-clause-stands
returns-clause-stands g c =
    let used = g.U.UsedBlocks.used c.args.used.now in
    let row = c.args.row.now in
    versions_are used row c.args.clock (subst (λ (o : Option _). IfSome o (λ _. VersionChainStandsBy Second used row c.args.clock)) c.in-Some.is c.in_ok-versions.ensures.stands)

pub returns-clause-read : goal.returns-clause-read
returns-clause-read g c =
    let used = g.U.UsedBlocks.used c.args.used.now in
    let row = c.args.row.now in
    c.with_chain_bytes-versions.ensures used row (subst (λ (o : Option _). IfSome o (IsReadBy Second used row)) c.in-Some.is c.in_ok-versions.ensures.read)
