use Rattle.std.proofs.lemmas.Bool.{both_ways}
use Rattle.image_objects.proofs.Leading.{moments_of, version_chain_stands, first_is, no_beginning, run_of, order_of}
use Rattle.image_objects.specs.Versions.{present_used_by}
use Rattle.image_objects.proofs.version_chains.leading_inode.Goals as goal

pub is_orderly-requires-clause-moments : goal.is_orderly-requires-clause-moments
is_orderly-requires-clause-moments g c = moments_of c.args.version (g.U.UsedBlocks.used c.args.used.now) c.args.row.now c.args.clock c.args.entries.now c.requires.chain c.requires.entries

pub returns-in_default-clause-only : goal.returns-in_default-clause-only
returns-in_default-clause-only g c = no_beginning c.args.version (g.U.UsedBlocks.used c.args.used.now) c.args.row.now c.args.clock c.args.entries.now c.requires.entries c.in_default.ensures.only

pub returns-then-not-is_run-clause-only : goal.returns-then-not-is_run-clause-only
returns-then-not-is_run-clause-only g c = λ h.
    let used = g.U.UsedBlocks.used c.args.used.now in
    both_ways c.is_run.result c.if-not-is_run.true (c.is_run.ensures.only (present_used_by c.args.version used c.args.row.now) (run_of c.args.version used c.args.row.now c.args.clock c.args.entries.now c.in-Some.first c.requires.entries c.in-Some.ensures.first h))

pub returns-then-not-is_orderly-clause-only : goal.returns-then-not-is_orderly-clause-only
returns-then-not-is_orderly-clause-only g c = λ h.
    let used = g.U.UsedBlocks.used c.args.used.now in
    both_ways c.is_orderly.result c.if-not-is_orderly.true (c.is_orderly.ensures.only (order_of c.args.version used c.args.row.now c.args.clock c.args.entries.now c.in-Some.first c.requires.entries c.in-Some.ensures.first h))

pub returns-clause-stands : goal.returns-clause-stands
returns-clause-stands g c =
    version_chain_stands c.args.version (g.U.UsedBlocks.used c.args.used.now) c.args.row.now c.args.clock c.args.entries.now c.in-Some.first c.requires.chain c.requires.entries c.in-Some.ensures.stands c.in-Some.ensures.first (c.is_run.ensures.run c.if-not-is_run.false) (c.is_orderly.ensures.is c.if-not-is_orderly.false)

pub returns-clause-first : goal.returns-clause-first
returns-clause-first g c =
    first_is c.args.version (g.U.UsedBlocks.used c.args.used.now) c.args.row.now c.args.entries.now c.in-Some.first c.requires.entries c.in-Some.ensures.first
