use Rattle.std.proofs.Common.{◌∙◌, sym, length}
use Rattle.codec.specs.Summary.{UnusedAreBlank}
use Rattle.codec.proofs.SummaryLaws.{head_only, unused_told, digest_told, block_found}
use Rattle.codec.proofs.summary_reading.decode_summary.Goals as goal

pub returns-in_default-clause-only : goal.returns-in_default-clause-only
returns-in_default-clause-only c = λ s h.
    let only = head_only c.args.payload.now c.args.block.now c.split_at.result.0.now c.split_at.result.1.now c.split_at.ensures.front c.split_at.ensures.back c.summary_in.result c.summary_in.ensures s h in
    sym c.in_default.is ∙ only

pub returns-then-not-are_unused_blank-clause-only : goal.returns-then-not-are_unused_blank-clause-only
returns-then-not-are_unused_blank-clause-only c = λ s h.
    let only = head_only c.args.payload.now c.args.block.now c.split_at.result.0.now c.split_at.result.1.now c.split_at.ensures.front c.split_at.ensures.back c.summary_in.result c.summary_in.ensures s h in
    let blank = unused_told c.args.payload.now c.args.block.now s c.in-Some.summary (sym c.in-Some.is ∙ only) h in
    absurd (c.if-not-are_unused_blank.ensures (rw c.roles.ensures.roles blank))

pub returns-then-not-is_digest-clause-only : goal.returns-then-not-is_digest-clause-only
returns-then-not-is_digest-clause-only c = λ s h.
    absurd (c.if-not-is_digest.ensures (digest_told c.args.payload.now c.args.block.now c.split_at.result.0.now c.split_at.result.1.now c.split_at.ensures.front c.split_at.ensures.back s h))

pub returns-clause-found : goal.returns-clause-found
returns-clause-found c =
    let blank : UnusedAreBlank (length c.in-Some.summary.roles) c.args.payload.now = rw (← c.roles.ensures.roles) c.if-not-are_unused_blank.ensures in
    block_found c.args.payload.now c.args.block.now c.split_at.result.0.now c.split_at.result.1.now c.split_at.ensures.front c.split_at.ensures.back c.in-Some.summary c.fits-block c.in-Some.ensures blank c.if-not-is_digest.ensures

pub returns-clause-only : goal.returns-clause-only
returns-clause-only c = λ s h.
    let only = head_only c.args.payload.now c.args.block.now c.split_at.result.0.now c.split_at.result.1.now c.split_at.ensures.front c.split_at.ensures.back c.summary_in.result c.summary_in.ensures s h in
    sym c.in-Some.is ∙ only
