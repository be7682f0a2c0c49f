use Rattle.std.proofs.Common.{◌≡◌, ◌+◌, ◌-◌, Some, None, sym, ap, ◌∙◌, rules, arith}
use Rattle.s4_types.specs.declared.limits.TheConstants.{JOURNAL_ENTRY_BYTES}
use Rattle.codec.specs.Versions.{chain_blocks_by}
use Rattle.image_objects.specs.Versions.{journal_used_by}
use Rattle.image_objects.specs.private.Walked.{reached}
use Rattle.image_objects.proofs.Walking.{begins, arrives, too_long, breaks, on_good, on_bad}
use Rattle.image_objects.proofs.walk.entries_from.Goals as goal

pub loop-walk-init : goal.loop-walk-init
loop-walk-init g c =
    let blocks = journal_used_by c.args.version (g.U.UsedBlocks.used c.args.used.now) c.args.object in
    ap (λ n. reached c.args.version n blocks (JOURNAL_ENTRY_BYTES + 1) c.args.head c.new.result.items) c.chain_blocks-left.ensures.exact
    ∙ begins c.args.version (chain_blocks_by c.args.version) (JOURNAL_ENTRY_BYTES + 1) blocks c.args.head c.new.result.items c.new.ensures.items

pub returns-then-left-eq0-clause-exact : goal.returns-then-left-eq0-clause-exact
returns-then-left-eq0-clause-exact g c =
    let w = c.loop-walk.walk in
    too_long c.args.version c.loop-walk.left w.first_bytes (journal_used_by c.args.version (g.U.UsedBlocks.used c.args.used.now) c.args.object) c.in-Some.place w.previous w.entries.items _ c.if-left-eq0.true c.in-Some.is c.loop-walk.invariant

pub returns-in_default-read_journal_by-clause-exact : goal.returns-in_default-read_journal_by-clause-exact
returns-in_default-read_journal_by-clause-exact g c =
    let w = c.loop-walk.walk in
    let blocks = journal_used_by c.args.version (g.U.UsedBlocks.used c.args.used.now) c.args.object in
    let missing : c.read_journal_by.result ≡ None = search rules in
    let none : blocks c.in-Some.place ≡ None = sym c.read_journal_by.ensures.exact ∙ missing in
    breaks c.args.version c.loop-walk.left w.first_bytes blocks c.in-Some.place w.previous w.entries.items _ c.in-Some.is none c.loop-walk.invariant

pub returns-then-not-branch-clause-exact : goal.returns-then-not-branch-clause-exact
returns-then-not-branch-clause-exact g c =
    let w = c.loop-walk.walk in
    let blocks = journal_used_by c.args.version (g.U.UsedBlocks.used c.args.used.now) c.args.object in
    let there : blocks c.in-Some.place ≡ Some c.in-Some-read_journal_by.block = sym c.read_journal_by.ensures.exact ∙ c.in-Some-read_journal_by.is in
    on_bad c.loop-walk.left c.in_ok-take.field-0 (λ n. reached c.args.version n blocks w.first_bytes w.previous w.entries.items) _ _ (omega arith) (c.in_ok-take.ensures.goes (c.loop-walk.left - 1) blocks c.in-Some.place c.in-Some.is there) c.if-not-branch.true c.loop-walk.invariant

pub loop-walk-preserved : goal.loop-walk-preserved
loop-walk-preserved g c =
    let w = c.loop-walk.walk in
    let blocks = journal_used_by c.args.version (g.U.UsedBlocks.used c.args.used.now) c.args.object in
    let there : blocks c.in-Some.place ≡ Some c.in-Some-read_journal_by.block = sym c.read_journal_by.ensures.exact ∙ c.in-Some-read_journal_by.is in
    on_good c.loop-walk.left c.in_ok-take.field-0 (λ n. reached c.args.version n blocks w.first_bytes w.previous w.entries.items) _ _ (omega arith) (c.in_ok-take.ensures.goes (c.loop-walk.left - 1) blocks c.in-Some.place c.in-Some.is there) c.if-not-branch.false c.loop-walk.invariant

pub returns-clause-exact : goal.returns-clause-exact
returns-clause-exact g c =
    let w = c.loop-walk.walk in
    let none : w.previous ≡ None = search rules in
    ap Some c.reverse.ensures.items ∙ arrives c.args.version c.loop-walk.left w.first_bytes (journal_used_by c.args.version (g.U.UsedBlocks.used c.args.used.now) c.args.object) w.previous w.entries.items _ none c.loop-walk.invariant
