use Rattle.std.proofs.Common.{rules, ◌≡◌, ◌≤◌, ◌⊎◌, ◌∙◌, inl, inr, sym, ap, subst, arith}
use Rattle.s4_types.specs.declared.refusals.Refusal.TheVariants.{NoMemory}
use Rattle.drive.specs.Fields.{DriveFields, store_of}
use Rattle.drive_compaction.specs.Compacting.{blocks_left}
use Rattle.drive_compaction.specs.Emptying.{FindsReader}
use Rattle.drive_compaction.specs.Passing.{IsPassed}
use Rattle.drive_compaction.proofs.LeftAhead.{no_less}
use Rattle.drive_compaction.proofs.passing.pass_over.Goals as goal

pub returns-then-blocks_left-before-clause-passed : goal.returns-then-blocks_left-before-clause-passed
returns-then-blocks_left-before-clause-passed g c =
    let d : DriveFields = c.args.drive.now in
    let begun : DriveFields = c.blocks_left-before.new.drive in
    let later : DriveFields = c.blocks_left.new.drive in
    let ended : IsPassed begun c.full_pass.new.drive = record { cleaned = c.in-Ok.ensures.cleaned; holds = c.in-Ok.ensures.promise; vacated = c.in-Ok.ensures.vacated } in
    let now : c.blocks_left.result ≡ blocks_left (store_of later) = c.blocks_left.ensures.left ∙ ap (λ (x : DriveFields). blocks_left (store_of x)) (sym c.blocks_left.ensures.same) in
    record {
      passed = subst (λ (x : DriveFields). IsPassed x later) c.blocks_left-before.ensures.same (subst (λ (x : DriveFields). IsPassed begun x) (sym c.blocks_left.ensures.same) ended);
      fewer = omega (arith, now, c.blocks_left-before.ensures.left, c.if-blocks_left-before.true);
    }

pub returns-else-blocks_left-before-clause-passed : goal.returns-else-blocks_left-before-clause-passed
returns-else-blocks_left-before-clause-passed g c =
    let d : DriveFields = c.args.drive.now in
    let begun : DriveFields = c.blocks_left-before.new.drive in
    let later : DriveFields = c.blocks_left.new.drive in
    let ended : IsPassed begun c.full_pass.new.drive = record { cleaned = c.in-Ok.ensures.cleaned; holds = c.in-Ok.ensures.promise; vacated = c.in-Ok.ensures.vacated } in
    let now : c.blocks_left.result ≡ blocks_left (store_of later) = c.blocks_left.ensures.left ∙ ap (λ (x : DriveFields). blocks_left (store_of x)) (sym c.blocks_left.ensures.same) in
    let no_fewer : blocks_left (store_of d) ≤ blocks_left (store_of later) = omega (arith, now, c.blocks_left-before.ensures.left, c.if-blocks_left-before.false) in
    record {
      passed = subst (λ (x : DriveFields). IsPassed x later) c.blocks_left-before.ensures.same (subst (λ (x : DriveFields). IsPassed begun x) (sym c.blocks_left.ensures.same) ended);
      no_fewer = no_fewer;
      more = no_less (store_of d) (store_of later) no_fewer;
    }

pub returns-in-Err : goal.returns-in-Err
returns-in-Err g c =
    let begun : DriveFields = c.blocks_left-before.new.drive in
    let why : (c.in-Err.refusal ≡ NoMemory) ⊎ FindsReader begun c.full_pass.new.drive c.in-Err.refusal = elim c.in-Err.ensures.refusal [
      | inl stopped ↦ search rules
      | inr reader ↦ inr (record { refusal = reader.refusal; since = reader.since; keeps = search rules; objects = reader.objects; reader = reader.reader })
    ] in
    record {
      passed = search rules;
      refusal = subst (λ (x : DriveFields). (c.in-Err.refusal ≡ NoMemory) ⊎ FindsReader x c.full_pass.new.drive c.in-Err.refusal) c.blocks_left-before.ensures.same why;
      ledger = search rules;
      needed = search rules;
    }
