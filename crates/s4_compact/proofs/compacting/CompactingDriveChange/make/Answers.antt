use Rattle.std.proofs.Common.{◌≡◌, ◌∙◌, ap, refl, subst, sym}
use Rattle.std.proofs.lemmas.Result.{on_ok_weaker}
use Rattle.drive.specs.Fields.{DriveFields, store_of}
use Rattle.drive_compaction.specs.declared.compacting.Compaction.{Compaction}
use Rattle.drive_compaction.specs.Holding.{data_blocks}
use Rattle.drive_compaction.specs.Past.{IsPast}
use Rattle.s4_compact.specs.declared.trying.Trial.{Trial}
use Rattle.s4_compact.specs.declared.ways.Way.{Way}
use Rattle.s4_compact.proofs.Finished.{no_fewer, more, holds, needed}
use Rattle.s4_compact.proofs.Tried.{enough}
use Rattle.s4_compact.proofs.compacting.CompactingDriveChange.make.Goals as goal

pub returns : goal.returns
returns g c =
    let way : Way = c.args.self.now.way in
    let trial : Trial = c.in-Some.trial in
    let d : DriveFields = c.args.drive.now in
    let between : DriveFields = c.compact_drive.new.drive in
    let since : DriveFields = c.finish.new.drive in
    let later : DriveFields = c.past_blocks.new.drive in
    let alike : c.data_blocks.new.drive ≡ since = c.data_blocks.ensures.same ∙ c.as_left-compaction.ensures.same in
    let same : store_of later ≡ store_of since = c.past_blocks.ensures.store ∙ ap store_of alike in
    let ended : later.ledger ≡ since.ledger = c.past_blocks.ensures.ledger ∙ ap (λ (x : DriveFields). x.ledger) alike in
    record {
      changes = on_ok_weaker c.write_report.result
          (λ wrote. record {
            trial = trial;
            tried = sym c.trial_of.ensures ∙ c.in-Some.is;
            by = record {
              report = record { cleans = c.cleans.result; compaction = c.as_left-compaction.result; pass = trial.pass; data_blocks = c.data_blocks.result; past = c.past_blocks.result };
              cleans = c.cleans.ensures;
              pass_is = refl;
              between = between;
              compaction = c.in_ok-compaction.compaction;
              is = c.in_ok-compaction.ensures.compacted;
              since = since;
              finishes = c.in_ok-finish.ensures.finishes;
              left = c.as_left-compaction.ensures.left;
              held = c.data_blocks.ensures.data ∙ ap (λ (x : DriveFields). data_blocks x.store.table) c.as_left-compaction.ensures.same;
              past = subst (λ (x : DriveFields). IsPast x c.past_blocks.result) alike c.past_blocks.ensures.past;
              same = same;
              ledger = ended ∙ c.finish.ensures.ledger ∙ c.compact_drive.ensures.ledger;
              needed = needed d between since (store_of later) c.compact_drive.ensures.ledger c.compact_drive.ensures.needed c.finish.ensures.needed same;
              no_fewer = no_fewer way trial.pass d between since later c.in_ok-compaction.compaction c.in_ok-compaction.ensures.compacted c.in_ok-finish.ensures.finishes same;
              more = more way trial.pass d between since later c.in_ok-compaction.compaction c.in_ok-compaction.ensures.compacted c.in_ok-finish.ensures.finishes same;
              holds = holds trial.pass d between since later c.compact_drive.ensures.ledger ended same c.in_ok-finish.ensures.finishes;
              wrote = wrote;
            };
            enough = enough way c.args.self.now.found.now c.as_left-compaction.result.left_after (store_of since) (store_of later)
                (sym c.is_enough.ensures ∙ c.if-not-is_enough.false)
                (ap (λ (x : Compaction). x.left_after) c.as_left-compaction.ensures.left) same;
          })
          c.write_report.ensures.text;
    }
