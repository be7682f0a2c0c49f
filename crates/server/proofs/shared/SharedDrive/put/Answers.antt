use Rattle.std.proofs.Common.{sym, ap, subst, ◌∙◌, rules}
use Rattle.drive.specs.Fields.{DriveFields, history_of}
use Rattle.segment_word.specs.AcceptRule.{FitsLedger}
use Rattle.segment_word.specs.AcceptViews.{caught_up}
use Rattle.server.proofs.Sequence.{come_tended, same_count}
use Rattle.server.proofs.shared.SharedDrive.put.Goals as goal

-- a step of upkeep more
pub invariant_of-self : goal.invariant_of-self
invariant_of-self g c =
    let held = c.self.invariant in
    let ledger = c.commit.ensures.ledger ∙ ap (λ (d : DriveFields). d.ledger) c.meet.ensures.same in
    (come_tended _ _ _ _ _ _ _ held.0 c.requires ledger, same_count _ _ _ held.1 ledger)

pub returns : goal.returns
returns g c =
    let before : DriveFields = c.meet.new.self in
    let met = c.meet.ensures.same in
    record {
      before = before;
      after = c.commit.new.drive;
      met = record {
        begins = ap (λ (d : DriveFields). (history_of d).base) met ∙ c.rules.ensures.base;
        had_seen = subst (λ (d : DriveFields). FitsLedger d.ledger c.args.session.now.told) (sym met) c.meet.ensures.before;
        told = c.meet.ensures.session ∙ ap (λ (d : DriveFields). record c.args.session.now { told = caught_up d.ledger c.args.session.now.told }) (sym met);
        has_seen = c.meet.ensures.after;
      };
      puts = search rules;
    }
