-- What a dry run prints.
use Rattle.std.proofs.Common.{ℕ, List, Option, inl, inr}
use Rattle.history_restore.specs.declared.aims.StandIn.{StandIn}
use Rattle.s4_command.specs.declared.restoring.RestoreAsked.{RestoreAsked}
use Rattle.s4_restore.specs.Images.{PrintsSo, WouldRestoreImage}

pub prints : (known known' : Option (List ℕ)) (restore : RestoreAsked) (stand_ins : List StandIn) (output output' : Option (List ℕ)) (would : WouldRestoreImage known restore stand_ins output output')
    → PrintsSo known known' restore stand_ins would.order output output'
prints known known' restore stand_ins output output' would =
    let over = would.shows in
    record {
      drive = over.drive;
      told = over.told;
      later = over.holds.later;
      left = λ idle kept. record { order = would.order; asks = would.asks; done = inl (record { idle = idle; kept = kept; shows = over }) };
      replaced = λ busy bytes saved kept. record {
        order = would.order;
        asks = would.asks;
        done = inr (record {
          busy = busy;
          changes = record { drive = over.drive; told = over.told; later = over.holds.later; changes = over.holds.restores; bytes = bytes; saved = saved; kept = kept };
        });
      };
    }
