use Rattle.std.proofs.Common.{ℕ, List, length, ap, subst, sym, ◌∙◌}
use Rattle.s4_types.specs.History.{Seen}
use Rattle.s4_model.specs.State.{grown}
use Rattle.kept_drive.specs.Images.{IsImageOf}
use Rattle.kept_drive.proofs.FlushedLemmas.{flushed_later}
use Rattle.kept_drive.proofs.preparing.prepare.Goals as goal

pub returns-clause-flushed : goal.returns-clause-flushed
returns-clause-flushed g c =
    let of = c.in_ok-collected.ensures.collected in
    record {
      history = of.history;
      had = of.had;
      is = record {
        begins = of.begins;
        met = of.met;
        sound = of.is.sound;
        fits = of.is.fits;
        ahead_of = of.is.ahead_of;
        image = subst (λ (bytes : List ℕ). IsImageOf (grown of.history (Seen c.in_ok-collected.collected.reach)) bytes) (sym {A = List ℕ} c.in_ok-push_digest.ensures.items) of.is.image;
      };
    }

pub returns-clause-number : goal.returns-clause-number
returns-clause-number g c = let of = c.in_ok-collected.ensures.collected in of.is.number ∙ ap length of.met

pub returns-clause-later : goal.returns-clause-later
returns-clause-later g c = let flushed = returns-clause-flushed g c in flushed_later flushed.history _ _ _ _ _ flushed.is
