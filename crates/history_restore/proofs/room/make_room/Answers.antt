use Rattle.std.proofs.Common.{◌≡◌, sym, ap, subst}
use Rattle.std.proofs.lemmas.Result.{on_ok_weaker}
use Rattle.s4_model.specs.State.{State, state_of}
use Rattle.segment_word.specs.AcceptViews.{Ledger}
use Rattle.drive.specs.Fields.{state_in, store_of}
use Rattle.history_cleaner.specs.Cleaning.{IsClean}
use Rattle.history_restore.proofs.room.make_room.Goals as goal

pub returns-clause-clean : goal.returns-clause-clean
returns-clause-clean g c =
    let later = c.clean_object.new.drive in
    let middle = state_in c.flush.new.drive in
    let same : state_in later ≡ middle = ap (λ (l : Ledger). state_of l.history) c.clean_object.ensures.ledger in
    on_ok_weaker c.clean_object.result (λ (clean : IsClean (store_of later) middle c.args.object). subst (λ (k : State). IsClean (store_of later) k c.args.object) (sym same) clean) c.clean_object.ensures.clean
