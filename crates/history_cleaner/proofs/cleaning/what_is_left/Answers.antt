use Rattle.std.proofs.Common.{◌≡◌}
use Rattle.std.proofs.lemmas.Result.{IfOk-weaker}
use Rattle.chain_rewriting.specs.Cleaned.{cleaned}
use Rattle.drive.specs.Fields.{state_in, store_of}
use Rattle.history_cleaner.specs.Sight.{is_seen_between}
use Rattle.history_cleaner.specs.private.Reading.{IsLeft}
use Rattle.history_cleaner.proofs.Putting.{IsRead, is_read, can_clean, is_left}
use Rattle.history_cleaner.proofs.cleaning.what_is_left.Goals as goal

pub clean-requires : goal.clean-requires
clean-requires g c =
    let d = c.args.drive.now in
    let read : IsRead (store_of d) (state_in d) c.args.object c.args.present.now c.args.entries.now = is_read (store_of d) (state_in d) c.args.object c.args.present.now c.args.entries.now c.rules.ensures.store c.rules.ensures.past c.each_is_an_entry.ensures.rules c.each_is_an_entry.ensures.few c.requires.present c.requires.entries in
    can_clean c.a_stored_chain_is_a_chain.ensures (store_of d) (state_in d) c.args.object c.clock.result c.args.present.now c.undo_all.new.inode c.args.entries.now read c.undo_all.ensures.exact c.clock.ensures

pub returns-clause-left : goal.returns-clause-left
returns-clause-left g c =
    let d = c.args.drive.now in
    let read : IsRead (store_of d) (state_in d) c.args.object c.args.present.now c.args.entries.now = is_read (store_of d) (state_in d) c.args.object c.args.present.now c.args.entries.now c.rules.ensures.store c.rules.ensures.past c.each_is_an_entry.ensures.rules c.each_is_an_entry.ensures.few c.requires.present c.requires.entries in
    IfOk-weaker c.clean.result (λ made. made ≡ cleaned (is_seen_between (state_in d) c.args.object) c.clock.result c.undo_all.new.inode c.args.entries.now) (IsLeft (store_of d) (state_in d) c.args.object c.args.entries.now)
    (λ made exact. is_left (store_of d) (state_in d) c.args.object c.clock.result c.args.present.now c.undo_all.new.inode c.args.entries.now made read c.undo_all.ensures.exact c.clock.ensures exact)
    c.clean.ensures.exact
