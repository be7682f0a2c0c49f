use Rattle.std.proofs.Common.{◌∙◌, ℕ, List, ap}
use Rattle.std.specs.Option.{option_map}
use Rattle.image_salvage.specs.Giving.{with_frames}
use Rattle.image_salvage.proofs.RowByRow.{gives_out}
use Rattle.image_salvage.proofs.NothingLost.{given_whole}
use Rattle.image_salvage.proofs.giving.give_out.Goals as goal

pub returns-clause-gives : goal.returns-clause-gives
returns-clause-gives g c =
    let files = g.F.Folder.files in
    let begun = files c.begin_folder.new.folder in
    gives_out c.args.image.now c.in_ok-given.given (files c.args.folder.now) begun (files c.tell_frames.new.folder) (files c.give_rows.new.folder) (files c.give_all_unlisted.new.folder) c.in_ok-begin_folder.ensures.empty
    c.in_ok-begin_folder.ensures.begun (c.in_ok-tell_frames.ensures.files ∙ ap (λ (lost : List ℕ). option_map (with_frames lost) begun) c.lost_frames.ensures) c.in_ok-given.ensures.gives c.in_ok-give_all_unlisted.ensures.files

pub returns-clause-whole : goal.returns-clause-whole
returns-clause-whole g c whole =
    let files = g.F.Folder.files in
    let begun = files c.begin_folder.new.folder in
    let first = files c.args.folder.now in
    let later = files c.give_all_unlisted.new.folder in
    given_whole c.args.image.now c.in_ok-given.given first later
    (gives_out c.args.image.now c.in_ok-given.given first begun (files c.tell_frames.new.folder) (files c.give_rows.new.folder) later c.in_ok-begin_folder.ensures.empty
    c.in_ok-begin_folder.ensures.begun (c.in_ok-tell_frames.ensures.files ∙ ap (λ (lost : List ℕ). option_map (with_frames lost) begun) c.lost_frames.ensures) c.in_ok-given.ensures.gives c.in_ok-give_all_unlisted.ensures.files)
    whole
