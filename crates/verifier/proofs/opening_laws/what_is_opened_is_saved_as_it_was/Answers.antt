use Rattle.verifier.proofs.opening_laws.what_is_opened_is_saved_as_it_was.Goals as goal

pub returns : goal.returns
returns c =
    λ bytes saved parts image opened d spells is has named again.
    c.one_image_a_drive.ensures d saved bytes again (c.an_image_spells_the_drive_opened_from_it.ensures bytes parts image opened d spells is has named)
