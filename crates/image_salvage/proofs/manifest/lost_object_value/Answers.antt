use Rattle.image_salvage.proofs.manifest.lost_object_value.Goals as goal

pub returns : goal.returns
returns c = c.object_of.ensures _ (c.with_number.ensures _ _ c.no_members.ensures c.number.ensures)
