-- What was given out of an image, as JSON.
use Rattle.std.specs.Prelude.{ℕ, List, codes}
use Rattle.serde_json.specs.Data.{Data, boolean, number, unsigned, object, member, no_members}
use Rattle.history_text.specs.Json.{json_line}
use Rattle.image_salvage.specs.declared.giving.GivenOut.{GivenOut}

-- the counts by their names, and whether the bytes are no image
abbrev pub given_data : GivenOut → Data
given_data g =
    object (member (codes "blocks_gone") (number (unsigned g.blocks_gone))
    (member (codes "damaged") (boolean g.damaged)
    (member (codes "left_out") (number (unsigned g.left_out))
    (member (codes "lost_frames") (number (unsigned g.lost_frames))
    (member (codes "lost_objects") (number (unsigned g.lost_objects))
    (member (codes "objects") (number (unsigned g.objects))
    (member (codes "unlisted") (number (unsigned g.unlisted)) no_members)))))))

-- the line of it
abbrev pub given_line : GivenOut → List ℕ
given_line g = json_line (given_data g)
