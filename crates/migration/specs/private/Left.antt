-- An image without the objects that a copy lacks. No public clause cites this file.
use Rattle.std.specs.Prelude.{List, length}
use Rattle.std.specs.List.{filter}
use Rattle.image_parts.specs.Image.{Image}
use Rattle.image_parts.specs.declared.rows.RowPart.{RowPart}
use Rattle.earlier_images.specs.Images.{EarlierFields}
use Rattle.migration.specs.declared.copying.CopyAsked.{CopyAsked}
use Rattle.migration.specs.Copies.{rows_left, stays}

-- the rows of the objects that are in the copy, as they are encoded
abbrev pub parts_left : CopyAsked → List RowPart → List RowPart
parts_left asked parts = filter (λ part. stays asked part.object part.created) parts

-- parts of an image with these rows alone
abbrev pub with_parts_left : CopyAsked → Image → Image
with_parts_left asked was = record was { rows = parts_left asked was.rows }

-- what was read of it, with these rows alone
abbrev pub with_left : CopyAsked → EarlierFields → EarlierFields
with_left asked image = record image { header = record image.header { rows = length (rows_left asked image.rows) }; rows = rows_left asked image.rows }
