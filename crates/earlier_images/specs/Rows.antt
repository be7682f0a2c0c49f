-- When the chains of an image of an earlier version keep the rules.
use Rattle.std.specs.Prelude.{List}
use Rattle.codec.specs.declared.versions.ImageVersion.{ImageVersion}
use Rattle.image_parts.specs.Image.{Image}
use Rattle.image_objects.specs.declared.rows.ImageRow.{ImageRow}
use Rattle.image_objects.specs.Versions.{RowsStandBy}
use Rattle.verifier.specs.Rows.{SpellRows}
use Rattle.earlier_images.specs.declared.frames.EarlierFrame.{EarlierFrame}
use Rattle.earlier_images.specs.Used.{AreFramesOf, used_in}

-- The chains of an image of an earlier version keep the rules: the rows that its bytes encode all do, up to its clock, over the used
-- blocks of its frames.
pub record EarlierChainsStand (version : ImageVersion) (image : Image) : Type 0 where
  pub frames : List EarlierFrame
  pub read : AreFramesOf image.frames frames
  pub rows : List ImageRow
  pub spelled : SpellRows image.rows rows
  pub stand : RowsStandBy version (used_in frames) rows image.clock
