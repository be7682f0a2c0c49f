-- Versions that are alike.
use Rattle.std.proofs.Common.{◌≡◌, ap}
use Rattle.s4_types.specs.declared.versions.Version.{Version}
use Rattle.s4_model.specs.Refusals.{is_absent}
use Rattle.history_view.specs.Contents.{attribute_of, content_of}
use Rattle.history_diff.specs.Differences.{AreAlike}

-- versions that are one are alike
pub same_are_alike : (v w : Version) → v ≡ w → AreAlike v w
same_are_alike v w same = record { presence = ap is_absent same; content = ap content_of same; attribute = ap attribute_of same }
