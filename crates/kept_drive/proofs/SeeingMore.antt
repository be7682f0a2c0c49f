-- What a session has seen after it met the drive.
use Rattle.std.proofs.Common.{◌≡◌, ◌∙◌, [], ap, refl, sym, append-nil}
use mathlib.Core.List.{IsPrefix}
use Rattle.segment_word.specs.AcceptViews.{Ledger, caught_up}
use Rattle.drive.specs.Fields.{SessionFields}
use Rattle.kept_drive.specs.Collecting.{HasSeenMore}

pub caught_up_more : (l : Ledger) (old new : SessionFields) → new ≡ record old { told = caught_up l old.told } → IsPrefix old.told.seen new.told.seen → HasSeenMore old new
caught_up_more l old new is more = record {
  more = more;
  rest = is ∙ sym (ap (λ (s : SessionFields). record old { told = record old.told { seen = s.told.seen } }) is);
}

pub no_more : (s : SessionFields) → HasSeenMore s s
no_more s = record { more = ([], append-nil s.told.seen); rest = refl }
