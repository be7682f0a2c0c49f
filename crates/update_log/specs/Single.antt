-- That a file is a log in one way at most.
use Rattle.std.specs.Prelude.{◌≡◌, ℕ, ◌^◌, ◌<◌, List, length}
use Rattle.update_log.specs.declared.places.Place.{Place}
use Rattle.update_log.specs.Logs.{Accepts}

-- where a file is a log of two images, they are one, and it has the same payloads and the same end
pub record AreOne (one other : List ℕ) (payloads others : List (List ℕ)) (end last : Place) : Type 0 where
  pub same_image : other ≡ one
  pub same_payloads : others ≡ payloads
  pub same_end : last ≡ end

abbrev pub IsOneLog : Type 0
IsOneLog =
    (file one other : List ℕ) (payloads others : List (List ℕ)) (end last : Place) → length file < 2 ^ 64 → length one ≡ 32 → length other ≡ 32
    → Accepts one payloads file end → Accepts other others file last → AreOne one other payloads others end last
