-- That a file is a log in one way at most.
use Rattle.std.proofs.Common.{◌≡◌, ℕ, ◌^◌, ◌<◌, List, [], ◌∷◌, ◌++◌, length, refl, sym, ap, subst, ◌∙◌}
use Rattle.std.proofs.lemmas.List.{append-nil}
use Rattle.update_log.specs.declared.places.Place.{Place}
use Rattle.update_log.specs.Records.{Entry}
use Rattle.update_log.specs.Headers.{IsHeader, start}
use Rattle.update_log.specs.Logs.{Reaches, payloads_of, tail_of}
use Rattle.update_log.specs.Single.{IsOneLog}
use Rattle.update_log.specs.Tails.{IsOpen}
use Rattle.update_log.proofs.Following.{not_both, rest_reaches}
use Rattle.update_log.proofs.Heading.{one_image, one_limit}

-- no record is where a log's records end
none_after : (more : List Entry) (end last : Place) (f : List ℕ) → length f < 2 ^ 64 → IsOpen (tail_of end f) → Reaches more end f last → (more ≡ []) × (last ≡ end)
none_after [] end last f lt is r = (refl, r)
none_after (e ∷ more) end last f lt is r = absurd (not_both end e f r.0 lt is)

pub one_end : (es os : List Entry) (p end last : Place) (f : List ℕ) → length f < 2 ^ 64 → Reaches es p f end → IsOpen (tail_of end f) → Reaches os p f last → IsOpen (tail_of last f)
    → (os ≡ es) × (last ≡ end)
one_end es os p end last f lt r is s also =
    let rest = rest_reaches es os p f end last lt r s also in
    let none = none_after rest.0 end last f lt is rest.1.1 in
    (rest.1.0 ∙ ap (λ (more : List Entry). es ++ more) none.0 ∙ append-nil es, none.1)

same_start : (one other file : List ℕ) (a b : ℕ) → length file < 2 ^ 64 → length one ≡ 32 → length other ≡ 32 → IsHeader one a file → IsHeader other b file
    → (other ≡ one) × (start other b ≡ start one a)
same_start one other file a b lt l m is also =
    let image = one_image file other one b a m l lt also is in
    let limit = one_limit file one b a l lt (subst (λ (i : List ℕ). IsHeader i b file) image also) is in
    (image, rw (image, limit) refl)

pub one_log : IsOneLog
one_log file one other payloads others end last lt l m is also =
    let log = is.1.1 in
    let second = also.1.1 in
    let first = same_start one other file log.limit second.limit lt l m log.header second.header in
    let ends = one_end is.0 also.0 (start one log.limit) end last file lt log.records log.ended (subst (λ (p : Place). Reaches also.0 p file last) first.1 second.records) second.ended in
    record {
      same_image = first.0;
      same_payloads = sym also.1.0 ∙ ap payloads_of ends.0 ∙ is.1.0;
      same_end = ends.1;
    }
