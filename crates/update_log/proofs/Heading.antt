-- What a header says is read.
use Rattle.std.proofs.Common.{◌≡◌, ◌≢◌, ◌⊎◌, inl, inr, ℕ, ◌^◌, ◌<◌, ◌≤◌, List, ◌++◌, length, take, drop, refl, sym, ap, ◌∙◌, arith, append_assoc, length-append}
use Rattle.std.proofs.lemmas.List.{drop_at, take_at}
use Rattle.std.proofs.lemmas.Nat.{from_be_bytes-to_be_bytes_8}
use Rattle.sha2.proofs.Facts256.{length-sha256}
use Rattle.sha2.specs.Sha256.{sha256}
use Rattle.update_log.specs.Headers.{HasNoHeader, IsHeader, header_bytes, header_front}
use Rattle.update_log.specs.Records.{long}
use Rattle.update_log.specs.Sectors.{zeros}
use Rattle.update_log.specs.Tails.{long_in}

after_magic : (image : List ℕ) (limit : ℕ) → drop 9 (header_bytes image limit) ≡ image ++ ((long limit ++ zeros 431) ++ sha256 (header_front image limit))
unfolding header_bytes header_front
after_magic image limit = append_assoc image (long limit ++ zeros 431) _

pub image_again : (image : List ℕ) (limit : ℕ) → length image ≡ 32 → take 32 (drop 9 (header_bytes image limit)) ≡ image
image_again image limit l = ap (λ (x : List ℕ). take 32 x) (after_magic image limit) ∙ take_at image _ 32 l

after_image : (image : List ℕ) (limit : ℕ) → length image ≡ 32 → drop 41 (header_bytes image limit) ≡ (long limit ++ zeros 431) ++ sha256 (header_front image limit)
unfolding header_bytes header_front
after_image image limit l = ap (λ (x : List ℕ). drop 32 x) (append_assoc image (long limit ++ zeros 431) _) ∙ drop_at image _ 32 l

pub limit_again : (image : List ℕ) (limit : ℕ) → length image ≡ 32 → limit < 2 ^ 64 → long_in (drop 41 (header_bytes image limit)) ≡ limit
unfolding long_in long
limit_again image limit l lt = ap (λ (x : List ℕ). long_in x) (after_image image limit l) ∙ from_be_bytes-to_be_bytes_8 limit lt

pub header_length : (image : List ℕ) (limit : ℕ) → length image ≡ 32 → length (header_bytes image limit) ≡ 512
unfolding header_bytes header_front long
header_length image limit l =
    omega (arith, length-append (header_front image limit) (sha256 (header_front image limit)), length-sha256 (header_front image limit), length-append image (long limit ++ zeros 431), l)

-- ---- one header

-- what the first sector says is what the file has a header of
module _ (file header image : List ℕ) (limit : ℕ) (cut : header ≡ take 512 file) (long : length image ≡ 32) (lt : length file < 2 ^ 64) (is : IsHeader image limit file) where
  pub header_is : header ≡ header_bytes image limit
  header_is = cut ∙ is.bytes

  pub image_is : take 32 (drop 9 header) ≡ image
  image_is = ap (λ (x : List ℕ). take 32 (drop 9 x)) header_is ∙ image_again image limit long

  pub limit_is : long_in (drop 41 header) ≡ limit
  limit_is = ap (λ (x : List ℕ). long_in (drop 41 x)) header_is ∙ limit_again image limit long (omega (arith, is.long, lt))

pub no_limit : (file header : List ℕ) (limit : ℕ) → header ≡ take 512 file → limit ≡ long_in (drop 41 header) → length file < 2 ^ 64 → (limit < 512) ⊎ (length file < limit) → HasNoHeader file
no_limit file header limit cut at lt bad image l long is =
    let same = limit_is file header image l cut long lt is in
    elim bad [
      | inl low ↦ omega (arith, low, at, same, is.room)
      | inr high ↦ omega (arith, high, at, same, is.long)
    ]

pub not_made : (file header image made : List ℕ) (limit : ℕ) → header ≡ take 512 file → image ≡ take 32 (drop 9 header) → limit ≡ long_in (drop 41 header) → length file < 2 ^ 64 → made ≡ header_bytes image limit → made ≢ header → HasNoHeader file
not_made file header image made limit cut named at lt is_made differs other l long is =
    differs (is_made ∙ ap (λ (x : List ℕ). header_bytes x limit) (named ∙ image_is file header other l cut long lt is) ∙ ap (λ (n : ℕ). header_bytes other n) (at ∙ limit_is file header other l cut long lt is) ∙ sym (header_is file header other l cut long lt is))

pub header_made : (file header image made : List ℕ) (limit : ℕ) → header ≡ take 512 file → made ≡ header_bytes image limit → made ≡ header → 512 ≤ limit → limit ≤ length file → IsHeader image limit file
header_made file header image made limit cut is_made same low high = record {
  bytes = sym cut ∙ sym same ∙ is_made;
  room = low;
  long = high;
}

-- a file has the header of one image
pub one_image : (file one other : List ℕ) (a b : ℕ) → length one ≡ 32 → length other ≡ 32 → length file < 2 ^ 64 → IsHeader one a file → IsHeader other b file → one ≡ other
one_image file one other a b l m lt is also = sym (image_is file (take 512 file) one a refl l lt is) ∙ image_is file (take 512 file) other b refl m lt also

pub one_limit : (file one : List ℕ) (a b : ℕ) → length one ≡ 32 → length file < 2 ^ 64 → IsHeader one a file → IsHeader one b file → a ≡ b
one_limit file one a b l lt is also = sym (limit_is file (take 512 file) one a refl l lt is) ∙ limit_is file (take 512 file) one b refl l lt also
