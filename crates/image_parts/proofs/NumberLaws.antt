-- Numbers that are encoded are read, and numbers that are read are encoded.
use Rattle.std.proofs.Common.{◌≡◌, ℕ, ◌^◌, ◌<◌, ◌≤◌, List, ◌++◌, length, take, drop, refl, arith}
use Rattle.std.specs.Int.{w32, w64}
use Rattle.std.proofs.lemmas.List.{length-take}
use Rattle.std.proofs.lemmas.Nat.{be_bytes_8, from_be_bytes-to_be_bytes_8}
use Rattle.lemmas.proofs.Bytes.{bytes_before, IsBytes}
use Rattle.codec.specs.Fields.{number}
use Rattle.image_parts.specs.Header.{number_in}

pub long_again : (n : ℕ) (rest : List ℕ) → n < 2 ^ 64 → number_in w64 (number w64 n ++ rest) ≡ n
unfolding number number_in
long_again n rest lt = from_be_bytes-to_be_bytes_8 n lt

pub long_behind : (n : ℕ) (rest : List ℕ) → drop 8 (number w64 n ++ rest) ≡ rest
unfolding number
long_behind n rest = refl

pub long_back : (bytes : List ℕ) → IsBytes bytes → 8 ≤ length bytes → number w64 (number_in w64 bytes) ≡ take 8 bytes
unfolding number number_in
long_back bytes h le = be_bytes_8 (take 8 bytes) _ (omega (arith, length-take 8 bytes, le)) (bytes_before 8 bytes h) refl

pub long_below : (bytes : List ℕ) → IsBytes bytes → number_in w64 bytes < 2 ^ 64
unfolding number_in
long_below bytes h =
    let b = bytes_before 8 bytes h in
    omega (arith, b 0, b 1, b 2, b 3, b 4, b 5, b 6, b 7)

pub word_below : (bytes : List ℕ) → IsBytes bytes → number_in w32 bytes < 2 ^ 32
unfolding number_in
word_below bytes h =
    let b = bytes_before 4 bytes h in
    omega (arith, b 0, b 1, b 2, b 3)
