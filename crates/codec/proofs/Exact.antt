-- Readers that read what is encoded and nothing else: single fields, and fields one after the other.
use Rattle.std.proofs.Common.{◌≡◌, ℕ, zero, suc, ◌^◌, ◌<◌, ◌≤◌, Bool, true, false, cond, ltb, eqb, List, [], ◌∷◌, ◌++◌, length, take, drop, Option, Some, None, refl, sym, ap, subst, ◌∙◌, arith}
use Rattle.std.specs.Int.{Width, w16, w32, w64, byte_len, from_be_bytes, to_be_bytes}
use Rattle.std.proofs.lemmas.Bool.{ltb-false, le-ltb, eqb-true}
use Rattle.std.proofs.lemmas.List.{take_at, drop_at, take-append-drop, length-append, length-take}
use Rattle.std.proofs.lemmas.Nat.{be_bytes_2, be_bytes_4, be_bytes_8, from_be_bytes-to_be_bytes_2, from_be_bytes-to_be_bytes_4, from_be_bytes-to_be_bytes_8}
use Rattle.std.proofs.lemmas.Option.{same_Some}
use Rattle.lemmas.proofs.Bytes.{bytes_before, bytes_rest, IsBytes}
use Rattle.codec.specs.Fields.{◌>>=◌, number, zeros, byte_at, number_at, bytes_at, zeros_at}

-- the value of a step that answered one
pub bind_some : {A B : Type 0} (o : Option A) (f : A → Option B) (y : B) → (o >>= f) ≡ Some y → (x : A) × (o ≡ Some x) × (f x ≡ Some y)
bind_some (Some x) f y e = (x, refl, e)
bind_some None f y e = absurd cc

-- after a test that gives up
pub passed : {A : Type 0} (b : Bool) (x : Option A) (y : A) → cond b None x ≡ Some y → (b ≡ false) × (x ≡ Some y)
passed true x y e = absurd cc
passed false x y e = (refl, e)

pub held : {A : Type 0} (b : Bool) (x : Option A) (y : A) → cond b x None ≡ Some y → (b ≡ true) × (x ≡ Some y)
held true x y e = (refl, e)
held false x y e = absurd cc

-- ---- one field

-- A field is read exactly where it is encoded, and what fits is encoded.
pub record IsField {A : Type 0} (read : List ℕ → Option (A × List ℕ)) (write : A → List ℕ) (Fits : A → Type 0) : Type 0 where
  pub whole : (bytes : List ℕ) (x : A × List ℕ) → IsBytes bytes → read bytes ≡ Some x → bytes ≡ write x.0 ++ x.1
  pub fits : (bytes : List ℕ) (x : A × List ℕ) → IsBytes bytes → read bytes ≡ Some x → Fits x.0
  pub again : (a : A) (rest : List ℕ) → Fits a → read (write a ++ rest) ≡ Some (a, rest)

record IsWide (w : Width) (limit : ℕ) : Type 0 where
  len : (n : ℕ) → length (to_be_bytes w n) ≡ byte_len w
  back : (bytes : List ℕ) → length bytes ≡ byte_len w → IsBytes bytes → to_be_bytes w (from_be_bytes w bytes) ≡ bytes
  same : (n : ℕ) → n < limit → from_be_bytes w (to_be_bytes w n) ≡ n
  below : (bytes : List ℕ) → IsBytes bytes → from_be_bytes w bytes < limit

wide_short : IsWide w16 (2 ^ 16)
wide_short = record {
  len = λ n. refl;
  back = λ bytes len h. be_bytes_2 bytes _ len h refl;
  same = λ n lt. from_be_bytes-to_be_bytes_2 n lt;
  below = λ bytes h. omega (arith, h 0, h 1);
}

wide_word : IsWide w32 (2 ^ 32)
wide_word = record {
  len = λ n. refl;
  back = λ bytes len h. be_bytes_4 bytes _ len h refl;
  same = λ n lt. from_be_bytes-to_be_bytes_4 n lt;
  below = λ bytes h. omega (arith, h 0, h 1, h 2, h 3);
}

wide_long : IsWide w64 (2 ^ 64)
wide_long = record {
  len = λ n. refl;
  back = λ bytes len h. be_bytes_8 bytes _ len h refl;
  same = λ n lt. from_be_bytes-to_be_bytes_8 n lt;
  below = λ bytes h. omega (arith, h 0, h 1, h 2, h 3, h 4, h 5, h 6, h 7);
}

number_takes : (w : Width) (limit : ℕ) → IsWide w limit → (bytes : List ℕ) (x : ℕ × List ℕ) → IsBytes bytes → number_at w bytes ≡ Some x → (bytes ≡ number w x.0 ++ x.1) × (x.0 < limit)
unfolding number_at number
number_takes w limit wide bytes x h e =
    let p = passed (ltb (length bytes) (byte_len w)) (Some (from_be_bytes w (take (byte_len w) bytes), drop (byte_len w) bytes)) x e in
    let enough : byte_len w ≤ length bytes = ltb-false _ _ p.0 in
    let front = bytes_before (byte_len w) bytes h in
    let parts : bytes ≡ to_be_bytes w (from_be_bytes w (take (byte_len w) bytes)) ++ drop (byte_len w) bytes =
    rw (wide.back (take (byte_len w) bytes) (omega (arith, length-take (byte_len w) bytes)) front) (sym (take-append-drop (byte_len w) bytes)) in
    subst (λ (y : ℕ × List ℕ). (bytes ≡ to_be_bytes w y.0 ++ y.1) × (y.0 < limit)) (same_Some _ _ p.1) (parts, wide.below (take (byte_len w) bytes) front)

number_again : (w : Width) (limit : ℕ) → IsWide w limit → (n : ℕ) (rest : List ℕ) → n < limit → number_at w (number w n ++ rest) ≡ Some (n, rest)
unfolding number_at number
number_again w limit wide n rest lt =
    let len = wide.len n in
    let enough : ltb (length (to_be_bytes w n ++ rest)) (byte_len w) ≡ false = le-ltb _ _ (omega (arith, length-append (to_be_bytes w n) rest)) in
    rw (enough, take_at (to_be_bytes w n) rest (byte_len w) len, drop_at (to_be_bytes w n) rest (byte_len w) len, wide.same n lt) refl

number_field : (w : Width) (limit : ℕ) → IsWide w limit → IsField (number_at w) (number w) (λ n. n < limit)
number_field w limit wide = record {
  whole = λ bytes x h e. (number_takes w limit wide bytes x h e).0;
  fits = λ bytes x h e. (number_takes w limit wide bytes x h e).1;
  again = number_again w limit wide;
}

pub short_field : IsField (number_at w16) (number w16) (λ n. n < 2 ^ 16)
short_field = number_field w16 (2 ^ 16) wide_short

pub word_field : IsField (number_at w32) (number w32) (λ n. n < 2 ^ 32)
word_field = number_field w32 (2 ^ 32) wide_word

pub long_field : IsField (number_at w64) (number w64) (λ n. n < 2 ^ 64)
long_field = number_field w64 (2 ^ 64) wide_long

byte_whole : (bytes : List ℕ) (x : ℕ × List ℕ) → IsBytes bytes → byte_at bytes ≡ Some x → bytes ≡ (x.0 ∷ []) ++ x.1
byte_whole [] x h e = absurd cc
byte_whole (b ∷ rest) x h e = let same : (b, rest) ≡ x = same_Some _ _ e in ap (λ (y : ℕ × List ℕ). y.0 ∷ y.1) same

byte_fits : (bytes : List ℕ) (x : ℕ × List ℕ) → IsBytes bytes → byte_at bytes ≡ Some x → x.0 < 256
byte_fits [] x h e = absurd cc
byte_fits (b ∷ rest) x h e = let same : (b, rest) ≡ x = same_Some _ _ e in subst (λ (y : ℕ × List ℕ). y.0 < 256) same (h 0)

pub byte_field : IsField byte_at (λ b. b ∷ []) (λ b. b < 256)
byte_field = record { whole = byte_whole; fits = byte_fits; again = λ b rest lt. refl }

bytes_takes : (n : ℕ) (bytes : List ℕ) (x : List ℕ × List ℕ) → IsBytes bytes → bytes_at n bytes ≡ Some x → (bytes ≡ x.0 ++ x.1) × (length x.0 ≡ n)
unfolding bytes_at
bytes_takes n bytes x h e =
    let p = passed (ltb (length bytes) n) (Some (take n bytes, drop n bytes)) x e in
    let enough : n ≤ length bytes = ltb-false _ _ p.0 in
    subst (λ (y : List ℕ × List ℕ). (bytes ≡ y.0 ++ y.1) × (length y.0 ≡ n)) (same_Some _ _ p.1) (sym (take-append-drop n bytes), omega (arith, length-take n bytes))

bytes_again : (n : ℕ) (b rest : List ℕ) → length b ≡ n → bytes_at n (b ++ rest) ≡ Some (b, rest)
unfolding bytes_at
bytes_again n b rest len =
    let enough : ltb (length (b ++ rest)) n ≡ false = le-ltb _ _ (omega (arith, length-append b rest)) in
    rw (enough, take_at b rest n len, drop_at b rest n len) refl

pub bytes_field : (n : ℕ) → IsField (bytes_at n) (λ b. b) (λ b. length b ≡ n)
bytes_field n = record {
  whole = λ bytes x h e. (bytes_takes n bytes x h e).0;
  fits = λ bytes x h e. (bytes_takes n bytes x h e).1;
  again = bytes_again n;
}

zeros_whole : (n : ℕ) (bytes : List ℕ) (x : Unit {0} × List ℕ) → zeros_at n bytes ≡ Some x → bytes ≡ zeros n ++ x.1
unfolding zeros_at zeros
zeros_whole zero bytes x e = ap (λ (y : Unit {0} × List ℕ). y.1) (same_Some _ _ e)
zeros_whole (suc n) [] x e = absurd cc
zeros_whole (suc n) (b ∷ bytes) x e =
    let p = held (eqb b 0) (zeros_at n bytes) x e in
    let nought : b ≡ 0 = eqb-true b 0 p.0 in
    rw nought (ap (λ (rest : List ℕ). 0 ∷ rest) (zeros_whole n bytes x p.1))

zeros_again : (n : ℕ) (u : Unit {0}) (rest : List ℕ) → zeros_at n (zeros n ++ rest) ≡ Some (u, rest)
unfolding zeros_at zeros
zeros_again zero u rest = refl
zeros_again (suc n) u rest = zeros_again n u rest

pub zeros_field : (n : ℕ) → IsField (zeros_at n) (λ _. zeros n) (λ _. Unit {0})
zeros_field n = record {
  whole = λ bytes x h e. zeros_whole n bytes x e;
  fits = λ bytes x h e. tt;
  again = λ u rest _. zeros_again n u rest;
}

-- ---- fields one after the other

-- reads exactly what says a value
pub record Exact {R : Type 0} (read : List ℕ → Option R) (Says : List ℕ → R → Type 0) : Type 0 where
  pub found : (bytes : List ℕ) (r : R) → IsBytes bytes → read bytes ≡ Some r → Says bytes r
  pub again : (bytes : List ℕ) (r : R) → Says bytes r → read bytes ≡ Some r

-- a field, and what it says after it
pub record Then {A R : Type 0} (write : A → List ℕ) (Fits : A → Type 0) (Says : A → List ℕ → R → Type 0) (bytes : List ℕ) (r : R) : Type 0 where
  pub value : A
  pub rest : List ℕ
  pub fits : Fits value
  pub whole : bytes ≡ write value ++ rest
  pub after : Says value rest r

-- a value that is made, and the bytes after it
pub record Made {A : Type 0} (made : Option A) (bytes : List ℕ) (r : A × List ℕ) : Type 0 where
  pub is : made ≡ Some r.0
  pub rest : bytes ≡ r.1

module _ {A R : Type 0} {read : List ℕ → Option (A × List ℕ)} {write : A → List ℕ} {Fits : A → Type 0} (field : IsField read write Fits) where
  then_found : (k : A → List ℕ → Option R) (Says : A → List ℕ → R → Type 0) → ((a : A) → Exact (k a) (Says a)) → (bytes : List ℕ) (r : R) → IsBytes bytes → (read bytes >>= λ x. k x.0 x.1) ≡ Some r → Then write Fits Says bytes r
  then_found k Says behind bytes r h e =
      let s = bind_some (read bytes) (λ x. k x.0 x.1) r e in
      let parts = field.whole bytes s.0 h s.1 in
      record { value = s.0.0; rest = s.0.1; fits = field.fits bytes s.0 h s.1; whole = parts; after = (behind s.0.0).found s.0.1 r (bytes_rest (write s.0.0) s.0.1 bytes parts h) s.2 }

  then_again : (k : A → List ℕ → Option R) (Says : A → List ℕ → R → Type 0) → ((a : A) → Exact (k a) (Says a)) → (bytes : List ℕ) (r : R) → Then write Fits Says bytes r → (read bytes >>= λ x. k x.0 x.1) ≡ Some r
  then_again k Says behind bytes r s =
      ap (λ (o : Option (A × List ℕ)). o >>= λ x. k x.0 x.1) (ap read s.whole ∙ field.again s.value s.rest s.fits) ∙ (behind s.value).again s.rest r s.after

  pub then_exact : {k : A → List ℕ → Option R} {Says : A → List ℕ → R → Type 0} → ((a : A) → Exact (k a) (Says a)) → Exact (λ bytes. read bytes >>= λ x. k x.0 x.1) (Then write Fits Says)
  then_exact {k} {Says} behind = record { found = then_found k Says behind; again = then_again k Says behind }

made_found : {A : Type 0} (made : Option A) (bytes : List ℕ) (r : A × List ℕ) → IsBytes bytes → (made >>= λ a. Some (a, bytes)) ≡ Some r → Made made bytes r
made_found made bytes r h e =
    let s = bind_some made (λ a. Some (a, bytes)) r e in
    let same : (s.0, bytes) ≡ r = same_Some _ _ s.2 in
    record { is = s.1 ∙ ap (λ (y : _ × List ℕ). Some y.0) same; rest = ap (λ (y : _ × List ℕ). y.1) same }

made_again : {A : Type 0} (made : Option A) (bytes : List ℕ) (r : A × List ℕ) → Made made bytes r → (made >>= λ a. Some (a, bytes)) ≡ Some r
made_again made bytes r s = rw (s.is, s.rest) refl

pub made_exact : {A : Type 0} (made : Option A) → Exact (λ bytes. made >>= λ a. Some (a, bytes)) (Made made)
made_exact made = record { found = made_found made; again = made_again made }
