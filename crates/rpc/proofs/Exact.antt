-- Readers that read what is encoded, all of it and nothing else: of single fields, and of fields one after the other.
use Rattle.std.proofs.Common.{◌≡◌, ℕ, zero, suc, ◌^◌, ◌<◌, ◌≤◌, Bool, true, false, cond, ltb, List, [], ◌∷◌, ◌++◌, length, take, drop, Option, Some, None, refl, sym, ap, subst, ◌∙◌, arith}
use Rattle.std.specs.Prelude.{IfSome}
use Rattle.std.specs.Int.{Width, w16, w32, w64, byte_len, from_be_bytes, to_be_bytes}
use Rattle.std.proofs.lemmas.Bool.{ltb-false, le-ltb}
use Rattle.std.proofs.lemmas.List.{take_at, drop_at, take-append-drop, length-append, length-take, append-nil}
use Rattle.std.proofs.lemmas.Nat.{be_bytes_2, be_bytes_4, be_bytes_8, from_be_bytes-to_be_bytes_2, from_be_bytes-to_be_bytes_4, from_be_bytes-to_be_bytes_8}
use Rattle.lemmas.proofs.Bytes.{bytes_before, bytes_after, IsBytes}
use Rattle.rpc.specs.Spelling.{long, short, word, wire_text, at}
use Rattle.rpc.specs.private.Reading.{◌>>=◌, wire_number_at, wire_text_at, wire_moment_at, tail_at, ended_at}

pub bytes_behind : (b : ℕ) (bytes : List ℕ) → IsBytes (b ∷ bytes) → IsBytes bytes
bytes_behind b bytes h i = h (suc i)

-- the value of a step that answered one
pub bind_some : {A B : Type 0} (o : Option A) (f : A → Option B) (y : B) → (o >>= f) ≡ Some y → (x : A) × (o ≡ Some x) × (f x ≡ Some y)
bind_some (Some x) f y e = (x, refl, e)
bind_some None f y e = absurd cc

-- after a test that gives up
passed : {A : Type 0} (b : Bool) (x y : A) → cond b None (Some x) ≡ Some y → (b ≡ false) × (x ≡ y)
passed true x y e = absurd cc
passed false x y e = (refl, cc)

passed_on : {A : Type 0} (b : Bool) (x : Option A) (y : A) → cond b None x ≡ Some y → (b ≡ false) × (x ≡ Some y)
passed_on true x y e = absurd cc
passed_on false x y e = (refl, e)

-- ---- one field

pub record Took {A : Type 0} (write : A → List ℕ) (Fits : A → Type 0) (bytes : List ℕ) (x : A × List ℕ) : Type 0 where
  pub whole : bytes ≡ write x.0 ++ x.1
  pub rest : IsBytes x.1
  pub fits : Fits x.0

pub record IsField {A : Type 0} (read : List ℕ → Option (A × List ℕ)) (write : A → List ℕ) (Fits : A → Type 0) : Type 0 where
  pub takes : (bytes : List ℕ) (x : A × List ℕ) → IsBytes bytes → read bytes ≡ Some x → Took write Fits bytes x
  pub again : (a : A) (rest : List ℕ) → Fits a → read (write a ++ rest) ≡ Some (a, rest)

record IsWide (w : Width) (limit : ℕ) : Type 0 where
  len : (n : ℕ) → length (to_be_bytes w n) ≡ byte_len w
  back : (bytes : List ℕ) → length bytes ≡ byte_len w → IsBytes bytes → to_be_bytes w (from_be_bytes w bytes) ≡ bytes
  same : (n : ℕ) → n < limit → from_be_bytes w (to_be_bytes w n) ≡ n
  below : (bytes : List ℕ) → IsBytes bytes → from_be_bytes w bytes < limit

wide_short : IsWide w16 (2 ^ 16)
wide_short = record {
  len = λ n. refl;
  back = λ bytes len h. be_bytes_2 bytes _ len h refl;
  same = λ n lt. from_be_bytes-to_be_bytes_2 n lt;
  below = λ bytes h. omega (arith, h 0, h 1);
}

wide_word : IsWide w32 (2 ^ 32)
wide_word = record {
  len = λ n. refl;
  back = λ bytes len h. be_bytes_4 bytes _ len h refl;
  same = λ n lt. from_be_bytes-to_be_bytes_4 n lt;
  below = λ bytes h. omega (arith, h 0, h 1, h 2, h 3);
}

wide_long : IsWide w64 (2 ^ 64)
wide_long = record {
  len = λ n. refl;
  back = λ bytes len h. be_bytes_8 bytes _ len h refl;
  same = λ n lt. from_be_bytes-to_be_bytes_8 n lt;
  below = λ bytes h. omega (arith, h 0, h 1, h 2, h 3, h 4, h 5, h 6, h 7);
}

number_takes : (w : Width) (limit : ℕ) → IsWide w limit → (bytes : List ℕ) (x : ℕ × List ℕ) → IsBytes bytes → wire_number_at w bytes ≡ Some x → Took (to_be_bytes w) (λ n. n < limit) bytes x
number_takes w limit wide bytes x h e =
    let p = passed (ltb (length bytes) (byte_len w)) (from_be_bytes w (take (byte_len w) bytes), drop (byte_len w) bytes) x e in
    let enough : byte_len w ≤ length bytes = ltb-false _ _ p.0 in
    let front = bytes_before (byte_len w) bytes h in
    let whole : bytes ≡ to_be_bytes w (from_be_bytes w (take (byte_len w) bytes)) ++ drop (byte_len w) bytes =
    rw (wide.back (take (byte_len w) bytes) (omega (arith, length-take (byte_len w) bytes)) front) (sym (take-append-drop (byte_len w) bytes)) in
    subst (Took (to_be_bytes w) (λ n. n < limit) bytes) p.1 (record { whole = whole; rest = bytes_after (byte_len w) bytes h; fits = wide.below (take (byte_len w) bytes) front })

number_again : (w : Width) (limit : ℕ) → IsWide w limit → (n : ℕ) (rest : List ℕ) → n < limit → wire_number_at w (to_be_bytes w n ++ rest) ≡ Some (n, rest)
number_again w limit wide n rest lt =
    let len = wide.len n in
    let enough : ltb (length (to_be_bytes w n ++ rest)) (byte_len w) ≡ false = le-ltb _ _ (omega (arith, length-append (to_be_bytes w n) rest)) in
    rw (enough, take_at (to_be_bytes w n) rest (byte_len w) len, drop_at (to_be_bytes w n) rest (byte_len w) len, wide.same n lt) refl

pub short_field : IsField (wire_number_at w16) short (λ n. n < 2 ^ 16)
short_field = record { takes = number_takes w16 (2 ^ 16) wide_short; again = number_again w16 (2 ^ 16) wide_short }

pub word_field : IsField (wire_number_at w32) word (λ n. n < 2 ^ 32)
word_field = record { takes = number_takes w32 (2 ^ 32) wide_word; again = number_again w32 (2 ^ 32) wide_word }

pub long_field : IsField (wire_number_at w64) long (λ n. n < 2 ^ 64)
long_field = record { takes = number_takes w64 (2 ^ 64) wide_long; again = number_again w64 (2 ^ 64) wide_long }

text_takes : (limit : ℕ) (bytes : List ℕ) (x : List ℕ × List ℕ) → IsBytes bytes → wire_text_at limit bytes ≡ Some x → Took wire_text (λ b. length b ≤ limit) bytes x
unfolding wire_text_at
text_takes limit [] x h e = absurd cc
text_takes limit (len ∷ bytes) x h e =
    let p = passed_on (ltb limit len) (cond (ltb (length bytes) len) None (Some (take len bytes, drop len bytes))) x e in
    let q = passed (ltb (length bytes) len) (take len bytes, drop len bytes) x p.1 in
    let low : len ≤ limit = ltb-false _ _ p.0 in
    let enough : len ≤ length bytes = ltb-false _ _ q.0 in
    let told : length (take len bytes) ≡ len = omega (arith, length-take len bytes) in
    let whole : len ∷ bytes ≡ wire_text (take len bytes) ++ drop len bytes = rw (told, take-append-drop len bytes) refl in
    subst (Took wire_text (λ b. length b ≤ limit) (len ∷ bytes)) q.1 (record { whole = whole; rest = bytes_after len bytes (bytes_behind len bytes h); fits = omega arith })

text_again : (limit : ℕ) (b rest : List ℕ) → length b ≤ limit → wire_text_at limit (wire_text b ++ rest) ≡ Some (b, rest)
unfolding wire_text_at
text_again limit b rest le =
    let low : ltb limit (length b) ≡ false = le-ltb _ _ le in
    let enough : ltb (length (b ++ rest)) (length b) ≡ false = le-ltb _ _ (omega (arith, length-append b rest)) in
    rw (low, enough, take_at b rest (length b) refl, drop_at b rest (length b) refl) refl

pub text_field : (limit : ℕ) → IsField (wire_text_at limit) wire_text (λ b. length b ≤ limit)
text_field limit = record { takes = text_takes limit; again = text_again limit }

moment_takes : (bytes : List ℕ) (x : Option ℕ × List ℕ) → IsBytes bytes → wire_moment_at bytes ≡ Some x → Took at (λ m. IfSome m (λ t. t < 2 ^ 64)) bytes x
unfolding wire_moment_at
moment_takes [] x h e = absurd cc
moment_takes (zero ∷ bytes) x h e =
    let same : (None, bytes) ≡ x = cc in
    subst (Took at (λ m. IfSome m (λ t. t < 2 ^ 64)) (0 ∷ bytes)) same (record { whole = refl; rest = bytes_behind 0 bytes h; fits = tt })
moment_takes (suc zero ∷ bytes) x h e =
    let b = bind_some (wire_number_at w64 bytes) (λ n. Some (Some n.0, n.1)) x e in
    let t = long_field.takes bytes b.0 (bytes_behind 1 bytes h) b.1 in
    let same : (Some b.0.0, b.0.1) ≡ x = cc in
    subst (Took at (λ m. IfSome m (λ t. t < 2 ^ 64)) (1 ∷ bytes)) same (record { whole = ap (λ (front : List ℕ). 1 ∷ front) t.whole; rest = t.rest; fits = t.fits })
moment_takes (suc (suc b) ∷ bytes) x h e = absurd cc

moment_again : (m : Option ℕ) (rest : List ℕ) → IfSome m (λ t. t < 2 ^ 64) → wire_moment_at (at m ++ rest) ≡ Some (m, rest)
unfolding wire_moment_at
moment_again None rest h = refl
moment_again (Some n) rest h = rw (long_field.again n rest h) refl

pub moment_field : IsField wire_moment_at at (λ m. IfSome m (λ t. t < 2 ^ 64))
moment_field = record { takes = moment_takes; again = moment_again }

-- ---- fields one after the other, to the end

-- reads exactly what says a value
pub record Exact {R : Type 0} (read : List ℕ → Option R) (Says : List ℕ → R → Type 0) : Type 0 where
  pub found : (bytes : List ℕ) (r : R) → IsBytes bytes → read bytes ≡ Some r → Says bytes r
  pub again : (bytes : List ℕ) (r : R) → Says bytes r → read bytes ≡ Some r

-- a field, and what it says after it
pub record Then {A R : Type 0} (write : A → List ℕ) (Fits : A → Type 0) (Says : A → List ℕ → R → Type 0) (bytes : List ℕ) (r : R) : Type 0 where
  pub value : A
  pub rest : List ℕ
  pub fits : Fits value
  pub whole : bytes ≡ write value ++ rest
  pub after : Says value rest r

-- the last field
pub record Last {A R : Type 0} (write : A → List ℕ) (Fits : A → Type 0) (make : A → R) (bytes : List ℕ) (r : R) : Type 0 where
  pub value : A
  pub fits : Fits value
  pub whole : bytes ≡ write value
  pub is : r ≡ make value

pub ended_nil : (bytes : List ℕ) (u : Unit {0}) → ended_at bytes ≡ Some u → bytes ≡ []
unfolding ended_at
ended_nil [] u e = refl
ended_nil (_ ∷ _) u e = absurd cc

pub ended_end : ended_at [] ≡ Some tt
unfolding ended_at
ended_end = refl

module _ {A R : Type 0} {read : List ℕ → Option (A × List ℕ)} {write : A → List ℕ} {Fits : A → Type 0} (field : IsField read write Fits) where
  then_found : (k : A → List ℕ → Option R) (Says : A → List ℕ → R → Type 0) → ((a : A) → Exact (k a) (Says a)) → (bytes : List ℕ) (r : R) → IsBytes bytes → (read bytes >>= λ x. k x.0 x.1) ≡ Some r → Then write Fits Says bytes r
  then_found k Says behind bytes r h e =
      let b = bind_some (read bytes) (λ x. k x.0 x.1) r e in
      let t = field.takes bytes b.0 h b.1 in
      record { value = b.0.0; rest = b.0.1; fits = t.fits; whole = t.whole; after = (behind b.0.0).found b.0.1 r t.rest b.2 }

  then_again : (k : A → List ℕ → Option R) (Says : A → List ℕ → R → Type 0) → ((a : A) → Exact (k a) (Says a)) → (bytes : List ℕ) (r : R) → Then write Fits Says bytes r → (read bytes >>= λ x. k x.0 x.1) ≡ Some r
  then_again k Says behind bytes r s =
      ap (λ (o : Option (A × List ℕ)). o >>= λ x. k x.0 x.1) (ap read s.whole ∙ field.again s.value s.rest s.fits) ∙ (behind s.value).again s.rest r s.after

  pub then_exact : {k : A → List ℕ → Option R} {Says : A → List ℕ → R → Type 0} → ((a : A) → Exact (k a) (Says a)) → Exact (λ bytes. read bytes >>= λ x. k x.0 x.1) (Then write Fits Says)
  then_exact {k} {Says} behind = record { found = then_found k Says behind; again = then_again k Says behind }

  last_found : (make : A → R) (bytes : List ℕ) (r : R) → IsBytes bytes → (read bytes >>= λ x. ended_at x.1 >>= λ _. Some (make x.0)) ≡ Some r → Last write Fits make bytes r
  last_found make bytes r h e =
      let b = bind_some (read bytes) (λ x. ended_at x.1 >>= λ _. Some (make x.0)) r e in
      let c = bind_some (ended_at b.0.1) (λ _. Some (make b.0.0)) r b.2 in
      let t = field.takes bytes b.0 h b.1 in
      record { value = b.0.0; fits = t.fits; whole = t.whole ∙ ap (λ (rest : List ℕ). write b.0.0 ++ rest) (ended_nil b.0.1 c.0 c.1) ∙ append-nil (write b.0.0); is = cc }

  last_again : (make : A → R) (bytes : List ℕ) (r : R) → Last write Fits make bytes r → (read bytes >>= λ x. ended_at x.1 >>= λ _. Some (make x.0)) ≡ Some r
  last_again make bytes r s =
      ap (λ (o : Option (A × List ℕ)). o >>= λ x. ended_at x.1 >>= λ _. Some (make x.0)) (ap read (s.whole ∙ sym (append-nil (write s.value))) ∙ field.again s.value [] s.fits)
      ∙ ap (λ (o : Option (Unit {0})). o >>= λ _. Some (make s.value)) ended_end
      ∙ ap (λ (v : R). Some v) (sym s.is)

  pub last_exact : (make : A → R) → Exact (λ bytes. read bytes >>= λ x. ended_at x.1 >>= λ _. Some (make x.0)) (Last write Fits make)
  last_exact make = record { found = last_found make; again = last_again make }

tail_found : {R : Type 0} (limit : ℕ) (make : List ℕ → R) (bytes : List ℕ) (r : R) → IsBytes bytes → (tail_at limit bytes >>= λ b. Some (make b)) ≡ Some r → Last (λ b. b) (λ b. length b ≤ limit) make bytes r
unfolding tail_at
tail_found limit make bytes r h e =
    let b = bind_some (tail_at limit bytes) (λ b. Some (make b)) r e in
    let p = passed (ltb limit (length bytes)) bytes b.0 b.1 in
    let low : length bytes ≤ limit = ltb-false _ _ p.0 in
    record { value = bytes; fits = low; whole = refl; is = cc }

tail_again : {R : Type 0} (limit : ℕ) (make : List ℕ → R) (bytes : List ℕ) (r : R) → Last (λ b. b) (λ b. length b ≤ limit) make bytes r → (tail_at limit bytes >>= λ b. Some (make b)) ≡ Some r
unfolding tail_at
tail_again limit make bytes r s =
    let low : ltb limit (length s.value) ≡ false = le-ltb _ _ s.fits in
    rw (s.whole, low, s.is) refl

pub tail_exact : {R : Type 0} (limit : ℕ) (make : List ℕ → R) → Exact (λ bytes. tail_at limit bytes >>= λ b. Some (make b)) (Last (λ b. b) (λ b. length b ≤ limit) make)
tail_exact limit make = record { found = tail_found limit make; again = tail_again limit make }
