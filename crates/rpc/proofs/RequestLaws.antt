-- A request is read exactly where the body encodes it.
use Rattle.std.proofs.Common.{◌≡◌, ℕ, ◌-◌, ◌^◌, ◌<◌, ◌≤◌, Bool, true, false, cond, List, [], ◌∷◌, ◌++◌, length, Option, Some, refl, arith}
use Rattle.std.specs.Prelude.{IfSome}
use Rattle.std.proofs.lemmas.Bool.{eqb-true}
use Rattle.s4_types.specs.declared.limits.TheConstants.{FRAME_BODY_BYTES}
use Rattle.s4_types.specs.declared.requests.Request.{Request}
use Rattle.s4_types.specs.declared.requests.Request.TheVariants.{Update, Query, Control}
use Rattle.s4_types.specs.declared.requests.Question.TheVariants.{Read, GetAttr, Audit}
use Rattle.s4_types.specs.declared.requests.ObjectRequest.TheVariants.{Create, Delete, Write, Append, Truncate, SetAttr}
use Rattle.s4_types.specs.declared.requests.AdminRequest.TheVariants.{SetWindow, Flush, FlushO}
use Rattle.lemmas.proofs.Bytes.{IsBytes}
use Rattle.rpc.specs.Spelling.{long, short, word, wire_text, at, SpellsRequest}
use Rattle.rpc.specs.private.Reading.{create_at, delete_at, read_at, write_at, append_at, truncate_at, get_attr_at, set_attr_at, set_window_at, flush_at, flush_object_at, audit_at, request_at}
use Rattle.rpc.proofs.Exact.{bytes_behind, Exact, Then, Last, then_exact, last_exact, tail_exact, short_field, word_field, long_field, text_field, moment_field}

abbrev pub IsLong : ℕ → Type 0
IsLong n = n < 2 ^ 64

abbrev pub IsWord : ℕ → Type 0
IsWord n = n < 2 ^ 32

abbrev IsShortNumber : ℕ → Type 0
IsShortNumber n = n < 2 ^ 16

abbrev IsAt : Option ℕ → Type 0
IsAt moment = IfSome moment (λ t. t < 2 ^ 64)

abbrev IsShort : List ℕ → Type 0
IsShort bytes = length bytes ≤ 255

-- ---- each kind, field by field

create_exact : Exact create_at (Last wire_text IsShort (λ attribute. Update (Create attribute)))
unfolding create_at
create_exact = last_exact (text_field 255) (λ attribute. Update (Create attribute))

delete_exact : Exact delete_at (Last long IsLong (λ object. Update (Delete object)))
unfolding delete_at
delete_exact = last_exact long_field (λ object. Update (Delete object))

read_exact : Exact read_at (Then long IsLong (λ object. Then long IsLong (λ offset. Then word IsWord (λ len. Last at IsAt (λ moment. Query (Read object offset len moment))))))
unfolding read_at
read_exact = then_exact long_field (λ object. then_exact long_field (λ offset. then_exact word_field (λ len. last_exact moment_field (λ moment. Query (Read object offset len moment)))))

write_exact : Exact write_at (Then long IsLong (λ object. Then long IsLong (λ offset. Last (λ b. b) (λ b. length b ≤ FRAME_BODY_BYTES - 17) (λ b. Update (Write object offset b)))))
unfolding write_at
write_exact = then_exact long_field (λ object. then_exact long_field (λ offset. tail_exact (FRAME_BODY_BYTES - 17) (λ b. Update (Write object offset b))))

append_exact : Exact append_at (Then long IsLong (λ object. Last (λ b. b) (λ b. length b ≤ FRAME_BODY_BYTES - 9) (λ b. Update (Append object b))))
unfolding append_at
append_exact = then_exact long_field (λ object. tail_exact (FRAME_BODY_BYTES - 9) (λ b. Update (Append object b)))

truncate_exact : Exact truncate_at (Then long IsLong (λ object. Last long IsLong (λ size. Update (Truncate object size))))
unfolding truncate_at
truncate_exact = then_exact long_field (λ object. last_exact long_field (λ size. Update (Truncate object size)))

get_attr_exact : Exact get_attr_at (Then long IsLong (λ object. Last at IsAt (λ moment. Query (GetAttr object moment))))
unfolding get_attr_at
get_attr_exact = then_exact long_field (λ object. last_exact moment_field (λ moment. Query (GetAttr object moment)))

set_attr_exact : Exact set_attr_at (Then long IsLong (λ object. Last wire_text IsShort (λ attribute. Update (SetAttr object attribute))))
unfolding set_attr_at
set_attr_exact = then_exact long_field (λ object. last_exact (text_field 255) (λ attribute. Update (SetAttr object attribute)))

set_window_exact : Exact set_window_at (Last long IsLong (λ window. Control (SetWindow window)))
unfolding set_window_at
set_window_exact = last_exact long_field (λ window. Control (SetWindow window))

flush_exact : Exact flush_at (Then long IsLong (λ first. Last long IsLong (λ last. Control (Flush first last))))
unfolding flush_at
flush_exact = then_exact long_field (λ first. last_exact long_field (λ last. Control (Flush first last)))

flush_object_exact : Exact flush_object_at (Then long IsLong (λ object. Then long IsLong (λ first. Last long IsLong (λ last. Control (FlushO object first last)))))
unfolding flush_object_at
flush_object_exact = then_exact long_field (λ object. then_exact long_field (λ first. last_exact long_field (λ last. Control (FlushO object first last))))

audit_exact : Exact audit_at (Then long IsLong (λ from. Last short IsShortNumber (λ most. Query (Audit from most))))
unfolding audit_at
audit_exact = then_exact long_field (λ from. last_exact short_field (λ most. Query (Audit from most)))

-- ---- a request that was read is encoded

module _ (rest : List ℕ) (r : Request) (h : IsBytes rest) where
  create_found : create_at rest ≡ Some r → SpellsRequest (1 ∷ rest) r
  create_found e = let s = create_exact.found rest r h e in rw s.is ((omega arith, tt), cc)

  delete_found : delete_at rest ≡ Some r → SpellsRequest (2 ∷ rest) r
  delete_found e = let s = delete_exact.found rest r h e in rw s.is ((tt, s.fits), cc)

  read_found : read_at rest ≡ Some r → SpellsRequest (3 ∷ rest) r
  read_found e =
      let s = read_exact.found rest r h e in
      let last = s.after.after.after in
      rw last.is ((tt, (s.fits, s.after.fits, s.after.after.fits, last.fits)), cc)

  write_found : write_at rest ≡ Some r → SpellsRequest (4 ∷ rest) r
  write_found e =
      let s = write_exact.found rest r h e in
      let last = s.after.after in
      rw last.is ((omega (arith, last.fits), (s.fits, s.after.fits)), cc)

  append_found : append_at rest ≡ Some r → SpellsRequest (5 ∷ rest) r
  append_found e = let s = append_exact.found rest r h e in rw s.after.is ((omega (arith, s.after.fits), s.fits), cc)

  truncate_found : truncate_at rest ≡ Some r → SpellsRequest (6 ∷ rest) r
  truncate_found e = let s = truncate_exact.found rest r h e in rw s.after.is ((tt, (s.fits, s.after.fits)), cc)

  get_attr_found : get_attr_at rest ≡ Some r → SpellsRequest (7 ∷ rest) r
  get_attr_found e = let s = get_attr_exact.found rest r h e in rw s.after.is ((tt, (s.fits, s.after.fits)), cc)

  set_attr_found : set_attr_at rest ≡ Some r → SpellsRequest (8 ∷ rest) r
  set_attr_found e = let s = set_attr_exact.found rest r h e in rw s.after.is ((omega (arith, s.after.fits), s.fits), cc)

  set_window_found : set_window_at rest ≡ Some r → SpellsRequest (9 ∷ rest) r
  set_window_found e = let s = set_window_exact.found rest r h e in rw s.is ((tt, s.fits), cc)

  flush_found : flush_at rest ≡ Some r → SpellsRequest (10 ∷ rest) r
  flush_found e = let s = flush_exact.found rest r h e in rw s.after.is ((tt, (s.fits, s.after.fits)), cc)

  flush_object_found : flush_object_at rest ≡ Some r → SpellsRequest (11 ∷ rest) r
  flush_object_found e =
      let s = flush_object_exact.found rest r h e in
      let last = s.after.after in
      rw last.is ((tt, (s.fits, s.after.fits, last.fits)), cc)

  audit_found : audit_at rest ≡ Some r → SpellsRequest (12 ∷ rest) r
  audit_found e = let s = audit_exact.found rest r h e in rw s.after.is ((tt, (s.fits, s.after.fits)), cc)

-- a test of the first byte: this kind, or one of the others
pub kind_or_other : {A P : Type 0} (b : Bool) (x y : Option A) (z : A) → cond b x y ≡ Some z → (b ≡ true → x ≡ Some z → P) → (y ≡ Some z → P) → P
kind_or_other true x y z e this other = this refl e
kind_or_other false x y z e this other = other e

request_found : (bytes : List ℕ) (r : Request) → IsBytes bytes → request_at bytes ≡ Some r → SpellsRequest bytes r
unfolding request_at
request_found [] r h e = absurd cc
request_found (kind ∷ rest) r h e =
    let behind = bytes_behind kind rest h in
    kind_or_other _ _ _ r e (λ t d. rw (eqb-true kind 1 t) (create_found rest r behind d)) (λ e.
    kind_or_other _ _ _ r e (λ t d. rw (eqb-true kind 2 t) (delete_found rest r behind d)) (λ e.
    kind_or_other _ _ _ r e (λ t d. rw (eqb-true kind 3 t) (read_found rest r behind d)) (λ e.
    kind_or_other _ _ _ r e (λ t d. rw (eqb-true kind 4 t) (write_found rest r behind d)) (λ e.
    kind_or_other _ _ _ r e (λ t d. rw (eqb-true kind 5 t) (append_found rest r behind d)) (λ e.
    kind_or_other _ _ _ r e (λ t d. rw (eqb-true kind 6 t) (truncate_found rest r behind d)) (λ e.
    kind_or_other _ _ _ r e (λ t d. rw (eqb-true kind 7 t) (get_attr_found rest r behind d)) (λ e.
    kind_or_other _ _ _ r e (λ t d. rw (eqb-true kind 8 t) (set_attr_found rest r behind d)) (λ e.
    kind_or_other _ _ _ r e (λ t d. rw (eqb-true kind 9 t) (set_window_found rest r behind d)) (λ e.
    kind_or_other _ _ _ r e (λ t d. rw (eqb-true kind 10 t) (flush_found rest r behind d)) (λ e.
    kind_or_other _ _ _ r e (λ t d. rw (eqb-true kind 11 t) (flush_object_found rest r behind d)) (λ e.
    kind_or_other _ _ _ r e (λ t d. rw (eqb-true kind 12 t) (audit_found rest r behind d)) (λ e. absurd cc))))))))))))

request_again : (bytes : List ℕ) (r : Request) → SpellsRequest bytes r → request_at bytes ≡ Some r
unfolding request_at
request_again bytes (Update (Create attribute)) s = rw s.1 (create_exact.again _ _ (record { value = attribute; fits = omega (arith, s.0.0); whole = refl; is = refl }))
request_again bytes (Update (Delete object)) s = rw s.1 (delete_exact.again _ _ (record { value = object; fits = s.0.1; whole = refl; is = refl }))
request_again bytes (Query (Read object offset len moment)) s = rw s.1 (read_exact.again _ _ (record {
  value = object;
  rest = long offset ++ (word len ++ at moment);
  fits = s.0.1.0;
  whole = refl;
  after = record {
    value = offset;
    rest = word len ++ at moment;
    fits = s.0.1.1;
    whole = refl;
    after = record {
      value = len;
      rest = at moment;
      fits = s.0.1.2;
      whole = refl;
      after = record { value = moment; fits = s.0.1.3; whole = refl; is = refl };
    };
  };
}))
request_again bytes (Update (Write object offset written)) s = rw s.1 (write_exact.again _ _ (record {
  value = object;
  rest = long offset ++ written;
  fits = s.0.1.0;
  whole = refl;
  after = record {
    value = offset;
    rest = written;
    fits = s.0.1.1;
    whole = refl;
    after = record { value = written; fits = omega (arith, s.0.0); whole = refl; is = refl };
  };
}))
request_again bytes (Update (Append object written)) s = rw s.1 (append_exact.again _ _ (record {
  value = object;
  rest = written;
  fits = s.0.1;
  whole = refl;
  after = record { value = written; fits = omega (arith, s.0.0); whole = refl; is = refl };
}))
request_again bytes (Update (Truncate object size)) s = rw s.1 (truncate_exact.again _ _ (record {
  value = object;
  rest = long size;
  fits = s.0.1.0;
  whole = refl;
  after = record { value = size; fits = s.0.1.1; whole = refl; is = refl };
}))
request_again bytes (Query (GetAttr object moment)) s = rw s.1 (get_attr_exact.again _ _ (record {
  value = object;
  rest = at moment;
  fits = s.0.1.0;
  whole = refl;
  after = record { value = moment; fits = s.0.1.1; whole = refl; is = refl };
}))
request_again bytes (Update (SetAttr object attribute)) s = rw s.1 (set_attr_exact.again _ _ (record {
  value = object;
  rest = wire_text attribute;
  fits = s.0.1;
  whole = refl;
  after = record { value = attribute; fits = omega (arith, s.0.0); whole = refl; is = refl };
}))
request_again bytes (Control (SetWindow window)) s = rw s.1 (set_window_exact.again _ _ (record { value = window; fits = s.0.1; whole = refl; is = refl }))
request_again bytes (Control (Flush first last)) s = rw s.1 (flush_exact.again _ _ (record {
  value = first;
  rest = long last;
  fits = s.0.1.0;
  whole = refl;
  after = record { value = last; fits = s.0.1.1; whole = refl; is = refl };
}))
request_again bytes (Control (FlushO object first last)) s = rw s.1 (flush_object_exact.again _ _ (record {
  value = object;
  rest = long first ++ long last;
  fits = s.0.1.0;
  whole = refl;
  after = record {
    value = first;
    rest = long last;
    fits = s.0.1.1;
    whole = refl;
    after = record { value = last; fits = s.0.1.2; whole = refl; is = refl };
  };
}))
request_again bytes (Query (Audit from most)) s = rw s.1 (audit_exact.again _ _ (record {
  value = from;
  rest = short most;
  fits = s.0.1.0;
  whole = refl;
  after = record { value = most; fits = s.0.1.1; whole = refl; is = refl };
}))

pub request_exact : Exact request_at SpellsRequest
request_exact = record { found = request_found; again = request_again }
