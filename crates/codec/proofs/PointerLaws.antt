-- A pointer block is read exactly where it is encoded.
use Rattle.std.proofs.Common.{◌≡◌, ℕ, ◌^◌, ◌<◌, List, [], ◌∷◌, ◌++◌, Option, Some, refl, sym, ap, subst, ◌∙◌, append_assoc}
use Rattle.std.specs.Int.{w64}
use Rattle.std.specs.List.{flat_map}
use Rattle.std.proofs.lemmas.Option.{same_Some}
use Rattle.codec.specs.Fields.{number, zeros, slot}
use Rattle.codec.specs.Checkpoint.{IsSlot}
use Rattle.codec.specs.PointerBlock.{PointerNumbers, pointers_spelling, pointers_at}
use Rattle.codec.specs.declared.pointer_blocks.PointerBlock.{PointerBlock}
use Rattle.codec.specs.declared.pointer_blocks.TheConstants.{GAP_BYTES, END_BYTES}
use Rattle.s4_types.specs.Pointer.{Place}
use Rattle.s4_types.specs.declared.limits.TheConstants.{CHECKPOINT_POINTERS}
use Rattle.lemmas.proofs.Bytes.{IsBytes}
use Rattle.codec.proofs.Exact.{IsField, Exact, Then, Made, then_exact, made_exact, byte_field, long_field, zeros_field}
use Rattle.codec.proofs.Many.{AreMany, many_field}
use Rattle.codec.proofs.Slots.{mark_field, slot_field}

abbrev made_of : ℕ → ℕ → ℕ → List (Option Place) → PointerBlock
made_of part object moment pointers = record { part = part; object = object; moment = moment; pointers = pointers }

abbrev IsLong : ℕ → Type 0
IsLong n = n < 2 ^ 64

abbrev Nothing : Unit {0} → Type 0
Nothing _ = Unit {0}

abbrev says : List ℕ → (PointerBlock × List ℕ) → Type 0
says =
    Then (λ _. 4 ∷ []) Nothing (λ _. Then (λ b. b ∷ []) (λ b. b < 256) (λ part. Then (λ _. zeros GAP_BYTES) Nothing (λ _.
    Then (number w64) IsLong (λ object. Then (number w64) IsLong (λ moment.
    Then (flat_map slot) (AreMany IsSlot CHECKPOINT_POINTERS) (λ pointers. Then (λ _. zeros END_BYTES) Nothing (λ _. Made (Some (made_of part object moment pointers)))))))))

exact : Exact pointers_at says
unfolding pointers_at
exact =
    then_exact (mark_field 4) (λ _. then_exact byte_field (λ part. then_exact (zeros_field GAP_BYTES) (λ _.
    then_exact long_field (λ object. then_exact long_field (λ moment.
    then_exact (many_field slot_field CHECKPOINT_POINTERS) (λ pointers. then_exact (zeros_field END_BYTES) (λ _. made_exact (Some (made_of part object moment pointers)))))))))

-- the fields, with what comes after them
abbrev before : ℕ → ℕ → ℕ → List (Option Place) → List ℕ → List ℕ
before part object moment pointers rest =
    4 ∷ part ∷ (zeros GAP_BYTES ++ (number w64 object ++ (number w64 moment ++ (flat_map slot pointers ++ (zeros END_BYTES ++ rest)))))

spelled_before : (b : PointerBlock) (rest : List ℕ) → pointers_spelling b ++ rest ≡ before b.part b.object b.moment b.pointers rest
unfolding pointers_spelling
spelled_before b rest = simp append_assoc

takes : (bytes : List ℕ) (x : PointerBlock × List ℕ) → IsBytes bytes → pointers_at bytes ≡ Some x → (bytes ≡ pointers_spelling x.0 ++ x.1) × PointerNumbers x.0
takes bytes x h e =
    let part = (exact.found bytes x h e).after in
    let gap = part.after in
    let object = gap.after in
    let moment = object.after in
    let pointers = moment.after in
    let end = pointers.after in
    let b = made_of part.value object.value moment.value pointers.value in
    let numbers : PointerNumbers b = record { part = part.fits; object = object.fits; moment = moment.fits; count = pointers.fits.0; pointers = pointers.fits.1 } in
    let tail : part.rest ≡ zeros GAP_BYTES ++ (number w64 object.value ++ (number w64 moment.value ++ (flat_map slot pointers.value ++ (zeros END_BYTES ++ x.1)))) =
    rw (gap.whole, object.whole, moment.whole, pointers.whole, end.whole, end.after.rest) refl in
    let head : bytes ≡ before part.value object.value moment.value pointers.value x.1 =
    (exact.found bytes x h e).whole ∙ ap (λ (r : List ℕ). 4 ∷ r) (part.whole ∙ ap (λ (r : List ℕ). part.value ∷ r) tail) in
    subst (λ (d : PointerBlock). (bytes ≡ pointers_spelling d ++ x.1) × PointerNumbers d) (same_Some _ _ end.after.is) (head ∙ sym (spelled_before b x.1), numbers)

again : (b : PointerBlock) (rest : List ℕ) → PointerNumbers b → pointers_at (pointers_spelling b ++ rest) ≡ Some (b, rest)
again b rest n =
    let r5 = zeros END_BYTES ++ rest in
    let r4 = flat_map slot b.pointers ++ r5 in
    let r3 = number w64 b.moment ++ r4 in
    let r2 = number w64 b.object ++ r3 in
    let r1 = zeros GAP_BYTES ++ r2 in
    exact.again (pointers_spelling b ++ rest) (b, rest) (record {
      value = tt;
      rest = b.part ∷ r1;
      fits = tt;
      whole = spelled_before b rest;
      after = record {
        value = b.part;
        rest = r1;
        fits = n.part;
        whole = refl;
        after = record {
          value = tt;
          rest = r2;
          fits = tt;
          whole = refl;
          after = record {
            value = b.object;
            rest = r3;
            fits = n.object;
            whole = refl;
            after = record {
              value = b.moment;
              rest = r4;
              fits = n.moment;
              whole = refl;
              after = record {
                value = b.pointers;
                rest = r5;
                fits = (n.count, n.pointers);
                whole = refl;
                after = record { value = tt; rest = rest; fits = tt; whole = refl; after = record { is = refl; rest = refl } };
              };
            };
          };
        };
      };
    })

pub pointers_field : IsField pointers_at pointers_spelling PointerNumbers
pointers_field = record { whole = λ bytes x h e. (takes bytes x h e).0; fits = λ bytes x h e. (takes bytes x h e).1; again = again }
