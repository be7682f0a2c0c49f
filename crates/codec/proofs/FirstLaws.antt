-- The first block of a checkpoint is read exactly where it is encoded.
use Rattle.std.proofs.Common.{◌≡◌, ℕ, ◌^◌, ◌<◌, ◌≤◌, Bool, List, [], ◌∷◌, ◌++◌, length, Option, Some, refl, sym, ap, subst, ◌∙◌, append_assoc, arith}
use Rattle.std.specs.Int.{w32, w64}
use Rattle.std.specs.List.{flat_map}
use Rattle.std.proofs.lemmas.Option.{same_Some}
use Rattle.codec.specs.Fields.{number, slot, bit, padded}
use Rattle.codec.specs.Checkpoint.{IsSlot}
use Rattle.codec.specs.FirstBlock.{FirstNumbers, first_spelling, first_at}
use Rattle.codec.specs.declared.first_blocks.FirstBlock.{FirstBlock}
use Rattle.s4_types.specs.Pointer.{Place}
use Rattle.s4_types.specs.declared.limits.TheConstants.{CHECKPOINT_POINTERS, CHECKPOINT_PARTS}
use Rattle.lemmas.proofs.Bytes.{IsBytes}
use Rattle.codec.proofs.Exact.{IsField, Exact, Then, Made, then_exact, made_exact, byte_field, word_field, long_field}
use Rattle.codec.proofs.Many.{AreMany, many_field}
use Rattle.codec.proofs.Slots.{mark_field, flag_field, slot_field, padded_field}

abbrev made_of : Bool → ℕ → ℕ → ℕ → ℕ → ℕ → List ℕ → List (Option Place) → List (Option Place) → FirstBlock
made_of alive size object moment created changed attribute pointers parts =
    record { object = object; moment = moment; alive = alive; size = size; created = created; changed = changed; attribute = attribute; pointers = pointers; parts = parts }

abbrev IsLong : ℕ → Type 0
IsLong n = n < 2 ^ 64

abbrev IsWord : ℕ → Type 0
IsWord n = n < 2 ^ 32

abbrev Nothing : Unit {0} → Type 0
Nothing _ = Unit {0}

abbrev one : ℕ → List ℕ
one b = b ∷ []

abbrev says : List ℕ → (FirstBlock × List ℕ) → Type 0
says =
    Then (λ _. 2 ∷ []) Nothing (λ _. Then (λ b. bit b ∷ []) (λ _. Unit {0}) (λ alive. Then one (λ b. b < 256) (λ len. Then (λ _. 0 ∷ []) Nothing (λ _.
    Then (number w32) IsWord (λ size. Then (number w64) IsLong (λ object. Then (number w64) IsLong (λ moment. Then (number w64) IsLong (λ created. Then (number w64) IsLong (λ changed.
    Then padded (λ a. (length a ≡ len) × (len ≤ 64)) (λ attribute. Then (flat_map slot) (AreMany IsSlot CHECKPOINT_POINTERS) (λ pointers. Then (flat_map slot) (AreMany IsSlot CHECKPOINT_PARTS) (λ parts.
    Made (Some (made_of alive size object moment created changed attribute pointers parts))))))))))))))

exact : Exact first_at says
unfolding first_at
exact =
    then_exact (mark_field 2) (λ _. then_exact flag_field (λ alive. then_exact byte_field (λ len. then_exact (mark_field 0) (λ _.
    then_exact word_field (λ size. then_exact long_field (λ object. then_exact long_field (λ moment. then_exact long_field (λ created. then_exact long_field (λ changed.
    then_exact (padded_field len) (λ attribute. then_exact (many_field slot_field CHECKPOINT_POINTERS) (λ pointers. then_exact (many_field slot_field CHECKPOINT_PARTS) (λ parts.
    made_exact (Some (made_of alive size object moment created changed attribute pointers parts))))))))))))))

-- the fields, with what comes after them
abbrev before : Bool → ℕ → ℕ → ℕ → ℕ → ℕ → ℕ → List ℕ → List (Option Place) → List (Option Place) → List ℕ → List ℕ
before alive len size object moment created changed attribute pointers parts rest =
    2 ∷ bit alive ∷ len ∷ 0 ∷ (number w32 size ++ (number w64 object ++ (number w64 moment ++ (number w64 created ++ (number w64 changed ++ (padded attribute ++ (flat_map slot pointers ++ (flat_map slot parts ++ rest))))))))

spelled_before : (f : FirstBlock) (rest : List ℕ) → first_spelling f ++ rest ≡ before f.alive (length f.attribute) f.size f.object f.moment f.created f.changed f.attribute f.pointers f.parts rest
unfolding first_spelling
spelled_before f rest = simp append_assoc

takes : (bytes : List ℕ) (x : FirstBlock × List ℕ) → IsBytes bytes → first_at bytes ≡ Some x → (bytes ≡ first_spelling x.0 ++ x.1) × FirstNumbers x.0
takes bytes x h e =
    let alive = (exact.found bytes x h e).after in
    let len = alive.after in
    let size = len.after.after in
    let object = size.after in
    let moment = object.after in
    let created = moment.after in
    let changed = created.after in
    let attribute = changed.after in
    let pointers = attribute.after in
    let parts = pointers.after in
    let f = made_of alive.value size.value object.value moment.value created.value changed.value attribute.value pointers.value parts.value in
    let numbers : FirstNumbers f = record {
      object = object.fits;
      moment = moment.fits;
      size = size.fits;
      created = created.fits;
      changed = changed.fits;
      attribute = omega (arith, attribute.fits.0, attribute.fits.1);
      count = pointers.fits.0;
      pointers = pointers.fits.1;
      count_parts = parts.fits.0;
      parts = parts.fits.1;
    } in
    let tail : size.rest ≡ number w64 object.value ++ (number w64 moment.value ++ (number w64 created.value ++ (number w64 changed.value ++ (padded attribute.value ++ (flat_map slot pointers.value ++ (flat_map slot parts.value ++ x.1)))))) =
    rw (object.whole, moment.whole, created.whole, changed.whole, attribute.whole, pointers.whole, parts.whole, parts.after.rest) refl in
    let head : bytes ≡ before alive.value len.value size.value object.value moment.value created.value changed.value attribute.value pointers.value parts.value x.1 =
    (exact.found bytes x h e).whole ∙ ap (λ (r : List ℕ). 2 ∷ r) (alive.whole ∙ ap (λ (r : List ℕ). bit alive.value ∷ r) (len.whole ∙ ap (λ (r : List ℕ). len.value ∷ r) (len.after.whole ∙ ap (λ (r : List ℕ). 0 ∷ r) (size.whole ∙ ap (λ (r : List ℕ). number w32 size.value ++ r) tail)))) in
    let whole : bytes ≡ first_spelling f ++ x.1 =
    head ∙ ap (λ (n : ℕ). before alive.value n size.value object.value moment.value created.value changed.value attribute.value pointers.value parts.value x.1) (sym attribute.fits.0) ∙ sym (spelled_before f x.1) in
    subst (λ (d : FirstBlock). (bytes ≡ first_spelling d ++ x.1) × FirstNumbers d) (same_Some _ _ parts.after.is) (whole, numbers)

again : (f : FirstBlock) (rest : List ℕ) → FirstNumbers f → first_at (first_spelling f ++ rest) ≡ Some (f, rest)
again f rest n =
    let r9 = flat_map slot f.parts ++ rest in
    let r8 = flat_map slot f.pointers ++ r9 in
    let r7 = padded f.attribute ++ r8 in
    let r6 = number w64 f.changed ++ r7 in
    let r5 = number w64 f.created ++ r6 in
    let r4 = number w64 f.moment ++ r5 in
    let r3 = number w64 f.object ++ r4 in
    let r2 = number w32 f.size ++ r3 in
    exact.again (first_spelling f ++ rest) (f, rest) (record {
      value = tt;
      rest = bit f.alive ∷ length f.attribute ∷ 0 ∷ r2;
      fits = tt;
      whole = spelled_before f rest;
      after = record {
        value = f.alive;
        rest = length f.attribute ∷ 0 ∷ r2;
        fits = tt;
        whole = refl;
        after = record {
          value = length f.attribute;
          rest = 0 ∷ r2;
          fits = omega (arith, n.attribute);
          whole = refl;
          after = record {
            value = tt;
            rest = r2;
            fits = tt;
            whole = refl;
            after = record {
              value = f.size;
              rest = r3;
              fits = n.size;
              whole = refl;
              after = record {
                value = f.object;
                rest = r4;
                fits = n.object;
                whole = refl;
                after = record {
                  value = f.moment;
                  rest = r5;
                  fits = n.moment;
                  whole = refl;
                  after = record {
                    value = f.created;
                    rest = r6;
                    fits = n.created;
                    whole = refl;
                    after = record {
                      value = f.changed;
                      rest = r7;
                      fits = n.changed;
                      whole = refl;
                      after = record {
                        value = f.attribute;
                        rest = r8;
                        fits = (refl, n.attribute);
                        whole = refl;
                        after = record {
                          value = f.pointers;
                          rest = r9;
                          fits = (n.count, n.pointers);
                          whole = refl;
                          after = record {
                            value = f.parts;
                            rest = rest;
                            fits = (n.count_parts, n.parts);
                            whole = refl;
                            after = record { is = refl; rest = refl };
                          };
                        };
                      };
                    };
                  };
                };
              };
            };
          };
        };
      };
    })

pub first_field : IsField first_at first_spelling FirstNumbers
first_field = record { whole = λ bytes x h e. (takes bytes x h e).0; fits = λ bytes x h e. (takes bytes x h e).1; again = again }
