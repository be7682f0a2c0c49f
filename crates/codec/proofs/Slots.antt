-- Marks, flags, pointers and attributes are read exactly where they are encoded.
use Rattle.std.proofs.Common.{◌≡◌, ℕ, zero, suc, ◌-◌, ◌+◌, ◌≤◌, ◌<◌, ◌^◌, Bool, true, false, cond, eqb, ltb, leb, ◌&&◌, List, [], ◌∷◌, ◌++◌, length, Option, Some, None, refl, sym, ap, subst, ◌∙◌, append_assoc, arith}
use Rattle.std.specs.Prelude.{IfSome}
use Rattle.std.specs.Int.{w16, w32}
use Rattle.std.proofs.lemmas.Bool.{eq-eqb, eqb-true, ne_eqb, leb-true, le-leb, ltb-true, lt-ltb, and_parts}
use Rattle.std.proofs.lemmas.Option.{same_Some}
use Rattle.s4_types.specs.Pointer.{Place, IsPlace}
use Rattle.lemmas.proofs.Bytes.{bytes_rest, IsBytes}
use Rattle.codec.specs.Fields.{◌>>=◌, kept, number, zeros, slot, bytes_at, zeros_at, mark_at, flag_at, slot_of, slot_at, is_place, bit, padded, padded_at}
use Rattle.codec.proofs.Exact.{IsField, Exact, Then, Made, then_exact, made_exact, byte_field, short_field, word_field, bytes_field, zeros_field, held, bind_some}

pub mark_whole : (mark : ℕ) (bytes : List ℕ) (x : Unit {0} × List ℕ) → mark_at mark bytes ≡ Some x → bytes ≡ mark ∷ x.1
unfolding mark_at
mark_whole mark [] x e = absurd cc
mark_whole mark (b ∷ rest) x e =
    let p = held (eqb b mark) (Some (tt, rest)) x e in
    let is : b ≡ mark = eqb-true b mark p.0 in
    let same : rest ≡ x.1 = ap (λ (y : Unit {0} × List ℕ). y.1) (same_Some _ _ p.1) in
    rw (is, same) refl

mark_again : (mark : ℕ) (u : Unit {0}) (rest : List ℕ) → mark_at mark (mark ∷ rest) ≡ Some (u, rest)
unfolding mark_at
mark_again mark u rest = let same : eqb mark mark ≡ true = eq-eqb mark mark refl in rw same refl

pub mark_field : (mark : ℕ) → IsField (mark_at mark) (λ _. mark ∷ []) (λ _. Unit {0})
mark_field mark = record { whole = λ bytes x h e. mark_whole mark bytes x e; fits = λ bytes x h e. tt; again = λ u rest _. mark_again mark u rest }

flag_whole : (bytes : List ℕ) (x : Bool × List ℕ) → flag_at bytes ≡ Some x → bytes ≡ bit x.0 ∷ x.1
unfolding flag_at
flag_whole [] x e = absurd cc
flag_whole (zero ∷ rest) x e = let same : (false, rest) ≡ x = same_Some _ _ e in ap (λ (y : Bool × List ℕ). bit y.0 ∷ y.1) same
flag_whole (suc zero ∷ rest) x e = let same : (true, rest) ≡ x = same_Some _ _ e in ap (λ (y : Bool × List ℕ). bit y.0 ∷ y.1) same
flag_whole (suc (suc b) ∷ rest) x e = absurd cc

flag_again : (b : Bool) (rest : List ℕ) → flag_at (bit b ∷ rest) ≡ Some (b, rest)
unfolding flag_at
flag_again true rest = refl
flag_again false rest = refl

pub flag_field : IsField flag_at (λ b. bit b ∷ []) (λ _. Unit {0})
flag_field = record { whole = λ bytes x h e. flag_whole bytes x e; fits = λ bytes x h e. tt; again = λ b rest _. flag_again b rest }

-- ---- pointers

pub kept_is : {A : Type 0} (test : Bool) (x y : A) → kept test x ≡ Some y → (test ≡ true) × (x ≡ y)
kept_is true x y e = (refl, same_Some x y e)
kept_is false x y e = absurd cc

abbrev slot_says : List ℕ → (Option Place × List ℕ) → Type 0
slot_says = Then (number w16) (λ n. n < 2 ^ 16) (λ frame. Then (λ b. b ∷ []) (λ b. b < 256) (λ block. Then (λ b. b ∷ []) (λ b. b < 256) (λ gap. Then (number w32) (λ n. n < 2 ^ 32) (λ generation. Made (slot_of frame block gap generation)))))

slot_exact : Exact slot_at slot_says
unfolding slot_at
slot_exact = then_exact short_field (λ frame. then_exact byte_field (λ block. then_exact byte_field (λ gap. then_exact word_field (λ generation. made_exact (slot_of frame block gap generation)))))

-- the four numbers of a pointer or a hole
record Numbered (p : Option Place) (frame block gap generation : ℕ) : Type 0 where
  spelled : slot p ≡ number w16 frame ++ (block ∷ gap ∷ number w32 generation)
  fits : IfSome p IsPlace

hole_is : slot None ≡ number w16 0 ++ (0 ∷ 0 ∷ number w32 0)
unfolding slot zeros number
hole_is = refl

place_is : (p : Place) → slot (Some p) ≡ number w16 p.frame ++ (p.block ∷ 0 ∷ number w32 p.generation)
unfolding slot
place_is p = refl

numbered : (p : Option Place) (frame block generation : ℕ) (none place : Bool)
    → (none ≡ true → (frame ≡ 0) × (block ≡ 0) × (generation ≡ 0))
    → (place ≡ true → IsPlace (record { frame = frame; block = block; generation = generation }))
    → cond none (Some None) (kept place (Some (record { frame = frame; block = block; generation = generation }))) ≡ Some p → Numbered p frame block 0 generation
numbered p frame block generation true place none-is place-is e =
    let z = none-is refl in
    let at_hole : Numbered None frame block 0 generation = record { spelled = rw (z.0, z.1, z.2) hole_is; fits = tt } in
    subst (λ (q : Option Place). Numbered q frame block 0 generation) (same_Some _ _ e) at_hole
numbered p frame block generation false place none-is place-is e =
    let k = kept_is place (Some (record { frame = frame; block = block; generation = generation })) p e in
    let at_place : Numbered (Some (record { frame = frame; block = block; generation = generation })) frame block 0 generation = record { spelled = place_is _; fits = place-is k.0 } in
    subst (λ (q : Option Place). Numbered q frame block 0 generation) k.1 at_place

no_number : (a b c : ℕ) → (eqb a 0 && (eqb b 0 && eqb c 0)) ≡ true → (a ≡ 0) × (b ≡ 0) × (c ≡ 0)
no_number a b c e =
    let p = and_parts (eqb a 0) (eqb b 0 && eqb c 0) e in
    let q = and_parts (eqb b 0) (eqb c 0) p.1 in
    (eqb-true a 0 p.0, eqb-true b 0 q.0, eqb-true c 0 q.1)

is_place-true : (p : Place) → p.frame < 2 ^ 16 → is_place p ≡ true → IsPlace p
is_place-true p lt e =
    let a = and_parts (leb 1 p.block) (leb p.block 15 && (leb 1 p.generation && ltb (p.generation + 1) (2 ^ 32))) e in
    let b = and_parts (leb p.block 15) (leb 1 p.generation && ltb (p.generation + 1) (2 ^ 32)) a.1 in
    let c = and_parts (leb 1 p.generation) (ltb (p.generation + 1) (2 ^ 32)) b.1 in
    record { frame = lt; lowest_block = leb-true _ _ a.0; highest_block = leb-true _ _ b.0; lowest_generation = leb-true _ _ c.0; highest_generation = ltb-true _ _ c.1 }

slot_numbered : (p : Option Place) (frame block gap generation : ℕ) → frame < 2 ^ 16 → slot_of frame block gap generation ≡ Some p → Numbered p frame block gap generation
unfolding slot_of
slot_numbered p frame block gap generation lt e =
    let place : Place = record { frame = frame; block = block; generation = generation } in
    let a = held (eqb gap 0) (cond (eqb frame 0 && (eqb block 0 && eqb generation 0)) (Some None) (kept (is_place place) (Some place))) p e in
    let n = numbered p frame block generation _ _ (no_number frame block generation) (is_place-true place lt) a.1 in
    subst (λ (g : ℕ). Numbered p frame block g generation) (sym (eqb-true gap 0 a.0)) n

slot_takes : (bytes : List ℕ) (x : Option Place × List ℕ) → IsBytes bytes → slot_at bytes ≡ Some x → (bytes ≡ slot x.0 ++ x.1) × IfSome x.0 IsPlace
slot_takes bytes x h e =
    let s = slot_exact.found bytes x h e in
    let t = s.after.after.after in
    let n = slot_numbered x.0 s.value s.after.value s.after.after.value t.value s.fits t.after.is in
    let rest : t.rest ≡ x.1 = t.after.rest in
    let parts : bytes ≡ number w16 s.value ++ (s.after.value ∷ s.after.after.value ∷ (number w32 t.value ++ x.1)) =
    s.whole ∙ ap (λ (r : List ℕ). number w16 s.value ++ r) (s.after.whole ∙ ap (λ (r : List ℕ). s.after.value ∷ r) (s.after.after.whole ∙ ap (λ (r : List ℕ). s.after.after.value ∷ r) (t.whole ∙ ap (λ (r : List ℕ). number w32 t.value ++ r) rest))) in
    (parts ∙ sym (append_assoc (number w16 s.value) (s.after.value ∷ s.after.after.value ∷ number w32 t.value) x.1) ∙ ap (λ (r : List ℕ). r ++ x.1) (sym n.spelled), n.fits)

no_place : slot_of 0 0 0 0 ≡ Some None
unfolding slot_of
no_place = refl

not_none : (a b c : Bool) → b ≡ false → (a && (b && c)) ≡ false
not_none true b c e = rw e refl
not_none false b c e = refl

place_of : (p : Place) → IsPlace p → slot_of p.frame p.block 0 p.generation ≡ Some (Some p)
unfolding slot_of
place_of p h =
    let block : eqb p.block 0 ≡ false = ne_eqb p.block 0 (λ e. omega (arith, h.lowest_block, e)) in
    let some : (eqb p.frame 0 && (eqb p.block 0 && eqb p.generation 0)) ≡ false = not_none _ _ _ block in
    let a : leb 1 p.block ≡ true = le-leb _ _ h.lowest_block in
    let b : leb p.block 15 ≡ true = le-leb _ _ h.highest_block in
    let c : leb 1 p.generation ≡ true = le-leb _ _ h.lowest_generation in
    let d : ltb (p.generation + 1) (2 ^ 32) ≡ true = lt-ltb _ _ h.highest_generation in
    rw (some, a, b, c, d) refl

slot_again : (p : Option Place) (rest : List ℕ) → IfSome p IsPlace → slot_at (slot p ++ rest) ≡ Some (p, rest)
slot_again None rest h = slot_exact.again (slot None ++ rest) (None, rest) (record {
  value = 0;
  rest = 0 ∷ 0 ∷ (number w32 0 ++ rest);
  fits = omega arith;
  whole = ap (λ (r : List ℕ). r ++ rest) hole_is ∙ append_assoc (number w16 0) (0 ∷ 0 ∷ number w32 0) rest;
  after = record {
    value = 0;
    rest = 0 ∷ (number w32 0 ++ rest);
    fits = omega arith;
    whole = refl;
    after = record {
      value = 0;
      rest = number w32 0 ++ rest;
      fits = omega arith;
      whole = refl;
      after = record {
        value = 0;
        rest = rest;
        fits = omega arith;
        whole = refl;
        after = record { is = no_place; rest = refl };
      };
    };
  };
})
slot_again (Some p) rest h = slot_exact.again (slot (Some p) ++ rest) (Some p, rest) (record {
  value = p.frame;
  rest = p.block ∷ 0 ∷ (number w32 p.generation ++ rest);
  fits = h.frame;
  whole = ap (λ (r : List ℕ). r ++ rest) (place_is p) ∙ append_assoc (number w16 p.frame) (p.block ∷ 0 ∷ number w32 p.generation) rest;
  after = record {
    value = p.block;
    rest = 0 ∷ (number w32 p.generation ++ rest);
    fits = omega (arith, h.highest_block);
    whole = refl;
    after = record {
      value = 0;
      rest = number w32 p.generation ++ rest;
      fits = omega arith;
      whole = refl;
      after = record {
        value = p.generation;
        rest = rest;
        fits = omega (arith, h.highest_generation);
        whole = refl;
        after = record { is = place_of p h; rest = refl };
      };
    };
  };
})

pub slot_field : IsField slot_at slot (λ p. IfSome p IsPlace)
slot_field = record { whole = λ bytes x h e. (slot_takes bytes x h e).0; fits = λ bytes x h e. (slot_takes bytes x h e).1; again = slot_again }

-- ---- attributes

padded_takes : (len : ℕ) (bytes : List ℕ) (x : List ℕ × List ℕ) → IsBytes bytes → padded_at len bytes ≡ Some x → (bytes ≡ padded x.0 ++ x.1) × ((length x.0 ≡ len) × (len ≤ 64))
unfolding padded_at padded
padded_takes len bytes x h e =
    let a = bind_some (bytes_at len bytes) (λ attribute. zeros_at (64 - len) attribute.1 >>= λ gap. kept (leb (length attribute.0) 64) attribute.0 >>= λ made. Some (made, gap.1)) x e in
    let b = bind_some (zeros_at (64 - len) a.0.1) (λ gap. kept (leb (length a.0.0) 64) a.0.0 >>= λ made. Some (made, gap.1)) x a.2 in
    let c = bind_some (kept (leb (length a.0.0) 64) a.0.0) (λ made. Some (made, b.0.1)) x b.2 in
    let k = kept_is (leb (length a.0.0) 64) a.0.0 c.0 c.1 in
    let low : length a.0.0 ≤ 64 = leb-true _ _ k.0 in
    let front = (bytes_field len).whole bytes a.0 h a.1 in
    let size : length a.0.0 ≡ len = (bytes_field len).fits bytes a.0 h a.1 in
    let blank = (zeros_field (64 - len)).whole a.0.1 b.0 (bytes_rest a.0.0 a.0.1 bytes front h) b.1 in
    let told : bytes ≡ (a.0.0 ++ zeros (64 - len)) ++ b.0.1 = front ∙ ap (λ (r : List ℕ). a.0.0 ++ r) blank ∙ sym (append_assoc a.0.0 (zeros (64 - len)) b.0.1) in
    let parts : bytes ≡ (a.0.0 ++ zeros (64 - length a.0.0)) ++ b.0.1 = subst (λ (n : ℕ). bytes ≡ (a.0.0 ++ zeros (64 - n)) ++ b.0.1) (sym size) told in
    let same : (a.0.0, b.0.1) ≡ x = ap (λ (y : List ℕ). (y, b.0.1)) k.1 ∙ same_Some _ _ c.2 in
    subst (λ (y : List ℕ × List ℕ). (bytes ≡ (y.0 ++ zeros (64 - length y.0)) ++ y.1) × ((length y.0 ≡ len) × (len ≤ 64))) same (parts, (size, omega (arith, size, low)))

padded_again : (len : ℕ) (a rest : List ℕ) → (length a ≡ len) × (len ≤ 64) → padded_at len (padded a ++ rest) ≡ Some (a, rest)
unfolding padded_at padded
padded_again len a rest h =
    let parts : (a ++ zeros (64 - length a)) ++ rest ≡ a ++ (zeros (64 - len) ++ rest) = rw (← h.0) (append_assoc a (zeros (64 - length a)) rest) in
    let low : leb (length a) 64 ≡ true = le-leb _ _ (omega (arith, h.0, h.1)) in
    rw (parts, (bytes_field len).again a (zeros (64 - len) ++ rest) h.0, (zeros_field (64 - len)).again tt rest tt, low) refl

pub padded_field : (len : ℕ) → IsField (padded_at len) padded (λ a. (length a ≡ len) × (len ≤ 64))
padded_field len = record { whole = λ bytes x h e. (padded_takes len bytes x h e).0; fits = λ bytes x h e. (padded_takes len bytes x h e).1; again = padded_again len }
