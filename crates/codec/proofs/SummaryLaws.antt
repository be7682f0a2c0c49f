-- The head of a summary is read exactly where it is encoded, and a block is a summary's by its head and its digest.
use Rattle.std.proofs.Common.{◌≡◌, ℕ, zero, suc, ◌-◌, ◌*◌, ◌+◌, ◌^◌, ◌<◌, ◌≤◌, Bool, true, false, cond, eqb, ltb, leb, ◌&&◌, List, [], ◌∷◌, ◌++◌, length, take, drop, Option, Some, refl, sym, ap, subst, ◌∙◌, append_assoc, length-append, take-append-drop, slice_index, arith}
use Rattle.std.specs.Int.{w16, w32, w64, to_be_bytes}
use Rattle.std.specs.List.{concat, flat_map, AllByRecursion, list_all}
use Rattle.sha2.specs.Sha256.{sha256, digest_bytes, final_hash, initial_hash_256}
use Rattle.std.proofs.lemmas.Bool.{eqb-true, ltb-false, le-ltb, leb-true, le-leb, ltb-true, lt-ltb, and_parts}
use Rattle.std.proofs.lemmas.List.{take_at, drop_at}
use Rattle.std.proofs.lemmas.Option.{same_Some}
use Rattle.lemmas.proofs.Bytes.{bytes_before, bytes_rest, IsBytes}
use Rattle.block_log.specs.declared.kinds.BlockKind.{BlockKind}
use Rattle.block_log.specs.declared.kinds.BlockKind.TheVariants.{Journal, Checkpoint, Data, Pointers}
use Rattle.codec.specs.Fields.{◌>>=◌, Reads, all_of, number, zeros, number_at, many_at}
use Rattle.codec.specs.Summary.{SummaryFields, SummaryNumbers, KeepsSummaryRules, IsSummary, IsBlockRole, UnusedAreBlank, SpellsSummary, has_object, summary_rules, kind_number, role_spelling, summary_head, frame_digest, summary_spelling, kind_at, role_at, roles_at, checked_summary, head_at}
use Rattle.codec.specs.declared.summaries.BlockRole.{BlockRole}
use Rattle.codec.proofs.Exact.{IsField, Exact, Then, Made, then_exact, made_exact, byte_field, short_field, word_field, long_field, zeros_field, passed, bind_some}
use Rattle.codec.proofs.Many.{AreMany, many_field}
use Rattle.codec.proofs.Slots.{mark_field, kept_is}
use Rattle.codec.proofs.Zeros.{zeros_length}
use Rattle.codec.proofs.Whole.{all_exact, found_all, only_all}

-- ---- kinds and roles

kind_or : (t : Bool) (b : ℕ) (k : BlockKind) (rest : List ℕ) (x : BlockKind × List ℕ) (other : Option (BlockKind × List ℕ)) → (t ≡ true → b ≡ kind_number k) → (other ≡ Some x → b ∷ rest ≡ kind_number x.0 ∷ x.1)
    → cond t (Some (k, rest)) other ≡ Some x → b ∷ rest ≡ kind_number x.0 ∷ x.1
kind_or true b k rest x other is else e = let same : (k, rest) ≡ x = same_Some _ _ e in rw (is refl) (ap (λ (y : BlockKind × List ℕ). kind_number y.0 ∷ y.1) same)
kind_or false b k rest x other is else e = else e

kind_whole : (bytes : List ℕ) (x : BlockKind × List ℕ) → kind_at bytes ≡ Some x → bytes ≡ kind_number x.0 ∷ x.1
unfolding kind_at
kind_whole [] x e = absurd cc
kind_whole (b ∷ rest) x e = kind_or (eqb b 1) b Journal rest x _ (eqb-true b 1) (kind_or (eqb b 2) b Checkpoint rest x _ (eqb-true b 2) (kind_or (eqb b 3) b Data rest x _ (eqb-true b 3) (kind_or (eqb b 4) b Pointers rest x _ (eqb-true b 4) (λ f. absurd cc)))) e

kind_again : (k : BlockKind) (rest : List ℕ) → kind_at (kind_number k ∷ rest) ≡ Some (k, rest)
unfolding kind_at
kind_again Journal rest = refl
kind_again Checkpoint rest = refl
kind_again Data rest = refl
kind_again Pointers rest = refl

kind_field : IsField kind_at (λ k. kind_number k ∷ []) (λ _. Unit {0})
kind_field = record { whole = λ bytes x h e. kind_whole bytes x e; fits = λ bytes x h e. tt; again = λ k rest _. kind_again k rest }

role_takes : (bytes : List ℕ) (x : BlockRole × List ℕ) → IsBytes bytes → role_at bytes ≡ Some x → (bytes ≡ role_spelling x.0 ++ x.1) × IsBlockRole x.0
unfolding role_at role_spelling
role_takes bytes x h e =
    let a = bind_some (kind_at bytes) (λ kind. number_at w64 kind.1 >>= λ object. Some (record { kind = kind.0; object = object.0 }, object.1)) x e in
    let b = bind_some (number_at w64 a.0.1) (λ object. Some (record { kind = a.0.0; object = object.0 }, object.1)) x a.2 in
    let one = kind_field.whole bytes a.0 h a.1 in
    let behind = bytes_rest (kind_number a.0.0 ∷ []) a.0.1 bytes one h in
    let two = long_field.whole a.0.1 b.0 behind b.1 in
    let whole : bytes ≡ kind_number a.0.0 ∷ (number w64 b.0.0 ++ b.0.1) = one ∙ ap (λ (r : List ℕ). kind_number a.0.0 ∷ r) two in
    subst (λ (y : BlockRole × List ℕ). (bytes ≡ kind_number y.0.kind ∷ (number w64 y.0.object ++ y.1)) × IsBlockRole y.0) (same_Some _ _ b.2) (whole, long_field.fits a.0.1 b.0 behind b.1)

role_again : (p : BlockRole) (rest : List ℕ) → IsBlockRole p → role_at (role_spelling p ++ rest) ≡ Some (p, rest)
unfolding role_at role_spelling
role_again p rest h = rw (kind_again p.kind (number w64 p.object ++ rest), long_field.again p.object rest h) refl

role_field : IsField role_at role_spelling IsBlockRole
role_field = record { whole = λ bytes x h e. (role_takes bytes x h e).0; fits = λ bytes x h e. (role_takes bytes x h e).1; again = role_again }

abbrev AreBlockRoles : ℕ → List BlockRole → Type 0
AreBlockRoles used roles = (used ≤ 15) × AreMany IsBlockRole used roles

roles_take : (used : ℕ) (bytes : List ℕ) (x : List BlockRole × List ℕ) → roles_at used bytes ≡ Some x → (used ≤ 15) × (many_at role_at used bytes ≡ Some x)
unfolding roles_at
roles_take used bytes x e = let p = passed (ltb 15 used) (many_at role_at used bytes) x e in (ltb-false _ _ p.0, p.1)

pub few_roles : (used : ℕ) (bytes : List ℕ) → used ≤ 15 → roles_at used bytes ≡ many_at role_at used bytes
unfolding roles_at
few_roles used bytes le = let few : ltb 15 used ≡ false = le-ltb _ _ le in rw few refl

roles_again : (used : ℕ) (roles : List BlockRole) (rest : List ℕ) → AreBlockRoles used roles → roles_at used (flat_map role_spelling roles ++ rest) ≡ Some (roles, rest)
roles_again used roles rest h = few_roles used (flat_map role_spelling roles ++ rest) h.0 ∙ (many_field role_field used).again roles rest h.1

roles_field : (used : ℕ) → IsField (roles_at used) (flat_map role_spelling) (AreBlockRoles used)
roles_field used = record {
  whole = λ bytes x h e. (many_field role_field used).whole bytes x h (roles_take used bytes x e).1;
  fits = λ bytes x h e. let t = roles_take used bytes x e in (t.0, (many_field role_field used).fits bytes x h t.1);
  again = roles_again used;
}

-- ---- the head

abbrev made_of : ℕ → ℕ → List BlockRole → SummaryFields
made_of frame generation roles = record { frame = frame; generation = generation; roles = roles }

abbrev Nothing : Unit {0} → Type 0
Nothing _ = Unit {0}

abbrev mark : ℕ → Unit {0} → List ℕ
mark b _ = b ∷ []

abbrev says : List ℕ → (SummaryFields × List ℕ) → Type 0
says =
    Then (mark 0x53) Nothing (λ _. Then (mark 0x34) Nothing (λ _. Then (mark 0x73) Nothing (λ _. Then (mark 0x67) Nothing (λ _.
    Then (number w16) (λ n. n < 2 ^ 16) (λ frame. Then (λ b. b ∷ []) (λ b. b < 256) (λ used. Then (mark 0) Nothing (λ _.
    Then (number w32) (λ n. n < 2 ^ 32) (λ generation. Then (λ _. zeros 4) Nothing (λ _. Then (flat_map role_spelling) (AreBlockRoles used) (λ roles.
    Then (λ _. zeros (464 - 9 * used)) Nothing (λ _. Made (checked_summary (made_of frame generation roles)))))))))))))

exact : Exact head_at says
unfolding head_at
exact =
    then_exact (mark_field 0x53) (λ _. then_exact (mark_field 0x34) (λ _. then_exact (mark_field 0x73) (λ _. then_exact (mark_field 0x67) (λ _.
    then_exact short_field (λ frame. then_exact byte_field (λ used. then_exact (mark_field 0) (λ _.
    then_exact word_field (λ generation. then_exact (zeros_field 4) (λ _. then_exact (roles_field used) (λ roles.
    then_exact (zeros_field (464 - 9 * used)) (λ _. made_exact (checked_summary (made_of frame generation roles)))))))))))))

-- the fields, with what comes after them
abbrev before : ℕ → ℕ → ℕ → List BlockRole → List ℕ → List ℕ
before frame used generation roles rest =
    0x53 ∷ 0x34 ∷ 0x73 ∷ 0x67 ∷ (number w16 frame ++ (used ∷ 0 ∷ (number w32 generation ++ (zeros 4 ++ (flat_map role_spelling roles ++ (zeros (464 - 9 * used) ++ rest))))))

spelled_before : (s : SummaryFields) (rest : List ℕ) → summary_head s ++ rest ≡ before s.frame (length s.roles) s.generation s.roles rest
unfolding summary_head
spelled_before s rest = simp append_assoc

takes : (bytes : List ℕ) (x : SummaryFields × List ℕ) → IsBytes bytes → head_at bytes ≡ Some x → (bytes ≡ summary_head x.0 ++ x.1) × IsSummary x.0
takes bytes x h e =
    let first = exact.found bytes x h e in
    let second = first.after in
    let third = second.after in
    let fourth = third.after in
    let frame = fourth.after in
    let used = frame.after in
    let gap = used.after in
    let generation = gap.after in
    let reserve = generation.after in
    let roles = reserve.after in
    let end = roles.after in
    let s = made_of frame.value generation.value roles.value in
    let k = kept_is (summary_rules s) s x.0 end.after.is in
    let numbers : SummaryNumbers s = record { frame = frame.fits; roles = roles.fits.1.1 } in
    let tail : generation.rest ≡ zeros 4 ++ (flat_map role_spelling roles.value ++ (zeros (464 - 9 * used.value) ++ x.1)) = rw (reserve.whole, roles.whole, end.whole, end.after.rest) refl in
    let middle : frame.rest ≡ used.value ∷ 0 ∷ (number w32 generation.value ++ (zeros 4 ++ (flat_map role_spelling roles.value ++ (zeros (464 - 9 * used.value) ++ x.1)))) =
    used.whole ∙ ap (λ (r : List ℕ). used.value ∷ r) (gap.whole ∙ ap (λ (r : List ℕ). 0 ∷ r) (generation.whole ∙ ap (λ (r : List ℕ). number w32 generation.value ++ r) tail)) in
    let front : bytes ≡ 0x53 ∷ 0x34 ∷ 0x73 ∷ 0x67 ∷ fourth.rest =
    first.whole ∙ ap (λ (r : List ℕ). 0x53 ∷ r) (second.whole ∙ ap (λ (r : List ℕ). 0x34 ∷ r) (third.whole ∙ ap (λ (r : List ℕ). 0x73 ∷ r) fourth.whole)) in
    let head : bytes ≡ before frame.value used.value generation.value roles.value x.1 =
    front ∙ ap (λ (r : List ℕ). 0x53 ∷ 0x34 ∷ 0x73 ∷ 0x67 ∷ r) (frame.whole ∙ ap (λ (r : List ℕ). number w16 frame.value ++ r) middle) in
    let whole : bytes ≡ summary_head s ++ x.1 =
    head ∙ ap (λ (n : ℕ). before frame.value n generation.value roles.value x.1) (sym roles.fits.1.0) ∙ sym (spelled_before s x.1) in
    subst (λ (t : SummaryFields). (bytes ≡ summary_head t ++ x.1) × IsSummary t) k.1 (whole, (k.0, numbers))

made_is : (s : SummaryFields) → summary_rules s ≡ true → checked_summary s ≡ Some s
made_is s e = rw e refl

objects_are : (roles : List BlockRole) → list_all has_object roles ≡ true → AllByRecursion (λ p. 1 ≤ p.object) roles
objects_are [] e = tt
objects_are (p ∷ roles) e = let h = and_parts (leb 1 p.object) (list_all has_object roles) e in (leb-true _ _ h.0, objects_are roles h.1)

objects_pass : (roles : List BlockRole) → AllByRecursion (λ p. 1 ≤ p.object) roles → list_all has_object roles ≡ true
objects_pass [] h = refl
objects_pass (p ∷ roles) h = let first : leb 1 p.object ≡ true = le-leb _ _ h.0 in rw (first, objects_pass roles h.1) refl

pub kept_by : (s : SummaryFields) → summary_rules s ≡ true → KeepsSummaryRules s
unfolding summary_rules
kept_by s e =
    let a = and_parts (leb 1 s.generation) (ltb (s.generation + 1) (2 ^ 32) && (leb 1 (length s.roles) && (leb (length s.roles) 15 && list_all has_object s.roles))) e in
    let b = and_parts (ltb (s.generation + 1) (2 ^ 32)) (leb 1 (length s.roles) && (leb (length s.roles) 15 && list_all has_object s.roles)) a.1 in
    let c = and_parts (leb 1 (length s.roles)) (leb (length s.roles) 15 && list_all has_object s.roles) b.1 in
    let d = and_parts (leb (length s.roles) 15) (list_all has_object s.roles) c.1 in
    record { least = leb-true _ _ a.0; most = ltb-true _ _ b.0; used = leb-true _ _ c.0; room = leb-true _ _ d.0; objects = objects_are s.roles d.1 }

pub keeps : (s : SummaryFields) → KeepsSummaryRules s → summary_rules s ≡ true
unfolding summary_rules
keeps s h =
    let a : leb 1 s.generation ≡ true = le-leb _ _ h.least in
    let b : ltb (s.generation + 1) (2 ^ 32) ≡ true = lt-ltb _ _ h.most in
    let c : leb 1 (length s.roles) ≡ true = le-leb _ _ h.used in
    let d : leb (length s.roles) 15 ≡ true = le-leb _ _ h.room in
    rw (a, b, c, d) (objects_pass s.roles h.objects)

again : (s : SummaryFields) (rest : List ℕ) → IsSummary s → head_at (summary_head s ++ rest) ≡ Some (s, rest)
again s rest h =
    let k = kept_by s h.0 in
    let n = length s.roles in
    let r4 = zeros (464 - 9 * n) ++ rest in
    let r3 = flat_map role_spelling s.roles ++ r4 in
    let r2 = zeros 4 ++ r3 in
    let r1 = number w32 s.generation ++ r2 in
    let r0 = number w16 s.frame ++ (n ∷ 0 ∷ r1) in
    exact.again (summary_head s ++ rest) (s, rest) (record {
      value = tt;
      rest = 0x34 ∷ 0x73 ∷ 0x67 ∷ r0;
      fits = tt;
      whole = spelled_before s rest;
      after = record {
        value = tt;
        rest = 0x73 ∷ 0x67 ∷ r0;
        fits = tt;
        whole = refl;
        after = record {
          value = tt;
          rest = 0x67 ∷ r0;
          fits = tt;
          whole = refl;
          after = record {
            value = tt;
            rest = r0;
            fits = tt;
            whole = refl;
            after = record {
              value = s.frame;
              rest = n ∷ 0 ∷ r1;
              fits = h.1.frame;
              whole = refl;
              after = record {
                value = n;
                rest = 0 ∷ r1;
                fits = omega (arith, k.room);
                whole = refl;
                after = record {
                  value = tt;
                  rest = r1;
                  fits = tt;
                  whole = refl;
                  after = record {
                    value = s.generation;
                    rest = r2;
                    fits = omega (arith, k.most);
                    whole = refl;
                    after = record {
                      value = tt;
                      rest = r3;
                      fits = tt;
                      whole = refl;
                      after = record {
                        value = s.roles;
                        rest = r4;
                        fits = (k.room, (refl, h.1.roles));
                        whole = refl;
                        after = record {
                          value = tt;
                          rest = rest;
                          fits = tt;
                          whole = refl;
                          after = record { is = made_is s h.0; rest = refl };
                        };
                      };
                    };
                  };
                };
              };
            };
          };
        };
      };
    })

pub head_field : IsField head_at summary_head IsSummary
head_field = record { whole = λ bytes x h e. (takes bytes x h e).0; fits = λ bytes x h e. (takes bytes x h e).1; again = again }

-- ---- the block

roles_length : (roles : List BlockRole) → length (flat_map role_spelling roles) ≡ 9 * length roles
unfolding role_spelling number
roles_length [] = refl
roles_length (p ∷ roles) = omega (arith, length-append (role_spelling p) (flat_map role_spelling roles), roles_length roles)

pub head_length : (s : SummaryFields) → length s.roles ≤ 15 → length (summary_head s) ≡ 480
unfolding summary_head number
head_length s few =
    let n = length s.roles in
    let r2 = flat_map role_spelling s.roles ++ zeros (464 - 9 * n) in
    let r1 = zeros 4 ++ r2 in
    omega (
      arith,
      few,
      length-append (zeros 4) r2,
      length-append (flat_map role_spelling s.roles) (zeros (464 - 9 * n)),
      zeros_length 4,
      zeros_length (464 - 9 * n),
      roles_length s.roles,
    )

pub words_length : (h : List ℕ) (n : ℕ) → length (digest_bytes h n) ≡ 4 * n
unfolding digest_bytes
words_length h zero = refl
words_length h (suc n) = omega (arith, length-append (digest_bytes h n) (to_be_bytes w32 (slice_index h n)), words_length h n)

pub digest_length : (m : List ℕ) → length (sha256 m) ≡ 32
unfolding sha256
digest_length m = words_length (final_hash initial_hash_256 m) 8

pub block_length : (s : SummaryFields) (payload : List (List ℕ)) → length s.roles ≤ 15 → length (summary_spelling s payload) ≡ 512
unfolding summary_spelling
block_length s payload few = omega (arith, length-append (summary_head s) (frame_digest (summary_head s) payload), head_length s few, digest_length (summary_head s ++ concat payload))

-- the two parts of a block that is a summary's
record Spelled (payload : List (List ℕ)) (block : List ℕ) (s : SummaryFields) : Type 0 where
  head : take 480 block ≡ summary_head s
  digest : drop 480 block ≡ frame_digest (take 480 block) payload

spelled_of : (payload : List (List ℕ)) (block : List ℕ) (s : SummaryFields) → SpellsSummary payload block s → Spelled payload block s
unfolding summary_spelling
spelled_of payload block s h =
    let len = head_length s (kept_by s h.0.0).room in
    let digest = frame_digest (summary_head s) payload in
    let head : take 480 block ≡ summary_head s = ap (λ (b : List ℕ). take 480 b) h.1.1 ∙ take_at (summary_head s) digest 480 len in
    let behind : drop 480 block ≡ digest = ap (λ (b : List ℕ). drop 480 b) h.1.1 ∙ drop_at (summary_head s) digest 480 len in
    record { head = head; digest = behind ∙ ap (λ (b : List ℕ). frame_digest b payload) (sym head) }

module _ (payload : List (List ℕ)) (block head digest : List ℕ) (front : head ≡ take 480 block) (back : digest ≡ drop 480 block) where
  -- what a reader of the head answers, where the block is a summary's
  pub head_only : (result : Option SummaryFields) → Reads (λ x. x) result (all_of head_at head) → (s : SummaryFields) → SpellsSummary payload block s → result ≡ Some s
  head_only result e s h = only_all (all_exact head_field) head result e s (h.0, front ∙ (spelled_of payload block s h).head)

  pub digest_told : (s : SummaryFields) → SpellsSummary payload block s → frame_digest head payload ≡ digest
  digest_told s h = rw (front, back) (sym (spelled_of payload block s h).digest)

  pub block_found : (s : SummaryFields) → IsBytes block → Reads (λ x. x) (Some s) (all_of head_at head) → UnusedAreBlank (length s.roles) payload → frame_digest head payload ≡ digest → SpellsSummary payload block s
  unfolding summary_spelling
  block_found s h e blank same =
      let told = found_all (all_exact head_field) head (Some s) (rw front (bytes_before 480 block h)) e in
      let whole : block ≡ head ++ frame_digest head payload = sym (take-append-drop 480 block) ∙ ap (λ (b : List ℕ). b ++ drop 480 block) (sym front) ∙ ap (λ (b : List ℕ). head ++ b) (sym back ∙ sym same) in
      (told.0, (blank, whole ∙ ap (λ (b : List ℕ). b ++ frame_digest b payload) told.1))

pub unused_told : (payload : List (List ℕ)) (block : List ℕ) (s t : SummaryFields) → Some t ≡ Some s → SpellsSummary payload block s → UnusedAreBlank (length t.roles) payload
unused_told payload block s t e h = subst (λ (r : SummaryFields). UnusedAreBlank (length r.roles) payload) (sym (same_Some t s e)) h.1.0

pub one_summary : (payload : List (List ℕ)) (block : List ℕ) (s t : SummaryFields) → SpellsSummary payload block s → SpellsSummary payload block t → s ≡ t
one_summary payload block s t h k =
    let p = spelled_of payload block s h in
    same_Some s t (sym ((all_exact head_field).again (take 480 block) s (h.0, p.head)) ∙ (all_exact head_field).again (take 480 block) t (k.0, (spelled_of payload block t k).head))
