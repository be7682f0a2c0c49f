-- Copies are appended one by one, and a renaming gets their new places.
use Rattle.std.proofs.Common.{◌≡◌, ◌≢◌, ◌⊎◌, inl, inr, ℕ, zero, suc, ◌+◌, ◌≤◌, ◌==◌, ◌&&◌, leb, Bool, true, List, [], ◌∷◌, length, get_or, Option, Some, None, IsSome, is_some, refl, sym, ap, subst, ◌∙◌, ◌-◌, arith}
use Rattle.std.specs.List.{Contains}
use Rattle.std.proofs.lemmas.Bool.{cases_Bool, cases_eq, and_parts, and_from, leb-true, le-leb}
use Rattle.std.proofs.lemmas.List.Sums.{sum_by-set}
use Rattle.std.proofs.lemmas.List.Elements.{Contains-append_cases}
use Rattle.std.proofs.Math.ListN.{length-set}
use Rattle.std.proofs.lemmas.Option.{none-some, same_Some}
use Rattle.s4_types.specs.Pointer.{Place, IsPlace}
use Rattle.lemmas.proofs.Option.{none_not_some, none_before}
use Rattle.block_log.specs.Log.{Log, Stored, same_kind, same_place, with_more}
use Rattle.block_log.specs.Growth.{Puts}
use Rattle.block_log.specs.Taken.{TakesPlaces}
use Rattle.block_log.specs.declared.kinds.BlockKind.{BlockKind}
use Rattle.block_log.specs.declared.kinds.BlockKind.TheVariants.{Journal, Checkpoint, Data, Pointers}
use Rattle.block_log.proofs.Taking.{none_taken}
use Rattle.inode.specs.Growth.{data_block}
use Rattle.chain_rewriting.specs.Renaming.{RenamingFields, with_move, move_of}
use Rattle.chain_rewriting.specs.Apart.{HasDistinctPlaces}
use Rattle.chain_rewriting.specs.Places.{OneMoreMoves, PlacesStayDistinct, NothingMovesYet, NoPlacesAreDistinct}
use Rattle.version_store.specs.declared.copies.CopiedBlock.{CopiedBlock}
use Rattle.version_store.specs.Relocating.{AreCopies, frame_of_copies, with_moves, blocks_ascend_from}
use Rattle.version_store.specs.private.Below.{OnePlace, PlacesAddUp}
use Rattle.version_store.specs.private.Relocating.{Appending}
use Rattle.version_store.specs.Store.{times_led}
use Rattle.version_store.proofs.Counted.{more_is}
use Rattle.version_store.proofs.Named.{once_led}

-- ---- nothing is appended yet

no_moves : NothingMovesYet → (copies : List CopiedBlock) (n : ℕ) (q : Place) → move_of (frame_of_copies copies) n ≡ Some q → ⊥
no_moves law [] n q h = law 0 0 n q h
no_moves law (c ∷ copies) n q h = law c.place.frame c.place.generation n q h

none_distinct : NoPlacesAreDistinct → (copies : List CopiedBlock) → HasDistinctPlaces (frame_of_copies copies)
none_distinct law [] = law 0 0
none_distinct law (c ∷ copies) = law c.place.frame c.place.generation

pub begun : NothingMovesYet → NoPlacesAreDistinct → (o : ℕ) (copies : List CopiedBlock) (log : Log) → length (frame_of_copies copies).moves ≡ 15 → ((q : Place) → times_led q (frame_of_copies copies).moves ≡ 0) → AreCopies log.held o copies → Appending o copies log log (frame_of_copies copies) copies 0
begun none distinct o copies log size nowhere are = record {
  exact = refl;
  takes = none_taken log;
  stays = λ p there. refl;
  others = λ kind other h. refl;
  frame = refl;
  generation = refl;
  size = size;
  distinct = none_distinct distinct copies;
  named = λ q. let no_times = nowhere q in omega (arith, no_times);
  fresh = λ n q h. absurd (no_moves none copies n q h);
  there = λ n q h. absurd (no_moves none copies n q h);
  each = λ c among. inr among;
  new = λ q gone some. absurd (none_not_some (log.held q) gone some);
  below = λ n q h. absurd (no_moves none copies n q h);
  low = 1;
  ascending = are.ascending;
}

-- ---- one more

pub ascend_weaker : (a b : ℕ) (rest : List CopiedBlock) → a ≤ b → blocks_ascend_from b rest ≡ true → blocks_ascend_from a rest ≡ true
ascend_weaker a b [] le h = refl
ascend_weaker a b (c ∷ rest) le h =
    let parts = and_parts (leb b c.place.block) (blocks_ascend_from (suc c.place.block) rest) h in
    let at : b ≤ c.place.block = leb-true b c.place.block parts.0 in
    and_from (leb a c.place.block) (blocks_ascend_from (suc c.place.block) rest) (le-leb a c.place.block (omega (arith, le, at))) parts.1

-- where a block moves with one more move: that one, or another as before
move_cases : OneMoreMoves → (r : RenamingFields) (b n : ℕ) (p q : Place) → length r.moves ≡ 15 → 1 ≤ b → b ≤ 15 → move_of (with_move r b p) n ≡ Some q → ((n ≡ b) × (p ≡ q)) ⊎ ((n ≢ b) × (move_of r n ≡ Some q))
move_cases law r b n p q size least most h = elim (cases_eq n b) [
  | inl is ↦ inl (is, same_Some p q (sym (law r b n p size least most).0 ∙ ap (λ k. move_of (with_move r b p) k) (sym is) ∙ h))
  | inr other ↦ inr (other, sym ((law r b n p size least most).1 other) ∙ h)
]

some_more : OneMoreMoves → (r : RenamingFields) (b n : ℕ) (p : Place) → length r.moves ≡ 15 → 1 ≤ b → b ≤ 15 → IsSome (move_of r n) → IsSome (move_of (with_move r b p) n)
some_more law r b n p size least most some = elim (cases_eq n b) [
  | inl is ↦ ap is_some (ap (λ k. move_of (with_move r b p) k) is ∙ (law r b n p size least most).0)
  | inr other ↦ ap is_some ((law r b n p size least most).1 other) ∙ some
]

none_of : {X : Type 0} (x : Option X) → ((q : X) → x ≡ Some q → ⊥) → x ≡ None
none_of None h = refl
none_of (Some q) h = absurd (h q refl)

turned : (k : BlockKind) → same_kind k Data ≡ same_kind Data k
turned Journal = refl
turned Checkpoint = refl
turned Data = refl
turned Pointers = refl

only_one : (c d : CopiedBlock) → Contains (c ∷ []) d → c ≡ d
only_one c d (zero, there, at) = at
only_one c d (suc k, there, at) = absurd (omega (arith, there))

-- what was held stays where a block is put
still : OnePlace → (now after : Log) (block : Stored) (p q : Place) → Puts now block p after → IsSome (now.held q) → after.held q ≡ now.held q
still one now after block p q puts some = elim (cases_Bool (same_place p q)) [
  | inl is ↦ absurd (none_not_some (now.held q) (ap now.held (sym (one p q is)) ∙ puts.fresh) some)
  | inr other ↦ puts.kept q other
]

-- the block of the next copy has no new place yet
none_yet : (o : ℕ) (copies : List CopiedBlock) (before now : Log) (r : RenamingFields) (c : CopiedBlock) (rest : List CopiedBlock) (count : ℕ) → Appending o copies before now r (c ∷ rest) count → move_of r c.place.block ≡ None
none_yet o copies before now r c rest count a = none_of (move_of r c.place.block) (λ q h.
    let parts = and_parts (leb (suc c.place.block) c.place.block) (blocks_ascend_from (suc c.place.block) rest) (a.below c.place.block q h) in
    let at : suc c.place.block ≤ c.place.block = leb-true (suc c.place.block) c.place.block parts.0 in
    absurd (omega (arith, at)))

-- where a move is put in, it is one more
move_at : (r : RenamingFields) (b : ℕ) → 1 ≤ b → move_of r b ≡ get_or r.moves (b - 1) None
move_at r zero least = absurd (omega (arith, least))
move_at r (suc n) least = ap (λ k. get_or r.moves k None) (let is : n ≡ suc n - 1 = omega arith in is)

times_moved : (r : RenamingFields) (b : ℕ) (p q : Place) → length r.moves ≡ 15 → 1 ≤ b → b ≤ 15 → move_of r b ≡ None → times_led q (with_move r b p).moves ≡ once_led q (Some p) + times_led q r.moves
times_moved r b p q size least most none =
    let all = sum_by-set (once_led q) r.moves (b - 1) (Some p) None (omega (arith, size, least, most)) in
    let was : once_led q (get_or r.moves (b - 1) None) ≡ 0 = ap (once_led q) (sym (move_at r b least) ∙ none) in
    omega (arith, all, was)

pub one_copied : OnePlace → PlacesAddUp → OneMoreMoves → PlacesStayDistinct → (o : ℕ) (copies : List CopiedBlock) (before now after : Log) (r : RenamingFields) (c : CopiedBlock) (rest : List CopiedBlock) (count : ℕ) (p : Place)
    → IsPlace c.place → Puts now (data_block o c.bytes) p after → TakesPlaces 1 now after → Contains copies c
    → Appending o copies before now r (c ∷ rest) count → Appending o copies before after (with_move r c.place.block p) rest (count + 1)
one_copied one add_up more apart o copies before now after r c rest count p place puts takes among a =
    let b : ℕ = c.place.block in
    let next : RenamingFields = with_move r b p in
    let low : 1 ≤ b = place.lowest_block in
    let high : b ≤ 15 = place.highest_block in
    let here : move_of next b ≡ Some p = (more r b b p a.size low high).0 in
    let none : move_of r b ≡ None = none_yet o copies before now r c rest count a in
    let parts = and_parts (leb a.low b) (blocks_ascend_from (suc b) rest) a.ascending in
    let cases : (n : ℕ) (q : Place) → move_of next n ≡ Some q → ((n ≡ b) × (p ≡ q)) ⊎ ((n ≢ b) × (move_of r n ≡ Some q)) = λ n q h. move_cases more r b n p q a.size low high h in
    let free : before.held p ≡ None = none_before (before.held p) (now.held p) (a.stays p) puts.fresh in
    record {
      exact = sym (ap (λ places. with_moves r (c ∷ rest) places) puts.ahead) ∙ a.exact;
      takes = add_up count 1 before now after a.takes takes;
      stays = λ q some. let was = a.stays q some in still one now after (data_block o c.bytes) p q puts (subst (λ (x : Option Stored). IsSome x) (sym was) some) ∙ was;
      others = λ kind other h. (λ i q. puts.others kind other q (ap (λ (k : Bool). k && o == other) (turned kind) ∙ h) i) ∙ a.others kind other h;
      frame = a.frame;
      generation = a.generation;
      size = length-set r.moves (b - 1) (Some p) ∙ a.size;
      distinct = apart r b p a.distinct (λ n h. none-some (data_block o (a.there n p h).copy.bytes) (sym puts.fresh ∙ (a.there n p h).there));
      named = λ q.
          let put : after.named q ≡ with_more now.named p q = ap (λ (n : Place → ℕ). n q) puts.named in
          let more_here = more_is (same_place p q) (now.named q) in
          let were = a.named q in
          let times = times_moved r b p q a.size low high none in
          omega (arith, put, more_here, were, times);
      fresh = λ n q h. elim (cases n q h) [
        | inl that ↦ subst (λ (x : Place). before.held x ≡ None) that.1 free
        | inr old ↦ a.fresh n q old.1
      ];
      there = λ n q h. elim (cases n q h) [
        | inl that ↦ record { copy = c; among = among; number = sym that.0; there = ap after.held (sym that.1) ∙ puts.here }
        | inr old ↦ let was = a.there n q old.1 in record { copy = was.copy; among = was.among; number = was.number; there = still one now after (data_block o c.bytes) p q puts (ap is_some was.there) ∙ was.there }
      ];
      each = λ d there. elim (a.each d there) [
        | inl some ↦ inl (some_more more r b d.place.block p a.size low high some)
        | inr left ↦ elim (Contains-append_cases (c ∷ []) rest d left) [
          | inl first ↦ inl (ap (λ (x : CopiedBlock). is_some (move_of next x.place.block)) (sym (only_one c d first)) ∙ ap is_some here)
          | inr later ↦ inr later
        ]
      ];
      new = λ q gone some. elim (cases_Bool (same_place p q)) [
        | inl is ↦ record { number = b; moves = here ∙ ap (λ (x : Place). Some x) (one p q is) }
        | inr other ↦
            let was = a.new q gone (subst (λ (x : Option Stored). IsSome x) (puts.kept q other) some) in
            let beside : was.number ≢ b = λ is. none-some q (sym none ∙ ap (move_of r) (sym is) ∙ was.moves) in
            record { number = was.number; moves = (more r b was.number p a.size low high).1 beside ∙ was.moves }
      ];
      below = λ n q h. elim (cases n q h) [
        | inl that ↦ ap (λ k. blocks_ascend_from (suc k) rest) that.0 ∙ parts.1
        | inr old ↦
            let both = and_parts (leb (suc n) b) (blocks_ascend_from (suc b) rest) (a.below n q old.1) in
            let at : suc n ≤ b = leb-true (suc n) b both.0 in
            ascend_weaker (suc n) (suc b) rest (omega (arith, at)) both.1
      ];
      low = suc b;
      ascending = parts.1;
    }
