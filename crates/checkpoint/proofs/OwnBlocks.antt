-- The kinds of the blocks of checkpoints, and what is held as such.
use Rattle.std.proofs.Common.{◌≡◌, inl, inr, ℕ, ◌==◌, ◌&&◌, Bool, true, false, cond, List, [], ◌∷◌, ◌+◌, get_or, Option, Some, None, is_some, IsSome, IfSome, refl, sym, ap, ◌∙◌, arith}
use Rattle.std.specs.Option.{option_map}
use Rattle.std.proofs.lemmas.Bool.{cases_Bool, false≢true, and_parts, eq-eqb, eqb-true}
use Rattle.s4_types.specs.Pointer.{Place}
use Rattle.block_log.specs.Log.{Stored, seen_as, of_kind, same_kind, is_data}
use Rattle.block_log.specs.declared.kinds.BlockKind.{BlockKind}
use Rattle.block_log.specs.declared.kinds.BlockKind.TheVariants.{Journal, Checkpoint, Data, Pointers}
use Rattle.checkpoint.specs.Held.{is_checkpoint_kind, begun_by, or_others, seen_of, of_checkpoints, HasBytes}

-- a block is one of an object's checkpoints
pub record IsOwn (o : ℕ) (there : Option Stored) : Type 0 where
  pub block : Stored
  pub is : there ≡ Some block
  pub kind : is_checkpoint_kind block.kind ≡ true
  pub object : block.object ≡ o

own_block : (o : ℕ) (block : Stored) → (k : BlockKind) → is_checkpoint_kind k ≡ true → (same_kind k block.kind && block.object == o) ≡ true → IsOwn o (Some block)
own_block o block k own is =
    let parts = and_parts (same_kind k block.kind) (block.object == o) is in
    record { block = block; is = refl; kind = kind_of k block.kind own parts.0; object = eqb-true block.object o parts.1 }
  where
    kind_of : (k j : BlockKind) → is_checkpoint_kind k ≡ true → same_kind k j ≡ true → is_checkpoint_kind j ≡ true
    kind_of Journal j own is = absurd (false≢true own)
    kind_of Data j own is = absurd (false≢true own)
    kind_of Checkpoint Checkpoint own is = refl
    kind_of Checkpoint Pointers own is = absurd (false≢true is)
    kind_of Checkpoint Journal own is = absurd (false≢true is)
    kind_of Checkpoint Data own is = absurd (false≢true is)
    kind_of Pointers Pointers own is = refl
    kind_of Pointers Checkpoint own is = absurd (false≢true is)
    kind_of Pointers Journal own is = absurd (false≢true is)
    kind_of Pointers Data own is = absurd (false≢true is)

-- a block by whether it is of the one kind, and of the other
abbrev by_kinds : Bool → Bool → List ℕ → Option (List ℕ)
by_kinds first part bytes = or_others (option_map (begun_by Checkpoint) (cond first (Some bytes) None)) (option_map (begun_by Pointers) (cond part (Some bytes) None))

neither : (b c : Bool) (bytes : List ℕ) → b ≡ false → c ≡ false → IsSome (by_kinds b c bytes) → ⊥
neither b c bytes one other seen = false≢true (sym (λ i. is_some (by_kinds (one i) (other i) bytes)) ∙ seen)

pub seen_own : (o : ℕ) (there : Option Stored) → IsSome (seen_of o there) → IsOwn o there
seen_own o None seen = absurd (false≢true seen)
seen_own o (Some block) seen = elim (cases_Bool (same_kind Checkpoint block.kind && block.object == o)) [
  | inl first ↦ own_block o block Checkpoint refl first
  | inr one ↦ (elim (cases_Bool (same_kind Pointers block.kind && block.object == o)) [
    | inl part ↦ own_block o block Pointers refl part
    | inr other ↦ absurd (neither (same_kind Checkpoint block.kind && block.object == o) (same_kind Pointers block.kind && block.object == o) block.bytes one other seen)
  ])
]

pub held_there : (held : Place → Option Stored) (o : ℕ) (p : Place) → IsSome (of_checkpoints o held p) → IsSome (held p)
held_there held o p seen = ap is_some (seen_own o (held p) seen).is

no_data : (k : BlockKind) → is_checkpoint_kind k ≡ true → same_kind k Data ≡ false
no_data Journal is = absurd (false≢true is)
no_data Checkpoint is = refl
no_data Data is = absurd (false≢true is)
no_data Pointers is = refl

pub own_no_data : (o : ℕ) (there : Option Stored) (own : IsOwn o there) → is_data (Some own.block) ≡ false
own_no_data o there own = no_data own.block.kind own.kind

-- a block of another kind or object than a checkpoint's is beside each block of the object's checkpoints
pub kinds_beside : (k j : BlockKind) (x : Bool) → is_checkpoint_kind j ≡ true → (is_checkpoint_kind k && x) ≡ false → (same_kind k j && x) ≡ false
kinds_beside k Journal x own is = absurd (false≢true own)
kinds_beside k Data x own is = absurd (false≢true own)
kinds_beside Journal Checkpoint x own is = refl
kinds_beside Checkpoint Checkpoint x own is = is
kinds_beside Data Checkpoint x own is = refl
kinds_beside Pointers Checkpoint x own is = refl
kinds_beside Journal Pointers x own is = refl
kinds_beside Checkpoint Pointers x own is = refl
kinds_beside Data Pointers x own is = refl
kinds_beside Pointers Pointers x own is = is

-- ---- the bytes that are seen

begun_is : (n : ℕ) (bytes : List ℕ) → get_or bytes 0 0 ≡ n → cond (get_or bytes 0 0 == n) bytes [] ≡ bytes
begun_is n bytes is = ap (λ b. cond b bytes []) (eq-eqb (get_or bytes 0 0) n is)

-- a first block that is held
pub first_seen : (o : ℕ) (bytes : List ℕ) → get_or bytes 0 0 ≡ 2 → seen_of o (Some (record { kind = Checkpoint; object = o; bytes = bytes })) ≡ Some bytes
first_seen o bytes is = ap (λ b. by_kinds b false bytes) (eq-eqb o o refl) ∙ ap (λ (l : List ℕ). Some l) (begun_is 2 bytes is)

-- a pointer block that is held
pub pointers_seen : (o : ℕ) (bytes : List ℕ) → get_or bytes 0 0 ≡ 4 → seen_of o (Some (record { kind = Pointers; object = o; bytes = bytes })) ≡ Some bytes
pointers_seen o bytes is = ap (λ b. by_kinds false b bytes) (eq-eqb o o refl) ∙ ap (λ (l : List ℕ). Some l) (begun_is 4 bytes is)

-- what is seen is what is held there
seen_bytes : (b : Bool) (bytes : List ℕ) → HasBytes (Some (cond b bytes [])) → cond b bytes [] ≡ bytes
seen_bytes true bytes has = refl
seen_bytes false bytes has = absurd has

own_bytes : (b c : Bool) (bytes : List ℕ) → HasBytes (by_kinds b c bytes) → by_kinds b c bytes ≡ Some bytes
own_bytes true c bytes has = ap (λ (l : List ℕ). Some l) (seen_bytes (get_or bytes 0 0 == 2) bytes has)
own_bytes false true bytes has = ap (λ (l : List ℕ). Some l) (seen_bytes (get_or bytes 0 0 == 4) bytes has)
own_bytes false false bytes has = absurd has

pub seen_is : (held : Place → Option Stored) (o : ℕ) (p : Place) (bytes : List ℕ) → HasBytes (of_checkpoints o held p) → IfSome (held p) (λ block. bytes ≡ block.bytes) → of_checkpoints o held p ≡ Some bytes
seen_is held o p bytes has is = by (held p) has is
  where
    by : (there : Option Stored) → HasBytes (seen_of o there) → IfSome there (λ block. bytes ≡ block.bytes) → seen_of o there ≡ Some bytes
    by None has is = absurd has
    by (Some block) has is = own_bytes (same_kind Checkpoint block.kind && block.object == o) (same_kind Pointers block.kind && block.object == o) block.bytes has ∙ ap (λ (l : List ℕ). Some l) (sym is)

pub has_some : (bytes : Option (List ℕ)) → HasBytes bytes → IsSome bytes
has_some None has = absurd has
has_some (Some []) has = absurd has
has_some (Some (b ∷ bytes)) has = refl

-- bytes that begin with a number that isn't 0 are some
pub bytes_begin : (bytes : List ℕ) (n : ℕ) → get_or bytes 0 0 ≡ n + 1 → HasBytes (Some bytes)
bytes_begin [] n is = absurd (omega (arith, is))
bytes_begin (b ∷ bytes) n is = tt

-- where the blocks of both kinds are as they were, so are those of checkpoints
pub same_checkpoints : (o : ℕ) (held later : Place → Option Stored) → of_kind Checkpoint o later ≡ of_kind Checkpoint o held → of_kind Pointers o later ≡ of_kind Pointers o held → of_checkpoints o later ≡ of_checkpoints o held
same_checkpoints o held later first parts = λ i p. or_others (option_map (begun_by Checkpoint) (first i p)) (option_map (begun_by Pointers) (parts i p))

-- a block of either kind is seen
pub first_is_seen : (o : ℕ) (there : Option Stored) → IsSome (seen_as Checkpoint o there) → IsSome (seen_of o there)
first_is_seen o there some = by (seen_as Checkpoint o there) (seen_as Pointers o there) some
  where
    by : (a b : Option (List ℕ)) → IsSome a → IsSome (or_others (option_map (begun_by Checkpoint) a) (option_map (begun_by Pointers) b))
    by None b some = absurd (false≢true some)
    by (Some x) b some = refl

pub part_is_seen : (o : ℕ) (there : Option Stored) → IsSome (seen_as Pointers o there) → IsSome (seen_of o there)
part_is_seen o there some = by (seen_as Checkpoint o there) (seen_as Pointers o there) some
  where
    by : (a b : Option (List ℕ)) → IsSome b → IsSome (or_others (option_map (begun_by Checkpoint) a) (option_map (begun_by Pointers) b))
    by a None some = absurd (false≢true some)
    by None (Some x) some = refl
    by (Some y) (Some x) some = refl

-- nothing is seen where no block of either kind is, and there alone
pub none_seen : (o : ℕ) (there : Option Stored) → seen_as Checkpoint o there ≡ None → seen_as Pointers o there ≡ None → seen_of o there ≡ None
none_seen o there first part = λ i. or_others (option_map (begun_by Checkpoint) (first i)) (option_map (begun_by Pointers) (part i))

pub seen_none : (o : ℕ) (there : Option Stored) → seen_of o there ≡ None → (seen_as Checkpoint o there ≡ None) × (seen_as Pointers o there ≡ None)
seen_none o there none = by (seen_as Checkpoint o there) (seen_as Pointers o there) none
  where
    by : (a b : Option (List ℕ)) → or_others (option_map (begun_by Checkpoint) a) (option_map (begun_by Pointers) b) ≡ None → (a ≡ None) × (b ≡ None)
    by None None none = (refl, refl)
    by None (Some x) none = absurd cc
    by (Some y) b none = absurd cc
