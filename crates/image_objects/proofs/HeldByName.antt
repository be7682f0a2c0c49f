-- Of the blocks of an object, those are held that its row names.
use Rattle.std.proofs.Common.{◌≡◌, ◌↔◌, inl, inr, ℕ, ◌==◌, ◌&&◌, true, ltb, List, Option, Some, None, IsSome, is_some, refl, sym, ap, ◌∙◌, subst}
use Rattle.std.specs.List.{Contains}
use Rattle.std.proofs.lemmas.Bool.{cases_Bool, false≢true, and_from, and_parts, eq-eqb, eqb-true, lt-ltb, ltb-true, cond-true, cond-false}
use Rattle.std.proofs.lemmas.Option.{none-some, same_Some}
use Rattle.s4_types.specs.Pointer.{Place}
use Rattle.block_log.specs.Log.{Stored, of_kind, seen_as, same_kind}
use Rattle.block_log.specs.declared.kinds.BlockKind.{BlockKind}
use Rattle.block_log.specs.declared.kinds.BlockKind.TheVariants.{Journal, Checkpoint, Data, Pointers}
use Rattle.block_log.proofs.BlockKinds.{same_kind_itself, one_kind}
use Rattle.journal_chain.specs.Chain.{BlockView, chain_places, times}
use Rattle.image_objects.specs.declared.rows.ImageRow.{ImageRow}
use Rattle.image_objects.specs.Chains.{chain_view}
use Rattle.checkpoint.specs.Held.{is_checkpoint_kind, is_one_of, of_checkpoints, seen_of}
use Rattle.checkpoint.proofs.OwnBlocks.{IsOwn, seen_own}
use Rattle.image_objects.specs.Inodes.{checkpoint_places_used}
use Rattle.image_objects.specs.VersionChain.{named_at, checkpoint_view}
use Rattle.image_objects.specs.Objects.{pointers_used}
use Rattle.image_objects.specs.Naming.{NamesUsed, IsNamedBy, HoldsWhatIsNamed}
use Rattle.image_objects.specs.Rows.{RowsAscend}
use Rattle.image_objects.proofs.Listed.{one_row}

-- ---- a block that is seen as one of a kind and of an object

pub record Seen (k : BlockKind) (o : ℕ) (found : Option Stored) (bytes : List ℕ) : Type 0 where
  pub block : Stored
  pub there : found ≡ Some block
  pub kind : block.kind ≡ k
  pub object : block.object ≡ o
  pub same : block.bytes ≡ bytes

pub seen : (k : BlockKind) (o : ℕ) (found : Option Stored) (bytes : List ℕ) → seen_as k o found ≡ Some bytes → Seen k o found bytes
seen k o None bytes h = absurd (none-some bytes h)
seen k o (Some block) bytes h =
    let test = same_kind k block.kind && block.object == o in
    elim (cases_Bool test) [
      | inl is ↦ (let parts = and_parts (same_kind k block.kind) (block.object == o) is in
          record {
            block = block;
            there = refl;
            kind = (sym (one_kind k block.kind parts.0));
            object = eqb-true block.object o parts.1;
            same = same_Some block.bytes bytes (sym (cond-true test (Some block.bytes) None is) ∙ h);
          })
      | inr ne ↦ absurd (none-some bytes (sym (cond-false test (Some block.bytes) None ne) ∙ h))
    ]

pub seen_here : (k : BlockKind) (o : ℕ) (found : Option Stored) (block : Stored) → found ≡ Some block → block.kind ≡ k → block.object ≡ o → seen_as k o found ≡ Some block.bytes
seen_here k o found block there kind object =
    ap (seen_as k o) there
    ∙ cond-true (same_kind k block.kind && block.object == o) (Some block.bytes) None
    (and_from (same_kind k block.kind) (block.object == o) (ap (same_kind k) kind ∙ same_kind_itself k) (eq-eqb block.object o object))

-- ---- of an object's blocks of a kind, those are held that the row names

pub held_named : (used held : Place → Option Stored) (rows : List ImageRow) (clock : ℕ) (row : ImageRow) (k : BlockKind) (p : Place) (bytes : List ℕ) → RowsAscend clock 0 0 rows → HoldsWhatIsNamed used held rows → Contains rows row
    → of_kind k row.object held p ≡ Some bytes → (of_kind k row.object used p ≡ Some bytes) × NamesUsed used row k p
held_named used held rows clock row k p bytes ascend holds there h =
    let s : Seen k row.object (held p) bytes = seen k row.object (held p) bytes h in
    let n : IsNamedBy used rows p s.block = holds.named p s.block s.there in
    let same : n.row ≡ row = one_row clock 0 0 rows n.row row ascend n.listed there (n.object ∙ s.object) in (
      seen_here k row.object (used p) s.block (holds.kept p s.block s.there) s.kind s.object ∙ ap (λ (b : List ℕ). Some b) s.same,
      subst (λ (r : ImageRow). NamesUsed used r k p) same (subst (λ (kind : BlockKind). NamesUsed used n.row kind p) s.kind n.names),
    )

pub named_held : (used held : Place → Option Stored) (rows : List ImageRow) (row : ImageRow) (k : BlockKind) (p : Place) (bytes : List ℕ) → HoldsWhatIsNamed used held rows → Contains rows row
    → of_kind k row.object used p ≡ Some bytes → NamesUsed used row k p → of_kind k row.object held p ≡ Some bytes
named_held used held rows row k p bytes holds there h names =
    let s : Seen k row.object (used p) bytes = seen k row.object (used p) bytes h in
    let n : IsNamedBy used rows p s.block = record { row = row; listed = there; object = sym s.object; names = subst (λ (kind : BlockKind). NamesUsed used row kind p) (sym s.kind) names } in
    seen_here k row.object (held p) s.block (holds.all p s.block s.there n) s.kind s.object ∙ ap (λ (b : List ℕ). Some b) s.same

-- ---- as views of journal and checkpoint

same_options : {X : Type 0} (a b : Option X) → ((x : X) → a ≡ Some x → b ≡ Some x) → ((x : X) → b ≡ Some x → a ≡ Some x) → a ≡ b
same_options None None forth back = refl
same_options None (Some y) forth back = back y refl
same_options (Some x) b forth back = sym (forth x refl)

pub journal_held : (used held : Place → Option Stored) (rows : List ImageRow) (clock : ℕ) (row : ImageRow) → RowsAscend clock 0 0 rows → HoldsWhatIsNamed used held rows → Contains rows row
    → (p : Place) → of_kind Journal row.object held p ≡ chain_view used row p
journal_held used held rows clock row ascend holds there p =
    let count = times p (chain_places (of_kind Journal row.object used) row.object row.head) in
    let here = of_kind Journal row.object used p in
    same_options (of_kind Journal row.object held p) (chain_view used row p)
    (λ x h. let (is, names) = held_named used held rows clock row Journal p x ascend holds there h in cond-true (ltb 0 count) here None (lt-ltb 0 count names) ∙ is)
    (λ x h. elim (cases_Bool (ltb 0 count)) [
      | inl is ↦ named_held used held rows row Journal p x holds there (sym (cond-true (ltb 0 count) here None is) ∙ h) (ltb-true 0 count is)
      | inr ne ↦ absurd (none-some x (sym (cond-false (ltb 0 count) here None ne) ∙ h))
    ])

named_there : (view : BlockView) (places : List Place) (p : Place) (x : List ℕ) → named_at places view p ≡ Some x → (view p ≡ Some x) × (is_one_of places p ≡ true)
named_there view places p x h = elim (cases_Bool (is_one_of places p)) [
  | inl is ↦ (sym (cond-true (is_one_of places p) (view p) None is) ∙ h, is)
  | inr ne ↦ absurd (none-some x (sym (cond-false (is_one_of places p) (view p) None ne) ∙ h))
]

-- a block of checkpoints is named where its place is one of those of the row's checkpoint, and there alone
pub kind_named : (used : Place → Option Stored) (row : ImageRow) (p : Place) (k : BlockKind) → is_checkpoint_kind k ≡ true → is_one_of (checkpoint_places_used used row) p ≡ true → IsSome (of_kind k row.object used p) → NamesUsed used row k p
kind_named used row p Journal own is some = absurd (false≢true own)
kind_named used row p Checkpoint own is some = (is, some)
kind_named used row p Data own is some = absurd (false≢true own)
kind_named used row p Pointers own is some = (is, some)

named_one : (used : Place → Option Stored) (row : ImageRow) (p : Place) (k : BlockKind) → is_checkpoint_kind k ≡ true → NamesUsed used row k p → is_one_of (checkpoint_places_used used row) p ≡ true
named_one used row p Journal own names = absurd (false≢true own)
named_one used row p Checkpoint own names = names.0
named_one used row p Data own names = absurd (false≢true own)
named_one used row p Pointers own names = names.0

pub own_named : (used : Place → Option Stored) (row : ImageRow) (p : Place) (own : IsOwn row.object (used p)) → is_one_of (checkpoint_places_used used row) p ≡ true → NamesUsed used row own.block.kind p
own_named used row p own is = kind_named used row p own.block.kind own.kind is (ap is_some (seen_here own.block.kind row.object (used p) own.block own.is refl own.object))

own_held : (used held : Place → Option Stored) (rows : List ImageRow) (row : ImageRow) (p : Place) → HoldsWhatIsNamed used held rows → Contains rows row → (own : IsOwn row.object (used p)) → is_one_of (checkpoint_places_used used row) p ≡ true → held p ≡ Some own.block
own_held used held rows row p holds there own is =
    let n : IsNamedBy used rows p own.block = record { row = row; listed = there; object = sym own.object; names = own_named used row p own is } in
    holds.all p own.block own.is n

held_one : (used held : Place → Option Stored) (rows : List ImageRow) (clock : ℕ) (row : ImageRow) (p : Place) → RowsAscend clock 0 0 rows → HoldsWhatIsNamed used held rows → Contains rows row → IsOwn row.object (held p) → is_one_of (checkpoint_places_used used row) p ≡ true
held_one used held rows clock row p ascend holds there own =
    let n : IsNamedBy used rows p own.block = holds.named p own.block own.is in
    let same : n.row ≡ row = one_row clock 0 0 rows n.row row ascend n.listed there (n.object ∙ own.object) in
    named_one used row p own.block.kind own.kind (subst (λ (r : ImageRow). NamesUsed used r own.block.kind p) same n.names)

pub checkpoint_held : (used held : Place → Option Stored) (rows : List ImageRow) (clock : ℕ) (row : ImageRow) → RowsAscend clock 0 0 rows → HoldsWhatIsNamed used held rows → Contains rows row
    → (p : Place) → of_checkpoints row.object held p ≡ checkpoint_view used row p
checkpoint_held used held rows clock row ascend holds there p =
    let o = row.object in
    let places = checkpoint_places_used used row in
    same_options (of_checkpoints o held p) (checkpoint_view used row p)
    (λ x h.
    (let own : IsOwn o (held p) = seen_own o (held p) (ap is_some h) in
    let one = held_one used held rows clock row p ascend holds there own in
    let same : used p ≡ held p = holds.kept p own.block own.is ∙ sym own.is in
    cond-true (is_one_of places p) (of_checkpoints o used p) None one ∙ ap (seen_of o) same ∙ h))
    (λ x h.
    (let (is, one) = named_there (of_checkpoints o used) places p x h in
    let own : IsOwn o (used p) = seen_own o (used p) (ap is_some is) in
    let same : held p ≡ used p = own_held used held rows row p holds there own one ∙ sym own.is in
    ap (seen_of o) same ∙ is))

pub data_held : (used held : Place → Option Stored) (rows : List ImageRow) (clock : ℕ) (row : ImageRow) → RowsAscend clock 0 0 rows → HoldsWhatIsNamed used held rows → Contains rows row
    → (p : Place) (bytes : List ℕ) → (of_kind Data row.object held p ≡ Some bytes) ↔ ((of_kind Data row.object used p ≡ Some bytes) × Contains (pointers_used used row) (Some p))
data_held used held rows clock row ascend holds there p bytes = (
  λ h. held_named used held rows clock row Data p bytes ascend holds there h,
  λ h. named_held used held rows row Data p bytes holds there h.0 h.1,
)
