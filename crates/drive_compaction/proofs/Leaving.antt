-- The objects of held blocks have rows.
use Rattle.std.proofs.Common.{◌≡◌, ℕ, Bool, true, ◌&&◌, ◌==◌, if◌then◌else◌, Option, Some, None, inl, inr, refl, sym, ap, subst, ◌∙◌}
use Rattle.std.specs.Prelude.{option_map}
use Rattle.std.proofs.lemmas.Bool.{eq-eqb, and_from}
use Rattle.s4_types.specs.Pointer.{Place}
use Rattle.s4_types.specs.declared.refusals.Refusal.{Refusal}
use Rattle.block_log.specs.Log.{Stored, same_kind, seen_as}
use Rattle.codec.specs.declared.summaries.BlockRole.{BlockRole}
use Rattle.object_map.specs.Rows.{row_of}
use Rattle.block_log.proofs.BlockKinds.{same_kind_itself}
use Rattle.segment_table.specs.Table.{held_at, role_of}
use Rattle.version_store.specs.Store.{IsStore}
use Rattle.drive.specs.Fields.{DriveFields, store_of}
use Rattle.segment_copier.specs.Gathering.{IsKeptBack, IsUnmade}
use Rattle.drive_compaction.specs.Emptying.{Stays}

-- ---- what is held has a row

seen_itself : (block : Stored) (o : ℕ) → block.object ≡ o → seen_as block.kind o (Some block) ≡ None → ⊥
seen_itself block o is none =
    let both : (same_kind block.kind block.kind && block.object == o) ≡ true = and_from (same_kind block.kind block.kind) (block.object == o) (same_kind_itself block.kind) (eq-eqb block.object o is) in
    let some : Some block.bytes ≡ None = sym (ap (λ (b : Bool). if b then Some block.bytes else None) both) ∙ none in
    absurd (cc)

has_row : (d : DriveFields) (p : Place) (block : Stored) (o : ℕ) → IsStore (store_of d) → held_at d.store.table p ≡ Some block → block.object ≡ o → row_of d.store.rows o ≡ None → ⊥
has_row d p block o store held is none = seen_itself block o is (ap (seen_as block.kind o) (sym held) ∙ store.nothing o none block.kind p)

-- a held block, by what it is for
pub record IsOf (d : DriveFields) (p : Place) (o : ℕ) : Type 0 where
  pub block : Stored
  pub held : held_at d.store.table p ≡ Some block
  pub object : block.object ≡ o

block_from : (held : Option Stored) (role : BlockRole) → Some role ≡ option_map role_of held → (block : Stored) × (held ≡ Some block) × (block.object ≡ role.object)
block_from None role e = absurd (cc)
block_from (Some block) role e =
    let same : role_of block ≡ role = (cc) in
    (block, refl, ap (λ (r : BlockRole). r.object) same)

pub held_role : (d : DriveFields) (p : Place) (role : BlockRole) → Some role ≡ option_map role_of (held_at d.store.table p) → IsOf d p role.object
held_role d p role e =
    let found = block_from (held_at d.store.table p) role e in
    record { block = found.0; held = found.1; object = found.2 }

-- where its move isn't made, the object stays for lack of room, of memory or of a pin
pub stays : (d later : DriveFields) (p : Place) (o : ℕ) (e : Refusal) → IsStore (store_of d) → IsOf d p o → store_of later ≡ store_of d → IsUnmade d p.frame o e → Stays d p e later
stays d later p o e store is same why = record {
  block = is.block;
  held = is.held;
  same = same;
  why = subst (λ (n : ℕ). IsKeptBack d p.frame n e) (sym is.object) (elim why [
    | inl none ↦ absurd (has_row d p is.block o store is.held is.object none.1)
    | inr kept ↦ kept
  ]);
}
