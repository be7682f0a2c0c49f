-- What an object is rests on its own blocks alone.
use Rattle.std.proofs.Common.{◌≡◌, ℕ, ◌==◌, ◌&&◌, false, List, Option, Some, None, IsSome, refl, sym, ap, subst, ◌∙◌, inl, inr}
use Rattle.std.proofs.lemmas.Bool.{cases_Bool, cond-true, cond-false, false≢true}
use Rattle.std.proofs.lemmas.Option.{none-some, same_Some}
use std.Path.{fun_ext}
use Rattle.s4_types.specs.Pointer.{Place}
use Rattle.block_log.specs.Log.{Log, Stored, of_kind, seen_as, same_kind}
use Rattle.block_log.specs.declared.kinds.BlockKind.{BlockKind}
use Rattle.block_log.specs.declared.kinds.BlockKind.TheVariants.{Journal, Checkpoint, Data, Pointers}
use Rattle.codec.specs.declared.inodes.Inode.{Inode}
use Rattle.journal_chain.specs.Chain.{OnlyJournalChanged}
use Rattle.inode.specs.Contents.{bytes_stored, contents_of, meaning}
use Rattle.inode.specs.Tidiness.{Tidy, PointersHeld, AgreeAt}
use Rattle.inode.specs.Growth.{GrowsBy}
use Rattle.inode.specs.Laws.{OnlyItsBlocksMatter}
use Rattle.checkpoint.proofs.OwnBlocks.{same_checkpoints}
use Rattle.object_map.specs.declared.map.Row.{Row}
use Rattle.object_map.specs.Rows.{row_of}
use Rattle.block_log.proofs.BlockKinds.{seen_is_some}
use Rattle.time_read.specs.Rows.{inode_of}
use Rattle.version_store.specs.Store.{StoreFields, IsStore, IsObject, pointers_of}
use Rattle.version_store.specs.Versions.{Stays, inode_by, inode_in, version_by, version_in}
use Rattle.version_store.specs.private.Below.{RowStays, RowInodeStays, IsByStays}
use Rattle.version_store.proofs.Telling.{Leads, leads_later, same_pointers}

-- ---- blocks

-- a block that is seen as an object's data has the bytes that are seen
seen_bytes : (block : Option Stored) (kind : BlockKind) (o : ℕ) (bytes : List ℕ) → seen_as kind o block ≡ Some bytes → bytes_stored block ≡ bytes
seen_bytes None kind o bytes seen = absurd (none-some bytes seen)
seen_bytes (Some block) kind o bytes seen =
    elim (cases_Bool (same_kind kind block.kind && block.object == o)) [
      | inl is ↦ same_Some block.bytes bytes (sym (cond-true (same_kind kind block.kind && block.object == o) (Some block.bytes) None is) ∙ seen)
      | inr other ↦ absurd (none-some bytes (sym (cond-false (same_kind kind block.kind && block.object == o) (Some block.bytes) None other) ∙ seen))
    ]

pub same_bytes : (kind : BlockKind) (o : ℕ) (before after : Option Stored) (seen : Option (List ℕ)) → seen_as kind o before ≡ seen → IsSome seen → seen_as kind o after ≡ seen → bytes_stored after ≡ bytes_stored before
same_bytes kind o before after None was some is = absurd (false≢true some)
same_bytes kind o before after (Some bytes) was some is = seen_bytes after kind o bytes is ∙ sym (seen_bytes before kind o bytes was)

-- an object's data blocks that were held are held
abbrev pub DataStays : ℕ → (Place → Option Stored) → (Place → Option Stored) → Type 0
DataStays o held later = (p : Place) → IsSome (of_kind Data o held p) → of_kind Data o later p ≡ of_kind Data o held p

pub data_agree : (o : ℕ) (held later : Place → Option Stored) (i : Inode) → DataStays o held later → PointersHeld held o i → AgreeAt (contents_of held) (contents_of later) i
data_agree o held later i stays leads k p at =
    let there = leads k p at in
    same_bytes Data o (held p) (later p) (of_kind Data o held p) refl there (stays p there)

pub data_pointers : (o : ℕ) (held later : Place → Option Stored) (i : Inode) → DataStays o held later → PointersHeld held o i → PointersHeld later o i
data_pointers o held later i stays leads k p at =
    let there = leads k p at in
    subst (λ (seen : Option (List ℕ)). IsSome seen) (sym (stays p there)) there

pub data_there : (o : ℕ) (held later : Place → Option Stored) → DataStays o held later → (p : Place) → IsSome (of_kind Data o held p) → IsSome (of_kind Data o later p)
data_there o held later stays p there = subst (λ (seen : Option (List ℕ)). IsSome seen) (sym (stays p there)) there

-- ---- an object whose blocks stay

pub stays_inode : RowInodeStays → (o : ℕ) (held later : Place → Option Stored) (row : Row) (t : ℕ) → Stays o held later → inode_of later o row t ≡ inode_of held o row t
stays_inode same o held later row t stays = same held later o t row stays.journal stays.checkpoints

pub stays_meaning : RowInodeStays → OnlyItsBlocksMatter → (o : ℕ) (held later : Place → Option Stored) (row : Row) (latest t : ℕ) → Stays o held later → IsObject held o row latest
    → meaning (contents_of later) (inode_of later o row t) ≡ meaning (contents_of held) (inode_of held o row t)
stays_meaning same matter o held later row latest t stays object =
    ap (meaning (contents_of later)) (stays_inode same o held later row t stays)
    ∙ (matter (contents_of held) (contents_of later) (inode_of held o row t) (data_agree o held later (inode_of held o row t) stays.kept (object.pointers t))).0

pub stays_object : RowStays → RowInodeStays → IsByStays → OnlyItsBlocksMatter → (o : ℕ) (held later : Place → Option Stored) (row : Row) (latest : ℕ) → Stays o held later → IsObject held o row latest → IsObject later o row latest
stays_object stands same by matter o held later row latest stays object = record {
  stands = stands held later o row stays.journal stays.checkpoints object.stands;
  by = by held later o row latest stays.journal object.by;
  led = subst (Leads later o) (sym (same_pointers held later o row stays.journal stays.checkpoints)) (leads_later held later o (pointers_of held o row) (data_there o held later stays.kept) object.led);
  tidy = λ t. subst (Tidy (contents_of later)) (sym (stays_inode same o held later row t stays))
      ((matter (contents_of held) (contents_of later) (inode_of held o row t) (data_agree o held later (inode_of held o row t) stays.kept (object.pointers t))).1 (object.tidy t));
  pointers = λ t. subst (PointersHeld later o) (sym (stays_inode same o held later row t stays)) (data_pointers o held later (inode_of held o row t) stays.kept (object.pointers t));
}

-- the same of what a look-up gives
pub inode_by_stays : RowInodeStays → (o t : ℕ) (held later : Place → Option Stored) (row : Option Row) → Stays o held later → inode_by later o t row ≡ inode_by held o t row
inode_by_stays same o t held later None stays = refl
inode_by_stays same o t held later (Some row) stays = ap (λ (i : Inode). Some i) (stays_inode same o held later row t stays)

pub version_by_stays : RowInodeStays → OnlyItsBlocksMatter → (o t latest : ℕ) (held later : Place → Option Stored) (row : Option Row) → Stays o held later → ((r : Row) → row ≡ Some r → IsObject held o r latest)
    → version_by later (inode_by later o t row) ≡ version_by held (inode_by held o t row)
version_by_stays same matter o t latest held later None stays objects = refl
version_by_stays same matter o t latest held later (Some row) stays objects = stays_meaning same matter o held later row latest t stays (objects row refl)

pub inode_in_stays : RowInodeStays → (s later : StoreFields) (o t : ℕ) → row_of later.rows o ≡ row_of s.rows o → Stays o s.log.held later.log.held → inode_in later o t ≡ inode_in s o t
inode_in_stays same s later o t rows stays =
    ap (inode_by later.log.held o t) rows ∙ inode_by_stays same o t s.log.held later.log.held (row_of s.rows o) stays

pub version_in_stays : RowInodeStays → OnlyItsBlocksMatter → (s later : StoreFields) (o t : ℕ) → IsStore s → row_of later.rows o ≡ row_of s.rows o → Stays o s.log.held later.log.held → version_in later o t ≡ version_in s o t
version_in_stays same matter s later o t store rows stays =
    ap (λ (r : Option Row). version_by later.log.held (inode_by later.log.held o t r)) rows
    ∙ version_by_stays same matter o t s.latest s.log.held later.log.held (row_of s.rows o) stays (store.objects o)

-- ---- what leaves an object's blocks

pub growth_stays : (object : ℕ) (blocks : List (List ℕ)) (before after : Log) (o : ℕ) → GrowsBy object blocks before after → Stays o before.held after.held
growth_stays object blocks before after o grows = record {
  journal = fun_ext (λ p. grows.others Journal o p refl);
  checkpoints = same_checkpoints o before.held after.held (fun_ext (λ p. grows.others Checkpoint o p refl)) (fun_ext (λ p. grows.others Pointers o p refl));
  kept = λ p there. ap (seen_as Data o) (grows.kept p (seen_is_some Data o (before.held p) there));
}

pub journal_stays : (object o : ℕ) (held later : Place → Option Stored) → OnlyJournalChanged object held later → (object == o) ≡ false → Stays o held later
journal_stays object o held later only other = record {
  journal = only Journal o other;
  checkpoints = same_checkpoints o held later (only Checkpoint o refl) (only Pointers o refl);
  kept = λ p there. ap (λ (view : Place → Option (List ℕ)). view p) (only Data o refl);
}
