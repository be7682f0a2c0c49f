-- What reads of a moment give of a version.
use Rattle.std.proofs.Common.{◌≡◌, ◌∙◌, ◌≤◌, ◌+◌, ◌++◌, ◌⊎◌, inl, inr, ℕ, true, List, length, take, drop, Option, Some, None, refl, sym, ap, ap₂, subst, arith}
use Rattle.std.proofs.Math.Seq.{take-add}
use Rattle.std.proofs.lemmas.Bool.{cond-true, le-ltb}
use Rattle.std.proofs.lemmas.List.{take_all}
use Rattle.s4_types.specs.Pointer.{Place}
use Rattle.s4_types.specs.declared.limits.TheConstants.{OBJECT_BYTES, READ_BYTES}
use Rattle.s4_types.specs.declared.replies.Reply.TheVariants.{Data}
use Rattle.s4_types.specs.declared.requests.Role.{Role}
use Rattle.s4_types.specs.declared.requests.Request.TheVariants.{Query}
use Rattle.s4_types.specs.declared.requests.Question.TheVariants.{Read}
use Rattle.s4_types.specs.declared.refusals.Refusal.{Refusal}
use Rattle.s4_types.specs.declared.refusals.Refusal.TheVariants.{NoMemory, Busy}
use Rattle.s4_types.specs.declared.versions.Version.{Version}
use Rattle.s4_types.specs.declared.versions.Version.TheVariants.{Absent, Live}
use Rattle.s4_model.specs.State.{State}
use Rattle.s4_model.specs.Step.{data_of}
use Rattle.s4_model.specs.Refusals.{first_refusal, last_number}
use Rattle.s4_model.specs.VersionAt.{version_of}
use Rattle.s4_model.specs.Visible.{IsVisible}
use Rattle.block_log.specs.Log.{Stored}
use Rattle.codec.specs.declared.inodes.Inode.{Inode}
use Rattle.inode.specs.Contents.{contents_of, bytes_of}
use Rattle.object_map.specs.declared.map.Row.{Row}
use Rattle.object_map.specs.Rows.{row_of}
use Rattle.time_read.specs.Rows.{inode_of}
use Rattle.version_store.specs.Store.{StoreFields, IsStore}
use Rattle.version_store.specs.Versions.{inode_in, inode_by}
use Rattle.drive.specs.Keeping.{DecodesWhereVisible}
use Rattle.history_view.proofs.Shown.{version_by_inode, size_is_long}

-- an inode of a store is within the limit
small_by : (held : Place → Option Stored) (o t : ℕ) (found : Option Row) (i : Inode) → ((row : Row) → found ≡ Some row → (inode_of held o row t).size ≤ OBJECT_BYTES) → inode_by held o t found ≡ Some i → i.size ≤ OBJECT_BYTES
small_by held o t None i small is = absurd cc
small_by held o t (Some row) i small is = subst (λ (j : Inode). j.size ≤ OBJECT_BYTES) (inside is) (small row refl)
  where
    inside : Some (inode_of held o row t) ≡ Some i → inode_of held o row t ≡ i
    inside e = cc

pub inode_is_small : (store : StoreFields) (o t : ℕ) (i : Inode) → IsStore store → inode_in store o t ≡ Some i → i.size ≤ OBJECT_BYTES
inode_is_small store o t i stands is = small_by store.log.held o t (row_of store.rows o) i (λ row found. ((stands.objects o row found).tidy t).size) is

-- the version of a live inode
live_by_inode : (s : State) (store : StoreFields) (o t : ℕ) (i : Inode) → DecodesWhereVisible store s → IsVisible s o t → inode_in store o t ≡ Some i → i.alive ≡ true
    → version_of s o t ≡ Live (bytes_of (contents_of store.log.held) i) i.attribute i.created i.changed
live_by_inode s store o t i decodes visible is alive =
    version_by_inode s store o t (Some i) decodes visible is ∙ cond-true i.alive (Live (bytes_of (contents_of store.log.held) i) i.attribute i.created i.changed) Absent alive

-- a read of this many bytes is all of a version that has no more
all_of_it : (content attribute bytes : List ℕ) (created changed n : ℕ) → length content ≤ n → data_of (Live content attribute created changed) 0 n ≡ Some (Data bytes) → bytes ≡ content
all_of_it content attribute bytes created changed n short is = sym (inside is) ∙ take_all n content short
  where
    inside : Some (Data (take n content)) ≡ Some (Data bytes) → take n content ≡ bytes
    inside e = cc

pub version_is_read : (s : State) (store : StoreFields) (o t n : ℕ) (i : Inode) (bytes : List ℕ) → DecodesWhereVisible store s → IsVisible s o t → inode_in store o t ≡ Some i → i.alive ≡ true → i.size ≤ n
    → data_of (version_of s o t) 0 n ≡ Some (Data bytes) → Live bytes i.attribute i.created i.changed ≡ version_of s o t
version_is_read s store o t n i bytes decodes visible is alive within read =
    let content = bytes_of (contents_of store.log.held) i in
    let live : version_of s o t ≡ Live content i.attribute i.created i.changed = live_by_inode s store o t i decodes visible is alive in
    let short : length content ≤ n = omega (arith, size_is_long (contents_of store.log.held) i, within) in
    ap (λ (b : List ℕ). Live b i.attribute i.created i.changed)
    (all_of_it content i.attribute bytes i.created i.changed n short (subst (λ (v : Version). data_of v 0 n ≡ Some (Data bytes)) live read))
    ∙ sym live

-- what two reads give, one where the other ends, is what one read of both lengths gives
pub reads_join : (v : Version) (n m : ℕ) (front back : List ℕ) → data_of v 0 n ≡ Some (Data front) → data_of v n m ≡ Some (Data back) → data_of v 0 (n + m) ≡ Some (Data (front ++ back))
reads_join Absent n m front back first second = absurd cc
reads_join (Live content attribute created changed) n m front back first second =
    ap (λ (b : List ℕ). Some (Data b)) (take-add n m content ∙ ap₂ (λ (a b : List ℕ). a ++ b) (inside (take n content) front first) (inside (take m (drop n content)) back second))
  where
    inside : (a b : List ℕ) → Some (Data a) ≡ Some (Data b) → a ≡ b
    inside a b e = cc

-- no check refuses a read of a live object, at a moment that can be read
not_refused : (s : State) (role : Role) (o t offset : ℕ) (content attribute : List ℕ) (created changed : ℕ) → IsVisible s o t → version_of s o t ≡ Live content attribute created changed → offset + READ_BYTES ≤ last_number
    → first_refusal s role (Query (Read o offset READ_BYTES (Some t))) ≡ None
not_refused s role o t offset content attribute created changed visible live within =
    rw (le-ltb last_number (offset + READ_BYTES) within, le-ltb s.clock t visible.reached, le-ltb t s.floor visible.kept, visible.shown, live) refl

-- so it is left open alone, from each offset within the limit
pub left_open : (s later : State) (store : StoreFields) (role : Role) (o t offset : ℕ) (i : Inode) (e : Refusal) → DecodesWhereVisible store s → IsVisible s o t → inode_in store o t ≡ Some i → i.alive ≡ true → later ≡ s → offset ≤ OBJECT_BYTES
    → (first_refusal later role (Query (Read o offset READ_BYTES (Some t))) ≡ Some e) ⊎ ((e ≡ NoMemory) ⊎ (e ≡ Busy)) → (e ≡ NoMemory) ⊎ (e ≡ Busy)
left_open s later store role o t offset i e decodes visible is alive same small refused =
    let none : first_refusal s role (Query (Read o offset READ_BYTES (Some t))) ≡ None =
    not_refused s role o t offset (bytes_of (contents_of store.log.held) i) i.attribute i.created i.changed visible (live_by_inode s store o t i decodes visible is alive) (omega (arith, small)) in
    elim refused [
      | inl first ↦ let some : None ≡ Some e = sym none ∙ subst (λ (z : State). first_refusal z role (Query (Read o offset READ_BYTES (Some t))) ≡ Some e) same first in absurd cc
      | inr other ↦ other
    ]
