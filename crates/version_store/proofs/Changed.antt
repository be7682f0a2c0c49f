-- One object's row is changed, added, or goes: in whatever way that was done, the store stays one, and what is beside its rows follows.
use Rattle.std.proofs.Common.{◌≡◌, inl, inr, ℕ, ◌+◌, ◌^◌, ◌<◌, ◌≤◌, ◌==◌, ◌&&◌, Bool, false, cond, List, length, Option, Some, None, refl, sym, ap, subst, ◌∙◌, arith}
use Rattle.std.specs.Prelude.{option_map}
use Rattle.std.proofs.lemmas.Bool.{cases_Bool, cond-true, cond-false, and_right, eqb-true}
use Rattle.std.proofs.lemmas.Option.{none-some, same_Some}
use Rattle.s4_types.specs.Pointer.{Place}
use Rattle.s4_types.specs.declared.limits.TheConstants.{SIDES}
use Rattle.block_log.specs.Taken.{TakesPlaces}
use Rattle.block_log.specs.Log.{NamesAreOfData, Stored, of_kind, same_kind}
use Rattle.block_log.specs.declared.kinds.BlockKind.TheVariants.{Journal, Checkpoint, Data, Pointers}
use Rattle.codec.specs.declared.inodes.Inode.{Inode}
use Rattle.codec.specs.Entry.{EntryFields}
use Rattle.checkpoint.specs.Held.{is_checkpoint_kind, OnlyCheckpointChanged}
use Rattle.checkpoint.specs.declared.cache.CacheKey.{CacheKey}
use Rattle.journal_chain.specs.Chain.{OnlyJournalChanged}
use Rattle.checkpoint.proofs.OwnBlocks.{same_checkpoints}
use Rattle.object_map.specs.declared.map.Row.{Row}
use Rattle.object_map.specs.Objects.{value_of}
use Rattle.object_map.specs.Rows.{row_of}
use Rattle.time_read.specs.Orderly.{IsOrderly}
use Rattle.time_read.specs.Presents.{KeepsIndexOf}
use Rattle.time_read.specs.declared.presents.Present.{Present}
use Rattle.time_read.proofs.Staying.{same_entries}
use Rattle.version_store.specs.Store.{StoreFields, IsStore, IsObject, IsNamedBy, HasNothing, named_of, pointers_named}
use Rattle.version_store.specs.Versions.{Stays, entries_of_row, entries_of_object, inode_by, inode_in, version_by, version_in}
use Rattle.version_store.specs.Replacing.{OtherObjectsStay}
use Rattle.version_store.specs.private.Below.{ChangesStand, LastInodeStays}
use Rattle.version_store.specs.private.Beside.{IsBeside, IsTrueCache}
use Rattle.version_store.proofs.Frames.{stays_object, inode_in_stays, version_by_stays}
use Rattle.version_store.proofs.Recounted.{counted_beside}
use Rattle.version_store.proofs.Across.{IsAcross}

-- ---- what is said of one object, of all others, and of a change

-- what a store keeps of an object that has this row
pub record Keeps (s : StoreFields) (o : ℕ) (row : Row) : Type 0 where
  pub object : IsObject s.log.held o row s.latest
  pub orderly : IsOrderly s.log.held o row s.latest
  pub counted : IsNamedBy o s.log (pointers_named s.log.held o row)
  pub few : length row.sides ≤ SIDES
  pub stamp : row.stamp ≤ s.log.spent

-- all that a store keeps but of one object
pub record OthersKeep (s : StoreFields) (o : ℕ) : Type 0 where
  pub each : (q : ℕ) (row : Row) → (o == q) ≡ false → row_of s.rows q ≡ Some row → Keeps s q row
  pub nothing : (q : ℕ) → (o == q) ≡ false → row_of s.rows q ≡ None → HasNothing s.log.held q
  pub bounded : s.log.spent + length s.log.ahead < 2 ^ 46

-- One object has this next row, or none any more, and this many places were taken for that; all others are as they were.
pub record Changes (s later : StoreFields) (o count : ℕ) (next : Option Row) : Type 0 where
  pub put : (q : ℕ) → row_of later.rows q ≡ cond (o == q) next (row_of s.rows q)
  pub here : (row : Row) → next ≡ Some row → Keeps later o row
  pub gone : next ≡ None → HasNothing later.log.held o
  pub names : NamesAreOfData later.log
  pub beside : (q : ℕ) (p : Place) → (o == q) ≡ false → named_of q later.log p ≡ named_of q s.log p
  pub others : OtherObjectsStay o s.log.held later.log.held
  pub takes : TakesPlaces count s.log later.log
  pub sum : later.log.spent + length later.log.ahead ≡ s.log.spent + length s.log.ahead
  pub latest : s.latest ≤ later.latest
  pub across : IsAcross later.log.held later.rows

pub store_keeps : (s : StoreFields) (o : ℕ) (row : Row) → IsStore s → row_of s.rows o ≡ Some row → Keeps s o row
store_keeps s o row store there = record {
  object = store.objects o row there;
  orderly = store.orderly o row there;
  counted = store.counted o row there;
  few = store.few o row there;
  stamp = store.stamps o row there;
}

pub store_others : (s : StoreFields) (o : ℕ) → IsStore s → OthersKeep s o
store_others s o store = record {
  each = λ q row other there. store_keeps s q row store there;
  nothing = λ q other none. store.nothing q none;
  bounded = store.bounded;
}

pub journal_others : (o : ℕ) (held later : Place → Option Stored) → OnlyJournalChanged o held later → OtherObjectsStay o held later
journal_others o held later only kind other beside = only kind other (and_right (same_kind Journal kind) (o == other) beside)

pub checkpoint_others : (o : ℕ) (held later : Place → Option Stored) → OnlyCheckpointChanged o held later → OtherObjectsStay o held later
checkpoint_others o held later only kind other beside = only kind other (and_right (is_checkpoint_kind kind) (o == other) beside)

pub other_stays : (o q : ℕ) (held later : Place → Option Stored) → OtherObjectsStay o held later → (o == q) ≡ false → Stays q held later
other_stays o q held later others beside = record {
  journal = others Journal q beside;
  checkpoints = same_checkpoints q held later (others Checkpoint q beside) (others Pointers q beside);
  kept = λ p there. ap (λ (view : Place → Option (List ℕ)). view p) (others Data q beside);
}

-- what is kept of a row that is there is kept of each that it is
pub some_keeps : (later : StoreFields) (o : ℕ) (row : Row) → Keeps later o row → (r : Row) → Some row ≡ Some r → Keeps later o r
some_keeps later o row keeps r e = subst (Keeps later o) (same_Some row r e) keeps

pub some_stays : (row : Row) (P : Type 0) → Some row ≡ None → P
some_stays row P e = absurd (none-some row (sym e))

-- ---- the store

kept_row : ChangesStand → (s later : StoreFields) (o count : ℕ) (next : Option Row) → Changes s later o count next → (q : ℕ) (row : Row) → (o == q) ≡ false → Keeps s q row → Keeps later q row
kept_row rest s later o count next c q row other keeps =
    let stays = other_stays o q s.log.held later.log.held c.others other in
    let object = stays_object rest.row rest.inode rest.journal rest.meaning q s.log.held later.log.held row s.latest stays keeps.object in
    let more : later.log.spent ≡ count + s.log.spent = c.takes.spent in
    let bound = keeps.stamp in
    record {
      object = record { stands = object.stands; by = rest.later later.log.held q row s.latest later.latest c.latest object.by; led = object.led; tidy = object.tidy; pointers = object.pointers };
      orderly = rest.orderly.later later.log.held q row s.latest later.latest c.latest (rest.orderly.blocks s.log.held later.log.held q s.latest row stays.journal stays.checkpoints keeps.orderly);
      counted = counted_beside s.log later.log q row stays.journal stays.checkpoints (λ p. c.beside q p other) keeps.counted;
      few = keeps.few;
      stamp = omega (arith, bound, more);
    }

each_row : ChangesStand → (s later : StoreFields) (o count : ℕ) (next : Option Row) → OthersKeep s o → Changes s later o count next → (q : ℕ) (row : Row) → row_of later.rows q ≡ Some row → Keeps later q row
each_row rest s later o count next others c q row e = elim (cases_Bool (o == q)) [
  | inl is ↦ subst (λ (n : ℕ). Keeps later n row) (eqb-true o q is) (c.here row (sym (cond-true (o == q) next (row_of s.rows q) is) ∙ sym (c.put q) ∙ e))
  | inr other ↦ kept_row rest s later o count next c q row other (others.each q row other (sym (cond-false (o == q) next (row_of s.rows q) other) ∙ sym (c.put q) ∙ e))
]

none_there : (s later : StoreFields) (o count : ℕ) (next : Option Row) → OthersKeep s o → Changes s later o count next → (q : ℕ) → row_of later.rows q ≡ None → HasNothing later.log.held q
none_there s later o count next others c q e = elim (cases_Bool (o == q)) [
  | inl is ↦ subst (λ (n : ℕ). HasNothing later.log.held n) (eqb-true o q is) (c.gone (sym (cond-true (o == q) next (row_of s.rows q) is) ∙ sym (c.put q) ∙ e))
  | inr other ↦ λ kind p. ap (λ (view : Place → Option (List ℕ)). view p) (c.others kind q other)
      ∙ others.nothing q other (sym (cond-false (o == q) next (row_of s.rows q) other) ∙ sym (c.put q) ∙ e) kind p
]

pub changed_store : ChangesStand → (s later : StoreFields) (o count : ℕ) (next : Option Row) → OthersKeep s o → Changes s later o count next → IsStore later
changed_store rest s later o count next others c =
    let each = each_row rest s later o count next others c in
    record {
      objects = λ q row e. (each q row e).object;
      orderly = λ q row e. (each q row e).orderly;
      names = c.names;
      counted = λ q row e. (each q row e).counted;
      few = λ q row e. (each q row e).few;
      nothing = none_there s later o count next others c;
      stamps = λ q row e. (each q row e).stamp;
      bounded = let bound = others.bounded in let sum = c.sum in omega (arith, bound, sum);
      ascending = c.across.ascending;
      apart = c.across.apart;
    }

-- ---- inodes and versions

-- what is asked of one object, and of each other one, is asked of each
pub own_or_other : {X : Type 0} (o q : ℕ) (f : ℕ → X) → cond (o == q) (f o) (f q) ≡ f q
own_or_other o q f = elim (cases_Bool (o == q)) [
  | inl is ↦ cond-true (o == q) (f o) (f q) is ∙ ap f (eqb-true o q is)
  | inr other ↦ cond-false (o == q) (f o) (f q) other
]

-- what is asked of one object is asked of its own number
pub own_there : {X : Type 0} (o q : ℕ) (f : ℕ → X) (x : X) → cond (o == q) (f o) x ≡ cond (o == q) (f q) x
own_there {X} o q f x = elim (cases_Bool (o == q)) [
  | inl is ↦ ap (λ (y : X). cond (o == q) y x) (ap f (eqb-true o q is))
  | inr other ↦ cond-false (o == q) (f o) x other ∙ sym (cond-false (o == q) (f q) x other)
]

-- and where that is told from a moment on
pub own_within : {X : Type 0} (o q : ℕ) (b : Bool) (x : X) (f : ℕ → X) → cond (o == q) (cond b x (f o)) (f q) ≡ cond (o == q && b) x (f q)
own_within o q b x f = elim (cases_Bool (o == q)) [
  | inl is ↦ cond-true (o == q) (cond b x (f o)) (f q) is ∙ ap (λ (n : ℕ). cond b x (f n)) (eqb-true o q is) ∙ ap (λ (a : Bool). cond (a && b) x (f q)) (sym is)
  | inr other ↦ cond-false (o == q) (cond b x (f o)) (f q) other ∙ ap (λ (a : Bool). cond (a && b) x (f q)) (sym other)
]

pub changed_inodes : ChangesStand → (s later : StoreFields) (o count : ℕ) (next : Option Row) → Changes s later o count next → (q t : ℕ) → inode_in later q t ≡ cond (o == q) (inode_by later.log.held o t next) (inode_in s q t)
changed_inodes rest s later o count next c q t = elim (cases_Bool (o == q)) [
  | inl is ↦
      ap (inode_by later.log.held q t) (c.put q ∙ cond-true (o == q) next (row_of s.rows q) is)
      ∙ subst (λ (n : ℕ). inode_by later.log.held n t next ≡ inode_by later.log.held o t next) (eqb-true o q is) refl
      ∙ sym (cond-true (o == q) (inode_by later.log.held o t next) (inode_in s q t) is)
  | inr other ↦ inode_in_stays rest.inode s later q t (c.put q ∙ cond-false (o == q) next (row_of s.rows q) other) (other_stays o q s.log.held later.log.held c.others other)
      ∙ sym (cond-false (o == q) (inode_by later.log.held o t next) (inode_in s q t) other)
]

pub changed_versions : ChangesStand → (s later : StoreFields) (o count : ℕ) (next : Option Row) → OthersKeep s o → Changes s later o count next
    → (q t : ℕ) → version_in later q t ≡ cond (o == q) (version_by later.log.held (inode_by later.log.held o t next)) (version_in s q t)
changed_versions rest s later o count next others c q t = elim (cases_Bool (o == q)) [
  | inl is ↦
      ap (version_by later.log.held) (changed_inodes rest s later o count next c q t ∙ cond-true (o == q) (inode_by later.log.held o t next) (inode_in s q t) is)
      ∙ sym (cond-true (o == q) (version_by later.log.held (inode_by later.log.held o t next)) (version_in s q t) is)
  | inr other ↦
      ap (λ (r : Option Row). version_by later.log.held (inode_by later.log.held q t r)) (c.put q ∙ cond-false (o == q) next (row_of s.rows q) other)
      ∙ version_by_stays rest.inode rest.meaning q t s.latest s.log.held later.log.held (row_of s.rows q) (other_stays o q s.log.held later.log.held c.others other) (λ r e. (others.each q r other e).object)
      ∙ sym (cond-false (o == q) (version_by later.log.held (inode_by later.log.held o t next)) (version_in s q t) other)
]

-- ---- what is beside the rows

pub inode_by_latest : LastInodeStays → (held : Place → Option Stored) (o latest t : ℕ) (row : Option Row) → ((r : Row) → row ≡ Some r → IsObject held o r latest) → latest ≤ t → inode_by held o t row ≡ inode_by held o latest row
inode_by_latest last held o latest t None objects le = refl
inode_by_latest last held o latest t (Some row) objects le = ap (λ (i : Inode). Some i) (last held o row latest t (objects row refl).by le)

pub entries_of_row_stay : (held later : Place → Option Stored) (q : ℕ) (row : Option Row) → of_kind Journal q later ≡ of_kind Journal q held → entries_of_row later q row ≡ entries_of_row held q row
entries_of_row_stay held later q None same = refl
entries_of_row_stay held later q (Some row) same = same_entries held later q row same

pub changed_beside : ChangesStand → (s later : StoreFields) (o count : ℕ) (next : Option Row) (values after : List (ℕ × Present)) (pairs kept : List (CacheKey × Inode)) (v : Option Present) → OthersKeep s o → Changes s later o count next
    → ((q : ℕ) → value_of after q ≡ cond (o == q) v (value_of values q)) → option_map (λ p. p.inode) v ≡ inode_by later.log.held o later.latest next → KeepsIndexOf v (entries_of_row later.log.held o next)
    → IsTrueCache later.log.held later.rows kept → IsBeside values pairs s → IsBeside after kept later
changed_beside rest s later o count next values after pairs kept v others c put inode index cached beside = record {
  inodes = λ q. elim (cases_Bool (o == q)) [
    | inl is ↦
        ap (option_map (λ p. p.inode)) (put q ∙ cond-true (o == q) v (value_of values q) is) ∙ inode
        ∙ sym (changed_inodes rest s later o count next c q later.latest ∙ cond-true (o == q) (inode_by later.log.held o later.latest next) (inode_in s q later.latest) is)
    | inr other ↦
        ap (option_map (λ p. p.inode)) (put q ∙ cond-false (o == q) v (value_of values q) other) ∙ beside.inodes q
        ∙ sym (inode_by_latest rest.last s.log.held q s.latest later.latest (row_of s.rows q) (λ r e. (others.each q r other e).object) c.latest)
        ∙ sym (changed_inodes rest s later o count next c q later.latest ∙ cond-false (o == q) (inode_by later.log.held o later.latest next) (inode_in s q later.latest) other)
  ];
  indexes = λ q. elim (cases_Bool (o == q)) [
    | inl is ↦
        let now : entries_of_object later q ≡ entries_of_row later.log.held o next =
        ap (entries_of_row later.log.held q) (c.put q ∙ cond-true (o == q) next (row_of s.rows q) is)
        ∙ subst (λ (n : ℕ). entries_of_row later.log.held n next ≡ entries_of_row later.log.held o next) (eqb-true o q is) refl in
        subst (λ (p : Option Present). KeepsIndexOf p (entries_of_object later q)) (sym (put q ∙ cond-true (o == q) v (value_of values q) is))
        (subst (λ (es : List EntryFields). KeepsIndexOf v es) (sym now) index)
    | inr other ↦
        let same : entries_of_object later q ≡ entries_of_object s q =
        ap (entries_of_row later.log.held q) (c.put q ∙ cond-false (o == q) next (row_of s.rows q) other)
        ∙ entries_of_row_stay s.log.held later.log.held q (row_of s.rows q) (c.others Journal q other) in
        subst (λ (p : Option Present). KeepsIndexOf p (entries_of_object later q)) (sym (put q ∙ cond-false (o == q) v (value_of values q) other))
        (subst (λ (es : List EntryFields). KeepsIndexOf (value_of values q) es) (sym same) (beside.indexes q))
  ];
  cached = cached;
}
