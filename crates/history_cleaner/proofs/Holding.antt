-- After an object was cleaned exactly those of its data blocks are held that are reached.
use Rattle.std.proofs.Common.{◌≡◌, ℕ, ◌==◌, Result, Ok, Err, List, Option, Some, None, IsSome, refl, sym, ap, subst, ◌∙◌}
use Rattle.std.specs.Prelude.{if◌then◌else◌, IfSome, OnOk}
use Rattle.std.specs.List.{Contains}
use Rattle.std.proofs.lemmas.Bool.{eq-eqb, cond-true, false≢true}
use Rattle.std.proofs.lemmas.Option.{same_Some, none-some}
use Rattle.s4_types.specs.Pointer.{Place}
use Rattle.s4_types.specs.declared.refusals.Refusal.{Refusal}
use Rattle.block_log.specs.declared.kinds.BlockKind.TheVariants.{Data}
use Rattle.block_log.specs.Log.{of_kind}
use Rattle.codec.specs.declared.inodes.Inode.{Inode}
use Rattle.codec.specs.Entry.{EntryFields}
use Rattle.undo_redo.specs.Runs.{undone_all}
use Rattle.object_map.specs.declared.map.Row.{Row}
use Rattle.object_map.specs.Rows.{row_of}
use Rattle.time_read.specs.Rows.{entries_of, first_of}
use Rattle.s4_model.specs.State.{State}
use Rattle.s4_model.specs.Visible.{IsVisible}
use Rattle.version_store.specs.Store.{StoreFields, IsStore, IsNamed, Names, pointers_of}
use Rattle.version_store.specs.Versions.{inode_by, inode_in}
use Rattle.version_store.specs.Replacing.{CanReplace, IsRemoved, IsReplaced, inode_led, pointers_told}
use Rattle.chain_rewriting.specs.Cleaned.{KeptChain}
use Rattle.chain_rewriting.specs.CleaningLaws.{IsSeenPlaceOf}
use Rattle.history_cleaner.specs.Sight.{is_visible, is_seen_between}
use Rattle.history_cleaner.specs.Reaching.{IsReached, HoldsWhatIsReached, TellsOfSeenPlaces, RowTellsOfSeenPlaces}
use Rattle.history_cleaner.specs.private.Putting.{PuttingLaws}
use Rattle.history_cleaner.specs.private.Reading.{IsLeft}
use Rattle.history_cleaner.proofs.Seeing.{true_visible}
use Rattle.history_cleaner.proofs.Putting.{sight_of, may_replace}

-- an object without a row reaches nothing
none_reached : (s : StoreFields) (state : State) (o : ℕ) (p : Place) → row_of s.rows o ≡ None → IsReached s state o p → ⊥
none_reached s state o p none reached = none-some reached.inode (sym (ap (inode_by s.log.held o reached.moment) none) ∙ reached.current)

-- the object was removed
holds_removed : (s later : StoreFields) (state : State) (o : ℕ) → IsRemoved s o later → HoldsWhatIsReached later state o
holds_removed s later state o removed p =
    let here : row_of later.rows o ≡ None = removed.rows o ∙ cond-true (o == o) None (row_of s.rows o) (eq-eqb o o refl) in (
      λ held. absurd (false≢true (subst (λ (block : Option (List ℕ)). IsSome block) (removed.nothing Data p) held)),
      λ reached. absurd (none_reached later state o p here reached),
    )

-- nothing was written
pub nothing_holds : PuttingLaws → (s : StoreFields) (state : State) (o : ℕ) (entries : List EntryFields) (left : Option KeptChain) (chain : KeptChain) → left ≡ Some chain → IsVisible state o state.clock → IsLeft s state o entries left → chain.entries ≡ entries → HoldsWhatIsReached s state o
nothing_holds laws s state o entries left chain some now l same =
    let is : chain.entries ≡ entries_of s.log.held o l.row = same ∙ l.told in
    let start : Inode = undone_all chain.entries chain.last in
    let begins : start ≡ first_of s.log.held o l.row = laws.begins (is_seen_between state o) (is_visible state o) s o state.clock l.row chain l.has (sight_of state o now) (l.left ∙ some) is in
    let tells : TellsOfSeenPlaces (is_visible state o) start chain.entries = laws.tells (is_seen_between state o) (is_visible state o) s o state.clock l.row chain l.has (sight_of state o now) (l.left ∙ some) in
    let row : RowTellsOfSeenPlaces s state o l.row = subst (λ (i : Inode). TellsOfSeenPlaces (is_visible state o) i (entries_of s.log.held o l.row)) begins (subst (TellsOfSeenPlaces (is_visible state o) start) is tells) in
    laws.reached s state o l.has.store (subst (λ (r : Option Row). IfSome r (RowTellsOfSeenPlaces s state o)) (sym l.has.there) row)

-- a place that is seen of what was put there is reached
seen_put : (later : StoreFields) (state : State) (o : ℕ) (last : Inode) (entries : List EntryFields) (p : Place) → ((t : ℕ) → inode_in later o t ≡ Some (inode_led last entries t)) → IsSeenPlaceOf (is_visible state o) (undone_all entries last) entries p → IsReached later state o p
seen_put later state o last entries p inodes seen = record {
  moment = seen.0;
  visible = true_visible state o seen.0 seen.1.0;
  inode = inode_led last entries seen.0;
  current = inodes seen.0;
  alive = seen.1.1;
  index = seen.1.2.0;
  at = seen.1.2.1;
}

-- what is reached there was held before, and stays
put_held : PuttingLaws → (s later : StoreFields) (state : State) (o : ℕ) (row : Row) (last : Inode) (entries : List EntryFields) (p : Place) → IsStore s → row_of s.rows o ≡ Some row → CanReplace s o row last entries → IsReplaced s o row last entries later → IsReached later state o p → IsSome (of_kind Data o later.log.held p)
put_held laws s later state o row last entries p store there can done reached =
    let named : IsNamed later o Data p = laws.named later o reached.moment reached.index reached.inode p reached.current reached.at in
    let here : row_of later.rows o ≡ Some done.next = done.put o ∙ cond-true (o == o) (Some done.next) (row_of s.rows o) (eq-eqb o o refl) in
    let same : named.row ≡ done.next = same_Some named.row done.next (sym named.there ∙ here) in
    let points : Contains (pointers_of later.log.held o done.next) (Some p) = subst (λ (r : Row). Names later.log.held o r Data p) same named.names in
    let told : Contains (pointers_told last entries) (Some p) = subst (λ (ps : List (Option Place)). Contains ps (Some p)) done.pointers points in
    let was : IsSome (of_kind Data o s.log.held p) = (laws.exact s o Data p store).1 (record { row = row; there = there; names = can.pointers p told }) in
    subst (λ (block : Option (List ℕ)). IsSome block) (sym (done.kept p told)) was

-- the chain was replaced
holds_replaced : PuttingLaws → (s later : StoreFields) (state : State) (o : ℕ) (entries : List EntryFields) (left : Option KeptChain) (chain : KeptChain) → left ≡ Some chain → IsVisible state o state.clock → IsLeft s state o entries left → (chain.entries ≡ entries → ⊥)
    → IfSome (row_of s.rows o) (λ row. IsReplaced s o row chain.last chain.entries later) → ((t : ℕ) → inode_in later o t ≡ Some (inode_led chain.last chain.entries t)) → HoldsWhatIsReached later state o
holds_replaced laws s later state o entries left chain some now l other replaced inodes p =
    let row : Row = l.row in
    let done : IsReplaced s o row chain.last chain.entries later = subst (λ (r : Option Row). IfSome r (λ x. IsReplaced s o x chain.last chain.entries later)) l.has.there replaced in
    let can : CanReplace s o row chain.last chain.entries = subst (λ (r : Option Row). IfSome r (λ x. CanReplace s o x chain.last chain.entries)) l.has.there (may_replace laws.stands laws.empty s state o entries left chain some l other) in (
      λ held. seen_put later state o chain.last chain.entries p inodes (laws.points (is_seen_between state o) (is_visible state o) s o state.clock row chain p l.has (sight_of state o now) (l.left ∙ some) (done.named p held)),
      λ reached. put_held laws s later state o row chain.last chain.entries p l.has.store l.has.there can done reached,
    )

-- ---- what was answered

pub removal_holds : (r : Result (Unit {0}) Refusal) (s later : StoreFields) (state : State) (o : ℕ) → OnOk r (IsRemoved s o later) → OnOk r (HoldsWhatIsReached later state o)
removal_holds (Ok u) s later state o removed = holds_removed s later state o removed
removal_holds (Err e) s later state o removed = tt

pub replacing_holds : PuttingLaws → (r : Result (Unit {0}) Refusal) (s later : StoreFields) (state : State) (o : ℕ) (entries : List EntryFields) (left : Option KeptChain) (chain : KeptChain) → left ≡ Some chain → IsVisible state o state.clock → IsLeft s state o entries left → (chain.entries ≡ entries → ⊥)
    → OnOk r (IfSome (row_of s.rows o) (λ row. IsReplaced s o row chain.last chain.entries later))
    → OnOk r ((q t : ℕ) → inode_in later q t ≡ (if o == q then Some (inode_led chain.last chain.entries t) else inode_in s q t)) → OnOk r (HoldsWhatIsReached later state o)
replacing_holds laws (Ok u) s later state o entries left chain some now l other replaced inodes =
    holds_replaced laws s later state o entries left chain some now l other replaced (λ t. inodes o t ∙ cond-true (o == o) (Some (inode_led chain.last chain.entries t)) (inode_in s o t) (eq-eqb o o refl))
replacing_holds laws (Err e) s later state o entries left chain some now l other replaced inodes = tt
