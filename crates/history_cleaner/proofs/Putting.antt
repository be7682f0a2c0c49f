-- What is read of an object before it is cleaned, what may be put in place, and what that leaves.
use Rattle.std.proofs.Common.{◌≡◌, ◌⊎◌, ℕ, ◌<◌, ◌≤◌, ◌==◌, Bool, Result, Ok, Err, inl, inr, List, length, Option, Some, None, IsSome, refl, sym, ap, subst, ◌∙◌, arith}
use Rattle.std.specs.Prelude.{if◌then◌else◌, IfSome, MatchOption, MatchResult, OnOk, IfErr, OnErr}
use Rattle.s4_types.specs.declared.refusals.Refusal.{Refusal}
use Rattle.s4_types.specs.declared.refusals.Refusal.TheVariants.{NoMemory, NoRoom}
use Rattle.std.proofs.lemmas.Bool.{cases_lt, eq-eqb, cond-true, cond-false, false≢true}
use Rattle.std.proofs.lemmas.Option.{same_Some, none-some}
use Rattle.s4_types.specs.Pointer.{Place}
use Rattle.s4_types.specs.declared.versions.Version.TheVariants.{Absent}
use Rattle.block_log.specs.Log.{Stored}
use Rattle.codec.specs.declared.inodes.Inode.{Inode}
use Rattle.codec.specs.Entry.{EntryFields}
use Rattle.undo_redo.specs.Runs.{undone_all, entries_by}
use Rattle.inode.specs.Contents.{contents_of, meaning}
use Rattle.object_map.specs.declared.map.Row.{Row}
use Rattle.object_map.specs.Rows.{row_of}
use Rattle.time_read.specs.Rows.{entries_of, inode_of}
use Rattle.row_changes.specs.Rewritten.{rewritten_blocks}
use Rattle.s4_model.specs.State.{State}
use Rattle.s4_model.specs.Visible.{IsVisible}
use Rattle.version_store.specs.Store.{StoreFields, IsStore}
use Rattle.version_store.specs.Versions.{entries_of_object, entries_of_row, inode_by, inode_in, version_in}
use Rattle.version_store.specs.Replacing.{CanReplace, IsRemoved, IsReplaced, inode_led}
use Rattle.chain_rewriting.specs.Chains.{IsChain}
use Rattle.chain_rewriting.specs.Cleaned.{KeptChain, cleaned}
use Rattle.drive.specs.Keeping.{IsNeeded}
use Rattle.history_cleaner.specs.Laws.{HasChain, KeepRules, HaveFewTriples, IsSight, IsOf, first_stored, AStoredChainIsAChain, WhatIsLeftCanStand, AnEmptyJournalStaysEmpty, WhatIsLeftShowsTheSame, NothingIsLeftOfTheAbsent, WhatIsLeftIsSeen, WhatIsLeftIsSeenThroughout}
use Rattle.history_cleaner.specs.Sight.{is_visible, is_seen_between}
use Rattle.history_cleaner.specs.Cleaning.{left_in, Puts, Cleans, OthersStay, IsSeenThroughout, IsClean, IsUnseen, HasNoRoom}
use Rattle.history_cleaner.specs.private.Reading.{IsLeft}
use Rattle.history_cleaner.proofs.Seeing.{visible_true, true_visible, fits}

-- ---- what is read

-- an object's row, with the inode and the entries that were read
pub record IsRead (s : StoreFields) (state : State) (o : ℕ) (present : Inode) (entries : List EntryFields) : Type 0 where
  pub row : Row
  pub has : HasChain s o row state.clock
  pub inode : present ≡ inode_of s.log.held o row state.clock
  pub told : entries ≡ entries_of s.log.held o row

row_read : (held : Place → Option Stored) (o t : ℕ) (r : Option Row) (i : Inode) → inode_by held o t r ≡ Some i → (row : Row) × (r ≡ Some row) × (i ≡ inode_of held o row t)
row_read held o t None i is = absurd (none-some i is)
row_read held o t (Some row) i is = (row, refl, sym (same_Some (inode_of held o row t) i is))

pub is_read : (s : StoreFields) (state : State) (o : ℕ) (present : Inode) (entries : List EntryFields) → IsStore s → s.latest ≤ state.clock → KeepRules entries → HaveFewTriples entries → inode_in s o state.clock ≡ Some present → entries ≡ entries_of_object s o → IsRead s state o present entries
is_read s state o present entries store past rules few inode told =
    let (row, there, is) = row_read s.log.held o state.clock (row_of s.rows o) present inode in
    let same : entries ≡ entries_of s.log.held o row = told ∙ ap (entries_of_row s.log.held o) there in
    record {
      row = row;
      has = record { store = store; there = there; latest = past; rules = subst KeepRules same rules; few = subst HaveFewTriples same few };
      inode = is;
      told = same;
    }

first_read : (s : StoreFields) (state : State) (o : ℕ) (present first : Inode) (entries : List EntryFields) (read : IsRead s state o present entries) → first ≡ undone_all entries present → first ≡ first_stored s o read.row state.clock
first_read s state o present first entries read is =
    is ∙ ap (λ (es : List EntryFields). undone_all es present) read.told ∙ ap (undone_all (entries_of s.log.held o read.row)) read.inode

-- it can be cleaned
pub can_clean : AStoredChainIsAChain → (s : StoreFields) (state : State) (o clock : ℕ) (present first : Inode) (entries : List EntryFields) → IsRead s state o present entries → first ≡ undone_all entries present → clock ≡ state.clock → IsChain first.created clock first entries
can_clean stored s state o clock present first entries read is now =
    let told : List EntryFields = entries_of s.log.held o read.row in
    let start : Inode = first_stored s o read.row state.clock in
    let both = stored s o state.clock read.row read.has in
    let made : IsChain start.created state.clock start told = subst (λ (c : ℕ). IsChain c state.clock start told) (sym both.0) both.1 in
    let begun : IsChain first.created state.clock first told = subst (λ (i : Inode). IsChain i.created state.clock i told) (sym (first_read s state o present first entries read is)) made in
    subst (λ (n : ℕ). IsChain first.created n first entries) (sym now) (subst (λ (es : List EntryFields). IsChain first.created state.clock first es) (sym read.told) begun)

-- and this is what is left of it
pub is_left : (s : StoreFields) (state : State) (o clock : ℕ) (present first : Inode) (entries : List EntryFields) (made : Option KeptChain) → IsRead s state o present entries → first ≡ undone_all entries present → clock ≡ state.clock → made ≡ cleaned (is_seen_between state o) clock first entries → IsLeft s state o entries made
is_left s state o clock present first entries made read is now exact =
    let sees : ℕ → ℕ → Bool = is_seen_between state o in
    record {
      row = read.row;
      has = read.has;
      told = read.told;
      left = sym (exact ∙ ap (λ (n : ℕ). cleaned sees n first entries) now ∙ ap (λ (i : Inode). cleaned sees state.clock i entries) (first_read s state o present first entries read is) ∙ ap (cleaned sees state.clock (first_stored s o read.row state.clock)) read.told);
    }

-- ---- what may be put in place

pub sight_of : (state : State) (o : ℕ) → IsVisible state o state.clock → IsSight (is_seen_between state o) (is_visible state o) state.clock
sight_of state o now = record { fits = fits state o; now = visible_true state o state.clock now }

needed_of : (state : State) (o t : ℕ) → IsNeeded state o t → IsOf (is_visible state o) state.clock t
needed_of state o t needed = elim needed [
  | inl seen ↦ inl (visible_true state o t seen)
  | inr le ↦ inr le
]

-- where nothing is left the object may go
pub may_go : NothingIsLeftOfTheAbsent → (s : StoreFields) (state : State) (o : ℕ) (entries : List EntryFields) (left : Option KeptChain) → left ≡ None → IsVisible state o state.clock → IsLeft s state o entries left → (t : ℕ) → IsNeeded state o t → version_in s o t ≡ Absent
may_go absent s state o entries left none now l t needed = absent (is_seen_between state o) (is_visible state o) s o state.clock t l.row l.has (sight_of state o now) (l.left ∙ none) (needed_of state o t needed)

pub has_row : (s : StoreFields) (state : State) (o : ℕ) (entries : List EntryFields) (left : Option KeptChain) → IsLeft s state o entries left → IsSome (row_of s.rows o)
has_row s state o entries left l = subst (λ (r : Option Row). IsSome r) (sym l.has.there) refl

-- what is left may take the place of other entries
pub may_replace : WhatIsLeftCanStand → AnEmptyJournalStaysEmpty → (s : StoreFields) (state : State) (o : ℕ) (entries : List EntryFields) (left : Option KeptChain) (chain : KeptChain) → left ≡ Some chain → IsLeft s state o entries left → (chain.entries ≡ entries → ⊥) → IfSome (row_of s.rows o) (λ row. CanReplace s o row chain.last chain.entries)
may_replace stands empty s state o entries left chain some l other =
    let told : List EntryFields = entries_of s.log.held o l.row in
    let is : left_in s state o l.row ≡ Some chain = l.left ∙ some in
    let count : 0 < length told = elim (cases_lt 0 (length told)) [
      | inl lt ↦ lt
      | inr le ↦ absurd (other (empty (is_seen_between state o) s o state.clock l.row chain (omega (arith, le)) is ∙ sym l.told))
    ] in
    subst (λ (r : Option Row). IfSome r (λ row. CanReplace s o row chain.last chain.entries)) (sym l.has.there) (stands (is_seen_between state o) s o state.clock l.row chain l.has count is)

pub shows_same : WhatIsLeftShowsTheSame → (s : StoreFields) (state : State) (o : ℕ) (entries : List EntryFields) (left : Option KeptChain) (chain : KeptChain) → left ≡ Some chain → IsVisible state o state.clock → IsLeft s state o entries left → (t : ℕ) → IsNeeded state o t → meaning (contents_of s.log.held) (inode_led chain.last chain.entries t) ≡ version_in s o t
shows_same same s state o entries left chain some now l t needed = same (is_seen_between state o) (is_visible state o) s o state.clock t l.row chain l.has (sight_of state o now) (l.left ∙ some) (needed_of state o t needed)

-- ---- what that leaves

puts_cleans : (s later : StoreFields) (state : State) (o : ℕ) (entries : List EntryFields) (left : Option KeptChain) → (l : IsLeft s state o entries left) → Puts s o l.row later left → Cleans s state o later
puts_cleans s later state o entries left l puts =
    subst (λ (r : Option Row). MatchOption r (later ≡ s) (λ row. Puts s o row later (left_in s state o row))) (sym l.has.there) (subst (Puts s o l.row later) (sym l.left) puts)

clean_row : (later : StoreFields) (state : State) (o : ℕ) (r : Option Row) → row_of later.rows o ≡ r → IfSome r (IsSeenThroughout later state o) → IsClean later state o
clean_row later state o r is clean = subst (λ (x : Option Row). IfSome x (IsSeenThroughout later state o)) (sym is) clean

-- all that holds once an object was cleaned
pub record HasCleaned (s later : StoreFields) (state : State) (o : ℕ) : Type 0 where
  pub cleaned : Cleans s state o later
  pub clean : IsClean later state o
  pub gone : IsUnseen s state o → row_of later.rows o ≡ None
  pub room : HasNoRoom s state o → ⊥

-- the object was removed
pub after_removal : (s later : StoreFields) (state : State) (o : ℕ) (entries : List EntryFields) (left : Option KeptChain) → left ≡ None → IsLeft s state o entries left → IsRemoved s o later → HasCleaned s later state o
after_removal s later state o entries left none l removed =
    let here : row_of later.rows o ≡ None = removed.rows o ∙ cond-true (o == o) None (row_of s.rows o) (eq-eqb o o refl) in
    record {
      cleaned = puts_cleans s later state o entries left l (subst (Puts s o l.row later) (sym none) removed);
      clean = clean_row later state o None here tt;
      gone = λ unseen. here;
      room = λ n. none-some n.chain (sym (ap (left_in s state o) (same_Some n.row l.row (sym n.there ∙ l.has.there)) ∙ l.left ∙ none) ∙ n.left);
    }

seen_where : (s : StoreFields) (state : State) (o : ℕ) (entries : List EntryFields) (left : Option KeptChain) (chain : KeptChain) → WhatIsLeftIsSeen → left ≡ Some chain → IsVisible state o state.clock → IsLeft s state o entries left → IsUnseen s state o → ⊥
seen_where s state o entries left chain seen some now l unseen =
    let there = seen (is_seen_between state o) (is_visible state o) s o state.clock l.row chain l.has (sight_of state o now) (l.left ∙ some) in
    there.1.1 (unseen there.0 (true_visible state o there.0 there.1.0))

throughout : (s : StoreFields) (state : State) (o : ℕ) (entries : List EntryFields) (left : Option KeptChain) (chain : KeptChain) → WhatIsLeftIsSeenThroughout → left ≡ Some chain → IsVisible state o state.clock → IsLeft s state o entries left → (t : ℕ) → (u : ℕ) × (IsVisible state o u × (entries_by u chain.entries ≡ entries_by t chain.entries))
throughout s state o entries left chain all some now l t =
    let there = all (is_seen_between state o) (is_visible state o) s o state.clock t l.row chain l.has (sight_of state o now) (l.left ∙ some) in
    (there.0, (true_visible state o there.0 there.1.0, there.1.1))

-- the entries are the same, and nothing was written
pub after_nothing : WhatIsLeftIsSeen → WhatIsLeftIsSeenThroughout → (s later : StoreFields) (state : State) (o : ℕ) (entries : List EntryFields) (left : Option KeptChain) (chain : KeptChain) → left ≡ Some chain → IsVisible state o state.clock → IsLeft s state o entries left → chain.entries ≡ entries → later ≡ s → HasCleaned s later state o
after_nothing seen all s later state o entries left chain some now l same stays =
    let is : chain.entries ≡ entries_of s.log.held o l.row = same ∙ l.told in
    record {
      cleaned = puts_cleans s later state o entries left l (subst (Puts s o l.row later) (sym some) ((λ _. stays), (λ other. absurd (other is))));
      clean = subst (λ (x : StoreFields). IsClean x state o) (sym stays)
          (clean_row s state o (Some l.row) l.has.there (subst (λ (es : List EntryFields). (t : ℕ) → (u : ℕ) × (IsVisible state o u × (entries_by u es ≡ entries_by t es))) is (throughout s state o entries left chain all some now l)));
      gone = λ unseen. absurd (seen_where s state o entries left chain seen some now l unseen);
      room = λ n. n.other (
          ap (λ (c : KeptChain). c.entries) (same_Some n.chain chain (sym n.left ∙ ap (left_in s state o) (same_Some n.row l.row (sym n.there ∙ l.has.there)) ∙ l.left ∙ some))
          ∙ is ∙ ap (entries_of s.log.held o) (same_Some l.row n.row (sym l.has.there ∙ n.there))
          );
    }

-- the chain was replaced
pub after_replacing : WhatIsLeftIsSeen → WhatIsLeftIsSeenThroughout → (s later : StoreFields) (state : State) (o : ℕ) (entries : List EntryFields) (left : Option KeptChain) (chain : KeptChain) → left ≡ Some chain → IsVisible state o state.clock → IsLeft s state o entries left → (chain.entries ≡ entries → ⊥)
    → IfSome (row_of s.rows o) (λ row. IsReplaced s o row chain.last chain.entries later) → rewritten_blocks chain.last chain.entries ≤ length s.log.ahead → HasCleaned s later state o
after_replacing seen all s later state o entries left chain some now l other replaced enough =
    let done : IsReplaced s o l.row chain.last chain.entries later = subst (λ (r : Option Row). IfSome r (λ row. IsReplaced s o row chain.last chain.entries later)) l.has.there replaced in
    let here : row_of later.rows o ≡ Some done.next = done.put o ∙ cond-true (o == o) (Some done.next) (row_of s.rows o) (eq-eqb o o refl) in
    record {
      cleaned = puts_cleans s later state o entries left l (subst (Puts s o l.row later) (sym some) ((λ is. absurd (other (is ∙ sym l.told))), (λ _. done)));
      clean = clean_row later state o (Some done.next) here (subst (λ (es : List EntryFields). (t : ℕ) → (u : ℕ) × (IsVisible state o u × (entries_by u es ≡ entries_by t es))) (sym done.journal) (throughout s state o entries left chain all some now l));
      gone = λ unseen. absurd (seen_where s state o entries left chain seen some now l unseen);
      room = λ n.
          let same : n.chain ≡ chain = same_Some n.chain chain (sym n.left ∙ ap (left_in s state o) (same_Some n.row l.row (sym n.there ∙ l.has.there)) ∙ l.left ∙ some) in
          let few : length s.log.ahead < rewritten_blocks chain.last chain.entries = subst (λ (c : KeptChain). length s.log.ahead < rewritten_blocks c.last c.entries) same n.room in
          absurd (omega (arith, few, enough));
    }

-- there was no room for it
pub no_room : (s : StoreFields) (state : State) (o : ℕ) (entries : List EntryFields) (left : Option KeptChain) (chain : KeptChain) → left ≡ Some chain → IsLeft s state o entries left → (chain.entries ≡ entries → ⊥) → length s.log.ahead < rewritten_blocks chain.last chain.entries → HasNoRoom s state o
no_room s state o entries left chain some l other few = record {
  row = l.row;
  there = l.has.there;
  chain = chain;
  left = l.left ∙ some;
  other = λ is. other (is ∙ sym l.told);
  room = few;
}

-- the object has no row
row_none : (held : Place → Option Stored) (o t : ℕ) (r : Option Row) → inode_by held o t r ≡ None → r ≡ None
row_none held o t None is = refl
row_none held o t (Some row) is = absurd (none-some (inode_of held o row t) (sym is))

pub after_none : (s later : StoreFields) (state : State) (o : ℕ) → inode_in s o state.clock ≡ None → later ≡ s → HasCleaned s later state o
after_none s later state o none stays =
    let gone : row_of s.rows o ≡ None = row_none s.log.held o state.clock (row_of s.rows o) none in
    let here : row_of later.rows o ≡ None = ap (λ (x : StoreFields). row_of x.rows o) stays ∙ gone in
    record {
      cleaned = subst (λ (r : Option Row). MatchOption r (later ≡ s) (λ row. Puts s o row later (left_in s state o row))) (sym gone) stays;
      clean = clean_row later state o None here tt;
      gone = λ unseen. here;
      room = λ n. none-some n.row (sym gone ∙ n.there);
    }

-- ---- all other objects

pub others_same : (s later : StoreFields) (o : ℕ) → later ≡ s → OthersStay s o later
others_same s later o stays = subst (OthersStay s o) (sym stays) (λ q other. record { row = refl; blocks = λ kind. refl; inodes = λ t. refl })

pub others_removed : (r : Result (Unit {0}) Refusal) (s later : StoreFields) (o : ℕ) → OnOk r (IsRemoved s o later) → OnOk r ((q t : ℕ) → inode_in later q t ≡ (if o == q then None else inode_in s q t)) → OnErr r (later ≡ s) → OthersStay s o later
others_removed (Ok u) s later o removed inodes stays = λ q other. record {
  row = removed.rows q ∙ cond-false (o == q) None (row_of s.rows q) other;
  blocks = λ kind. removed.others kind q other;
  inodes = λ t. inodes q t ∙ cond-false (o == q) None (inode_in s q t) other;
}
others_removed (Err e) s later o removed inodes stays = others_same s later o stays

put_others : (s later : StoreFields) (o : ℕ) (present : Inode) (entries : List EntryFields) (r : Option Row) → IsSome r → IfSome r (λ row. IsReplaced s o row present entries later) → ((q t : ℕ) → inode_in later q t ≡ (if o == q then Some (inode_led present entries t) else inode_in s q t))
    → OthersStay s o later
put_others s later o present entries None there done inodes = absurd (false≢true there)
put_others s later o present entries (Some row) there done inodes = λ q other. record {
  row = done.put q ∙ cond-false (o == q) (Some done.next) (row_of s.rows q) other;
  blocks = λ kind. done.others kind q other;
  inodes = λ t. inodes q t ∙ cond-false (o == q) (Some (inode_led present entries t)) (inode_in s q t) other;
}

pub others_replaced : (r : Result (Unit {0}) Refusal) (s later : StoreFields) (o : ℕ) (present : Inode) (entries : List EntryFields) → IsSome (row_of s.rows o) → OnOk r (IfSome (row_of s.rows o) (λ row. IsReplaced s o row present entries later))
    → OnOk r ((q t : ℕ) → inode_in later q t ≡ (if o == q then Some (inode_led present entries t) else inode_in s q t)) → OnErr r (later ≡ s) → OthersStay s o later
others_replaced (Ok u) s later o present entries there replaced inodes stays = put_others s later o present entries (row_of s.rows o) there replaced inodes
others_replaced (Err e) s later o present entries there replaced inodes stays = others_same s later o stays

-- ---- what was answered

-- all that is promised of the answer
pub record Answered (r : Result (Unit {0}) Refusal) (s later : StoreFields) (state : State) (o : ℕ) : Type 0 where
  pub cleaned : OnOk r (Cleans s state o later)
  pub clean : OnOk r (IsClean later state o)
  pub gone : OnOk r (IsUnseen s state o → row_of later.rows o ≡ None)
  pub answer : MatchResult r (λ _. HasNoRoom s state o → ⊥) (λ e. (e ≡ NoMemory) ⊎ ((e ≡ NoRoom) × HasNoRoom s state o))

answered_ok : (u : Unit {0}) (s later : StoreFields) (state : State) (o : ℕ) → HasCleaned s later state o → Answered (Ok u) s later state o
answered_ok u s later state o done = record { cleaned = done.cleaned; clean = done.clean; gone = done.gone; answer = done.room }

answered_err : (e : Refusal) (s later : StoreFields) (state : State) (o : ℕ) → (e ≡ NoMemory) ⊎ ((e ≡ NoRoom) × HasNoRoom s state o) → Answered (Err e) s later state o
answered_err e s later state o why = record { cleaned = tt; clean = tt; gone = tt; answer = why }

pub removal_answered : (r : Result (Unit {0}) Refusal) (s later : StoreFields) (state : State) (o : ℕ) (entries : List EntryFields) (left : Option KeptChain) → left ≡ None → IsLeft s state o entries left → OnOk r (IsRemoved s o later) → IfErr r (λ e. e ≡ NoMemory) → Answered r s later state o
removal_answered (Ok u) s later state o entries left none l removed refused = answered_ok u s later state o (after_removal s later state o entries left none l removed)
removal_answered (Err e) s later state o entries left none l removed refused = answered_err e s later state o (inl refused)

pub replacing_answered : (r : Result (Unit {0}) Refusal) → WhatIsLeftIsSeen → WhatIsLeftIsSeenThroughout → (s later : StoreFields) (state : State) (o : ℕ) (entries : List EntryFields) (left : Option KeptChain) (chain : KeptChain) → left ≡ Some chain → IsVisible state o state.clock → IsLeft s state o entries left → (chain.entries ≡ entries → ⊥)
    → OnOk r (IfSome (row_of s.rows o) (λ row. IsReplaced s o row chain.last chain.entries later))
    → MatchResult r (λ _. rewritten_blocks chain.last chain.entries ≤ length s.log.ahead) (λ e. ((e ≡ NoRoom) × (length s.log.ahead < rewritten_blocks chain.last chain.entries)) ⊎ ((e ≡ NoMemory) × (rewritten_blocks chain.last chain.entries ≤ length s.log.ahead)))
    → Answered r s later state o
replacing_answered (Ok u) seen all s later state o entries left chain some now l other replaced enough = answered_ok u s later state o (after_replacing seen all s later state o entries left chain some now l other replaced enough)
replacing_answered (Err e) seen all s later state o entries left chain some now l other replaced why = answered_err e s later state o (elim why [
  | inl room ↦ inr (room.0, no_room s state o entries left chain some l other room.1)
  | inr memory ↦ inl memory.0
])

pub nothing_answered : (u : Unit {0}) → WhatIsLeftIsSeen → WhatIsLeftIsSeenThroughout → (s later : StoreFields) (state : State) (o : ℕ) (entries : List EntryFields) (left : Option KeptChain) (chain : KeptChain) → left ≡ Some chain → IsVisible state o state.clock → IsLeft s state o entries left → chain.entries ≡ entries → later ≡ s → Answered (Ok u) s later state o
nothing_answered u seen all s later state o entries left chain some now l same stays = answered_ok u s later state o (after_nothing seen all s later state o entries left chain some now l same stays)

pub none_answered : (u : Unit {0}) (s later : StoreFields) (state : State) (o : ℕ) → inode_in s o state.clock ≡ None → later ≡ s → Answered (Ok u) s later state o
none_answered u s later state o none stays = answered_ok u s later state o (after_none s later state o none stays)

-- what is left is a chain of these parts
pub is_of_parts : (left : Option KeptChain) (read : KeptChain) (first last : Inode) (entries written : List EntryFields) → left ≡ Some read → record { first = first; entries = entries; last = last } ≡ read → written ≡ entries → left ≡ Some (record { first = first; entries = written; last = last })
is_of_parts left read first last entries written some parts same = some ∙ ap Some (sym parts) ∙ ap (λ (es : List EntryFields). Some (record { first = first; entries = es; last = last })) (sym same)

-- what is told of equal stores and states
pub moved : (P : StoreFields → State → Type 0) (s t : StoreFields) (a b : State) → s ≡ t → a ≡ b → P s a → P t b
moved P s t a b stores states h = subst (λ (x : State). P t x) states (subst (λ (x : StoreFields). P x a) stores h)
