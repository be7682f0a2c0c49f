-- What is left of an object was put in place.
use Rattle.std.proofs.Common.{◌≡◌, ◌⊎◌, ℕ, ◌<◌, ◌≤◌, ◌==◌, Result, Ok, List, length, Option, Some, None, refl, ap, ◌∙◌}
use Rattle.std.specs.Prelude.{if◌then◌else◌, IfSome, MatchResult, OnOk, OnErr, IfErr}
use Rattle.s4_types.specs.declared.refusals.Refusal.{Refusal}
use Rattle.s4_types.specs.declared.refusals.Refusal.TheVariants.{NoMemory, NoRoom}
use Rattle.codec.specs.Entry.{EntryFields}
use Rattle.object_map.specs.Rows.{row_of}
use Rattle.row_changes.specs.Rewritten.{rewritten_blocks}
use Rattle.s4_model.specs.State.{State, state_of}
use Rattle.s4_model.specs.Visible.{IsVisible}
use Rattle.segment_word.specs.AcceptViews.{Ledger}
use Rattle.version_store.specs.Store.{StoreFields}
use Rattle.version_store.specs.Versions.{inode_in}
use Rattle.version_store.specs.Replacing.{IsRemoved, IsReplaced, inode_led}
use Rattle.chain_rewriting.specs.Cleaned.{KeptChain}
use Rattle.drive.specs.Fields.{DriveFields, store_of, state_in}
use Rattle.drive.specs.Keeping.{KeepsVersions}
use Rattle.history_cleaner.specs.Cleaning.{CleansObject, Cleans, OthersStay, IsClean, IsUnseen, HasNoRoom}
use Rattle.history_cleaner.specs.Reaching.{HoldsWhatIsReached}
use Rattle.history_cleaner.specs.private.Putting.{PutsLeft, PuttingLaws}
use Rattle.history_cleaner.specs.private.Reading.{IsLeft}
use Rattle.history_cleaner.proofs.Putting.{Answered, removal_answered, nothing_answered, replacing_answered, has_row, others_same, others_removed, others_replaced, moved}
use Rattle.history_cleaner.proofs.Holding.{removal_holds, nothing_holds, replacing_holds}

cleans_object : (r : Result (Unit {0}) Refusal) (d later : DriveFields) (o : ℕ) → Answered r (store_of d) (store_of later) (state_in d) o → CleansObject o d r later
cleans_object r d later o all = record { cleaned = all.cleaned; clean = all.clean; gone = all.gone; answer = all.answer }

-- nothing is left
pub removed_left : (r : Result (Unit {0}) Refusal) (d later : DriveFields) (o : ℕ) (entries : List EntryFields) (left : Option KeptChain) → left ≡ None → IsLeft (store_of d) (state_in d) o entries left → OnOk r (IsRemoved (store_of d) o (store_of later))
    → OnOk r ((q t : ℕ) → inode_in (store_of later) q t ≡ (if o == q then None else inode_in (store_of d) q t)) → IfErr r (λ e. e ≡ NoMemory) → OnErr r (store_of later ≡ store_of d) → later.ledger ≡ d.ledger → KeepsVersions (state_in d) (store_of d) (store_of later) → PutsLeft o d r later
removed_left r d later o entries left none l removed inodes refused stays ledger needed = record {
  own = cleans_object r d later o (removal_answered r (store_of d) (store_of later) (state_in d) o entries left none l removed refused);
  held = removal_holds r (store_of d) (store_of later) (state_in d) o removed;
  others = others_removed r (store_of d) (store_of later) o removed inodes stays;
  unchanged = stays;
  ledger = ledger;
  needed = needed;
}

-- what is left is there already
pub same_left : PuttingLaws → (d : DriveFields) (o : ℕ) (entries : List EntryFields) (left : Option KeptChain) (chain : KeptChain) → left ≡ Some chain → IsVisible (state_in d) o (state_in d).clock → IsLeft (store_of d) (state_in d) o entries left → chain.entries ≡ entries → PutsLeft o d (Ok tt) d
same_left laws d o entries left chain some now l same = record {
  own = cleans_object (Ok tt) d d o (nothing_answered tt laws.seen laws.throughout (store_of d) (store_of d) (state_in d) o entries left chain some now l same refl);
  held = nothing_holds laws (store_of d) (state_in d) o entries left chain some now l same;
  others = others_same (store_of d) (store_of d) o refl;
  unchanged = tt;
  ledger = refl;
  needed = λ q t needed. refl;
}

-- it took the place of other entries
pub replaced_left : PuttingLaws → (r : Result (Unit {0}) Refusal) (d later : DriveFields) (o : ℕ) (entries : List EntryFields) (left : Option KeptChain) (chain : KeptChain) → left ≡ Some chain → IsVisible (state_in d) o (state_in d).clock
    → IsLeft (store_of d) (state_in d) o entries left → (chain.entries ≡ entries → ⊥) → OnOk r (IfSome (row_of (store_of d).rows o) (λ row. IsReplaced (store_of d) o row chain.last chain.entries (store_of later)))
    → OnOk r ((q t : ℕ) → inode_in (store_of later) q t ≡ (if o == q then Some (inode_led chain.last chain.entries t) else inode_in (store_of d) q t))
    → MatchResult r (λ _. rewritten_blocks chain.last chain.entries ≤ length (store_of d).log.ahead) (λ e. ((e ≡ NoRoom) × (length (store_of d).log.ahead < rewritten_blocks chain.last chain.entries)) ⊎ ((e ≡ NoMemory) × (rewritten_blocks chain.last chain.entries ≤ length (store_of d).log.ahead)))
    → OnErr r (store_of later ≡ store_of d) → later.ledger ≡ d.ledger → KeepsVersions (state_in d) (store_of d) (store_of later) → PutsLeft o d r later
replaced_left laws r d later o entries left chain some now l other replaced inodes answer stays ledger needed = record {
  own = cleans_object r d later o (replacing_answered r laws.seen laws.throughout (store_of d) (store_of later) (state_in d) o entries left chain some now l other replaced answer);
  held = replacing_holds laws r (store_of d) (store_of later) (state_in d) o entries left chain some now l other replaced inodes;
  others = others_replaced r (store_of d) (store_of later) o chain.last chain.entries (has_row (store_of d) (state_in d) o entries left l) replaced inodes stays;
  unchanged = stays;
  ledger = ledger;
  needed = needed;
}

-- so it was from the drive that was read first
pub left_since : (r : Result (Unit {0}) Refusal) (d before later : DriveFields) (o : ℕ) → store_of before ≡ store_of d → before.ledger ≡ d.ledger → PutsLeft o before r later → PutsLeft o d r later
left_since r d before later o stores ledger puts =
    let states : state_in before ≡ state_in d = ap (λ (l : Ledger). state_of l.history) ledger in
    let since = λ (P : StoreFields → State → Type 0). moved P (store_of before) (store_of d) (state_in before) (state_in d) stores states in
    record {
      own = record {
        cleaned = since (λ s a. OnOk r (Cleans s a o (store_of later))) puts.own.cleaned;
        clean = since (λ s a. OnOk r (IsClean (store_of later) a o)) puts.own.clean;
        gone = since (λ s a. OnOk r (IsUnseen s a o → row_of later.store.rows o ≡ None)) puts.own.gone;
        answer = since (λ s a. MatchResult r (λ _. HasNoRoom s a o → ⊥) (λ e. (e ≡ NoMemory) ⊎ ((e ≡ NoRoom) × HasNoRoom s a o))) puts.own.answer;
      };
      held = since (λ s a. OnOk r (HoldsWhatIsReached (store_of later) a o)) puts.held;
      others = since (λ s a. OthersStay s o (store_of later)) puts.others;
      unchanged = since (λ s a. OnErr r (store_of later ≡ s)) puts.unchanged;
      ledger = puts.ledger ∙ ledger;
      needed = since (λ s a. KeepsVersions a s (store_of later)) puts.needed;
    }
