-- Upkeep leads a drive on: what holds of it goes on to hold, also where rows go or journals are replaced.
use Rattle.std.proofs.Common.{◌≡◌, ℕ, ◌≤◌, ◌==◌, cond, inl, inr, List, Option, Some, None, IsSome, refl, sym, ap, subst, ◌∙◌, arith}
use Rattle.std.proofs.lemmas.Bool.{cases_Bool, cond-true, cond-false, eqb-true, false≢true}
use Rattle.std.specs.Prelude.{Result, Ok, Err, OnOk, OnErr, IfSome, is_some}
use Rattle.s4_types.specs.declared.versions.Version.{Version}
use Rattle.s4_types.specs.declared.versions.Version.TheVariants.{Absent}
use Rattle.s4_model.specs.State.{State}
use Rattle.codec.specs.declared.inodes.Inode.{Inode}
use Rattle.codec.specs.Entry.{EntryFields}
use Rattle.inode.specs.Contents.{contents_of, meaning}
use Rattle.object_map.specs.declared.map.Row.{Row}
use Rattle.object_map.specs.Rows.{row_of, with_row}
use Rattle.version_store.specs.Store.{StoreFields, IsStore}
use Rattle.version_store.specs.Versions.{version_in}
use Rattle.version_store.specs.Replacing.{IsRemoved, IsReplaced, inode_led}
use Rattle.window.specs.Timeline.{Timeline}
use Rattle.drive.specs.Keeping.{IsKeptDrive, IsNeeded, KeepsVersions}
use Rattle.drive.proofs.Kept.{none_unless, some_none}

-- no row is new, the last change is the same, and the versions that are needed stay
pub record LeadsOn (s : State) (store later : StoreFields) : Type 0 where
  pub rows : (o : ℕ) → row_of store.rows o ≡ None → row_of later.rows o ≡ None
  pub latest : later.latest ≡ store.latest
  pub versions : KeepsVersions s store later

pub kept_on : (s : State) (store later : StoreFields) (w : Timeline) (next : ℕ) → IsKeptDrive s store w next → IsStore later → LeadsOn s store later → IsKeptDrive s later w next
kept_on s store later w next kept is_store leads =
    let past : store.latest ≤ s.clock = kept.past in
    let latest : later.latest ≡ store.latest = leads.latest in
    record {
      window = kept.window;
      next = kept.next;
      store = is_store;
      versions = λ o t needed. leads.versions o t needed ∙ kept.versions o t needed;
      past = omega (arith, latest);
      unborn = λ o ge. leads.rows o (kept.unborn o ge);
      sound = kept.sound;
    }

-- objects that have the rows and the versions that they had
pub kept_alike : (s : State) (store later : StoreFields) (w : Timeline) (next : ℕ) → IsKeptDrive s store w next → IsStore later
    → ((o t : ℕ) → version_in later o t ≡ version_in store o t) → later.latest ≡ store.latest
    → ((o : ℕ) → is_some (row_of later.rows o) ≡ is_some (row_of store.rows o)) → IsKeptDrive s later w next
kept_alike s store later w next kept is_store versions latest rows = kept_on s store later w next kept is_store (record {
  rows = λ o none. none_unless (row_of later.rows o) (rows o ∙ some_none (row_of store.rows o) none);
  latest = latest;
  versions = λ o t needed. versions o t;
})

-- objects that are the same
pub same_leads : (s : State) (store later : StoreFields) → later ≡ store → LeadsOn s store later
same_leads s store later same = record {
  rows = λ o none. ap (λ (x : StoreFields). row_of x.rows o) same ∙ none;
  latest = ap (λ (x : StoreFields). x.latest) same;
  versions = λ o t needed. ap (λ (x : StoreFields). version_in x o t) same;
}

-- ---- one object has other versions

-- all other objects have the versions that they had
abbrev pub PutsVersions : StoreFields → ℕ → (ℕ → Version) → StoreFields → Type 0
PutsVersions store x put later = (q t : ℕ) → version_in later q t ≡ cond (x == q) (put t) (version_in store q t)

keeps_put : (s : State) (store later : StoreFields) (x : ℕ) (put : ℕ → Version) → PutsVersions store x put later → ((t : ℕ) → IsNeeded s x t → put t ≡ version_in store x t) → KeepsVersions s store later
keeps_put s store later x put puts stays o t needed = elim (cases_Bool (x == o)) [
  | inl is ↦
      let same : o ≡ x = sym (eqb-true x o is) in
      let stood : put t ≡ version_in store x t = stays t (subst (λ (n : ℕ). IsNeeded s n t) same needed) in
      puts o t ∙ cond-true (x == o) (put t) (version_in store o t) is ∙ stood ∙ ap (λ (n : ℕ). version_in store n t) (sym same)
  | inr other ↦ puts o t ∙ cond-false (x == o) (put t) (version_in store o t) other
]

-- ---- its row is gone

pub removed_leads : {T E : Type 0} (r : Result T E) (s : State) (store later : StoreFields) (x : ℕ) → OnOk r (IsRemoved store x later) → OnOk r (PutsVersions store x (λ t. Absent) later) → OnErr r (later ≡ store)
    → ((t : ℕ) → IsNeeded s x t → version_in store x t ≡ Absent) → LeadsOn s store later
removed_leads (Ok v) s store later x removed puts same gone = record {
  rows = λ o none. elim (cases_Bool (x == o)) [
    | inl is ↦ removed.rows o ∙ cond-true (x == o) None (row_of store.rows o) is
    | inr other ↦ removed.rows o ∙ cond-false (x == o) None (row_of store.rows o) other ∙ none
  ];
  latest = removed.latest;
  versions = keeps_put s store later x (λ t. Absent) puts (λ t needed. sym (gone t needed));
}
removed_leads (Err e) s store later x removed puts same gone = same_leads s store later same

-- ---- its journal is replaced

no_more_put : (store later : StoreFields) (x : ℕ) (next : Row) → IsSome (row_of store.rows x) → ((q : ℕ) → row_of later.rows q ≡ with_row (row_of store.rows) x next q) → (o : ℕ) → row_of store.rows o ≡ None → row_of later.rows o ≡ None
no_more_put store later x next some put o none = elim (cases_Bool (x == o)) [
  | inl is ↦ absurd (false≢true (sym (ap (λ (n : ℕ). is_some (row_of store.rows n)) (eqb-true x o is) ∙ ap (λ (row : Option Row). is_some row) none) ∙ some))
  | inr other ↦ put o ∙ cond-false (x == o) (Some next) (row_of store.rows o) other ∙ none
]

replacement_leads : (s : State) (store later : StoreFields) (x : ℕ) (row : Option Row) (present : Inode) (entries : List EntryFields) → row_of store.rows x ≡ row → IsSome row → IfSome row (λ r. IsReplaced store x r present entries later)
    → KeepsVersions s store later → LeadsOn s store later
replacement_leads s store later x None present entries there some replaced keeps = absurd (false≢true some)
replacement_leads s store later x (Some row) present entries there some replaced keeps = record {
  rows = no_more_put store later x replaced.next (ap (λ (r : Option Row). is_some r) there) replaced.put;
  latest = replaced.latest;
  versions = keeps;
}

pub replaced_leads : {T E : Type 0} (r : Result T E) (s : State) (store later : StoreFields) (x : ℕ) (present : Inode) (entries : List EntryFields) → IsSome (row_of store.rows x)
    → OnOk r (IfSome (row_of store.rows x) (λ row. IsReplaced store x row present entries later)) → OnOk r (PutsVersions store x (λ t. meaning (contents_of store.log.held) (inode_led present entries t)) later) → OnErr r (later ≡ store)
    → ((t : ℕ) → IsNeeded s x t → meaning (contents_of store.log.held) (inode_led present entries t) ≡ version_in store x t) → LeadsOn s store later
replaced_leads (Ok v) s store later x present entries some replaced puts same stays =
    replacement_leads s store later x (row_of store.rows x) present entries refl some replaced
    (keeps_put s store later x (λ t. meaning (contents_of store.log.held) (inode_led present entries t)) puts stays)
replaced_leads (Err e) s store later x present entries some replaced puts same stays = same_leads s store later same
