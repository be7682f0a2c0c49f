-- A journal can be replaced by its own later entries.
use Rattle.std.proofs.Common.{◌≡◌, inl, inr, ℕ, suc, ◌+◌, ◌<◌, ◌≤◌, ◌++◌, not, true, false, List, [], ◌∷◌, length, take, Option, Some, None, refl, sym, ap, subst, ◌∙◌, arith}
use Rattle.std.specs.List.{Contains, AllByRecursion}
use Rattle.std.proofs.lemmas.Bool.{cases_Bool, cases_lt, cond-true, cond-false, le-leb, leb-true, false≢true}
use Rattle.std.proofs.lemmas.List.{length-append, get_or_default}
use Rattle.std.proofs.lemmas.List.Elements.{Contains-append_left, Contains-append_right, Contains-append_cases}
use Rattle.s4_types.specs.Pointer.{Place}
use Rattle.codec.specs.Entry.{EntryFields, entry_length, entries_length}
use Rattle.codec.specs.declared.inodes.Inode.{Inode}
use Rattle.undo_redo.specs.Runs.{AllBy, Run, undone_all, redone_all, inode_after, entries_by, entries_past, entry_is_by, moments_ascend_from, blank}
use Rattle.undo_redo.specs.Groups.{grouped}
use Rattle.inode.specs.Contents.{contents_of}
use Rattle.inode.specs.Tidiness.{Tidy}
use Rattle.object_map.specs.declared.map.Row.{Row}
use Rattle.object_map.specs.Rows.{row_of}
use Rattle.time_read.specs.Rows.{entries_of, first_of, inode_of, checkpoint_of}
use Rattle.time_read.specs.Orderly.{IsOrderlyChain, IsFromTo, inode_behind}
use Rattle.version_store.specs.Store.{StoreFields, IsStore, IsObject, sides_of, sides_told, pointers_kept}
use Rattle.version_store.specs.Checkpointing.{last_entry}
use Rattle.version_store.specs.Replacing.{CanReplace, inode_led}
use Rattle.version_store.specs.private.Below.{GroupsAscend, RowsKeepTheMaking}
use Rattle.version_store.specs.private.Replacing.{AllAreDone, RunsEnd, RunsBegin, RunsJoin, InodesJoin, EntriesPart, LaterEntriesRun, LaterGroups}
use Rattle.version_store.proofs.Telling.{inode_told}
use Rattle.version_store.proofs.CheckpointSteps.{all_by_last}

-- ---- some of the entries

past_all : (P : EntryFields → Type 0) (t : ℕ) (entries : List EntryFields) → AllByRecursion P entries → AllByRecursion P (entries_past t entries)
past_all P t [] all = tt
past_all P t (e ∷ entries) all = elim (cases_Bool (not (entry_is_by t e))) [
  | inl is ↦ subst (λ (es : List EntryFields). AllByRecursion P es) (sym (cond-true (not (entry_is_by t e)) (e ∷ entries_past t entries) (entries_past t entries) is)) (all.0, past_all P t entries all.1)
  | inr beside ↦ subst (λ (es : List EntryFields). AllByRecursion P es) (sym (cond-false (not (entry_is_by t e)) (e ∷ entries_past t entries) (entries_past t entries) beside)) (past_all P t entries all.1)
]

past_bytes : (t : ℕ) (entries : List EntryFields) → entries_length (entries_past t entries) ≤ entries_length entries
unfolding entries_length
past_bytes t [] = omega arith
past_bytes t (e ∷ entries) = elim (cases_Bool (not (entry_is_by t e))) [
  | inl is ↦
      let rest = past_bytes t entries in
      let here : entries_length (entries_past t (e ∷ entries)) ≡ entry_length e + entries_length (entries_past t entries) = ap entries_length (cond-true (not (entry_is_by t e)) (e ∷ entries_past t entries) (entries_past t entries) is) in
      omega (arith, rest, here)
  | inr beside ↦
      let rest = past_bytes t entries in
      let here : entries_length (entries_past t (e ∷ entries)) ≡ entries_length (entries_past t entries) = ap entries_length (cond-false (not (entry_is_by t e)) (e ∷ entries_past t entries) (entries_past t entries) beside) in
      omega (arith, rest, here)
]

past_told : (t : ℕ) (entries : List EntryFields) (x : Option Place) → Contains (sides_told (entries_past t entries)) x → Contains (sides_told entries) x
past_told t [] x there = there
past_told t (e ∷ entries) x there = elim (cases_Bool (not (entry_is_by t e))) [
  | inl is ↦
      let kept : Contains (sides_of e.triples ++ sides_told (entries_past t entries)) x = subst (λ (es : List EntryFields). Contains (sides_told es) x) (cond-true (not (entry_is_by t e)) (e ∷ entries_past t entries) (entries_past t entries) is) there in
      elim (Contains-append_cases (sides_of e.triples) (sides_told (entries_past t entries)) x kept) [
        | inl here ↦ Contains-append_left (sides_of e.triples) (sides_told entries) x here
        | inr later ↦ Contains-append_right (sides_of e.triples) (sides_told entries) x (past_told t entries x later)
      ]
  | inr beside ↦
      let kept : Contains (sides_told (entries_past t entries)) x = subst (λ (es : List EntryFields). Contains (sides_told es) x) (cond-false (not (entry_is_by t e)) (e ∷ entries_past t entries) (entries_past t entries) beside) there in
      Contains-append_right (sides_of e.triples) (sides_told entries) x (past_told t entries x kept)
]

-- none of the later ones is of an earlier moment
past_later : (t at : ℕ) (entries : List EntryFields) → at < t → entries_by at (entries_past t entries) ≡ []
past_later t at [] lt = refl
past_later t at (e ∷ entries) lt = elim (cases_Bool (entry_is_by t e)) [
  | inl is ↦ ap (entries_by at) (cond-false (not (entry_is_by t e)) (e ∷ entries_past t entries) (entries_past t entries) (ap not is)) ∙ past_later t at entries lt
  | inr past ↦
      let after : entry_is_by at e ≡ false = elim (cases_Bool (entry_is_by at e)) [
        | inl by ↦ let low : e.moment ≤ at = leb-true e.moment at by in absurd (false≢true (sym past ∙ le-leb e.moment t (omega (arith, low, lt))))
        | inr beyond ↦ beyond
      ] in
      ap (entries_by at) (cond-true (not (entry_is_by t e)) (e ∷ entries_past t entries) (entries_past t entries) (ap not past))
      ∙ cond-false (entry_is_by at e) (e ∷ entries_by at (entries_past t entries)) (entries_by at (entries_past t entries)) after
      ∙ past_later t at entries lt
]

-- all entries up to a moment are of it or an earlier one
by_all : (t at : ℕ) (entries : List EntryFields) → t ≤ at → AllBy at (entries_by t entries)
by_all t at [] le = tt
by_all t at (e ∷ entries) le = elim (cases_Bool (entry_is_by t e)) [
  | inl is ↦ subst (AllBy at) (sym (cond-true (entry_is_by t e) (e ∷ entries_by t entries) (entries_by t entries) is))
      ((let low : e.moment ≤ t = leb-true e.moment t is in le-leb e.moment at (omega (arith, low, le))), by_all t at entries le)
  | inr past ↦ subst (AllBy at) (sym (cond-false (entry_is_by t e) (e ∷ entries_by t entries) (entries_by t entries) past)) (by_all t at entries le)
]

-- ---- the inodes after them

-- the laws of runs and inodes that this rests on
pub record Laws : Type 0 where
  pub done : AllAreDone
  pub end : RunsEnd
  pub begin : RunsBegin
  pub redone_join : RunsJoin
  pub inode_join : InodesJoin
  pub parts : EntriesPart
  pub behind : LaterEntriesRun
  pub groups : LaterGroups
  pub ascend : GroupsAscend
  pub making : RowsKeepTheMaking

take_behind : (front back : List EntryFields) (n : ℕ) → take (length front + n) (front ++ back) ≡ front ++ take n back
take_behind [] back n = let none : length {A = EntryFields} [] + n ≡ n = omega arith in ap (λ (k : ℕ). take k back) none
take_behind (e ∷ front) back n =
    let one : length (e ∷ front) + n ≡ suc (length front + n) = omega arith in
    ap (λ (k : ℕ). take k (e ∷ front ++ back)) one ∙ ap (λ (es : List EntryFields). e ∷ es) (take_behind front back n)

-- the n-th inode from a moment on is one of the whole chain
later_is : Laws → (first : Inode) (entries : List EntryFields) (t n : ℕ) → entries ≡ entries_by t entries ++ entries_past t entries
    → inode_behind (inode_after first entries t) (entries_past t entries) n ≡ inode_behind first entries (length (entries_by t entries) + n)
later_is laws first entries t n split =
    sym (laws.redone_join first (entries_by t entries) (take n (entries_past t entries)))
    ∙ ap (λ (es : List EntryFields). redone_all es first) (sym (take_behind (entries_by t entries) (entries_past t entries) n) ∙ ap (take (length (entries_by t entries) + n)) (sym split))

cut_order : Laws → (created latest t : ℕ) (first : Inode) (entries : List EntryFields) → entries ≡ entries_by t entries ++ entries_past t entries → 0 < length (entries_past t entries)
    → IsOrderlyChain created latest first entries → IsOrderlyChain created latest (inode_after first entries t) (entries_past t entries)
cut_order laws created latest t first entries split some order =
    let k : ℕ = length (entries_by t entries) in
    let back : List EntryFields = entries_past t entries in
    let start : Inode = inode_after first entries t in
    let count : length entries ≡ k + length back = ap length split ∙ length-append (entries_by t entries) back in
    let is : (n : ℕ) → inode_behind start back n ≡ inode_behind first entries (k + n) = λ n. later_is laws first entries t n split in
    let here : start ≡ inode_behind first entries k = is 0 ∙ (let plus : k + 0 ≡ k = omega arith in ap (inode_behind first entries) plus) in
    record {
      moments = past_all (λ e. IsFromTo created latest e.moment) t entries order.moments;
      changed = λ n alive. subst (λ (i : Inode). IsFromTo created latest i.changed) (sym (is n)) (order.changed (k + n) (sym (ap (λ (i : Inode). i.alive) (is n)) ∙ alive));
      between = λ n low high. ap (λ (i : Inode). i.alive) (is n) ∙ order.between (k + n) (omega (arith, low)) (omega (arith, high, count));
      beginning = λ dead. elim (cases_lt 0 k) [
        | inl lt ↦ absurd (false≢true (sym dead ∙ ap (λ (i : Inode). i.alive) here ∙ order.between k lt (omega (arith, count, some))))
        | inr le ↦
            let none : k ≡ 0 = omega (arith, le) in
            let same : start ≡ first = here ∙ ap (inode_behind first entries) none in
            subst (λ (i : Inode). i ≡ blank created) (sym same) (order.beginning (sym (ap (λ (i : Inode). i.alive) same) ∙ dead))
      ];
      live = elim (cases_lt 0 k) [
        | inl lt ↦ (0, ap (λ (i : Inode). i.alive) here ∙ order.between k lt (omega (arith, count, some)))
        | inr le ↦
            let (n, alive) = order.live in
            let none : k + n ≡ n = omega (arith, le) in
            (n, ap (λ (i : Inode). i.alive) (is n ∙ ap (inode_behind first entries) none) ∙ alive)
      ];
    }

-- ---- the whole

-- from the cut on the inode is the one that was current
led_later : Laws → (first : Inode) (entries : List EntryFields) (t at : ℕ) → entries ≡ entries_by t entries ++ entries_past t entries → t ≤ at
    → inode_after first entries at ≡ inode_after (inode_after first entries t) (entries_past t entries) at
led_later laws first entries t at split le =
    ap (λ (es : List EntryFields). inode_after first es at) split
    ∙ laws.inode_join first (entries_by t entries) (entries_past t entries) at
    ∙ ap (λ (i : Inode). inode_after i (entries_past t entries) at) (laws.done first (entries_by t entries) at (by_all t at entries le))

-- at each moment the inode is the one that was current then, or that which was current when the entries were cut
led_cases : Laws → (first : Inode) (entries : List EntryFields) (t at : ℕ) (P : Inode → Type 0) → entries ≡ entries_by t entries ++ entries_past t entries → ((u : ℕ) → P (inode_after first entries u))
    → P (inode_after (inode_after first entries t) (entries_past t entries) at)
led_cases laws first entries t at P split all = elim (cases_lt at t) [
  | inl lt ↦ subst P (sym (ap (λ (es : List EntryFields). redone_all es (inode_after first entries t)) (past_later t at entries lt))) (all t)
  | inr le ↦ subst P (led_later laws first entries t at split le) (all at)
]

tidy_after : (s : StoreFields) (o : ℕ) (row : Row) → IsObject s.log.held o row s.latest → (u : ℕ) → Tidy (contents_of s.log.held) (inode_after (first_of s.log.held o row) (entries_of s.log.held o row) u)
unfolding inode_of
tidy_after s o row object u = object.tidy u

last_is : Laws → (s : StoreFields) (o : ℕ) (row : Row) (object : IsObject s.log.held o row s.latest) → object.stands.last ≡ inode_of s.log.held o row s.latest
unfolding inode_of
last_is laws s o row object =
    laws.end (first_of s.log.held o row) object.stands.last (entries_of s.log.held o row) object.stands.run
    ∙ sym (laws.done (first_of s.log.held o row) (entries_of s.log.held o row) s.latest object.by.entries)

split_at : Laws → (s : StoreFields) (o t : ℕ) (row : Row) → IsObject s.log.held o row s.latest → entries_of s.log.held o row ≡ entries_by t (entries_of s.log.held o row) ++ entries_past t (entries_of s.log.held o row)
split_at laws s o t row object = laws.parts (entries_of s.log.held o row) 0 t (laws.ascend (entries_of s.log.held o row) object.stands.groups)

-- the later entries lead from the inode at the moment to the present one
cut_run : Laws → (s : StoreFields) (o t : ℕ) (row : Row) → IsObject s.log.held o row s.latest
    → Run (inode_after (first_of s.log.held o row) (entries_of s.log.held o row) t) (entries_past t (entries_of s.log.held o row)) (inode_of s.log.held o row s.latest)
cut_run laws s o t row object =
    let first : Inode = first_of s.log.held o row in
    let entries : List EntryFields = entries_of s.log.held o row in
    subst (λ (i : Inode). Run (inode_after first entries t) (entries_past t entries) i) (last_is laws s o row object)
    (laws.behind first object.stands.last entries 0 t (laws.ascend entries object.stands.groups) object.stands.run)

cut_start : Laws → (s : StoreFields) (o t : ℕ) (row : Row) → IsObject s.log.held o row s.latest
    → inode_after (first_of s.log.held o row) (entries_of s.log.held o row) t ≡ undone_all (entries_past t (entries_of s.log.held o row)) (inode_of s.log.held o row s.latest)
cut_start laws s o t row object =
    laws.begin (inode_after (first_of s.log.held o row) (entries_of s.log.held o row) t) (inode_of s.log.held o row s.latest) (entries_past t (entries_of s.log.held o row)) (cut_run laws s o t row object)

pub cut_shows : Laws → (s : StoreFields) (o t at : ℕ) (row : Row) → IsStore s → row_of s.rows o ≡ Some row → t ≤ at
    → inode_led (inode_of s.log.held o row s.latest) (entries_past t (entries_of s.log.held o row)) at ≡ inode_of s.log.held o row at
unfolding inode_of
cut_shows laws s o t at row store there le =
    let object = store.objects o row there in
    sym (led_later laws (first_of s.log.held o row) (entries_of s.log.held o row) t at (split_at laws s o t row object) le
    ∙ ap (λ (i : Inode). inode_after i (entries_past t (entries_of s.log.held o row)) at) (cut_start laws s o t row object))

pub can_cut : Laws → (s : StoreFields) (o t : ℕ) (row : Row) → IsStore s → row_of s.rows o ≡ Some row → 0 < length (entries_past t (entries_of s.log.held o row))
    → CanReplace s o row (inode_of s.log.held o row s.latest) (entries_past t (entries_of s.log.held o row))
can_cut laws s o t row store there some =
    let object = store.objects o row there in
    let held = s.log.held in
    let first : Inode = first_of held o row in
    let entries : List EntryFields = entries_of held o row in
    let back : List EntryFields = entries_past t entries in
    let present : Inode = inode_of held o row s.latest in
    let ascend : moments_ascend_from 0 entries ≡ true = laws.ascend entries object.stands.groups in
    let split : entries ≡ entries_by t entries ++ back = split_at laws s o t row object in
    let count : length entries ≡ length (entries_by t entries) + length back = ap length split ∙ length-append (entries_by t entries) back in
    let run : Run (inode_after first entries t) back present = cut_run laws s o t row object in
    let start : inode_after first entries t ≡ undone_all back present = cut_start laws s o t row object in
    let bytes = past_bytes t entries in
    let limit = object.stands.chain.limit in
    record {
      journal = omega (arith, count, some);
      run = subst (λ (i : Inode). Run i back present) start run;
      groups = laws.groups (entries_by t entries) back (ap grouped (sym split) ∙ object.stands.groups);
      by = past_all (λ e. entry_is_by (last_entry held o row) e ≡ true) t entries (all_by_last 0 (last_entry held o row) entries ascend (omega arith));
      moments = λ e kept. (e, (subst (λ (es : List EntryFields). Contains es e) (sym split) (Contains-append_right (entries_by t entries) back e kept), refl));
      bytes = omega (arith, bytes, limit);
      made = laws.making held o row s.latest object.stands;
      order = subst (λ (i : Inode). IsOrderlyChain row.created s.latest i back) start (cut_order laws row.created s.latest t first entries split some (store.orderly o row there).chain);
      tidy = λ at. subst (λ (i : Inode). Tidy (contents_of held) (inode_after i back at)) start (led_cases laws first entries t at (Tidy (contents_of held)) split (tidy_after s o row object));
      pointers = λ p told. elim (Contains-append_cases present.pointers (sides_told back) (Some p) told) [
        | inl kept ↦
            let (n, below, at) = kept in
            inode_told held o row s.latest n p (get_or_default present.pointers n None (Some p) below ∙ at)
        | inr sides ↦ Contains-append_right (pointers_kept (checkpoint_of held o row)) (sides_told entries) (Some p) (past_told t entries (Some p) sides)
      ];
    }
