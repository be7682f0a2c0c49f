-- The pointers that a row refers to: where they come from, and that those of each inode are among them.
use Rattle.std.proofs.Common.{◌≡◌, ◌⊎◌, ℕ, zero, suc, List, [], ◌∷◌, ◌++◌, get_or, replicate, Option, Some, None, MatchOption, IsSome, refl, sym, ap, subst, ◌∙◌, inl, inr, arith}
use Rattle.std.specs.List.{All, Contains, AllByRecursion}
use Rattle.std.proofs.Math.ListN.{set}
use Rattle.std.proofs.lemmas.Bool.{cases_Bool, cond-true, cond-false}
use Rattle.std.proofs.lemmas.List.{get_or_default}
use Rattle.std.proofs.lemmas.List.Concat.{flat_map-append}
use Rattle.std.proofs.lemmas.List.Elements.{All-nil, All-cons, All-append, All-weaker, All-from_get_or, All-contains, All-contains_itself, Contains-append_left, Contains-append_right, Contains-append_cases}
use Rattle.std.proofs.lemmas.Option.{none-some}
use Rattle.s4_types.specs.Pointer.{Place}
use Rattle.s4_types.specs.declared.limits.TheConstants.{OBJECT_BLOCKS}
use Rattle.block_log.specs.Log.{Stored, of_kind}
use Rattle.block_log.specs.declared.kinds.BlockKind.TheVariants.{Journal, Data}
use Rattle.codec.specs.Fields.{◌>>=◌}
use Rattle.codec.specs.Checkpoint.{CheckpointFields, pointer_at, holes}
use Rattle.codec.specs.Entry.{EntryFields}
use Rattle.codec.specs.declared.entries.Triple.{Triple}
use Rattle.codec.specs.declared.inodes.Inode.{Inode}
use Rattle.undo_redo.specs.Between.{AreOf}
use Rattle.undo_redo.specs.Redone.{redone, undone, with_after, with_before}
use Rattle.undo_redo.specs.Runs.{blank, redone_all, undone_all, entry_is_by, entries_by}
use Rattle.checkpoint.specs.Held.{of_checkpoints, checkpoint_held}
use Rattle.journal_chain.specs.Chain.{chain_entries, chain_links, links_from}
use Rattle.journal_chain.specs.Packing.{joined}
use Rattle.inode.specs.Tidiness.{PointersHeld}
use Rattle.object_map.specs.declared.map.Row.{Row}
use Rattle.object_map.specs.Rows.{fresh_row}
use Rattle.time_read.specs.Rows.{IsRow, entries_of, checkpoint_of, inode_before, first_of, inode_of}
use Rattle.time_read.proofs.Staying.{same_entries}
use Rattle.row_changes.proofs.Pushing.{same_checkpoint}
use Rattle.version_store.specs.Store.{sides_of, sides_told, pointers_kept, pointers_of, IsLed}

-- ---- the pointers of an inode are told by what it was made of

hole_there : (count n : ℕ) (p : Place) → get_or (replicate count None) n None ≡ Some p → ⊥
hole_there zero n p at = none-some p at
hole_there (suc count) zero p at = none-some p at
hole_there (suc count) (suc n) p at = hole_there count n p at

blank_points : (created n : ℕ) (p : Place) → pointer_at (blank created) n ≡ Some p → ⊥
unfolding blank holes
blank_points created n p at = hole_there OBJECT_BLOCKS n p at

-- a pointer that was put there, or one that was there
set_cases : (pointers : List (Option Place)) (i n : ℕ) (slot : Option Place) (p : Place) → get_or (set pointers i slot) n None ≡ Some p → (slot ≡ Some p) ⊎ (get_or pointers n None ≡ Some p)
set_cases [] i n slot p at = inr at
set_cases (q ∷ pointers) zero zero slot p at = inl at
set_cases (q ∷ pointers) zero (suc n) slot p at = inr at
set_cases (q ∷ pointers) (suc i) zero slot p at = inr at
set_cases (q ∷ pointers) (suc i) (suc n) slot p at = set_cases pointers i n slot p at

behind : (t : Triple) (triples : List Triple) (x : Option Place) → Contains (sides_of triples) x → Contains (sides_of (t ∷ triples)) x
behind t triples x there = Contains-append_right (t.before ∷ t.after ∷ []) (sides_of triples) x there

after_cases : (triples : List Triple) (pointers : List (Option Place)) (n : ℕ) (p : Place) → get_or (with_after triples pointers) n None ≡ Some p → Contains (sides_of triples) (Some p) ⊎ (get_or pointers n None ≡ Some p)
after_cases [] pointers n p at = inr at
after_cases (t ∷ triples) pointers n p at = elim (after_cases triples (set pointers t.index t.after) n p at) [
  | inl side ↦ inl (behind t triples (Some p) side)
  | inr here ↦ elim (set_cases pointers t.index n t.after p here) [
    | inl is ↦ inl (1, omega arith, is)
    | inr was ↦ inr was
  ]
]

before_cases : (triples : List Triple) (pointers : List (Option Place)) (n : ℕ) (p : Place) → get_or (with_before triples pointers) n None ≡ Some p → Contains (sides_of triples) (Some p) ⊎ (get_or pointers n None ≡ Some p)
before_cases [] pointers n p at = inr at
before_cases (t ∷ triples) pointers n p at = elim (before_cases triples (set pointers t.index t.before) n p at) [
  | inl side ↦ inl (behind t triples (Some p) side)
  | inr here ↦ elim (set_cases pointers t.index n t.before p here) [
    | inl is ↦ inl (0, omega arith, is)
    | inr was ↦ inr was
  ]
]

pub redone_cases : (entries : List EntryFields) (i : Inode) (n : ℕ) (p : Place) → pointer_at (redone_all entries i) n ≡ Some p → Contains (sides_told entries) (Some p) ⊎ (pointer_at i n ≡ Some p)
unfolding redone
redone_cases [] i n p at = inr at
redone_cases (e ∷ entries) i n p at = elim (redone_cases entries (redone e i) n p at) [
  | inl later ↦ inl (Contains-append_right (sides_of e.triples) (sides_told entries) (Some p) later)
  | inr here ↦ elim (after_cases e.triples i.pointers n p here) [
    | inl side ↦ inl (Contains-append_left (sides_of e.triples) (sides_told entries) (Some p) side)
    | inr was ↦ inr was
  ]
]

pub undone_cases : (entries : List EntryFields) (j : Inode) (n : ℕ) (p : Place) → pointer_at (undone_all entries j) n ≡ Some p → Contains (sides_told entries) (Some p) ⊎ (pointer_at j n ≡ Some p)
unfolding undone
undone_cases [] j n p at = inr at
undone_cases (e ∷ entries) j n p at = elim (before_cases e.triples (undone_all entries j).pointers n p at) [
  | inl side ↦ inl (Contains-append_left (sides_of e.triples) (sides_told entries) (Some p) side)
  | inr here ↦ elim (undone_cases entries j n p here) [
    | inl later ↦ inl (Contains-append_right (sides_of e.triples) (sides_told entries) (Some p) later)
    | inr was ↦ inr was
  ]
]

-- what some of the entries tell all of them tell
pub by_told : (t : ℕ) (entries : List EntryFields) (x : Option Place) → Contains (sides_told (entries_by t entries)) x → Contains (sides_told entries) x
by_told t [] x there = there
by_told t (e ∷ entries) x there = elim (cases_Bool (entry_is_by t e)) [
  | inl is ↦
      let kept : Contains (sides_of e.triples ++ sides_told (entries_by t entries)) x = subst (λ (es : List EntryFields). Contains (sides_told es) x) (cond-true (entry_is_by t e) (e ∷ entries_by t entries) (entries_by t entries) is) there in
      elim (Contains-append_cases (sides_of e.triples) (sides_told (entries_by t entries)) x kept) [
        | inl here ↦ Contains-append_left (sides_of e.triples) (sides_told entries) x here
        | inr later ↦ Contains-append_right (sides_of e.triples) (sides_told entries) x (by_told t entries x later)
      ]
  | inr past ↦
      let kept : Contains (sides_told (entries_by t entries)) x = subst (λ (es : List EntryFields). Contains (sides_told es) x) (cond-false (entry_is_by t e) (e ∷ entries_by t entries) (entries_by t entries) past) there in
      Contains-append_right (sides_of e.triples) (sides_told entries) x (by_told t entries x kept)
]

pub slot_there : (pointers : List (Option Place)) (n : ℕ) (p : Place) → get_or pointers n None ≡ Some p → Contains pointers (Some p)
slot_there [] n p at = absurd (none-some p at)
slot_there (q ∷ pointers) zero p at = (0, omega arith, at)
slot_there (q ∷ pointers) (suc n) p at = Contains-append_right (q ∷ []) pointers (Some p) (slot_there pointers n p at)

pub first_told : (created moment : ℕ) (entries : List EntryFields) (c : Option CheckpointFields) (n : ℕ) (p : Place) → pointer_at (inode_before created moment entries c) n ≡ Some p → Contains (pointers_kept c ++ sides_told entries) (Some p)
unfolding inode_before
first_told created moment entries None n p at = absurd (blank_points created n p at)
first_told created moment entries (Some c) n p at = elim (undone_cases (entries_by moment entries) c.inode n p at) [
  | inl told ↦ Contains-append_right c.inode.pointers (sides_told entries) (Some p) (by_told moment entries (Some p) told)
  | inr kept ↦ Contains-append_left c.inode.pointers (sides_told entries) (Some p) (slot_there c.inode.pointers n p kept)
]

-- a row refers to all that its object's inode points to, at each moment
pub inode_told : (held : Place → Option Stored) (o : ℕ) (row : Row) (t n : ℕ) (p : Place) → pointer_at (inode_of held o row t) n ≡ Some p → Contains (pointers_of held o row) (Some p)
unfolding inode_of
inode_told held o row t n p at = elim (redone_cases (entries_by t (entries_of held o row)) (first_of held o row) n p at) [
  | inl told ↦ Contains-append_right (pointers_kept (checkpoint_of held o row)) (sides_told (entries_of held o row)) (Some p) (by_told t (entries_of held o row) (Some p) told)
  | inr first ↦ first_told row.created row.checkpoint_moment (entries_of held o row) (checkpoint_of held o row) n p first
]

-- ---- the checkpoint of a row

-- the checkpoint that a row tells
abbrev pub checkpoint_told : (Place → Option Stored) → ℕ → Row → CheckpointFields
checkpoint_told held o row = record { object = o; moment = row.checkpoint_moment; inode = inode_of held o row row.checkpoint_moment }

kept_cases : (N : Type 0) (place : Option Place) (read : Place → Option CheckpointFields) (c : CheckpointFields) → MatchOption place N (λ p. read p ≡ Some c) → ((place >>= read) ≡ None) ⊎ ((place >>= read) ≡ Some c)
kept_cases N None read c told = inl refl
kept_cases N (Some p) read c told = inr told

pub row_kept : (held : Place → Option Stored) (o : ℕ) (row : Row) → IsRow held o row → (checkpoint_of held o row ≡ None) ⊎ (checkpoint_of held o row ≡ Some (checkpoint_told held o row))
row_kept held o row stands = kept_cases (row.checkpoint_moment ≡ 0) row.checkpoint (checkpoint_held held o) (checkpoint_told held o row) stands.checkpoint

-- its pointers are those of the inode at its moment
kept_points : (held : Place → Option Stored) (o : ℕ) (row : Row) (p : Place) → IsRow held o row → Contains (pointers_kept (checkpoint_of held o row)) (Some p) → (n : ℕ) × (pointer_at (inode_of held o row row.checkpoint_moment) n ≡ Some p)
kept_points held o row p stands there = elim (row_kept held o row stands) [
  | inl none ↦ let (n, below, at) = subst (λ (c : Option CheckpointFields). Contains (pointers_kept c) (Some p)) none there in absurd (omega (arith, below))
  | inr is ↦
      let pointers : List (Option Place) = (inode_of held o row row.checkpoint_moment).pointers in
      let (n, below, at) = subst (λ (c : Option CheckpointFields). Contains (pointers_kept c) (Some p)) is there in
      (n, get_or_default pointers n None (Some p) below ∙ at)
]

-- ---- pointers that lead to blocks

abbrev pub Leads : (Place → Option Stored) → ℕ → List (Option Place) → Type 0
Leads held o pointers = All (IsLed held o) pointers

led_by : (held : Place → Option Stored) (o : ℕ) (slot : Option Place) → ((p : Place) → slot ≡ Some p → IsSome (of_kind Data o held p)) → IsLed held o slot
led_by held o None leads = tt
led_by held o (Some p) leads = leads p refl

pub inode_led : (held : Place → Option Stored) (o : ℕ) (i : Inode) (n : ℕ) → PointersHeld held o i → IsLed held o (pointer_at i n)
inode_led held o i n leads = led_by held o (pointer_at i n) (leads n)

-- where an object's data blocks stay
led_later : (held later : Place → Option Stored) (o : ℕ) → ((p : Place) → IsSome (of_kind Data o held p) → IsSome (of_kind Data o later p)) → (slot : Option Place) → IsLed held o slot → IsLed later o slot
led_later held later o stays None led = tt
led_later held later o stays (Some p) led = stays p led

pub leads_later : (held later : Place → Option Stored) (o : ℕ) (pointers : List (Option Place)) → ((p : Place) → IsSome (of_kind Data o held p) → IsSome (of_kind Data o later p)) → Leads held o pointers → Leads later o pointers
leads_later held later o pointers stays leads = All-weaker (IsLed held o) (IsLed later o) (led_later held later o stays) pointers leads

pub leads_front : (held : Place → Option Stored) (o : ℕ) (front back : List (Option Place)) → Leads held o (front ++ back) → Leads held o front
leads_front held o front back leads = All-weaker (Contains front) (IsLed held o) (λ x there. All-contains (IsLed held o) (front ++ back) x leads (Contains-append_left front back x there)) front (All-contains_itself front)

pub leads_back : (held : Place → Option Stored) (o : ℕ) (front back : List (Option Place)) → Leads held o (front ++ back) → Leads held o back
leads_back held o front back leads = All-weaker (Contains back) (IsLed held o) (λ x there. All-contains (IsLed held o) (front ++ back) x leads (Contains-append_right front back x there)) back (All-contains_itself back)

-- so a place that a pointer refers to is held
pub led_there : (held : Place → Option Stored) (o : ℕ) (pointers : List (Option Place)) (p : Place) → Leads held o pointers → Contains pointers (Some p) → IsSome (of_kind Data o held p)
led_there held o pointers p leads there = All-contains (IsLed held o) pointers (Some p) leads there

-- ---- entries between two inodes

sides_led : (held : Place → Option Stored) (o : ℕ) (i j : Inode) (triples : List Triple) → PointersHeld held o i → PointersHeld held o j → AreOf i j triples → Leads held o (sides_of triples)
sides_led held o i j [] before after are = All-nil (IsLed held o)
sides_led held o i j (t ∷ triples) before after are =
    All-cons (IsLed held o) t.before (t.after ∷ sides_of triples) (subst (λ (u : Triple). IsLed held o u.before) (sym are.0) (inode_led held o i t.index before))
    (All-cons (IsLed held o) t.after (sides_of triples) (subst (λ (u : Triple). IsLed held o u.after) (sym are.0) (inode_led held o j t.index after))
    (sides_led held o i j triples before after are.1))

pub between_led : (held : Place → Option Stored) (o : ℕ) (i j : Inode) (entries : List EntryFields) → PointersHeld held o i → PointersHeld held o j → AllByRecursion (λ e. AreOf i j e.triples) entries → Leads held o (sides_told entries)
between_led held o i j [] before after are = All-nil (IsLed held o)
between_led held o i j (e ∷ entries) before after are =
    All-append (IsLed held o) (sides_of e.triples) (sides_told entries) (sides_led held o i j e.triples before after are.0) (between_led held o i j entries before after are.1)

-- ---- rows that change

-- entries were pushed to a row's chain, and its checkpoint is as it was
pub record Grows (held later : Place → Option Stored) (o : ℕ) (row next : Row) (new : List EntryFields) : Type 0 where
  pub entries : entries_of later o next ≡ entries_of held o row ++ new
  pub checkpoint : checkpoint_of later o next ≡ checkpoint_of held o row

pub grown_sides : (held later : Place → Option Stored) (o : ℕ) (row next : Row) (new : List EntryFields) → Grows held later o row next new → sides_told (entries_of later o next) ≡ sides_told (entries_of held o row) ++ sides_told new
grown_sides held later o row next new grows = ap sides_told grows.entries ∙ flat_map-append (λ (e : EntryFields). sides_of e.triples) (entries_of held o row) new

-- the row refers to all that it led to
pub grown_leads_to : (held later : Place → Option Stored) (o : ℕ) (row next : Row) (new : List EntryFields) (x : Option Place) → Grows held later o row next new → Contains (pointers_of held o row) x → Contains (pointers_of later o next) x
grown_leads_to held later o row next new x grows there =
    let kept : List (Option Place) = pointers_kept (checkpoint_of held o row) in
    let old : List (Option Place) = sides_told (entries_of held o row) in
    subst (λ (c : Option CheckpointFields). Contains (pointers_kept c ++ sides_told (entries_of later o next)) x) (sym grows.checkpoint)
    (subst (λ (sides : List (Option Place)). Contains (kept ++ sides) x) (sym (grown_sides held later o row next new grows))
    (elim (Contains-append_cases kept old x there) [
      | inl front ↦ Contains-append_left kept (old ++ sides_told new) x front
      | inr back ↦ Contains-append_right kept (old ++ sides_told new) x (Contains-append_left old (sides_told new) x back)
    ]))

-- and to blocks, where the new entries do
pub grown_leads : (held later : Place → Option Stored) (o : ℕ) (row next : Row) (new : List EntryFields) → Grows held later o row next new → Leads later o (pointers_of held o row) → Leads later o (sides_told new) → Leads later o (pointers_of later o next)
grown_leads held later o row next new grows was told =
    let kept : List (Option Place) = pointers_kept (checkpoint_of held o row) in
    let old : List (Option Place) = sides_told (entries_of held o row) in
    subst (λ (c : Option CheckpointFields). Leads later o (pointers_kept c ++ sides_told (entries_of later o next))) (sym grows.checkpoint)
    (subst (λ (sides : List (Option Place)). Leads later o (kept ++ sides)) (sym (grown_sides held later o row next new grows))
    (All-append (IsLed later o) kept (old ++ sides_told new) (leads_front later o kept old was)
    (All-append (IsLed later o) old (sides_told new) (leads_back later o kept old was) told)))

pub same_pointers : (held later : Place → Option Stored) (o : ℕ) (row : Row) → of_kind Journal o later ≡ of_kind Journal o held → of_checkpoints o later ≡ of_checkpoints o held → pointers_of later o row ≡ pointers_of held o row
same_pointers held later o row journal checkpoints =
    ap (λ (c : Option CheckpointFields). pointers_kept c ++ sides_told (entries_of later o row)) (same_checkpoint held later o row.checkpoint checkpoints)
    ∙ ap (λ (es : List EntryFields). pointers_kept (checkpoint_of held o row) ++ sides_told es) (same_entries held later o row journal)

-- the row of an object that was just made leads nowhere
pub fresh_pointers : (held : Place → Option Stored) (o created : ℕ) → pointers_of held o (fresh_row created) ≡ []
unfolding chain_entries chain_links links_from joined
fresh_pointers held o created = refl

-- Another checkpoint was written: the entries are as they were, and so are all inodes.
pub record Moves (held later : Place → Option Stored) (o : ℕ) (row next : Row) : Type 0 where
  pub entries : entries_of later o next ≡ entries_of held o row
  pub inode : (t : ℕ) → inode_of later o next t ≡ inode_of held o row t
  pub before : IsRow held o row
  pub after : IsRow later o next

pub moved_leads_to : (held later : Place → Option Stored) (o : ℕ) (row next : Row) (p : Place) → Moves held later o row next → Contains (pointers_of held o row) (Some p) → Contains (pointers_of later o next) (Some p)
moved_leads_to held later o row next p moves there = elim (Contains-append_cases (pointers_kept (checkpoint_of held o row)) (sides_told (entries_of held o row)) (Some p) there) [
  | inl kept ↦
      let (n, at) = kept_points held o row p moves.before kept in
      inode_told later o next row.checkpoint_moment n p (ap (λ (i : Inode). pointer_at i n) (moves.inode row.checkpoint_moment) ∙ at)
  | inr told ↦ Contains-append_right (pointers_kept (checkpoint_of later o next)) (sides_told (entries_of later o next)) (Some p) (subst (λ (es : List EntryFields). Contains (sides_told es) (Some p)) (sym moves.entries) told)
]

kept_led : (held : Place → Option Stored) (o : ℕ) (row : Row) → IsRow held o row → ((t : ℕ) → PointersHeld held o (inode_of held o row t)) → Leads held o (pointers_kept (checkpoint_of held o row))
kept_led held o row stands leads = elim (row_kept held o row stands) [
  | inl none ↦ subst (λ (c : Option CheckpointFields). Leads held o (pointers_kept c)) (sym none) (All-nil (IsLed held o))
  | inr is ↦
      let i : Inode = inode_of held o row row.checkpoint_moment in
      subst (λ (c : Option CheckpointFields). Leads held o (pointers_kept c)) (sym is) (All-from_get_or (IsLed held o) i.pointers None (λ n below. inode_led held o i n (leads row.checkpoint_moment)))
]

pub moved_leads : (held later : Place → Option Stored) (o : ℕ) (row next : Row) → Moves held later o row next → ((t : ℕ) → PointersHeld later o (inode_of later o next t)) → Leads later o (pointers_of held o row) → Leads later o (pointers_of later o next)
moved_leads held later o row next moves pointers was =
    All-append (IsLed later o) (pointers_kept (checkpoint_of later o next)) (sides_told (entries_of later o next)) (kept_led later o next moves.after pointers)
    (subst (λ (es : List EntryFields). Leads later o (sides_told es)) (sym moves.entries) (leads_back later o (pointers_kept (checkpoint_of held o row)) (sides_told (entries_of held o row)) was))
