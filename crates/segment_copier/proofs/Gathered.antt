-- A whole move that is made now, and why it isn't made.
use Rattle.std.proofs.Common.{◌≡◌, ℕ, ◌<◌, Result, Ok, Err, inl, inr, length, Option, Some, None, refl, sym, ap, subst, ◌∙◌}
use Rattle.std.specs.Prelude.{OnOk, IfErr, IfSome, IsSome, MatchOption, MatchResult}
use Rattle.s4_types.specs.Pointer.{Place}
use Rattle.s4_types.specs.declared.limits.TheConstants.{MOVE_BLOCKS, PAYLOAD_BLOCKS}
use Rattle.s4_types.specs.declared.refusals.Refusal.{Refusal}
use Rattle.s4_types.specs.declared.refusals.Refusal.TheVariants.{NoRoom}
use Rattle.block_log.specs.declared.kinds.BlockKind.{BlockKind}
use Rattle.block_log.specs.declared.kinds.BlockKind.TheVariants.{Journal, Checkpoint, Data, Pointers}
use Rattle.block_log.specs.Log.{of_kind}
use Rattle.object_map.specs.declared.map.Row.{Row}
use Rattle.object_map.specs.Rows.{row_of}
use Rattle.segment_table.specs.Table.{Table, held_at}
use Rattle.segment_table.specs.Room.{pointers_in}
use Rattle.segment_table.specs.Laws.{IsListed, WhatIsListedIsHeld}
use Rattle.version_store.specs.Store.{IsStore}
use Rattle.drive.specs.Fields.{DriveFields, store_of}
use Rattle.interleaving.specs.Moving.{Move, IsMoveOf}
use Rattle.interleaving.specs.Acting.{IsUnplanned, IsUnmoved}
use Rattle.interleaving.specs.Moving.{IsCurrent}
use Rattle.version_store.specs.Costs.{room}
use Rattle.segment_copier.specs.Choosing.{HoldsIn, IsFirstFrame, IsLowestObject}
use Rattle.segment_copier.specs.Commits.{blocks_moved}
use Rattle.segment_copier.specs.declared.candidates.Candidate.{Candidate}
use Rattle.segment_copier.specs.Gathering.{free_count, most_to_empty, LacksRoom, IsKeptBack, IsUnmade, FailsToGather}
use Rattle.segment_copier.proofs.Placed.{seen_of}
use Rattle.segment_copier.proofs.Staying.{has_some}

-- what holds whatever was answered
pub on_ok_of : {A E X : Type 0} (r : Result A E) → X → OnOk r X
on_ok_of (Ok a) x = x
on_ok_of (Err e) x = tt

-- ---- why a whole move isn't made

-- it wasn't planned
pub unplanned : (d : DriveFields) (f o : ℕ) (e : Refusal) → IsUnplanned d o e → IsUnmade d f o e
unplanned d f o e why = elim why [
  | inl none ↦ inl none
  | inr want ↦ inr (inr want.0)
]

lacks : (d : DriveFields) (f o : ℕ) (m : Move) (r : Option Row) → row_of d.store.rows m.object ≡ r → m.frame ≡ f → m.object ≡ o → MatchOption r ⊥ (λ row. row.stamp ≡ m.stamp)
    → IfSome r (λ row. length (store_of d).log.ahead < blocks_moved d m.frame m.object row) → LacksRoom d f o
lacks d f o m None is frame object there short = absurd there
lacks d f o m (Some row) is frame object there short = record {
  row = row;
  there = ap (row_of d.store.rows) (sym object) ∙ is;
  short = subst (λ (n : ℕ). length (store_of d).log.ahead < blocks_moved d n o row) frame (subst (λ (n : ℕ). length (store_of d).log.ahead < blocks_moved d m.frame n row) object short);
}

-- or it was planned and not put in place on the same drive, where it isn't out of date
pub unmoved : (d : DriveFields) (f o : ℕ) (m : Move) (r : Result (Unit {0}) Refusal) → IsMoveOf d f o m → MatchResult r (λ _. IsCurrent d m) (IsUnmoved d m)
    → (r ≡ Err NoRoom → IfSome (row_of d.store.rows m.object) (λ row. length (store_of d).log.ahead < blocks_moved d m.frame m.object row)) → IfErr r (IsUnmade d f o)
unmoved d f o m (Ok done) is told room = tt
unmoved d f o m (Err e) is told room = elim told [
  | inl stale ↦ absurd (stale.1 is.current)
  | inr want ↦ elim want.0 [
    | inl none ↦ inr (inl (none, lacks d f o m (row_of d.store.rows m.object) refl is.frame is.object is.current.row (room (ap (λ (x : Refusal). Err x) none))))
    | inr memory ↦ inr (inr (inl memory))
  ]
]

-- ---- an object that holds a block has a row

none_there : (d : DriveFields) (o : ℕ) (kind : BlockKind) (p : Place) → IsStore (store_of d) → row_of d.store.rows o ≡ None → IsSome (of_kind kind o (store_of d).log.held p) → ⊥
none_there d o kind p store none some = let nothing : of_kind kind o (store_of d).log.held p ≡ None = store.nothing o none kind p in absurd (cc)

pub has_row : WhatIsListedIsHeld → (d : DriveFields) (f o : ℕ) → IsStore (store_of d) → HoldsIn d.store.table f o → row_of d.store.rows o ≡ None → ⊥
has_row law d f o store holds none =
    let t : Table = d.store.table in
    let first = has_some (pointers_in t o f) holds in
    let p : Place = first.0 in
    let listed : IsListed t o f p = law t o f p first.1 in
    elim (seen_of o (held_at t p) listed.held) [
      | inl journal ↦ none_there d o Journal p store none journal
      | inr (inl (inl first)) ↦ none_there d o Checkpoint p store none first
      | inr (inl (inr part)) ↦ none_there d o Pointers p store none part
      | inr (inr contents) ↦ none_there d o Data p store none contents
    ]

-- so the move of such an object is kept back where it isn't made
pub kept_back : WhatIsListedIsHeld → (d : DriveFields) (f o : ℕ) (e : Refusal) → IsStore (store_of d) → HoldsIn d.store.table f o → IsUnmade d f o e → IsKeptBack d f o e
kept_back law d f o e store holds why = elim why [
  | inl none ↦ absurd (has_row law d f o store holds none.1)
  | inr kept ↦ kept
]

-- and nothing is gathered then
pub not_gathered : WhatIsListedIsHeld → (d : DriveFields) (next : Candidate) (e : Refusal) → IsStore (store_of d) → room (store_of d) < MOVE_BLOCKS → IsFirstFrame d.store.table next.frame
    → IsLowestObject d.store.table next.frame next.object → 0 < free_count d.store.table → most_to_empty d next.frame < PAYLOAD_BLOCKS → IsUnmade d next.frame next.object e → FailsToGather d e
not_gathered law d next e store short frame object free few why = record {
  short = short;
  why = elim (kept_back law d next.frame next.object e store object.holds why) [
    | inl none ↦ inr (record { next = next; frame = frame; object = object; free = free; few = few; why = inr none })
    | inr (inl memory) ↦ inl memory
    | inr (inr busy) ↦ inr (record { next = next; frame = frame; object = object; free = free; few = few; why = inl busy })
  ];
}
