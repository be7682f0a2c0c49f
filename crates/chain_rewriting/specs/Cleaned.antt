-- What is left of a chain once nobody can see a part of it: which of its inodes stay, and the entries between them.
use Rattle.std.specs.Prelude.{ℕ, ◌-◌, Bool, false, nat_lt, ◌&&◌, ◌||◌, ◌++◌, if◌then◌else◌, List, [], ◌∷◌, Option, Some, None}
use Rattle.codec.specs.declared.inodes.Inode.{Inode}
use Rattle.codec.specs.Entry.{EntryFields}
use Rattle.undo_redo.specs.Redone.{redone}
use Rattle.undo_redo.specs.Between.{entries_between}

-- an inode of a chain, with the first and the last moment at which it is current
pub record Span : Type 0 where
  pub inode : Inode
  pub from : ℕ
  pub last : ℕ

abbrev pub span_of : Inode → ℕ → ℕ → Span
span_of i from last = record { inode = i; from = from; last = last }

-- An inode stays where its entry is of an earlier moment than the next one, so that it is current at all, and where one of
-- those moments is seen.
abbrev pub stays : (ℕ → ℕ → Bool) → ℕ → ℕ → Bool
stays sees from next = nat_lt from next && sees from (next - 1)

-- The inodes of a chain that stay, oldest first, from one that is current from a moment on: those that are seen at some
-- moment before the next entry's, and always the last one, which is current up to the clock.
abbrev pub kept : (ℕ → ℕ → Bool) → ℕ → Inode → ℕ → List EntryFields → List Span
kept sees clock i from [] = span_of i from clock ∷ []
kept sees clock i from (e ∷ entries) =
    if stays sees from e.moment then span_of i from (e.moment - 1) ∷ kept sees clock (redone e i) e.moment entries else kept sees clock (redone e i) e.moment entries

-- one of them is live
abbrev pub any_live : List Span → Bool
any_live [] = false
any_live (s ∷ spans) = s.inode.alive || any_live spans

-- A kept inode after another one: a dead one has all but the flag from the one before.
abbrev pub led : Inode → Inode → Inode
led before i = if i.alive then i else record before { alive = false }

-- The entries that lead from a kept inode to the next, of the moment of the next: between two dead ones there are none.
abbrev pub step : Inode → Span → List EntryFields
step before s = if before.alive || s.inode.alive then entries_between before (led before s.inode) s.from else []

-- the entries that lead from an inode over all that are kept after it
abbrev pub entries_over : Inode → List Span → List EntryFields
entries_over before [] = []
entries_over before (s ∷ spans) = step before s ++ entries_over (led before s.inode) spans

-- where they lead
abbrev pub end_over : Inode → List Span → Inode
end_over before [] = before
end_over before (s ∷ spans) = end_over (led before s.inode) spans

-- a chain: its first inode, its entries, and the inode to which they lead
pub record KeptChain : Type 0 where
  pub first : Inode
  pub entries : List EntryFields
  pub last : Inode

-- the chain of kept inodes
abbrev pub chain_of : List Span → Option KeptChain
chain_of [] = None
chain_of (s ∷ spans) = Some (record { first = s.inode; entries = entries_over s.inode spans; last = end_over s.inode spans })

-- The kept chain. There is none where no inode that stays is live.
abbrev pub cleaned : (ℕ → ℕ → Bool) → ℕ → Inode → List EntryFields → Option KeptChain
cleaned sees clock first entries =
    if any_live (kept sees clock first 0 entries) then chain_of (kept sees clock first 0 entries) else None
