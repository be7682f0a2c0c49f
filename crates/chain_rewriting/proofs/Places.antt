-- A kept chain points to places of the old one alone.
use Rattle.std.proofs.Common.{ℕ, inl, inr, List, [], ◌∷◌, ◌++◌, sym, subst}
use Rattle.std.specs.Prelude.{IfSome}
use Rattle.std.specs.List.{AllByRecursion}
use Rattle.std.proofs.lemmas.Bool.{cases_Bool}
use Rattle.s4_types.specs.Pointer.{Place}
use Rattle.lemmas.proofs.Option.{IfSome_from}
use Rattle.codec.specs.declared.inodes.Inode.{Inode}
use Rattle.codec.specs.declared.entries.Triple.{Triple}
use Rattle.codec.specs.Checkpoint.{pointer_at}
use Rattle.codec.specs.Entry.{EntryFields}
use Rattle.undo_redo.specs.Runs.{inode_after}
use Rattle.undo_redo.specs.Between.{entries_between, AreOf}
use Rattle.chain_rewriting.specs.Cleaned.{Span, kept, led, step, entries_over, end_over, chain_of}
use Rattle.chain_rewriting.specs.CleaningLaws.{IsPlaceOf, PointsWithin, TellsWithin, HasPlacesWithin, AKeptChainPointsToOldPlaces}
use Rattle.chain_rewriting.proofs.Leading.{led_live, led_dead}
use Rattle.chain_rewriting.proofs.Shown.{kept_each}
use Rattle.chain_rewriting.proofs.Grouped.{of_step, of_cleaned}
use Rattle.chain_rewriting.specs.private.Resting.{Facts}

abbrev pub BetweenTells : Type 0
BetweenTells = (i j : Inode) (m : ℕ) → AllByRecursion (λ e. AreOf i j e.triples) (entries_between i j m)

-- a dead inode points where the one before it does
led_within : (Is : Place → Type 0) (p i : Inode) → PointsWithin Is p → PointsWithin Is i → PointsWithin Is (led p i)
led_within Is p i hp hi = elim (cases_Bool i.alive) [
  | inl live ↦ subst (λ (j : Inode). PointsWithin Is j) (sym (led_live p i live)) hi
  | inr dead ↦ subst (λ (j : Inode). PointsWithin Is j) (sym (led_dead p i dead)) hp
]

triples_within : (Is : Place → Type 0) (i j : Inode) (triples : List Triple) → PointsWithin Is i → PointsWithin Is j → AreOf i j triples → AllByRecursion (λ t. IfSome t.before Is × IfSome t.after Is) triples
triples_within Is i j [] hi hj are = tt
triples_within Is i j (t ∷ triples) hi hj are = (subst (λ (u : Triple). IfSome u.before Is × IfSome u.after Is) (sym are.0) (hi t.index, hj t.index), triples_within Is i j triples hi hj are.1)

all_within : (Is : Place → Type 0) (i j : Inode) (entries : List EntryFields) → PointsWithin Is i → PointsWithin Is j → AllByRecursion (λ e. AreOf i j e.triples) entries → AllByRecursion (TellsWithin Is) entries
all_within Is i j [] hi hj are = tt
all_within Is i j (e ∷ entries) hi hj are = (triples_within Is i j e.triples hi hj are.0, all_within Is i j entries hi hj are.1)

join_within : (Is : Place → Type 0) (front back : List EntryFields) → AllByRecursion (TellsWithin Is) front → AllByRecursion (TellsWithin Is) back → AllByRecursion (TellsWithin Is) (front ++ back)
join_within Is [] back h k = k
join_within Is (e ∷ front) back h k = (h.0, join_within Is front back h.1 k)

step_within : BetweenTells → (Is : Place → Type 0) (p : Inode) (s : Span) → PointsWithin Is p → PointsWithin Is s.inode → AllByRecursion (TellsWithin Is) (step p s)
step_within tells Is p s hp hs = of_step (λ es. AllByRecursion (TellsWithin Is) es) p s tt (λ is. all_within Is p (led p s.inode) (entries_between p (led p s.inode) s.from) hp (led_within Is p s.inode hp hs) (tells p (led p s.inode) s.from))

over_within : BetweenTells → (Is : Place → Type 0) (p : Inode) (spans : List Span) → PointsWithin Is p → AllByRecursion (λ s. PointsWithin Is s.inode) spans → AllByRecursion (TellsWithin Is) (entries_over p spans)
over_within tells Is p [] hp h = tt
over_within tells Is p (s ∷ spans) hp h = join_within Is (step p s) (entries_over (led p s.inode) spans) (step_within tells Is p s hp h.0) (over_within tells Is (led p s.inode) spans (led_within Is p s.inode hp h.0) h.1)

end_within : (Is : Place → Type 0) (p : Inode) (spans : List Span) → PointsWithin Is p → AllByRecursion (λ s. PointsWithin Is s.inode) spans → PointsWithin Is (end_over p spans)
end_within Is p [] hp h = hp
end_within Is p (s ∷ spans) hp h = end_within Is (led p s.inode) spans (led_within Is p s.inode hp h.0) h.1

chain_within : BetweenTells → (Is : Place → Type 0) (spans : List Span) → AllByRecursion (λ s. PointsWithin Is s.inode) spans → IfSome (chain_of spans) (HasPlacesWithin Is)
chain_within tells Is [] h = tt
chain_within tells Is (s ∷ spans) h = record { first = h.0; entries = over_within tells Is s.inode spans h.0 h.1; last = end_within Is s.inode spans h.0 h.1 }

pub cleaned_places : Facts → BetweenTells → AKeptChainPointsToOldPlaces
cleaned_places f tells sees created latest clock first entries h =
    let Is : Place → Type 0 = IsPlaceOf first entries in
    of_cleaned (HasPlacesWithin Is) sees clock first entries (λ some.
    chain_within tells Is (kept sees clock first 0 entries) (kept_each f (PointsWithin Is) sees clock first 0 entries (f.ascend entries h.groups) (λ u low k. IfSome_from (pointer_at (inode_after first entries u) k) Is (λ p is. (u, k, is)))))
