-- Walking a chain finds the blocks that stand, and no others.
use Rattle.std.proofs.Common.{◌≡◌, ℕ, zero, suc, ◌≤◌, ◌==◌, List, [], ◌∷◌, length, Option, Some, None, refl, ap, ◌∙◌, subst, arith}
use Rattle.std.proofs.lemmas.Bool.{eqb-true}
use Rattle.std.proofs.lemmas.Option.{none-some, same_Some, cond_some}
use Rattle.s4_types.specs.Pointer.{Place}
use Rattle.codec.specs.Fields.{◌>>=◌, all_of, kept}
use Rattle.codec.specs.Journal.{JournalFields, journal_at}
use Rattle.codec.proofs.Exact.{bind_some}
use Rattle.journal_chain.specs.Chain.{BlockView, Link, journal_of, journal_in, linked, links_from}
use Rattle.journal_chain.specs.Writing.{head_of, fields_of_block, Stands}

pub bind_is : {A B : Type 0} (o : Option A) (f : A → Option B) (x : A) → o ≡ Some x → (o >>= f) ≡ f x
bind_is o f x h = ap (λ p. p >>= f) h

-- a journal block of an object tells that object
pub of_object : (o : ℕ) (bytes : List ℕ) (j : JournalFields) → journal_of o bytes ≡ Some j → j.object ≡ o
unfolding journal_of
of_object o bytes j h =
    let (k, read, keeps) = bind_some (all_of journal_at bytes) (λ k. kept (k.object == o) k) j h in
    let (test, same) = cond_some (k.object == o) k j keeps in
    subst (λ k. k.object ≡ o) same (eqb-true k.object o test)

pub of_object_in : (o : ℕ) (view : BlockView) (p : Place) (j : JournalFields) → journal_in o view p ≡ Some j → j.object ≡ o
of_object_in o view p j h =
    let (bytes, there, spells) = bind_some (view p) (journal_of o) j h in
    of_object o bytes j spells

-- the walk from the head of blocks that stand finds them
pub walk_of_stands : (fuel o : ℕ) (view : BlockView) (links : List Link) → Stands o view links → length links ≤ fuel → links_from fuel (journal_in o view) (head_of links) ≡ Some links
unfolding links_from
walk_of_stands zero o view [] s le = refl
walk_of_stands (suc fuel) o view [] s le = refl
walk_of_stands zero o view (newest ∷ older) s le = absurd (omega arith)
walk_of_stands (suc fuel) o view (newest ∷ older) s le =
    let rest : links_from fuel (journal_in o view) (head_of older) ≡ Some older = walk_of_stands fuel o view older s.1 (omega arith) in
    bind_is (journal_in o view newest.place) (λ b. links_from fuel (journal_in o view) b.previous >>= λ older. Some (linked newest.place b older)) (fields_of_block o newest older) s.0
    ∙ bind_is (links_from fuel (journal_in o view) (head_of older)) (λ older. Some (linked newest.place (fields_of_block o newest older) older)) older rest

-- what a walk finds stands, from the head on
pub record Found (fuel o : ℕ) (view : BlockView) (head : Option Place) (links : List Link) : Type 0 where
  pub stands : Stands o view links
  pub head_is : head ≡ head_of links
  pub short : length links ≤ fuel

pub stands_of_walk : (fuel o : ℕ) (view : BlockView) (head : Option Place) (links : List Link) → links_from fuel (journal_in o view) head ≡ Some links → Found fuel o view head links
unfolding links_from
stands_of_walk zero o view None links h = let e : [] ≡ links = same_Some [] links h in subst (λ l. Found zero o view None l) e (record { stands = tt; head_is = refl; short = omega arith })
stands_of_walk (suc fuel) o view None links h = let e : [] ≡ links = same_Some [] links h in subst (λ l. Found (suc fuel) o view None l) e (record { stands = tt; head_is = refl; short = omega arith })
stands_of_walk zero o view (Some p) links h = absurd (none-some links h)
stands_of_walk (suc fuel) o view (Some p) links h =
    let (b, there, after) = bind_some (journal_in o view p) (λ b. links_from fuel (journal_in o view) b.previous >>= λ older. Some (linked p b older)) links h in
    let (older, walk, made) = bind_some (links_from fuel (journal_in o view) b.previous) (λ older. Some (linked p b older)) links after in
    let behind : Found fuel o view b.previous older = stands_of_walk fuel o view b.previous older walk in
    let whole : journal_in o view p ≡ Some (fields_of_block o (record { place = p; entries = b.entries }) older) =
    there ∙ ap (λ q. Some (record { object = b.object; previous = q; entries = b.entries })) behind.head_is ∙ ap (λ q. Some (record { object = q; previous = head_of older; entries = b.entries })) (of_object_in o view p b there) in
    let e : linked p b older ≡ links = same_Some (linked p b older) links made in
    subst (λ l. Found (suc fuel) o view (Some p) l) e (record { stands = (whole, behind.stands); head_is = refl; short = let s : length older ≤ fuel = behind.short in omega arith })
