-- A link is an entry redone, or undone.
use Rattle.std.proofs.Common.{◌≡◌, ℕ, ◌<◌, List, length, get_or, Option, Some, None, refl, sym, ap, subst, ◌∙◌}
use Rattle.std.specs.Prelude.{IfSome, ◌↔◌}
use Rattle.s4_types.specs.Pointer.{Place}
use Rattle.s4_types.specs.declared.limits.TheConstants.{OBJECT_BLOCKS}
use Rattle.codec.specs.declared.inodes.Inode.{Inode}
use Rattle.codec.specs.declared.entries.Status.{Status}
use Rattle.codec.specs.declared.entries.Pair.{Pair}
use Rattle.codec.specs.Checkpoint.{pointer_at}
use Rattle.codec.specs.Entry.{EntryFields}
use Rattle.undo_redo.specs.Linked.{status_of, pointer_after, pointer_before, AreSides, Linked, StandsBefore, StandsAfter}
use Rattle.undo_redo.specs.Redone.{with_after, with_before, attribute_after, attribute_before, redone, undone}
use Rattle.undo_redo.proofs.Pointers.{length-with_after, length-with_before, at-with_after, at-with_before, before_after, after_before, same_pointers}

inode_of : Status → ℕ → List ℕ → List (Option Place) → Inode
inode_of s created attribute pointers = record { alive = s.alive; size = s.size; created = created; changed = s.changed; attribute = attribute; pointers = pointers }

inode_of-same : (r s : Status) (c d : ℕ) (a b : List ℕ) (p q : List (Option Place)) → r ≡ s → c ≡ d → a ≡ b → p ≡ q → inode_of r c a p ≡ inode_of s d b q
inode_of-same r s c d a b p q er ec ea ep = cc

-- inodes of the same parts are equal
pub same_inode : (i j : Inode) → status_of i ≡ status_of j → i.created ≡ j.created → i.attribute ≡ j.attribute → i.pointers ≡ j.pointers → i ≡ j
unfolding inode_of
same_inode i j s c a p = inode_of-same (status_of i) (status_of j) i.created j.created i.attribute j.attribute i.pointers j.pointers s c a p

-- ---- forward

sides_first : (pair : Option Pair) (a b : List ℕ) → AreSides pair a b → IfSome pair (λ p. a ≡ p.before)
sides_first None a b h = tt
sides_first (Some p) a b h = h.0

sides_after : (pair : Option Pair) (a b : List ℕ) → AreSides pair a b → b ≡ attribute_after pair a
sides_after None a b h = sym h
sides_after (Some p) a b h = h.1

sides_of_after : (pair : Option Pair) (a : List ℕ) → IfSome pair (λ p. a ≡ p.before) → AreSides pair a (attribute_after pair a)
sides_of_after None a h = refl
sides_of_after (Some p) a h = (h, refl)

pub stands_before : (i j : Inode) (e : EntryFields) → Linked i e j → StandsBefore i e
stands_before i j e l = record {
  status = l.status_before;
  attribute = sides_first e.pair i.attribute j.attribute l.attribute;
  count = l.count_before;
  pointers = λ n lt. l.back n lt ∙ ap (pointer_before e.triples n) (l.forth n lt) ∙ before_after e.triples n (pointer_at i n);
}

pub is_redone : (i j : Inode) (e : EntryFields) → Linked i e j → j ≡ redone e i
unfolding redone
is_redone i j e l =
    let pointers : j.pointers ≡ with_after e.triples i.pointers =
    same_pointers j.pointers (with_after e.triples i.pointers) l.count_after (length-with_after e.triples i.pointers ∙ l.count_before) (λ n lt. let in_it : n < length i.pointers = subst (λ (k : ℕ). n < k) (sym l.count_before) lt in l.forth n lt ∙ sym (at-with_after e.triples i.pointers n in_it)) in
    same_inode j (redone e i) l.status_after (sym l.created) (sides_after e.pair i.attribute j.attribute l.attribute) pointers

pub linked_redone : (i : Inode) (e : EntryFields) → StandsBefore i e → Linked i e (redone e i)
unfolding redone
linked_redone i e h =
    let forth : (n : ℕ) → n < OBJECT_BLOCKS → get_or (with_after e.triples i.pointers) n None ≡ pointer_after e.triples n (pointer_at i n) =
    λ n lt. let in_it : n < length i.pointers = subst (λ (k : ℕ). n < k) (sym h.count) lt in at-with_after e.triples i.pointers n in_it in
    record {
      status_before = h.status;
      status_after = refl;
      created = refl;
      attribute = sides_of_after e.pair i.attribute h.attribute;
      count_before = h.count;
      count_after = length-with_after e.triples i.pointers ∙ h.count;
      forth = forth;
      back = λ n lt. h.pointers n lt ∙ sym (before_after e.triples n (pointer_at i n)) ∙ sym (ap (pointer_before e.triples n) (forth n lt));
    }

pub forth : (i j : Inode) (e : EntryFields) → Linked i e j ↔ StandsBefore i e × (j ≡ redone e i)
forth i j e = (λ (l : Linked i e j). (stands_before i j e l, is_redone i j e l), λ (h : StandsBefore i e × (j ≡ redone e i)). subst (λ (k : Inode). Linked i e k) (sym h.1) (linked_redone i e h.0))

-- ---- backward

sides_second : (pair : Option Pair) (a b : List ℕ) → AreSides pair a b → IfSome pair (λ p. b ≡ p.after)
sides_second None a b h = tt
sides_second (Some p) a b h = h.1

sides_before : (pair : Option Pair) (a b : List ℕ) → AreSides pair a b → a ≡ attribute_before pair b
sides_before None a b h = h
sides_before (Some p) a b h = h.0

sides_of_before : (pair : Option Pair) (b : List ℕ) → IfSome pair (λ p. b ≡ p.after) → AreSides pair (attribute_before pair b) b
sides_of_before None b h = refl
sides_of_before (Some p) b h = (refl, h)

pub stands_after : (i j : Inode) (e : EntryFields) → Linked i e j → StandsAfter e j
stands_after i j e l = record {
  status = l.status_after;
  attribute = sides_second e.pair i.attribute j.attribute l.attribute;
  count = l.count_after;
  pointers = λ n lt. l.forth n lt ∙ ap (pointer_after e.triples n) (l.back n lt) ∙ after_before e.triples n (pointer_at j n);
}

pub is_undone : (i j : Inode) (e : EntryFields) → Linked i e j → i ≡ undone e j
unfolding undone
is_undone i j e l =
    let pointers : i.pointers ≡ with_before e.triples j.pointers =
    same_pointers i.pointers (with_before e.triples j.pointers) l.count_before (length-with_before e.triples j.pointers ∙ l.count_after) (λ n lt. let in_it : n < length j.pointers = subst (λ (k : ℕ). n < k) (sym l.count_after) lt in l.back n lt ∙ sym (at-with_before e.triples j.pointers n in_it)) in
    same_inode i (undone e j) l.status_before l.created (sides_before e.pair i.attribute j.attribute l.attribute) pointers

pub linked_undone : (j : Inode) (e : EntryFields) → StandsAfter e j → Linked (undone e j) e j
unfolding undone
linked_undone j e h =
    let back : (n : ℕ) → n < OBJECT_BLOCKS → get_or (with_before e.triples j.pointers) n None ≡ pointer_before e.triples n (pointer_at j n) =
    λ n lt. let in_it : n < length j.pointers = subst (λ (k : ℕ). n < k) (sym h.count) lt in at-with_before e.triples j.pointers n in_it in
    record {
      status_before = refl;
      status_after = h.status;
      created = refl;
      attribute = sides_of_before e.pair j.attribute h.attribute;
      count_before = length-with_before e.triples j.pointers ∙ h.count;
      count_after = h.count;
      forth = λ n lt. h.pointers n lt ∙ sym (after_before e.triples n (pointer_at j n)) ∙ sym (ap (pointer_after e.triples n) (back n lt));
      back = back;
    }

pub back : (i j : Inode) (e : EntryFields) → Linked i e j ↔ StandsAfter e j × (i ≡ undone e j)
back i j e = (λ (l : Linked i e j). (stands_after i j e l, is_undone i j e l), λ (h : StandsAfter e j × (i ≡ undone e j)). subst (λ (k : Inode). Linked k e j) (sym h.1) (linked_undone j e h.0))

pub one_next : (i j k : Inode) (e : EntryFields) → Linked i e j → Linked i e k → j ≡ k
one_next i j k e l m = is_redone i j e l ∙ sym (is_redone i k e m)

pub one_previous : (i j k : Inode) (e : EntryFields) → Linked i e k → Linked j e k → i ≡ j
one_previous i j k e l m = is_undone i k e l ∙ sym (is_undone j k e m)
