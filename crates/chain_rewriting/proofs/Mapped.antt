-- Mapping commutes with all that undo and redo make of an inode.
use Rattle.std.proofs.Common.{◌≡◌, ℕ, zero, suc, replicate, ◌==◌, Bool, true, false, cond, List, [], ◌∷◌, map, Option, Some, None, refl, sym, ap, ◌∙◌}
use Rattle.std.proofs.Math.ListN.{set, get_or-map}
use Rattle.std.proofs.lemmas.List.{map-set, length-map}
use Rattle.s4_types.specs.Pointer.{Place}
use Rattle.s4_types.specs.declared.limits.TheConstants.{OBJECT_BLOCKS}
use Rattle.codec.specs.declared.inodes.Inode.{Inode}
use Rattle.codec.specs.declared.entries.Triple.{Triple}
use Rattle.codec.specs.Checkpoint.{pointer_at, holes}
use Rattle.codec.specs.Entry.{EntryFields}
use Rattle.undo_redo.specs.Linked.{pointer_after, pointer_before}
use Rattle.undo_redo.specs.Redone.{with_after, with_before, redone, undone}
use Rattle.undo_redo.specs.Runs.{redone_all, undone_all, entry_is_by, entries_by, blank}
use Rattle.time_read.specs.Rows.{inode_before}
use Rattle.chain_rewriting.specs.Mapping.{mapped_slot, mapped_triple, mapped_entry, mapped_entries, mapped_inode}
use Rattle.chain_rewriting.specs.MappingLaws.{MappingCommutesWithRedo, MappingCommutesWithUndo, MappingCommutesWithRedoOfAll, MappingCommutesWithUndoOfAll, AMappedChainShowsMappedInodes, AMappedLinkIsALink, AMappedRunIsARun, ABlankInodeIsMappedToItself, APointerIsMapped, AMappedChainBeginsMapped}

-- an inode with these pointers
abbrev pub pointing : Inode → List (Option Place) → Inode
pointing i pointers = record i { pointers = pointers }

with_after_mapped : (f : Place → Place) (triples : List Triple) (pointers : List (Option Place)) → with_after (map (mapped_triple f) triples) (map (mapped_slot f) pointers) ≡ map (mapped_slot f) (with_after triples pointers)
with_after_mapped f [] pointers = refl
with_after_mapped f (t ∷ triples) pointers =
    ap (with_after (map (mapped_triple f) triples)) (sym (map-set (mapped_slot f) pointers t.index t.after)) ∙ with_after_mapped f triples (set pointers t.index t.after)

with_before_mapped : (f : Place → Place) (triples : List Triple) (pointers : List (Option Place)) → with_before (map (mapped_triple f) triples) (map (mapped_slot f) pointers) ≡ map (mapped_slot f) (with_before triples pointers)
with_before_mapped f [] pointers = refl
with_before_mapped f (t ∷ triples) pointers =
    ap (with_before (map (mapped_triple f) triples)) (sym (map-set (mapped_slot f) pointers t.index t.before)) ∙ with_before_mapped f triples (set pointers t.index t.before)

pub redone_mapped : (f : Place → Place) → MappingCommutesWithRedo f
unfolding redone
redone_mapped f i e = ap (pointing (redone e i)) (with_after_mapped f e.triples i.pointers)

pub undone_mapped : (f : Place → Place) → MappingCommutesWithUndo f
unfolding undone
undone_mapped f j e = ap (pointing (undone e j)) (with_before_mapped f e.triples j.pointers)

pub redone_all_mapped : (f : Place → Place) → MappingCommutesWithRedoOfAll f
redone_all_mapped f i [] = refl
redone_all_mapped f i (e ∷ entries) = ap (redone_all (mapped_entries f entries)) (redone_mapped f i e) ∙ redone_all_mapped f (redone e i) entries

pub undone_all_mapped : (f : Place → Place) → MappingCommutesWithUndoOfAll f
undone_all_mapped f j [] = refl
undone_all_mapped f j (e ∷ entries) = ap (undone (mapped_entry f e)) (undone_all_mapped f j entries) ∙ undone_mapped f (undone_all entries j) e

-- ---- moments

map_cond : {A B : Type 0} (f : A → B) (b : Bool) (x : A) (xs ys : List A) → map f (cond b (x ∷ xs) ys) ≡ cond b (f x ∷ map f xs) (map f ys)
map_cond f true x xs ys = refl
map_cond f false x xs ys = refl

pub entries_by_mapped : (f : Place → Place) (t : ℕ) (entries : List EntryFields) → entries_by t (mapped_entries f entries) ≡ mapped_entries f (entries_by t entries)
entries_by_mapped f t [] = refl
entries_by_mapped f t (e ∷ entries) =
    ap (λ es. cond (entry_is_by t e) (mapped_entry f e ∷ es) es) (entries_by_mapped f t entries) ∙ sym (map_cond (mapped_entry f) (entry_is_by t e) e (entries_by t entries) (entries_by t entries))

pub inode_after_mapped : (f : Place → Place) → AMappedChainShowsMappedInodes f
inode_after_mapped f first entries t =
    ap (λ es. redone_all es (mapped_inode f first)) (entries_by_mapped f t entries) ∙ redone_all_mapped f first (entries_by t entries)

-- ---- links

pub pointer_mapped : (f : Place → Place) → APointerIsMapped f
pointer_mapped f i n = get_or-map (mapped_slot f) i.pointers n None

slot_cond : (f : Place → Place) (b : Bool) (x y : Option Place) → mapped_slot f (cond b x y) ≡ cond b (mapped_slot f x) (mapped_slot f y)
slot_cond f true x y = refl
slot_cond f false x y = refl

after_mapped : (f : Place → Place) (triples : List Triple) (n : ℕ) (p : Option Place) → mapped_slot f (pointer_after triples n p) ≡ pointer_after (map (mapped_triple f) triples) n (mapped_slot f p)
after_mapped f [] n p = refl
after_mapped f (t ∷ triples) n p =
    after_mapped f triples n (cond (t.index == n) t.after p) ∙ ap (pointer_after (map (mapped_triple f) triples) n) (slot_cond f (t.index == n) t.after p)

before_mapped : (f : Place → Place) (triples : List Triple) (n : ℕ) (p : Option Place) → mapped_slot f (pointer_before triples n p) ≡ pointer_before (map (mapped_triple f) triples) n (mapped_slot f p)
before_mapped f [] n p = refl
before_mapped f (t ∷ triples) n p =
    before_mapped f triples n (cond (t.index == n) t.before p) ∙ ap (pointer_before (map (mapped_triple f) triples) n) (slot_cond f (t.index == n) t.before p)

pub link_mapped : (f : Place → Place) → AMappedLinkIsALink f
link_mapped f i j e l = record {
  status_before = l.status_before;
  status_after = l.status_after;
  created = l.created;
  attribute = l.attribute;
  count_before = length-map i.pointers (mapped_slot f) ∙ l.count_before;
  count_after = length-map j.pointers (mapped_slot f) ∙ l.count_after;
  forth = λ n lt. pointer_mapped f j n ∙ ap (mapped_slot f) (l.forth n lt) ∙ after_mapped f e.triples n (pointer_at i n) ∙ ap (pointer_after (map (mapped_triple f) e.triples) n) (sym (pointer_mapped f i n));
  back = λ n lt. pointer_mapped f i n ∙ ap (mapped_slot f) (l.back n lt) ∙ before_mapped f e.triples n (pointer_at j n) ∙ ap (pointer_before (map (mapped_triple f) e.triples) n) (sym (pointer_mapped f j n));
}

pub run_mapped : (f : Place → Place) → AMappedRunIsARun f
run_mapped f i j [] h = ap (mapped_inode f) h
run_mapped f i j (e ∷ entries) h = (mapped_inode f h.0, link_mapped f i h.0 e h.1, run_mapped f h.0 j entries h.2)

-- ---- the blank inode

holes_mapped : (f : Place → Place) (n : ℕ) → map (mapped_slot f) (replicate n None) ≡ replicate n None
holes_mapped f zero = refl
holes_mapped f (suc n) = ap (λ ps. None ∷ ps) (holes_mapped f n)

pub blank_mapped : (f : Place → Place) → ABlankInodeIsMappedToItself f
unfolding blank holes
blank_mapped f created = ap (pointing (blank created)) (holes_mapped f OBJECT_BLOCKS)

-- ---- the first inode

pub first_mapped : (f : Place → Place) → AMappedChainBeginsMapped f
unfolding inode_before
first_mapped f created moment entries None = sym (blank_mapped f created)
first_mapped f created moment entries (Some c) =
    ap (λ (es : List EntryFields). undone_all es (mapped_inode f c.inode)) (entries_by_mapped f moment entries) ∙ undone_all_mapped f c.inode (entries_by moment entries)
