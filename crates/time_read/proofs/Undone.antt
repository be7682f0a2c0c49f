-- What is kept of entries undoes them, stays where more is kept, and is gone through from the newest back.
use Rattle.std.proofs.Common.{◌≡◌, ℕ, zero, suc, ◌<◌, ◌≤◌, ◌+◌, ◌-◌, Bool, true, false, leb, List, [], ◌∷◌, ◌++◌, length, map, take, drop, get_or, Option, Some, None, Result, Ok, Err, option_map, unwrap_or, refl, sym, ap, subst, ◌∙◌, append_assoc, arith}
use Rattle.std.specs.Prelude.{nat_le, if◌then◌else◌, reverse, option_to_list, is_some}
use Rattle.std.specs.List.{AllByRecursion, AllWithin}
use Rattle.std.specs.List.Sorted.{IsNonDecreasingBy, IsPartitionPoint}
use Rattle.std.specs.Result.{OnOk, is_err}
use Rattle.std.proofs.lemmas.Bool.{and_parts, false≢true, leb-true, leb-false, lt-leb}
use Rattle.std.proofs.lemmas.List.{append-nil, map-append, reverse-append, reverse-reverse, take-append-drop, drop-drop, drop_all, drop_more, drop_at, drop-append-le, take-append-le, take_all, length-append, length-drop, length_push, get_or_append_left, get_or_at, get_or_default, get_or_past, same_from_push, map_push, map_more}
use Rattle.std.proofs.lemmas.List.Elements.{All-from_recursion, All-pop}
use Rattle.s4_types.specs.Pointer.{Place}
use Rattle.s4_types.specs.declared.limits.TheConstants.{OBJECT_BYTES}
use Rattle.codec.specs.declared.inodes.Inode.{Inode}
use Rattle.codec.specs.declared.entries.Status.{Status}
use Rattle.codec.specs.declared.entries.Pair.{Pair}
use Rattle.codec.specs.declared.entries.Triple.{Triple}
use Rattle.codec.specs.Entry.{EntryFields, ascend_from, was_nothing, changes_now, differs, entry_rules}
use Rattle.undo_redo.specs.Redone.{undone, with_before, attribute_before}
use Rattle.undo_redo.specs.Runs.{Run, inode_after, moments_ascend_from}
use Rattle.undo_redo.specs.Groups.{grouped}
use Rattle.undo_redo.specs.Laws.{ALaterEntryIsUndone, ThePresentInodeIsLast}
use Rattle.time_read.specs.Earlier.{Earlier}
use Rattle.time_read.proofs.PutBack.{put_back_append}
use Rattle.time_read.specs.Undoings.{Undoing, earlier_of, undoing_of, put_back, undone_by, undone_from, attribute_in, attribute_end, undoing_in, Spans, Tile, Tells, Extends}
use Rattle.time_read.specs.declared.undo_records.UndoRecord.{UndoRecord}

-- ---- an undoing is of its entry

put_back_is : (triples : List Triple) (pointers : List (Option Place)) → put_back (map earlier_of triples) pointers ≡ with_before triples pointers
put_back_is [] pointers = refl
put_back_is (t ∷ triples) pointers = put_back_is triples _

attribute_is : (pair : Option Pair) (attribute : List ℕ) → unwrap_or (option_map (λ (p : Pair). p.before) pair) attribute ≡ attribute_before pair attribute
attribute_is None attribute = refl
attribute_is (Some p) attribute = refl

inode_with : Status → ℕ → List ℕ → List (Option Place) → Inode
inode_with s created attribute pointers = record { alive = s.alive; size = s.size; created = created; changed = s.changed; attribute = attribute; pointers = pointers }

pub undoes : (e : EntryFields) (j : Inode) → undone_by (undoing_of e) j ≡ undone e j
unfolding undone undone_by inode_with
undoes e j =
    ap (λ (a : List ℕ). inode_with e.before j.created a (put_back (map earlier_of e.triples) j.pointers)) (attribute_is e.pair j.attribute)
    ∙ ap (λ (ps : List (Option Place)). inode_with e.before j.created (attribute_before e.pair j.attribute) ps) (put_back_is e.triples j.pointers)

-- ---- the indices of an entry's triples are below OBJECT_BLOCKS

pub triples_ascend : (e : EntryFields) → entry_rules e ≡ true → ascend_from 0 e.triples ≡ true
unfolding entry_rules
triples_ascend e h =
    let a = and_parts (leb 1 e.moment) _ h in
    let b = and_parts _ _ a.1 in
    let c = and_parts (leb e.before.size OBJECT_BYTES) _ b.1 in
    let d = and_parts (leb e.after.size OBJECT_BYTES) _ c.1 in
    let f = and_parts (was_nothing e.before) _ d.1 in
    let g = and_parts (changes_now e) _ f.1 in
    (and_parts (differs e.pair) (ascend_from 0 e.triples) g.1).1

-- ---- lists that begin with others

pub extends_none : {X : Type 0} → (xs : List X) → Extends xs xs
extends_none xs = ([], sym (append-nil xs))

pub extends_push : {X : Type 0} → (xs ys zs : List X) (x : X) → ys ≡ xs → zs ≡ ys ++ x ∷ [] → Extends xs zs
extends_push xs ys zs x is pushed = (x ∷ [], pushed ∙ ap (λ l. l ++ x ∷ []) is)

pub extends_on : {X : Type 0} → (xs ys zs : List X) → Extends xs ys → Extends ys zs → Extends xs zs
extends_on xs ys zs a b = (a.0 ++ b.0, b.1 ∙ ap (λ l. l ++ b.0) a.1 ∙ append_assoc xs a.0 b.0)

pub nothing_more : (xs : List (List ℕ)) → xs ≡ xs ++ []
nothing_more xs = sym (append-nil xs)

-- ---- what is kept stays where more is kept

undoing_with : ℕ → Status → Option (List ℕ) → List Earlier → Undoing
undoing_with moment before attribute pointers = record { moment = moment; before = before; attribute = attribute; pointers = pointers }

range_stays : (ps more : List Earlier) (s n : ℕ) → s + n ≤ length ps → take n (drop s (ps ++ more)) ≡ take n (drop s ps)
range_stays ps more s n le =
    let long : n ≤ length (drop s ps) = omega (arith, le, length-drop s ps) in
    ap (λ (l : List Earlier). take n l) (drop-append-le s ps more (omega (arith, le))) ∙ take-append-le n (drop s ps) more long

chosen_stays : (b : Bool) (n : ℕ) (xs more : List (List ℕ)) → (if b then n + 1 else n) ≤ length xs → (if b then Some (get_or (xs ++ more) n []) else None) ≡ (if b then Some (get_or xs n []) else None)
chosen_stays true n xs more le = ap (λ (x : List ℕ). Some x) (get_or_append_left xs more [] n (omega arith))
chosen_stays false n xs more le = refl

undoing_stays : (ps more : List Earlier) (xs others : List (List ℕ)) (r : UndoRecord) → r.first ≤ r.end → r.end ≤ length ps → attribute_end r ≤ length xs → undoing_in (ps ++ more) (xs ++ others) r ≡ undoing_in ps xs r
unfolding undoing_with
undoing_stays ps more xs others r order room place =
    ap (λ (a : Option (List ℕ)). undoing_with r.moment r.before a (reverse (take (r.end - r.first) (drop r.first (ps ++ more))))) (chosen_stays r.tells_attribute r.attribute xs others place)
    ∙ ap (λ (l : List Earlier). undoing_with r.moment r.before (attribute_in xs r) (reverse l)) (range_stays ps more r.first (r.end - r.first) (omega (arith, order, room)))

end_behind : (b : Bool) (n : ℕ) → n ≤ (if b then n + 1 else n)
end_behind true n = omega arith
end_behind false n = omega arith

tile_le : (p a : ℕ) (rs : List UndoRecord) (q b : ℕ) → Tile p a rs q b → (p ≤ q) × (a ≤ b)
tile_le p a [] q b t = (omega (arith, t.0), omega (arith, t.1))
tile_le p a (r ∷ rs) q b t =
    let own = t.0 in
    let rest = tile_le r.end (attribute_end r) rs q b t.1 in
    let behind : r.attribute ≤ attribute_end r = end_behind r.tells_attribute r.attribute in
    let le : p ≤ r.end = own.order in
    let is : r.attribute ≡ a = own.attribute_is in
    (omega (arith, le, rest.0), omega (arith, behind, is, rest.1))

all_stay : (p a : ℕ) (ps more : List Earlier) (xs others : List (List ℕ)) (rs : List UndoRecord) → Tile p a rs (length ps) (length xs) → map (undoing_in (ps ++ more) (xs ++ others)) rs ≡ map (undoing_in ps xs) rs
all_stay p a ps more xs others [] t = refl
all_stay p a ps more xs others (r ∷ rs) t =
    let own = t.0 in
    let rest = tile_le r.end (attribute_end r) rs (length ps) (length xs) t.1 in
    let first : r.first ≡ p = own.first_is in
    let le : p ≤ r.end = own.order in
    ap (λ (u : Undoing). u ∷ map (undoing_in (ps ++ more) (xs ++ others)) rs) (undoing_stays ps more xs others r (omega (arith, first, le)) rest.0 rest.1)
    ∙ ap (λ (us : List Undoing). undoing_in ps xs r ∷ us) (all_stay r.end (attribute_end r) ps more xs others rs t.1)

told_stays : (p a : ℕ) (ps qs : List Earlier) (xs ys : List (List ℕ)) (rs : List UndoRecord) → Tile p a rs (length ps) (length xs) → Extends ps qs → Extends xs ys → map (undoing_in qs ys) rs ≡ map (undoing_in ps xs) rs
told_stays p a ps qs xs ys rs tiles more others =
    ap (λ (l : List Earlier). map (undoing_in l ys) rs) more.1 ∙ ap (λ (l : List (List ℕ)). map (undoing_in (ps ++ more.0) l) rs) others.1 ∙ all_stay p a ps more.0 xs others.0 rs tiles

tile_push : (p a : ℕ) (rs : List UndoRecord) (m n q b : ℕ) (r : UndoRecord) → Tile p a rs m n → Spans m n q b r → Tile p a (rs ++ r ∷ []) q b
tile_push p a [] m n q b r t own =
    let first : r.first ≡ m = own.first_is in
    let attribute : r.attribute ≡ n = own.attribute_is in
    let end : r.end ≡ q = own.end_is in
    let le : m ≤ q = own.order in
    (record { first_is = omega (arith, first, t.0); attribute_is = omega (arith, attribute, t.1); end_is = refl; next_is = refl; order = omega (arith, le, end, t.0) }, (end, own.next_is))
tile_push p a (s ∷ rs) m n q b r t own = (t.0, tile_push s.end (attribute_end s) rs m n q b r t.1 own)

pub tells_pushed : (rs new : List UndoRecord) (ps qs : List Earlier) (xs ys : List (List ℕ)) (us : List Undoing) (r : UndoRecord) (u : Undoing) → Tells rs ps xs us → Extends ps qs → Extends xs ys → Spans (length ps) (length xs) (length qs) (length ys) r
    → undoing_in qs ys r ≡ u → new ≡ rs ++ r ∷ [] → Tells new qs ys (us ++ u ∷ [])
tells_pushed rs new ps qs xs ys us r u tells p x own told is = record {
  tiles = subst (λ (l : List UndoRecord). Tile 0 0 l (length qs) (length ys)) (sym is) (tile_push 0 0 rs (length ps) (length xs) (length qs) (length ys) r tells.tiles own);
  told =
      ap (λ (l : List UndoRecord). map (undoing_in qs ys) l) is ∙ map_push (undoing_in qs ys) rs r
      ∙ ap (λ (l : List Undoing). l ++ undoing_in qs ys r ∷ []) (told_stays 0 0 ps qs xs ys rs tells.tiles p x ∙ tells.told) ∙ ap (λ (v : Undoing). us ++ v ∷ []) told;
}

-- ---- what is kept of one entry

own_pointers : (ps more : List Earlier) (first end : ℕ) → first ≡ length ps → end ≡ length (ps ++ more) → take (end - first) (drop first (ps ++ more)) ≡ more
own_pointers ps more first end f e =
    ap (λ (l : List Earlier). take (end - first) l) (drop_at ps more first (sym f)) ∙ take_all (end - first) more (omega (arith, f, e, length-append ps more))

own_attribute : (pair : Option Pair) (xs : List (List ℕ)) (n : ℕ) → n ≡ length xs
    → (if is_some pair then Some (get_or (xs ++ option_to_list (option_map (λ (p : Pair). p.before) pair)) n []) else None) ≡ option_map (λ (p : Pair). p.before) pair
own_attribute None xs n is = refl
own_attribute (Some p) xs n is = ap (λ (a : List ℕ). Some a) (get_or_at xs p.before [] [] n (sym is))

attribute_next : (pair : Option Pair) (xs : List (List ℕ)) (n : ℕ) → n ≡ length xs → (if is_some pair then n + 1 else n) ≡ length (xs ++ option_to_list (option_map (λ (p : Pair). p.before) pair))
attribute_next None xs n is = is ∙ sym (ap (λ (l : List (List ℕ)). length l) (append-nil xs))
attribute_next (Some p) xs n is = omega (arith, length_push xs p.before, is)

pub undoing_is : (e : EntryFields) (ps qs : List Earlier) (xs ys : List (List ℕ)) (r : UndoRecord) → r.moment ≡ e.moment → r.before ≡ e.before → qs ≡ ps ++ reverse (map earlier_of e.triples) → r.first ≡ length ps → r.end ≡ length qs
    → ys ≡ xs ++ option_to_list (option_map (λ (p : Pair). p.before) e.pair) → r.attribute ≡ length xs → r.tells_attribute ≡ is_some e.pair → undoing_in qs ys r ≡ undoing_of e
unfolding undoing_with
undoing_is e ps qs xs ys r moment before kept first end others attribute tells =
    let part : take (r.end - r.first) (drop r.first qs) ≡ reverse (map earlier_of e.triples) =
    ap (λ (l : List Earlier). take (r.end - r.first) (drop r.first l)) kept ∙ own_pointers ps (reverse (map earlier_of e.triples)) r.first r.end first (end ∙ ap (λ (l : List Earlier). length l) kept) in
    let pointers : reverse (take (r.end - r.first) (drop r.first qs)) ≡ map earlier_of e.triples = ap (λ (l : List Earlier). reverse l) part ∙ reverse-reverse (map earlier_of e.triples) in
    let own : attribute_in ys r ≡ option_map (λ (p : Pair). p.before) e.pair =
    ap (λ (l : List (List ℕ)). attribute_in l r) others
    ∙ ap (λ (b : Bool). if b then Some (get_or (xs ++ option_to_list (option_map (λ (p : Pair). p.before) e.pair)) r.attribute []) else None) tells
    ∙ own_attribute e.pair xs r.attribute attribute in
    ap (λ (m : ℕ). undoing_with m r.before (attribute_in ys r) (reverse (take (r.end - r.first) (drop r.first qs)))) moment
    ∙ ap (λ (s : Status). undoing_with e.moment s (attribute_in ys r) (reverse (take (r.end - r.first) (drop r.first qs)))) before
    ∙ ap (λ (a : Option (List ℕ)). undoing_with e.moment e.before a (reverse (take (r.end - r.first) (drop r.first qs)))) own
    ∙ ap (λ (l : List Earlier). undoing_with e.moment e.before (option_map (λ (p : Pair). p.before) e.pair) l) pointers

pub spans_made : (e : EntryFields) (ps qs : List Earlier) (xs ys : List (List ℕ)) (r : UndoRecord) → qs ≡ ps ++ reverse (map earlier_of e.triples) → r.first ≡ length ps → r.end ≡ length qs
    → ys ≡ xs ++ option_to_list (option_map (λ (p : Pair). p.before) e.pair) → r.attribute ≡ length xs → r.tells_attribute ≡ is_some e.pair → Spans (length ps) (length xs) (length qs) (length ys) r
spans_made e ps qs xs ys r kept first end others attribute tells = record {
  first_is = first;
  attribute_is = attribute;
  end_is = end;
  next_is = ap (λ (b : Bool). if b then r.attribute + 1 else r.attribute) tells ∙ attribute_next e.pair xs r.attribute attribute ∙ sym (ap (λ (l : List (List ℕ)). length l) others);
  order = omega (arith, ap (λ (l : List Earlier). length l) kept, length-append ps (reverse (map earlier_of e.triples)));
}

pub kept_on : (init qs new : List Earlier) (triples all rest : List Triple) (t : Triple) → all ≡ rest ++ t ∷ [] → new ≡ qs ++ earlier_of t ∷ [] → qs ++ reverse (map earlier_of all) ≡ init ++ reverse (map earlier_of triples)
    → new ++ reverse (map earlier_of rest) ≡ init ++ reverse (map earlier_of triples)
kept_on init qs new triples all rest t split pushed kept =
    let last : reverse (map earlier_of all) ≡ earlier_of t ∷ reverse (map earlier_of rest) =
    ap (λ (l : List Triple). reverse (map earlier_of l)) split ∙ ap (λ (l : List Earlier). reverse l) (map_push earlier_of rest t) ∙ reverse-append (map earlier_of rest) (earlier_of t ∷ []) in
    ap (λ (l : List Earlier). l ++ reverse (map earlier_of rest)) pushed ∙ append_assoc qs (earlier_of t ∷ []) (reverse (map earlier_of rest)) ∙ ap (λ (l : List Earlier). qs ++ l) (sym last) ∙ kept

-- ---- several entries

pub told_more : (us : List Undoing) (entries : List EntryFields) (i : ℕ) (e : EntryFields) → i < length entries → e ≡ get_or entries i e → (us ++ map undoing_of (take i entries)) ++ undoing_of e ∷ [] ≡ us ++ map undoing_of (take (i + 1) entries)
told_more us entries i e lt is =
    append_assoc us (map undoing_of (take i entries)) (undoing_of e ∷ [])
    ∙ ap (λ (l : List Undoing). us ++ l) (ap (λ (f : EntryFields). map undoing_of (take i entries) ++ undoing_of f ∷ []) is ∙ sym (map_more undoing_of entries i e lt))

pub ok_from : {T E P : Type 0} → (r : Result T E) → false ≡ is_err r → OnOk r P → P
ok_from (Ok x) h p = p
ok_from (Err e) h p = absurd (false≢true h)

-- ---- from the newest back

-- The undoings that are left are those of the first entries of a run, which lead to an inode; the inode current at the moment
-- is the one that these entries have.
pub record Walks (at : ℕ) (first : Inode) (entries : List EntryFields) (left : List Undoing) (inode : Inode) : Type 0 where
  pub front : List EntryFields
  pub told : map undoing_of front ≡ left
  pub groups : grouped front ≡ true
  pub run : Run first front inode
  pub same : inode_after first entries at ≡ inode_after first front at

last_of : {X : Type 0} → (x : X) (xs : List X) → (front : List X) × (last : X) × (x ∷ xs ≡ front ++ last ∷ [])
last_of x [] = ([], x, refl)
last_of {X} x (y ∷ xs) = let behind = last_of y xs in (x ∷ behind.0, behind.1, ap (λ (l : List X). x ∷ l) behind.2)

-- entries whose undoings end with this one
record EndsWith (entries : List EntryFields) (us : List Undoing) (u : Undoing) : Type 0 where
  front : List EntryFields
  last : EntryFields
  parts : entries ≡ front ++ last ∷ []
  others : map undoing_of front ≡ us
  is : undoing_of last ≡ u

ends_with : (entries : List EntryFields) (us : List Undoing) (u : Undoing) → map undoing_of entries ≡ us ++ u ∷ [] → EndsWith entries us u
ends_with [] us u h = absurd (omega (arith, ap (λ (l : List Undoing). length l) h, length_push us u))
ends_with (e ∷ entries) us u h =
    let found = last_of e entries in
    let same = same_from_push (map undoing_of found.0) us (undoing_of found.1) u (sym (map_push undoing_of found.0 found.1) ∙ sym (ap (λ (es : List EntryFields). map undoing_of es) found.2) ∙ h) in
    record { front = found.0; last = found.1; parts = found.2; others = same.0; is = same.1 }

walk_on : ((front back : List EntryFields) → grouped (front ++ back) ≡ true → grouped front ≡ true) → ALaterEntryIsUndone → (at : ℕ) (first : Inode) (entries : List EntryFields) (us : List Undoing) (u : Undoing) (inode : Inode)
    → at < u.moment → Walks at first entries (us ++ u ∷ []) inode → Walks at first entries us (undone_by u inode)
walk_on parted undone_one at first entries us u inode later w =
    let ends = ends_with w.front us u w.told in
    let e = ends.last in
    let moment : e.moment ≡ u.moment = ap (λ (v : Undoing). v.moment) ends.is in
    let past : leb e.moment at ≡ false = lt-leb e.moment at (omega (arith, later, moment)) in
    let step = undone_one first inode ends.front e at (past, tt) (subst (λ (es : List EntryFields). Run first es inode) ends.parts w.run) in
    let inode_is : undone e inode ≡ undone_by u inode = sym (undoes e inode) ∙ ap (λ (v : Undoing). undone_by v inode) ends.is in
    record {
      front = ends.front;
      told = ends.others;
      groups = parted ends.front (e ∷ []) (subst (λ (es : List EntryFields). grouped es ≡ true) ends.parts w.groups);
      run = subst (λ (j : Inode). Run first ends.front j) inode_is step.0;
      same = w.same ∙ ap (λ (es : List EntryFields). inode_after first es at) ends.parts ∙ step.1;
    }

walk_stops : ((es : List EntryFields) → grouped es ≡ true → moments_ascend_from 0 es ≡ true) → ThePresentInodeIsLast → (at : ℕ) (first : Inode) (entries : List EntryFields) (us : List Undoing) (u : Undoing) (inode : Inode)
    → u.moment ≤ at → Walks at first entries (us ++ u ∷ []) inode → inode ≡ inode_after first entries at
walk_stops ascend stays at first entries us u inode by w =
    let ends = ends_with w.front us u w.told in
    let e = ends.last in
    let moment : e.moment ≡ u.moment = ap (λ (v : Undoing). v.moment) ends.is in
    let is = stays first inode ends.front e 0 at (subst (λ (es : List EntryFields). moments_ascend_from 0 es ≡ true) ends.parts (ascend w.front w.groups)) (omega (arith, by, moment)) (subst (λ (es : List EntryFields). Run first es inode) ends.parts w.run) in
    sym (w.same ∙ ap (λ (es : List EntryFields). inode_after first es at) ends.parts ∙ is)

nothing_left : (first inode : Inode) (front : List EntryFields) (at : ℕ) → map undoing_of front ≡ [] → Run first front inode → inode_after first front at ≡ inode
nothing_left first inode [] at h run = run
nothing_left first inode (e ∷ front) at h run = absurd (omega (arith, ap (λ (l : List Undoing). length l) h))

walk_ends : (at : ℕ) (first : Inode) (entries : List EntryFields) (inode : Inode) → Walks at first entries [] inode → inode ≡ inode_after first entries at
walk_ends at first entries inode w = sym (w.same ∙ nothing_left first inode w.front at w.told w.run)

-- all undoings undone, the last one first
abbrev undone_list : List Undoing → Inode → Inode
undone_list [] j = j
undone_list (u ∷ us) j = undone_by u (undone_list us j)

walk_back : ((front back : List EntryFields) → grouped (front ++ back) ≡ true → grouped front ≡ true) → ALaterEntryIsUndone → (ps : List Earlier) (xs : List (List ℕ)) (at : ℕ) (first : Inode) (entries : List EntryFields) (us : List Undoing) (later : List UndoRecord) (inode : Inode)
    → AllByRecursion (λ r. at < r.moment) later → Walks at first entries (us ++ map (undoing_in ps xs) later) inode → Walks at first entries us (undone_list (map (undoing_in ps xs) later) inode)
walk_back parted undone_one ps xs at first entries us [] inode all w = subst (λ (l : List Undoing). Walks at first entries l inode) (append-nil us) w
walk_back parted undone_one ps xs at first entries us (r ∷ later) inode all w =
    let u = undoing_in ps xs r in
    let others = map (undoing_in ps xs) later in
    let behind = walk_back parted undone_one ps xs at first entries (us ++ u ∷ []) later inode all.1 (subst (λ (l : List Undoing). Walks at first entries l inode) (sym (append_assoc us (u ∷ []) others)) w) in
    walk_on parted undone_one at first entries us u (undone_list others inode) all.0 behind

walk_end : ((es : List EntryFields) → grouped es ≡ true → moments_ascend_from 0 es ≡ true) → ThePresentInodeIsLast → (ps : List Earlier) (xs : List (List ℕ)) (at : ℕ) (first : Inode) (entries : List EntryFields) (rs : List UndoRecord) (inode : Inode)
    → AllByRecursion (λ r. r.moment ≤ at) rs → Walks at first entries (map (undoing_in ps xs) rs) inode → inode ≡ inode_after first entries at
walk_end ascend stays ps xs at first entries [] inode all w = walk_ends at first entries inode w
walk_end ascend stays ps xs at first entries (r ∷ rs) inode all w =
    let of = undoing_in ps xs in
    let found = last_of r rs in
    let by = All-pop (λ (r : UndoRecord). r.moment ≤ at) (r ∷ rs) found.0 (Some found.1) found.2 (All-from_recursion (λ (r : UndoRecord). r.moment ≤ at) (r ∷ rs) all) in
    walk_stops ascend stays at first entries (map of found.0) (of found.1) inode by.1
    (subst (λ (us : List Undoing). Walks at first entries us inode) (ap (λ (l : List UndoRecord). map of l) found.2 ∙ map_push of found.0 found.1) w)

-- ---- the records that are later

Rise : ℕ → List UndoRecord → Type 0
Rise low [] = Unit {0}
Rise low (r ∷ rs) = (low ≤ r.moment) × Rise r.moment rs

risen : (ps : List Earlier) (xs : List (List ℕ)) (low : ℕ) (entries : List EntryFields) (rs : List UndoRecord) → map undoing_of entries ≡ map (undoing_in ps xs) rs → moments_ascend_from low entries ≡ true → Rise low rs
unfolding Rise
risen ps xs low [] [] told h = tt
risen ps xs low [] (r ∷ rs) told h = absurd (omega (arith, ap (λ (l : List Undoing). length l) told))
risen ps xs low (e ∷ entries) [] told h = tt
risen ps xs low (e ∷ entries) (r ∷ rs) told h =
    let parts = and_parts (leb low e.moment) (moments_ascend_from e.moment entries) h in
    let same : undoing_of e ≡ undoing_in ps xs r = cc in
    let others : map undoing_of entries ≡ map (undoing_in ps xs) rs = cc in
    let moment : e.moment ≡ r.moment = ap (λ (v : Undoing). v.moment) same in
    let le : low ≤ e.moment = leb-true low e.moment parts.0 in
    (omega (arith, le, moment), risen ps xs r.moment entries rs others (subst (λ (m : ℕ). moments_ascend_from m entries ≡ true) moment parts.1))

rise_far : (low : ℕ) (rs : List UndoRecord) → Rise low rs → (j : ℕ) (d : UndoRecord) → j < length rs → low ≤ (get_or rs j d).moment
unfolding Rise
rise_far low [] h j d lt = absurd (omega arith)
rise_far low (r ∷ rs) h zero d lt = h.0
rise_far low (r ∷ rs) h (suc j) d lt = let far = rise_far r.moment rs h.1 j d (omega arith) in omega (arith, far, h.0)

rise_is : (low : ℕ) (rs : List UndoRecord) → Rise low rs → IsNonDecreasingBy (λ r. r.moment) rs
unfolding Rise
rise_is low [] h i j d le lt = absurd (omega arith)
rise_is low (r ∷ rs) h zero zero d le lt = omega arith
rise_is low (r ∷ rs) h zero (suc j) d le lt = rise_far r.moment rs h.1 j d (omega arith)
rise_is low (r ∷ rs) h (suc i) zero d le lt = absurd (omega arith)
rise_is low (r ∷ rs) h (suc i) (suc j) d le lt = rise_is r.moment rs h.1 i j d (omega arith) (omega arith)

later_ones : (at : ℕ) (rs : List UndoRecord) (k : ℕ) → AllWithin (λ r. nat_le r.moment at ≡ false) rs k (length rs) → AllByRecursion (λ r. at < r.moment) (drop k rs)
later_ones at [] zero h = tt
later_ones at [] (suc k) h = tt
later_ones at (r ∷ rs) zero h = (leb-false r.moment at (h 0 r (omega arith) (omega arith)), later_ones at rs zero (λ i d low high. h (suc i) d (omega arith) (omega arith)))
later_ones at (r ∷ rs) (suc k) h = later_ones at rs k (λ i d low high. h (suc i) d (omega arith) (omega arith))

earlier_ones : (at : ℕ) (rs : List UndoRecord) (k : ℕ) → AllWithin (λ r. nat_le r.moment at ≡ true) rs 0 k → AllByRecursion (λ r. r.moment ≤ at) (take k rs)
earlier_ones at [] zero h = tt
earlier_ones at [] (suc k) h = tt
earlier_ones at (r ∷ rs) zero h = tt
earlier_ones at (r ∷ rs) (suc k) h = (leb-true r.moment at (h 0 r (omega arith) (omega arith)), earlier_ones at rs k (λ i d low high. h (suc i) d (omega arith) (omega arith)))

-- The laws that lead back from the last entry.
pub record Laws : Type 0 where
  pub front : (front back : List EntryFields) → grouped (front ++ back) ≡ true → grouped front ≡ true
  pub ascend : (es : List EntryFields) → grouped es ≡ true → moments_ascend_from 0 es ≡ true
  pub undone : ALaterEntryIsUndone
  pub stays : ThePresentInodeIsLast

-- this many records are before those that are later, where moments don't descend
abbrev pub Parts : List UndoRecord → ℕ → ℕ → Type 0
Parts rs at k = IsNonDecreasingBy (λ r. r.moment) rs → IsPartitionPoint (λ r. nat_le r.moment at ≡ true) (λ r. nat_le r.moment at ≡ false) rs k

later_undone : Laws → (ps : List Earlier) (xs : List (List ℕ)) (rs : List UndoRecord) (at k : ℕ) (first : Inode) (entries : List EntryFields) (inode : Inode) → Parts rs at k
    → map undoing_of entries ≡ map (undoing_in ps xs) rs → grouped entries ≡ true → Run first entries inode → undone_list (map (undoing_in ps xs) (drop k rs)) inode ≡ inode_after first entries at
later_undone laws ps xs rs at k first entries inode parts told groups run =
    let of = undoing_in ps xs in
    let point = parts (rise_is 0 rs (risen ps xs 0 entries rs told (laws.ascend entries groups))) in
    let split : map of rs ≡ map of (take k rs) ++ map of (drop k rs) = sym (ap (λ (l : List UndoRecord). map of l) (take-append-drop k rs)) ∙ map-append of (take k rs) (drop k rs) in
    let whole : Walks at first entries (map of rs) inode = record { front = entries; told = told; groups = groups; run = run; same = refl } in
    let back = walk_back laws.front laws.undone ps xs at first entries (map of (take k rs)) (drop k rs) inode (later_ones at rs k point.1) (subst (λ (us : List Undoing). Walks at first entries us inode) split whole) in
    walk_end laws.ascend laws.stays ps xs at first entries (take k rs) (undone_list (map of (drop k rs)) inode) (earlier_ones at rs k point.0) back

-- ---- all of them at once

pointers_from : (ps : List Earlier) (xs : List (List ℕ)) (p a b : ℕ) (rs : List UndoRecord) (j : Inode) → Tile p a rs (length ps) b → (undone_list (map (undoing_in ps xs) rs) j).pointers ≡ put_back (reverse (drop p ps)) j.pointers
unfolding undone_by
pointers_from ps xs p a b [] j t = sym (ap (λ (l : List Earlier). put_back (reverse l) j.pointers) (drop_all p ps (omega (arith, t.0))))
pointers_from ps xs p a b (r ∷ rs) j t =
    let s = t.0 in
    let first : r.first ≡ p = s.first_is in
    let le : p ≤ r.end = s.order in
    let own = take (r.end - r.first) (drop r.first ps) in
    let others = drop r.end ps in
    let behind : r.first + (r.end - r.first) ≡ r.end = omega (arith, first, le) in
    let rest : drop (r.end - r.first) (drop r.first ps) ≡ others = drop-drop (r.end - r.first) r.first ps ∙ ap (λ (n : ℕ). drop n ps) behind in
    let both : own ++ others ≡ drop p ps = ap (λ (l : List Earlier). own ++ l) (sym rest) ∙ take-append-drop (r.end - r.first) (drop r.first ps) ∙ ap (λ (n : ℕ). drop n ps) first in
    ap (λ (pointers : List (Option Place)). put_back (reverse own) pointers) (pointers_from ps xs r.end (attribute_end r) b rs j t.1) ∙ sym (put_back_append (reverse others) (reverse own) j.pointers)
    ∙ ap (λ (l : List Earlier). put_back l j.pointers) (sym (reverse-append own others)) ∙ ap (λ (l : List Earlier). put_back (reverse l) j.pointers) both

attribute_first : (b : Bool) (n : ℕ) (xs : List (List ℕ)) (given d : List ℕ) → given ≡ get_or xs (if b then n + 1 else n) d → (if b then n + 1 else n) ≤ length xs → unwrap_or (if b then Some (get_or xs n []) else None) given ≡ get_or xs n d
attribute_first true n xs given d is le = get_or_default xs n [] d (omega arith)
attribute_first false n xs given d is le = is

attribute_from : (ps : List Earlier) (xs : List (List ℕ)) (p a q : ℕ) (rs : List UndoRecord) (j : Inode) → Tile p a rs q (length xs) → (undone_list (map (undoing_in ps xs) rs) j).attribute ≡ get_or xs a j.attribute
unfolding undone_by
attribute_from ps xs p a q [] j t = sym (get_or_past xs a j.attribute (omega (arith, t.1)))
attribute_from ps xs p a q (r ∷ rs) j t =
    let s = t.0 in
    let rest = tile_le r.end (attribute_end r) rs q (length xs) t.1 in
    attribute_first r.tells_attribute r.attribute xs _ j.attribute (attribute_from ps xs r.end (attribute_end r) q rs j t.1) rest.1 ∙ ap (λ (n : ℕ). get_or xs n j.attribute) s.attribute_is

created_from : (us : List Undoing) (j : Inode) → (undone_list us j).created ≡ j.created
unfolding undone_by
created_from [] j = refl
created_from (u ∷ us) j = created_from us j

undone_at_once : (ps : List Earlier) (xs : List (List ℕ)) (p a : ℕ) (r : UndoRecord) (rs : List UndoRecord) (j : Inode) → Tile p a (r ∷ rs) (length ps) (length xs) → undone_list (map (undoing_in ps xs) (r ∷ rs)) j ≡ undone_from ps xs r j
unfolding undone_by undone_from inode_with
undone_at_once ps xs p a r rs j t =
    let s = t.0 in
    let all = undone_list (map (undoing_in ps xs) (r ∷ rs)) j in
    let created : all.created ≡ j.created = created_from (map (undoing_in ps xs) (r ∷ rs)) j in
    let attribute : all.attribute ≡ get_or xs r.attribute j.attribute = attribute_from ps xs p a (length ps) (r ∷ rs) j t ∙ ap (λ (n : ℕ). get_or xs n j.attribute) (sym s.attribute_is) in
    let pointers : all.pointers ≡ put_back (reverse (drop r.first ps)) j.pointers = pointers_from ps xs p a (length xs) (r ∷ rs) j t ∙ ap (λ (n : ℕ). put_back (reverse (drop n ps)) j.pointers) (sym s.first_is) in
    ap (λ (m : ℕ). inode_with r.before m all.attribute all.pointers) created ∙ ap (λ (x : List ℕ). inode_with r.before j.created x all.pointers) attribute
    ∙ ap (λ (l : List (Option Place)). inode_with r.before j.created (get_or xs r.attribute j.attribute) l) pointers

tile_drop : (k p a : ℕ) (rs : List UndoRecord) (q b : ℕ) → Tile p a rs q b → (first : ℕ) × (attribute : ℕ) × Tile first attribute (drop k rs) q b
tile_drop zero p a rs q b t = (p, a, t)
tile_drop (suc k) p a [] q b t = (p, a, t)
tile_drop (suc k) p a (r ∷ rs) q b t = tile_drop k r.end (attribute_end r) rs q b t.1

from_oldest : (rs : List UndoRecord) (k : ℕ) (r : UndoRecord) → k < length rs → r ≡ get_or rs k r → drop k rs ≡ r ∷ drop (k + 1) rs
from_oldest rs k r lt is = drop_more rs k r lt ∙ ap (λ (x : UndoRecord). x ∷ drop (k + 1) rs) (sym is)

-- from a record on there are pointers
pub first_within : (rs : List UndoRecord) (k : ℕ) (r : UndoRecord) (m n : ℕ) → k < length rs → r ≡ get_or rs k r → Tile 0 0 rs m n → r.first ≤ m
first_within rs k r m n lt is tiles =
    let rest = tile_drop k 0 0 rs m n tiles in
    let here = subst (λ (l : List UndoRecord). Tile rest.0 rest.1 l m n) (from_oldest rs k r lt is) rest.2 in
    let le : rest.0 ≤ m = (tile_le rest.0 rest.1 (r ∷ drop (k + 1) rs) m n here).0 in
    let first : r.first ≡ rest.0 = here.0.first_is in
    omega (arith, le, first)

pub found : Laws → (ps : List Earlier) (xs : List (List ℕ)) (rs : List UndoRecord) (at k : ℕ) (r : UndoRecord) (first : Inode) (entries : List EntryFields) (inode : Inode) → Tile 0 0 rs (length ps) (length xs) → k < length rs → r ≡ get_or rs k r → Parts rs at k
    → map undoing_of entries ≡ map (undoing_in ps xs) rs → grouped entries ≡ true → Run first entries inode → undone_from ps xs r inode ≡ inode_after first entries at
found laws ps xs rs at k r first entries inode tiles lt is parts told groups run =
    let rest = tile_drop k 0 0 rs (length ps) (length xs) tiles in
    let here = subst (λ (l : List UndoRecord). Tile rest.0 rest.1 l (length ps) (length xs)) (from_oldest rs k r lt is) rest.2 in
    sym (undone_at_once ps xs rest.0 rest.1 r (drop (k + 1) rs) inode here) ∙ ap (λ (l : List UndoRecord). undone_list (map (undoing_in ps xs) l) inode) (sym (from_oldest rs k r lt is))
    ∙ later_undone laws ps xs rs at k first entries inode parts told groups run

pub none_found : Laws → (ps : List Earlier) (xs : List (List ℕ)) (rs : List UndoRecord) (at k : ℕ) (first : Inode) (entries : List EntryFields) (inode : Inode) → length rs ≤ k → Parts rs at k
    → map undoing_of entries ≡ map (undoing_in ps xs) rs → grouped entries ≡ true → Run first entries inode → inode ≡ inode_after first entries at
none_found laws ps xs rs at k first entries inode past parts told groups run =
    sym (ap (λ (l : List UndoRecord). undone_list (map (undoing_in ps xs) l) inode) (drop_all k rs past)) ∙ later_undone laws ps xs rs at k first entries inode parts told groups run
