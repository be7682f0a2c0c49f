-- A mapped chain is a chain, of as many bytes, at the same moments.
use Rattle.std.proofs.Common.{◌≡◌, ℕ, ◌+◌, ◌*◌, ◌<◌, ◌==◌, ◌&&◌, ltb, true, cond, List, [], ◌∷◌, map, length, get_or, take, refl, sym, ap, subst, ◌∙◌, arith}
use Rattle.std.specs.Prelude.{is_none}
use Rattle.std.specs.List.{AllByRecursion, list_all}
use Rattle.std.proofs.lemmas.List.{length-map, get_or-map, get_or_default, take-map}
use Rattle.std.proofs.lemmas.List.Folds.{list_all-map}
use Rattle.s4_types.specs.Pointer.{Place}
use Rattle.s4_types.specs.declared.limits.TheConstants.{SHORTEST_ENTRY_BYTES, TRIPLE_BYTES, CHANGE_ENTRIES}
use Rattle.codec.specs.declared.inodes.Inode.{Inode}
use Rattle.codec.specs.declared.entries.Triple.{Triple}
use Rattle.codec.specs.Entry.{EntryFields, entry_length, entries_length, pair_length}
use Rattle.undo_redo.specs.Runs.{Run, redone_all}
use Rattle.undo_redo.specs.Groups.{above, continues, grouped_behind, grouped}
use Rattle.time_read.specs.Orderly.{IsFromTo, IsOrderlyChain, inode_behind}
use Rattle.chain_rewriting.specs.Mapping.{mapped_triple, mapped_entry, mapped_entries, mapped_inode}
use Rattle.chain_rewriting.specs.MappingLaws.{AMappedChainIsAChain, MappedEntriesKeepTheirMoments, MappedEntriesHaveOldMoments, TheMomentsOfMappedEntriesAreOld, MappedEntriesTakeAsManyBytes, AMappedChainTakesAsManyBytes}
use Rattle.chain_rewriting.proofs.Mapped.{redone_all_mapped, run_mapped, blank_mapped}
use Rattle.chain_rewriting.proofs.Rules.{all_rules}

-- ---- moments and bytes

pub moments_mapped : (f : Place → Place) → MappedEntriesKeepTheirMoments f
moments_mapped f [] = refl
moments_mapped f (e ∷ entries) = ap (λ (ms : List ℕ). e.moment ∷ ms) (moments_mapped f entries)

-- what holds of each entry, and so of it mapped, holds of each mapped one
all_mapped : (P Q : EntryFields → Type 0) (f : Place → Place) (entries : List EntryFields) → ((e : EntryFields) → P e → Q (mapped_entry f e)) → AllByRecursion P entries → AllByRecursion Q (mapped_entries f entries)
all_mapped P Q f [] so h = tt
all_mapped P Q f (e ∷ entries) so h = (so e h.0, all_mapped P Q f entries so h.1)

pub within_mapped : (f : Place → Place) → MappedEntriesHaveOldMoments f
within_mapped f within entries h = all_mapped (λ e. within e.moment ≡ true) (λ e. within e.moment ≡ true) f entries (λ e is. is) h

pub moment_of_old : (f : Place → Place) → TheMomentsOfMappedEntriesAreOld f
moment_of_old f entries e (k, there, at) =
    let in_it : k < length entries = omega (arith, length-map entries (mapped_entry f)) in
    let g : EntryFields = get_or entries k e in
    let is : mapped_entry f g ≡ e = sym (get_or-map (mapped_entry f) entries k e e in_it) ∙ at in
    (g, ((k, in_it, get_or_default entries k g e in_it), ap (λ (g : EntryFields). g.moment) is))

length_mapped : (f : Place → Place) (e : EntryFields) → entry_length (mapped_entry f e) ≡ entry_length e
unfolding entry_length
length_mapped f e = ap (λ n. SHORTEST_ENTRY_BYTES + pair_length e.pair + TRIPLE_BYTES * n) (length-map e.triples (mapped_triple f))

pub lengths_mapped : (f : Place → Place) → MappedEntriesTakeAsManyBytes f
lengths_mapped f [] = refl
lengths_mapped f (e ∷ entries) =
    ap (λ n. n ∷ map entry_length (mapped_entries f entries)) (length_mapped f e) ∙ ap (λ (ns : List ℕ). entry_length e ∷ ns) (lengths_mapped f entries)

pub bytes_mapped : (f : Place → Place) → AMappedChainTakesAsManyBytes f
unfolding entries_length
bytes_mapped f [] = refl
bytes_mapped f (e ∷ entries) =
    ap (λ n. n + entries_length (mapped_entries f entries)) (length_mapped f e) ∙ ap (λ n. entry_length e + n) (bytes_mapped f entries)

-- ---- groups

above_mapped : (f : Place → Place) (lower higher : List Triple) → above (map (mapped_triple f) lower) (map (mapped_triple f) higher) ≡ above lower higher
above_mapped f lower [] = refl
above_mapped f lower (t ∷ higher) =
    ap (λ b. b && above (map (mapped_triple f) lower) (map (mapped_triple f) higher)) (list_all-map (λ (u : Triple). ltb u.index t.index) (mapped_triple f) lower)
    ∙ ap (λ b. list_all (λ (u : Triple). ltb u.index t.index) lower && b) (above_mapped f lower higher)

continues_mapped : (f : Place → Place) (e g : EntryFields) → continues (mapped_entry f e) (mapped_entry f g) ≡ continues e g
continues_mapped f e g =
    ap (λ b. (g.before.alive && g.after.alive) && (g.before.size == g.after.size && ((g.before.changed == g.moment && g.after.changed == g.moment) && (is_none g.pair && b)))) (above_mapped f e.triples g.triples)

behind_mapped : (f : Place → Place) (count : ℕ) (e : EntryFields) (entries : List EntryFields) → grouped_behind count (mapped_entry f e) (mapped_entries f entries) ≡ grouped_behind count e entries
behind_mapped f count e [] = refl
behind_mapped f count e (g ∷ entries) =
    ap (λ b. cond (e.moment == g.moment) ((ltb count CHANGE_ENTRIES && b) && grouped_behind (count + 1) (mapped_entry f g) (mapped_entries f entries)) (ltb e.moment g.moment && grouped_behind 1 (mapped_entry f g) (mapped_entries f entries))) (continues_mapped f e g)
    ∙ ap (λ b. cond (e.moment == g.moment) ((ltb count CHANGE_ENTRIES && continues e g) && b) (ltb e.moment g.moment && grouped_behind 1 (mapped_entry f g) (mapped_entries f entries))) (behind_mapped f (count + 1) g entries)
    ∙ ap (λ b. cond (e.moment == g.moment) ((ltb count CHANGE_ENTRIES && continues e g) && grouped_behind (count + 1) g entries) (ltb e.moment g.moment && b)) (behind_mapped f 1 g entries)

pub groups_mapped : (f : Place → Place) (entries : List EntryFields) → grouped (mapped_entries f entries) ≡ grouped entries
groups_mapped f [] = refl
groups_mapped f (e ∷ entries) = behind_mapped f 1 e entries

-- ---- order

behind_is : (f : Place → Place) (first : Inode) (entries : List EntryFields) (n : ℕ) → inode_behind (mapped_inode f first) (mapped_entries f entries) n ≡ mapped_inode f (inode_behind first entries n)
behind_is f first entries n =
    ap (λ es. redone_all es (mapped_inode f first)) (take-map (mapped_entry f) n entries) ∙ redone_all_mapped f first (take n entries)

-- what an inode of the mapped chain tells beside its pointers, the old one told
told_alive : (f : Place → Place) (first : Inode) (entries : List EntryFields) (n : ℕ) → (inode_behind (mapped_inode f first) (mapped_entries f entries) n).alive ≡ (inode_behind first entries n).alive
told_alive f first entries n = ap (λ (i : Inode). i.alive) (behind_is f first entries n)

told_changed : (f : Place → Place) (first : Inode) (entries : List EntryFields) (n : ℕ) → (inode_behind (mapped_inode f first) (mapped_entries f entries) n).changed ≡ (inode_behind first entries n).changed
told_changed f first entries n = ap (λ (i : Inode). i.changed) (behind_is f first entries n)

pub order_mapped : (f : Place → Place) (created latest : ℕ) (first : Inode) (entries : List EntryFields) → IsOrderlyChain created latest first entries → IsOrderlyChain created latest (mapped_inode f first) (mapped_entries f entries)
order_mapped f created latest first entries h = record {
  moments = all_mapped (λ e. IsFromTo created latest e.moment) (λ e. IsFromTo created latest e.moment) f entries (λ e is. is) h.moments;
  changed = λ n live. subst (λ (t : ℕ). IsFromTo created latest t) (sym (told_changed f first entries n)) (h.changed n (sym (told_alive f first entries n) ∙ live));
  between = λ n some lt. told_alive f first entries n ∙ h.between n some (omega (arith, length-map entries (mapped_entry f)));
  beginning = λ dead. ap (mapped_inode f) (h.beginning dead) ∙ blank_mapped f created;
  live = (h.live.0, told_alive f first entries h.live.0 ∙ h.live.1);
}

pub chain_mapped : (Is : Place → Type 0) (f : Place → Place) → AMappedChainIsAChain Is f
chain_mapped Is f created latest first entries one told h = record {
  run = subst (λ (j : Inode). Run (mapped_inode f first) (mapped_entries f entries) j) (sym (redone_all_mapped f first entries)) (run_mapped f first (redone_all entries first) entries h.run);
  groups = groups_mapped f entries ∙ h.groups;
  rules = all_rules Is f entries one told.sides h.rules;
  order = order_mapped f created latest first entries h.order;
}
