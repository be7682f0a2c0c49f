-- The chain of a stored object.
use Rattle.std.proofs.Common.{◌≡◌, ℕ, List, refl, sym, ap, subst, ◌∙◌}
use Rattle.codec.specs.declared.inodes.Inode.{Inode}
use Rattle.codec.specs.Entry.{EntryFields}
use Rattle.undo_redo.specs.Runs.{Run, undone_all, inode_after}
use Rattle.object_map.specs.declared.map.Row.{Row}
use Rattle.time_read.specs.Rows.{entries_of, first_of, inode_of}
use Rattle.version_store.specs.Store.{StoreFields}
use Rattle.chain_rewriting.specs.Chains.{IsChain}
use Rattle.history_cleaner.specs.Laws.{HasChain, first_stored, AStoredChainIsAChain}
use Rattle.history_cleaner.specs.private.Chains.{RunLaws, ChainLaws}

-- the inode at a moment, from the first one on
pub at_moment : (s : StoreFields) (o : ℕ) (row : Row) (t : ℕ) → inode_of s.log.held o row t ≡ inode_after (first_of s.log.held o row) (entries_of s.log.held o row) t
unfolding inode_of
at_moment s o row t = refl

-- all entries undone from a late moment lead to the first
pub first_is : RunLaws → (s : StoreFields) (o t : ℕ) (row : Row) → HasChain s o row t → first_stored s o row t ≡ first_of s.log.held o row
first_is laws s o t row h =
    let object = h.store.objects o row h.there in
    let first : Inode = first_of s.log.held o row in
    let entries : List EntryFields = entries_of s.log.held o row in
    let last : inode_of s.log.held o row t ≡ object.stands.last =
    at_moment s o row t
    ∙ laws.since first entries s.latest t object.by.entries h.latest
    ∙ laws.done first entries s.latest object.by.entries
    ∙ sym (laws.ends first object.stands.last entries object.stands.run) in
    ap (undone_all entries) last ∙ sym (laws.begins first object.stands.last entries object.stands.run)

-- so the inode at each moment is led to from there
pub shown_is : RunLaws → (s : StoreFields) (o t u : ℕ) (row : Row) → HasChain s o row t → inode_after (first_stored s o row t) (entries_of s.log.held o row) u ≡ inode_of s.log.held o row u
shown_is laws s o t u row h = ap (λ (i : Inode). inode_after i (entries_of s.log.held o row) u) (first_is laws s o t row h) ∙ sym (at_moment s o row u)

pub stored_chain : ChainLaws → AStoredChainIsAChain
stored_chain laws s o t row h =
    let object = h.store.objects o row h.there in
    let first : Inode = first_of s.log.held o row in
    let entries : List EntryFields = entries_of s.log.held o row in
    let is = first_is laws.run s o t row h in
    let early : IsChain row.created s.latest first entries = record {
      run = subst (λ (i : Inode). Run first entries i) (laws.run.ends first object.stands.last entries object.stands.run) object.stands.run;
      groups = object.stands.groups;
      rules = h.rules;
      order = (h.store.orderly o row h.there).chain;
    } in
    (ap (λ (i : Inode). i.created) is ∙ object.stands.created, subst (λ (i : Inode). IsChain row.created t i entries) (sym is) (laws.later row.created s.latest t first entries early h.latest))
