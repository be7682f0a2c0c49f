-- The row of an object that was just made.
use Rattle.std.proofs.Common.{◌≡◌, ℕ, ◌≤◌, List, [], Option, None, is_some, refl, sym, ap, subst, ◌∙◌, arith}
use Rattle.std.proofs.lemmas.Bool.{false≢true}
use Rattle.s4_types.specs.Pointer.{Place}
use Rattle.block_log.specs.Log.{Stored, of_kind}
use Rattle.block_log.specs.declared.kinds.BlockKind.TheVariants.{Journal}
use Rattle.checkpoint.specs.Held.{of_checkpoints}
use Rattle.codec.specs.declared.inodes.Inode.{Inode}
use Rattle.codec.specs.Entry.{EntryFields}
use Rattle.journal_chain.specs.Packing.{joined}
use Rattle.undo_redo.specs.Runs.{AllBy, Run, blank, inode_after}
use Rattle.undo_redo.specs.Groups.{grouped}
use Rattle.object_map.specs.Rows.{fresh_row}
use Rattle.journal_chain.specs.Chain.{Holds, chain_entries, chain_links, links_from}
use Rattle.time_read.specs.Rows.{IsRow, chain_of, entries_of, first_of, inode_before, inode_of}
use Rattle.row_changes.specs.Recent.{IsBy}

pub no_entries : (held : Place → Option Stored) (o created : ℕ) → entries_of held o (fresh_row created) ≡ []
unfolding chain_entries chain_links links_from joined
no_entries held o created = refl

pub blank_first : (held : Place → Option Stored) (o created : ℕ) → first_of held o (fresh_row created) ≡ blank created
unfolding inode_before
blank_first held o created = refl

pub blank_made : (created : ℕ) → (blank created).created ≡ created
unfolding blank
blank_made created = refl

pub fresh_is_by : (held : Place → Option Stored) (o created : ℕ) → IsBy held o (fresh_row created) 0
fresh_is_by held o created = record {
  entries = subst (λ (es : List EntryFields). AllBy 0 es) (sym (no_entries held o created)) tt;
  checkpoint = omega arith;
}

pub fresh_inode : (held : Place → Option Stored) (o created t : ℕ) → inode_of held o (fresh_row created) t ≡ blank created
unfolding inode_of
fresh_inode held o created t =
    ap (λ (es : List EntryFields). inode_after (first_of held o (fresh_row created)) es t) (no_entries held o created)
    ∙ blank_first held o created

pub fresh_stands :
    ((held : Place → Option Stored) (o : ℕ) → ((p : Place) → of_kind Journal o held p ≡ None) → Holds held (record { object = o; head = None; bytes = 0; filled = 0 }) []) →
    (held : Place → Option Stored) (o created : ℕ) → 1 ≤ o → ((p : Place) → of_kind Journal o held p ≡ None) → ((p : Place) → of_checkpoints o held p ≡ None) → IsRow held o (fresh_row created)
fresh_stands empty held o created least none no_checkpoint =
    let first : Inode = first_of held o (fresh_row created) in
    let is : entries_of held o (fresh_row created) ≡ [] = no_entries held o created in
    record {
      object = least;
      chain = subst (λ (es : List EntryFields). Holds held (chain_of o (fresh_row created)) es) (sym is) (empty held o none);
      last = first;
      run = subst (λ (es : List EntryFields). Run first es first) (sym is) refl;
      groups = ap grouped is;
      checkpoint = refl;
      sides = tt;
      ascending = tt;
      only = λ p there. absurd (false≢true (sym (ap is_some (no_checkpoint p)) ∙ there));
      created = ap (λ (i : Inode). i.created) (blank_first held o created) ∙ blank_made created;
    }
