-- What the tests of a row's inodes say of its version chain in an image of a version.
use Rattle.std.proofs.Common.{◌≡◌, ℕ, List, Option, sym, ap, ◌∙◌, subst}
use Rattle.s4_types.specs.Pointer.{Place}
use Rattle.block_log.specs.Log.{Stored}
use Rattle.codec.specs.declared.inodes.Inode.{Inode}
use Rattle.codec.specs.Entry.{EntryFields}
use Rattle.codec.specs.declared.versions.ImageVersion.{ImageVersion}
use Rattle.undo_redo.specs.Runs.{Run, redone_all}
use Rattle.time_read.specs.Orderly.{IsFromTo, IsOrderlyChain}
use Rattle.std.specs.List.{AllByRecursion}
use Rattle.image_objects.specs.declared.rows.ImageRow.{ImageRow}
use Rattle.image_objects.specs.Inodes.{first_before}
use Rattle.image_objects.specs.Versions.{ChainStandsBy, entries_used_by, BeginningStandsBy, VersionChainStandsBy, first_used_by, present_used_by}

pub moments_of : (v : ImageVersion) (used : Place → Option Stored) (row : ImageRow) (clock : ℕ) (entries : List EntryFields) → ChainStandsBy v used row clock → entries ≡ entries_used_by v used row → AllByRecursion (λ e. IsFromTo row.created clock e.moment) entries
moments_of v used row clock entries chain is = subst (λ (es : List EntryFields). AllByRecursion (λ e. IsFromTo row.created clock e.moment) es) (sym is) chain.moments

-- the first inode is that of the row
pub first_is : (v : ImageVersion) (used : Place → Option Stored) (row : ImageRow) (entries : List EntryFields) (first : Inode) → entries ≡ entries_used_by v used row → first ≡ first_before used row entries → first ≡ first_used_by v used row
first_is v used row entries first is made = made ∙ ap (first_before used row) is

pub version_chain_stands : (v : ImageVersion) (used : Place → Option Stored) (row : ImageRow) (clock : ℕ) (entries : List EntryFields) (first : Inode) → ChainStandsBy v used row clock → entries ≡ entries_used_by v used row → BeginningStandsBy v used row clock entries → first ≡ first_before used row entries
    → Run first entries (redone_all entries first) → IsOrderlyChain row.created clock first entries → VersionChainStandsBy v used row clock
version_chain_stands v used row clock entries first chain is beginning made run order =
    let same : first ≡ first_used_by v used row = first_is v used row entries first is made in
    record {
      chain = chain;
      beginning = subst (λ (es : List EntryFields). BeginningStandsBy v used row clock es) is beginning;
      run = subst (λ (i : Inode). Run i (entries_used_by v used row) (redone_all (entries_used_by v used row) i)) same (subst (λ (es : List EntryFields). Run first es (redone_all es first)) is run);
      order = subst (λ (i : Inode). IsOrderlyChain row.created clock i (entries_used_by v used row)) same (subst (λ (es : List EntryFields). IsOrderlyChain row.created clock first es) is order);
    }

pub no_beginning : (v : ImageVersion) (used : Place → Option Stored) (row : ImageRow) (clock : ℕ) (entries : List EntryFields) → entries ≡ entries_used_by v used row → (BeginningStandsBy v used row clock entries → ⊥) → VersionChainStandsBy v used row clock → ⊥
no_beginning v used row clock entries is never h = never (subst (λ (es : List EntryFields). BeginningStandsBy v used row clock es) (sym is) h.beginning)

-- what the row's own run and order are of these entries and this first inode
pub run_of : (v : ImageVersion) (used : Place → Option Stored) (row : ImageRow) (clock : ℕ) (entries : List EntryFields) (first : Inode) → entries ≡ entries_used_by v used row → first ≡ first_before used row entries → VersionChainStandsBy v used row clock → Run first entries (present_used_by v used row)
run_of v used row clock entries first is made h =
    subst (λ (i : Inode). Run i entries (present_used_by v used row)) (sym (first_is v used row entries first is made)) (subst (λ (es : List EntryFields). Run (first_used_by v used row) es (present_used_by v used row)) (sym is) h.run)

pub order_of : (v : ImageVersion) (used : Place → Option Stored) (row : ImageRow) (clock : ℕ) (entries : List EntryFields) (first : Inode) → entries ≡ entries_used_by v used row → first ≡ first_before used row entries → VersionChainStandsBy v used row clock → IsOrderlyChain row.created clock first entries
order_of v used row clock entries first is made h =
    subst (λ (i : Inode). IsOrderlyChain row.created clock i entries) (sym (first_is v used row entries first is made)) (subst (λ (es : List EntryFields). IsOrderlyChain row.created clock (first_used_by v used row) es) (sym is) h.order)
