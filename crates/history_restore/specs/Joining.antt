-- Which plan of an object is taken: where its journal is too full for the one by single runs, the one by runs that are joined.
use Rattle.std.specs.Prelude.{◌≡◌, ℕ, ◌+◌, ◌≤◌, nat_lt, Bool, false, List, [], ◌∷◌, Option, None, Some, sum}
use Rattle.s4_types.specs.declared.changes.Change.{Change as ChangeOf}
use Rattle.s4_types.specs.declared.limits.TheConstants.{CHAIN_ENTRY_BYTES}
use Rattle.s4_types.specs.declared.versions.Version.{Version}
use Rattle.s4_model.specs.State.{State}
use Rattle.s4_model.specs.VersionAt.{version_of}
use Rattle.s4_model.specs.Refusals.{present}
use Rattle.block_runs.specs.declared.running.Run.{Run}
use Rattle.block_runs.specs.Blocks.{blocks_in}
use Rattle.codec.specs.declared.inodes.Inode.{Inode}
use Rattle.object_map.specs.declared.map.Row.{Row}
use Rattle.object_map.specs.Rows.{row_of}
use Rattle.undo_redo.specs.Sizes.{entry_sizes}
use Rattle.version_store.specs.Costs.{sizes_by}
use Rattle.version_store.specs.Store.{StoreFields}
use Rattle.version_store.specs.Versions.{inode_in}
use Rattle.history_restore.specs.declared.aims.Aim.{Aim}
use Rattle.history_restore.specs.declared.plans.Plan.{Plan}
use Rattle.history_restore.specs.declared.plans.Plan.TheVariants.{Keep, Delete, Remake, Change}
use Rattle.history_restore.specs.Plans.{IsPlan, change_count, changes_of, is_joined, runs_between}

-- How many bytes the journal's entries of changes have together, each counted by this inode: a plan's cut comes first, and its other changes
-- have as many bytes by any inode of the same attribute.
abbrev pub entry_bytes : List ChangeOf → Inode → ℕ
entry_bytes [] i = 0
entry_bytes (c ∷ cs) i = sum (sizes_by c i) + entry_bytes cs i

-- how many of them are of runs
abbrev pub run_bytes : List Run → ℕ
run_bytes [] = 0
run_bytes (r ∷ rs) = sum (entry_sizes (blocks_in r) 0) + run_bytes rs

-- whether the journal of an object that has this row and this inode would be too long with the entries of changes
abbrev pub is_too_long_by : Option Row → Option Inode → List ChangeOf → Bool
is_too_long_by None inode changes = false
is_too_long_by (Some row) None changes = false
is_too_long_by (Some row) (Some i) changes = nat_lt CHAIN_ENTRY_BYTES (row.journal_bytes + entry_bytes changes i)

abbrev pub is_too_long : StoreFields → ℕ → ℕ → List ChangeOf → Bool
is_too_long store clock o changes = is_too_long_by (row_of store.rows o) (inode_in store o clock) changes

-- Whether an object's journal is too full for a plan by single runs. What is made anew has a journal of its own, which has room for each.
abbrev pub is_too_full : StoreFields → ℕ → ℕ → Version → Version → Plan → Bool
is_too_full store clock o before now Keep = false
is_too_full store clock o before now Delete = false
is_too_full store clock o before now (Remake changes) = false
is_too_full store clock o before now (Change changes) = is_too_long store clock o (changes_of before (runs_between 0 before now) changes o)

-- The plan that is taken of an object: its runs are joined exactly where the journal is too full for the plan by single runs. It has no more
-- changes than that.
pub record IsTaken (s : State) (store : StoreFields) (aim : Aim) (at : ℕ) (plan : Plan) : Type 0 where
  pub single : Plan
  pub planned : IsPlan (version_of s aim.object at) (present s aim.target) single
  pub apart : is_joined single ≡ false
  pub why : is_joined plan ≡ is_too_full store s.clock aim.target (version_of s aim.object at) (present s aim.target) single
  pub fewer : change_count plan ≤ change_count single
