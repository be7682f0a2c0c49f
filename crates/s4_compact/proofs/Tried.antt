-- What a trial found holds of what is made then.
use Rattle.std.proofs.Common.{◌≡◌, ℕ, true, sym, subst}
use Rattle.version_store.specs.Store.{StoreFields}
use Rattle.drive_compaction.specs.Compacting.{blocks_left}
use Rattle.s4_compact.specs.Trying.{is_enough}
use Rattle.s4_compact.specs.declared.trying.Found.{Found}
use Rattle.s4_compact.specs.declared.ways.Way.{Way}
use Rattle.s4_compact.specs.declared.ways.Way.TheVariants.{Cleaning, Moves, MovesFirst}

-- what is enough by the report is so in the end
pub enough : (way : Way) (found : Found) (n : ℕ) (between later : StoreFields) → is_enough way found n ≡ true → n ≡ blocks_left between → later ≡ between → is_enough way found (blocks_left later) ≡ true
enough way found n between later is counted same =
    subst (λ (s : StoreFields). is_enough way found (blocks_left s) ≡ true) (sym same) (subst (λ (m : ℕ). is_enough way found m ≡ true) counted is)

-- what holds of each way holds of all
pub by_ways : (P : Way → Type 0) → P Cleaning → P Moves → P MovesFirst → (way : Way) → P way
by_ways P cleaning moves first Cleaning = cleaning
by_ways P cleaning moves first Moves = moves
by_ways P cleaning moves first MovesFirst = first
