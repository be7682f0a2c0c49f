-- Blocks of data of an object are copied, one after the other. No public clause cites this file.
use Rattle.std.specs.Prelude.{◌≡◌, ℕ, false, true, List, [], ◌∷◌, ◌++◌, Option, IsSome}
use Rattle.std.specs.List.{AllByRecursion}
use Rattle.s4_types.specs.Pointer.{Place}
use Rattle.block_log.specs.declared.kinds.BlockKind.TheVariants.{Data}
use Rattle.block_log.specs.Log.{Log, Stored, of_kind}
use Rattle.block_log.specs.Growth.{OthersStay}
use Rattle.block_log.specs.Taken.{TakesPlaces}
use Rattle.checkpoint.specs.Held.{is_one_of}
use Rattle.migration.specs.declared.moves.Move.{Move}
use Rattle.migration.specs.Moves.{moves_to, new_places}

-- a used data block of the object is at the place
abbrev pub IsUsedData : (Place → Option Stored) → ℕ → Place → Type 0
IsUsedData used o p = IsSome (of_kind Data o used p)

-- the block that went is held as the used one is
pub record IsCopied (used held : Place → Option Stored) (o : ℕ) (m : Move) : Type 0 where
  pub there : IsUsedData used o m.from
  pub same : of_kind Data o held m.to ≡ of_kind Data o used m.from

-- no place is twice among these
abbrev pub AreApart : List Place → Type 0
AreApart [] = Unit {0}
AreApart (p ∷ places) = (is_one_of places p ≡ false) × AreApart places

-- Data of an object that had none was appended, as often as counted, and this is where it went; these places are left.
pub record Copying (used : Place → Option Stored) (o : ℕ) (places rest : List Place) (count : ℕ) (before now : Log) (moves : List Move) : Type 0 where
  pub exact : moves ++ moves_to rest now.ahead ≡ moves_to places before.ahead
  pub ahead : before.ahead ≡ new_places moves ++ now.ahead
  pub copied : AllByRecursion (IsCopied used now.held o) moves
  pub apart : AreApart (new_places moves)
  pub only : (p : Place) → IsSome (of_kind Data o now.held p) → is_one_of (new_places moves) p ≡ true
  pub others : OthersStay Data o before.held now.held
  pub takes : TakesPlaces count before now
