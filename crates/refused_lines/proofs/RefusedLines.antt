-- What a refused line says of it.
use Rattle.clap.specs.Kinds.{Kinds}
use Rattle.refused_lines.specs.Refusals.{IsAskedAmong, IsOwn, IsRefusedBy}
use Rattle.refused_lines.specs.declared.NoCommand.{NoCommand}
use Rattle.refused_lines.specs.declared.NoCommand.TheVariants as refusal

-- a refusal of the parser is one that was asked for only where that is among its kinds
pub among_refused : {F : Type 0} (kinds : Kinds) (e : NoCommand F) → IsRefusedBy kinds e → IsAskedAmong kinds e
among_refused kinds (refusal.Asked error) h = h
among_refused kinds (refusal.Refused error) h = tt
among_refused kinds (refusal.Fault fault) h = tt
among_refused kinds refusal.NoMemory h = tt

-- a refusal of the matches isn't one that was asked for
pub among_own : {F : Type 0} (kinds : Kinds) (e : NoCommand F) → IsOwn e → IsAskedAmong kinds e
among_own kinds (refusal.Asked error) h = absurd h
among_own kinds (refusal.Refused error) h = tt
among_own kinds (refusal.Fault fault) h = tt
among_own kinds refusal.NoMemory h = tt
