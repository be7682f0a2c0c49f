-- Which command the words of a copy encode.
use Rattle.std.proofs.Common.{◌≡◌, ℕ, List, Some, codes, false, refl, ap, ◌∙◌, true≢false}
use Rattle.std.specs.Str.{bytes_eq}
use Rattle.clap.specs.Walk.{Row, Text}
use Rattle.s4_command.specs.CommandLine.{Spells, SpellsCopy}
use Rattle.s4_command.specs.declared.Command.{Command}
use Rattle.s4_command.specs.declared.Command.TheVariants as command
use Rattle.s4_command.specs.declared.copying.CopyAsked.{CopyAsked}

-- two names that differ
apart : (name : Text) (P : Type 0) → bytes_eq name (codes "copy") ≡ false → codes "copy" ≡ name → P
apart name P differs same = absurd (true≢false (ap (λ (text : Text). bytes_eq text (codes "copy")) same ∙ differs))

-- the words of a copy encode one, and nothing else
pub is_copy : (now : ℕ) (rows : List Row) (P : Type 0) → ((copy : CopyAsked) → SpellsCopy now rows copy → P) → (c : Command) → Spells now (Some (codes "copy", rows)) c → P
is_copy now rows P on (command.Copy copy) spells = on copy spells.1
is_copy now rows P on (command.List asked) spells = apart (codes "list") P refl spells.0
is_copy now rows P on (command.Log asked) spells = apart (codes "log") P refl spells.0
is_copy now rows P on (command.Audit asked) spells = apart (codes "audit") P refl spells.0
is_copy now rows P on (command.Cat asked) spells = apart (codes "cat") P refl spells.0
is_copy now rows P on (command.Info asked) spells = apart (codes "info") P refl spells.0
is_copy now rows P on (command.Diff asked) spells = apart (codes "diff") P refl spells.0
is_copy now rows P on (command.Export asked) spells = apart (codes "export") P refl spells.0
is_copy now rows P on (command.Restore asked) spells = apart (codes "restore") P refl spells.0
is_copy now rows P on (command.Check asked) spells = apart (codes "check") P refl spells.0
is_copy now rows P on (command.Compact asked) spells = apart (codes "compact") P refl spells.0
is_copy now rows P on (command.Salvage asked) spells = apart (codes "salvage") P refl spells.0
is_copy now rows P on (command.Report asked) spells = apart (codes "report") P refl spells.0
