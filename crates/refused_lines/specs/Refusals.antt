-- What a line that gives no command says of it.
use Rattle.std.specs.Prelude.{◌≡◌, Bool, false, true}
use Rattle.clap.specs.Kinds.{Kinds, IsAmong}
use Rattle.clap.specs.Values.{kind_of}
use Rattle.clap.specs.declared.error.Error.{Error}
use Rattle.clap.specs.declared.error.kind.ErrorKind.{ErrorKind}
use Rattle.clap.specs.declared.error.kind.ErrorKind.TheVariants as kind
use Rattle.refused_lines.specs.declared.NoCommand.{NoCommand}
use Rattle.refused_lines.specs.declared.NoCommand.TheVariants as refusal

-- the kinds of a text that was asked for: help, or the version
abbrev pub is_asked_for : ErrorKind → Bool
is_asked_for kind.DisplayHelp = true
is_asked_for kind.DisplayVersion = true
is_asked_for _ = false

-- what is said of an error of this kind: memory was refused, or it was asked for, or it says what is wrong with the words
abbrev pub meaning_of : {F : Type 0} → ErrorKind → Error → NoCommand F
meaning_of kind.OutOfMemory error = refusal.NoMemory
meaning_of kind.DisplayHelp error = refusal.Asked error
meaning_of kind.DisplayVersion error = refusal.Asked error
meaning_of _ error = refusal.Refused error

-- The parser refuses the words for one of these reasons: help and the version were asked for, and any other says what is wrong with them.
abbrev pub IsRefusedBy : {F : Type 0} → Kinds → NoCommand F → Type 0
IsRefusedBy kinds (refusal.Asked error) = IsAmong (kind_of error) kinds × (is_asked_for (kind_of error) ≡ true)
IsRefusedBy kinds (refusal.Refused error) = IsAmong (kind_of error) kinds × (is_asked_for (kind_of error) ≡ false)
IsRefusedBy kinds refusal.NoMemory = Unit {0}
IsRefusedBy kinds _ = ⊥

-- A refusal is of the matches, and not the parser's.
abbrev pub IsOwn : {F : Type 0} → NoCommand F → Type 0
IsOwn (refusal.Asked error) = ⊥
IsOwn (refusal.Refused error) = ⊥
IsOwn _ = Unit {0}

-- Help or the version comes as asked for only where the parser finds that asked for.
abbrev pub IsAskedAmong : {F : Type 0} → Kinds → NoCommand F → Type 0
IsAskedAmong kinds (refusal.Asked error) = IsAmong (kind_of error) kinds × (is_asked_for (kind_of error) ≡ true)
IsAskedAmong kinds _ = Unit {0}
