-- What encodes no command under one name encodes none under the same.
use Rattle.std.proofs.Common.{◌≡◌, ◌≢◌, ℕ, List, Result, OnErr, Some, subst}
use Rattle.std.proofs.lemmas.Result.{on_err_weaker}
use Rattle.clap.specs.Walk.{Row, Text}
use Rattle.s4_command.specs.CommandLine.{SpellsNone}

module _ {A E : Type 0} where
  -- whatever it is called, and at any time
  pub none_named : (r : Result A E) (now : ℕ) (other name restore copy : Text) (rows : List Row) → other ≡ name → ((time : ℕ) → OnErr r (SpellsNone time (Some (other, rows))))
      → OnErr r (name ≢ restore → name ≢ copy → SpellsNone now (Some (name, rows)))
  none_named r now other name restore copy rows same none =
      on_err_weaker r (λ never _ _. subst (λ (text : Text). SpellsNone now (Some (text, rows))) same never) (none now)
