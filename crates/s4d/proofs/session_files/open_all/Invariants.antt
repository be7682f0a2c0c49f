use Rattle.std.proofs.Common.{◌≡◌, ℕ, List, take}
use Rattle.std.specs.Io.KnownBytes.{Keeps}
use Rattle.std.specs.List.{AllZip}
use Rattle.s4d.proofs.session_files.open_all.Given as goal

-- each session so far is opened, and all files have their bytes
abbrev pub invariant-loop-session : goal.invariant-loop-session
invariant-loop-session g l = record {
  opened : AllZip (λ s o. (o.session ≡ s) × g.F.Files.opens o.opened s.output.now × Keeps (g.F.Files.contents l.initial.files s.input.now) (g.F.Reader.Read.remaining o.reader)) (take l.session-index l.sessions) l.all.items;
  kept : (other : List ℕ) → Keeps (g.F.Files.contents l.initial.files other) (g.F.Files.contents l.files other);
}
