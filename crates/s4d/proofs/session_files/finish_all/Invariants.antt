use Rattle.std.proofs.Common.{ℕ, ◌<◌, All, IsTrue, List, get_or}
use Rattle.std.specs.Io.KnownBytes.{Keeps}
use Rattle.s4d.proofs.session_files.finish_all.Given as goal

-- what was written so far is in its file, where each path so far leads to that; files that no session writes have their bytes
abbrev pub invariant-loop-number : goal.invariant-loop-number
invariant-loop-number g l = record {
  left : IsTrue l.are_there → (i : ℕ) (d : _) (e : _) → i < l.number → Keeps (g.F.Writer.Write.contents (get_or l.served i e).writer.writer) (g.F.Files.contents l.files (get_or l.sessions i d).output.now);
  others : (other : List ℕ) → All (λ s. g.F.Files.apart other s.output.now) l.sessions → Keeps (g.F.Files.contents l.initial.files other) (g.F.Files.contents l.files other);
}
