use Rattle.std.proofs.Common.{◌≡◌, ℕ, ◌<◌, All, false, get_or}
use Rattle.s4d.proofs.session_files.are_apart.Given as goal

-- no input is one of the outputs so far, none of these is another or the image, and no session so far uses a file beside the image
abbrev pub invariant-loop-number : goal.invariant-loop-number
invariant-loop-number g l = record {
  apart : (i : ℕ) (d : _) → i < l.number → All (λ read. g.F.Files.apart read.input.now (get_or l.sessions i d).output.now) l.sessions;
  written : (i j : ℕ) (d : _) → i < j → j < l.number → g.F.Files.apart (get_or l.sessions i d).output.now (get_or l.sessions j d).output.now;
  image : (i : ℕ) (d : _) → i < l.number → g.F.Files.apart l.image (get_or l.sessions i d).output.now;
  inputs : (i : ℕ) (d : _) → i < l.number → g.F.Files.reserves l.claim (get_or l.sessions i d).input.now ≡ false;
  outputs : (i : ℕ) (d : _) → i < l.number → g.F.Files.reserves l.claim (get_or l.sessions i d).output.now ≡ false;
}
