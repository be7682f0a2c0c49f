use Rattle.std.proofs.Common.{◌≡◌, flat_map, string_bytes}
use Rattle.shown_text.specs.Shown.{shown_in_lines}
use Rattle.shown_text.proofs.lines.shown_lines.Given as goal

-- the characters so far are shown
abbrev pub invariant-loop-c : goal.invariant-loop-c
invariant-loop-c l = string_bytes l.shown ≡ flat_map shown_in_lines l.yielded
