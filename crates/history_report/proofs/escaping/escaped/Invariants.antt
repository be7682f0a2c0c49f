use Rattle.std.proofs.Common.{◌≡◌, flat_map, string_bytes}
use Rattle.history_report.specs.Page.{escaped_char}
use Rattle.history_report.proofs.escaping.escaped.Given as goal

-- the characters so far are escaped
abbrev pub invariant-loop-c : goal.invariant-loop-c
invariant-loop-c l = string_bytes l.escaped_text ≡ flat_map escaped_char l.yielded
