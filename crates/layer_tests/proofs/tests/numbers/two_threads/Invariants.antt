use Rattle.segment_word.specs.AcceptViews.{blank_base}
use Rattle.layer_tests.proofs.tests.numbers.two_threads.Given as goal

-- the table that was just made
abbrev pub ghosts-share_a_lock : goal.ghosts-share_a_lock
ghosts-share_a_lock g a = record { frames = a.accepts; accepts = a.accepts; base = blank_base }
