use Rattle.segment_word.proofs.accepts.history.HistorySeat.see.Given as goal

-- the moment of the call
abbrev pub ghosts-see : goal.ghosts-see
ghosts-see g a = record { now = a.moment }
