use Rattle.drive.proofs.acceptance.accept.Given as goal

-- the change and the moment of the call
abbrev pub ghosts-accept_named : goal.ghosts-accept_named
ghosts-accept_named g a = record { moment = a.moment; change = a.change.now }
