use Rattle.std.proofs.Common.{◌∙◌, List, arith, subst, sym}
use Rattle.std.proofs.lemmas.List.{take_all}
use Rattle.s4serve_command.specs.CommandLine.{IsNoneOf, folders_of}
use Rattle.s4serve_command.specs.declared.doors.Door.{Door}
use Rattle.s4serve_command.proofs.DoorLemmas.{is_other_text, is_text, is_there, not_there}
use Rattle.s4serve_command.proofs.doors.has_folder.Goals as goal

pub loop-door-init : goal.loop-door-init
loop-door-init c = tt

pub loop-door-preserved : goal.loop-door-preserved
loop-door-preserved c =
    not_there c.args.doors.now c.loop-door.door-index _ c.args.folder.now c.loop-door-test.true (is_other_text _ _ (sym c.eq.ensures ∙ c.if-eq.false)) c.loop-door.invariant

pub returns-then-eq-clause-yes : goal.returns-then-eq-clause-yes
returns-then-eq-clause-yes c = λ yes. is_there c.args.doors.now c.loop-door.door-index _ c.args.folder.now c.loop-door-test.true (is_text _ _ (sym c.eq.ensures ∙ c.if-eq.true))

pub returns-clause-no : goal.returns-clause-no
returns-clause-no c = λ no.
    subst (λ (ds : List Door). IsNoneOf (folders_of ds) c.args.folder.now) (take_all c.loop-door.door-index c.args.doors.now (omega arith)) c.loop-door.invariant
