-- What a fault says of sessions, from what less of it says.
use Rattle.std.proofs.Common.{ℕ, List, Option, inl, inr, refl, sym, subst}
use Rattle.s4d_command.specs.declared.sessions.RunSession.{RunSession}
use Rattle.image_commands.specs.declared.faults.Fault.{Fault}
use Rattle.image_commands.specs.declared.faults.Fault.TheVariants.{CannotRead, CannotWrite, HasBytes, KeptIn, Refused, WriteFailed}
use Rattle.image_commands.specs.Faults.{KeepsNew, SaysUnplaced, SaysUnread, SaysUnreadable, SaysUnwritable}
use Rattle.image_commands.specs.Files.{AreKnown}
use Rattle.s4d.specs.declared.faults.RunFault.{RunFault}
use Rattle.s4d.specs.declared.faults.RunFault.TheVariants.{Unsaved, Unserved}
use Rattle.s4d.specs.Opening.{SaysSessionUnopened, SaysUnopened}
use Rattle.s4d.specs.Running.{SaysUnrun, SaysUnsaved, SaysUnserved}

-- a session's input that can't be read
pub unreadable_input : (asked : RunSession) (fault : Fault) → SaysUnreadable asked.input.now fault → SaysSessionUnopened asked fault
unreadable_input asked (Refused refusal) says = says
unreadable_input asked (CannotRead path obstacle) says = says
unreadable_input asked (CannotWrite path obstacle) says = absurd says
unreadable_input asked (HasBytes path) says = absurd says
unreadable_input asked (KeptIn path obstacle kept) says = absurd says
unreadable_input asked WriteFailed says = absurd says

-- its output that can't be written
pub unwritable_output : (asked : RunSession) (fault : Fault) → SaysUnwritable asked.output.now fault → SaysSessionUnopened asked fault
unwritable_output asked (Refused refusal) says = says
unwritable_output asked (CannotRead path obstacle) says = absurd says
unwritable_output asked (CannotWrite path obstacle) says = says
unwritable_output asked (HasBytes path) says = absurd says
unwritable_output asked (KeptIn path obstacle kept) says = absurd says
unwritable_output asked WriteFailed says = absurd says

-- where sessions aren't opened they aren't served
pub unopened : (known : Option (List ℕ)) (image : List ℕ) (sessions : List RunSession) (fault : Fault) → SaysUnopened sessions fault → SaysUnserved known image sessions fault
unopened known image sessions fault (inl memory) = subst (SaysUnserved known image sessions) (sym memory) (inl refl)
unopened known image sessions (Refused refusal) (inr one) = inl one.4
unopened known image sessions (CannotRead path obstacle) (inr one) = inr (one.0, one.1, one.2, one.3, one.4)
unopened known image sessions (CannotWrite path obstacle) (inr one) = inr (one.0, one.1, one.2, one.3, one.4)
unopened known image sessions (HasBytes path) (inr one) = absurd one.4
unopened known image sessions (KeptIn path obstacle kept) (inr one) = absurd one.4
unopened known image sessions WriteFailed (inr one) = absurd one.4

-- nor where the image isn't read
pub unread : (known : Option (List ℕ)) (image : List ℕ) (sessions : List RunSession) (fault : Fault) → SaysUnread known image fault → SaysUnserved known image sessions fault
unread known image sessions (Refused refusal) (inl memory) = inl memory
unread known image sessions (Refused refusal) (inr damaged) = inr (inr damaged)
unread known image sessions (CannotRead path obstacle) says = inl says
unread known image sessions (CannotWrite path obstacle) says = absurd says
unread known image sessions (HasBytes path) says = absurd says
unread known image sessions (KeptIn path obstacle kept) says = absurd says
unread known image sessions WriteFailed says = absurd says

-- or can't be written
pub unwritable : (known : Option (List ℕ)) (image : List ℕ) (sessions : List RunSession) (fault : Fault) → SaysUnwritable image fault → SaysUnserved known image sessions fault
unwritable known image sessions (Refused refusal) says = inl says
unwritable known image sessions (CannotRead path obstacle) says = absurd says
unwritable known image sessions (CannotWrite path obstacle) says = inl says
unwritable known image sessions (HasBytes path) says = absurd says
unwritable known image sessions (KeptIn path obstacle kept) says = absurd says
unwritable known image sessions WriteFailed says = absurd says

-- what isn't in its place isn't saved, but for the file that is named
pub unplaced : (image bytes : List ℕ) (files' : List ℕ → Option (List ℕ)) (fault : Fault) → SaysUnplaced image fault → KeepsNew files' bytes fault
    → SaysUnsaved image (λ has. AreKnown has bytes) files' fault
unplaced image bytes files' (Refused refusal) says kept = says
unplaced image bytes files' (CannotRead path obstacle) says kept = absurd says
unplaced image bytes files' (CannotWrite path obstacle) says kept = says
unplaced image bytes files' (HasBytes path) says kept = absurd says
unplaced image bytes files' (KeptIn path obstacle file) says kept = (says, kept)
unplaced image bytes files' WriteFailed says kept = absurd says

-- where more holds of what has it, more is said
pub unrun_on : (known : Option (List ℕ)) (image : List ℕ) (sessions : List RunSession) (Has Has' : Option (List ℕ) → Type 0) (files' : List ℕ → Option (List ℕ))
    → ((has : Option (List ℕ)) → Has has → Has' has) → (fault : RunFault) → SaysUnrun known image sessions Has files' fault → SaysUnrun known image sessions Has' files' fault
unrun_on known image sessions Has Has' files' more (Unserved fault) says = says
unrun_on known image sessions Has Has' files' more (Unsaved (Refused refusal)) says = says
unrun_on known image sessions Has Has' files' more (Unsaved (CannotRead path obstacle)) says = absurd says
unrun_on known image sessions Has Has' files' more (Unsaved (CannotWrite path obstacle)) says = says
unrun_on known image sessions Has Has' files' more (Unsaved (HasBytes path)) says = absurd says
unrun_on known image sessions Has Has' files' more (Unsaved (KeptIn path obstacle kept)) says = (says.0, more _ says.1)
unrun_on known image sessions Has Has' files' more (Unsaved WriteFailed) says = absurd says
