-- What `pipe` does: a session of a new drive.
use Rattle.std.specs.Prelude.{◌≡◌, ℕ, List, [], Option}
use Rattle.s4_types.specs.declared.requests.Request.{Request}
use Rattle.s4_types.specs.declared.replies.Reply.{Reply}
use Rattle.s4_model.specs.State.{new_history}
use Rattle.s4_model.specs.Step.{Step, judged}
use Rattle.drive.specs.Fields.{DriveFields, SessionFields, history_of, state_in, store_of}
use Rattle.drive.specs.Refusing.{refusal_of, RefusesBy}
use Rattle.drive.specs.Answering.{Leaves, told_after}
use Rattle.serving.specs.Drawing.{Ticks}
use Rattle.serving.specs.Session.{Serves}
use Rattle.serving.specs.declared.clock.Ticking.{Ticking}
use Rattle.serving.specs.declared.ends.ServeEnd.{ServeEnd}
use Rattle.s4d_command.specs.declared.Pipe.{Pipe}
use Rattle.image_commands.specs.Making.{IsEmptyStore}

-- a session with a drive of its own
pub record Attended : Type 0 where
  pub drive : DriveFields
  pub session : SessionFields

-- The request is answered by a step of the model on the drive's history. The reply is a refusal exactly where the checks, a
-- full chain or lack of room refuse it, but for lack of memory; an accepted change appends exactly its blocks, and changes its
-- object's row alone. The session keeps its role, and was told of all accepted changes.
pub record Steps (old : Attended) (request : Request) (now : ℕ) (reply : Reply) (new : Attended) : Type 0 where
  pub step : Step (history_of old.drive) old.session.role request now reply (history_of new.drive)
  pub refused : RefusesBy (refusal_of (store_of old.drive) (judged (history_of old.drive) request now) old.session.role request now) new.drive request reply
  pub stored : Leaves (store_of old.drive) (state_in old.drive) request now reply (store_of new.drive)
  pub session : new.session ≡ record old.session { told = told_after reply new.drive.ledger old.session.told }

-- One session of a new drive with an empty store, with a clock that starts at 0, reads the input and writes the output, and
-- comes to the end.
pub record Pipes (pipe : Pipe) (end : ServeEnd) (input output input' output' : Option (List ℕ)) : Type 0 where
  pub old : Attended
  pub history : history_of old.drive ≡ new_history pipe.window
  pub store : IsEmptyStore pipe.frames old.drive.store
  pub role : old.session.role ≡ pipe.role
  pub before : Ticking
  pub start : before.present ≡ 0
  pub tick : before.tick ≡ pipe.tick
  pub new : Attended
  pub after : Ticking
  pub session : Serves Steps Ticks [] end old before input output new after input' output'
