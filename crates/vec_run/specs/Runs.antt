-- What the parts of a run of `alone` have done.
use Rattle.std.specs.Prelude.{◌≡◌, ℕ, ⊤, List, [], ◌∷◌, ◌++◌, take, slice_get, Option, Some, None}
use Rattle.vec_names.specs.declared.params.Params.{Params}
use Rattle.vec_history.specs.declared.event.Act.{Act}
use Rattle.vec_steps.specs.declared.fault.OpFault.{OpFault}
use Rattle.vec_steps.specs.declared.fault.OpFault.TheVariants as fault
use Rattle.vec_steps.specs.Index.{Index}
use Rattle.vec_steps.specs.Desks.{Desk}
use Rattle.script_words.specs.declared.command.Command.{Command}
use Rattle.script_words.specs.declared.reply.Reply.{Reply}
use Rattle.script_words.specs.Replies.{reply_text}
use Rattle.script_jobs.specs.declared.job.Job.{Job}
use Rattle.script_jobs.specs.Jobs.{AreDone, Fails, IsDone, text_of}
use Rattle.vec_run.specs.declared.audit.Audit.{Audit}
use Rattle.vec_run.specs.declared.audit.Room.{Room}
use Rattle.vec_run.specs.declared.audit.Room.TheVariants.{Blocks, Log}
use Rattle.vec_run.specs.declared.commands.Made.{Made}
use Rattle.vec_run.specs.declared.commands.Ran.{Ran}
use Rattle.vec_run.specs.declared.done.Done.{Done}
use Rattle.vec_run.specs.declared.indexed.Stop.{Stop}
use Rattle.vec_run.specs.declared.indexed.Stop.TheVariants as stop
use Rattle.vec_run.specs.Alone.{AreAnswered, AreLegal, AreRun, IsNew, lone}

-- ---- while no index stands

-- the first so many commands were answered, and this is their text
pub record AnswersTo (lines : List ℕ) (commands : List Command) (count : ℕ) (d : Done) : Type 0 where
  pub replies : List Reply
  pub answered : AreAnswered (take count lines) (take count commands) replies d.jobs.items
  pub text_is : d.text.items ≡ text_of replies

-- ---- over an index

-- what a fault of a command makes of a run
abbrev pub stop_of : OpFault → Stop
stop_of (fault.Full blocks need) = stop.Room (Blocks blocks need)
stop_of (fault.LogFull used size) = stop.Room (Log used size)
stop_of _ = stop.Memory

-- For want of this room the command failed.
pub record FailsFor (over : Index → Type 0) (d : Desk) (old new : List Act) (c : Command) (room : Room) : Type 0 where
  pub fault : OpFault
  pub fails : Fails over d old new c fault
  pub room_is : stop_of fault ≡ stop.Room room

-- want of memory has no cause
abbrev pub IsWhy : (Room → Type 0) → Stop → Type 0
IsWhy Wants stop.Memory = ⊤
IsWhy Wants (stop.Room room) = Wants room

-- one more command was completed, and its reply came to the text
pub record RunsOne (over : Index → Type 0) (d : Desk) (old new : List Act) (line : ℕ) (c : Command) (before after : Done) : Type 0 where
  pub told : Reply
  pub job : Job
  pub done : IsDone over d old new line c told job
  pub jobs_are : after.jobs.items ≡ before.jobs.items ++ job ∷ []
  pub text_is : after.text.items ≡ before.text.items ++ reply_text told

-- the command was not completed, though acts may have come
pub record StopsAt (over : Index → Type 0) (d : Desk) (old new : List Act) (c : Command) (before after : Done) (why : Stop) : Type 0 where
  pub more : List Act
  pub all : new ≡ old ++ more
  pub jobs_are : after.jobs.items ≡ before.jobs.items
  pub text_is : after.text.items ≡ before.text.items
  pub why_is : IsWhy (FailsFor over d old new c) why

-- all commands were completed, one after the other
pub record RunsAll (over : Index → Type 0) (d : Desk) (old new : List Act) (lines : List ℕ) (commands : List Command) (before after : Done)
    : Type 0 where
  pub replies : List Reply
  pub jobs : List Job
  pub done : AreDone over d old new lines commands replies jobs
  pub jobs_are : after.jobs.items ≡ before.jobs.items ++ jobs
  pub text_is : after.text.items ≡ before.text.items ++ text_of replies

-- the command behind so many wanted this room
pub record WantsNext (over : Index → Type 0) (d : Desk) (old new : List Act) (commands : List Command) (count : ℕ) (room : Room)
    : Type 0 where
  pub command : Command
  pub next : slice_get commands count ≡ Some command
  pub fails : FailsFor over d old new command room

-- So many were completed, and the next one was not, though acts of it may have come.
pub record StopsIn (over : Index → Type 0) (d : Desk) (old new : List Act) (lines : List ℕ) (commands : List Command) (before after : Done)
    (why : Stop) : Type 0 where
  pub count : ℕ
  pub mid : List Act
  pub runs : RunsAll over d old mid (take count lines) (take count commands) before after
  pub more : List Act
  pub all : new ≡ mid ++ more
  pub why_is : IsWhy (WantsNext over d mid new commands count) why

-- ---- the whole script

-- no index was made, and nothing was done
pub record IsIdle (a : Audit) : Type 0 where
  pub created : a.created ≡ None
  pub acts : a.acts.items ≡ []
  pub jobs : a.jobs.items ≡ []
  pub epochs : a.epochs.items ≡ []

-- All commands were run, with these replies: these jobs were done, and these acts came, which are legal over the index that was made.
pub record RunsScript (lines : List ℕ) (commands : List Command) (replies : List Reply) (jobs : List Job) (created : Option ℕ)
    (acts : List Act) : Type 0 where
  pub made : Option Params
  pub run : AreRun lines commands replies jobs created made acts
  pub legal : AreLegal made acts

-- the next command wanted this room of the index that was made
abbrev pub IsNext : Option Params → List Act → List Act → List Command → ℕ → Room → Type 0
IsNext None old new commands count room = ⊥
IsNext (Some p) old new commands count room = WantsNext (IsNew p) (lone p) old new commands count room

-- So many of the commands were run, with these replies, and the next one was not completed, of which acts may have come.
pub record RunsFront (lines : List ℕ) (commands : List Command) (replies : List Reply) (jobs : List Job) (created : Option ℕ)
    (acts : List Act) (why : Stop) : Type 0 where
  pub count : ℕ
  pub made : Option Params
  pub mid : List Act
  pub run : AreRun (take count lines) (take count commands) replies jobs created made mid
  pub more : List Act
  pub all : acts ≡ mid ++ more
  pub legal : AreLegal made acts
  pub why_is : IsWhy (IsNext made mid acts commands count) why

-- a create and the commands behind it were completed, and this is the text of all that were
pub record MakesAll (lines : List ℕ) (commands : List Command) (m : Made) (d : Done) : Type 0 where
  pub replies : List Reply
  pub runs : RunsScript lines commands replies d.jobs.items m.created m.acts.items
  pub text_is : d.text.items ≡ text_of replies

-- some were
pub record MakesSome (lines : List ℕ) (commands : List Command) (m : Made) (d : Done) (why : Stop) : Type 0 where
  pub replies : List Reply
  pub runs : RunsFront lines commands replies d.jobs.items m.created m.acts.items why
  pub text_is : d.text.items ≡ text_of replies

-- a run completed all commands
pub record RunsTo (lines : List ℕ) (commands : List Command) (r : Ran) : Type 0 where
  pub replies : List Reply
  pub runs : RunsScript lines commands replies r.audit.jobs.items r.audit.created r.audit.acts.items
  pub epochs : r.audit.epochs.items ≡ []
  pub text_is : r.text.items ≡ text_of replies

-- it completed some
pub record StopsTo (lines : List ℕ) (commands : List Command) (r : Ran) (why : Stop) : Type 0 where
  pub replies : List Reply
  pub runs : RunsFront lines commands replies r.audit.jobs.items r.audit.created r.audit.acts.items why
  pub epochs : r.audit.epochs.items ≡ []
  pub text_is : r.text.items ≡ text_of replies
