-- What a run of `alone` reads, writes and tells.
use Rattle.std.specs.Prelude.{◌≡◌, ℕ, List, [], Option, Some, None, Result, Ok, Err}
use Rattle.std.specs.Io.KnownBytes.{Appends, Consumes, IsAtEnd}
use Rattle.vec_outside.specs.declared.outage.Outage.{Outage}
use Rattle.vec_outside.specs.declared.outage.Outage.TheVariants as outage
use Rattle.script_words.specs.declared.command.Command.{Command}
use Rattle.script_words.specs.declared.form.Form.TheVariants as form
use Rattle.script_words.specs.declared.reply.Reply.{Reply}
use Rattle.script_words.specs.Grammar.{IsScript, command_lines}
use Rattle.script_words.specs.Lines.{lines_of}
use Rattle.drawn_words.specs.Drawing.{drawn_all, seeded}
use Rattle.script_jobs.specs.Jobs.{text_of}
use Rattle.vec_run.specs.declared.audit.Audit.{Audit}
use Rattle.vec_run.specs.declared.audit.Room.{Room}
use Rattle.vec_run.specs.declared.end.End.{End}
use Rattle.vec_run.specs.declared.end.End.TheVariants as end
use Rattle.vec_run.specs.declared.indexed.Stop.{Stop}
use Rattle.vec_run.specs.declared.indexed.Stop.TheVariants as stop
use Rattle.vec_run.specs.Exact.{AppendsFront}
use Rattle.vec_run.specs.Runs.{RunsFront, RunsScript}

-- the bytes are a script of these commands, each in its line; where one has no word of its own, it is drawn
pub record IsDrawn (bytes : List ℕ) (lines : List ℕ) (commands : List Command) : Type 0 where
  pub read : List Command
  pub script : IsScript form.Rowless bytes read
  pub lines_are : lines ≡ command_lines 1 (lines_of bytes)
  pub commands_are : commands ≡ drawn_all (seeded 0) read

-- the source was read to its end, and what was left of it is such a script
pub record ReadsScript (left left' : Option (List ℕ)) (lines : List ℕ) (commands : List Command) : Type 0 where
  pub bytes : List ℕ
  pub taken : Consumes left left' bytes
  pub ended : IsAtEnd left'
  pub drawn : IsDrawn bytes lines commands

-- All of these commands were run, and the replies were written.
pub record RanWhole (lines : List ℕ) (commands : List Command) (held held' : Option (List ℕ)) (a : Audit) : Type 0 where
  pub replies : List Reply
  pub runs : RunsScript lines commands replies a.jobs.items a.created a.acts.items
  pub no_epoch : a.epochs.items ≡ []
  pub written : Appends held held' (text_of replies)

-- Some of them were run, or all, and of the replies a front was written.
pub record RanPart (lines : List ℕ) (commands : List Command) (held held' : Option (List ℕ)) (a : Audit) : Type 0 where
  pub replies : List Reply
  pub runs : RunsFront lines commands replies a.jobs.items a.created a.acts.items stop.Memory
  pub no_epoch : a.epochs.items ≡ []
  pub written : AppendsFront held held' (text_of replies)

-- They were run up to one that wanted this room, and the replies to those before it were written.
pub record RanToRoom (lines : List ℕ) (commands : List Command) (held held' : Option (List ℕ)) (a : Audit) (room : Option Room)
    : Type 0 where
  pub wanted : Room
  pub room_is : room ≡ Some wanted
  pub replies : List Reply
  pub runs : RunsFront lines commands replies a.jobs.items a.created a.acts.items (stop.Room wanted)
  pub no_epoch : a.epochs.items ≡ []
  pub written : Appends held held' (text_of replies)

-- what was done of these commands at each end of their run
abbrev pub IsRunEnd : List ℕ → List Command → Option (List ℕ) → Option (List ℕ) → Audit → Option Room → End → Type 0
IsRunEnd lines commands held held' a room end.Done = RanWhole lines commands held held' a
IsRunEnd lines commands held held' a room end.Memory = RanPart lines commands held held' a
IsRunEnd lines commands held held' a room end.Write = RanPart lines commands held held' a
IsRunEnd lines commands held held' a room end.Room = RanToRoom lines commands held held' a room
IsRunEnd lines commands held held' a room _ = ⊥

-- how a run of commands ended, by whether they were completed and their replies written, with the room that one wanted
abbrev pub run_end : Result (Unit {0}) Stop → Result (Unit {0}) Outage → End × Option Room
run_end ended (Err outage.Memory) = (end.Memory, None)
run_end ended (Err outage.Failed) = (end.Write, None)
run_end (Ok all) (Ok written) = (end.Done, None)
run_end (Err stop.Memory) (Ok written) = (end.Memory, None)
run_end (Err (stop.Room room)) (Ok written) = (end.Room, Some room)

-- ---- with the source

-- the whole script was run
pub record RunsWhole (left left' held held' : Option (List ℕ)) (a : Audit) : Type 0 where
  pub lines : List ℕ
  pub commands : List Command
  pub reads : ReadsScript left left' lines commands
  pub ran : RanWhole lines commands held held' a

-- some of it, or all
pub record RunsPart (left left' held held' : Option (List ℕ)) (a : Audit) : Type 0 where
  pub lines : List ℕ
  pub commands : List Command
  pub reads : ReadsScript left left' lines commands
  pub ran : RanPart lines commands held held' a

-- it was run up to a command that wanted room
pub record RunsToRoom (left left' held held' : Option (List ℕ)) (a : Audit) (room : Option Room) : Type 0 where
  pub lines : List ℕ
  pub commands : List Command
  pub reads : ReadsScript left left' lines commands
  pub ran : RanToRoom lines commands held held' a room
