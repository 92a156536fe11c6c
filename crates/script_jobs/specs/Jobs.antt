-- What a command does over an index that stands: its acts and looks, its reply, and its job.
use Rattle.std.specs.Prelude.{◌≡◌, ◌≢◌, ◌⊎◌, ℕ, ⊤, if◌then◌else◌, Bool, List, [], ◌∷◌, ◌++◌}
use Rattle.std.specs.Prelude.{filter, flat_map, take, length, Option, Some, None}
use Rattle.vec_names.specs.declared.heap_id.HeapId.{HeapId}
use Rattle.vec_names.specs.Levels.{level_of}
use Rattle.bit_dist.specs.Hits.{Hit}
use Rattle.vec_history.specs.declared.event.Event.{Event}
use Rattle.vec_history.specs.declared.event.Event.TheVariants as event
use Rattle.vec_history.specs.declared.event.Act.{Act}
use Rattle.graph_search.specs.Deeds.{is_of_row, own_events}
use Rattle.script_words.specs.declared.command.Command.{Command}
use Rattle.script_words.specs.declared.command.Command.TheVariants.{Row, Query, Draw, Create, Insert, Search, Stats}
use Rattle.script_words.specs.declared.command.Further.{Further}
use Rattle.script_words.specs.declared.reply.Counts.{Counts}
use Rattle.script_words.specs.declared.reply.Refusal.TheVariants.{Exists, Params, Dimensions}
use Rattle.script_words.specs.declared.reply.Reply.{Reply}
use Rattle.script_words.specs.declared.reply.Reply.TheVariants as reply
use Rattle.script_words.specs.Replies.{reply_text}
use Rattle.vec_steps.specs.declared.fault.OpFault.{OpFault}
use Rattle.vec_steps.specs.declared.fault.OpFault.TheVariants as fault
use Rattle.vec_steps.specs.Index.{Index}
use Rattle.vec_steps.specs.Desks.{Desk}
use Rattle.hnsw_insert.specs.declared.landing.Inserted.{Inserted}
use Rattle.layer_search.specs.Looking.{EndedBy}
use Rattle.hnsw_insert.specs.Whole.{FailsSo, Inserts}
use Rattle.script_jobs.specs.declared.job.Job.{Job}
use Rattle.script_jobs.specs.Counting.{CountsNodes}
use Rattle.script_jobs.specs.Searching.{AreHits, AreInRange, Finds, SearchEnds, wanted_for}

-- ---- jobs

-- the command of this line was done by the desk of this number, while its history went from one front to another, with looks at these
-- positions
pub record IsJob (j : Job) (line desk : ℕ) (old new : List Act) (reads : List ℕ) : Type 0 where
  pub line_is : j.line ≡ line
  pub desk_is : j.desk ≡ desk
  pub before_is : j.before ≡ length old
  pub after_is : j.after ≡ length new
  pub reads_are : j.reads ≡ reads

-- ---- commands

-- a value of another length is no fault: the command is refused
abbrev pub IsNoLength : OpFault → Type 0
IsNoLength (fault.Dimensions got want) = ⊥
IsNoLength _ = ⊤

-- nothing was done: no act came, and nothing was looked at
pub record IsIdle (old new : List Act) (reads : List ℕ) : Type 0 where
  pub no_act : new ≡ old
  pub no_look : reads ≡ []

-- what the one Put or Join among some events is told by
abbrev pub row_reply : List Event → Reply
row_reply (event.Put at list_at version level id bits lists ∷ []) = reply.Put at level version
row_reply (event.Join at version id ∷ []) = reply.Joined at
row_reply _ = reply.Nothing

-- what an insert is answered
abbrev pub reply_of : Inserted → Reply
reply_of i = if i.joined then reply.Joined i.at else reply.Put i.at i.level i.version

-- The row was inserted, and the reply tells the one Put or Join among the desk's own acts that came.
pub record InsertsRow (over : Index → Type 0) (d : Desk) (old new : List Act) (id : HeapId) (bits : List Bool) (word : ℕ)
    (reads : List ℕ) (told : Reply) : Type 0 where
  pub fits : length bits ≡ d.params.bits
  pub inserted : Inserted
  pub inserts : Inserts over d old new id bits word inserted
  pub reads_are : reads ≡ inserted.trace.reads
  pub more : List Act
  pub all : new ≡ old ++ more
  pub told_is : told ≡ row_reply (filter is_of_row (own_events d.number more))

-- A value of another length than the index's is refused.
pub record IsOtherLength (d : Desk) (old new : List Act) (bits : List Bool) (reads : List ℕ) (told : Reply) : Type 0 where
  pub other : length bits ≢ d.params.bits
  pub idle : IsIdle old new reads
  pub told_is : told ≡ reply.Refused Dimensions

-- A search of which a number is out of its range is refused.
pub record IsOutOfRange (old new : List Act) (ef : Option ℕ) (further : Option Further) (reads : List ℕ) (told : Reply) : Type 0 where
  pub out : AreInRange ef further → ⊥
  pub idle : IsIdle old new reads
  pub told_is : told ≡ reply.Refused Params

-- A search found rows, and the reply tells the first of them, up to the limit.
pub record TellsRows (over : Index → Type 0) (d : Desk) (old new : List Act) (bits : List Bool) (limit : ℕ) (ef : Option ℕ)
    (further : Option Further) (reads : List ℕ) (told : Reply) : Type 0 where
  pub in_range : AreInRange ef further
  pub fits : length bits ≡ d.params.bits
  pub hits : List Hit
  pub finds : Finds over d old new (wanted_for bits ef further) limit hits reads
  pub told_is : AreHits d.params.ops (take limit hits) told

-- the reply tells the counts of the graph; job.reads is of inserts and searches alone
pub record TellsCounts (over : Index → Type 0) (d : Desk) (old new : List Act) (reads : List ℕ) (told : Reply) : Type 0 where
  pub counts : Counts
  pub counted : CountsNodes over d old new counts
  pub no_read : reads ≡ []
  pub told_is : told ≡ reply.Stats counts

-- What a command does where an index stands. A row and a draw do nothing, and a create is refused; queries are of no index.
abbrev pub Does : (Index → Type 0) → Desk → List Act → List Act → Command → List ℕ → Reply → Type 0
Does over d old new (Row id bits word) reads told = IsIdle old new reads × (told ≡ reply.Nothing)
Does over d old new (Query bits) reads told = ⊥
Does over d old new (Draw seed) reads told = IsIdle old new reads × (told ≡ reply.Nothing)
Does over d old new (Create ops bits m ef round) reads told = IsIdle old new reads × (told ≡ reply.Refused Exists)
Does over d old new (Insert id bits None) reads told = ⊥
Does over d old new (Insert id bits (Some word)) reads told =
    InsertsRow over d old new id bits word reads told ⊎ IsOtherLength d old new bits reads told
Does over d old new (Search bits limit ef further) reads told =
    TellsRows over d old new bits limit ef further reads told ⊎ IsOutOfRange old new ef further reads told
    ⊎ (AreInRange ef further × IsOtherLength d old new bits reads told)
Does over d old new Stats reads told = TellsCounts over d old new reads told

-- the command can be done: it is no query, and an insert has its word
abbrev pub CanBeDone : Command → Type 0
CanBeDone (Query bits) = ⊥
CanBeDone (Insert id bits None) = ⊥
CanBeDone _ = ⊤

-- How a fault ends a command. Only an insert, a search and a count make steps.
abbrev pub Fails : (Index → Type 0) → Desk → List Act → List Act → Command → OpFault → Type 0
Fails over d old new (Insert id bits (Some word)) fault = FailsSo over d old new (length bits) (level_of word d.params.m) fault
    × IsNoLength fault
Fails over d old new (Search bits limit ef further) fault = AreInRange ef further × (length bits ≡ d.params.bits)
    × SearchEnds over d old new (wanted_for bits ef further) limit fault × IsNoLength fault
Fails over d old new Stats fault = EndedBy over d old new fault
Fails over d old new _ fault = ⊥

-- A command was completed, with this reply and this job.
pub record IsDone (over : Index → Type 0) (d : Desk) (old new : List Act) (line : ℕ) (c : Command) (told : Reply) (j : Job) : Type 0 where
  pub reads : List ℕ
  pub does : Does over d old new c reads told
  pub job : IsJob j line d.number old new reads

-- ---- commands one after the other

-- Each command of these lines was completed after the one before it, with no act between: its reply and its job.
abbrev pub AreDone : (Index → Type 0) → Desk → List Act → List Act → List ℕ → List Command → List Reply → List Job → Type 0
AreDone over d old new [] [] [] [] = new ≡ old
AreDone over d old new (line ∷ lines) (c ∷ commands) (told ∷ replies) (j ∷ jobs) =
    (mid : List Act) × IsDone over d old mid line c told j × AreDone over d mid new lines commands replies jobs
AreDone over d old new _ _ _ _ = ⊥

-- the text of these replies
abbrev pub text_of : List Reply → List ℕ
text_of replies = flat_map reply_text replies
