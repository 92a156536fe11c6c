-- What `alone` does: the commands of a script, one after the other, while no index stands and then over the one that is made.
use Rattle.std.specs.Prelude.{◌≡◌, ◌⊎◌, ℕ, ◌≤◌, ⊤, List, [], ◌∷◌, Option, Some, None, unwrap_or}
use Rattle.vec_names.specs.declared.params.Kind.TheVariants.{Hnsw}
use Rattle.vec_names.specs.declared.params.Ops.{Ops}
use Rattle.vec_names.specs.declared.params.Params.{Params}
use Rattle.vec_names.specs.Params.{IsInRange}
use Rattle.vec_history.specs.declared.event.Act.{Act}
use Rattle.vec_steps.specs.Index.{Index, OfNodes, IsLegal}
use Rattle.vec_steps.specs.Desks.{Desk}
use Rattle.script_words.specs.declared.command.Command.{Command}
use Rattle.script_words.specs.declared.command.Command.TheVariants.{Row, Query, Draw, Create, Insert, Search, Stats}
use Rattle.script_words.specs.declared.reply.Refusal.TheVariants as refusal
use Rattle.script_words.specs.declared.reply.Reply.{Reply}
use Rattle.script_words.specs.declared.reply.Reply.TheVariants.{Nothing, Created, Refused}
use Rattle.empty_index.specs.Empty.{empty_graph}
use Rattle.script_jobs.specs.declared.job.Job.{Job}
use Rattle.vec_run.specs.declared.before.First.{First}
use Rattle.vec_run.specs.declared.before.First.TheVariants.{Told, Makes}
use Rattle.script_jobs.specs.Jobs.{AreDone, IsJob}

-- ---- a create

-- the parameters that a create names, with m 16 and ef 64 where it names none
abbrev pub params_of : Ops → ℕ → Option ℕ → Option ℕ → Params
params_of ops bits m ef = record { kind = Hnsw; ops = ops; bits = bits; m = unwrap_or m 16; ef = unwrap_or ef 64; lists = 0 }

-- each number is in its range; so many rows are inserted in a round, 256 where none is named
pub record CanMake (p : Params) (round : Option ℕ) : Type 0 where
  pub in_range : IsInRange p
  pub round_low : 1 ≤ unwrap_or round 256
  pub round_high : unwrap_or round 256 ≤ 4096

-- the command makes an index with these parameters
abbrev pub IsMaking : Command → Params → Type 0
IsMaking (Create ops bits m ef round) p = (p ≡ params_of ops bits m ef) × CanMake p round
IsMaking _ p = ⊥

-- ---- commands while no index stands

abbrev pub IsAnswered : Command → Reply → Type 0
IsAnswered (Row id bits word) told = told ≡ Nothing
IsAnswered (Query bits) told = ⊥
IsAnswered (Draw seed) told = told ≡ Nothing
IsAnswered (Create ops bits m ef round) told = (CanMake (params_of ops bits m ef) round → ⊥) × (told ≡ Refused refusal.Params)
IsAnswered (Insert id bits word) told = told ≡ Refused refusal.NoIndex
IsAnswered (Search bits limit ef further) told = told ≡ Refused refusal.NoIndex
IsAnswered Stats told = told ≡ Refused refusal.NoIndex

-- what the command comes to while no index stands: an answer, or an index with these parameters
abbrev pub IsFirst : Command → First → Type 0
IsFirst c (Told told) = IsAnswered c told
IsFirst c (Makes p) = IsMaking c p

-- each command of these lines was answered, and did nothing
abbrev pub AreAnswered : List ℕ → List Command → List Reply → List Job → Type 0
AreAnswered [] [] [] [] = ⊤
AreAnswered (line ∷ lines) (c ∷ commands) (told ∷ replies) (j ∷ jobs) =
    IsAnswered c told × IsJob j line 0 [] [] [] × AreAnswered lines commands replies jobs
AreAnswered _ _ _ _ = ⊥

-- ---- the whole script

-- the desk over a new index
abbrev pub lone : Params → Desk
lone p = record { number = 0; depth = 0; params = p; room = record { used = 0; since = 0 } }

-- the new index, which has no node
abbrev pub IsNew : Params → Index → Type 0
IsNew p base = base ≡ OfNodes (empty_graph p)

-- The commands of these lines were completed, each after the one before it: while no index stands each by its answer; one makes the index,
-- of one block and no row; and those behind it are done over that, by these acts. `created` is the line that made it, and `made` has its
-- parameters. Every act is of one of the jobs.
abbrev pub AreRun : List ℕ → List Command → List Reply → List Job → Option ℕ → Option Params → List Act → Type 0
AreRun [] [] [] [] created made acts = (created ≡ None) × (made ≡ None) × (acts ≡ [])
AreRun (line ∷ lines) (c ∷ commands) (told ∷ replies) (j ∷ jobs) created made acts =
    IsJob j line 0 [] [] [] × ((IsAnswered c told × AreRun lines commands replies jobs created made acts)
    ⊎ ((p : Params) × IsMaking c p × (told ≡ Created 1 0) × (created ≡ Some line) × (made ≡ Some p)
    × AreDone (IsNew p) (lone p) [] acts lines commands replies jobs))
AreRun _ _ _ _ created made acts = ⊥

-- these acts are legal over the new index with these parameters; where none was made there is none
abbrev pub AreLegal : Option Params → List Act → Type 0
AreLegal None acts = acts ≡ []
AreLegal (Some p) acts = IsLegal (OfNodes (empty_graph p)) acts
