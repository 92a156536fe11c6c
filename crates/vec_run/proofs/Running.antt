-- The commands of a script, before an index stands and over it.
use Rattle.std.proofs.Common.{◌≡◌, ℕ, ◌+◌, List, [], ◌∷◌, ◌++◌, take, slice_get, Some, refl, sym, ap, subst, ◌∙◌, append-nil, append_assoc}
use Rattle.std.proofs.lemmas.Grind.{flat_map-append}
use Rattle.vec_names.specs.declared.params.Params.{Params}
use Rattle.vec_history.specs.declared.event.Act.{Act}
use Rattle.vec_steps.specs.declared.fault.OpFault.{OpFault}
use Rattle.vec_steps.specs.Index.{Index, OfNodes}
use Rattle.vec_steps.specs.Desks.{Desk}
use Rattle.script_words.specs.declared.command.Command.{Command}
use Rattle.script_words.specs.declared.reply.Reply.{Reply}
use Rattle.script_words.specs.Replies.{reply_text}
use Rattle.empty_index.specs.Empty.{empty_graph}
use Rattle.script_jobs.specs.declared.job.Job.{Job}
use Rattle.script_jobs.specs.Jobs.{AreDone, Fails, IsDone, IsJob, text_of}
use Rattle.script_jobs.proofs.Chain.{done_more}
use Rattle.script_jobs.proofs.Going.{GoesOn, done_goes, fails_goes}
use Rattle.script_jobs.proofs.Over.{done_over, fails_over}
use Rattle.vec_run.specs.declared.audit.Room.{Room}
use Rattle.vec_run.specs.declared.done.Done.{Done}
use Rattle.vec_run.specs.declared.indexed.Stop.{Stop}
use Rattle.vec_run.specs.declared.indexed.Stop.TheVariants as stop
use Rattle.vec_run.specs.Alone.{AreAnswered, IsAnswered, IsNew, lone}
use Rattle.vec_run.specs.Runs.{AnswersTo, FailsFor, IsWhy, RunsAll, RunsOne, StopsAt, StopsIn, WantsNext, stop_of}

-- the text of one reply more
pub text_more : (replies : List Reply) (told : Reply) → text_of (replies ++ told ∷ []) ≡ text_of replies ++ reply_text told
text_more replies told = flat_map-append reply_text replies (told ∷ []) ∙ ap (λ (l : List ℕ). text_of replies ++ l) (append-nil (reply_text told))

-- ---- while no index stands

answered_more : (lines : List ℕ) (commands : List Command) (replies : List Reply) (jobs : List Job) (line : ℕ) (c : Command) (told : Reply) (j : Job)
    → AreAnswered lines commands replies jobs → IsAnswered c told → IsJob j line 0 [] [] []
    → AreAnswered (lines ++ line ∷ []) (commands ++ c ∷ []) (replies ++ told ∷ []) (jobs ++ j ∷ [])
answered_more [] [] [] [] line c told j so is job = (is, job, tt)
answered_more (l ∷ ls) (b ∷ bs) (r ∷ rs) (k ∷ ks) line c told j so is job = (so.0, so.1, answered_more ls bs rs ks line c told j so.2 is job)
answered_more [] [] [] (k ∷ ks) line c told j so is job = absurd so
answered_more [] [] (r ∷ rs) ks line c told j so is job = absurd so
answered_more [] (b ∷ bs) rs ks line c told j so is job = absurd so
answered_more (l ∷ ls) [] rs ks line c told j so is job = absurd so
answered_more (l ∷ ls) (b ∷ bs) [] ks line c told j so is job = absurd so
answered_more (l ∷ ls) (b ∷ bs) (r ∷ rs) [] line c told j so is job = absurd so

-- one more answer
pub answers_more : (lines : List ℕ) (commands : List Command) (i line : ℕ) (c : Command) (told : Reply) (j : Job) (before after : Done)
    → take (i + 1) lines ≡ take i lines ++ line ∷ [] → take (i + 1) commands ≡ take i commands ++ c ∷ []
    → AnswersTo lines commands i before → IsAnswered c told → IsJob j line 0 [] [] []
    → after.text.items ≡ before.text.items ++ reply_text told → after.jobs.items ≡ before.jobs.items ++ j ∷ []
    → AnswersTo lines commands (i + 1) after
answers_more lines commands i line c told j before after ls cs so is job text jobs =
    let more : AreAnswered (take i lines ++ line ∷ []) (take i commands ++ c ∷ []) (so.replies ++ told ∷ []) (before.jobs.items ++ j ∷ []) =
    answered_more (take i lines) (take i commands) so.replies before.jobs.items line c told j so.answered is job in
    record {
      replies = so.replies ++ told ∷ [];
      answered =
          subst (λ (l : List ℕ). AreAnswered l (take (i + 1) commands) (so.replies ++ told ∷ []) after.jobs.items) (sym ls)
          (subst (λ (l : List Command). AreAnswered (take i lines ++ line ∷ []) l (so.replies ++ told ∷ []) after.jobs.items) (sym cs)
          (subst (λ (l : List Job). AreAnswered (take i lines ++ line ∷ []) (take i commands ++ c ∷ []) (so.replies ++ told ∷ []) l) (sym jobs) more));
      text_is = text ∙ ap (λ (l : List ℕ). l ++ reply_text told) so.text_is ∙ sym (text_more so.replies told);
    }

-- ---- over an index

-- the same over fewer bases
pub all_over : {more fewer : Index → Type 0} → ((base : Index) → fewer base → more base) → (d : Desk) (old new : List Act) (lines : List ℕ)
    (commands : List Command) (replies : List Reply) (jobs : List Job) → AreDone more d old new lines commands replies jobs
    → AreDone fewer d old new lines commands replies jobs
all_over on d old new [] [] [] [] so = so
all_over on d old new (l ∷ ls) (b ∷ bs) (r ∷ rs) (k ∷ ks) so =
    (so.0, done_over on d old so.0 l b r k so.1, all_over on d so.0 new ls bs rs ks so.2)
all_over on d old new [] [] [] (k ∷ ks) so = absurd so
all_over on d old new [] [] (r ∷ rs) ks so = absurd so
all_over on d old new [] (b ∷ bs) rs ks so = absurd so
all_over on d old new (l ∷ ls) [] rs ks so = absurd so
all_over on d old new (l ∷ ls) (b ∷ bs) [] ks so = absurd so
all_over on d old new (l ∷ ls) (b ∷ bs) (r ∷ rs) [] so = absurd so

-- nothing was done yet
pub runs_none : (over : Index → Type 0) (d : Desk) (acts : List Act) (now : Done) → RunsAll over d acts acts [] [] now now
runs_none over d acts now = record {
  replies = [];
  jobs = [];
  done = refl;
  jobs_are = sym (append-nil now.jobs.items);
  text_is = sym (append-nil now.text.items);
}

module _ {over later : Index → Type 0} (d e : Desk) (same : e ≡ d) (on : (base : Index) → over base → later base) (old mid new : List Act) where
  -- one more command
  pub runs_more : (ls ls' : List ℕ) (cs cs' : List Command) (line : ℕ) (c : Command) (before now after : Done)
      → ls' ≡ ls ++ line ∷ [] → cs' ≡ cs ++ c ∷ [] → RunsAll over d old mid ls cs before now
      → RunsOne later e mid new line c now after → RunsAll over d old new ls' cs' before after
  runs_more ls ls' cs cs' line c before now after lines_are commands_are so one =
      let one_done : IsDone over d mid new line c one.told one.job =
      done_over on d mid new line c one.told one.job (subst (λ (k : Desk). IsDone later k mid new line c one.told one.job) same one.done) in
      let all : AreDone over d old new (ls ++ line ∷ []) (cs ++ c ∷ []) (so.replies ++ one.told ∷ []) (so.jobs ++ one.job ∷ []) =
      done_more over d old mid new ls cs so.replies so.jobs line c one.told one.job so.done one_done in
      record {
        replies = so.replies ++ one.told ∷ [];
        jobs = so.jobs ++ one.job ∷ [];
        done =
            subst (λ (l : List ℕ). AreDone over d old new l cs' (so.replies ++ one.told ∷ []) (so.jobs ++ one.job ∷ [])) (sym lines_are)
            (subst (λ (l : List Command). AreDone over d old new (ls ++ line ∷ []) l (so.replies ++ one.told ∷ []) (so.jobs ++ one.job ∷ [])) (sym commands_are) all);
        jobs_are = one.jobs_are ∙ ap (λ (l : List Job). l ++ one.job ∷ []) so.jobs_are ∙ append_assoc before.jobs.items so.jobs (one.job ∷ []);
        text_is =
            one.text_is ∙ ap (λ (l : List ℕ). l ++ reply_text one.told) so.text_is
            ∙ append_assoc before.text.items (text_of so.replies) (reply_text one.told)
            ∙ ap (λ (l : List ℕ). before.text.items ++ l) (sym (text_more so.replies one.told));
      }

  fails_later : (c : Command) (room : Room) → FailsFor later e mid new c room → FailsFor over d mid new c room
  fails_later c room f = record {
    fault = f.fault;
    fails = fails_over on d mid new c f.fault (subst (λ (k : Desk). Fails later k mid new c f.fault) same f.fails);
    room_is = f.room_is;
  }

  why_later : (commands : List Command) (i : ℕ) (c : Command) (why : Stop) → slice_get commands i ≡ Some c → IsWhy (FailsFor later e mid new c) why
      → IsWhy (WantsNext over d mid new commands i) why
  why_later commands i c stop.Memory next is = tt
  why_later commands i c (stop.Room room) next is = record { command = c; next = next; fails = fails_later c room is }

  -- the next one was not completed
  pub stops_next : (lines : List ℕ) (commands : List Command) (i : ℕ) (c : Command) (before now after : Done) (why : Stop)
      → slice_get commands i ≡ Some c → RunsAll over d old mid (take i lines) (take i commands) before now
      → StopsAt later e mid new c now after why → StopsIn over d old new lines commands before after why
  stops_next lines commands i c before now after why next so at = record {
    count = i;
    mid = mid;
    runs = record {
      replies = so.replies;
      jobs = so.jobs;
      done = so.done;
      jobs_are = at.jobs_are ∙ so.jobs_are;
      text_is = at.text_is ∙ so.text_is;
    };
    more = at.more;
    all = at.all;
    why_is = why_later commands i c why next at.why_is;
  }

-- ---- how one command stops a run

why_of : (over : Index → Type 0) (d : Desk) (old new : List Act) (c : Command) (f : OpFault) (why : Stop) → stop_of f ≡ why → Fails over d old new c f
    → IsWhy (FailsFor over d old new c) why
why_of over d old new c f stop.Memory is fails = tt
why_of over d old new c f (stop.Room room) is fails = record { fault = f; fails = fails; room_is = is }

-- a fault ended it
pub stops_fault : (over : Index → Type 0) (d : Desk) (old new : List Act) (c : Command) (f : OpFault) (now : Done) (why : Stop) → why ≡ stop_of f
    → Fails over d old new c f → StopsAt over d old new c now now why
stops_fault over d old new c f now why is fails =
    let goes : GoesOn old new = fails_goes over d old new c f fails in
    record { more = goes.0; all = goes.1; jobs_are = refl; text_is = refl; why_is = why_of over d old new c f why (sym is) fails }

-- its reply found no memory
pub stops_full : (over : Index → Type 0) (d : Desk) (old new : List Act) (line : ℕ) (c : Command) (told : Reply) (j : Job) (now after : Done)
    → IsDone over d old new line c told j → after.text.items ≡ now.text.items → after.jobs.items ≡ now.jobs.items
    → StopsAt over d old new c now after stop.Memory
stops_full over d old new line c told j now after is text jobs =
    let goes : GoesOn old new = done_goes over d old new line c told j is in
    record { more = goes.0; all = goes.1; jobs_are = jobs; text_is = text; why_is = tt }

-- ---- over a new index

module _ (p : Params) (over : Index → Type 0) (stood : over (OfNodes (empty_graph p))) (d : Desk) (lone_is : d ≡ lone p) (old new acts : List Act)
    (none : old ≡ []) (all_are : acts ≡ new) where
  on_new : (base : Index) → IsNew p base → over base
  on_new base is = subst over (sym is) stood

  -- what was run of it
  runs_so : (mid : List Act) (lines : List ℕ) (commands : List Command) (before after : Done) → RunsAll over d old mid lines commands before after
      → RunsAll (IsNew p) (lone p) [] mid lines commands before after
  runs_so mid lines commands before after so = record {
    replies = so.replies;
    jobs = so.jobs;
    done =
        subst (λ (k : Desk). AreDone (IsNew p) k [] mid lines commands so.replies so.jobs) lone_is
        (subst (λ (l : List Act). AreDone (IsNew p) d l mid lines commands so.replies so.jobs) none
        (all_over on_new d old mid lines commands so.replies so.jobs so.done));
    jobs_are = so.jobs_are;
    text_is = so.text_is;
  }

  pub new_runs : (lines : List ℕ) (commands : List Command) (before after : Done) → RunsAll over d old new lines commands before after
      → RunsAll (IsNew p) (lone p) [] acts lines commands before after
  new_runs lines commands before after so =
      runs_so acts lines commands before after (subst (λ (l : List Act). RunsAll over d old l lines commands before after) (sym all_are) so)

  why_new : (mid : List Act) (commands : List Command) (count : ℕ) (why : Stop) → IsWhy (WantsNext over d mid new commands count) why
      → IsWhy (WantsNext (IsNew p) (lone p) mid acts commands count) why
  why_new mid commands count stop.Memory is = tt
  why_new mid commands count (stop.Room room) is =
      subst (λ (k : Desk). WantsNext (IsNew p) k mid acts commands count room) lone_is
      (subst (λ (l : List Act). WantsNext (IsNew p) d mid l commands count room) (sym all_are) (record {
        command = is.command;
        next = is.next;
        fails = fails_later d d refl on_new old mid new is.command room is.fails;
      }))

  pub new_stops : (lines : List ℕ) (commands : List Command) (before after : Done) (why : Stop) → StopsIn over d old new lines commands before after why
      → StopsIn (IsNew p) (lone p) [] acts lines commands before after why
  new_stops lines commands before after why so = record {
    count = so.count;
    mid = so.mid;
    runs = runs_so so.mid (take so.count lines) (take so.count commands) before after so.runs;
    more = so.more;
    all = all_are ∙ so.all;
    why_is = why_new so.mid commands so.count why so.why_is;
  }
