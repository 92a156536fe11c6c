-- The commands before a create, the create, and those behind it.
use Rattle.std.proofs.Common.{◌≡◌, ℕ, ◌+◌, ◌<◌, ◌≤◌, List, [], ◌∷◌, ◌++◌, take, drop, length, get_or, slice_get, zero, suc, IfErr, OnOk, Option, None, Some, Result, Ok, Err, inl, inr, refl, sym, ap, subst, ◌∙◌, append_assoc, arith}
use Rattle.std.proofs.Math.Seq.{take-add}
use Rattle.std.proofs.lemmas.List.{take_more, take_all, get_or-drop, length-drop}
use Rattle.std.proofs.lemmas.Option.{get_or_from_slice_get, slice_get-get_or, slice_get_within}
use Rattle.std.proofs.lemmas.Grind.{flat_map-append}
use Rattle.vec_names.specs.declared.params.Kind.TheVariants.{Hnsw}
use Rattle.vec_names.specs.declared.params.Params.{Params}
use Rattle.vec_names.specs.Params.{IsInRange}
use Rattle.vec_history.specs.declared.event.Act.{Act}
use Rattle.vec_steps.specs.Index.{OfNodes, IsLegal}
use Rattle.script_words.specs.declared.command.Command.{Command}
use Rattle.script_words.specs.declared.command.Command.TheVariants.{Row, Query, Draw, Create, Insert, Search, Stats}
use Rattle.script_words.specs.declared.reply.Reply.{Reply}
use Rattle.script_words.specs.declared.reply.Reply.TheVariants.{Created}
use Rattle.script_words.specs.Replies.{reply_text}
use Rattle.empty_index.specs.Empty.{empty_graph}
use Rattle.script_jobs.specs.declared.job.Job.{Job}
use Rattle.script_jobs.specs.Jobs.{AreDone, IsJob, text_of}
use Rattle.vec_run.specs.declared.commands.Made.{Made}
use Rattle.vec_run.specs.declared.commands.Ran.{Ran}
use Rattle.vec_run.specs.declared.done.Done.{Done}
use Rattle.vec_run.specs.declared.indexed.Stop.{Stop}
use Rattle.vec_run.specs.declared.indexed.Stop.TheVariants as stop
use Rattle.vec_run.specs.Alone.{AreAnswered, AreRun, IsMaking, IsNew, lone}
use Rattle.vec_run.specs.Runs.{AnswersTo, IsNext, IsWhy, MakesSome, RunsAll, RunsFront, RunsScript, RunsTo, StopsIn, StopsTo, WantsNext}

-- ---- lists that are cut

module _ {X : Type 0} (xs : List X) (at : ℕ) (x d : X) (within : at < length xs) (is : x ≡ get_or xs at d) where
  first : take (at + 1) xs ≡ take at xs ++ x ∷ []
  first = take_more xs at d within ∙ ap (λ (y : X). take at xs ++ y ∷ []) (sym is)

  pub cut_front : (k : ℕ) → take (at + 1 + k) xs ≡ take at xs ++ x ∷ take k (drop (at + 1) xs)
  cut_front k =
      take-add (at + 1) k xs ∙ ap (λ (l : List X). l ++ take k (drop (at + 1) xs)) first
      ∙ append_assoc (take at xs) (x ∷ []) (take k (drop (at + 1) xs))

  pub cut_whole : xs ≡ take at xs ++ x ∷ drop (at + 1) xs
  cut_whole =
      let rest : length (drop (at + 1) xs) ≤ length xs = omega (arith, length-drop (at + 1) xs) in
      sym (take_all (at + 1 + length xs) xs (omega arith)) ∙ cut_front (length xs)
      ∙ ap (λ (l : List X). take at xs ++ x ∷ l) (take_all (length xs) (drop (at + 1) xs) rest)

pub next_behind : {X : Type 0} (xs : List X) (n k : ℕ) (c : X) → slice_get (drop n xs) k ≡ Some c → slice_get xs (n + k) ≡ Some c
next_behind xs n k c is =
    let in_rest = slice_get_within (drop n xs) k c is in
    let within : n + k < length xs = omega (arith, in_rest, length-drop n xs) in
    slice_get-get_or xs (n + k) c within ∙ ap Some (sym (get_or-drop n xs k c) ∙ get_or_from_slice_get (drop n xs) k c c is)

-- ---- a run

-- a script by which no index is made
pub run_answered : (lines : List ℕ) (commands : List Command) (replies : List Reply) (jobs : List Job) → AreAnswered lines commands replies jobs
    → AreRun lines commands replies jobs None None []
run_answered [] [] [] [] so = (refl, refl, refl)
run_answered (l ∷ ls) (b ∷ bs) (r ∷ rs) (k ∷ ks) so = (so.1, inl (so.0, run_answered ls bs rs ks so.2))
run_answered [] [] [] (k ∷ ks) so = absurd so
run_answered [] [] (r ∷ rs) ks so = absurd so
run_answered [] (b ∷ bs) rs ks so = absurd so
run_answered (l ∷ ls) [] rs ks so = absurd so
run_answered (l ∷ ls) (b ∷ bs) [] ks so = absurd so
run_answered (l ∷ ls) (b ∷ bs) (r ∷ rs) [] so = absurd so

-- all commands were answered
pub all_answered : (lines : List ℕ) (commands : List Command) (replies : List Reply) (jobs : List Job) (created : Option ℕ) (acts : List Act)
    → created ≡ None → acts ≡ [] → AreAnswered lines commands replies jobs → RunsScript lines commands replies jobs created acts
all_answered lines commands replies jobs created acts no_index no_act so = record {
  made = None;
  run =
      subst (λ (l : List Act). AreRun lines commands replies jobs created None l) (sym no_act)
      (subst (λ (o : Option ℕ). AreRun lines commands replies jobs o None []) (sym no_index) (run_answered lines commands replies jobs so));
  legal = no_act;
}

-- so many were, and then there was no memory
pub some_answered : (lines : List ℕ) (commands : List Command) (count : ℕ) (replies : List Reply) (jobs : List Job) (created : Option ℕ) (acts : List Act)
    → created ≡ None → acts ≡ [] → AreAnswered (take count lines) (take count commands) replies jobs
    → RunsFront lines commands replies jobs created acts stop.Memory
some_answered lines commands count replies jobs created acts no_index no_act so = record {
  count = count;
  made = None;
  mid = [];
  run = subst (λ (o : Option ℕ). AreRun (take count lines) (take count commands) replies jobs o None []) (sym no_index)
      (run_answered (take count lines) (take count commands) replies jobs so);
  more = [];
  all = no_act;
  legal = no_act;
  why_is = tt;
}

-- an index is made
module _ (line : ℕ) (c : Command) (told : Reply) (j : Job) (p : Params) (job : IsJob j line 0 [] [] []) (making : IsMaking c p) (is : told ≡ Created 1 0)
    (acts : List Act) (later_lines : List ℕ) (later : List Command) (more : List Reply) (others : List Job)
    (done : AreDone (IsNew p) (lone p) [] acts later_lines later more others) where
  run_made : (lines : List ℕ) (commands : List Command) (replies : List Reply) (jobs : List Job) → AreAnswered lines commands replies jobs
      → AreRun (lines ++ line ∷ later_lines) (commands ++ c ∷ later) (replies ++ told ∷ more) (jobs ++ j ∷ others) (Some line) (Some p) acts
  run_made [] [] [] [] so = (job, inr (p, making, is, refl, refl, done))
  run_made (l ∷ ls) (b ∷ bs) (r ∷ rs) (k ∷ ks) so = (so.1, inl (so.0, run_made ls bs rs ks so.2))
  run_made [] [] [] (k ∷ ks) so = absurd so
  run_made [] [] (r ∷ rs) ks so = absurd so
  run_made [] (b ∷ bs) rs ks so = absurd so
  run_made (l ∷ ls) [] rs ks so = absurd so
  run_made (l ∷ ls) (b ∷ bs) [] ks so = absurd so
  run_made (l ∷ ls) (b ∷ bs) (r ∷ rs) [] so = absurd so

-- what was run up to these jobs and this text
pub record RunUpTo (lines : List ℕ) (commands : List Command) (line : ℕ) (p : Params) (acts : List Act) (d : Done) : Type 0 where
  pub replies : List Reply
  pub run : AreRun lines commands replies d.jobs.items (Some line) (Some p) acts
  pub text_is : d.text.items ≡ text_of replies

-- the commands before the create, the create, and some behind it
module _ (lines : List ℕ) (commands : List Command) (at line : ℕ) (c : Command) (j : Job) (p : Params) (before mid after : Done)
    (answered : AnswersTo lines commands at before) (job : IsJob j line 0 [] [] []) (making : IsMaking c p)
    (text : mid.text.items ≡ before.text.items ++ reply_text (Created 1 0)) (jobs : mid.jobs.items ≡ before.jobs.items ++ j ∷ []) where
  up_to : (acts : List Act) (ls ls' : List ℕ) (cs cs' : List Command) → ls' ≡ take at lines ++ line ∷ ls → cs' ≡ take at commands ++ c ∷ cs
      → RunsAll (IsNew p) (lone p) [] acts ls cs mid after → RunUpTo ls' cs' line p acts after
  up_to acts ls ls' cs cs' lines_are commands_are so =
      let all_jobs : after.jobs.items ≡ before.jobs.items ++ j ∷ so.jobs =
      so.jobs_are ∙ ap (λ (l : List Job). l ++ so.jobs) jobs ∙ append_assoc before.jobs.items (j ∷ []) so.jobs in
      let replies : List Reply = answered.replies ++ Created 1 0 ∷ so.replies in
      let run = run_made line c (Created 1 0) j p job making refl acts ls cs so.replies so.jobs so.done (take at lines) (take at commands)
      answered.replies before.jobs.items answered.answered in
      record {
        replies = replies;
        run =
            subst (λ (l : List ℕ). AreRun l cs' replies after.jobs.items (Some line) (Some p) acts) (sym lines_are)
            (subst (λ (l : List Command). AreRun (take at lines ++ line ∷ ls) l replies after.jobs.items (Some line) (Some p) acts) (sym commands_are)
            (subst (λ (l : List Job). AreRun (take at lines ++ line ∷ ls) (take at commands ++ c ∷ cs) replies l (Some line) (Some p) acts) (sym all_jobs) run));
        text_is =
            so.text_is ∙ ap (λ (l : List ℕ). l ++ text_of so.replies) (text ∙ ap (λ (l : List ℕ). l ++ reply_text (Created 1 0)) answered.text_is)
            ∙ append_assoc (text_of answered.replies) (reply_text (Created 1 0)) (text_of so.replies)
            ∙ sym (flat_map-append reply_text answered.replies (Created 1 0 ∷ so.replies));
      }

  module _ (long : length lines ≡ length commands) (within : at < length commands) (line_is : line ≡ get_or lines at 0)
      (is : c ≡ get_or commands at c) (acts : List Act) (legal : IsLegal (OfNodes (empty_graph p)) acts) (ls : List ℕ) (cs : List Command)
      (lines_are : ls ≡ drop (at + 1) lines) (commands_are : cs ≡ drop (at + 1) commands) where
    line_within : at < length lines
    line_within = omega (arith, long, within)

    -- all of these
    pub made_all : RunsAll (IsNew p) (lone p) [] acts ls cs mid after → RunUpTo lines commands line p acts after
    made_all so =
        up_to acts ls lines cs commands
        (cut_whole lines at line 0 line_within line_is ∙ ap (λ (l : List ℕ). take at lines ++ line ∷ l) (sym lines_are))
        (cut_whole commands at c c within is ∙ ap (λ (l : List Command). take at commands ++ c ∷ l) (sym commands_are)) so

    why_behind : (mid_acts : List Act) (k : ℕ) (why : Stop) → IsWhy (WantsNext (IsNew p) (lone p) mid_acts acts cs k) why
        → IsWhy (IsNext (Some p) mid_acts acts commands (at + 1 + k)) why
    why_behind mid_acts k stop.Memory is = tt
    why_behind mid_acts k (stop.Room room) is = record {
      command = is.command;
      next = next_behind commands (at + 1) k is.command (ap (λ (l : List Command). slice_get l k) (sym commands_are) ∙ is.next);
      fails = is.fails;
    }

    -- some of them
    pub made_some : (why : Stop) (so : StopsIn (IsNew p) (lone p) [] acts ls cs mid after why)
        → (r : RunUpTo (take (at + 1 + so.count) lines) (take (at + 1 + so.count) commands) line p so.mid after)
        × RunsFront lines commands r.replies after.jobs.items (Some line) acts why
    made_some why so =
        let r : RunUpTo (take (at + 1 + so.count) lines) (take (at + 1 + so.count) commands) line p so.mid after =
        up_to so.mid (take so.count ls) (take (at + 1 + so.count) lines) (take so.count cs) (take (at + 1 + so.count) commands)
        (cut_front lines at line 0 line_within line_is so.count ∙ ap (λ (l : List ℕ). take at lines ++ line ∷ take so.count l) (sym lines_are))
        (cut_front commands at c c within is so.count ∙ ap (λ (l : List Command). take at commands ++ c ∷ take so.count l) (sym commands_are)) so.runs in (
          r,
          record {
            count = at + 1 + so.count;
            made = Some p;
            mid = so.mid;
            run = r.run;
            more = so.more;
            all = so.all;
            legal = legal;
            why_is = why_behind so.mid so.count why so.why_is;
          },
        )

-- nothing was made, for want of memory
pub nothing_made : (lines : List ℕ) (commands : List Command) (at : ℕ) (m : Made) (d : Done) → m.created ≡ None → m.acts.items ≡ []
    → m.ended ≡ Err stop.Memory → AnswersTo lines commands at d → IfErr m.ended (MakesSome lines commands m d)
nothing_made lines commands at m d created acts ended so =
    subst (λ (r : Result (Unit {0}) Stop). IfErr r (MakesSome lines commands m d)) (sym ended) (record {
      replies = so.replies;
      runs = some_answered lines commands at so.replies d.jobs.items m.created m.acts.items created acts so.answered;
      text_is = so.text_is;
    })

pub kept_answers : (lines : List ℕ) (commands : List Command) (at : ℕ) (d e : Done) → e.text.items ≡ d.text.items → e.jobs.items ≡ d.jobs.items
    → AnswersTo lines commands at d → AnswersTo lines commands at e
kept_answers lines commands at d e text jobs so = record {
  replies = so.replies;
  answered = subst (λ (l : List Job). AreAnswered (take at lines) (take at commands) so.replies l) (sym jobs) so.answered;
  text_is = text ∙ so.text_is;
}

pub there : {X : Type 0} (xs : List X) (i : ℕ) → i < length xs → (x : X) × (slice_get xs i ≡ Some x)
there [] i within = absurd (omega (arith, within))
there (x ∷ xs) zero within = (x, refl)
there (x ∷ xs) (suc i) within = there xs i (omega (arith, within))

-- a command that makes an index has parameters in range, of a graph
pub in_range : (c : Command) (p : Params) → IsMaking c p → IsInRange p × (p.kind ≡ Hnsw)
in_range (Create ops bits m ef round) p is = (is.1.in_range, ap (λ (q : Params). q.kind) is.0)
in_range (Row id bits word) p is = absurd is
in_range (Query bits) p is = absurd is
in_range (Draw seed) p is = absurd is
in_range (Insert id bits word) p is = absurd is
in_range (Search bits limit ef further) p is = absurd is
in_range Stats p is = absurd is

-- ---- what a run came to

any_ok : {T E Q : Type 0} (r : Result T E) → Q → OnOk r Q
any_ok (Ok v) q = q
any_ok (Err e) q = tt

module _ (lines : List ℕ) (commands : List Command) (r : Ran) (d : Done) (text : r.text ≡ d.text) (jobs : r.audit.jobs ≡ d.jobs)
    (created : r.audit.created ≡ None) (acts : r.audit.acts.items ≡ []) (epochs : r.audit.epochs.items ≡ []) where
  jobs_are : r.audit.jobs.items ≡ d.jobs.items
  jobs_are = ap (λ v. v.items) jobs

  text_so : (count : ℕ) (so : AnswersTo lines commands count d) → r.text.items ≡ text_of so.replies
  text_so count so = ap (λ v. v.items) text ∙ so.text_is

  -- all were answered, and no index was made
  pub ran_answered : length lines ≡ length commands → AnswersTo lines commands (length commands) d → OnOk r.ended (RunsTo lines commands r)
  ran_answered long so =
      let none : AreAnswered lines commands so.replies d.jobs.items =
      subst (λ (l : List ℕ). AreAnswered l commands so.replies d.jobs.items) (take_all (length commands) lines (omega (arith, long)))
      (subst (λ (l : List Command). AreAnswered (take (length commands) lines) l so.replies d.jobs.items) (take_all (length commands) commands (omega arith))
      so.answered) in
      any_ok r.ended (record {
        replies = so.replies;
        runs = all_answered lines commands so.replies r.audit.jobs.items r.audit.created r.audit.acts.items created acts
            (subst (λ (l : List Job). AreAnswered lines commands so.replies l) (sym jobs_are) none);
        epochs = epochs;
        text_is = text_so (length commands) so;
      })

  -- there was no memory for an answer
  pub ran_short : (count : ℕ) → AnswersTo lines commands count d → r.ended ≡ Err stop.Memory → IfErr r.ended (StopsTo lines commands r)
  ran_short count so ended =
      subst (λ (e : Result (Unit {0}) Stop). IfErr e (StopsTo lines commands r)) (sym ended) (record {
        replies = so.replies;
        runs = some_answered lines commands count so.replies r.audit.jobs.items r.audit.created r.audit.acts.items created acts
            (subst (λ (l : List Job). AreAnswered (take count lines) (take count commands) so.replies l) (sym jobs_are) so.answered);
        epochs = epochs;
        text_is = text_so count so;
      })
