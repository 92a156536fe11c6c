-- What was done of a script at each end of its run.
use Rattle.std.proofs.Common.{◌≡◌, ℕ, ◌≤◌, ◌^◌, List, [], length, take, Option, Result, Ok, Err, IfErr, OnOk, OnErr, inr, refl, sym, subst, append-nil, arith}
use Rattle.std.proofs.lemmas.List.{take_all}
use Rattle.std.specs.Io.KnownBytes.{Appends, Consumes, IsAtEnd}
use Rattle.vec_outside.specs.declared.outage.Outage.{Outage}
use Rattle.vec_outside.specs.declared.outage.Outage.TheVariants as outage
use Rattle.script_words.specs.declared.command.Command.{Command}
use Rattle.script_words.specs.declared.form.Form.{Form}
use Rattle.script_words.specs.declared.reply.Reply.{Reply}
use Rattle.script_words.specs.Grammar.{IsFirstOutside}
use Rattle.script_jobs.specs.declared.job.Job.{Job}
use Rattle.vec_history.specs.declared.event.Act.{Act}
use Rattle.vec_run.specs.declared.audit.Audit.{Audit}
use Rattle.vec_run.specs.declared.audit.Room.{Room}
use Rattle.vec_run.specs.declared.commands.Ran.{Ran}
use Rattle.vec_run.specs.declared.end.End.{End}
use Rattle.vec_run.specs.declared.end.End.TheVariants as end
use Rattle.vec_run.specs.declared.indexed.Stop.{Stop}
use Rattle.vec_run.specs.declared.indexed.Stop.TheVariants as stop
use Rattle.vec_run.specs.declared.refusal.ReadRefusal.{ReadRefusal}
use Rattle.vec_run.specs.declared.refusal.ReadRefusal.TheVariants as refusal
use Rattle.vec_run.specs.declared.top.Verb.TheVariants.{Alone}
use Rattle.vec_run.specs.Alone.{AreRun}
use Rattle.vec_run.specs.Exact.{AppendsFront}
use Rattle.vec_run.specs.Refusals.{IsSourceRefusal, IsTextRefusal}
use Rattle.vec_run.specs.Runs.{RunsFront, RunsScript, RunsTo, StopsTo}
use Rattle.vec_run.specs.Scripts.{IsRunEnd, RanPart, ReadsScript, run_end}
use Rattle.vec_run.specs.Verbs.{IsEndOf}
use Rattle.vec_run.proofs.Sources.{outside_source}

-- all is a part
whole_part : (lines : List ℕ) (commands : List Command) (replies : List Reply) (jobs : List Job) (created : Option ℕ) (acts : List Act)
    → length lines ≡ length commands → RunsScript lines commands replies jobs created acts → RunsFront lines commands replies jobs created acts stop.Memory
whole_part lines commands replies jobs created acts long r = record {
  count = length commands;
  made = r.made;
  mid = acts;
  run =
      subst (λ (l : List ℕ). AreRun l (take (length commands) commands) replies jobs created r.made acts) (sym (take_all (length commands) lines (omega (arith, long))))
      (subst (λ (l : List Command). AreRun lines l replies jobs created r.made acts) (sym (take_all (length commands) commands (omega arith))) r.run);
  more = [];
  all = sym (append-nil acts);
  legal = r.legal;
  why_is = tt;
}

-- for whatever reason it ended
any_part : (lines : List ℕ) (commands : List Command) (replies : List Reply) (jobs : List Job) (created : Option ℕ) (acts : List Act) (why : Stop)
    → RunsFront lines commands replies jobs created acts why → RunsFront lines commands replies jobs created acts stop.Memory
any_part lines commands replies jobs created acts why r = record {
  count = r.count;
  made = r.made;
  mid = r.mid;
  run = r.run;
  more = r.more;
  all = r.all;
  legal = r.legal;
  why_is = tt;
}

module _ (lines : List ℕ) (commands : List Command) (long : length lines ≡ length commands) (r : Ran) (held held' : Option (List ℕ)) where
  part : (ended : Result (Unit {0}) Stop) → OnOk ended (RunsTo lines commands r) → IfErr ended (StopsTo lines commands r) → AppendsFront held held' r.text.items
      → RanPart lines commands held held' r.audit
  part (Ok v) ok err front = record {
    replies = ok.replies;
    runs = whole_part lines commands ok.replies r.audit.jobs.items r.audit.created r.audit.acts.items long ok.runs;
    no_epoch = ok.epochs;
    written = subst (λ (l : List ℕ). AppendsFront held held' l) ok.text_is front;
  }
  part (Err why) ok err front = record {
    replies = err.replies;
    runs = any_part lines commands err.replies r.audit.jobs.items r.audit.created r.audit.acts.items why err.runs;
    no_epoch = err.epochs;
    written = subst (λ (l : List ℕ). AppendsFront held held' l) err.text_is front;
  }

  all_front : Appends held held' r.text.items → AppendsFront held held' r.text.items
  all_front all = (length r.text.items, omega arith, subst (Appends held held') (sym (take_all (length r.text.items) r.text.items (omega arith))) all)

  pub ran_end : (ended : Result (Unit {0}) Stop) (written : Result (Unit {0}) Outage) → OnOk ended (RunsTo lines commands r)
      → IfErr ended (StopsTo lines commands r) → OnOk written (Appends held held' r.text.items) → OnErr written (AppendsFront held held' r.text.items)
      → IsRunEnd lines commands held held' r.audit (run_end ended written).1 (run_end ended written).0
  ran_end ended (Err outage.Memory) ok err all front = part ended ok err front
  ran_end ended (Err outage.Failed) ok err all front = part ended ok err front
  ran_end (Ok v) (Ok w) ok err all front = record {
    replies = ok.replies;
    runs = ok.runs;
    no_epoch = ok.epochs;
    written = subst (Appends held held') ok.text_is all;
  }
  ran_end (Err stop.Memory) (Ok w) ok err all front = part (Err stop.Memory) ok err (all_front all)
  ran_end (Err (stop.Room room)) (Ok w) ok err all front = record {
    wanted = room;
    room_is = refl;
    replies = err.replies;
    runs = err.runs;
    no_epoch = err.epochs;
    written = subst (Appends held held') err.text_is all;
  }

-- with the source
pub alone_end : (left left' held held' : Option (List ℕ)) (lines : List ℕ) (commands : List Command) (a : Audit) (room : Option Room) (e : End)
    → ReadsScript left left' lines commands → IsRunEnd lines commands held held' a room e → IsEndOf Alone left left' held held' a room e
alone_end left left' held held' lines commands a room end.Done reads is = record { lines = lines; commands = commands; reads = reads; ran = is }
alone_end left left' held held' lines commands a room end.Memory reads is = inr (record { lines = lines; commands = commands; reads = reads; ran = is })
alone_end left left' held held' lines commands a room end.Words reads is = absurd is
alone_end left left' held held' lines commands a room (end.Line k) reads is = absurd is
alone_end left left' held held' lines commands a room end.Read reads is = absurd is
alone_end left left' held held' lines commands a room end.Write reads is = record { lines = lines; commands = commands; reads = reads; ran = is }
alone_end left left' held held' lines commands a room end.Room reads is = record { lines = lines; commands = commands; reads = reads; ran = is }

-- a text that is refused, of the source
pub source_of_text : (form : Form) (left left' : Option (List ℕ)) (bytes text : List ℕ) (why : ReadRefusal) → text ≡ bytes → Consumes left left' bytes
    → (length bytes ≤ 2 ^ 28 → IsAtEnd left') → IsTextRefusal form text why → IsSourceRefusal form left why
source_of_text form left left' bytes text refusal.Memory same taken ended is = tt
source_of_text form left left' bytes text refusal.Failed same taken ended is = absurd is
source_of_text form left left' bytes text (refusal.Line k) same taken ended is =
    outside_source form left left' bytes k taken ended (subst (λ (l : List ℕ). IsFirstOutside form l k) same is)
