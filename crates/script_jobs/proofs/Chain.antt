-- Commands one after the other.
use Rattle.std.proofs.Common.{ℕ, List, [], ◌∷◌, ◌++◌, refl, subst}
use Rattle.vec_history.specs.declared.event.Act.{Act}
use Rattle.script_words.specs.declared.command.Command.{Command}
use Rattle.script_words.specs.declared.reply.Reply.{Reply}
use Rattle.vec_steps.specs.Index.{Index}
use Rattle.vec_steps.specs.Desks.{Desk}
use Rattle.script_jobs.specs.declared.job.Job.{Job}
use Rattle.script_jobs.specs.Jobs.{AreDone, IsDone}

-- one more command after these
pub done_more : (over : Index → Type 0) (d : Desk) (old mid new : List Act) (lines : List ℕ) (commands : List Command) (replies : List Reply) (jobs : List Job)
    (line : ℕ) (c : Command) (told : Reply) (j : Job) → AreDone over d old mid lines commands replies jobs → IsDone over d mid new line c told j
    → AreDone over d old new (lines ++ line ∷ []) (commands ++ c ∷ []) (replies ++ told ∷ []) (jobs ++ j ∷ [])
done_more over d old mid new [] [] [] [] line c told j so one =
    (new, subst (λ (l : List Act). IsDone over d l new line c told j) so one, refl)
done_more over d old mid new (l ∷ ls) (b ∷ bs) (r ∷ rs) (k ∷ ks) line c told j so one =
    (so.0, so.1, done_more over d so.0 mid new ls bs rs ks line c told j so.2 one)
done_more over d old mid new [] [] [] (k ∷ ks) line c told j so one = absurd so
done_more over d old mid new [] [] (r ∷ rs) ks line c told j so one = absurd so
done_more over d old mid new [] (b ∷ bs) rs ks line c told j so one = absurd so
done_more over d old mid new (l ∷ ls) [] rs ks line c told j so one = absurd so
done_more over d old mid new (l ∷ ls) (b ∷ bs) [] ks line c told j so one = absurd so
done_more over d old mid new (l ∷ ls) (b ∷ bs) (r ∷ rs) [] line c told j so one = absurd so
