-- The reply to an insert.
use Rattle.std.proofs.Common.{◌≡◌, ℕ, Bool, true, false, cond, List, [], ◌∷◌, length, refl, sym, ap, ◌∙◌}
use Rattle.vec_names.specs.declared.heap_id.HeapId.{HeapId}
use Rattle.vec_names.specs.Levels.{level_of}
use Rattle.vec_history.specs.declared.event.Event.{Event}
use Rattle.vec_history.specs.declared.event.Event.TheVariants as event
use Rattle.vec_history.specs.declared.event.Act.{Act}
use Rattle.script_words.specs.declared.reply.Reply.TheVariants as reply
use Rattle.vec_steps.specs.Index.{Index}
use Rattle.vec_steps.specs.Desks.{Desk}
use Rattle.hnsw_insert.specs.declared.landing.Inserted.{Inserted}
use Rattle.hnsw_insert.specs.Whole.{Inserts, IsRowOf}
use Rattle.hnsw_insert.proofs.OneRow.{one_row}
use Rattle.script_jobs.specs.Jobs.{InsertsRow, reply_of, row_reply}

joined : (i : Inserted) → i.joined ≡ true → reply_of i ≡ reply.Joined i.at
joined i is = ap (λ b. cond b (reply.Joined i.at) (reply.Put i.at i.level i.version)) is

put : (i : Inserted) → i.joined ≡ false → reply_of i ≡ reply.Put i.at i.level i.version
put i is = ap (λ b. cond b (reply.Joined i.at) (reply.Put i.at i.level i.version)) is

told : (id : HeapId) (bits : List Bool) (level : ℕ) (i : Inserted) (e : Event) → IsRowOf id bits level i e → reply_of i ≡ row_reply (e ∷ [])
told id bits level i (event.Join at version other) is = joined i is.3 ∙ ap reply.Joined (sym is.0)
told id bits level i (event.Put at list_at version high other value lists) is =
    put i is.6 ∙ ap (λ q. reply.Put q i.level i.version) (sym is.0) ∙ ap (λ n. reply.Put at n i.version) (is.3 ∙ sym is.2)
    ∙ ap (λ n. reply.Put at high n) (sym is.1)
told id bits level i _ is = absurd is

pub inserts_row : {over : Index → Type 0} {d : Desk} {old new : List Act} (id : HeapId) (bits : List Bool) (word : ℕ) (i : Inserted)
    → length bits ≡ d.params.bits → Inserts over d old new id bits word i → InsertsRow over d old new id bits word i.trace.reads (reply_of i)
inserts_row {d = d} id bits word i fits ins =
    let row = one_row id bits word i ins in
    record {
      fits = fits;
      inserted = i;
      inserts = ins;
      reads_are = refl;
      more = row.more;
      all = row.all;
      told_is = told id bits (level_of word d.params.m) i row.one row.is ∙ ap row_reply (sym row.only);
    }
