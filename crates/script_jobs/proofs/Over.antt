-- What is so over some bases is so over fewer.
use Rattle.std.proofs.Common.{ℕ, List, Option, Some, None, inl, inr, refl}
use Rattle.std.specs.Prelude.{Bool}
use Rattle.vec_names.specs.declared.heap_id.HeapId.{HeapId}
use Rattle.vec_history.specs.declared.event.Act.{Act}
use Rattle.script_words.specs.declared.command.Command.{Command}
use Rattle.script_words.specs.declared.command.Command.TheVariants.{Row, Query, Draw, Create, Insert, Search, Stats}
use Rattle.script_words.specs.declared.reply.Reply.{Reply}
use Rattle.vec_steps.specs.declared.fault.OpFault.{OpFault}
use Rattle.vec_steps.specs.declared.fault.OpFault.TheVariants as fault
use Rattle.vec_steps.specs.Index.{Index}
use Rattle.vec_steps.specs.Desks.{Desk}
use Rattle.vec_steps.proofs.Following.{does_so_over}
use Rattle.layer_search.proofs.Looks.{ended_over}
use Rattle.hnsw_insert.specs.Whole.{FailsSo}
use Rattle.hnsw_insert.proofs.Gates.{gives_over}
use Rattle.hnsw_insert.proofs.Made.{went_over}
use Rattle.hnsw_insert.proofs.Stopped.{stops_as}
use Rattle.script_jobs.specs.declared.job.Job.{Job}
use Rattle.bit_dist.specs.Hits.{Hit}
use Rattle.graph_search.specs.Scan.{Standing}
use Rattle.hnsw_scan.specs.Scanning.{Wanted}
use Rattle.script_words.specs.declared.command.Further.{Further}
use Rattle.script_jobs.specs.Jobs.{Does, Fails, InsertsRow, IsDone, TellsCounts, TellsRows}
use Rattle.script_jobs.specs.Searching.{SearchEnds, Searched}
use Rattle.script_jobs.proofs.Batches.{end_over, freed_over, gated_over}

-- ---- searches

module _ {more fewer : Index → Type 0} (on : (base : Index) → fewer base → more base) {d : Desk} {old : List Act} {w : Wanted} {limit : ℕ} where
  searched_over : {new : List Act} {now : Standing} {hits : List Hit} {end : Bool} {reads : List ℕ}
      → Searched more d old w limit new now hits end reads → Searched fewer d old w limit new now hits end reads
  searched_over (Searched.begun new now rows end reads b) =
      Searched.begun new now rows end reads (record { looks = b.looks; batch = b.batch; made = gated_over on b.made })
  searched_over (Searched.continued mid new stood now had was before rows end reads s unfinished b) =
      Searched.continued mid new stood now had was before rows end reads (searched_over s) unfinished
      (record { looks = b.looks; batch = b.batch; made = gated_over on b.made })

  ends_over : {new : List Act} {f : OpFault} → SearchEnds more d old new w limit f → SearchEnds fewer d old new w limit f
  ends_over (SearchEnds.unmade is same) = SearchEnds.unmade is same
  ends_over (SearchEnds.in_first g f) = SearchEnds.in_first (end_over on g) (freed_over on d f)
  ends_over (SearchEnds.in_next mid standing hits end reads s unfinished g f) =
      SearchEnds.in_next mid standing hits end reads (searched_over s) unfinished (end_over on g) (freed_over on d f)
  ends_over (SearchEnds.untold standing hits end reads s is) = SearchEnds.untold standing hits end reads (searched_over s) is

-- ---- commands

module _ {more fewer : Index → Type 0} (on : (base : Index) → fewer base → more base) (d : Desk) (old new : List Act) where
  rows_over : (bits : List Bool) (limit : ℕ) (ef : Option ℕ) (further : Option Further) (reads : List ℕ) (told : Reply)
      → TellsRows more d old new bits limit ef further reads told → TellsRows fewer d old new bits limit ef further reads told
  rows_over bits limit ef further reads told t = record {
    in_range = t.in_range;
    fits = t.fits;
    hits = t.hits;
    finds = record {
      standing = t.finds.standing;
      end = t.finds.end;
      searched = searched_over on t.finds.searched;
      finished = t.finds.finished;
    };
    told_is = t.told_is;
  }

  row_over : (id : HeapId) (bits : List Bool) (word : ℕ) (reads : List ℕ) (told : Reply) → InsertsRow more d old new id bits word reads told
      → InsertsRow fewer d old new id bits word reads told
  row_over id bits word reads told i = record {
    fits = i.fits;
    inserted = i.inserted;
    inserts = record {
      outcome = i.inserts.outcome;
      landing_is = i.inserts.landing_is;
      deeds = i.inserts.deeds;
      whole = i.inserts.whole;
      made = went_over on i.inserts.made;
    };
    reads_are = i.reads_are;
    more = i.more;
    all = i.all;
    told_is = i.told_is;
  }

  counts_over : (reads : List ℕ) (told : Reply) → TellsCounts more d old new reads told → TellsCounts fewer d old new reads told
  counts_over reads told t = record {
    counts = t.counts;
    counted = record { looked = does_so_over on t.counted.looked; exact = λ g o. t.counted.exact g (on _ o) };
    no_read = t.no_read;
    told_is = t.told_is;
  }

  what_over : (c : Command) (reads : List ℕ) (told : Reply) → Does more d old new c reads told → Does fewer d old new c reads told
  what_over (Row id bits word) reads told x = x
  what_over (Query bits) reads told x = absurd x
  what_over (Draw seed) reads told x = x
  what_over (Create ops bits m ef round) reads told x = x
  what_over (Insert id bits None) reads told x = absurd x
  what_over (Insert id bits (Some word)) reads told (inl i) = inl (row_over id bits word reads told i)
  what_over (Insert id bits (Some word)) reads told (inr other) = inr other
  what_over (Search bits limit ef further) reads told (inl t) = inl (rows_over bits limit ef further reads told t)
  what_over (Search bits limit ef further) reads told (inr other) = inr other
  what_over Stats reads told x = counts_over reads told x

  -- a command that was completed
  pub done_over : (line : ℕ) (c : Command) (told : Reply) (j : Job) → IsDone more d old new line c told j → IsDone fewer d old new line c told j
  done_over line c told j x = record { reads = x.reads; does = what_over c x.reads told x.does; job = x.job }

  insert_over : (long level : ℕ) (f : OpFault) → FailsSo more d old new long level f → FailsSo fewer d old new long level f
  insert_over long level (fault.Dimensions got want) x = x
  insert_over long level fault.Memory x = (x.0, stops_as on (λ course all. all) (λ a m n full. full) x.1, gives_over refl on x.2)
  insert_over long level (fault.Full blocks need) x = (x.0, stops_as on (λ course all. all) (λ a m n full. full) x.1, gives_over refl on x.2)
  insert_over long level (fault.LogFull used size) x = (x.0, stops_as on (λ course all. all) (λ a m n full. full) x.1, gives_over refl on x.2)
  insert_over long level (fault.Disk count) x = (x.0, stops_as on (λ course all. all) (λ a m n full. full) x.1, gives_over refl on x.2)

  -- one that a fault ended
  pub fails_over : (c : Command) (f : OpFault) → Fails more d old new c f → Fails fewer d old new c f
  fails_over (Row id bits word) f x = absurd x
  fails_over (Query bits) f x = absurd x
  fails_over (Draw seed) f x = absurd x
  fails_over (Create ops bits m ef round) f x = absurd x
  fails_over (Insert id bits None) f x = absurd x
  fails_over (Insert id bits (Some word)) f x = (insert_over _ _ f x.0, x.1)
  fails_over (Search bits limit ef further) f x = (x.0, x.1, ends_over on x.2, x.3)
  fails_over Stats f x = ended_over on x
