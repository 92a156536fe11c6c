-- A command's acts come behind those that were there.
use Rattle.std.proofs.Common.{◌≡◌, ℕ, List, [], ◌++◌, Some, None, Bool, inl, inr, sym, ap, ◌∙◌, append_assoc, append-nil}
use Rattle.vec_history.specs.declared.event.Act.{Act}
use Rattle.script_words.specs.declared.command.Command.{Command}
use Rattle.script_words.specs.declared.command.Command.TheVariants.{Row, Query, Draw, Create, Insert, Search, Stats}
use Rattle.script_words.specs.declared.reply.Reply.{Reply}
use Rattle.vec_steps.specs.declared.fault.OpFault.{OpFault}
use Rattle.vec_steps.specs.declared.fault.OpFault.TheVariants as fault
use Rattle.vec_steps.specs.Index.{Index}
use Rattle.vec_steps.specs.Desks.{Desk}
use Rattle.hnsw_insert.specs.Whole.{FailsSo}
use Rattle.script_jobs.specs.declared.job.Job.{Job}
use Rattle.bit_dist.specs.Hits.{Hit}
use Rattle.graph_search.specs.Reads.{Answer, Look}
use Rattle.graph_search.specs.Scan.{Standing}
use Rattle.hnsw_scan.specs.Gated.{GatedEnd, MadeGated}
use Rattle.hnsw_scan.specs.Scanning.{Wanted}
use Rattle.script_jobs.specs.Jobs.{Does, Fails, IsDone}
use Rattle.script_jobs.specs.Searching.{SearchEnds, Searched}

abbrev pub GoesOn : List Act → List Act → Type 0
GoesOn old new = (more : List Act) × (new ≡ old ++ more)

nowhere : (old new : List Act) → new ≡ old → GoesOn old new
nowhere old new same = ([], same ∙ sym (append-nil old))

then_on : (a b c : List Act) → GoesOn a b → GoesOn b c → GoesOn a c
then_on a b c first later = (first.0 ++ later.0, later.1 ∙ ap (λ (l : List Act). l ++ later.0) first.1 ∙ append_assoc a first.0 later.0)

-- ---- searches

module _ {over : Index → Type 0} {d : Desk} where
  gated_goes : {old new : List Act} {before now : List ℕ} {reads : List (Look × Answer)} → MadeGated over d old new before now reads → GoesOn old new
  gated_goes {old} {new} m =
      then_on old m.taken new (m.takes.does.acts.more, m.takes.does.acts.all)
      (then_on m.taken m.seen new (m.looks.does.acts.more, m.looks.does.acts.all) (m.gives.does.acts.more, m.gives.does.acts.all))

  end_goes : {old new : List Act} {f : OpFault} → GatedEnd over d old new f → GoesOn old new
  end_goes (GatedEnd.not_taken f) = (f.does.acts.more, f.does.acts.all)
  end_goes {old} {new} (GatedEnd.given_back taken seen t b g) =
      then_on old taken new (t.does.acts.more, t.does.acts.all)
      (then_on taken seen new (b.does.acts.more, b.does.acts.all) (g.does.acts.more, g.does.acts.all))
  end_goes {old} {new} (GatedEnd.not_given_back taken seen t m f memory) =
      then_on old taken new (t.does.acts.more, t.does.acts.all)
      (then_on taken seen new (m.does.acts.more, m.does.acts.all) (f.does.acts.more, f.does.acts.all))
  end_goes {old} {new} (GatedEnd.failed_twice taken seen first t b f memory) =
      then_on old taken new (t.does.acts.more, t.does.acts.all)
      (then_on taken seen new (b.does.acts.more, b.does.acts.all) (f.does.acts.more, f.does.acts.all))

  module _ (old : List Act) {w : Wanted} {limit : ℕ} where
    searched_goes : {new : List Act} {now : Standing} {hits : List Hit} {end : Bool} {reads : List ℕ}
        → Searched over d old w limit new now hits end reads → GoesOn old new
    searched_goes (Searched.begun new now rows end reads b) = gated_goes b.made
    searched_goes (Searched.continued mid new stood now had was before rows end reads s unfinished b) =
        then_on old mid new (searched_goes s) (gated_goes b.made)

    search_ends : {new : List Act} {f : OpFault} → SearchEnds over d old new w limit f → GoesOn old new
    search_ends {new} (SearchEnds.unmade is same) = nowhere old new same
    search_ends (SearchEnds.in_first g f) = end_goes g
    search_ends {new} (SearchEnds.in_next mid standing hits end reads s unfinished g f) = then_on old mid new (searched_goes s) (end_goes g)
    search_ends (SearchEnds.untold standing hits end reads s is) = searched_goes s

-- ---- commands

module _ (over : Index → Type 0) (d : Desk) (old new : List Act) where
  what_goes : (c : Command) (reads : List ℕ) (told : Reply) → Does over d old new c reads told → GoesOn old new
  what_goes (Row id bits word) reads told x = nowhere old new x.0.no_act
  what_goes (Query bits) reads told x = absurd x
  what_goes (Draw seed) reads told x = nowhere old new x.0.no_act
  what_goes (Create ops bits m ef round) reads told x = nowhere old new x.0.no_act
  what_goes (Insert id bits None) reads told x = absurd x
  what_goes (Insert id bits (Some word)) reads told (inl i) = (i.more, i.all)
  what_goes (Insert id bits (Some word)) reads told (inr other) = nowhere old new other.idle.no_act
  what_goes (Search bits limit ef further) reads told (inl t) = searched_goes old t.finds.searched
  what_goes (Search bits limit ef further) reads told (inr (inl out)) = nowhere old new out.idle.no_act
  what_goes (Search bits limit ef further) reads told (inr (inr other)) = nowhere old new other.1.idle.no_act
  what_goes Stats reads told x = (x.counted.looked.does.acts.more, x.counted.looked.does.acts.all)

  -- one that was completed
  pub done_goes : (line : ℕ) (c : Command) (told : Reply) (j : Job) → IsDone over d old new line c told j → GoesOn old new
  done_goes line c told j x = what_goes c x.reads told x.does

  insert_goes : (long level : ℕ) (f : OpFault) → FailsSo over d old new long level f → GoesOn old new
  insert_goes long level (fault.Dimensions got want) x = nowhere old new x.3
  insert_goes long level fault.Memory x = (x.1.does.acts.more, x.1.does.acts.all)
  insert_goes long level (fault.Full blocks need) x = (x.1.does.acts.more, x.1.does.acts.all)
  insert_goes long level (fault.LogFull used size) x = (x.1.does.acts.more, x.1.does.acts.all)
  insert_goes long level (fault.Disk count) x = (x.1.does.acts.more, x.1.does.acts.all)

  -- one that a fault ended
  pub fails_goes : (c : Command) (f : OpFault) → Fails over d old new c f → GoesOn old new
  fails_goes (Row id bits word) f x = absurd x
  fails_goes (Query bits) f x = absurd x
  fails_goes (Draw seed) f x = absurd x
  fails_goes (Create ops bits m ef round) f x = absurd x
  fails_goes (Insert id bits None) f x = absurd x
  fails_goes (Insert id bits (Some word)) f x = insert_goes _ _ f x.0
  fails_goes (Search bits limit ef further) f x = search_ends old x.2
  fails_goes Stats f x = (x.does.acts.more, x.does.acts.all)
