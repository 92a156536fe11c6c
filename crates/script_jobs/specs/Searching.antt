-- What a search does: batch after batch of one scan, until there are as many rows as were asked for.
use Rattle.std.specs.Prelude.{◌≡◌, ◌≤◌, ◌||◌, nat_le, ℕ, Bool, true, false, List, [], ◌++◌, map, length, Option, Some, None}
use Rattle.vec_names.specs.declared.params.Ops.{Ops}
use Rattle.bit_dist.specs.Hits.{Hit}
use Rattle.vec_history.specs.declared.event.Act.{Act}
use Rattle.graph_search.specs.Reads.{Answer, Look}
use Rattle.graph_search.specs.Scan.{FirstBatch, Given, Mode, NextBatch, Off, Relaxed, Standing, Strict}
use Rattle.script_words.specs.declared.command.Further.{Further}
use Rattle.script_words.specs.declared.command.Further.TheVariants as further
use Rattle.script_words.specs.declared.reply.Reply.{Reply}
use Rattle.script_words.specs.declared.reply.Reply.TheVariants as reply
use Rattle.vec_steps.specs.declared.fault.OpFault.{OpFault}
use Rattle.vec_steps.specs.declared.fault.OpFault.TheVariants as op
use Rattle.vec_steps.specs.Index.{Index}
use Rattle.vec_steps.specs.Desks.{Desk}
use Rattle.hnsw_scan.specs.Answering.{mode_of}
use Rattle.hnsw_scan.specs.Gated.{GatedEnd, IsFreed, MadeGated}
use Rattle.hnsw_scan.specs.Scanning.{Wanted}
use Rattle.script_jobs.specs.declared.planning.Plan.{Plan}

-- ---- what is asked of the scan

-- a number of a command, and where it has none the usual one
abbrev pub number_or : ℕ → Option ℕ → ℕ
number_or usual None = usual
number_or usual (Some n) = n

-- how it goes on after its first batch
abbrev pub mode_for : Option Further → Mode
mode_for None = Off
mode_for (Some (further.Relaxed most)) = Relaxed
mode_for (Some (further.Strict most)) = Strict

-- up to how many known elements it goes on
abbrev pub max_for : Option Further → ℕ
max_for None = 20000
max_for (Some (further.Relaxed most)) = number_or 20000 most
max_for (Some (further.Strict most)) = number_or 20000 most

abbrev pub wanted_for : List Bool → Option ℕ → Option Further → Wanted
wanted_for bits ef on = record { query = bits; ef = number_or 40 ef; mode = mode_for on; max = max_for on }

-- what a scan is made for by these numbers
abbrev pub wanted_by : Plan → List Bool → Wanted
wanted_by plan bits = record { query = bits; ef = plan.ef; mode = mode_of plan.mode; max = plan.max }

-- the numbers of a search are in their ranges
pub record AreInRange (ef : Option ℕ) (on : Option Further) : Type 0 where
  pub ef_from : 1 ≤ number_or 40 ef
  pub ef_to : number_or 40 ef ≤ 1000
  pub max_from : 1 ≤ max_for on
  pub max_to : max_for on ≤ 2147483647

-- these numbers, where they are in range
abbrev pub IsPlanned : Option ℕ → Option Further → Option Plan → Type 0
IsPlanned ef on None = AreInRange ef on → ⊥
IsPlanned ef on (Some plan) =
    AreInRange ef on × (plan.ef ≡ number_or 40 ef) × (mode_of plan.mode ≡ mode_for on) × (plan.max ≡ max_for on)

-- ---- batches

abbrev pub hit_of : Given → Hit
hit_of g = (g.dist, g.id)

-- The first batch of a scan: it gave these rows, was the end or not, and looked at these positions, under the gate Scan. The scan then
-- stands so.
pub record BeginsBy (over : Index → Type 0) (d : Desk) (old new : List Act) (w : Wanted) (rows : List Given) (end : Bool) (reads : List ℕ)
    (now : Standing) : Type 0 where
  pub looks : List (Look × Answer)
  pub batch : FirstBatch d.params.ops w.query w.ef looks rows end now
  pub made : MadeGated over d old new [] reads looks

-- The next batch of a scan that stood so.
pub record GoesOnBy (over : Index → Type 0) (d : Desk) (old new : List Act) (w : Wanted) (stood : Standing) (rows : List Given) (end : Bool)
    (reads : List ℕ) (now : Standing) : Type 0 where
  pub looks : List (Look × Answer)
  pub batch : NextBatch w.ef w.max w.mode stood looks rows end now
  pub made : MadeGated over d old new [] reads looks

-- ---- a search

-- A search ends with a batch in mode Off, or where it has as many rows as were asked for, or where this batch was the end of the scan.
abbrev pub is_finished : Mode → ℕ → ℕ → Bool → Bool
is_finished Off limit count end = true
is_finished Relaxed limit count end = end || nat_le limit count
is_finished Strict limit count end = end || nat_le limit count

-- How far a search is: the history has gone on to these acts, and the scan stands so; these hits were found, batch after batch; the last
-- batch was the end or not; and these are the positions of all looks. No batch was made after one with which the search ended.
pub data Searched (over : Index → Type 0) (d : Desk) (old : List Act) (w : Wanted) (limit : ℕ)
    : List Act → Standing → List Hit → Bool → List ℕ → Type 0 where
  begun : (new : List Act) (now : Standing) (rows : List Given) (end : Bool) (reads : List ℕ) → BeginsBy over d old new w rows end reads now
      → Searched over d old w limit new now (map hit_of rows) end reads
  continued : (mid new : List Act) (stood now : Standing) (had : List Hit) (was : Bool) (before : List ℕ) (rows : List Given) (end : Bool)
      (reads : List ℕ) → Searched over d old w limit mid stood had was before → is_finished w.mode limit (length had) was ≡ false
      → GoesOnBy over d mid new w stood rows end reads now
      → Searched over d old w limit new now (had ++ map hit_of rows) end (before ++ reads)

-- A whole search: it found these hits, and looked at these positions.
pub record Finds (over : Index → Type 0) (d : Desk) (old new : List Act) (w : Wanted) (limit : ℕ) (hits : List Hit) (reads : List ℕ)
    : Type 0 where
  pub standing : Standing
  pub end : Bool
  pub searched : Searched over d old w limit new standing hits end reads
  pub finished : is_finished w.mode limit (length hits) end ≡ true

-- the reply tells these hits
abbrev pub AreHits : Ops → List Hit → Reply → Type 0
AreHits ops hits (reply.Hits of told) = (of ≡ ops) × (told.items ≡ hits)
AreHits ops hits _ = ⊥

-- How a fault ends a search: no memory was found before any step; the fault ended the first batch; or it ended a next one, where the
-- search had not ended with the one before; or no memory was found for the rows of a batch.
pub data SearchEnds (over : Index → Type 0) (d : Desk) (old new : List Act) (w : Wanted) (limit : ℕ) (fault : OpFault) : Type 0 where
  unmade : fault ≡ op.Memory → new ≡ old → SearchEnds over d old new w limit fault
  in_first : GatedEnd over d old new fault → IsFreed over d new fault → SearchEnds over d old new w limit fault
  in_next : (mid : List Act) (standing : Standing) (hits : List Hit) (end : Bool) (reads : List ℕ)
      → Searched over d old w limit mid standing hits end reads → is_finished w.mode limit (length hits) end ≡ false
      → GatedEnd over d mid new fault → IsFreed over d new fault → SearchEnds over d old new w limit fault
  untold : (standing : Standing) (hits : List Hit) (end : Bool) (reads : List ℕ) → Searched over d old w limit new standing hits end reads
      → fault ≡ op.Memory → SearchEnds over d old new w limit fault
