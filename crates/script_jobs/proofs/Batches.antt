-- The batches of a search.
use Rattle.std.proofs.Common.{◌≡◌, ℕ, Bool, false, List, [], ◌++◌, length, map, Option, Some, sym, ap, subst, ◌∙◌}
use Rattle.vec_names.specs.declared.params.Params.{Params}
use Rattle.vec_names.specs.declared.params.Kind.TheVariants.{Hnsw}
use Rattle.bit_dist.specs.declared.dist.Dist.{Dist}
use Rattle.bit_dist.specs.Hits.{Hit}
use Rattle.vec_history.specs.declared.event.Act.{Act}
use Rattle.graph_search.specs.Reads.{Answer, Look}
use Rattle.graph_search.specs.Scan.{FirstBatch, Given, GoesOn, Held, Mode, Off, Relaxed, Standing, Strict, is_nothing}
use Rattle.vec_steps.specs.declared.fault.StepFault.{StepFault}
use Rattle.vec_steps.specs.declared.fault.StepFault.TheVariants as step
use Rattle.vec_steps.specs.declared.fault.OpFault.{OpFault}
use Rattle.vec_steps.specs.declared.fault.OpFault.TheVariants as op
use Rattle.vec_steps.specs.Faults.{op_fault}
use Rattle.vec_steps.specs.Index.{Index, OfLists, OfNodes, IsOfParams}
use Rattle.vec_steps.specs.Desks.{Desk}
use Rattle.vec_steps.proofs.Following.{does_so_over}
use Rattle.layer_search.specs.Telling.{OverSpots}
use Rattle.layer_search.proofs.Looks.{ended_over}
use Rattle.hnsw_insert.proofs.Lasts.{nodes_of}
use Rattle.hnsw_scan.specs.Gated.{GatedEnd, IsFreed, MadeGated}
use Rattle.hnsw_scan.specs.Gathering.{GivesFirst, GivesNext, ScanStands}
use Rattle.hnsw_scan.specs.Scanning.{BatchFails, Wanted}
use Rattle.hnsw_scan.proofs.Under.{failed_over, gives_over, takes_over}
use Rattle.script_words.specs.declared.command.Command.TheVariants.{Search}
use Rattle.script_words.specs.declared.command.Further.{Further}
use Rattle.hnsw_scan.specs.Answering.{mode_of}
use Rattle.script_jobs.specs.declared.planning.Plan.{Plan}
use Rattle.script_jobs.specs.Searching.{IsPlanned, SearchEnds, Searched, hit_of, is_finished, mode_for, number_or, wanted_by, wanted_for}
use Rattle.script_jobs.specs.Jobs.{Fails, IsNoLength}

-- ---- bases

-- on a graph nothing has to stand for a first batch
pub over_nothing : {stands : Index → Type 0} (acts : List Act) (p : Params) → p.kind ≡ Hnsw → (base : Index) → IsOfParams p base → stands base
    → OverSpots stands acts 0 [] base
over_nothing {stands = stands} acts p is (OfNodes g) of stood = record { stood = stood; there = tt }
over_nothing {stands = stands} acts p is (OfLists g) of stood = absurd (nodes_of {stands = stands} p is (OfLists g) of stood).so

-- what was done over more bases
module _ {more fewer : Index → Type 0} (on : (base : Index) → fewer base → more base) where
  pub gated_over : {d : Desk} {old new : List Act} {before now : List ℕ} {reads : List (Look × Answer)} → MadeGated more d old new before now reads
      → MadeGated fewer d old new before now reads
  gated_over m = record {
    taken = m.taken;
    seen = m.seen;
    takes = takes_over on m.takes;
    looks = does_so_over on m.looks;
    gives = gives_over on m.gives;
  }

  pub end_over : {d : Desk} {old new : List Act} {fault : OpFault} → GatedEnd more d old new fault → GatedEnd fewer d old new fault
  end_over (GatedEnd.not_taken f) = GatedEnd.not_taken (failed_over on f)
  end_over (GatedEnd.given_back taken seen t b g) = GatedEnd.given_back taken seen (takes_over on t) (ended_over on b) (gives_over on g)
  end_over (GatedEnd.not_given_back taken seen t m f memory) =
      GatedEnd.not_given_back taken seen (takes_over on t) (does_so_over on m) (failed_over on f) memory
  end_over (GatedEnd.failed_twice taken seen first t b f memory) =
      GatedEnd.failed_twice taken seen first (takes_over on t) (ended_over on b) (failed_over on f) memory

  pub freed_over : (d : Desk) {new : List Act} {fault : OpFault} → IsFreed more d new fault → IsFreed fewer d new fault
  freed_over d f base o disk = f base (on base o) disk

-- ---- batch after batch

-- a search is so far, and its state holds this
pub record SoFar (over : Index → Type 0) (d : Desk) (old new : List Act) (w : Wanted) (limit : ℕ) (h : Held) (last : Option Dist)
    (hits : List Hit) (end : Bool) (reads : List ℕ) : Type 0 where
  pub standing : Standing
  pub searched : Searched over d old w limit new standing hits end reads
  pub stands : ScanStands d.params.ops w.query h last standing

pub same_so_far : {over : Index → Type 0} {d : Desk} {old new : List Act} {w : Wanted} {limit : ℕ} {h : Held} {last : Option Dist}
    {hits now_hits : List Hit} {end now_end : Bool} {reads now_reads : List ℕ} → now_hits ≡ hits → now_end ≡ end → now_reads ≡ reads
    → SoFar over d old new w limit h last hits end reads → SoFar over d old new w limit h last now_hits now_end now_reads
same_so_far {over} {d} {old} {new} {w} {limit} {h} {last} {hits} {now_hits} {end} {now_end} {reads} {now_reads} a b c so =
    subst (λ (l : List Hit). SoFar over d old new w limit h last l now_end now_reads) (sym a)
    (subst (λ (k : Bool). SoFar over d old new w limit h last hits k now_reads) (sym b)
    (subst (λ (l : List ℕ). SoFar over d old new w limit h last hits end l) (sym c) so))

-- the first batch
pub so_first : {over later : Index → Type 0} {d : Desk} {old new : List Act} {w : Wanted} (limit : ℕ) {given : List Given} {end : Bool} {h : Held}
    {last : Option Dist} {reads : List ℕ} → ((base : Index) → over base → later base)
    → GivesFirst (MadeGated later d old new [] reads) d.params.ops w.query w.ef given h last → end ≡ is_nothing given
    → SoFar over d old new w limit h last (map hit_of given) end reads
so_first {over} {d = d} {old = old} {new = new} {w = w} limit {given} {end} {reads = reads} on gives is = record {
  standing = gives.standing;
  searched = Searched.begun new gives.standing given end reads (record {
    looks = gives.reads;
    batch = subst (λ (b : Bool). FirstBatch d.params.ops w.query w.ef gives.reads given b gives.standing) (sym is) gives.batch;
    made = gated_over on gives.made;
  });
  stands = gives.stands;
}

-- what a next batch gives, however the scan stood
abbrev pub Gives : (Index → Type 0) → Desk → List Act → List Act → Wanted → Held → Option Dist → List Given → Bool → Held → Option Dist → List ℕ → Type 0
Gives later d mid new w h last given end h_now last_now more =
    (stood : Standing) → ScanStands d.params.ops w.query h last stood
    → GivesNext (MadeGated later d mid new [] more) d.params.ops w.query w.ef w.max w.mode stood given end h_now last_now

-- a next batch
pub so_next : {over later : Index → Type 0} {d e : Desk} {old mid new : List Act} {w v : Wanted} {limit : ℕ} {h h_now : Held}
    {last last_now : Option Dist} {hits : List Hit} {given : List Given} {was end : Bool} {reads more : List ℕ} → e ≡ d → v ≡ w
    → ((base : Index) → over base → later base) → SoFar over d old mid w limit h last hits was reads
    → is_finished w.mode limit (length hits) was ≡ false → Gives later e mid new v h last given end h_now last_now more
    → SoFar over d old new w limit h_now last_now (hits ++ map hit_of given) end (reads ++ more)
so_next {over} {later} {d} {e} {old} {mid} {new} {w} {v} {limit} {h} {h_now} {last} {last_now} {hits} {given} {was} {end} {reads} {more} same kept on so unfinished gives =
    let here : Gives later d mid new w h last given end h_now last_now more =
    subst (λ (k : Desk). Gives later k mid new w h last given end h_now last_now more) same
    (subst (λ (u : Wanted). Gives later e mid new u h last given end h_now last_now more) kept gives) in
    let b = here so.standing so.stands in
    record {
      standing = b.standing;
      searched = Searched.continued mid new so.standing b.standing hits was reads given end more so.searched unfinished
          (record { looks = b.reads; batch = b.batch; made = gated_over on b.made });
      stands = b.stands;
    }

-- a search that has not ended with a batch is of a mode that goes on
pub goes_further : (m : Mode) (limit count : ℕ) (end : Bool) → is_finished m limit count end ≡ false → GoesOn m
goes_further Off limit count end is = absurd cc
goes_further Relaxed limit count end is = tt
goes_further Strict limit count end is = tt

-- ---- faults

-- a fault of a batch whose query has the index's length
pub ends_by : {over : Index → Type 0} {d : Desk} {old new : List Act} (long : ℕ) (fault : OpFault) → long ≡ d.params.bits
    → BatchFails over d old new long fault → GatedEnd over d old new fault × IsFreed over d new fault
ends_by long op.Memory fits b = (b.1, b.2)
ends_by long (op.Full blocks need) fits b = (b.1, b.2)
ends_by long (op.LogFull used size) fits b = (b.1, b.2)
ends_by long (op.Disk count) fits b = (b.1, b.2)
ends_by long (op.Dimensions got want) fits b = absurd (b.2 (b.0 ∙ fits ∙ sym b.1))

-- a fault ended the first batch
pub ends_first : {over later : Index → Type 0} {d : Desk} {old new : List Act} {w : Wanted} {limit : ℕ} (fault : OpFault)
    → ((base : Index) → over base → later base) → length w.query ≡ d.params.bits → BatchFails later d old new (length w.query) fault
    → SearchEnds over d old new w limit fault
ends_first {d = d} {w = w} fault on fits b =
    let e = ends_by (length w.query) fault fits b in
    SearchEnds.in_first (end_over on e.0) (freed_over on d e.1)

-- a fault ended a next batch
pub ends_next : {over later : Index → Type 0} {d e : Desk} {old mid new : List Act} {w v : Wanted} {limit : ℕ} {h : Held} {last : Option Dist}
    {hits : List Hit} {end : Bool} {reads : List ℕ} (fault : OpFault) → e ≡ d → v ≡ w → ((base : Index) → over base → later base)
    → length w.query ≡ d.params.bits → SoFar over d old mid w limit h last hits end reads → is_finished w.mode limit (length hits) end ≡ false
    → BatchFails later e mid new (length v.query) fault → SearchEnds over d old new w limit fault
ends_next {over} {later} {d} {e} {old} {mid} {new} {w} {v} {hits = hits} {end = end} {reads = reads} fault same kept on fits so unfinished b =
    let here : BatchFails later d mid new (length w.query) fault =
    subst (λ (k : Desk). BatchFails later k mid new (length w.query) fault) same
    (subst (λ (u : Wanted). BatchFails later e mid new (length u.query) fault) kept b) in
    let ends = ends_by (length w.query) fault fits here in
    SearchEnds.in_next mid so.standing hits end reads so.searched unfinished (end_over on ends.0) (freed_over on d ends.1)

-- no memory was found for the rows of a batch
pub ends_untold : {over : Index → Type 0} {d : Desk} {old new : List Act} {w : Wanted} {limit : ℕ} {h : Held} {last : Option Dist}
    {hits : List Hit} {end : Bool} {reads : List ℕ} (fault : OpFault) → fault ≡ op.Memory → SoFar over d old new w limit h last hits end reads
    → SearchEnds over d old new w limit fault
ends_untold {hits = hits} {end = end} {reads = reads} fault is so = SearchEnds.untold so.standing hits end reads so.searched is

-- a step's fault is none of a length
step_is_none : (f : StepFault) (got want : ℕ) → op.Dimensions got want ≡ op_fault f → ⊥
step_is_none step.Memory got want is = absurd cc
step_is_none (step.LogFull used size) got want is = absurd cc
step_is_none (step.Disk count) got want is = absurd cc

of_gated : {over : Index → Type 0} {d : Desk} {old new : List Act} (got want : ℕ) → GatedEnd over d old new (op.Dimensions got want) → ⊥
of_gated got want (GatedEnd.not_taken f) = step_is_none f.step_fault got want f.fault_is
of_gated got want (GatedEnd.given_back taken seen t b g) = step_is_none b.step_fault got want b.fault_is
of_gated got want (GatedEnd.not_given_back taken seen t m f memory) = step_is_none f.step_fault got want f.fault_is
of_gated got want (GatedEnd.failed_twice taken seen first t b f memory) = step_is_none f.step_fault got want f.fault_is

of_search : {over : Index → Type 0} {d : Desk} {old new : List Act} {w : Wanted} {limit : ℕ} (got want : ℕ)
    → SearchEnds over d old new w limit (op.Dimensions got want) → ⊥
of_search got want (SearchEnds.unmade is same) = absurd cc
of_search got want (SearchEnds.in_first g f) = of_gated got want g
of_search got want (SearchEnds.in_next mid standing hits end reads s u g f) = of_gated got want g
of_search got want (SearchEnds.untold standing hits end reads s is) = absurd cc

-- a search of a value of the index's length never ends by a length
pub no_length : {over : Index → Type 0} {d : Desk} {old new : List Act} {w : Wanted} {limit : ℕ} (fault : OpFault)
    → SearchEnds over d old new w limit fault → IsNoLength fault
no_length op.Memory e = tt
no_length (op.Full blocks need) e = tt
no_length (op.LogFull used size) e = tt
no_length (op.Disk count) e = tt
no_length (op.Dimensions got want) e = of_search got want e

-- ---- plans

-- what is asked by the numbers of a plan is what the command asks
pub planned : (bits : List Bool) (ef : Option ℕ) (on : Option Further) (plan : Plan) → IsPlanned ef on (Some plan)
    → wanted_by plan bits ≡ wanted_for bits ef on
planned bits ef on plan is =
    ap (λ (n : ℕ). record { query = bits; ef = n; mode = mode_of plan.mode; max = plan.max }) is.1
    ∙ ap (λ (m : Mode). record { query = bits; ef = number_or 40 ef; mode = m; max = plan.max }) is.2
    ∙ ap (λ (n : ℕ). record { query = bits; ef = number_or 40 ef; mode = mode_for on; max = n }) is.3

-- how a search by the numbers of a plan fails
pub search_fails : {over : Index → Type 0} {d : Desk} {old new : List Act} (bits : List Bool) (limit : ℕ) (ef : Option ℕ) (on : Option Further)
    (plan : Plan) (fault : OpFault) → IsPlanned ef on (Some plan) → length bits ≡ d.params.bits
    → SearchEnds over d old new (wanted_by plan bits) limit fault → Fails over d old new (Search bits limit ef on) fault
search_fails {over} {d} {old} {new} bits limit ef on plan fault is fits ends =
    (is.0, fits, subst (λ (w : Wanted). SearchEnds over d old new w limit fault) (planned bits ef on plan is) ends, no_length fault ends)
