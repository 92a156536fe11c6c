-- The looks of a first batch are reads of a desk that holds Scan, so that the law of the graph
-- holds of them.
use Rattle.std.proofs.Common.{◌≡◌, ℕ, zero, suc, ◌+◌, ◌≤◌, Bool, List, [], ◌∷◌, length, take, map, slice_get, Some, sym, subst, arith}
use Rattle.std.proofs.lemmas.Option.{none-some, same_Some, slice_get_within}
use Rattle.vec_names.specs.declared.params.Ops.{Ops}
use Rattle.vec_history.specs.declared.event.Act.{Act}
use Rattle.vec_history.specs.declared.gate.Gate.TheVariants.{Scan}
use Rattle.vec_history.specs.declared.gate.Hold.TheVariants.{Shared}
use Rattle.vec_history.specs.Acts.{IsRising}
use Rattle.vec_history.specs.Gates.{HoldsSince}
use Rattle.vec_graph.specs.declared.graph.Graph.{Graph}
use Rattle.vec_graph.specs.Legal.{IsLegal}
use Rattle.vec_graph.specs.Shaped.{IsShaped}
use Rattle.vec_graph.specs.Sound.{IsSound}
use Rattle.graph_search.specs.Reads.{Look, Answer}
use Rattle.graph_search.specs.Scan.{FirstBatch, Given, Standing}
use Rattle.step_gates.proofs.Holding.{hold_lasts}
use Rattle.scan_law.specs.Reading.{IsFirstBatchUnder}
use Rattle.scan_law.proofs.Courses.{first_told, first_not_marked}
use Rattle.vec_steps.specs.Index.{Index, OfNodes}
use Rattle.vec_steps.specs.Desks.{Desk}
use Rattle.vec_steps.proofs.Following.{acts_longer, lower}
use Rattle.vec_steps.proofs.Lasting.{front_is}
use Rattle.hnsw_scan.specs.Gated.{MadeGated}
use Rattle.hnsw_scan.specs.Unharmed.{AreUnharmed}
use Rattle.hnsw_scan.proofs.Quiet.{only_looks, quiet_looks}
use Rattle.hnsw_scan.proofs.Sight.{gated_reads}

rising_within : (low : ℕ) (ns : List ℕ) (high i n : ℕ) → IsRising low ns high → slice_get ns i ≡ Some n → n ≤ high
rising_within low [] high i n r is = absurd (none-some n is)
rising_within low (m ∷ ns) high zero n r is = subst (λ (x : ℕ). x ≤ high) (same_Some m n is) (below m ns high r.1)
  where
    below : (low : ℕ) (ns : List ℕ) (high : ℕ) → IsRising low ns high → low ≤ high
    below low [] high r = r
    below low (m ∷ ns) high r = let rest : m ≤ high = below m ns high r.1 in omega (arith, r.0, rest)
rising_within low (m ∷ ns) high (suc i) n r is = rising_within m ns high i n r.1 is

module _ {over : Index → Type 0} {d : Desk} {old new : List Act} {now : List ℕ} {reads : List (Look × Answer)} (m : MadeGated over d old new [] now reads) where
  held_until : HoldsSince (take (length m.seen) new) d.number Scan Shared m.takes.at
  held_until =
      let q = quiet_looks (only_looks m.looks) in
      subst (λ (l : List Act). HoldsSince l d.number Scan Shared m.takes.at) (sym (front_is m.gives.does.acts))
      (hold_lasts q.acts Scan (q.quiet Scan) Shared m.takes.at m.takes.holds)

  rises_until : IsRising (m.takes.at + 1) now (length m.seen)
  rises_until =
      let within = slice_get_within m.taken m.takes.at _ m.takes.holds.taken in
      subst (λ (ps : List ℕ). IsRising (m.takes.at + 1) ps (length m.seen)) (sym m.looks.is.traced)
      (lower (m.takes.at + 1) (length m.taken) (map (λ s. s.0) m.looks.course) (length m.seen) (omega (arith, within)) m.looks.does.rises)

  first_under : (base : Graph) → over (OfNodes base) → (ops : Ops) (query : List Bool) (ef : ℕ) (given : List Given) (end : Bool)
      (standing : Standing) → FirstBatch ops query ef reads given end standing
      → IsFirstBatchUnder base new d.number m.takes.at (length m.seen) now reads
  first_under base o ops query ef given end standing batch = record {
    ops = ops;
    query = query;
    ef = ef;
    given = given;
    end = end;
    now = standing;
    batch = batch;
    under = record {
      hold = Shared;
      holds = held_until;
      reached = acts_longer m.gives.does.acts;
      rising = rises_until;
      answered = gated_reads m base o;
    };
  }

  pub unharmed : (base : Graph) → over (OfNodes base) → IsShaped base → IsSound base → IsLegal base new → (ops : Ops) (query : List Bool)
      (ef : ℕ) (given : List Given) (end : Bool) (standing : Standing) → FirstBatch ops query ef reads given end standing
      → AreUnharmed new now reads
  unharmed base o shaped sound legal ops query ef given end standing batch =
      let first = first_under base o ops query ef given end standing batch in
      record {
        not_gone = first_told base shaped sound new legal d.number m.takes.at (length m.seen) now reads first;
        not_marked = λ i j named read look told at is here has is_read k marker version list_at from to mark.
            let low = rising_within (m.takes.at + 1) now (length m.seen) j read rises_until is_read in
            first_not_marked base shaped sound new legal d.number m.takes.at (length m.seen) now reads first i named look told at is here has
            k marker version list_at from (omega (arith, to, low)) mark;
      }
