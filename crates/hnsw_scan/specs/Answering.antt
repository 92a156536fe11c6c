-- Answers, in the words of a scan.
use Rattle.std.specs.Prelude.{ℕ, List, map}
use Rattle.vec_names.specs.declared.tid.Tid.{Tid}
use Rattle.vec_names.specs.declared.heap_id.HeapId.{HeapId}
use Rattle.bit_dist.specs.declared.dist.Dist.{Dist}
use Rattle.graph_search.specs.Scan.{Given}
use Rattle.graph_search.specs.Scan as scan
use Rattle.hnsw_scan.specs.declared.answer.Answer.{Answer}
use Rattle.hnsw_scan.specs.declared.answer.Mode.{Mode}
use Rattle.hnsw_scan.specs.declared.answer.Mode.TheVariants as mode

abbrev pub given_of : Answer → Given
given_of a = record { id = a.id; dist = a.dist; at = a.at; version = a.version }

-- the rows that are answered
abbrev pub given_in : List Answer → List Given
given_in answers = map given_of answers

-- these rows of one element
abbrev pub rows_at : Tid → ℕ → Dist → List HeapId → List Given
rows_at at version dist ids = map (λ id. record { id = id; dist = dist; at = at; version = version }) ids

abbrev pub mode_of : Mode → scan.Mode
mode_of mode.Off = scan.Off
mode_of mode.Relaxed = scan.Relaxed
mode_of mode.Strict = scan.Strict
