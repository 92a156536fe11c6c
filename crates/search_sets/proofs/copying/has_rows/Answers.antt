use Rattle.std.proofs.Common.{◌≡◌, ◌==◌, List, [], ◌∷◌, length, not, ap, ◌∙◌, refl, arith}
use Rattle.std.proofs.lemmas.Bool.Decides.{nat_tests}
use Rattle.vec_names.specs.declared.heap_id.HeapId.{HeapId}
use Rattle.graph_search.specs.Search.{has_some}
use Rattle.search_sets.proofs.copying.has_rows.Goals as goal

some_rows : (ids : List HeapId) → not (length ids == 0) ≡ has_some ids
some_rows [] = refl
some_rows (id ∷ ids) = grind (arith, nat_tests)

pub returns : goal.returns
returns c = ap not c.is_empty.ensures ∙ some_rows c.args.ids.now.items
