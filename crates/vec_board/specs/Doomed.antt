-- How many doomed nodes the pages of a graph have, counted on the pages.
use Rattle.std.specs.Prelude.{ℕ, if◌then◌else◌, List, sum_by, Option, Some, None}
use Rattle.vec_names.specs.declared.params.Params.{Params}
use Rattle.page_bytes.specs.Content.{Content}
use Rattle.vec_tuples.specs.declared.element.Element.{Element}
use Rattle.vec_tuples.specs.Reading.{element}
use Rattle.page_redo.specs.PageTuples.{in_whole}
use Rattle.graph_law.specs.Counting.{one_if_none}

-- 1 of an element that is not deleted and has no rows, and 0 of others
abbrev pub one_if_doomed : Option Element → ℕ
one_if_doomed None = 0
one_if_doomed (Some e) = if e.deleted then 0 else one_if_none e.ids.items

abbrev pub doomed_item : Params → List ℕ → ℕ
doomed_item p x = one_if_doomed (in_whole (element p x))

abbrev pub doomed_on : Params → Content → ℕ
doomed_on p c = sum_by (doomed_item p) c.items

abbrev pub doomed_in : Params → List Content → ℕ
doomed_in p pages = sum_by (doomed_on p) pages
