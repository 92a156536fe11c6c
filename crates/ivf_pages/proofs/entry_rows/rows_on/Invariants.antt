use Rattle.std.proofs.Common.{◌≡◌, ◌++◌, drop}
use Rattle.std.specs.List.{list_all, filter_map}
use Rattle.ivf_pages.specs.Standing.{is_entry, row_in}
use Rattle.ivf_pages.proofs.entry_rows.rows_on.Given as goal

-- what is so of the items that are left is so of all, and their rows are left
abbrev pub invariant-loop-i : goal.invariant-loop-i
invariant-loop-i l =
    (list_all (is_entry l.params) l.page.items ≡ list_all (is_entry l.params) (drop l.i l.page.items))
    × (filter_map (row_in l.params) l.page.items ≡ l.rows ++ filter_map (row_in l.params) (drop l.i l.page.items))
