use Rattle.std.proofs.Common.{◌∙◌, sym, ap₂, ◌++◌, take-append-drop, List, ℕ, ◌*◌}
use Rattle.vec_tuples.proofs.RowPlaces.{none_behind, same_bytes, ten_none}
use Rattle.vec_tuples.proofs.rows.behind_none.Goals as goal

pub returns-then-eq : goal.returns-then-eq
returns-then-eq c =
    let cut = c.in_ok-front.ensures.cases in
    none_behind c.args.places _ c.args.bytes.now c.in_ok-front.front.now c.in_ok-front.rest.now c.requires ten_none
    (sym (ap₂ (λ (x y : List ℕ). x ++ y) cut.1 cut.2 ∙ take-append-drop (6 * c.args.places) c.args.bytes.now))
    (same_bytes _ _ (sym c.if-eq.ensures))
