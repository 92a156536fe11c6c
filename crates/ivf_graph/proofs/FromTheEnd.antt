-- Rows that go one by one, from the last offset down.
use Rattle.std.proofs.Common.{◌≡◌, ◌==◌, ℕ, suc, ◌+◌, ◌-◌, ◌<◌, Bool, true, false, cond, List, [], ◌∷◌, ◌++◌, take, drop, length, get_or, remove, sym, ap, ◌∙◌, append_assoc, drop-cons, arith}
use Rattle.std.specs.List.{list_any}
use Rattle.std.proofs.lemmas.List.{take_more, length-take-le}
use Rattle.std.proofs.lemmas.List.Edits.{remove-append_right}
use Rattle.ivf_graph.specs.Graph.{Row}
use Rattle.ivf_graph.specs.Effect.{others}

-- the rows of which those behind the first n have been looked at
abbrev pub looked_at : List ℕ → ℕ → List Row → List Row
looked_at gone n rows = take n rows ++ others gone (n + 1) (drop n rows)

-- before the row behind the first n is looked at
before : (gone : List ℕ) (n : ℕ) (rows : List Row) (d : Row) → n < length rows
    → looked_at gone (n + 1) rows ≡ take n rows ++ get_or rows n d ∷ others gone (n + 1 + 1) (drop (n + 1) rows)
before gone n rows d h =
    ap (λ l. l ++ others gone (n + 1 + 1) (drop (n + 1) rows)) (take_more rows n d h)
    ∙ append_assoc (take n rows) (get_or rows n d ∷ []) (others gone (n + 1 + 1) (drop (n + 1) rows))

-- and after
behind : (gone : List ℕ) (n : ℕ) (rows : List Row) (d : Row) (b : Bool) → n < length rows → list_any (λ g. g == n + 1) gone ≡ b
    → looked_at gone n rows ≡ take n rows ++ cond b (others gone (n + 1 + 1) (drop (n + 1) rows)) (get_or rows n d ∷ others gone (n + 1 + 1) (drop (n + 1) rows))
behind gone n rows d b h is =
    let one_more : suc n ≡ n + 1 = omega arith in
    ap (λ l. take n rows ++ others gone (n + 1) l) (drop-cons rows n d h ∙ ap (λ m. get_or rows n d ∷ drop m rows) one_more)
    ∙ ap (λ t. take n rows ++ cond t (others gone (n + 1 + 1) (drop (n + 1) rows)) (get_or rows n d ∷ others gone (n + 1 + 1) (drop (n + 1) rows))) is

pub stays : (gone : List ℕ) (n : ℕ) (rows : List Row) → n < length rows → list_any (λ g. g == n + 1) gone ≡ false → looked_at gone (n + 1) rows ≡ looked_at gone n rows
stays gone n [] h is = absurd (omega arith)
stays gone n (d ∷ rows) h is = before gone n (d ∷ rows) d h ∙ sym (behind gone n (d ∷ rows) d false h is)

first_goes : (r : Row) (rows : List Row) (k : ℕ) → k ≡ 0 → remove (r ∷ rows) k ≡ rows
first_goes r rows k is = ap (remove (r ∷ rows)) is

pub goes : (gone : List ℕ) (n : ℕ) (rows : List Row) → n < length rows → list_any (λ g. g == n + 1) gone ≡ true
    → remove (looked_at gone (n + 1) rows) n ≡ looked_at gone n rows
goes gone n [] h is = absurd (omega arith)
goes gone n (d ∷ rows) h is =
    let rest : List Row = others gone (n + 1 + 1) (drop (n + 1) (d ∷ rows)) in
    let long : length (take n (d ∷ rows)) ≡ n = length-take-le n (d ∷ rows) (omega arith) in
    ap (λ l. remove l n) (before gone n (d ∷ rows) d h)
    ∙ remove-append_right (take n (d ∷ rows)) (get_or (d ∷ rows) n d ∷ rest) n n long (omega arith)
    ∙ ap (λ l. take n (d ∷ rows) ++ l) (first_goes (get_or (d ∷ rows) n d) rest (n - n) (omega arith))
    ∙ sym (behind gone n (d ∷ rows) d true h is)
