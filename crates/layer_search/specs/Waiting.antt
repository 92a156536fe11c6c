-- What lasts of that which a search holds: the places of its elements, and the length of their values.
use Rattle.std.specs.Prelude.{◌≡◌, ℕ, ⊤, Bool, true, false, List, [], ◌∷◌, map, length}
use Rattle.std.specs.List.{AllByRecursion}
use Rattle.vec_names.specs.declared.tid.Tid.{Tid}
use Rattle.neighbour_pick.specs.declared.found.Found.{Found}
use Rattle.graph_search.specs.Scan.{Held, is_known_at}
use Rattle.search_sets.specs.declared.frontier.Frontier.{Frontier}
use Rattle.search_sets.specs.Standing.{IsWhole, held}

-- the elements that were found and not taken
abbrev pub found_held : Held → List Found
found_held h = map (λ p. p.0) h.found

-- each stands at a place of its own
abbrev pub AreApart : List Found → Type 0
AreApart [] = ⊤
AreApart (e ∷ es) = (is_known_at es e.at ≡ false) × AreApart es

-- each stands at a place of its own, which was named
pub record AreNamedApart (is_named : Tid → Bool) (es : List Found) : Type 0 where
  pub apart : AreApart es
  pub named : (at : Tid) → is_known_at es at ≡ true → is_named at ≡ true

-- the value of each has so many places
abbrev pub AreLong : ℕ → List Found → Type 0
AreLong n es = AllByRecursion (λ e. length e.bits ≡ n) es

-- those that wait, and those that were found, are so
pub record IsSteady (n : ℕ) (h : Held) : Type 0 where
  pub waiting : AreNamedApart h.is_named h.unexpanded
  pub found : AreNamedApart h.is_named (found_held h)
  pub waiting_long : AreLong n h.unexpanded
  pub found_long : AreLong n (found_held h)

-- a frontier with values of so many places
pub record IsReady (n : ℕ) (f : Frontier) : Type 0 where
  pub whole : IsWhole f
  pub steady : IsSteady n (held f)
