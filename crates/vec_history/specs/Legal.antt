-- Legal histories. Which act may come after which acts is the rule of an index's kind.
use Rattle.std.specs.Prelude.{List, [], ◌∷◌, ◌++◌, ⊤}
use Rattle.vec_history.specs.declared.event.Act.{Act}

-- each of these acts may come after those before it, of which the first ones are given
abbrev pub IsLegalAfter : (List Act → Act → Type 0) → List Act → List Act → Type 0
IsLegalAfter May before [] = ⊤
IsLegalAfter May before (a ∷ acts) = May before a × IsLegalAfter May (before ++ a ∷ []) acts

-- each act may come after the acts before it
abbrev pub IsLegalBy : (List Act → Act → Type 0) → List Act → Type 0
IsLegalBy May acts = IsLegalAfter May [] acts
