-- What is so of a legal history by one act more at a time. A rule is given.
use Rattle.std.proofs.Common.{◌≡◌, ℕ, List, [], ◌∷◌, ◌++◌, take, slice_get, Some, sym, subst, append_assoc, append-nil}
use Rattle.vec_history.specs.declared.event.Act.{Act}
use Rattle.vec_history.specs.Legal.{IsLegalAfter, IsLegalBy}
use Rattle.vec_history.proofs.Prefixes.{cut_after, each_after, more_after}

module _ (May : List Act → Act → Type 0) where
  pub cut : (acts : List Act) (n : ℕ) → IsLegalBy May acts → IsLegalBy May (take n acts)
  cut acts n legal = cut_after May [] acts n legal

  pub more : (acts : List Act) (a : Act) → IsLegalBy May acts → May acts a → IsLegalBy May (acts ++ a ∷ [])
  more acts a legal may = more_after May [] acts a legal may

  pub allowed_at : (acts : List Act) (n : ℕ) (a : Act) → IsLegalBy May acts → slice_get acts n ≡ Some a → May (take n acts) a
  allowed_at acts n a legal is = each_after May [] acts n a legal is

  module _ (P : List Act → Type 0) (one : (acts : List Act) → IsLegalBy May acts → (a : Act) → May acts a → P acts → P (acts ++ a ∷ [])) where
    pub along : (before acts : List Act) → IsLegalBy May before → IsLegalAfter May before acts → P before → P (before ++ acts)
    along before [] was legal p = subst P (sym (append-nil before)) p
    along before (a ∷ acts) was legal p =
        subst P (append_assoc before (a ∷ []) acts) (along (before ++ a ∷ []) acts (more before a was legal.0) legal.1 (one before was a legal.0 p))

    pub by_acts : P [] → (acts : List Act) → IsLegalBy May acts → P acts
    by_acts start acts legal = along [] acts tt legal start
