-- Parts of legal histories.
use Rattle.std.proofs.Common.{◌≡◌, ℕ, zero, suc, List, [], ◌∷◌, ◌++◌, take, drop, slice_get, Some, sym, subst, append_assoc, append-nil}
use Rattle.std.proofs.lemmas.Option.{same_Some, none-some}
use Rattle.vec_history.specs.declared.event.Act.{Act}
use Rattle.vec_history.specs.Legal.{IsLegalAfter}

module _ (May : List Act → Act → Type 0) where
  pub cut_after : (before acts : List Act) (n : ℕ) → IsLegalAfter May before acts → IsLegalAfter May before (take n acts)
  cut_after before acts zero l = tt
  cut_after before [] (suc n) l = tt
  cut_after before (a ∷ acts) (suc n) l = (l.0, cut_after (before ++ a ∷ []) acts n l.1)

  pub rest_after : (before acts : List Act) (n : ℕ) → IsLegalAfter May before acts → IsLegalAfter May (before ++ take n acts) (drop n acts)
  rest_after before acts zero l = subst (λ h. IsLegalAfter May h acts) (sym (append-nil before)) l
  rest_after before [] (suc n) l = tt
  rest_after before (a ∷ acts) (suc n) l =
      subst (λ h. IsLegalAfter May h (drop n acts)) (append_assoc before (a ∷ []) (take n acts)) (rest_after (before ++ a ∷ []) acts n l.1)

  pub each_after : (before acts : List Act) (n : ℕ) (a : Act) → IsLegalAfter May before acts → slice_get acts n ≡ Some a → May (before ++ take n acts) a
  each_after before [] n a l e = absurd (none-some a e)
  each_after before (b ∷ acts) zero a l e = subst (λ h. May h a) (sym (append-nil before)) (subst (May before) (same_Some b a e) l.0)
  each_after before (b ∷ acts) (suc n) a l e =
      subst (λ h. May h a) (append_assoc before (b ∷ []) (take n acts)) (each_after (before ++ b ∷ []) acts n a l.1 e)

  pub more_after : (before acts : List Act) (a : Act) → IsLegalAfter May before acts → May (before ++ acts) a → IsLegalAfter May before (acts ++ a ∷ [])
  more_after before [] a l may = (subst (λ h. May h a) (append-nil before) may, tt)
  more_after before (b ∷ acts) a l may =
      (l.0, more_after (before ++ b ∷ []) acts a l.1 (subst (λ h. May h a) (sym (append_assoc before (b ∷ []) acts)) may))
