use Rattle.std.proofs.Common.{◌≡◌, ◌⊎◌, inl, inr, true, false, List, [], ◌∷◌, refl, subst}
use Rattle.vec_graph.specs.declared.node.Node.{Node}
use Rattle.vec_graph.specs.Graph.{IsLive, IsDoomed}
use Rattle.vec_graph.proofs.law.law_live.Goals as goal

Cons : {X : Type 0} → List X → Type 0
Cons [] = ⊥
Cons (x ∷ xs) = Unit {0}

not_empty : {X : Type 0} (x : X) (xs : List X) → x ∷ xs ≡ [] → ⊥
unfolding Cons
not_empty x xs e = subst Cons e tt

one_of : (n : Node) → IsLive n ⊎ (IsDoomed n ⊎ (n.deleted ≡ true))
one_of n =
    elim n.deleted as (λ b. n.deleted ≡ b → IsLive n ⊎ (IsDoomed n ⊎ (n.deleted ≡ true))) [
      | true ↦ λ e. inr (inr e)
      | false ↦ λ e. elim n.ids as (λ ids. n.ids ≡ ids → IsLive n ⊎ (IsDoomed n ⊎ (n.deleted ≡ true))) [
        | [] ↦ λ f. inr (inl (record { not_deleted = e; no_ids = f }))
        | x ∷ xs ↦ λ f. inl (record { not_deleted = e; has_ids = λ g. not_empty x xs (subst (λ l. l ≡ []) f g) })
      ] refl
    ] refl

pub returns-clause-one : goal.returns-clause-one
returns-clause-one c = one_of
