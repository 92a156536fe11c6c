-- What an ask says beside its event gives it back.
use Rattle.std.proofs.Common.{◌≡◌, ℕ, List, [], ◌∷◌, length, refl, sym, subst, arith}
use Rattle.vec_history.specs.declared.event.Event.{Event}
use Rattle.page_words.specs.declared.making.Making.{Making}
use Rattle.page_words.specs.declared.making.Making.TheVariants as making
use Rattle.page_words.specs.Deciding.{events_of}
use Rattle.vec_steps.specs.declared.ask.Ask.{Ask}
use Rattle.vec_steps.specs.declared.ask.Ask.TheVariants as ask
use Rattle.vec_board.specs.Changes.{rest_of, given_back}

-- ---- the ask

same_back : (asked : Ask) (x e : Event) → given_back x (rest_of asked) ≡ asked → x ∷ [] ≡ e ∷ [] → given_back e (rest_of asked) ≡ asked
same_back asked x e back is = let same : x ≡ e = cc in subst (λ (y : Event). given_back y (rest_of asked) ≡ asked) same back

-- the event of an ask, with what the ask says beside it, is the ask
pub back_again : (asked : Ask) (m : Making) (e : Event) → events_of asked m ≡ e ∷ [] → given_back e (rest_of asked) ≡ asked
back_again (ask.Put block node) (making.At place) e is = same_back (ask.Put block node) _ e refl is
back_again (ask.PutNew node) (making.At place) e is = same_back (ask.PutNew node) _ e refl is
back_again (ask.Join at version id) making.Asked e is = same_back (ask.Join at version id) _ e refl is
back_again (ask.Link at list_at level version layer slot held to) (making.Slot number) e is =
    same_back (ask.Link at list_at level version layer slot held to) _ e refl is
back_again (ask.Relist at list_at version lists) making.Asked e is = same_back (ask.Relist at list_at version lists) _ e refl is
back_again (ask.Drop at version gone) making.Asked e is = same_back (ask.Drop at version gone) _ e refl is
back_again (ask.Mark at list_at version) making.Asked e is = same_back (ask.Mark at list_at version) _ e refl is
back_again (ask.Entry to level) making.Asked e is = same_back (ask.Entry to level) _ e refl is
back_again (ask.Hint block) making.Asked e is = same_back (ask.Hint block) _ e refl is
back_again (ask.Add block id bits) making.Asked e is = same_back (ask.Add block id bits) _ e refl is
back_again (ask.Extend list last id bits) (making.Behind block) e is = same_back (ask.Extend list last id bits) _ e refl is
back_again (ask.Cut block gone) making.Asked e is = same_back (ask.Cut block gone) _ e refl is
back_again (ask.Aim list block) making.Asked e is = same_back (ask.Aim list block) _ e refl is
back_again _ _ e is = absurd cc

-- a list of one
pub of_one : {A : Type 0} (xs : List A) → length xs ≡ 1 → (x : A) × (xs ≡ x ∷ [])
of_one [] is = absurd cc
of_one (x ∷ []) is = (x, refl)
of_one (x ∷ y ∷ xs) is = absurd (omega (arith, is))

pub one_event : (events : List Event) (x e : Event) → events ≡ x ∷ [] → events ≡ e ∷ [] → x ≡ e
one_event events x e one two = cc

pub both_back : (P : Event → ℕ → Type 0) (x e : Event) (m n : ℕ) → x ≡ e → m ≡ n → P e n → P x m
both_back P x e m n one two p = subst (λ (y : Event). P y m) (sym one) (subst (λ (k : ℕ). P e k) (sym two) p)
