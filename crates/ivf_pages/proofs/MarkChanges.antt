-- Marks that are changed one after the other.
use Rattle.std.proofs.Common.{◌≡◌, ℕ, Bool, List, Option, Some, None, refl, sym, ap, ◌∙◌, inl, inr}
use Rattle.std.specs.Prelude.{slice_get, slice_set, if◌then◌else◌}
use Rattle.std.specs.Option.{option_map}
use Rattle.std.proofs.lemmas.Bool.{cases_eq, eq-eqb, ne_eqb}
use Rattle.std.proofs.lemmas.List.{length-set}
use Rattle.page_redo.proofs.Others.{set_apart}
use Rattle.page_redo.proofs.Putting.{set_here}
use Rattle.ivf_pages.specs.declared.marks.Mark.{Mark}
use Rattle.ivf_pages.specs.Walking.{AreChanged, visited, visited_at, shortened, shortened_at}

-- one change after the other
pub after_two : (f g h : ℕ → Mark → Mark) (a b c : List Mark) → AreChanged f a b → AreChanged g b c
    → ((block : ℕ) (m : Mark) → slice_get a block ≡ Some m → g block (f block m) ≡ h block m) → AreChanged h a c
after_two f g h a b c x y same = record {
  count = y.count ∙ x.count;
  marks = λ block. y.marks block ∙ ap (option_map (g block)) (x.marks block) ∙ by_mark block (slice_get a block) refl;
}
  where
    by_mark : (block : ℕ) (o : Option Mark) → slice_get a block ≡ o → option_map (g block) (option_map (f block) o) ≡ option_map (h block) o
    by_mark block None is = refl
    by_mark block (Some m) is = ap (λ (n : Mark). Some n) (same block m is)

-- nothing is changed
pub unchanged : (f : ℕ → Mark → Mark) (a : List Mark) → ((block : ℕ) (m : Mark) → slice_get a block ≡ Some m → f block m ≡ m) → AreChanged f a a
unchanged f a same = record { count = refl; marks = λ block. by_mark block (slice_get a block) refl }
  where
    by_mark : (block : ℕ) (o : Option Mark) → slice_get a block ≡ o → o ≡ option_map (f block) o
    by_mark block None is = refl
    by_mark block (Some m) is = ap (λ (n : Mark). Some n) (sym (same block m is))

-- one mark is another
pub one_changed : (f : ℕ → Mark → Mark) (a : List Mark) (at : ℕ) (m x : Mark) → slice_get a at ≡ Some m → f at m ≡ x
    → ((block : ℕ) (n : Mark) → (at ≡ block → ⊥) → f block n ≡ n) → AreChanged f a (slice_set a at x)
one_changed f a at m x is new others = record {
  count = length-set a at x;
  marks = λ block. elim (cases_eq at block) as (λ _. slice_get (slice_set a at x) block ≡ option_map (f block) (slice_get a block)) [
    | inl same ↦
        ap (slice_get (slice_set a at x)) (sym same) ∙ set_here a at m x is ∙ ap (λ (n : Mark). Some n) (sym new) ∙ sym (ap (option_map (f at)) is)
        ∙ ap (λ (b : ℕ). option_map (f b) (slice_get a b)) same
    | inr apart ↦ set_apart a at block x apart ∙ by_mark block apart (slice_get a block)
  ];
}
  where
    by_mark : (block : ℕ) → (at ≡ block → ⊥) → (o : Option Mark) → o ≡ option_map (f block) o
    by_mark block apart None = refl
    by_mark block apart (Some n) = ap (λ (k : Mark). Some k) (sym (others block n apart))

-- ---- at one block

pub visit_there : (list at : ℕ) (a : List Mark) (m : Mark) → slice_get a at ≡ Some m → AreChanged (visited_at list at) a (slice_set a at (visited list m))
visit_there list at a m is =
    one_changed (visited_at list at) a at m (visited list m) is
    (ap (λ (t : Bool). if t then visited list m else m) (eq-eqb at at refl))
    (λ block n apart. ap (λ (t : Bool). if t then visited list n else n) (ne_eqb at block apart))

pub visit_nothing : (list at : ℕ) (a : List Mark) → slice_get a at ≡ None → AreChanged (visited_at list at) a a
visit_nothing list at a none =
    unchanged (visited_at list at) a (λ block n is.
    ap (λ (t : Bool). if t then visited list n else n)
    (ne_eqb at block (λ same. let both : None ≡ Some n = sym none ∙ ap (slice_get a) same ∙ is in absurd cc)))

pub shorten_there : (at : ℕ) (a : List Mark) (m : Mark) → slice_get a at ≡ Some m → AreChanged (shortened_at at) a (slice_set a at (shortened m))
shorten_there at a m is =
    one_changed (shortened_at at) a at m (shortened m) is
    (ap (λ (t : Bool). if t then shortened m else m) (eq-eqb at at refl))
    (λ block n apart. ap (λ (t : Bool). if t then shortened n else n) (ne_eqb at block apart))

pub shorten_nothing : (at : ℕ) (a : List Mark) → slice_get a at ≡ None → AreChanged (shortened_at at) a a
shorten_nothing at a none =
    unchanged (shortened_at at) a (λ block n is.
    ap (λ (t : Bool). if t then shortened n else n)
    (ne_eqb at block (λ same. let both : None ≡ Some n = sym none ∙ ap (slice_get a) same ∙ is in absurd cc)))
