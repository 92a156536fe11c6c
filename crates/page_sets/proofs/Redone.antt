-- Redo on one block of a set, and on two.
use Rattle.std.proofs.Common.{◌≡◌, ◌≢◌, ◌⊎◌, ◌<◌, ℕ, ◌==◌, Bool, true, false, cond, List, [], ◌∷◌, length, slice_get, slice_set, Option, Some, None, Result, Ok, Err, OnOk, IsOk, refl, sym, ap, subst, ◌∙◌, inl, inr}
use Rattle.std.proofs.lemmas.Bool.{eq-eqb, eqb-true}
use Rattle.std.proofs.lemmas.List.{length-set}
use Rattle.std.proofs.lemmas.Option.{same_Some, none-some}
use Rattle.std.specs.Option.{option_and_then}
use Rattle.vec_names.specs.declared.params.Params.{Params}
use Rattle.vec_history.specs.declared.event.Event.{Event}
use Rattle.page_bytes.specs.Content.{Content}
use Rattle.page_redo.specs.declared.fault.RedoFault.{RedoFault}
use Rattle.page_redo.specs.Redo.{redone}
use Rattle.page_redo.proofs.Others.{set_apart}
use Rattle.page_redo.proofs.Putting.{set_here}
use Rattle.page_sets.specs.Sets.{PageMap, IsPartOf, IsChangedTo, IsRedone, redone_at}
use Rattle.page_sets.specs.declared.doing.Touched.{Touched}
use Rattle.page_sets.proofs.Blocks.{same_or_other}
use Rattle.page_sets.specs.Committing.{IsOf, HasThese, FitThese, AreTheseRedone, IsRedoneSet}

then_some : {A B : Type 0} (f : A → Option B) (o : Option A) (y : B) → option_and_then f o ≡ Some y → (x : A) × (o ≡ Some x) × (f x ≡ Some y)
then_some f None y e = absurd (none-some y e)
then_some f (Some x) y e = (x, refl, e)

module _ (p : Params) (number : ℕ) (event : Event) where
  -- ---- one block

  record OneStep (old new : PageMap) (all : List Content) (block : ℕ) (page : Content) : Type 0 where
    pub was : Content
    pub there : slice_get all block ≡ Some was
    pub made : redone event p 255 number block was ≡ Some page
    pub part : IsPartOf new (slice_set all block page)
    pub has : new block ≡ slice_get (slice_set all block page) block

  one_step : (old new : PageMap) (all : List Content) (block : ℕ) (page : Content) → IsPartOf old all → old block ≡ slice_get all block
      → redone_at old event p number block ≡ Some page → IsChangedTo old new block page → OneStep old new all block page
  one_step old new all block page part has makes changed =
      let k = then_some (redone event p 255 number block) (old block) page makes in
      let there : slice_get all block ≡ Some k.0 = sym has ∙ k.1 in
      let here = set_here all block k.0 page there in
      record {
        was = k.0;
        there = there;
        made = k.2;
        part = λ b q is. elim (same_or_other b block) as (λ _. slice_get (slice_set all block page) b ≡ Some q) [
          | inl same ↦ ap (slice_get (slice_set all block page)) same ∙ here ∙ sym changed.here ∙ ap new (sym same) ∙ is
          | inr differs ↦ set_apart all block b page (λ same. differs (sym same)) ∙ part b q (sym (changed.elsewhere b differs) ∙ is)
        ];
        has = changed.here ∙ sym here;
      }

  -- ---- one alone

  pub one_done : (old new : PageMap) (all : List Content) (t : Touched) (page : Content) → t.other ≡ None → IsPartOf old all → HasThese old all t
      → redone_at old event p number t.first ≡ Some page → IsChangedTo old new t.first page
      → IsRedoneSet old new all (slice_set all t.first page) p number event t
  one_done old new all t page alone part has makes changed =
      let s = one_step old new all t.first page part (has t.first (inl refl)) makes changed in
      let only : (b : ℕ) → IsOf t b → b ≡ t.first = λ b is. elim is [ inl same ↦ same | inr other ↦ absurd (none-some b (sym alone ∙ other)) ] in
      record {
        redone = record {
          count = length-set all t.first page;
          there = λ b q is was.
              let same = only b is in
              let here : q ≡ s.was = same_Some q s.was (sym was ∙ ap (slice_get all) same ∙ s.there) in
              ap (slice_get (slice_set all t.first page)) same ∙ set_here all t.first s.was page s.there ∙ sym s.made
              ∙ ap (λ n. redone event p 255 number n s.was) (sym same) ∙ ap (redone event p 255 number b) (sym here);
          elsewhere = λ b not_of. set_apart all t.first b page (λ same. not_of (inl (sym same)));
        };
        part = s.part;
        has = λ b is. let same = only b is in ap new same ∙ s.has ∙ ap (slice_get (slice_set all t.first page)) (sym same);
        elsewhere = λ b not_of. changed.elsewhere b (λ same. not_of (inl same));
      }

  -- ---- two

  pub two_done : (old mid new : PageMap) (all : List Content) (t : Touched) (other : ℕ) (page second : Content) → t.other ≡ Some other → other ≢ t.first
      → IsPartOf old all → HasThese old all t
      → redone_at old event p number t.first ≡ Some page → IsChangedTo old mid t.first page
      → redone_at mid event p number other ≡ Some second → IsChangedTo mid new other second
      → IsRedoneSet old new all (slice_set (slice_set all t.first page) other second) p number event t
  two_done old mid new all t other page second of apart part has makes changed makes_second changed_second =
      let s = one_step old mid all t.first page part (has t.first (inl refl)) makes changed in
      let between = slice_set all t.first page in
      let stays : slice_get between other ≡ slice_get all other = set_apart all t.first other page (λ same. apart (sym same)) in
      let has_other : mid other ≡ slice_get between other = changed.elsewhere other apart ∙ has other (inr of) ∙ sym stays in
      let r = one_step mid new between other second s.part has_other makes_second changed_second in
      let after = slice_set between other second in
      let is_other : (b : ℕ) → t.other ≡ Some b → b ≡ other = λ b is. same_Some b other (sym is ∙ of) in
      let first_now : slice_get after t.first ≡ Some page =
      set_apart between other t.first second apart ∙ set_here all t.first s.was page s.there in
      let second_now : slice_get after other ≡ Some second = set_here between other r.was second r.there in
      let there : (b : ℕ) (q : Content) → IsOf t b → slice_get all b ≡ Some q → slice_get after b ≡ redone event p 255 number b q = λ b q is was. elim is [
        | inl same ↦
            let here : q ≡ s.was = same_Some q s.was (sym was ∙ ap (slice_get all) same ∙ s.there) in
            ap (slice_get after) same ∙ first_now ∙ sym s.made ∙ ap (λ n. redone event p 255 number n s.was) (sym same) ∙ ap (redone event p 255 number b) (sym here)
        | inr names ↦
            let same = is_other b names in
            let here : q ≡ r.was = same_Some q r.was (sym was ∙ ap (slice_get all) same ∙ sym stays ∙ r.there) in
            ap (slice_get after) same ∙ second_now ∙ sym r.made ∙ ap (λ n. redone event p 255 number n r.was) (sym same) ∙ ap (redone event p 255 number b) (sym here)
      ] in
      record {
        redone = record {
          count = length-set between other second ∙ length-set all t.first page;
          there = there;
          elsewhere = λ b not_of.
              set_apart between other b second (λ same. not_of (inr (of ∙ ap Some same)))
              ∙ set_apart all t.first b page (λ same. not_of (inl (sym same)));
        };
        part = r.part;
        has = λ b is. elim is [
          | inl same ↦ ap new same ∙ changed_second.elsewhere t.first (λ e. apart (sym e)) ∙ changed.here ∙ sym first_now ∙ ap (slice_get after) (sym same)
          | inr names ↦ let same = is_other b names in ap new same ∙ r.has ∙ ap (slice_get after) (sym same)
        ];
        elsewhere = λ b not_of.
            changed_second.elsewhere b (λ same. not_of (inr (of ∙ ap Some (sym same))))
            ∙ changed.elsewhere b (λ same. not_of (inl same));
      }

  -- ---- it fits

  fits_one : (set : PageMap) (all : List Content) (t : Touched) (block : ℕ) → set block ≡ slice_get all block → IsOf t block → FitThese all p number event t
      → redone_at set event p number block ≡ None → ⊥
  fits_one set all t block has is fit none =
      let k = fit block is in
      none-some k.2 (sym none ∙ ap (option_and_then (redone event p 255 number block)) (has ∙ k.1) ∙ k.3)

  pub first_fits : (set : PageMap) (all : List Content) (t : Touched) → HasThese set all t → FitThese all p number event t
      → redone_at set event p number t.first ≡ None → ⊥
  first_fits set all t has fit none = fits_one set all t t.first (has t.first (inl refl)) (inl refl) fit none

  pub second_fits : (old mid : PageMap) (all : List Content) (t : Touched) (other : ℕ) (page : Content) → t.other ≡ Some other → other ≢ t.first
      → HasThese old all t → FitThese all p number event t → IsChangedTo old mid t.first page → redone_at mid event p number other ≡ None → ⊥
  second_fits old mid all t other page of apart has fit changed none =
      fits_one mid all t other (changed.elsewhere other apart ∙ has other (inr of)) (inr of) fit none

  -- ---- what the second redo answers

  pub second_done : (old mid new : PageMap) (all : List Content) (t : Touched) (other : ℕ) (page : Content) → t.other ≡ Some other → other ≢ t.first
      → IsPartOf old all → HasThese old all t → redone_at old event p number t.first ≡ Some page → IsChangedTo old mid t.first page
      → (r : Result (Unit {0}) RedoFault) → IsRedone mid new event p number other r
      → OnOk r ((after : List Content) × IsRedoneSet old new all after p number event t)
  second_done old mid new all t other page of apart part has makes changed (Ok done) k =
      (slice_set (slice_set all t.first page) other k.0, two_done old mid new all t other page k.0 of apart part has makes changed k.1 k.2)
  second_done old mid new all t other page of apart part has makes changed (Err fault) k = tt

  pub second_ok : (old mid new : PageMap) (all : List Content) (t : Touched) (other : ℕ) (page : Content) → t.other ≡ Some other → other ≢ t.first
      → HasThese old all t → FitThese all p number event t → IsChangedTo old mid t.first page
      → (r : Result (Unit {0}) RedoFault) → IsRedone mid new event p number other r → IsOk r
  second_ok old mid new all t other page of apart has fit changed (Ok done) k = cc
  second_ok old mid new all t other page of apart has fit changed (Err fault) k = absurd (second_fits old mid all t other page of apart has fit changed k.0)
