-- Chains that end where there is no next block, and chains that grow by one block.
use Rattle.std.proofs.Common.{◌≡◌, ℕ, zero, suc, ◌+◌, ◌&&◌, ◌||◌, ◌==◌, not, Bool, true, false, List, [], ◌∷◌, ◌++◌, length, Option, Some, None, refl, sym, ap, ap₂, subst, ◌∙◌, arith}
use Rattle.std.specs.Prelude.{slice_get, if◌then◌else◌}
use Rattle.std.proofs.lemmas.Bool.{and_parts, or_parts, eqb-true, eq-eqb, ne_eqb}
use Rattle.std.proofs.lemmas.Option.{slice_get_within}
use Rattle.page_bytes.specs.Content.{Content}
use Rattle.page_redo.specs.PageTuples.{is_entries_page}
use Rattle.ivf_pages.specs.Standing.{is_among, has_entries, next_of, goes_to, followed, ends_at}
use Rattle.ivf_pages.specs.Walking.{IsEnded}
use Rattle.ivf_pages.proofs.Chains.{entries_there}

-- ---- the end of a list of blocks

pub ends_append : (b n : ℕ) (xs : List ℕ) → ends_at b (xs ++ n ∷ []) ≡ (n == b)
ends_append b n [] = refl
ends_append b n (x ∷ []) = refl
ends_append b n (x ∷ y ∷ xs) = ends_append b n (y ∷ xs)

pub ends_among : (b : ℕ) (xs : List ℕ) → ends_at b xs ≡ true → is_among b xs ≡ true
ends_among b [] is = absurd cc
ends_among b (x ∷ []) is = ap (λ (t : Bool). t || false) is
ends_among b (x ∷ y ∷ xs) is = either (x == b) (is_among b (y ∷ xs)) (ends_among b (y ∷ xs) is)
  where
    either : (s t : Bool) → t ≡ true → (s || t) ≡ true
    either true t is = refl
    either false t is = is

-- ---- where chains end

module _ (pages : List Content) where
  -- where a chain ends there is no next block
  abbrev pub EndsSo : List ℕ → Type 0
  EndsSo chain = (b : ℕ) → ends_at b chain ≡ true → next_of (slice_get pages b) ≡ None

  no_next : (block : ℕ) (o : Option ℕ) → o ≡ Some block → o ≡ None → ⊥
  no_next block o is none = absurd cc

  ended_at : (most : ℕ) (met : List ℕ) (block : ℕ) → goes_to pages met block ≡ true → EndsSo (followed pages (suc most) met (Some block))
      → IsEnded pages (suc most) met (Some block)
  ended_at zero met block goes ends =
      let alone : ends_at block (followed pages (suc zero) met (Some block)) ≡ true =
      ap (λ (g : Bool). ends_at block (if g then block ∷ [] else [])) goes ∙ eq-eqb block block refl in
      (goes, subst (λ (o : Option ℕ). IsEnded pages zero (block ∷ met) o) (sym (ends block alone)) tt)
  ended_at (suc m) met block goes ends = (goes, by_next (λ b. ended_at m (block ∷ met) b) (next_of (slice_get pages block)) refl)
    where
      rest : Option ℕ → List ℕ
      rest o = followed pages (suc m) (block ∷ met) o

      behind : ℕ → List ℕ
      behind b = followed pages m (b ∷ block ∷ met) (next_of (slice_get pages b))

      opened : (b : ℕ) → next_of (slice_get pages block) ≡ Some b → (z : ℕ) (t : Bool) → goes_to pages (block ∷ met) b ≡ t
          → ends_at z (followed pages (suc (suc m)) met (Some block)) ≡ ends_at z (block ∷ (if t then b ∷ behind b else []))
      opened b e z t is =
          ap (λ (g : Bool). ends_at z (if g then block ∷ rest (next_of (slice_get pages block)) else [])) goes
          ∙ ap (λ (o : Option ℕ). ends_at z (block ∷ followed pages (suc m) (block ∷ met) o)) e
          ∙ ap (λ (g : Bool). ends_at z (block ∷ (if g then b ∷ behind b else []))) is

      by_test : ((b : ℕ) → goes_to pages (block ∷ met) b ≡ true → EndsSo (followed pages (suc m) (block ∷ met) (Some b)) → IsEnded pages (suc m) (block ∷ met) (Some b))
          → (b : ℕ) → next_of (slice_get pages block) ≡ Some b → (t : Bool) → goes_to pages (block ∷ met) b ≡ t
          → IsEnded pages (suc m) (block ∷ met) (Some b)
      by_test later b e true is =
          later b is (λ z at. ends z (opened b e z true is ∙ sym (ap (λ (g : Bool). ends_at z (if g then b ∷ behind b else [])) is) ∙ at))
      by_test later b e false is =
          absurd (no_next b (next_of (slice_get pages block)) e (ends block (opened b e block false is ∙ eq-eqb block block refl)))

      by_next : ((b : ℕ) → goes_to pages (block ∷ met) b ≡ true → EndsSo (followed pages (suc m) (block ∷ met) (Some b)) → IsEnded pages (suc m) (block ∷ met) (Some b))
          → (o : Option ℕ) → next_of (slice_get pages block) ≡ o → IsEnded pages (suc m) (block ∷ met) (next_of (slice_get pages block))
      by_next later None e = subst (λ (o : Option ℕ). IsEnded pages (suc m) (block ∷ met) o) (sym e) tt
      by_next later (Some b) e =
          subst (λ (o : Option ℕ). IsEnded pages (suc m) (block ∷ met) o) (sym e) (by_test later b e (goes_to pages (block ∷ met) b) refl)

  -- so of a chain that has a block
  pub ended : (most : ℕ) (block x : ℕ) → is_among x (followed pages most [] (Some block)) ≡ true → EndsSo (followed pages most [] (Some block))
      → IsEnded pages most [] (Some block)
  ended zero block x within ends = absurd cc
  ended (suc most) block x within ends = by_test (goes_to pages [] block) refl
    where
      behind : List ℕ
      behind = followed pages most (block ∷ []) (next_of (slice_get pages block))

      by_test : (t : Bool) → goes_to pages [] block ≡ t → IsEnded pages (suc most) [] (Some block)
      by_test true is = ended_at most [] block is ends
      by_test false is =
          let none : false ≡ true = ap (λ (g : Bool). is_among x (if g then block ∷ behind else [])) (sym is) ∙ within in absurd cc

-- ---- chains that grow

-- The page of the last block names a new one, which is the next of all, and has entries and no next block.
pub record IsGrown (pages after : List Content) (last new : ℕ) (c d e : Content) : Type 0 where
  pub count : length after ≡ length pages + 1
  pub is_next : new ≡ length pages
  pub was : slice_get pages last ≡ Some c
  pub was_end : c.next ≡ None
  pub now : slice_get after last ≡ Some d
  pub fresh : slice_get after new ≡ Some e
  pub apart : (b : ℕ) → (last ≡ b → ⊥) → (new ≡ b → ⊥) → slice_get after b ≡ slice_get pages b
  pub kind_now : is_entries_page d.kind ≡ true
  pub next_now : d.next ≡ Some new
  pub items_now : d.items ≡ c.items
  pub kind_fresh : is_entries_page e.kind ≡ true
  pub next_fresh : e.next ≡ None

module _ (pages after : List Content) (last new : ℕ) (c d e : Content) (grown : IsGrown pages after last new c d e) where
  -- no block of a chain was the new one
  pub not_new : (block : ℕ) → has_entries (slice_get pages block) ≡ true → new ≡ block → ⊥
  not_new block has same =
      let there = entries_there (slice_get pages block) has in
      absurd (omega (arith, slice_get_within pages block there.0 there.1, same, grown.is_next))

  apart_from : (met : List ℕ) (block : ℕ) → goes_to pages met block ≡ true → (last ≡ block → ⊥) → slice_get after block ≡ slice_get pages block
  apart_from met block goes differs =
      grown.apart block differs (not_new block (and_parts (has_entries (slice_get pages block)) (not (is_among block met)) goes).0)

  -- a chain without the last block stays
  pub other_chain : (most : ℕ) (met : List ℕ) (to : Option ℕ) → IsEnded pages most met to → is_among last (followed pages most met to) ≡ false
      → followed after (suc most) met to ≡ followed pages most met to
  other_chain zero met None ends out = refl
  other_chain zero met (Some block) ends out = absurd ends
  other_chain (suc most) met None ends out = refl
  other_chain (suc most) met (Some block) (goes, ends) out =
      ap₂ (λ (t : Bool) (bs : List ℕ). if t then block ∷ bs else [])
      (ap (λ o. has_entries o && not (is_among block met)) same)
      (ap (λ o. followed after (suc most) (block ∷ met) (next_of o)) same ∙ other_chain most (block ∷ met) (next_of (slice_get pages block)) ends parts.1)
    where
      behind : List ℕ
      behind = followed pages most (block ∷ met) (next_of (slice_get pages block))

      parts : ((block == last) ≡ false) × (is_among last behind ≡ false)
      parts = or_parts (block == last) (is_among last behind) (ap (λ (g : Bool). is_among last (if g then block ∷ behind else [])) (sym goes) ∙ out)

      same : slice_get after block ≡ slice_get pages block
      same = apart_from met block goes (λ e. let t = eq-eqb block last (sym e) in let f = parts.0 in absurd cc)

  nothing_behind : (most : ℕ) (met : List ℕ) → followed after most met None ≡ []
  nothing_behind zero met = refl
  nothing_behind (suc most) met = refl

  nothing_was_behind : (most : ℕ) (met : List ℕ) → followed pages most met None ≡ []
  nothing_was_behind zero met = refl
  nothing_was_behind (suc most) met = refl

  -- behind the last block comes the new one
  new_behind : (most : ℕ) (met : List ℕ) → is_among new met ≡ false → followed after (suc most) met (Some new) ≡ new ∷ []
  new_behind most met out =
      ap₂ (λ (t : Bool) (bs : List ℕ). if t then new ∷ bs else [])
      (ap₂ (λ (s t : Bool). s && not t) (ap has_entries grown.fresh ∙ grown.kind_fresh) out)
      (ap (λ o. followed after most (new ∷ met) (next_of o)) grown.fresh ∙ ap (followed after most (new ∷ met)) grown.next_fresh ∙ nothing_behind most (new ∷ met))

  ends_behind : (block : ℕ) (rest : List ℕ) → ends_at last (block ∷ rest) ≡ true → (block == last) ≡ false → ends_at last rest ≡ true
  ends_behind block [] ends other = absurd cc
  ends_behind block (x ∷ xs) ends other = ends

  -- the chain that ends at the last block grows
  pub own_chain : (most : ℕ) (met : List ℕ) (to : Option ℕ) → IsEnded pages most met to → ends_at last (followed pages most met to) ≡ true
      → is_among new met ≡ false → followed after (suc most) met to ≡ followed pages most met to ++ new ∷ []
  own_chain zero met None ends at out = absurd cc
  own_chain zero met (Some block) ends at out = absurd ends
  own_chain (suc most) met None ends at out = absurd cc
  own_chain (suc most) met (Some block) (goes, ends) at out =
      by_block (λ ends at out. own_chain most (block ∷ met) (next_of (slice_get pages block)) ends at out) (block == last) refl ∙ sym (ap (λ (g : Bool). (if g then block ∷ behind else []) ++ new ∷ []) goes)
    where
      behind : List ℕ
      behind = followed pages most (block ∷ met) (next_of (slice_get pages block))

      has : has_entries (slice_get pages block) ≡ true
      has = (and_parts (has_entries (slice_get pages block)) (not (is_among block met)) goes).0

      not_met : not (is_among block met) ≡ true
      not_met = (and_parts (has_entries (slice_get pages block)) (not (is_among block met)) goes).1

      still_out : is_among new (block ∷ met) ≡ false
      still_out = ap₂ (λ (s t : Bool). s || t) (ne_eqb block new (λ e. not_new block has (sym e))) out

      by_block : (IsEnded pages most (block ∷ met) (next_of (slice_get pages block)) → ends_at last behind ≡ true → is_among new (block ∷ met) ≡ false
          → followed after (suc most) (block ∷ met) (next_of (slice_get pages block)) ≡ behind ++ new ∷ [])
          → (t : Bool) → (block == last) ≡ t → followed after (suc (suc most)) met (Some block) ≡ (block ∷ behind) ++ new ∷ []
      by_block later true is =
          let same : last ≡ block = sym (eqb-true block last is) in
          let now : slice_get after block ≡ Some d = ap (slice_get after) (sym same) ∙ grown.now in
          let was : slice_get pages block ≡ Some c = ap (slice_get pages) (sym same) ∙ grown.was in
          let ended_here : behind ≡ [] = ap (λ o. followed pages most (block ∷ met) (next_of o)) was ∙ ap (followed pages most (block ∷ met)) grown.was_end ∙ nothing_was_behind most (block ∷ met) in
          ap₂ (λ (t : Bool) (bs : List ℕ). if t then block ∷ bs else [])
          (ap₂ (λ (s t : Bool). s && t) (ap has_entries now ∙ grown.kind_now) not_met)
          (ap (λ o. followed after (suc most) (block ∷ met) (next_of o)) now ∙ ap (followed after (suc most) (block ∷ met)) grown.next_now ∙ new_behind most (block ∷ met) still_out)
          ∙ sym (ap (λ (bs : List ℕ). (block ∷ bs) ++ new ∷ []) ended_here)
      by_block later false is =
          let same = apart_from met block goes (λ e. let t = eq-eqb block last (sym e) in absurd cc) in
          let ends_there = ends_behind block behind (ap (λ (g : Bool). ends_at last (if g then block ∷ behind else [])) (sym goes) ∙ at) is in
          ap₂ (λ (t : Bool) (bs : List ℕ). if t then block ∷ bs else [])
          (ap (λ o. has_entries o && not (is_among block met)) same ∙ goes)
          (ap (λ o. followed after (suc most) (block ∷ met) (next_of o)) same ∙ later ends ends_there still_out)
