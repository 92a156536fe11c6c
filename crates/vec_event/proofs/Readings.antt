-- What a reading of the bytes says of the events that they spell.
use Rattle.std.proofs.Common.{◌≡◌, ◌≢◌, ℕ, ◌+◌, ◌-◌, ◌<◌, ◌≤◌, ◌^◌, List, [], ◌∷◌, ◌++◌, length, drop, refl, sym, ap, ap₂, ◌∙◌, append_assoc, arith}
use Rattle.std.specs.List.{flat_map, AllByRecursion}
use Rattle.std.proofs.lemmas.List.Concat.{flat_map-cons}
use Rattle.std.proofs.lemmas.List.{append-nil, length-append, drop_at}
use Rattle.vec_history.specs.declared.event.Event.{Event}
use Rattle.vec_event.specs.Spelling.{spelling, IsTyped, IsWritable}
use Rattle.vec_event.specs.Reading.{event}
use Rattle.byte_fields.proofs.FieldLaws.{AreBytes, got_is, got_not_bad, got_not_short}
use Rattle.byte_fields.specs.Reading.{Got, Bad, Short, as_bad, byte_from, field}
use Rattle.vec_event.proofs.EachEvent.{event_field}

pub again : (e : Event) (bytes rest : List ℕ) → IsTyped e → IsWritable e → bytes ≡ spelling e ++ rest → event bytes ≡ Got e rest
again e bytes rest typed writable text = rw text (event_field.again e rest (typed, writable))

whole : (e : Event) (bytes : List ℕ) → IsTyped e → IsWritable e → spelling e ≡ bytes → event bytes ≡ Got e []
whole e bytes typed writable text = again e bytes [] typed writable (sym (append-nil (spelling e) ∙ text))

no_more : (rest more : List ℕ) → rest ++ more ≡ [] → more ≡ []
no_more [] more e = e
no_more (x ∷ rest) more e = absurd cc

module _ (bytes : List ℕ) (e : Event) (rest : List ℕ) (bs : AreBytes bytes) (is : event bytes ≡ Got e rest) where
  text : bytes ≡ spelling e ++ rest
  text = (event_field.takes bytes e rest bs is).0

  lengths : length bytes ≡ length (spelling e) + length rest
  lengths = ap (λ (b : List ℕ). length b) text ∙ length-append (spelling e) rest

  pub rest_shorter : length rest ≤ length bytes
  rest_shorter = omega (arith, lengths)

  counted : length bytes - length rest ≡ length (spelling e)
  counted = omega (arith, lengths)

  dropped : drop (length bytes - length rest) bytes ≡ rest
  dropped = ap (λ (b : List ℕ). drop (length bytes - length rest) b) text ∙ drop_at (spelling e) rest (length bytes - length rest) (sym counted)

  pub got_spelled : IsWritable e × IsTyped e × (bytes ≡ spelling e ++ drop (length bytes - length rest) bytes) × (length bytes - length rest ≡ length (spelling e))
  got_spelled =
      let fits = (event_field.takes bytes e rest bs is).1 in
      (fits.1, fits.0, text ∙ ap (λ (r : List ℕ). spelling e ++ r) (sym dropped), counted)

  pub got_read : (other : Event) (more : List ℕ) → IsTyped other → IsWritable other → bytes ≡ spelling other ++ more → ◌≡◌ {A = Event × ℕ} (e, length bytes - length rest) (other, length (spelling other))
  got_read other more typed writable spelled =
      let same = (got_is e other rest more (sym is ∙ again other bytes more typed writable spelled)).0 in
      λ i. (same i, (counted ∙ ap (λ x. length (spelling x)) same) i)

  pub got_cut : (other : Event) (more : List ℕ) → IsTyped other → IsWritable other → spelling other ≡ bytes ++ more → more ≢ [] → ⊥
  got_cut other more typed writable cut not_all =
      let fits = (event_field.takes bytes e rest bs is).1 in
      let longer : bytes ++ more ≡ spelling e ++ (rest ++ more) = ap (λ (b : List ℕ). b ++ more) text ∙ append_assoc (spelling e) rest more in
      let both = sym (again e (bytes ++ more) (rest ++ more) fits.0 fits.1 longer) ∙ whole other (bytes ++ more) typed writable cut in
      not_all (no_more rest more (got_is e other (rest ++ more) [] both).1)

  pub got_exact : (length bytes - length rest ≤ length bytes) × (event bytes ≡ Got e (drop (length bytes - length rest) bytes))
  got_exact = (omega arith, is ∙ ap (λ (r : List ℕ). Got e r) (sym dropped))

module _ (bytes : List ℕ) (left : ℕ) (bs : AreBytes bytes) (is : event bytes ≡ Bad left) where
  pub bad_inside : left ≤ length bytes
  bad_inside = (event_field.near bytes left bs (ap (λ r. as_bad r) is)).0

  pub bad_near : length bytes - left < 2 ^ 32
  bad_near = omega (arith, (event_field.near bytes left bs (ap (λ r. as_bad r) is)).1)

  pub bad_read : (other : Event) (more : List ℕ) → IsTyped other → IsWritable other → bytes ≡ spelling other ++ more → ⊥
  bad_read other more typed writable spelled = got_not_bad (sym (again other bytes more typed writable spelled) ∙ is)

  pub bad_cut : (other : Event) (more : List ℕ) → IsTyped other → IsWritable other → spelling other ≡ bytes ++ more → ⊥
  bad_cut other more typed writable cut = got_not_bad (sym (whole other (bytes ++ more) typed writable cut) ∙ event_field.stays bytes more left bs is)

  pub bad_exact : (length bytes - left ≤ length bytes) × (event bytes ≡ Bad (length bytes - (length bytes - left)))
  bad_exact =
      let back : length bytes - (length bytes - left) ≡ left = omega (arith, bad_inside) in
      (omega arith, is ∙ ap (λ n. Bad n) (sym back))

pub short_read : (bytes : List ℕ) (left : ℕ) → event bytes ≡ Short left → (other : Event) (more : List ℕ) → IsTyped other → IsWritable other → bytes ≡ spelling other ++ more → ⊥
short_read bytes left is other more typed writable spelled = got_not_short (sym (again other bytes more typed writable spelled) ∙ is)

-- ---- one reading

pub one_event : (a b : Event) (x y : List ℕ) → IsTyped a → IsWritable a → IsTyped b → IsWritable b → spelling a ++ x ≡ spelling b ++ y → (a ≡ b) × (x ≡ y)
one_event a b x y typed writable other_typed other_writable same =
    got_is a b x y (sym (again a (spelling a ++ x) x typed writable refl) ∙ again b (spelling a ++ x) y other_typed other_writable same)

nothing_read : event [] ≡ Short 0
unfolding event byte_from field
nothing_read = refl

not_empty : (e : Event) (rest : List ℕ) → IsTyped e → IsWritable e → [] ≡ spelling e ++ rest → ⊥
not_empty e rest typed writable same = got_not_short (sym (again e [] rest typed writable same) ∙ nothing_read)

abbrev Fit : List Event → Type 0
Fit es = AllByRecursion (λ e. IsTyped e × IsWritable e) es

pub one_list : (es fs : List Event) → Fit es → Fit fs → flat_map spelling es ≡ flat_map spelling fs → es ≡ fs
one_list [] [] fit other_fit same = refl
one_list [] (f ∷ fs) fit other_fit same = absurd (not_empty f (flat_map spelling fs) other_fit.0.0 other_fit.0.1 (same ∙ flat_map-cons spelling f fs))
one_list (e ∷ es) [] fit other_fit same = absurd (not_empty e (flat_map spelling es) fit.0.0 fit.0.1 (sym same ∙ flat_map-cons spelling e es))
one_list (e ∷ es) (f ∷ fs) fit other_fit same =
    let both = one_event e f (flat_map spelling es) (flat_map spelling fs) fit.0.0 fit.0.1 other_fit.0.0 other_fit.0.1 (sym (flat_map-cons spelling e es) ∙ same ∙ flat_map-cons spelling f fs) in
    ap₂ (λ (x : Event) (xs : List Event). x ∷ xs) both.0 (one_list es fs fit.1 other_fit.1 both.1)
