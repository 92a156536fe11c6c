-- What a reading says of the tuples that the bytes spell as a whole.
use Rattle.std.proofs.Common.{◌≡◌, ◌≢◌, ℕ, Bool, true, false, eqb, ◌+◌, ◌-◌, ◌<◌, ◌≤◌, List, [], ◌∷◌, ◌++◌, length, take, refl, sym, ap, ◌∙◌, arith}
use Rattle.std.proofs.lemmas.Bool.{eqb-true}
use Rattle.std.proofs.lemmas.List.{append-nil, length-append, take_at}
use Rattle.byte_fields.specs.declared.stop.Stop.{Stop}
use Rattle.byte_fields.specs.Answers.{stopped}
use Rattle.byte_fields.specs.Reading.{Got, Bad, Reader, ◌>>=◌, as_bad}
use Rattle.byte_fields.proofs.Loops.{stops_bad}
use Rattle.vec_tuples.specs.Reading.{ended, whole}
use Rattle.std.specs.Prelude.{⊤}
use Rattle.byte_fields.proofs.FieldLaws.{AreBytes, IsField, got_is, got_not_bad}

-- that nothing is left, as a test tells it
pub none_left : (rest : List ℕ) (b : Bool) → b ≡ eqb (length rest) 0 → b ≡ true → rest ≡ []
none_left [] b told is = refl
none_left (x ∷ xs) b told is = absurd (omega (arith, eqb-true (length (x ∷ xs)) 0 (sym told ∙ is)))

pub some_left : (rest : List ℕ) (b : Bool) → b ≡ eqb (length rest) 0 → b ≡ false → rest ≢ []
some_left rest b told is none =
    let empty : eqb (length rest) 0 ≡ true = ap (λ (r : List ℕ). eqb (length r) 0) none in
    absurd cc

over : {A : Type 0} (v : A) (rest : List ℕ) → rest ≢ [] → ended v rest ≡ Bad (length rest)
over v [] not_all = absurd (not_all refl)
over v (b ∷ bs) not_all = refl

module _ {A : Type 0} {f : Reader A} {spell : A → List ℕ} {Fits : A → Type 0} {most : ℕ} (law : IsField ⊤ f spell Fits most) where
  alone : (w : A) (bytes : List ℕ) → Fits w → bytes ≡ spell w → f bytes ≡ Got w []
  alone w bytes fits text = ap f (text ∙ sym (append-nil (spell w))) ∙ law.again w [] fits

  module _ (bytes : List ℕ) (v : A) (rest : List ℕ) (bs : AreBytes bytes) (is : f bytes ≡ Got v rest) where
    lengths : length bytes ≡ length (spell v) + length rest
    lengths = ap (λ (b : List ℕ). length b) (law.takes bytes v rest bs is).0 ∙ length-append (spell v) rest

    pub rest_shorter : length rest ≤ length bytes
    rest_shorter = omega (arith, lengths)

    pub taken_small : length bytes - length rest ≤ most
    taken_small = omega (arith, lengths, law.small v (law.takes bytes v rest bs is).1)

    pub got_spelled : rest ≡ [] → Fits v × (bytes ≡ spell v)
    got_spelled none =
        let t = law.takes bytes v rest bs is in
        (t.1, t.0 ∙ ap (λ (r : List ℕ). spell v ++ r) none ∙ append-nil (spell v))

    pub got_read : (w : A) → Fits w → bytes ≡ spell w → v ≡ w
    got_read w fits text = (got_is v w rest [] (sym is ∙ alone w bytes fits text)).0

    pub got_exact : rest ≡ [] → whole f bytes ≡ Got v []
    got_exact none = ap (λ r. as_bad r >>= λ v rest. ended v rest) is ∙ ap (ended v) none

    pub over_read : rest ≢ [] → (w : A) → Fits w → bytes ≡ spell w → ⊥
    over_read not_all w fits text = not_all (got_is v w rest [] (sym is ∙ alone w bytes fits text)).1

    pub over_exact : rest ≢ [] → (length bytes - length rest ≤ length bytes) × (whole f bytes ≡ Bad (length bytes - (length bytes - length rest)))
    over_exact not_all =
        let back : length rest ≡ length bytes - (length bytes - length rest) = omega (arith, rest_shorter) in
        (omega arith, ap (λ r. as_bad r >>= λ v rest. ended v rest) is ∙ over v rest not_all ∙ ap (λ n. Bad n) back)

    pub over_start : (w : A) × Fits w × (more : List ℕ) × (spell w ≡ take (length bytes - length rest) bytes ++ more)
    over_start =
        let t = law.takes bytes v rest bs is in
        let size : length (spell v) ≡ length bytes - length rest = omega (arith, lengths) in
        (v, t.1, [], sym (ap (λ (b : List ℕ). take (length bytes - length rest) b ++ []) t.0 ∙ append-nil _ ∙ take_at (spell v) rest (length bytes - length rest) size))

  module _ (bytes : List ℕ) (stop : Stop) (bs : AreBytes bytes) (is : f bytes ≡ stopped stop) where
    bad : as_bad (f bytes) ≡ Bad stop.left
    bad = stops_bad (f bytes) stop is

    pub bad_inside : stop.left ≤ length bytes
    bad_inside = (law.near bytes stop.left bs bad).0

    pub bad_near : length bytes - stop.left < most
    bad_near = omega (arith, law.near bytes stop.left bs bad)

    pub bad_read : (w : A) → Fits w → bytes ≡ spell w → ⊥
    bad_read w fits text = got_not_bad (sym (ap (λ r. as_bad r) (alone w bytes fits text)) ∙ bad)

    pub bad_exact : (length bytes - stop.left ≤ length bytes) × (whole f bytes ≡ Bad (length bytes - (length bytes - stop.left)))
    bad_exact =
        let back : stop.left ≡ length bytes - (length bytes - stop.left) = omega (arith, bad_inside) in
        (omega arith, ap (λ r. r >>= λ v rest. ended v rest) bad ∙ ap (λ n. Bad n) back)

    pub bad_start : (w : A) × Fits w × (more : List ℕ) × (spell w ≡ take (length bytes - stop.left) bytes ++ more)
    bad_start = law.alive tt bytes stop.left bs bad
