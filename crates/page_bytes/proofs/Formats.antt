-- Formats in general: a first byte that may not stand is one that nothing of the format has.
use Rattle.std.proofs.Common.{◌≡◌, ℕ, suc, ◌<◌, ◌≤◌, ◌⊎◌, inl, inr, Bool, true, false, List, [], ◌∷◌, ◌++◌, length, take, refl, sym, ap, ◌∙◌, subst, arith}
use Rattle.std.proofs.lemmas.Bool.{false≢true}
use Rattle.page_bytes.specs.Format.{Format, first_bad}
use Rattle.page_bytes.specs.Format.Format.{Done, Byte}

-- bytes that have a format
unfoldable pub Matches : Format → List ℕ → Type 0
Matches Done bytes = bytes ≡ []
Matches (Byte allowed next) [] = ⊥
Matches (Byte allowed next) (b ∷ bytes) = (allowed b ≡ true) × Matches (next b) bytes

-- after each byte that may stand there is one that may come next
unfoldable pub Live : Format → Type 0
Live Done = Unit {0}
Live (Byte allowed next) = ((b : ℕ) × (allowed b ≡ true)) × ((b : ℕ) → allowed b ≡ true → Live (next b))

pub either : (b : Bool) → (b ≡ true) ⊎ (b ≡ false)
either true = inl refl
either false = inr refl

pub passes : (allowed : ℕ → Bool) (next : ℕ → Format) (b : ℕ) (bytes : List ℕ) → allowed b ≡ true → first_bad (Byte allowed next) (b ∷ bytes) ≡ suc (first_bad (next b) bytes)
unfolding first_bad
passes allowed next b bytes e = rw e refl

pub stops : (allowed : ℕ → Bool) (next : ℕ → Format) (b : ℕ) (bytes : List ℕ) → allowed b ≡ false → first_bad (Byte allowed next) (b ∷ bytes) ≡ 0
unfolding first_bad
stops allowed next b bytes e = rw e refl

-- what lives has bytes
pub lives : (format : Format) → Live format → (bytes : List ℕ) × Matches format bytes
unfolding Live Matches
lives Done l = ([], refl)
lives (Byte allowed next) l =
    let rest = lives (next l.0.0) (l.1 l.0.0 l.0.1) in
    (l.0.0 ∷ rest.0, (l.0.1, rest.1))

-- the bytes before the first bad one are those of some that have the format
pub begins : (format : Format) (bytes : List ℕ) → Live format → (rest : List ℕ) × Matches format (take (first_bad format bytes) bytes ++ rest)
unfolding Live Matches first_bad
begins Done bytes l = ([], refl)
begins (Byte allowed next) [] l = lives (Byte allowed next) l
begins (Byte allowed next) (b ∷ bytes) l = elim (either (allowed b)) [
  | inl may ↦
      let r = begins (next b) bytes (l.1 b may) in
      (r.0, rw (passes allowed next b bytes may) (may, r.1))
  | inr stop ↦
      let r = lives (Byte allowed next) l in
      (r.0, rw (stops allowed next b bytes stop) r.1)
]

-- and no bytes of the format have it
pub nothing_has : (format : Format) (bytes rest : List ℕ) → first_bad format bytes < length bytes → Matches format (take (suc (first_bad format bytes)) bytes ++ rest) → ⊥
unfolding Matches first_bad
nothing_has Done [] rest h m = absurd (omega arith)
nothing_has Done (b ∷ bytes) rest h m = absurd cc
nothing_has (Byte allowed next) [] rest h m = absurd (omega arith)
nothing_has (Byte allowed next) (b ∷ bytes) rest h m = elim (either (allowed b)) [
  | inl may ↦
      let p = passes allowed next b bytes may in
      nothing_has (next b) bytes rest (omega (arith, p)) (subst (λ (n : ℕ). Matches (next b) (take n bytes ++ rest)) p m.1)
  | inr stop ↦ absurd (false≢true (sym stop ∙ m.0))
]

pub bad_within : (format : Format) (bytes : List ℕ) → first_bad format bytes ≤ length bytes
unfolding first_bad
bad_within Done bytes = omega arith
bad_within (Byte allowed next) [] = omega arith
bad_within (Byte allowed next) (b ∷ bytes) = elim (either (allowed b)) [
  | inl may ↦ omega (arith, passes allowed next b bytes may, bad_within (next b) bytes)
  | inr stop ↦ omega (arith, stops allowed next b bytes stop)
]

-- what has the format has no bad byte
pub no_bad : (format : Format) (bytes : List ℕ) → Matches format bytes → first_bad format bytes ≡ length bytes
unfolding Matches first_bad
no_bad Done bytes m = ap length (sym m)
no_bad (Byte allowed next) [] m = absurd m
no_bad (Byte allowed next) (b ∷ bytes) m = passes allowed next b bytes m.0 ∙ ap suc (no_bad (next b) bytes m.1)
