-- What calls say that stopped, and reading values one after the other, as a loop does.
use Rattle.std.proofs.Common.{◌≡◌, ℕ, suc, ◌-◌, ◌+◌, ◌≤◌, ◌<◌, List, [], ◌∷◌, ◌++◌, refl, sym, ap, subst, ◌∙◌, append_assoc, arith}
use Rattle.std.proofs.lemmas.List.{append-nil}
use Rattle.byte_fields.specs.declared.stop.Cause.{Cause}
use Rattle.byte_fields.specs.declared.stop.Cause.TheVariants as causes
use Rattle.byte_fields.specs.declared.stop.Stop.{Stop}
use Rattle.byte_fields.specs.declared.stop.Halt.{Halt}
use Rattle.byte_fields.specs.declared.stop.Halt.TheVariants as halts
use Rattle.byte_fields.specs.Reading.{Read, Got, Bad, Short, Reader, ◌>>=◌, as_bad, times}
use Rattle.byte_fields.specs.Answers.{stopped_by, stopped, Halts}

-- what stopped so has no value, and is bad there where the end of the bytes is
stopped_bad : {A : Type 0} (cause : Cause) (left : ℕ) → as_bad {A = A} (stopped_by cause left) ≡ Bad left
stopped_bad causes.Bad left = refl
stopped_bad causes.Short left = refl

pub stops_bad : {A : Type 0} (read : Read A) (stop : Stop) → read ≡ stopped stop → as_bad read ≡ Bad stop.left
stops_bad read stop is = ap (λ r. as_bad r) is ∙ stopped_bad stop.cause stop.left

-- what a call that takes memory says, where it told a stop
pub halts_at : {A : Type 0} (read : Read A) (halt : Halt) (stop : Stop) → halt ≡ halts.Stopped stop → Halts halt read → read ≡ stopped stop
halts_at read halt stop is why = subst (λ h. Halts h read) is why

pub stops_at : {A : Type 0} (read : Read A) (stop : Stop) (cause : Cause) → stop.cause ≡ cause → read ≡ stopped stop → read ≡ stopped_by cause stop.left
stops_at read stop cause why is = is ∙ ap (λ k. stopped_by k stop.left) why

stopped_on : {A B : Type 0} (cause : Cause) (left : ℕ) (f : A → List ℕ → Read B) → (stopped_by cause left >>= f) ≡ stopped_by cause left
stopped_on causes.Bad left f = refl
stopped_on causes.Short left f = refl

pub stops_on : {A B : Type 0} (stop : Stop) (first : Read A) (f : A → List ℕ → Read B) → first ≡ stopped stop → (first >>= f) ≡ stopped stop
stops_on stop first f is = ap (λ r. r >>= f) is ∙ stopped_on stop.cause stop.left f

module _ {A : Type 0} where
  -- what was read before, and what is still read
  abbrev pub with_front : List A → Read (List A) → Read (List A)
  with_front front read = read >>= λ vs rest. Got (front ++ vs) rest

  pub all_read : (front : List A) (bytes : List ℕ) (read total : Read (List A)) → read ≡ Got [] bytes → with_front front read ≡ total → total ≡ Got front bytes
  all_read front bytes read total none so_far = sym so_far ∙ ap (λ r. with_front front r) none ∙ ap (λ (vs : List A). Got vs bytes) (append-nil front)

  pub regroup : (front more : List A) (read : Read (List A)) → with_front front (read >>= λ vs rest. Got (more ++ vs) rest) ≡ with_front (front ++ more) read
  regroup front more (Got vs rest) = ap (λ (ws : List A). Got ws rest) (sym (append_assoc front more vs))
  regroup front more (Bad left) = refl
  regroup front more (Short left) = refl

  -- One more step of a loop: `read` begins with a `first` that makes some more values, and goes on with `next`.
  module _ {B : Type 0} (first : Read B) (more : B → List A) (next : B → List ℕ → Read (List A)) (front : List A) (read total : Read (List A))
      (steps : read ≡ (first >>= λ v rest. next v rest >>= λ vs rest'. Got (more v ++ vs) rest')) (so_far : with_front front read ≡ total) where
    pub goes_on : (v : B) (rest : List ℕ) → first ≡ Got v rest → with_front (front ++ more v) (next v rest) ≡ total
    goes_on v rest is =
        sym (regroup front (more v) (next v rest)) ∙ ap (λ r. with_front front (r >>= λ v rest. next v rest >>= λ vs rest'. Got (more v ++ vs) rest')) (sym is)
        ∙ ap (λ r. with_front front r) (sym steps) ∙ so_far

    pub stops : (stop : Stop) → first ≡ stopped stop → total ≡ stopped stop
    stops stop is =
        sym so_far ∙ ap (λ r. with_front front r) steps
        ∙ stops_on stop _ (λ vs rest. Got (front ++ vs) rest) (stops_on stop first (λ v rest. next v rest >>= λ vs rest'. Got (more v ++ vs) rest') is)

  -- ---- so many of one reader

  times_next : (f : Reader A) (count i : ℕ) (bytes : List ℕ) → i < count → times f (count - i) bytes ≡ f bytes >>= λ v rest. times f (count - (i + 1)) rest >>= λ vs rest'. Got ((v ∷ []) ++ vs) rest'
  unfolding times
  times_next f count i bytes lt =
      let more : count - i ≡ suc (count - (i + 1)) = omega arith in
      rw more refl

  module _ (f : Reader A) (front : List A) (count i : ℕ) (bytes : List ℕ) (total : Read (List A)) (so_far : with_front front (times f (count - i) bytes) ≡ total) where
    pub times_goes_on : (v : A) (rest : List ℕ) → i < count → f bytes ≡ Got v rest → with_front (front ++ v ∷ []) (times f (count - (i + 1)) rest) ≡ total
    times_goes_on v rest lt is = goes_on (f bytes) (λ v. v ∷ []) (λ _. times f (count - (i + 1))) front (times f (count - i) bytes) total (times_next f count i bytes lt) so_far v rest is

    pub times_stops : (stop : Stop) → i < count → f bytes ≡ stopped stop → total ≡ stopped stop
    times_stops stop lt is = stops (f bytes) (λ v. v ∷ []) (λ _. times f (count - (i + 1))) front (times f (count - i) bytes) total (times_next f count i bytes lt) so_far stop is

    pub times_done : count ≤ i → total ≡ Got front bytes
    unfolding times
    times_done le =
        let none : count - i ≡ 0 = omega arith in
        all_read front bytes _ total (rw none refl) so_far
