-- Reading offsets that rise one after the other, as a loop does.
use Rattle.std.proofs.Common.{◌≡◌, ℕ, suc, ◌-◌, ◌+◌, ◌≤◌, ◌<◌, List, [], ◌∷◌, ◌++◌, refl, arith}
use Rattle.byte_fields.specs.declared.stop.Stop.{Stop}
use Rattle.byte_fields.specs.Reading.{Read, Got, ◌>>=◌}
use Rattle.byte_fields.specs.Answers.{stopped}
use Rattle.byte_fields.proofs.Loops.{with_front, all_read, goes_on, stops}
use Rattle.vec_event.specs.Reading.{two_bytes_above, rising}

rising_next : (low count i : ℕ) (bytes : List ℕ) → i < count → rising low (count - i) bytes ≡ two_bytes_above low bytes >>= λ v rest. rising v (count - (i + 1)) rest >>= λ vs rest'. Got ((v ∷ []) ++ vs) rest'
unfolding rising
rising_next low count i bytes lt =
    let more : count - i ≡ suc (count - (i + 1)) = omega arith in
    rw more refl

module _ (front : List ℕ) (low count i : ℕ) (bytes : List ℕ) (total : Read (List ℕ)) (so_far : with_front front (rising low (count - i) bytes) ≡ total) where
  pub rising_goes_on : (v : ℕ) (rest : List ℕ) → i < count → two_bytes_above low bytes ≡ Got v rest → with_front (front ++ v ∷ []) (rising v (count - (i + 1)) rest) ≡ total
  rising_goes_on v rest lt is = goes_on (two_bytes_above low bytes) (λ v. v ∷ []) (λ v. rising v (count - (i + 1))) front (rising low (count - i) bytes) total (rising_next low count i bytes lt) so_far v rest is

  pub rising_stops : (stop : Stop) → i < count → two_bytes_above low bytes ≡ stopped stop → total ≡ stopped stop
  rising_stops stop lt is = stops (two_bytes_above low bytes) (λ v. v ∷ []) (λ v. rising v (count - (i + 1))) front (rising low (count - i) bytes) total (rising_next low count i bytes lt) so_far stop is

  pub rising_done : count ≤ i → total ≡ Got front bytes
  unfolding rising
  rising_done le =
      let none : count - i ≡ 0 = omega arith in
      all_read front bytes _ total (rw none refl) so_far
