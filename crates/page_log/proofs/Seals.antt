-- What a write of a seal, or behind it, leaves of the bytes of a log area.
use Rattle.std.proofs.Common.{◌≡◌, ℕ, ◌+◌, ◌≤◌, List, [], ◌∷◌, ◌++◌, length, get_or, take, drop, sym, ◌∙◌, ap, arith, append_assoc, length-append, take-append-drop}
use Rattle.std.proofs.lemmas.List.{take_at, drop_at, drop_more}
use Rattle.vec_outside.specs.Disk.{IsTorn, spliced}

module _ (front : List ℕ) (end : ℕ) (is_end : end ≡ length front) where
  -- what is written behind the seal leaves it
  pub torn_behind : (n seal : ℕ) (rest old new : List ℕ) → old ≡ front ++ seal ∷ rest → IsTorn (end + 1) n old new → new ≡ front ++ seal ∷ drop (end + 1) new
  torn_behind n seal rest old new is torn =
      let size : length (front ++ seal ∷ []) ≡ end + 1 = omega (arith, length-append front (seal ∷ [])) in
      let split : old ≡ (front ++ seal ∷ []) ++ rest = is ∙ sym (append_assoc front (seal ∷ []) rest) in
      let begins : take (end + 1) new ≡ front ++ seal ∷ [] = torn.before ∙ ap (λ (l : List ℕ). take (end + 1) l) split ∙ take_at (front ++ seal ∷ []) rest (end + 1) size in
      sym (take-append-drop (end + 1) new) ∙ ap (λ (l : List ℕ). l ++ drop (end + 1) new) begins ∙ append_assoc front (seal ∷ []) (drop (end + 1) new)

  -- a write of the seal leaves what stands before and behind it
  pub torn_seal : (seal : ℕ) (rest old new : List ℕ) → old ≡ front ++ seal ∷ rest → IsTorn end 1 old new → (other : ℕ) × (new ≡ front ++ other ∷ rest)
  torn_seal seal rest old new is torn =
      let size : length (front ++ seal ∷ []) ≡ end + 1 = omega (arith, length-append front (seal ∷ [])) in
      let split : old ≡ (front ++ seal ∷ []) ++ rest = is ∙ sym (append_assoc front (seal ∷ []) rest) in
      let long : end + 1 ≤ length old = omega (arith, ap length split, length-append (front ++ seal ∷ []) rest, size) in
      let begins : take end new ≡ front = torn.before ∙ ap (λ (l : List ℕ). take end l) is ∙ take_at front (seal ∷ rest) end (sym is_end) in
      let ends : drop (end + 1) new ≡ rest = torn.after ∙ ap (λ (l : List ℕ). drop (end + 1) l) split ∙ drop_at (front ++ seal ∷ []) rest (end + 1) size in (
        get_or new end 0,
        sym (take-append-drop end new) ∙ ap (λ (l : List ℕ). l ++ drop end new) begins
            ∙ ap (λ (l : List ℕ). front ++ l) (drop_more new end 0 (omega (arith, torn.no_shorter)) ∙ ap (λ (l : List ℕ). get_or new end 0 ∷ l) ends),
      )

  pub written_behind : (seal : ℕ) (rest bytes : List ℕ) → spliced (front ++ seal ∷ rest) (end + 1) bytes ≡ front ++ seal ∷ (bytes ++ drop (end + 1 + length bytes) (front ++ seal ∷ rest))
  written_behind seal rest bytes =
      let size : length (front ++ seal ∷ []) ≡ end + 1 = omega (arith, length-append front (seal ∷ [])) in
      let old = front ++ seal ∷ rest in
      let begins : take (end + 1) old ≡ front ++ seal ∷ [] = ap (λ (l : List ℕ). take (end + 1) l) (sym (append_assoc front (seal ∷ []) rest)) ∙ take_at (front ++ seal ∷ []) rest (end + 1) size in
      ap (λ (l : List ℕ). l ++ bytes ++ drop (end + 1 + length bytes) old) begins
      ∙ append_assoc (front ++ seal ∷ []) bytes (drop (end + 1 + length bytes) old)
      ∙ append_assoc front (seal ∷ []) (bytes ++ drop (end + 1 + length bytes) old)

  pub written_seal : (seal byte : ℕ) (rest : List ℕ) → spliced (front ++ seal ∷ rest) end (byte ∷ []) ≡ front ++ byte ∷ rest
  written_seal seal byte rest =
      let size : length (front ++ seal ∷ []) ≡ end + 1 = omega (arith, length-append front (seal ∷ [])) in
      let old = front ++ seal ∷ rest in
      let begins : take end old ≡ front = take_at front (seal ∷ rest) end (sym is_end) in
      let ends : drop (end + 1) old ≡ rest = ap (λ (l : List ℕ). drop (end + 1) l) (sym (append_assoc front (seal ∷ []) rest)) ∙ drop_at (front ++ seal ∷ []) rest (end + 1) size in
      ap (λ (l : List ℕ). l ++ (byte ∷ []) ++ drop (end + 1) old) begins
      ∙ ap (λ (l : List ℕ). front ++ (byte ∷ []) ++ l) ends
      ∙ append_assoc front (byte ∷ []) rest
