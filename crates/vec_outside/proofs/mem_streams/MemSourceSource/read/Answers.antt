use Rattle.std.proofs.Common.{arith, ◌≡◌, ◌≤◌, ◌+◌, ◌-◌, ◌++◌, ℕ, List, length, take, drop, sym, ◌∙◌, ap, length-append, length-drop, take-append-drop}
use Rattle.std.proofs.lemmas.List.{drop-drop, drop_all, take_at, length-take-le}
use Rattle.vec_outside.proofs.mem_streams.MemSourceSource.read.Goals as goal

-- what was left is what was placed, and then what is left
next : (at n : ℕ) (bytes placed into : List ℕ) → at + n ≤ length bytes → placed ≡ take n (drop at bytes) → drop at bytes ≡ take n (placed ++ drop n into) ++ drop (at + n) bytes
next at n bytes placed into le is =
    let size : length placed ≡ n = ap length is ∙ length-take-le n (drop at bytes) (omega (arith, length-drop at bytes)) in
    sym (take-append-drop n (drop at bytes))
    ∙ ap (λ (l : List ℕ). l ++ drop n (drop at bytes)) (sym is ∙ sym (take_at placed (drop n into) n size))
    ∙ ap (λ (l : List ℕ). take n (placed ++ drop n into) ++ l) (drop-drop n at bytes)

pub returns-clause-bytes : goal.returns-clause-bytes
returns-clause-bytes c =
    let n = c.min-n.result in
    let bytes = c.args.self.now.bytes.items in
    let at = c.args.self.now.at in
    let e : at + n - at ≡ n = omega arith in
    let placed : c.copy_from_slice.new.self ≡ take n (drop at bytes) = c.copy_from_slice.ensures.after ∙ (λ i. take (e i) (drop at (c.deref.ensures.value i))) in (
      next at n bytes c.copy_from_slice.new.self c.args.into.now (omega arith) placed,
      λ none room. drop_all (at + n) bytes (omega (arith, length-append c.copy_from_slice.new.self (drop n c.args.into.now), length-drop n c.args.into.now, ap length placed, length-take-le n (drop at bytes), length-drop at bytes)),
    )
