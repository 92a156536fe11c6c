use Rattle.std.proofs.Common.{◌≡◌, ℕ, ◌+◌, ◌-◌, ◌≤◌, List, ◌++◌, length, take, drop, replicate, ap, arith}
use Rattle.std.proofs.lemmas.List.{drop-drop, length-drop, length-take-le, length-replicate}
use borrow.Rule.Slice.PartMut.{put_mid}
use Rattle.page_bytes.specs.Spelling.{zeros}
use Rattle.page_bytes.specs.Splice.{spliced}
use Rattle.page_bytes.proofs.drops.clear.Goals as goal

cleared : (xs ys : List ℕ) (a k : ℕ) → a + k ≤ length xs → ys ≡ replicate (length (take k (drop a xs))) 0 → put_mid a k xs ys ≡ spliced xs a (zeros k)
unfolding spliced
cleared xs ys a k h e =
    let len : length (take k (drop a xs)) ≡ k = length-take-le k (drop a xs) (omega (arith, length-drop a xs)) in
    let wide : a + length (zeros k) ≡ a + k = omega (arith, length-replicate {A = ℕ} k 0) in
    rw (e, len, wide) (ap (λ (t : List ℕ). take a xs ++ (zeros k ++ t)) (drop-drop k a xs))

pub returns : goal.returns
returns c =
    cleared c.args.bytes.now c.fill.new.self c.args.from (c.args.to - c.args.from) (omega arith) (c.fill.ensures.after (λ _ e. e))
