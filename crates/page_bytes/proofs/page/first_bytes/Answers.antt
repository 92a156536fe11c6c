use Rattle.std.proofs.Common.{◌≡◌, ℕ, length, min, take, ap, ◌∙◌, arith}
use Rattle.std.proofs.lemmas.List.{length-take-le}
use Rattle.page_bytes.specs.Spelling.{zeros}
use Rattle.page_bytes.specs.Splice.{spliced}
use Rattle.page_bytes.proofs.Verdicts.{front_written}
use Rattle.page_bytes.proofs.page.first_bytes.Goals as goal

pub returns-clause-same : goal.returns-clause-same
returns-clause-same c =
    let bytes = c.args.bytes.now in
    let n = c.min-count.result in
    let part = take n bytes in
    let written : c.put.new.bytes ≡ spliced (zeros 8192) 0 part = c.put.ensures in
    let long : min (length bytes) 8192 ≡ length part = omega (arith, c.min-count.ensures, length-take-le n bytes (omega (arith, c.min-count.ensures))) in
    ap (take (min (length bytes) 8192)) written ∙ front_written (zeros 8192) part (min (length bytes) 8192) long ∙ ap (λ (k : ℕ). take k bytes) c.min-count.ensures
