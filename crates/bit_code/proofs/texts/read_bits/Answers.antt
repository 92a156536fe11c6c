use Rattle.std.proofs.Common.{arith, ap, sym, ◌∙◌, ◌≡◌, List, ℕ, length}
use Rattle.bit_code.specs.Texts.{first_bad}
use Rattle.bit_code.proofs.PackedTexts.{front_of}
use Rattle.bit_code.proofs.texts.read_bits.Goals as goal

pub returns-in-Some : goal.returns-in-Some
returns-in-Some c =
    ap first_bad (sym (front_of c.min-end.result c.args.text.now c.as_bytes-text.result.now c.as_bytes-text.ensures.value c.min-end.ensures))
    ∙ sym c.first_bad_place.ensures ∙ c.in-Some.is

pub returns-then-end-text : goal.returns-then-end-text
returns-then-end-text c =
    let size : length c.as_bytes-text.result.now ≡ length c.args.text.now = ap (λ (l : List ℕ). length l) c.as_bytes-text.ensures.value in (
      omega (arith, size, c.min-end.ensures, c.if-end-text.true),
      ap first_bad (sym (front_of c.min-end.result c.args.text.now c.as_bytes-text.result.now c.as_bytes-text.ensures.value c.min-end.ensures))
          ∙ sym c.first_bad_place.ensures ∙ c.in_default.is,
    )
