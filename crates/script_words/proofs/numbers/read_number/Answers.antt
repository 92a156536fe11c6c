use Rattle.std.proofs.Common.{◌≡◌, sym, ap, ◌∙◌, subst, decimal}
use Rattle.std.specs.Prelude.{true, false}
use Rattle.std.specs.Str.{IsUtf8}
use Rattle.std.proofs.lemmas.Fmt.{IsAscii-decimal, parse-decimal}
use Rattle.std.proofs.lemmas.Str.{IsUtf8-from_ascii}
use Rattle.script_words.proofs.Spelling.{same_text}
use Rattle.script_words.proofs.numbers.read_number.Goals as goal

-- a decimal number is a text
pub returns-in-Err : goal.returns-in-Err
returns-in-Err c n small is =
    c.in-Err.ensures.cases.0 (subst IsUtf8 (sym is) (IsUtf8-from_ascii (decimal n) (IsAscii-decimal n small)))

-- and std reads it
pub returns-in-Err-parse : goal.returns-in-Err-parse
returns-in-Err-parse c n small is =
    let read = parse-decimal 64 n c.in-Ok.text.now c.parse.result small small (c.in-Ok.ensures.cases.0 ∙ is) c.parse.ensures.value.0 in
    absurd (cc (read, c.in-Err-parse.is))

-- as the number that it would print so
pub returns-else-eq : goal.returns-else-eq
returns-else-eq c n small is =
    let read = parse-decimal 64 n c.in-Ok.text.now c.parse.result small small (c.in-Ok.ensures.cases.0 ∙ is) c.parse.ensures.value.0 in
    let number : c.in-Ok-parse.number ≡ n = cc (read, c.in-Ok-parse.is) in
    let printed : c.as_bytes.result.now ≡ c.args.word.now = c.as_bytes.ensures.value ∙ c.format.ensures.text ∙ ap decimal number ∙ sym is in
    let differs : c.eq.result ≡ false = c.if-eq.false in
    let equals : c.eq.result ≡ true = c.eq.ensures ∙ same_text c.as_bytes.result.now c.args.word.now printed in
    absurd (cc (differs, equals))
