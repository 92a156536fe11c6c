use Rattle.std.proofs.Common.{ℕ, List, subst, sym}
use Rattle.script_words.specs.Commands.{IsBits}
use Rattle.script_words.proofs.Readings.{bits_utf8, bad_text}
use Rattle.script_words.proofs.numbers.read_value.Goals as goal

pub returns-in-Err : goal.returns-in-Err
returns-in-Err c bits is = c.in-Err.ensures.cases.0 (bits_utf8 c.args.word.now bits is)

pub returns-else-is_memory : goal.returns-else-is_memory
returns-else-is_memory c bits is =
    bad_text c.in-Ok.text.now c.in-Err-read_bits.fault (λ memory. let yes = c.is_memory.ensures.1 memory in absurd (cc (yes, c.if-is_memory.false))) c.in-Err-read_bits.ensures bits
    (subst (λ (l : List ℕ). IsBits l bits) (sym c.in-Ok.ensures.cases.0) is)
