use Rattle.std.proofs.Common.{arith, ◌+◌, sym, ◌∙◌}
use Rattle.script_words.proofs.Spelling.{no_id_without_slash, id_parts, id_block, id_off, id_from, rest_of}
use Rattle.script_words.proofs.numbers.read_id.Goals as goal

pub returns-in-None : goal.returns-in-None
returns-in-None c id fits is = no_id_without_slash c.args.word.now id c.in-None.ensures is

pub returns-in-None-read_number : goal.returns-in-None-read_number
returns-in-None-read_number c id fits is =
    c.in-None-read_number.ensures id.block (omega (arith, fits.block_fits)) (id_parts c.args.word.now c.in-Some.at id c.in-Some.ensures fits is).0

pub returns-in-None-read_number-2 : goal.returns-in-None-read_number-2
returns-in-None-read_number-2 c id fits is =
    c.in-None-read_number-2.ensures id.off (omega (arith, fits.off_fits))
    (rest_of c.args.word.now (c.in-Some.at + 1) ∙ (id_parts c.args.word.now c.in-Some.at id c.in-Some.ensures fits is).1)

pub returns-then-block-ge4294967295 : goal.returns-then-block-ge4294967295
returns-then-block-ge4294967295 c id fits is =
    let read = c.in-Some-read_number.ensures in
    absurd (omega (arith, fits.block_fits, c.if-block-ge4294967295.true, id_block c.args.word.now c.in-Some.at c.in-Some-read_number.block id c.in-Some.ensures fits is read.0 read.1))

pub returns-then-off-eq0 : goal.returns-then-off-eq0
returns-then-off-eq0 c id fits is =
    let read = c.in-Some-read_number-2.ensures in
    absurd (omega (
      arith,
      fits.off_some,
      c.if-off-eq0.true,
      id_off c.args.word.now c.in-Some.at c.in-Some-read_number-2.off id c.in-Some.ensures fits is read.0 (sym (rest_of c.args.word.now (c.in-Some.at + 1)) ∙ read.1),
    ))

pub returns-then-off-gt65535 : goal.returns-then-off-gt65535
returns-then-off-gt65535 c id fits is =
    let read = c.in-Some-read_number-2.ensures in
    absurd (omega (
      arith,
      fits.off_fits,
      c.if-off-gt65535.true,
      id_off c.args.word.now c.in-Some.at c.in-Some-read_number-2.off id c.in-Some.ensures fits is read.0 (sym (rest_of c.args.word.now (c.in-Some.at + 1)) ∙ read.1),
    ))

pub returns : goal.returns
returns c = (
  record { block_fits = omega (arith, c.if-block-ge4294967295.false); off_fits = omega (arith, c.if-off-gt65535.false); off_some = omega (arith, c.if-off-eq0.false) },
  id_from c.args.word.now c.in-Some.at c.in-Some-read_number.block c.in-Some-read_number-2.off c.in-Some.ensures c.in-Some-read_number.ensures.1
      (sym (rest_of c.args.word.now (c.in-Some.at + 1)) ∙ c.in-Some-read_number-2.ensures.1),
)
