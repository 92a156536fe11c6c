use Rattle.std.proofs.Common.{◌++◌, ◌∷◌, [], arith, rules, refl}
use Rattle.std.proofs.lemmas.Result.{err_from_is_err_and}
use Rattle.script_words.specs.Grammar.{Reads}
use Rattle.script_words.proofs.Forms.{counted_more, reads_none, goes_on, regrouped, breaks, ends}
use Rattle.script_words.proofs.script.read_lines.Goals as goal

pub loop-rest-init : goal.loop-rest-init
loop-rest-init c = record {
  texts = [];
  reads = reads_none c.args.form [] refl c.new.result.items c.new.ensures.items;
  parts = refl;
  few = omega arith;
}

pub loop-rest-preserved : goal.loop-rest-preserved
loop-rest-preserved c =
    let more : Reads c.args.form (c.loop-rest.invariant.texts ++ c.first_line.result.0.now ∷ []) c.take_line.new.front.commands.items c.take_line.new.front.next =
    c.in_ok-take_line.ensures c.loop-rest.invariant.texts c.loop-rest.invariant.reads in
    record {
      texts = c.loop-rest.invariant.texts ++ c.first_line.result.0.now ∷ [];
      reads = more;
      parts =
          regrouped c.args.form c.args.bytes.now c.first_line.result.1.now c.loop-rest.invariant.texts c.first_line.result.0.now
          (goes_on c.args.form c.args.bytes.now c.loop-rest.rest.now c.first_line.result.1.now c.loop-rest.invariant.texts c.first_line.result.0.now c.loop-rest.invariant.parts c.first_line.ensures.lines);
      few = omega (arith, counted_more c.args.form c.loop-rest.invariant.texts c.first_line.result.0.now _ _ _ _ c.loop-rest.invariant.reads more, c.loop-rest.invariant.few, c.first_line.ensures.shorter);
    }

pub returns-in_err-take_line : goal.returns-in_err-take_line
returns-in_err-take_line c =
    let p = err_from_is_err_and c.from_residual.result c.from_residual.ensures.1 in
    rw (p.1, p.2) (breaks c.args.form c.args.bytes.now c.first_line.result.1.now c.loop-rest.invariant.texts c.first_line.result.0.now c.loop-rest.front.commands.items c.loop-rest.front.next
    c.in_err-take_line.field-0.0 c.loop-rest.invariant.reads
    (goes_on c.args.form c.args.bytes.now c.loop-rest.rest.now c.first_line.result.1.now c.loop-rest.invariant.texts c.first_line.result.0.now c.loop-rest.invariant.parts c.first_line.ensures.lines)
    (c.in_err-take_line.ensures c.loop-rest.invariant.texts c.loop-rest.invariant.reads))

pub returns : goal.returns
returns c = ends c.args.form c.args.bytes.now c.loop-rest.rest.now c.loop-rest.invariant.texts c.loop-rest.front.commands.items c.loop-rest.front.next c.loop-rest.invariant.reads c.loop-rest.invariant.parts (search rules)
