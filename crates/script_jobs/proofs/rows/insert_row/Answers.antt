use Rattle.std.proofs.Common.{List, inl, length, sym, subst}
use Rattle.vec_names.specs.Levels.{level_of}
use Rattle.vec_history.specs.declared.event.Act.{Act}
use Rattle.vec_history.specs.declared.gate.Gate.TheVariants.{Update}
use Rattle.vec_steps.specs.declared.fault.OpFault.{OpFault}
use Rattle.vec_steps.specs.Calls.{HoldsNone}
use Rattle.hnsw_insert.specs.Whole.{FailsSo}
use Rattle.script_words.specs.declared.reply.Reply.{Reply}
use Rattle.script_jobs.specs.Jobs.{InsertsRow}
use Rattle.script_jobs.proofs.Replied.{inserts_row}
use Rattle.script_jobs.proofs.NoGate.{holds_none}
use Rattle.script_jobs.proofs.rows.insert_row.Goals as goal

pub insert-requires-clause-free : goal.insert-requires-clause-free
insert-requires-clause-free g c = c.requires.gates Update

pub returns-in-Ok-clause-ok : goal.returns-in-Ok-clause-ok
returns-in-Ok-clause-ok g c =
    let S = g.S.Steps in
    let s0 = c.args.steps.now in
    inl (subst (λ (r : Reply). InsertsRow (S.stands s0) (S.desk s0) (S.seen s0) (S.seen c.insert.new.steps) c.args.id c.args.bits.now c.args.word
    c.in-Ok.inserted.trace.reads r) (sym c.reply_of.ensures)
    (inserts_row c.args.id c.args.bits.now c.args.word c.in-Ok.inserted c.in-Ok.ensures.fits c.in-Ok.ensures.ok))

pub returns-in-Ok-clause-gates : goal.returns-in-Ok-clause-gates
returns-in-Ok-clause-gates g c = holds_none c.requires.gates c.in-Ok.ensures.others c.in-Ok.ensures.free

pub returns-in-Err-Dimensions-clause-gates : goal.returns-in-Err-Dimensions-clause-gates
returns-in-Err-Dimensions-clause-gates g c =
    let S = g.S.Steps in
    let s0 = c.args.steps.now in
    let fails = subst (λ (e : OpFault). FailsSo (S.stands s0) (S.desk s0) (S.seen s0) (S.seen c.insert.new.steps) (length c.args.bits.now)
    (level_of c.args.word (S.desk s0).params.m) e) c.in-Err-Dimensions.field-0-is c.in-Err-Dimensions.ensures.err in
    subst (λ (l : List Act). HoldsNone l (S.desk s0).number) (sym fails.3) c.requires.gates
