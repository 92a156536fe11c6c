use Rattle.std.proofs.Common.{◌≤◌, ◌-◌, Result, Ok, Err, IfErr, OnOk, OnErr, refl, sym, subst, ◌∙◌, arith}
use Rattle.vec_steps.specs.declared.fault.StepFault.{StepFault}
use Rattle.vec_steps.specs.declared.fault.StepFault.TheVariants as fault
use Rattle.vec_steps.specs.Desks.{WantsMemory}
use Rattle.vec_steps.proofs.Turned.{answered, refused_so, wants_so, memory_so, spare_so}
use Rattle.vec_steps.proofs.gate_desk.GateDeskSteps.step.Goals as goal

if_err : {A : Type 0} {P Q : StepFault → Type 0} (r : Result A StepFault) → ((f : StepFault) → P f → Q f) → IfErr r P → IfErr r Q
if_err (Ok v) on p = tt
if_err (Err f) on p = on f p

all_err : {A : Type 0} {Q : StepFault → Type 0} (r : Result A StepFault) → ((f : StepFault) → Q f) → IfErr r Q
all_err (Ok v) on = tt
all_err (Err f) on = on f

on_ok : {A : Type 0} {P Q : Type 0} (r : Result A StepFault) → (P → Q) → OnOk r P → OnOk r Q
on_ok (Ok v) on p = on p
on_ok (Err f) on p = tt

on_err : {A : Type 0} {Q : Type 0} (r : Result A StepFault) → Q → OnErr r Q
on_err (Ok v) q = tt
on_err (Err f) q = q

pub returns-in_default-turn : goal.returns-in_default-turn
returns-in_default-turn c = record {
  goes = record { stays = refl; still_stands = λ base o. o.stood; comes = refl };
  bits = c.requires;
  ok = tt;
  err = wants_so c.args.self.now c.args.ask.now fault.Memory refl;
  same = sym c.in-Take.is;
  wants = λ is. subst (WantsMemory 0) (sym c.in-Take.is) refl;
  spare = tt;
  spare_kept = let low : 0 - 0 ≤ 0 = omega arith in low;
}

pub returns-in_default : goal.returns-in_default
returns-in_default c = record {
  goes = record { stays = refl; still_stands = λ base o. o.stood; comes = refl };
  bits = c.answer.ensures.bits ∙ c.requires;
  ok = on_ok c.answer.result (λ says. answered c.args.self.now c.args.ask.now c.answer.new.told
      (c.answer.ensures.at ∙ c.count-told.ensures c.args.self.now.still.number) says) c.answer.ensures.ok;
  err = if_err c.answer.result (λ f e. refused_so c.args.self.now c.args.ask.now _ f c.in_default.not-Release c.requires e) c.answer.ensures.err;
  same = on_err c.answer.result refl;
  wants = if_err c.answer.result (λ f e is. memory_so c.args.self.now.still.graph c.args.ask.now _ f e is) c.answer.ensures.err;
  spare = on_ok c.answer.result (λ says. spare_so c.args.self.now.still.graph c.args.ask.now c.answer.new.told _ says) c.answer.ensures.ok;
  spare_kept = all_err c.answer.result (λ f. omega arith);
}
