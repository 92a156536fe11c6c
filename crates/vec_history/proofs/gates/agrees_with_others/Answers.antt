use Rattle.std.proofs.Common.{◌≡◌, slice_get, Some, refl, sym, ◌∙◌, arith}
use Rattle.std.proofs.lemmas.Option.{slice_get_read}
use Rattle.vec_history.proofs.Scans.{each_more, each_of_all}
use Rattle.vec_history.proofs.GateHolds.{OthersAgree, all_agree}
use Rattle.vec_history.proofs.gates.agrees_with_others.Goals as goal
use Rattle.vec_history.proofs.gates.agrees_with_others.Goals.{else-act-desk-via-then-act-desk+else-not-agrees_with, else-act-desk-via-else-act-desk}

pub returns-then-not-agrees_with : goal.returns-then-not-agrees_with
returns-then-not-agrees_with c = (
  λ f. absurd (cc),
  λ all. sym c.if-not-agrees_with.true ∙ c.agrees_with.ensures.1 (λ theirs. all c.act-item.result.desk theirs c.if-act-desk.true),
)

pub loop-act-preserved : goal.loop-act-preserved
loop-act-preserved c =
    let P = OthersAgree c.args.acts.now c.args.desk c.args.gate c.args.hold in
    let at : slice_get c.args.acts.now c.loop-act.act-index ≡ Some c.act-item.result = slice_get_read c.args.acts.now _ _ _ refl (omega arith) c.act-item.is in
    let is : P c.act-item.result =
    elim c.else-act-desk.branch [
      | else-act-desk-via-then-act-desk+else-not-agrees_with w ↦ λ _. w.agrees_with.ensures.0 w.if-not-agrees_with.false
      | else-act-desk-via-else-act-desk w ↦ λ ne. absurd (ne w.if-act-desk.false)
    ]
    in
    each_more P c.args.acts.now _ c.act-item.result at c.loop-act.invariant is

pub returns : goal.returns
returns c =
    let P = OthersAgree c.args.acts.now c.args.desk c.args.gate c.args.hold in
    (λ _. all_agree _ _ _ _ (each_of_all P c.args.acts.now _ (omega arith) c.loop-act.invariant), λ _. refl)
