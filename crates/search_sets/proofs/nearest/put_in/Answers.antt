use Rattle.std.proofs.Common.{◌≡◌, ◌≤◌, ◌<◌, ◌++◌, length, get_or, take, ◌-◌, List, ap, sym, subst, ◌∙◌, arith}
use Rattle.list_values.specs.Ranking.{placed}
use Rattle.search_sets.specs.declared.key.Key.{Key}
use Rattle.search_sets.specs.Keys.{is_before, in_order}
use Rattle.search_sets.specs.Bests.{IsSplit}
use Rattle.search_sets.proofs.Splitting.{split_room, whole_room, behind_split, behind_whole, within_split, within_whole, lost_split}
use Rattle.search_sets.proofs.nearest.put_in.Goals as goal

pub returns-then-items-most-clause-split : goal.returns-then-items-most-clause-split
returns-then-items-most-clause-split c =
    let few : length c.args.best.now.items < c.args.most = omega (arith, c.if-items-most.true, ap length c.as_slice-items.ensures.value) in
    subst (λ (l : List Key). IsSplit c.args.most l c.args.rest.now.items) (sym c.in_ok-insert.ensures.ok) (split_room c.args.most c.args.best.now.items c.args.rest.now.items c.args.key few c.requires)

pub returns-then-items-most-clause-whole : goal.returns-then-items-most-clause-whole
returns-then-items-most-clause-whole c =
    let few : length c.args.best.now.items < c.args.most = omega (arith, c.if-items-most.true, ap length c.as_slice-items.ensures.value) in
    ap (λ l. l ++ in_order c.args.rest.now.items) c.in_ok-insert.ensures.ok ∙ whole_room c.args.most c.args.best.now.items c.args.rest.now.items c.args.key few c.requires

pub returns-then-is_before-clause-split : goal.returns-then-is_before-clause-split
returns-then-is_before-clause-split c =
    let last = c.index-items-most.result in
    let many : c.args.most ≤ length c.args.best.now.items = omega (arith, c.if-items-most.false, ap length c.as_slice-items.ensures.value) in
    let is : last ≡ get_or c.args.best.now.items (c.args.most - 1) last = c.index-items-most.is ∙ ap (λ l. get_or l (c.args.most - 1) last) c.as_slice-items.ensures.value in
    subst (λ (l : List Key). IsSplit c.args.most c.args.best.now.items l) (sym c.in_ok-push.ensures.items) (behind_split c.args.most c.args.best.now.items c.args.rest.now.items c.args.key last many c.requires is (sym c.if-is_before.ensures))

pub returns-then-is_before-clause-whole : goal.returns-then-is_before-clause-whole
returns-then-is_before-clause-whole c =
    let last = c.index-items-most.result in
    let many : c.args.most ≤ length c.args.best.now.items = omega (arith, c.if-items-most.false, ap length c.as_slice-items.ensures.value) in
    let is : last ≡ get_or c.args.best.now.items (c.args.most - 1) last = c.index-items-most.is ∙ ap (λ l. get_or l (c.args.most - 1) last) c.as_slice-items.ensures.value in
    ap (λ l. c.args.best.now.items ++ in_order l) c.in_ok-push.ensures.items ∙ behind_whole c.args.most c.args.best.now.items c.args.rest.now.items c.args.key last many c.requires is (sym c.if-is_before.ensures)

pub returns-in_err-push-2-clause-split : goal.returns-in_err-push-2-clause-split
returns-in_err-push-2-clause-split c =
    let last = c.index-items-most.result in
    let many : c.args.most ≤ length c.args.best.now.items = omega (arith, c.if-items-most.false, ap length c.as_slice-items.ensures.value) in
    let is : last ≡ get_or c.args.best.now.items (c.args.most - 1) last = c.index-items-most.is ∙ ap (λ l. get_or l (c.args.most - 1) last) c.as_slice-items.ensures.value in
    let cut : c.truncate.new.self.items ≡ take c.args.most (placed is_before c.args.key c.args.best.now.items) = c.truncate.ensures.items ∙ ap (take c.args.most) c.in_ok-insert-2.ensures.ok in
    subst (λ (l : List Key). IsSplit c.args.most l c.push-2.new.self.items) (sym cut) (subst (λ (l : List Key). IsSplit c.args.most (take c.args.most (placed is_before c.args.key c.args.best.now.items)) l) (sym c.in_err-push-2.ensures.items) (lost_split c.args.most c.args.best.now.items c.args.rest.now.items c.args.key last many c.requires is (sym c.if-is_before.ensures)))

pub returns-clause-split : goal.returns-clause-split
returns-clause-split c =
    let last = c.index-items-most.result in
    let many : c.args.most ≤ length c.args.best.now.items = omega (arith, c.if-items-most.false, ap length c.as_slice-items.ensures.value) in
    let is : last ≡ get_or c.args.best.now.items (c.args.most - 1) last = c.index-items-most.is ∙ ap (λ l. get_or l (c.args.most - 1) last) c.as_slice-items.ensures.value in
    let cut : c.truncate.new.self.items ≡ take c.args.most (placed is_before c.args.key c.args.best.now.items) = c.truncate.ensures.items ∙ ap (take c.args.most) c.in_ok-insert-2.ensures.ok in
    subst (λ (l : List Key). IsSplit c.args.most l c.push-2.new.self.items) (sym cut) (subst (λ (l : List Key). IsSplit c.args.most (take c.args.most (placed is_before c.args.key c.args.best.now.items)) l) (sym c.in_ok-push-2.ensures.items) (within_split c.args.most c.args.best.now.items c.args.rest.now.items c.args.key last many c.requires is (sym c.if-is_before.ensures)))

pub returns-clause-whole : goal.returns-clause-whole
returns-clause-whole c =
    let last = c.index-items-most.result in
    let many : c.args.most ≤ length c.args.best.now.items = omega (arith, c.if-items-most.false, ap length c.as_slice-items.ensures.value) in
    let is : last ≡ get_or c.args.best.now.items (c.args.most - 1) last = c.index-items-most.is ∙ ap (λ l. get_or l (c.args.most - 1) last) c.as_slice-items.ensures.value in
    let cut : c.truncate.new.self.items ≡ take c.args.most (placed is_before c.args.key c.args.best.now.items) = c.truncate.ensures.items ∙ ap (take c.args.most) c.in_ok-insert-2.ensures.ok in
    ap (λ l. l ++ in_order c.push-2.new.self.items) cut ∙ ap (λ l. take c.args.most (placed is_before c.args.key c.args.best.now.items) ++ in_order l) c.in_ok-push-2.ensures.items ∙ within_whole c.args.most c.args.best.now.items c.args.rest.now.items c.args.key last many c.requires is (sym c.if-is_before.ensures)
