use Rattle.std.proofs.Common.{◌++◌, ◌∷◌, [], refl, ap, ◌∙◌, arith}
use Rattle.neighbour_pick.specs.declared.found.Found.{Found}
use Rattle.search_sets.specs.declared.frontier.Frontier.{Frontier}
use Rattle.search_sets.specs.Standing.{found_at}
use Rattle.search_sets.proofs.HeldSo.{add_held, add_whole}
use Rattle.search_sets.proofs.frontier.Frontier.add.Goals as goal

pub returns-clause-whole : goal.returns-clause-whole
returns-clause-whole c =
    let f : Frontier = c.args.self.now in
    let e : Found = found_at c.args.spot c.args.dist c.args.ids.now.items c.args.bits.now in
    add_whole f (record f { known = c.push.new.self; ahead = c.queue.new.ahead; found = c.keep.new.found }) e c.in_ok-key.key c.has_rows-is_live.result c.requires
    (c.in_ok-key.ensures.key ∙ ap (λ n. record { dist = c.args.dist; at = c.args.spot.at; index = n }) c.len.ensures) c.has_rows-is_live.ensures
    (c.in_ok-push.ensures.ok ∙ ap (λ (x : Found). f.known ++ x ∷ []) c.in_ok-found_of.ensures) refl c.in_ok-queue.ensures c.in_ok-wanted.ensures refl
    (omega (arith, c.in_ok-key.ensures.few, c.len.ensures))

pub returns-clause-added : goal.returns-clause-added
returns-clause-added c =
    let f : Frontier = c.args.self.now in
    let e : Found = found_at c.args.spot c.args.dist c.args.ids.now.items c.args.bits.now in
    add_held f (record f { known = c.push.new.self; ahead = c.queue.new.ahead; found = c.keep.new.found }) e c.in_ok-key.key c.has_rows-is_live.result c.requires
    (c.in_ok-key.ensures.key ∙ ap (λ n. record { dist = c.args.dist; at = c.args.spot.at; index = n }) c.len.ensures) c.has_rows-is_live.ensures
    (c.in_ok-push.ensures.ok ∙ ap (λ (x : Found). f.known ++ x ∷ []) c.in_ok-found_of.ensures) refl c.in_ok-queue.ensures c.in_ok-wanted.ensures refl
