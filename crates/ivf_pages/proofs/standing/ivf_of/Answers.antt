use Rattle.std.proofs.Common.{◌≡◌, List, length, sym, ap, subst, ◌∙◌}
use Rattle.std.specs.Prelude.{None}
use Rattle.vec_tuples.specs.declared.centre.CentreTuple.{CentreTuple}
use Rattle.ivf_pages.specs.Walking.{AreChainsApart, chains_of}
use Rattle.ivf_pages.proofs.Assembled.{none_aimless, all_keep, fault_is}
use Rattle.ivf_pages.proofs.WholeChains.{chains_apart}
use Rattle.ivf_pages.proofs.standing.ivf_of.Goals as goal

pub rows_of_pages-requires-clause-marked : goal.rows_of_pages-requires-clause-marked
rows_of_pages-requires-clause-marked c =
    c.in_ok-aimless.ensures.marked
    (none_aimless c.in-Some.params c.args.pages.now c.in-Some.ensures.in_range c.in_default-first_broken_list.ensures c.in_ok-aimless.aimless c.in_ok-aimless.ensures.first)

pub index_of-requires-clause-all : goal.index_of-requires-clause-all
index_of-requires-clause-all c =
    let none : c.in_ok-aimless.aimless ≡ None =
    none_aimless c.in-Some.params c.args.pages.now c.in-Some.ensures.in_range c.in_default-first_broken_list.ensures c.in_ok-aimless.aimless c.in_ok-aimless.ensures.first in
    ap (λ (ts : List CentreTuple). length ts) (sym c.as_slice-listed.ensures) ∙ c.in_ok-aimless.ensures.all none

pub index_of-requires-clause-whole : goal.index_of-requires-clause-whole
index_of-requires-clause-whole c =
    all_keep c.in-Some.params c.args.pages.now c.in-Some.ensures.told c.in_default-first_broken_list.ensures c.in-Ok.ensures.1

pub index_of-requires-clause-chains : goal.index_of-requires-clause-chains
index_of-requires-clause-chains c =
    let p = c.in-Some.params in
    let pages = c.args.pages.now in
    let tuples = c.in_ok-tuples.tuples in
    let none : c.in_ok-aimless.aimless ≡ None =
    none_aimless p pages c.in-Some.ensures.in_range c.in_default-first_broken_list.ensures c.in_ok-aimless.aimless c.in_ok-aimless.ensures.first in
    let all = ap (λ (ts : List CentreTuple). length ts) (sym c.as_slice-listed.ensures) ∙ c.in_ok-aimless.ensures.all none in
    let whole = all_keep p pages c.in-Some.ensures.told c.in_default-first_broken_list.ensures c.in-Ok.ensures.1 in
    let apart = chains_apart p pages c.in-Some.ensures.in_range (sym c.in-Some.ensures.told) whole tuples c.in_ok-tuples.ensures all in
    subst (λ (ts : List CentreTuple). c.first_aimless.new.chains ≡ chains_of pages ts) c.as_slice-listed.ensures
    (c.in_ok-aimless.ensures.chains none (subst (λ (ts : List CentreTuple). AreChainsApart (chains_of pages ts)) (sym c.as_slice-listed.ensures) apart))

pub returns-in-Err : goal.returns-in-Err
returns-in-Err c = fault_is c.in-Some.params c.args.pages.now c.in-Some.ensures.told c.in_default-first_broken_list.ensures c.in-Err.fault c.in-Err.ensures
