use Rattle.std.proofs.Common.{◌≡◌, ◌+◌, ◌∷◌, drop, slice_get, slice_index_or, Some, refl, subst, arith}
use Rattle.std.proofs.lemmas.List.{at_drop_more}
use Rattle.std.proofs.lemmas.Option.{slice_get_read}
use Rattle.page_file.proofs.Going.{IsGoing, begins, next_within, written_on, moments_on, goes_further}
use Rattle.page_file.proofs.writing.write_each.Goals as goal

pub loop-pair-init : goal.loop-pair-init
loop-pair-init g c = record {
  going = begins _ _ _ _ c.requires.rising c.requires.no_gap (g.met.D.Disks.only_now c.args.disks.now);
  later = omega arith;
}

pub write_page-requires : goal.write_page-requires
write_page-requires g c told =
    let which = c.args.which.now in
    let i = c.loop-pair.pair-index in
    let pair = slice_index_or which i (0, 0) in
    let rest = drop (i + 1) which in
    let old = g.D.Disks.disk c.args.disks.now in
    let now = g.D.Disks.disk c.loop-pair.disks in
    let going : IsGoing g.D.Disks.told c.args.pages.now which (pair ∷ rest) old now =
    subst (λ left. IsGoing g.D.Disks.told c.args.pages.now which left old now) (at_drop_more (λ xs. xs) which i (0, 0) c.loop-pair-test.true) c.loop-pair.invariant.going in
    next_within rest pair _ going.rising (going.no_gap told)

pub returns-in_err-write_page-clause-written : goal.returns-in_err-write_page-clause-written
returns-in_err-write_page-clause-written g c =
    let which = c.args.which.now in
    let i = c.loop-pair.pair-index in
    let pair = slice_index_or which i (0, 0) in
    let rest = drop (i + 1) which in
    let old = g.D.Disks.disk c.args.disks.now in
    let now = g.D.Disks.disk c.loop-pair.disks in
    let going : IsGoing g.D.Disks.told c.args.pages.now which (pair ∷ rest) old now =
    subst (λ left. IsGoing g.D.Disks.told c.args.pages.now which left old now) (at_drop_more (λ xs. xs) which i (0, 0) c.loop-pair-test.true) c.loop-pair.invariant.going in
    written_on g.D.Disks.told c.args.pages.now which rest pair old now _ going c.write_page.ensures.written

pub returns-in_err-write_page-clause-moments : goal.returns-in_err-write_page-clause-moments
returns-in_err-write_page-clause-moments g c =
    let which = c.args.which.now in
    let i = c.loop-pair.pair-index in
    let pair = slice_index_or which i (0, 0) in
    let rest = drop (i + 1) which in
    let old = g.D.Disks.disk c.args.disks.now in
    let now = g.D.Disks.disk c.loop-pair.disks in
    let going : IsGoing g.D.Disks.told c.args.pages.now which (pair ∷ rest) old now =
    subst (λ left. IsGoing g.D.Disks.told c.args.pages.now which left old now) (at_drop_more (λ xs. xs) which i (0, 0) c.loop-pair-test.true) c.loop-pair.invariant.going in
    moments_on g.D.Disks.told c.args.pages.now which rest pair old now _ going c.write_page.ensures.written c.write_page.ensures.time

pub loop-pair-preserved : goal.loop-pair-preserved
loop-pair-preserved g c =
    let which = c.args.which.now in
    let i = c.loop-pair.pair-index in
    let pair = slice_index_or which i (0, 0) in
    let rest = drop (i + 1) which in
    let page = c.index-pages-pair.result in
    let old = g.D.Disks.disk c.args.disks.now in
    let now = g.D.Disks.disk c.loop-pair.disks in
    let going : IsGoing g.D.Disks.told c.args.pages.now which (pair ∷ rest) old now =
    subst (λ left. IsGoing g.D.Disks.told c.args.pages.now which left old now) (at_drop_more (λ xs. xs) which i (0, 0) c.loop-pair-test.true) c.loop-pair.invariant.going in
    let is : slice_get c.args.pages.now pair.1 ≡ Some page =
    slice_get_read c.args.pages.now _ pair.1 page refl (c.requires.places i (0, 0) c.loop-pair-test.true) c.index-pages-pair.is in
    record {
      going = goes_further g.D.Disks.told c.args.pages.now which rest pair page old now _ going is c.write_page.ensures.size c.write_page.ensures.written c.write_page.ensures.time c.in_ok-write_page.ensures.bytes;
      later = omega (arith, c.loop-pair.invariant.later, c.write_page.ensures.cause.later);
    }
