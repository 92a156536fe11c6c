use Rattle.std.proofs.Common.{◌≡◌, ◌≤◌, ◌+◌, ℕ, List, length, refl, sym, subst, arith}
use Rattle.vec_outside.specs.declared.disks.Area.TheVariants.{Pages}
use Rattle.page_bytes.specs.Content.{Content}
use Rattle.page_bytes.specs.Decoding.{Spells}
use Rattle.page_file.specs.Area.{block_of}
use Rattle.page_log.proofs.Fronts.{reads_on}
use Rattle.vec_recover.specs.Parts.{IsFilled, IsGap, IsOfBlock}
use Rattle.vec_recover.proofs.PagesBefore.{filled_more, gap_later, of_block_as}
use Rattle.vec_recover.proofs.first_pages.fill_to.Goals as goal

pub returns-in-Err-clause-gap : goal.returns-in-Err-clause-gap
returns-in-Err-clause-gap g c told =
    let area = (g.D.Disks.disk c.args.disks.now).seen Pages in
    let i = c.loop-block.invariant in
    of_block_as
    (λ b gap. gap_later area (length c.args.pages.now.items) c.args.upto c.loop-block.block b c.args.pages.now.items c.loop-block.pages.items refl i.low c.loop-block-test.true (i.filled told) gap)
    c.in-Err.fault
    (subst (λ (bytes : List ℕ). IsOfBlock (IsGap bytes c.loop-block.block (c.loop-block.block + 1)) c.in-Err.fault) (i.only.kept.seen Pages) (c.in-Err.ensures.gap told))

pub loop-block-preserved : goal.loop-block-preserved
loop-block-preserved g c =
    let area = (g.D.Disks.disk c.args.disks.now).seen Pages in
    let i = c.loop-block.invariant in record {
      count = omega (arith, c.in-Ok-push.ensures.len, c.push.new.self.ok.0, c.loop-block.pages.ok.0, i.count);
      low = omega (arith, i.low);
      filled = λ told.
          subst (λ (pages : List Content). IsFilled area (c.loop-block.block + 1) c.args.pages.now.items pages) (sym c.in-Ok-push.ensures.items)
          (filled_more area c.loop-block.block c.args.pages.now.items c.loop-block.pages.items c.in-Ok.page i.low (i.filled told)
          (subst (λ (bytes : List ℕ). Spells (block_of bytes c.loop-block.block) c.in-Ok.page) (i.only.kept.seen Pages) (c.in-Ok.ensures.ok told)));
      only = reads_on _ _ _ i.only c.in-Ok.ensures.only;
      later = omega (arith, i.later, c.in-Ok.ensures.later);
    }

pub returns-clause-ok : goal.returns-clause-ok
returns-clause-ok g c told =
    let area = (g.D.Disks.disk c.args.disks.now).seen Pages in
    let low : c.len-from.result ≤ c.args.upto = omega (arith, c.len-from.ensures, c.requires, c.args.pages.now.ok.0) in
    let same : c.loop-block.block ≡ c.args.upto = omega (arith, c.loop-block.auto.block-end low, c.loop-block-test.false) in
    subst (λ (n : ℕ). IsFilled area n c.args.pages.now.items c.loop-block.pages.items) same (c.loop-block.invariant.filled told)
