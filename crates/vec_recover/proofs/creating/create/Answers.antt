use Rattle.std.proofs.Common.{◌≡◌, ◌+◌, ◌*◌, ◌<◌, ◌↔◌, ℕ, List, length, refl, ap, subst, ◌∙◌, arith}
use Rattle.std.specs.Prelude.{Contains}
use Rattle.page_bytes.specs.Content.{Content}
use Rattle.page_log.specs.BothLogs.{IsStanding, alone, begun, begun_log}
use Rattle.page_log.specs.NewEpochs.{IsNewEpoch}
use Rattle.vec_recover.specs.Creating.{first_epoch}
use Rattle.vec_recover.proofs.Created.{new_end, none_began}
use Rattle.vec_recover.proofs.creating.create.Goals as goal

pub returns-in_default-clause-moments : goal.returns-in_default-clause-moments
returns-in_default-clause-moments g c shut = none_began c.args.pages.items (g.D.Disks.disk c.args.disks.now) shut (g.met.D.Disks.only_now c.args.disks.now)

pub returns-in_default-all_blocks-clause-moments : goal.returns-in_default-all_blocks-clause-moments
returns-in_default-all_blocks-clause-moments g c shut =
    none_began c.args.pages.items (g.D.Disks.disk c.args.disks.now) shut (g.met.D.Disks.only_now c.args.disks.now)

pub returns-in-Ok-write_first-clause-stands : goal.returns-in-Ok-write_first-clause-stands
returns-in-Ok-write_first-clause-stands g c shut =
    subst (λ (pages : List Content). IsStanding (alone (begun_log (first_epoch pages))) (g.D.Disks.disk c.write_first.new.disks) (begun (first_epoch pages)))
    c.as_slice.ensures.value (c.in-Ok-write_first.ensures.stands shut)

pub returns-in-Ok-write_first-clause-new : goal.returns-in-Ok-write_first-clause-new
returns-in-Ok-write_first-clause-new g c =
    let blocks : c.len-blocks.result ≡ length c.args.pages.items = omega (arith, c.len-blocks.ensures, c.args.pages.ok.0) in record {
      same = refl;
      epoch = refl;
      area = refl;
      before = refl;
      end = c.first_end.ensures ∙ ap (λ (n : ℕ). 40 + 8196 * n) blocks ∙ new_end c.args.pages.items
          (subst (λ (pages : List Content). IsNewEpoch (first_epoch pages)) c.as_slice.ensures.value c.in-Ok-write_first.ensures.good);
      used = refl;
      unwritten = subst (λ (n : ℕ). (block : ℕ) → Contains c.in-Ok-all_blocks.unwritten.items block ↔ (block < n)) blocks c.in-Ok-all_blocks.ensures.each;
    }
