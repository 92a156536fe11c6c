-- What one reading of all areas comes to.
use Rattle.std.proofs.Common.{◌≡◌, List, Some, None, inl, inr, sym, subst}
use Rattle.std.specs.Prelude.{Ok, Err}
use Rattle.vec_outside.specs.Disk.{Image}
use Rattle.vec_outside.specs.declared.disks.Area.TheVariants.{Pages}
use Rattle.page_bytes.specs.Content.{Content}
use Rattle.page_log.specs.Opening.{Epoch, ReadsAs}
use Rattle.page_log.specs.declared.opening_fault.OpenFault.{OpenFault}
use Rattle.page_log.specs.declared.opening_fault.OpenFault.TheVariants as faults
use Rattle.vec_recover.specs.Recovering.{AreRedoneAll, Begins, IsRecovered, RecoversTo, Recovery, first_number, wrap_of}
use Rattle.vec_recover.specs.Telling.{IsOpening}
use Rattle.vec_recover.specs.declared.reading.ReadIndex.{ReadIndex}
use Rattle.vec_recover.specs.Parts.{IsOpened}

module _ (image : Image) (epoch : Epoch) (reads : ReadsAs image (Ok (Some epoch))) where
  pub opened_ok : (read : ReadIndex) → IsOpened (image Pages) epoch (Ok read) → IsOpening image (Ok (Some read))
  opened_ok read (first, are, (r, same, tells, of, whole, redone)) =
      let begins : Begins image epoch r.params first = record { reads = reads; are_first = are; are_of = of } in (
        r,
        tells,
        recovered r first same begins whole redone,
      ) where
        recovered : (r : Recovery) (first : List Content) → r.epoch ≡ epoch → Begins image epoch r.params first → epoch.bad ≡ None
            → AreRedoneAll r.params (wrap_of epoch.head.form) (first_number epoch) epoch.events first r.pages → IsRecovered image r
        recovered r first same begins whole redone = record {
          first = first;
          begins = subst (λ (e : Epoch). Begins image e r.params first) (sym same) begins;
          whole = subst (λ (e : Epoch). e.bad ≡ None) (sym same) whole;
          redone = subst (λ (e : Epoch). AreRedoneAll r.params (wrap_of e.head.form) (first_number e) e.events first r.pages) (sym same) redone;
        }

  pub opened_err : (fault : OpenFault) → IsOpened (image Pages) epoch (Err fault) → RecoversTo image (Err fault)
  opened_err faults.Memory x = tt
  opened_err (faults.Disk count) x = tt
  opened_err (faults.NotIndex area at) (inl x) = inr (x.0, (epoch, reads, (x.1.0, x.1.1, inl x.1.2)))
  opened_err (faults.NotIndex area at) (inr (first, are, (area_is, lowest))) = inr (area_is, (epoch, reads, (lowest.0, lowest.1, inr (first, are, lowest.2))))
  opened_err (faults.BadEvent area at) (inl x) = absurd x
  opened_err (faults.BadEvent area at) (inr (first, are, (area_is, bad))) = record {
    epoch = epoch;
    area_is = area_is;
    params = bad.0;
    first = first;
    begins = record { reads = reads; are_first = are; are_of = bad.1 };
    bad = bad.2;
  }
