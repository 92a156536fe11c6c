use Rattle.page_log.proofs.BothAreas.{first_reads, first_stands}
use Rattle.page_log.proofs.epoch_law.law_first_epoch.Goals as goal

pub returns-clause-images : goal.returns-clause-images
returns-clause-images g c new image good under aside = first_reads new image good under aside

pub returns-clause-stands : goal.returns-clause-stands
returns-clause-stands g c disks new good all aside = first_stands new (g.D.Disks.disk disks) good all aside
