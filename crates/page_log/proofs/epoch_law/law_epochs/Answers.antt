use Rattle.page_log.proofs.BothAreas.{image_reads, epoch_ready, none_counts}
use Rattle.page_log.proofs.HeldEpochs.{held_epoch, new_images}
use Rattle.page_log.proofs.OneReading.{one_reading}
use Rattle.page_log.proofs.Reopened.{read_stands}
use Rattle.page_log.proofs.epoch_law.law_epochs.Goals as goal

pub returns-clause-images : goal.returns-clause-images
returns-clause-images g c disks logs held standing image is = image_reads logs (g.D.Disks.disk disks) held standing image is

pub returns-clause-ready : goal.returns-clause-ready
returns-clause-ready g c disks log held new standing next under =
    epoch_ready log (g.D.Disks.disk disks) held new (g.met.D.Disks.only_now disks) standing next under

pub returns-clause-nothing : goal.returns-clause-nothing
returns-clause-nothing g c image first second = none_counts image first second

pub returns-clause-one : goal.returns-clause-one
returns-clause-one g c image a b first second = one_reading image a b first second

pub returns-clause-epoch : goal.returns-clause-epoch
returns-clause-epoch g c held image images has reads = held_epoch held image images has reads

pub returns-clause-begun : goal.returns-clause-begun
returns-clause-begun g c new good = new_images new good

pub returns-clause-opened : goal.returns-clause-opened
returns-clause-opened g c disks epoch durable other_durable long reads fine within fits =
    read_stands (g.D.Disks.disk disks) epoch durable other_durable long reads fine within fits
