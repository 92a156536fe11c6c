use Rattle.ivf_ops.proofs.Nearest.{nearest_is}
use Rattle.ivf_ops.proofs.centres.nearest_of.Goals as goal

pub returns : goal.returns
returns c =
    nearest_is c.args.probes c.args.nears.items c.sort.new.self.items c.truncate.new.self.items c.in_ok-sort.ensures.sorted c.in_ok-sort.ensures.stable
    c.truncate.ensures.items
