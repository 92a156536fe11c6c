use Rattle.scan_law.proofs.Courses.{first_told, first_touched, first_not_marked}
use Rattle.scan_law.proofs.law.law_first_batch.Goals as goal

pub returns-clause-not_gone : goal.returns-clause-not_gone
returns-clause-not_gone c = first_told c.args.base.now c.requires.shaped c.requires.sound c.args.acts.now c.requires.legal

pub returns-clause-touched : goal.returns-clause-touched
returns-clause-touched c = first_touched c.args.base.now c.requires.shaped c.requires.sound c.args.acts.now c.requires.legal

pub returns-clause-not_marked : goal.returns-clause-not_marked
returns-clause-not_marked c = first_not_marked c.args.base.now c.requires.shaped c.requires.sound c.args.acts.now c.requires.legal
