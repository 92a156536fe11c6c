use Rattle.script_jobs.proofs.Looked.{looks_hold}
use Rattle.script_jobs.proofs.commands.do_command.Goals as goal

pub returns-in_ok-counts-in-Stats-clause-gates : goal.returns-in_ok-counts-in-Stats-clause-gates
returns-in_ok-counts-in-Stats-clause-gates g c = looks_hold c.in_ok-counts-in-Stats.ensures.ok.looked c.requires.gates
