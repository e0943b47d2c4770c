use Rattle.std.proofs.Common.{not, eqb, sym, ◌∙◌, rules}
use Rattle.logged_script.proofs.Anew.{other_is, other_none}
use Rattle.logged_script.proofs.to_compact.anew_unless_refused.Goals as goal

pub made_anew-requires : goal.made_anew-requires
made_anew-requires g c = (search rules, (c.requires.limit, (c.requires.catalogue, other_is (not (eqb g.row.TAGS 0)) c.args.file.items c.args.line.now c.in-Some.job c.args.fault (sym c.other_job.ensures ∙ c.in-Some.is) c.requires.fault)))

pub returns-in-None-clause-fault : goal.returns-in-None-clause-fault
returns-in-None-clause-fault g c = other_none (not (eqb g.row.TAGS 0)) c.args.file.items c.args.line.now c.args.fault (sym c.other_job.ensures ∙ c.in-None.is) c.requires.fault
