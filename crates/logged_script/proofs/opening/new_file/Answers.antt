use Rattle.logged_script.proofs.Opened.{cut-by}
use Rattle.logged_script.proofs.opening.new_file.Goals as goal

pub returns-then-not-grown-clause-cut : goal.returns-then-not-grown-clause-cut
returns-then-not-grown-clause-cut c =
    let end = c.args.end in
    cut-by c.args.file.items c.in_ok-clean.clean.cut.items end.byte end.is_clean end.is_sealed c.requires.end.ends c.requires.end.clean.0 c.requires.end.sealed.0 c.in_ok-clean.ensures.cut
