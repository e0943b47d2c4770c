use Rattle.file_host.proofs.Resuming.{after-write, after-sync, after-folder, holds-all}
use Rattle.file_host.proofs.making.resume.Goals as goal

pub returns-in_err-write_at-clause-any_moment : goal.returns-in_err-write_at-clause-any_moment
returns-in_err-write_at-clause-any_moment g c file within = after-write file _ _ within _ c.requires.opening _ _ c.write_at.ensures

pub returns-in_err-sync-clause-any_moment : goal.returns-in_err-sync-clause-any_moment
returns-in_err-sync-clause-any_moment g c file within = after-sync file _ _ within _ c.requires.opening _ _ _ c.in_ok-write_at.ensures c.sync.ensures

pub returns-in_err-sync_folder-clause-any_moment : goal.returns-in_err-sync_folder-clause-any_moment
returns-in_err-sync_folder-clause-any_moment g c file within = after-folder file _ _ within _ c.requires.opening _ _ _ _ _ c.in_ok-write_at.ensures c.in_ok-sync.ensures c.sync_folder.ensures

pub returns-clause-any_moment : goal.returns-clause-any_moment
returns-clause-any_moment g c file within = after-folder file _ _ within _ c.requires.opening _ _ _ _ _ c.in_ok-write_at.ensures c.in_ok-sync.ensures c.in_ok-sync_folder.ensures

pub returns-clause-stands : goal.returns-clause-stands
returns-clause-stands g c file left = holds-all file _ _ _ _ _ _ _ c.requires.opening c.in_ok-write_at.ensures c.in_ok-sync.ensures c.in_ok-sync_folder.ensures left
