use Rattle.file_host.proofs.Makings.{after-draft, after-write, after-sync, after-rename, after-folder, stands-for}
use Rattle.file_host.proofs.making.make.Goals as goal

pub returns-in_err-draft-clause-any_moment : goal.returns-in_err-draft-clause-any_moment
returns-in_err-draft-clause-any_moment g c = after-draft _ _ c.requires.opening _ _ _ c.draft.ensures

pub returns-in_err-write_at-clause-any_moment : goal.returns-in_err-write_at-clause-any_moment
returns-in_err-write_at-clause-any_moment g c = after-write _ _ c.requires.opening _ _ _ c.draft.ensures _ _ c.write_at.ensures

pub returns-in_err-sync-clause-any_moment : goal.returns-in_err-sync-clause-any_moment
returns-in_err-sync-clause-any_moment g c = after-sync _ _ c.requires.opening _ _ _ c.draft.ensures _ _ c.write_at.ensures _ _ c.sync.ensures

pub returns-in_err-rename-clause-any_moment : goal.returns-in_err-rename-clause-any_moment
returns-in_err-rename-clause-any_moment g c = after-rename _ _ c.requires.opening _ _ _ c.draft.ensures _ _ c.in_ok-write_at.ensures c.in_ok-sync.ensures _ _ c.rename.ensures

pub returns-in_err-sync_folder-clause-any_moment : goal.returns-in_err-sync_folder-clause-any_moment
returns-in_err-sync_folder-clause-any_moment g c =
    after-folder _ _ c.requires.opening _ _ _ c.draft.ensures _ _ c.in_ok-write_at.ensures c.in_ok-sync.ensures _ _ _ _ c.rename.ensures c.sync_folder.ensures

pub returns-clause-any_moment : goal.returns-clause-any_moment
returns-clause-any_moment g c =
    after-folder _ _ c.requires.opening _ _ _ c.draft.ensures _ _ c.in_ok-write_at.ensures c.in_ok-sync.ensures _ _ _ _ c.rename.ensures c.sync_folder.ensures

pub returns-clause-stands : goal.returns-clause-stands
returns-clause-stands g c =
    stands-for _ _ c.requires.opening _ _ _ c.draft.ensures _ _ c.in_ok-write_at.ensures c.in_ok-sync.ensures _ _ c.in_ok-rename.ensures c.in_ok-sync_folder.ensures
