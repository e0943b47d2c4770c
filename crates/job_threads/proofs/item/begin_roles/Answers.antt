use Rattle.job_threads.proofs.Begun.{began, in-within, writer-within, roles-first, roles-second, roles-third}
use Rattle.job_threads.proofs.item.begin_roles.Goals as goal

pub begin_in-requires : goal.begin_in-requires
begin_in-requires g c = in-within c.args.partition c.args.roles.processor c.args.roles.reader _ _ (began c.args.partition c.args.roles.reader _ _ c.in-Ok.ensures) c.requires.processor

pub begin-requires-in-Ok-begin_in : goal.begin-requires-in-Ok-begin_in
begin-requires-in-Ok-begin_in g c =
    writer-within c.args.partition c.args.roles.processor c.args.roles.reader c.args.roles.writer _ _ _ (began c.args.partition c.args.roles.reader _ _ c.in-Ok.ensures) c.in-Ok-begin_in.ensures c.requires.writer

pub returns-in-Err : goal.returns-in-Err
returns-in-Err g c = roles-first c.args.partition c.args.roles c.in-Err.fault _ _ c.requires.reader c.in-Err.ensures

pub returns-in-Err-begin_in : goal.returns-in-Err-begin_in
returns-in-Err-begin_in g c = roles-second c.args.partition c.args.roles c.in-Err-begin_in.fault _ _ _ (began c.args.partition c.args.roles.reader _ _ c.in-Ok.ensures) c.in-Err-begin_in.ensures

pub returns-in-Ok-begin_in : goal.returns-in-Ok-begin_in
returns-in-Ok-begin_in g c =
    let first = began c.args.partition c.args.roles.reader _ _ c.in-Ok.ensures in
    roles-third c.args.partition c.args.roles c.begin-in-Ok-begin_in.result _ _ _ _ (writer-within c.args.partition c.args.roles.processor c.args.roles.reader c.args.roles.writer _ _ _ first c.in-Ok-begin_in.ensures c.requires.writer) first c.in-Ok-begin_in.ensures c.begin-in-Ok-begin_in.ensures
