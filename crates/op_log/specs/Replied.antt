-- The entry of an operation.
use Rattle.batch_history.specs.declared.call.Entry.{Entry}
use Rattle.batch_history.specs.declared.call.Reply.{Reply}

-- the same operation, with this reply
abbrev pub replied : Entry → Reply → Entry
replied e given = record e { reply = given }
