-- A value that was read from its name.
use Rattle.std.proofs.Common.{◌≡◌, Option, Some, None, Result, Ok, Err, true≢false, sym, ap, ◌∙◌}
use Rattle.std.specs.Result.{result_ok}
use Rattle.batch_ids.specs.Names.{IsRead}

-- a value that was read, if one has the name
pub named_read : {A E : Type 0} (named : Option A) (r : Result A E) (found : Option A) → IsRead named r → found ≡ result_ok r → found ≡ named
named_read None (Ok x) found is ok = absurd (true≢false (sym is))
named_read None (Err e) found is ok = ok
named_read (Some x) r found is ok = ok ∙ ap result_ok is
