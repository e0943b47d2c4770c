use Rattle.std.proofs.Common.{refl, lit<, []}
use Rattle.seat_rules.proofs.Keeping.{begins}
use Rattle.seat_rules.proofs.place.SeatTable.new.Goals as goal

pub of_words-requires : goal.of_words-requires
of_words-requires c = ([], 0, begins c.args.catalogue.now _ (lit< tt) refl)
