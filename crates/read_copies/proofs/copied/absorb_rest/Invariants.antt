use Rattle.std.proofs.Common.{◌≡◌, ◌≤◌, take, length}
use Rattle.read_copies.proofs.copied.absorb_rest.Given as goal

abbrev pub invariant-loop-number : goal.invariant-loop-number
invariant-loop-number g l = record {
  stands : g.S.Absorb.stands l.state g.N.Site.place.catalogue (take l.number l.desk.log);
  at : l.entries ≡ l.number;
  more : l.fn.entries ≤ l.number;
  short : l.number ≤ length l.desk.log;
}
