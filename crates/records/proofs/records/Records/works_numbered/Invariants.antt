use Rattle.std.proofs.Common.{◌≡◌, ◌++◌, map, drop}
use Rattle.records.specs.Left.{works_numbered}
use Rattle.records.proofs.records.Records.works_numbered.Given as goal

abbrev pub invariant-loop-number : goal.invariant-loop-number
invariant-loop-number l =
    map (λ row. row.now) l.found.items ++ works_numbered (drop l.number-index l.numbers) l.self.works ≡ works_numbered l.numbers l.self.works
