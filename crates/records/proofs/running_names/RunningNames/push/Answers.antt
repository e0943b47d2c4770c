use Rattle.std.proofs.Common.{◌≡◌, ◌∷◌, ◌++◌, [], ℕ, List, true, false, arith, bytes_eq, if◌then◌else◌}
use Rattle.std.specs.Bool.{OnTrue}
use Rattle.std.proofs.lemmas.Map.Text.{text_keys}
use Rattle.records.specs.Indexes.{numbers_running}
use Rattle.records.proofs.running_names.RunningNames.push.Goals as goal

pub returns-in-Some : goal.returns-in-Some
returns-in-Some c =
    (elim c.push.result as (λ b. OnTrue b (c.push.new.self ≡ c.in-Some.known.now ++ c.args.number ∷ [])
    → OnTrue b ((q : List ℕ) → numbers_running record { alloc = c.args.self.now.alloc; lists = c.get_mut.follows.lender c.push.new.self } q
    ≡ (if bytes_eq c.args.name.now q then numbers_running c.args.self.now q ++ c.args.number ∷ [] else numbers_running c.args.self.now q))) [
      | true ↦ λ pushed q. grind (arith, text_keys, pushed)
      | false ↦ λ pushed. tt
    ]) c.push.ensures
