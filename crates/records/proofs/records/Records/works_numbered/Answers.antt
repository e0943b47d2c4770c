use Rattle.std.proofs.Common.{◌≡◌, ℕ, ◌+◌, Bor, List, [], ◌∷◌, ◌++◌, Option, Vec, Global, drop, find, get_or, map, option_copied, refl, sym, ◌∙◌, ap}
use Rattle.std.proofs.Math.ListN.{drop_of_length-le}
use Rattle.std.proofs.lemmas.List.{drop_more, map_push}
use Rattle.std.specs.List.{cons_option}
use Rattle.batch_history.specs.Works.{is_work}
use Rattle.batch_history.specs.declared.rows.WorkRow.{WorkRow}
use Rattle.records.specs.Left.{works_numbered}
use Rattle.records.proofs.Gathered.{one_more, passed_over, none_left}
use Rattle.records.proofs.records.Records.works_numbered.Goals.{in-Some+in_ok-push, in_default}
use Rattle.records.proofs.records.Records.works_numbered.Goals as goal

-- the rows of these references
abbrev rows : List (Bor WorkRow) → List WorkRow
rows found = map (λ row. row.now) found

pub loop-number-init : goal.loop-number-init
loop-number-init c =
    ap (λ (l : List (Bor WorkRow)). rows l ++ works_numbered c.args.numbers.now c.args.self.now.works) c.new-found.ensures.items

pub loop-number-preserved : goal.loop-number-preserved
loop-number-preserved c =
    let works : List WorkRow = c.args.self.now.works in
    let numbers : List ℕ = c.args.numbers.now in
    let i : ℕ = c.loop-number.number-index in
    let n : ℕ = get_or numbers i 0 in
    let found : List (Bor WorkRow) = c.loop-number.found.items in
    let rest : List WorkRow = works_numbered (drop (i + 1) numbers) works in
    let come : List ℕ → List WorkRow = λ ns. works_numbered ns works in
    let at : find (is_work n) works ≡ option_copied c.work.result = sym (c.work.ensures ∙ ap (λ (w : ℕ). find (is_work w) works) c.new.ensures) in
    elim c.match-work.branch [
      | in-Some+in_ok-push w ↦
          one_more come (rows found) (w.in-Some.row.now ∷ []) _ _ n (drop i numbers) (drop (i + 1) numbers) (drop_more numbers i 0 c.loop-number-test.true)
          (ap (λ (r : Option WorkRow). cons_option r rest) (at ∙ ap option_copied w.in-Some.is))
          (ap (λ (v : Vec (Bor WorkRow) Global). rows v.items) w.found-is ∙ (ap rows w.in_ok-push.ensures.items ∙ map_push (λ (row : Bor WorkRow). row.now) found w.in-Some.row))
          c.loop-number.invariant
      | in_default w ↦
          ap (λ (v : Vec (Bor WorkRow) Global). rows v.items ++ rest) w.found-is
          ∙ passed_over come (rows found) _ n (drop i numbers) (drop (i + 1) numbers) (drop_more numbers i 0 c.loop-number-test.true)
          (ap (λ (r : Option WorkRow). cons_option r rest) (at ∙ ap option_copied w.in_default.is)) c.loop-number.invariant
    ]

pub returns : goal.returns
returns c =
    none_left (λ (ns : List ℕ). works_numbered ns c.args.self.now.works) (rows c.loop-number.found.items) _ _
    (drop_of_length-le c.args.numbers.now c.loop-number-test.false) refl c.loop-number.invariant
