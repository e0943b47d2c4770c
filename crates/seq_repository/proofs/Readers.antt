-- What is read by an index of the rows is what is read from all of them.
use Rattle.std.proofs.Common.{◌≡◌, ℕ, ◌==◌, Bool, true, false, cond, Some, IfSome, List, [], ◌∷◌, ◌++◌, map, find, filter, reverse, refl, sym, ◌∙◌, ap}
use Rattle.std.proofs.lemmas.Bool.{eq-eqb}
use Rattle.std.proofs.lemmas.List.{append_assoc, append-nil, reverse-append}
use Rattle.batch_history.specs.Answers.{is_running_of, record_of, records_of, running_executions}
use Rattle.batch_history.specs.Lists.{change_first}
use Rattle.batch_history.specs.declared.rows.ExecutionRow.{ExecutionRow}
use Rattle.batch_history.specs.declared.rows.WorkRow.{WorkRow}
use Rattle.batch_history.specs.Walks.{known_elements}
use Rattle.records.specs.Left.{executions_of, works_of}
use Rattle.restart_rules.proofs.Reading.{known_by, known_read}

-- the work items of a job execution, one of them changed
works-changed : (x : ℕ) (p : WorkRow → Bool) (f : WorkRow → WorkRow) (works : List WorkRow) → ((row : WorkRow) → (f row).execution ≡ row.execution)
    → IfSome (find p works) (λ row. row.execution ≡ x) → works_of x (change_first p f works) ≡ change_first p f (works_of x works)
works-changed x p f [] same own = refl
works-changed x p f (row ∷ rest) same own =
    (elim (p row) as (λ b. p row ≡ b → IfSome (cond b (Some row) (find p rest)) (λ row. row.execution ≡ x)
    → works_of x (cond b (f row ∷ rest) (row ∷ change_first p f rest)) ≡ change_first p f (works_of x (row ∷ rest))) [
      | true ↦ λ is here.
          let on : (row.execution == x) ≡ true = eq-eqb row.execution x here in
          let kept : ((f row).execution == x) ≡ true = ap (λ y. y == x) (same row) ∙ on in
          ap (λ b. cond b (f row ∷ works_of x rest) (works_of x rest)) kept
          ∙ (sym (ap (λ b. cond b (f row ∷ works_of x rest) (row ∷ change_first p f (works_of x rest))) is)
          ∙ sym (ap (λ b. change_first p f (cond b (row ∷ works_of x rest) (works_of x rest))) on))
      | false ↦ λ is later.
          elim (row.execution == x) as (λ b. cond b (row ∷ works_of x (change_first p f rest)) (works_of x (change_first p f rest)) ≡ change_first p f (cond b (row ∷ works_of x rest) (works_of x rest))) [
            | true ↦ ap (λ (l : List WorkRow). row ∷ l) (works-changed x p f rest same later)
                ∙ sym (ap (λ b. cond b (f row ∷ works_of x rest) (row ∷ change_first p f (works_of x rest))) is)
            | false ↦ works-changed x p f rest same later
          ]
    ]) refl own

pub known_changed : (x : ℕ) (p : WorkRow → Bool) (f : WorkRow → WorkRow) (works : List WorkRow) → ((row : WorkRow) → (f row).execution ≡ row.execution)
    → IfSome (find p works) (λ row. row.execution ≡ x) → map known_by (change_first p f (works_of x works)) ≡ known_elements x (change_first p f works)
known_changed x p f works same own =
    ap (map known_by) (sym (works-changed x p f works same own)) ∙ known_read x (change_first p f works)

map-end : {A B : Type 0} (f : A → B) (xs : List A) (x : A) → map f (xs ++ x ∷ []) ≡ map f xs ++ f x ∷ []
map-end f [] x = refl
map-end f (y ∷ ys) x = ap (λ l. f y ∷ l) (map-end f ys x)

map-turned : {A B : Type 0} (f : A → B) (xs : List A) → reverse (map f xs) ≡ map f (reverse xs)
map-turned f [] = refl
map-turned f (x ∷ xs) =
    reverse-append (f x ∷ []) (map f xs)
    ∙ (ap (λ l. l ++ f x ∷ []) (map-turned f xs)
    ∙ (sym (map-end f (reverse xs) x)
    ∙ ap (map f) (sym (reverse-append (x ∷ []) xs))))

-- the records of a job instance's job executions, the newest first
pub records_turned : (i : ℕ) (rows : List ExecutionRow) → reverse (map record_of (executions_of i rows)) ≡ records_of i rows
records_turned i rows = map-turned record_of (executions_of i rows)

-- One more is read

found-next : (p : ExecutionRow → Bool) (rows left rest : List ExecutionRow) (row : ExecutionRow) → left ≡ row ∷ rest → find p left ≡ find p rows
    → cond (p row) (Some row) (find p rest) ≡ find p rows
found-next p rows left rest row is so_far = ap (find p) (sym is) ∙ so_far

pub found_here : (p : ExecutionRow → Bool) (rows left rest : List ExecutionRow) (row : ExecutionRow) → left ≡ row ∷ rest → find p left ≡ find p rows → p row ≡ true
    → Some row ≡ find p rows
found_here p rows left rest row is so_far on = sym (ap (λ b. cond b (Some row) (find p rest)) on) ∙ found-next p rows left rest row is so_far

pub found_later : (p : ExecutionRow → Bool) (rows left rest : List ExecutionRow) (row : ExecutionRow) → left ≡ row ∷ rest → find p left ≡ find p rows → p row ≡ false
    → find p rest ≡ find p rows
found_later p rows left rest row is so_far off = sym (ap (λ b. cond b (Some row) (find p rest)) off) ∙ found-next p rows left rest row is so_far

running-next : (name found : List ℕ) (rows left rest : List ExecutionRow) (row : ExecutionRow) → left ≡ row ∷ rest
    → found ++ running_executions name left ≡ running_executions name rows
    → found ++ map (λ (r : ExecutionRow). r.execution) (cond (is_running_of name row) (row ∷ filter (is_running_of name) rest) (filter (is_running_of name) rest)) ≡ running_executions name rows
running-next name found rows left rest row is so_far = ap (λ (l : List ExecutionRow). found ++ running_executions name l) (sym is) ∙ so_far

pub running_here : (name found new : List ℕ) (rows left rest : List ExecutionRow) (row : ExecutionRow) → left ≡ row ∷ rest
    → found ++ running_executions name left ≡ running_executions name rows → is_running_of name row ≡ true → new ≡ found ++ row.execution ∷ []
    → new ++ running_executions name rest ≡ running_executions name rows
running_here name found new rows left rest row is so_far on more =
    ap (λ (l : List ℕ). l ++ running_executions name rest) more
    ∙ (append_assoc found (row.execution ∷ []) (running_executions name rest)
    ∙ (sym (ap (λ b. found ++ map (λ (r : ExecutionRow). r.execution) (cond b (row ∷ filter (is_running_of name) rest) (filter (is_running_of name) rest))) on)
    ∙ running-next name found rows left rest row is so_far))

pub running_later : (name found : List ℕ) (rows left rest : List ExecutionRow) (row : ExecutionRow) → left ≡ row ∷ rest
    → found ++ running_executions name left ≡ running_executions name rows → is_running_of name row ≡ false
    → found ++ running_executions name rest ≡ running_executions name rows
running_later name found rows left rest row is so_far off =
    sym (ap (λ b. found ++ map (λ (r : ExecutionRow). r.execution) (cond b (row ∷ filter (is_running_of name) rest) (filter (is_running_of name) rest))) off)
    ∙ running-next name found rows left rest row is so_far

-- all is read where nothing is left
pub all_read : {A : Type 0} (found left whole : List A) → left ≡ [] → found ++ left ≡ whole → found ≡ whole
all_read found left whole none so_far = sym (append-nil found) ∙ (ap (λ l. found ++ l) (sym none) ∙ so_far)
