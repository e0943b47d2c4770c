-- The element at which the walk of a list halts or ends, and how many elements the walk may still go over.
use Rattle.std.specs.Prelude.{ℕ, zero, suc, Option, Some, None, List, [], ◌∷◌, find}
use Rattle.std.specs.List.{position}
use Rattle.std.specs.Str.{bytes_eq}
use Rattle.jsl_model.specs.declared.element.Element.{Element}
use Rattle.transitions.specs.Transitions.{matching_transition}
use Rattle.walk_rules.specs.declared.continuation.Continuation.{Continuation}
use Rattle.walk_rules.specs.declared.continuation.Continuation.TheVariants.{AtElement, WithValue}
use Rattle.walk_rules.specs.declared.element_result.ElementResult.{ElementResult}
use Rattle.walk_rules.specs.declared.element_result.ElementResult.TheVariants.{ListValue, Outcome}
use Rattle.walk_rules.specs.declared.progress.Progress.{Progress}
use Rattle.walk_rules.specs.Continuations.{continuation_of}
use Rattle.walk_rules.specs.Walk.{WalkedElement, follow}

pub record Stand : Type 0 where
  pub id : List ℕ
  pub left : ℕ

abbrev pub stand_by_continuation : Stand → (List ℕ → Stand) → Continuation → Stand
stand_by_continuation here on (AtElement to) = on to
stand_by_continuation here on (WithValue value) = here

abbrev pub stand_by_result : Stand → (List ℕ → Stand) → WalkedElement → ElementResult → Stand
stand_by_result here on row (ListValue value) = here
stand_by_result here on row (Outcome outcome exit) = stand_by_continuation here on (continuation_of row.next (matching_transition row.transitions exit) outcome exit)

abbrev pub stand_at : Stand → (List ℕ → Stand) → Option WalkedElement → Stand
stand_at here on None = here
stand_at here on (Some row) = stand_by_result here on row row.own_result

abbrev pub stands : ℕ → List WalkedElement → List ℕ → Stand
stands zero rows id = record { id = id; left = 0 }
stands (suc n) rows id = stand_at record { id = id; left = suc n } (stands n rows) (find (λ row. bytes_eq row.id id) rows)

-- the index of the element with this id
abbrev pub row_place : List WalkedElement → List ℕ → Option ℕ
row_place rows id = position (λ row. bytes_eq row.id id) rows

-- the progress of a walk over these rows, from the element with this id
abbrev pub progress : ℕ → List WalkedElement → List ℕ → Progress
progress n rows id =
    record { value = follow n rows id; place = row_place rows (stands n rows id).id; left = (stands n rows id).left }

-- the rows of elements with these own results
abbrev pub rows_by : List Element → List ElementResult → List WalkedElement
rows_by [] results = []
rows_by (e ∷ es) [] = []
rows_by (e ∷ es) (own ∷ owns) = record { id = e.id; next = e.next; transitions = e.transitions; own_result = own } ∷ rows_by es owns
