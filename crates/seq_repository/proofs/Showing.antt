-- Rows that are shown one after another.
use Rattle.std.specs.Prelude.{OnOk}
use Rattle.std.proofs.Common.{◌≡◌, ◌∙◌, Result, Ok, Err, List, [], ◌∷◌, ◌++◌, refl, sym, ap, subst, append_assoc}
use Rattle.std.proofs.lemmas.List.{append-nil}
use Rattle.batch_history.specs.declared.rows.CheckpointRow.{CheckpointRow}
use Rattle.batch_history.specs.declared.rows.ExecutionRow.{ExecutionRow}
use Rattle.batch_history.specs.declared.rows.WorkRow.{WorkRow}
use Rattle.row_repository.specs.declared.sink.NotTaken.{NotTaken}
use Rattle.row_repository.specs.Shown.{Shown, with_shown_checkpoint, with_shown_execution, with_shown_work}

-- with these rows more
abbrev pub with_executions : Shown → List ExecutionRow → Shown
with_executions s rows = record s { executions = s.executions ++ rows }

abbrev pub with_works : Shown → List WorkRow → Shown
with_works s rows = record s { works = s.works ++ rows }

abbrev pub with_checkpoints : Shown → List CheckpointRow → Shown
with_checkpoints s rows = record s { checkpoints = s.checkpoints ++ rows }

-- how rows of a kind are added: none, and one more
pub record Adds {R : Type 0} (one : Shown → R → Shown) (all : Shown → List R → Shown) : Type 0 where
  pub none : (s : Shown) → all s [] ≡ s
  pub more : (s : Shown) (rows : List R) (row : R) → one (all s rows) row ≡ all s (rows ++ row ∷ [])

pub executions_add : Adds with_shown_execution with_executions
executions_add = record {
  none = λ s i. record s { executions = append-nil s.executions i };
  more = λ s rows row i. record s { executions = append_assoc s.executions rows (row ∷ []) i };
}

pub works_add : Adds with_shown_work with_works
works_add = record {
  none = λ s i. record s { works = append-nil s.works i };
  more = λ s rows row i. record s { works = append_assoc s.works rows (row ∷ []) i };
}

pub checkpoints_add : Adds with_shown_checkpoint with_checkpoints
checkpoints_add = record {
  none = λ s i. record s { checkpoints = append-nil s.checkpoints i };
  more = λ s rows row i. record s { checkpoints = append_assoc s.checkpoints rows (row ∷ []) i };
}

module _ {S R : Type 0} (taken : S → Shown → S → Type 0) (all : Shown → List R → Shown) where
  -- some of the rows were shown, and these are left
  pub record IsShowing (rows left : List R) (old now : S) : Type 0 where
    pub done : List R
    pub split : done ++ left ≡ rows
    pub shown : (earlier : S) (s : Shown) → taken earlier s old → taken earlier (all s done) now

  pub showing_none : (one : Shown → R → Shown) → Adds one all → (rows left : List R) (old : S) → left ≡ rows → IsShowing rows left old old
  showing_none one adds rows left old is = record {
    done = [];
    split = is;
    shown = λ earlier s taken_so. subst (λ (t : Shown). taken earlier t old) (sym (adds.none s)) taken_so;
  }

  pub showing_more : (one : Shown → R → Shown) → Adds one all → (rows before left : List R) (row : R) (old now later : S) → before ≡ row ∷ left → IsShowing rows before old now
      → ((earlier : S) (s : Shown) → taken earlier s now → taken earlier (one s row) later) → IsShowing rows left old later
  showing_more one adds rows before left row old now later is so_far takes = record {
    done = so_far.done ++ row ∷ [];
    split = append_assoc so_far.done (row ∷ []) left ∙ (ap (λ (l : List R). so_far.done ++ l) (sym is) ∙ so_far.split);
    shown = λ earlier s taken_so. subst (λ (t : Shown). taken earlier t later) (adds.more s so_far.done row) (takes earlier (all s so_far.done) (so_far.shown earlier s taken_so));
  }

  pub showing_all : (rows left : List R) (old now : S) → left ≡ [] → IsShowing rows left old now
      → (earlier : S) (s : Shown) → taken earlier s old → taken earlier (all s rows) now
  showing_all rows left old now is so_far earlier s taken_so =
      let whole : so_far.done ≡ rows = sym (append-nil so_far.done) ∙ (ap (λ (l : List R). so_far.done ++ l) (sym is) ∙ so_far.split) in
      subst (λ (l : List R). taken earlier (all s l) now) whole (so_far.shown earlier s taken_so)

-- what holds of a success, by what else does
pub weaker : (result : Result Unit NotTaken) (P Q : Type 0) → (P → Q) → OnOk result P → OnOk result Q
weaker (Ok done) P Q f p = f p
weaker (Err refused) P Q f p = tt

-- ---- Two lists of rows

-- the same rows were looked at in both lists, and these are left
pub record AreSameSoFar {R : Type 0} (rows left others rest : List R) : Type 0 where
  pub done : List R
  pub split : done ++ left ≡ rows
  pub split_others : done ++ rest ≡ others

pub same_none : {R : Type 0} (rows left others rest : List R) → left ≡ rows → rest ≡ others → AreSameSoFar rows left others rest
same_none rows left others rest is are = record { done = []; split = is; split_others = are }

pub same_more : {R : Type 0} (rows before left others rest_before rest : List R) (row other : R) → before ≡ row ∷ left → rest_before ≡ other ∷ rest → other ≡ row
    → AreSameSoFar rows before others rest_before → AreSameSoFar rows left others rest
same_more rows before left others rest_before rest row other is are same so_far = record {
  done = so_far.done ++ row ∷ [];
  split = append_assoc so_far.done (row ∷ []) left ∙ (ap (λ l. so_far.done ++ l) (sym is) ∙ so_far.split);
  split_others = append_assoc so_far.done (row ∷ []) rest ∙ (ap (λ l. so_far.done ++ l) (ap (λ x. x ∷ rest) (sym same) ∙ sym are) ∙ so_far.split_others);
}

pub same_all : {R : Type 0} (rows left others rest : List R) → left ≡ [] → rest ≡ [] → AreSameSoFar rows left others rest → rows ≡ others
same_all rows left others rest is are so_far =
    sym so_far.split ∙ (ap (λ l. so_far.done ++ l) (is ∙ sym are) ∙ so_far.split_others)
