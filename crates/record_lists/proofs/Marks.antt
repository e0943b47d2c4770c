-- The checkpoint of each step, where the checkpoints stand in a list and one is set or cleared.
use Rattle.std.proofs.Common.{◌≡◌, ◌≢◌, ℕ, zero, suc, ◌+◌, ◌==◌, ◌&&◌, ◌<◌, Bool, true, false, not, cond, Option, None, Some, List, [], ◌∷◌, ◌++◌, length, take, drop, set, get_or, find, filter, refl, sym, ◌∙◌, ap, arith, add-one}
use Rattle.std.specs.Option.{option_map}
use Rattle.std.proofs.lemmas.Bool.{eqb-true, eq-eqb, ne_eqb, and_parts}
use Rattle.std.proofs.lemmas.List.{take_more, drop_more, append_assoc}
use Rattle.walk_rules.specs.Keys.{is_same_key}
use Rattle.walk_rules.specs.declared.work_key.WorkKey.{WorkKey}
use Rattle.walk_rules.proofs.SameKeys.{same-one, same-self}
use Rattle.batch_history.specs.declared.rows.CheckpointRow.{CheckpointRow}
use Rattle.batch_history.specs.Checkpoints.{InstanceStep, is_same_step}
use Rattle.batch_history.specs.Rows.{checkpoint_there}
use Rattle.record_lists.specs.Places.{step_of, is_place, mark_at, checkpoints_there, AreApart}
use Rattle.record_lists.specs.Placed.{marked, with_mark, without_mark}

-- Where the checkpoint of a place stands

set-at : {A : Type 0} (xs : List A) (i : ℕ) (y : A) → i < length xs → set xs i y ≡ take i xs ++ y ∷ drop (i + 1) xs
set-at [] i y lt = absurd (omega (arith, lt))
set-at (x ∷ xs) zero y lt = refl
set-at (x ∷ xs) (suc i) y lt =
    let further : drop (suc i + 1) (x ∷ xs) ≡ drop (i + 1) xs =
    ap (λ k. drop k (x ∷ xs)) (add-one (suc i)) ∙ ap (λ k. drop k xs) (sym (add-one i)) in
    ap (λ l. x ∷ l) (set-at xs i y (omega (arith, lt))) ∙ ap (λ l. x ∷ (take i xs ++ y ∷ l)) (sym further)

-- the checkpoint of the place stands here
pub held_at : (p : InstanceStep) (mark : List ℕ) (rows : List CheckpointRow) (i : ℕ) (d : CheckpointRow) → i < length rows
    → is_place p (get_or rows i d) ≡ true → with_mark p mark rows ≡ take i rows ++ with_mark p mark (drop i rows)
    → with_mark p mark rows ≡ set rows i (marked p mark)
held_at p mark rows i d lt is so_far =
    so_far
    ∙ (ap (λ (l : List CheckpointRow). take i rows ++ with_mark p mark l) (drop_more rows i d lt)
    ∙ (ap (λ (b : Bool). take i rows ++ cond b (marked p mark ∷ drop (i + 1) rows) (get_or rows i d ∷ with_mark p mark (drop (i + 1) rows))) is
    ∙ sym (set-at rows i (marked p mark) lt)))

-- it doesn't stand here
pub behind_at : (p : InstanceStep) (mark : List ℕ) (rows : List CheckpointRow) (i : ℕ) (d : CheckpointRow) → i < length rows
    → is_place p (get_or rows i d) ≡ false → with_mark p mark rows ≡ take i rows ++ with_mark p mark (drop i rows)
    → with_mark p mark rows ≡ take (i + 1) rows ++ with_mark p mark (drop (i + 1) rows)
behind_at p mark rows i d lt is so_far =
    so_far
    ∙ (ap (λ (l : List CheckpointRow). take i rows ++ with_mark p mark l) (drop_more rows i d lt)
    ∙ (ap (λ (b : Bool). take i rows ++ cond b (marked p mark ∷ drop (i + 1) rows) (get_or rows i d ∷ with_mark p mark (drop (i + 1) rows))) is
    ∙ (sym (append_assoc (take i rows) (get_or rows i d ∷ []) (with_mark p mark (drop (i + 1) rows)))
    ∙ ap (λ (l : List CheckpointRow). l ++ with_mark p mark (drop (i + 1) rows)) (sym (take_more rows i d lt)))))

-- Steps that are the same

pub same_place : (p q : InstanceStep) → is_same_step p (Some q) ≡ true → q ≡ p
same_place p q here =
    let parts : ((q.instance == p.instance) ≡ true) × (is_same_key q.step p.step ≡ true) = and_parts _ _ here in
    let one : q.instance ≡ p.instance = eqb-true q.instance p.instance parts.0 in
    let other : q.step ≡ p.step = same-one q.step p.step parts.1 in
    let make : ℕ → WorkKey → InstanceStep = λ i s. record { instance = i; step = s } in
    ap (λ i. make i q.step) one ∙ ap (make p.instance) other

pub own_place : (p : InstanceStep) → is_same_step p (Some p) ≡ true
own_place p =
    ap (λ b. b && is_same_key p.step p.step) (eq-eqb p.instance p.instance refl)
    ∙ same-self p.step p.step refl

pub other_place : (p q : InstanceStep) → is_same_step q (Some p) ≡ false → q ≢ p
other_place p q off same =
    let on : is_same_step q (Some p) ≡ true = ap (λ (r : InstanceStep). is_same_step r (Some p)) same ∙ own_place p in
    cc

pub apart_place : (p q : InstanceStep) → q ≢ p → is_same_step q (Some p) ≡ false
apart_place p q apart =
    (elim (is_same_step q (Some p)) as (λ b. is_same_step q (Some p) ≡ b → is_same_step q (Some p) ≡ false) [
      | true ↦ λ here. absurd (apart (sym (same_place q p here)))
      | false ↦ λ off. off
    ]) refl

-- a row at a step, looked for at another
at-place : (p q : InstanceStep) (row : CheckpointRow) → is_place q row ≡ true → is_place p row ≡ is_same_step p (Some q)
at-place p q row is =
    ap (λ (r : InstanceStep). is_same_step p (Some r)) (same_place q (step_of row) is)

-- the mark of a row, if it is at the place
abbrev mark_if : Bool → CheckpointRow → Option (List ℕ) → Option (List ℕ)
mark_if b row rest = cond b (Some row.mark) rest

mark-head : (row : CheckpointRow) (rows : List CheckpointRow) (p : InstanceStep) → mark_at (row ∷ rows) p ≡ mark_if (is_place p row) row (mark_at rows p)
mark-head row rows p =
    elim (is_place p row) as (λ b. option_map (λ (r : CheckpointRow). r.mark) (cond b (Some row) (find (is_place p) rows)) ≡ mark_if b row (mark_at rows p)) [
      | true ↦ refl
      | false ↦ refl
    ]

-- a row at another step than the one that is changed
other-row : (q p : InstanceStep) (row : CheckpointRow) (new rest : Option (List ℕ)) → is_place q row ≡ false
    → mark_if (is_place p row) row (cond (is_same_step p (Some q)) new rest) ≡ cond (is_same_step p (Some q)) new (mark_if (is_place p row) row rest)
other-row q p row new rest off =
    (elim (is_same_step p (Some q)) as (λ b. is_same_step p (Some q) ≡ b
    → mark_if (is_place p row) row (cond b new rest) ≡ cond b new (mark_if (is_place p row) row rest)) [
      | true ↦ λ here. ap (λ b. mark_if b row new) (ap (λ (r : InstanceStep). is_place r row) (sym (same_place p q here)) ∙ off)
      | false ↦ λ here. refl
    ]) refl

-- no checkpoint
abbrev unmarked : Option (List ℕ)
unmarked = None

nothing : (b : Bool) → cond b unmarked unmarked ≡ unmarked
nothing true = refl
nothing false = refl

-- A checkpoint more

pub mark_with : (q : InstanceStep) (mark : List ℕ) (p : InstanceStep) (rows : List CheckpointRow)
    → mark_at (with_mark q mark rows) p ≡ cond (is_same_step p (Some q)) (Some mark) (mark_at rows p)
mark_with q mark p [] = mark-head (marked q mark) [] p
mark_with q mark p (row ∷ rest) =
    let here : Bool = is_same_step p (Some q) in
    (elim (is_place q row) as (λ b. is_place q row ≡ b
    → mark_at (cond b (marked q mark ∷ rest) (row ∷ with_mark q mark rest)) p ≡ cond here (Some mark) (mark_at (row ∷ rest) p)) [
      | true ↦ λ is. mark-head (marked q mark) rest p
          ∙ (elim here as (λ b. cond b (Some mark) (mark_at rest p) ≡ cond b (Some mark) (mark_if b row (mark_at rest p))) [
            | true ↦ refl
            | false ↦ refl
          ]
          ∙ (ap (λ b. cond here (Some mark) (mark_if b row (mark_at rest p))) (sym (at-place p q row is))
          ∙ ap (cond here (Some mark)) (sym (mark-head row rest p))))
      | false ↦ λ is. mark-head row (with_mark q mark rest) p
          ∙ (ap (mark_if (is_place p row) row) (mark_with q mark p rest)
          ∙ (other-row q p row (Some mark) (mark_at rest p) is
          ∙ ap (cond here (Some mark)) (sym (mark-head row rest p))))
    ]) refl

-- A checkpoint less

pub mark_without : (q p : InstanceStep) (rows : List CheckpointRow)
    → mark_at (without_mark q rows) p ≡ cond (is_same_step p (Some q)) None (mark_at rows p)
mark_without q p [] = sym (nothing (is_same_step p (Some q)))
mark_without q p (row ∷ rest) =
    let here : Bool = is_same_step p (Some q) in
    (elim (is_place q row) as (λ b. is_place q row ≡ b
    → mark_at (cond (cond b false true) (row ∷ without_mark q rest) (without_mark q rest)) p ≡ cond here None (mark_at (row ∷ rest) p)) [
      | true ↦ λ is. mark_without q p rest
          ∙ (elim here as (λ b. cond b None (mark_at rest p) ≡ cond b None (mark_if b row (mark_at rest p))) [
            | true ↦ refl
            | false ↦ refl
          ]
          ∙ (ap (λ b. cond here None (mark_if b row (mark_at rest p))) (sym (at-place p q row is))
          ∙ ap (cond here None) (sym (mark-head row rest p))))
      | false ↦ λ is. mark-head row (without_mark q rest) p
          ∙ (ap (mark_if (is_place p row) row) (mark_without q p rest)
          ∙ (other-row q p row None (mark_at rest p) is
          ∙ ap (cond here None) (sym (mark-head row rest p))))
    ]) refl

-- One checkpoint at most for a step

own-row : (row : CheckpointRow) → is_place (step_of row) row ≡ true
own-row row = own_place (step_of row)

-- a row at another place than the one that is changed keeps its own
other-own : (p : InstanceStep) (row : CheckpointRow) → is_place p row ≡ false → is_same_step (step_of row) (Some p) ≡ false
other-own p row off =
    (elim (is_same_step (step_of row) (Some p)) as (λ b. is_same_step (step_of row) (Some p) ≡ b → is_same_step (step_of row) (Some p) ≡ false) [
      | true ↦ λ here.
          let same : is_place p row ≡ true = ap (λ (r : InstanceStep). is_place r row) (same_place (step_of row) p here) ∙ own-row row in
          cc
      | false ↦ λ none. none
    ]) refl

pub apart_with : (p : InstanceStep) (mark : List ℕ) (rows : List CheckpointRow) → AreApart rows → AreApart (with_mark p mark rows)
apart_with p mark [] apart = (refl, tt)
apart_with p mark (row ∷ rest) apart =
    (elim (is_place p row) as (λ b. is_place p row ≡ b → AreApart (cond b (marked p mark ∷ rest) (row ∷ with_mark p mark rest))) [
      | true ↦ λ is. (ap (mark_at rest) (sym (same_place p (step_of row) is)) ∙ apart.0, apart.1)
      | false ↦ λ is. (
        mark_with p mark (step_of row) rest
            ∙ (ap (λ b. cond b (Some mark) (mark_at rest (step_of row))) (other-own p row is) ∙ apart.0),
        apart_with p mark rest apart.1,
      )
    ]) refl

pub apart_without : (p : InstanceStep) (rows : List CheckpointRow) → AreApart rows → AreApart (without_mark p rows)
apart_without p [] apart = tt
apart_without p (row ∷ rest) apart =
    elim (is_place p row) as (λ b. AreApart (cond (cond b false true) (row ∷ without_mark p rest) (without_mark p rest))) [
      | true ↦ apart_without p rest apart.1
      | false ↦ (
        mark_without p (step_of row) rest
            ∙ (ap (cond (is_same_step (step_of row) (Some p)) None) apart.0 ∙ nothing (is_same_step (step_of row) (Some p))),
        apart_without p rest apart.1,
      )
    ]

-- Checkpoints that stay

-- a step that has no checkpoint gets none where some are left out
none-filtered : (p : CheckpointRow → Bool) (rows : List CheckpointRow) (q : InstanceStep) → mark_at rows q ≡ None → mark_at (filter p rows) q ≡ None
none-filtered p [] q none = refl
none-filtered p (row ∷ rest) q none =
    let split : mark_if (is_place q row) row (mark_at rest q) ≡ None = sym (mark-head row rest q) ∙ none in
    (elim (is_place q row) as (λ b. is_place q row ≡ b → mark_if b row (mark_at rest q) ≡ None → mark_at (filter p (row ∷ rest)) q ≡ None) [
      | true ↦ λ here some. cc
      | false ↦ λ off later.
          elim (p row) as (λ b. mark_at (cond b (row ∷ filter p rest) (filter p rest)) q ≡ None) [
            | true ↦ mark-head row (filter p rest) q ∙ (ap (λ b. mark_if b row (mark_at (filter p rest) q)) off ∙ none-filtered p rest q later)
            | false ↦ none-filtered p rest q later
          ]
    ]) refl split

pub apart_filtered : (p : CheckpointRow → Bool) (rows : List CheckpointRow) → AreApart rows → AreApart (filter p rows)
apart_filtered p [] apart = tt
apart_filtered p (row ∷ rest) apart =
    elim (p row) as (λ b. AreApart (cond b (row ∷ filter p rest) (filter p rest))) [
      | true ↦ (none-filtered p rest (step_of row) apart.0, apart_filtered p rest apart.1)
      | false ↦ apart_filtered p rest apart.1
    ]

-- a row of another job instance is at another place
other-instance : (row : CheckpointRow) (q : InstanceStep) → row.instance ≢ q.instance → is_place q row ≡ false
other-instance row q apart = ap (λ b. b && is_same_key row.step q.step) (ne_eqb row.instance q.instance apart)

-- the checkpoint of each step, once some job instances are gone
pub marks_there : (gone : ℕ → Bool) (rows : List CheckpointRow) (q : InstanceStep)
    → mark_at (checkpoints_there gone rows) q ≡ checkpoint_there gone (mark_at rows) q
marks_there gone [] q = sym (nothing (gone q.instance))
marks_there gone (row ∷ rest) q =
    let others : List CheckpointRow = checkpoints_there gone rest in
    let tail : mark_at others q ≡ cond (gone q.instance) None (mark_at rest q) = marks_there gone rest q in
    (elim (gone row.instance) as (λ b. gone row.instance ≡ b
    → mark_at (cond (not b) (row ∷ others) others) q ≡ cond (gone q.instance) None (mark_at (row ∷ rest) q)) [
      | true ↦ λ left. tail
          ∙ ((elim (gone q.instance) as (λ b. gone q.instance ≡ b → cond b None (mark_at rest q) ≡ cond b None (mark_at (row ∷ rest) q)) [
            | true ↦ λ here. refl
            | false ↦ λ there.
                let apart : row.instance ≢ q.instance = λ e. let same : gone row.instance ≡ gone q.instance = ap gone e in cc in
                sym (mark-head row rest q ∙ ap (λ b. mark_if b row (mark_at rest q)) (other-instance row q apart))
          ]) refl)
      | false ↦ λ stays. mark-head row others q
          ∙ (ap (mark_if (is_place q row) row) tail
          ∙ (elim (gone q.instance) as (λ b. gone q.instance ≡ b
          → mark_if (is_place q row) row (cond b None (mark_at rest q)) ≡ cond b None (mark_at (row ∷ rest) q)) [
            | true ↦ λ here.
                let apart : row.instance ≢ q.instance = λ e. let same : gone row.instance ≡ gone q.instance = ap gone e in cc in
                ap (λ b. mark_if b row unmarked) (other-instance row q apart)
            | false ↦ λ there. sym (mark-head row rest q)
          ]) refl)
    ]) refl
