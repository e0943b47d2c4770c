-- Names that are listed once, where one name more is listed, and the names of job instances.
use Rattle.std.proofs.Common.{◌≡◌, ℕ, ◌+◌, Bool, true, false, cond, ◌||◌, None, List, [], ◌∷◌, ◌++◌, map, refl, sym, ◌∙◌, ap, bytes_eq}
use Rattle.std.proofs.lemmas.List.{map-append}
use Rattle.std.specs.Cmp.Lexicographic.{bytes_decides}
use Rattle.jsl_model.specs.Names.{is_among, has_twice, unheld, distinct}
use Rattle.batch_history.specs.declared.call.Call.{Call}
use Rattle.batch_history.specs.declared.call.Call.TheVariants.{Start, Restart, Stop, Abandon, Claim, Checkpoint, Finish, Lose, Purge}
use Rattle.batch_history.specs.declared.call.Entry.{Entry}
use Rattle.batch_history.specs.declared.call.Reply.{Reply}
use Rattle.batch_history.specs.declared.rows.JobInstance.{JobInstance}
use Rattle.batch_history.specs.Legal.{grown, IsLegal}
use Rattle.batch_history.specs.Operations.{purged_by}
use Rattle.batch_history.specs.Rows.{History, Rows, rows}
use Rattle.batch_history.proofs.Legality.{rows_grown}
use Rattle.batch_history.specs.NextRows.{rows_after}
use Rattle.history_laws.specs.Laws.{instances_in, instances_but, names_of, names_in, with_name}

unheld-more : (held : List ℕ → Bool) (names : List (List ℕ)) (y : List ℕ)
    → unheld held (names ++ y ∷ []) ≡ cond (held y || is_among (unheld held names) y) (unheld held names) (unheld held names ++ y ∷ [])
unheld-more held [] y = elim (held y) as (λ b. cond b [] (y ∷ []) ≡ cond (b || false) [] (y ∷ [])) [
  | true ↦ refl
  | false ↦ refl
]
unheld-more held (x ∷ xs) y =
    let next : List ℕ → Bool = λ other. bytes_eq other x || held other in
    elim (held x) as (λ b. cond b (unheld held (xs ++ y ∷ [])) (x ∷ unheld next (xs ++ y ∷ []))
    ≡ cond (held y || is_among (cond b (unheld held xs) (x ∷ unheld next xs)) y) (cond b (unheld held xs) (x ∷ unheld next xs)) (cond b (unheld held xs) (x ∷ unheld next xs) ++ y ∷ [])) [
      | true ↦ unheld-more held xs y
      | false ↦
          let rest = unheld-more next xs y in
          let kept : List (List ℕ) = unheld next xs in
          ap (λ l. x ∷ l) rest
          ∙ (elim (bytes_eq y x) as (λ b. x ∷ cond ((b || held y) || is_among kept y) kept (kept ++ y ∷ [])
          ≡ cond (held y || (b || is_among kept y)) (x ∷ kept) (x ∷ kept ++ y ∷ [])) [
            | true ↦ elim (held y) as (λ b. x ∷ kept ≡ cond (b || true) (x ∷ kept) (x ∷ kept ++ y ∷ [])) [
              | true ↦ refl
              | false ↦ refl
            ]
            | false ↦ elim (held y || is_among kept y) as (λ b. x ∷ cond b kept (kept ++ y ∷ []) ≡ cond b (x ∷ kept) (x ∷ kept ++ y ∷ [])) [
              | true ↦ refl
              | false ↦ refl
            ]
          ])
    ]

-- a name that is listed already changes nothing, another comes last
pub distinct-more : (names : List (List ℕ)) (y : List ℕ) → distinct (names ++ y ∷ []) ≡ cond (is_among (distinct names) y) (distinct names) (distinct names ++ y ∷ [])
distinct-more names y = unheld-more (λ name. false) names y

-- what is held is not listed
held-out : (held : List ℕ → Bool) (names : List (List ℕ)) (z : List ℕ) → held z ≡ true → is_among (unheld held names) z ≡ false
held-out held [] z h = refl
held-out held (x ∷ xs) z h =
    let next : List ℕ → Bool = λ other. bytes_eq other x || held other in
    (elim (held x) as (λ b. held x ≡ b → is_among (cond b (unheld held xs) (x ∷ unheld next xs)) z ≡ false) [
      | true ↦ λ e. held-out held xs z h
      | false ↦ λ e. (elim (bytes_eq z x) as (λ b. bytes_eq z x ≡ b → (b || is_among (unheld next xs) z) ≡ false) [
        | true ↦ λ same. let is : z ≡ x = (bytes_decides z x).0 same in let no : held x ≡ true = ap held (sym is) ∙ h in absurd (let bad : true ≡ false = sym no ∙ e in cc)
        | false ↦ λ other. held-out next xs z (ap (λ b. b || held z) other ∙ h)
      ]) refl
    ]) refl

unheld-once : (held : List ℕ → Bool) (names : List (List ℕ)) → has_twice (unheld held names) ≡ false
unheld-once held [] = refl
unheld-once held (x ∷ xs) =
    let next : List ℕ → Bool = λ other. bytes_eq other x || held other in
    let self : bytes_eq x x ≡ true = (bytes_decides x x).1 refl in
    elim (held x) as (λ b. has_twice (cond b (unheld held xs) (x ∷ unheld next xs)) ≡ false) [
      | true ↦ unheld-once held xs
      | false ↦ ap (λ b. b || has_twice (unheld next xs)) (held-out next xs x (ap (λ b. b || held x) self)) ∙ unheld-once next xs
    ]

-- no name is listed twice
pub distinct-once : (names : List (List ℕ)) → has_twice (distinct names) ≡ false
distinct-once names = unheld-once (λ name. false) names

-- ---- The names of job instances

names-call : (r : Rows) (who at : ℕ) (call : Call) (reply : Reply) → purged_by call ≡ None
    → names_of (rows_after r record { who = who; call = call; at = at; reply = reply }).instances ≡ with_name (names_of r.instances) call
names-call r who at (Start job parameters) reply none =
    ap distinct (map-append (λ (i : JobInstance). i.job) r.instances (record { instance = r.last.instance + 1; job = job } ∷ []))
    ∙ distinct-more (map (λ i. i.job) r.instances) job
names-call r who at (Restart y parameters) reply none = refl
names-call r who at (Stop y) reply none = refl
names-call r who at (Abandon y) reply none = refl
names-call r who at Claim reply none = refl
names-call r who at (Checkpoint w mark step) reply none = refl
names-call r who at (Finish w o t step) reply none = refl
names-call r who at (Lose w) reply none = refl
names-call r who at (Purge i) reply none = cc

-- the names after an operation that removes nothing
pub names_grow : (limit : ℕ) (h : History) (e : Entry) → IsLegal limit (grown h e) → purged_by e.call ≡ None
    → names_in (grown h e) ≡ with_name (names_in h) e.call
names_grow limit h e legal none =
    ap (λ (r : Rows). names_of r.instances) (rows_grown limit h e legal) ∙ names-call (rows h) e.who e.at e.call e.reply none

-- those after a purge
pub names_left : (limit : ℕ) (h : History) (e : Entry) (i : ℕ) → IsLegal limit (grown h e) → e.call ≡ Purge i
    → names_in (grown h e) ≡ names_of (instances_but i (instances_in h))
names_left limit h e i legal is =
    ap (λ (r : Rows). names_of r.instances) (rows_grown limit h e legal)
    ∙ ap (λ call. names_of (rows_after (rows h) record { who = e.who; call = call; at = e.at; reply = e.reply }).instances) is

-- no name stands twice
pub names_once : (h : History) → has_twice (names_in h) ≡ false
names_once h = distinct-once (map (λ i. i.job) (instances_in h))
