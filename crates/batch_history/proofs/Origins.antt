-- Job instances and job executions: the i-th Start, and the x-th Start or Restart, found by search, are those that the
-- rows have under these numbers.
use Rattle.std.proofs.Common.{◌≡◌, ℕ, suc, ◌+◌, ◌==◌, ◌≤◌, ◌<◌, true, false, cond, Option, None, Some, is_some, List, [], ◌∷◌, ◌++◌, length, find, refl, sym, ◌∙◌, ap, arith}
use Rattle.std.specs.Option.{option_map, option_or}
use Rattle.std.proofs.lemmas.List.{append-nil}
use Rattle.std.proofs.lemmas.List.Folds.{find-append}
use Rattle.std.proofs.lemmas.Bool.{eqb-true, ne_eqb}
use Rattle.batch_ids.specs.Parameters.{Pair}
use Rattle.batch_history.specs.NextRows.{instances_after}
use Rattle.batch_history.specs.declared.call.Call.{Call}
use Rattle.batch_history.specs.declared.call.Call.TheVariants.{Start, Restart, Stop, Abandon, Claim, Checkpoint, Finish, Lose, Purge}
use Rattle.batch_history.specs.declared.call.Reply.{Reply}
use Rattle.batch_history.specs.declared.call.Entry.{Entry}
use Rattle.batch_history.specs.declared.rows.JobInstance.{JobInstance}
use Rattle.batch_history.proofs.Folds.{made, made_after, remade, is_made, makes, instances_of, instance_made}
use Rattle.batch_history.specs.Executions.{Made, Origin, instance_begun_by, job_instances, job_execution_count, job_instance_count, makes_job_execution, restarted_origin, made_as, origin_by_call, origin_of, instance_of_execution}
use Rattle.batch_history.specs.Operations.{makes_execution, makes_instance}
use Rattle.batch_history.proofs.Stepping.{remade-number, AreNumbered, numbered}
use Rattle.batch_history.proofs.Adding.{counted, one-more}
use Rattle.batch_history.proofs.Pasts.{Fits, AllFit}

-- How many there are

executions-step : (older : List Entry) (who at : ℕ) (call : Call) (reply : Reply) → job_execution_count older ≡ length (made older)
    → job_execution_count (record { who = who; call = call; at = at; reply = reply } ∷ older) ≡ length (made_after (instances_of older) at call (made older))
executions-step older who at (Start job parameters) reply h =
    counted (λ (e : Entry). makes_execution e.call) (record { who = who; call = Start job parameters; at = at; reply = reply }) older refl
    ∙ (ap suc h ∙ sym (one-more (made older) (record { execution = length (made older) + 1; instance = length (instances_of older) + 1; job = job; parameters = parameters; create = at })))
executions-step older who at (Restart y parameters) reply h =
    counted (λ (e : Entry). makes_execution e.call) (record { who = who; call = Restart y parameters; at = at; reply = reply }) older refl
    ∙ (ap suc h ∙ sym (one-more (made older) (remade (length (made older) + 1) parameters at (find (is_made y) (made older)))))
executions-step older who at (Stop y) reply h = h
executions-step older who at (Abandon y) reply h = h
executions-step older who at Claim reply h = h
executions-step older who at (Checkpoint w mark step) reply h = h
executions-step older who at (Finish w o t step) reply h = h
executions-step older who at (Lose w) reply h = h
executions-step older who at (Purge i) reply h = h

-- there are as many as the rows have
pub executions-made : (past : List Entry) → job_execution_count past ≡ length (made past)
executions-made [] = refl
executions-made (e ∷ older) = executions-step older e.who e.at e.call e.reply (executions-made older)

instances-step : (older : List Entry) (who at : ℕ) (call : Call) (reply : Reply) → job_instance_count older ≡ length (instances_of older)
    → job_instance_count (record { who = who; call = call; at = at; reply = reply } ∷ older) ≡ length (instances_after (length (instances_of older) + 1) call (instances_of older))
instances-step older who at (Start job parameters) reply h =
    counted (λ (e : Entry). makes_instance e.call) (record { who = who; call = Start job parameters; at = at; reply = reply }) older refl
    ∙ (ap suc h ∙ sym (one-more (instances_of older) (record { instance = length (instances_of older) + 1; job = job })))
instances-step older who at (Restart y parameters) reply h = h
instances-step older who at (Stop y) reply h = h
instances-step older who at (Abandon y) reply h = h
instances-step older who at Claim reply h = h
instances-step older who at (Checkpoint w mark step) reply h = h
instances-step older who at (Finish w o t step) reply h = h
instances-step older who at (Lose w) reply h = h
instances-step older who at (Purge i) reply h = h

pub instances-made : (past : List Entry) → job_instance_count past ≡ length (instances_of past)
instances-made [] = refl
instances-made (e ∷ older) = instances-step older e.who e.at e.call e.reply (instances-made older)

begun-after : (older : List Entry) (call : Call) → instances_of older ++ instance_begun_by (job_instance_count older + 1) call ≡ instances_after (length (instances_of older) + 1) call (instances_of older)
begun-after older (Start job parameters) =
    ap (λ (n : ℕ). instances_of older ++ record { instance = n + 1; job = job } ∷ []) (instances-made older)
begun-after older (Restart y parameters) = append-nil (instances_of older)
begun-after older (Stop y) = append-nil (instances_of older)
begun-after older (Abandon y) = append-nil (instances_of older)
begun-after older Claim = append-nil (instances_of older)
begun-after older (Checkpoint w mark step) = append-nil (instances_of older)
begun-after older (Finish w o t step) = append-nil (instances_of older)
begun-after older (Lose w) = append-nil (instances_of older)
begun-after older (Purge i) = append-nil (instances_of older)

-- the job instances are those that the rows have
pub instances-law : (past : List Entry) → job_instances past ≡ instances_of past
instances-law [] = refl
instances-law (e ∷ older) =
    ap (λ (rows : List JobInstance). rows ++ instance_begun_by (job_instance_count older + 1) e.call) (instances-law older) ∙ begun-after older e.call

-- which entry makes one
pub making : (older : List Entry) (x : ℕ) (call : Call) → makes (length (made older)) x call ≡ makes_job_execution older x call
making older x (Start job parameters) = ap (λ n. n + 1 == x) (sym (executions-made older))
making older x (Restart y parameters) = ap (λ n. n + 1 == x) (sym (executions-made older))
making older x (Stop y) = refl
making older x (Abandon y) = refl
making older x Claim = refl
making older x (Checkpoint w mark step) = refl
making older x (Finish w o t step) = refl
making older x (Lose w) = refl
making older x (Purge i) = refl

-- What is found

pub find-past : (x k : ℕ) (ms : List Made) → AreNumbered k ms → length ms + k ≤ x → find (is_made x) ms ≡ None
find-past x k [] h le = refl
find-past x k (m ∷ ms) h le =
    let off : (m.execution == x) ≡ false = ne_eqb m.execution x (λ e. omega (arith, h.0, e)) in
    rw off (find-past x (k + 1) ms h.1 (omega arith))

made-among : (y k : ℕ) (ms : List Made) → AreNumbered k ms → is_some (find (is_made y) ms) ≡ true → y < length ms + k
made-among y k [] h e = cc
made-among y k (m ∷ ms) h e =
    (elim (m.execution == y) as (λ b. (m.execution == y) ≡ b → is_some (cond b (Some m) (find (is_made y) ms)) ≡ true → y < length (m ∷ ms) + k) [
      | true ↦ λ is s. let here : m.execution ≡ y = eqb-true m.execution y is in omega (arith, h.0, here)
      | false ↦ λ is s. omega (arith, made-among y (k + 1) ms h.1 s)
    ]) refl e

-- who was made is numbered within
pub made-within : (older : List Entry) (y : ℕ) → is_some (find (is_made y) (made older)) ≡ true → y ≤ job_execution_count older
made-within older y some = omega (arith, made-among y 1 (made older) (numbered older) some, executions-made older)

or-none : {X : Type 0} (o : Option X) → option_or o None ≡ o
or-none None = refl
or-none (Some x) = refl

find-more : (x : ℕ) (ms : List Made) (m : Made) (old new : Option Origin) → AreNumbered 1 ms → m.execution ≡ length ms + 1
    → find (is_made x) ms ≡ option_map (made_as x) old
    → (x ≡ length ms + 1 → Some m ≡ option_map (made_as x) new)
    → find (is_made x) (ms ++ m ∷ []) ≡ option_map (made_as x) (cond (length ms + 1 == x) new old)
find-more x ms m old new h number before here =
    find-append (is_made x) ms (m ∷ [])
    ∙ (ap (λ n. option_or (find (is_made x) ms) (cond (n == x) (Some m) None)) number
    ∙ (elim (length ms + 1 == x) as (λ b. (length ms + 1 == x) ≡ b
    → option_or (find (is_made x) ms) (cond b (Some m) None) ≡ option_map (made_as x) (cond b new old)) [
      | true ↦ λ e. let is : length ms + 1 ≡ x = eqb-true (length ms + 1) x e in
          ap (λ f. option_or f (Some m)) (find-past x 1 ms h (omega arith)) ∙ here (sym is)
      | false ↦ λ e. or-none (find (is_made x) ms) ∙ before
    ]) refl)

remade-found : (x y at : ℕ) (parameters : List Pair) (found : Option Made) (earlier : Option Origin) → found ≡ option_map (made_as y) earlier → is_some found ≡ true
    → Some (remade x parameters at found) ≡ option_map (made_as x) (restarted_origin parameters at earlier)
remade-found x y at parameters found None is some = cc
remade-found x y at parameters found (Some o) is some = ap (λ (f : Option Made). Some (remade x parameters at f)) is

origin-step : (older : List Entry) (at : ℕ) (call : Call) (reply : Reply) (x : ℕ) → Fits older call reply
    → ((y : ℕ) → find (is_made y) (made older) ≡ option_map (made_as y) (origin_of older y))
    → find (is_made x) (made_after (instances_of older) at call (made older))
    ≡ option_map (made_as x) (cond (makes_job_execution older x call) (origin_by_call (job_instance_count older) at (origin_of older) call) (origin_of older x))
origin-step older at (Start job parameters) reply x fits before =
    let n : ℕ = length (made older) in
    let new : Option Origin = Some record { instance = job_instance_count older + 1; job = job; parameters = parameters; create = at } in
    find-more x (made older) (record { execution = n + 1; instance = length (instances_of older) + 1; job = job; parameters = parameters; create = at })
    (origin_of older x) new (numbered older) refl (before x)
    (λ is. ap (λ k. Some record { execution = k; instance = length (instances_of older) + 1; job = job; parameters = parameters; create = at }) (sym is)
    ∙ ap (λ k. Some record { execution = x; instance = k + 1; job = job; parameters = parameters; create = at }) (sym (instances-made older)))
    ∙ ap (λ k. option_map (made_as x) (cond (k + 1 == x) new (origin_of older x))) (sym (executions-made older))
origin-step older at (Restart y parameters) reply x fits before =
    let n : ℕ = length (made older) in
    let found : Option Made = find (is_made y) (made older) in
    let new : Option Origin = restarted_origin parameters at (origin_of older y) in
    find-more x (made older) (remade (n + 1) parameters at found) (origin_of older x) new (numbered older) (remade-number (n + 1) at parameters found) (before x)
    (λ is. ap (λ k. Some (remade k parameters at found)) (sym is) ∙ remade-found x y at parameters found (origin_of older y) (before y) fits.1)
    ∙ ap (λ k. option_map (made_as x) (cond (k + 1 == x) new (origin_of older x))) (sym (executions-made older))
origin-step older at (Stop y) reply x fits before = before x
origin-step older at (Abandon y) reply x fits before = before x
origin-step older at Claim reply x fits before = before x
origin-step older at (Checkpoint w mark step) reply x fits before = before x
origin-step older at (Finish w o t step) reply x fits before = before x
origin-step older at (Lose w) reply x fits before = before x
origin-step older at (Purge i) reply x fits before = before x

-- job execution x, if there is one, is the one that the rows have
pub origin-law : (past : List Entry) → AllFit past → (x : ℕ) → find (is_made x) (made past) ≡ option_map (made_as x) (origin_of past x)
origin-law [] fits x = refl
origin-law (e ∷ older) fits x = origin-step older e.at e.call e.reply x fits.0 (λ y. origin-law older fits.1 y)

instance-as : (x : ℕ) (o : Option Origin) → option_map (λ (m : Made). m.instance) (option_map (made_as x) o) ≡ option_map (λ (o : Origin). o.instance) o
instance-as x None = refl
instance-as x (Some o) = refl

-- its job instance is the one that the rows have
pub instance-law : (past : List Entry) → AllFit past → (x : ℕ) → instance_made (made past) x ≡ instance_of_execution past x
instance-law past fits x =
    ap (λ (o : Option Made). option_map (λ m. m.instance) o) (origin-law past fits x) ∙ instance-as x (origin_of past x)
