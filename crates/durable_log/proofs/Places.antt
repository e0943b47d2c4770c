-- What stands at a place of a file: a record that is written is read, and what is read was written.
use Rattle.std.proofs.Common.{◌≡◌, ℕ, ◌+◌, ◌<◌, ◌^◌, List, [], ◌∷◌, ◌++◌, length, get_or, take, drop, Bool, true, false, refl, sym, ◌∙◌, ap, subst, arith, append_assoc, length-append, take-append-drop}
use Rattle.std.specs.Prelude.{◌==◌, ◌&&◌, nat_lt, if◌then◌else◌}
use Rattle.std.proofs.lemmas.List.{take_at, length-take-le, drop_more, get_or_at}
use Rattle.std.proofs.lemmas.Bool.Decides.{nat_tests}
use Rattle.std.proofs.Math.Seq.{drop-append-add}
use Rattle.durable_log.specs.declared.link.Link.{Link}
use Rattle.durable_log.specs.Format.{LogRecord, column, record_check, link_after, columns, frame, is_open, Column, Absent, Number, column_of, Next, End, Damaged, Found, record_by, fits, found, record_in, with_reply_check, with_check, with_number, with_again, with_length, after_front, Behind, after_gate, next}
use Rattle.durable_log.proofs.Links.{IsLink, next-fits}
use Rattle.durable_log.proofs.Numbers.{eq-same, column-read, column-found}

-- A record that is written is read

less-true : (n m : ℕ) → n < m → nat_lt n m ≡ true
less-true n m less = grind (arith, nat_tests)

module _ (link : Link) (r : LogRecord) (x : List ℕ) where
  abbrev n : ℕ
  n = length r.line

  abbrev body : List ℕ
  body = r.line ++ 10 ∷ x

  abbrev check : ℕ
  check = record_check link r

  front-is : take n body ≡ r.line
  front-is = take_at r.line (10 ∷ x) n refl

  rest-is : drop (n + 1) body ≡ x
  rest-is = drop-append-add r.line (10 ∷ x) 1

  long : n < length body
  long = omega (arith, length-append r.line (10 ∷ x))

  feed-is : get_or body n 0 ≡ 10
  feed-is = get_or_at r.line 10 x 0 n refl

  check-is : (record_check link (record_by r.mark (take n body) r.reply_check) == check) ≡ true
  check-is = ap (λ (l : List ℕ). record_check link (record_by r.mark l r.reply_check) == check) front-is ∙ eq-same check

  fits-same : fits link r.mark n check r.reply_check body ≡ true
  fits-same = λ i. less-true n (length body) long i && ((feed-is i == 10) && check-is i)

  record-same : record_in link r.mark n check r.reply_check body ≡ Found r (link_after link r) x
  record-same =
      (λ i. if fits-same i then found link (record_by r.mark (take n body) r.reply_check) (drop (n + 1) body) else Damaged)
      ∙ (λ i. found link (record_by r.mark (front-is i) r.reply_check) (rest-is i))

  pub front-reads : n < 2 ^ 32 → r.reply_check < 2 ^ 32 → IsLink link → after_front link (frame link r ++ x) ≡ Found r (link_after link r) x
  front-reads small reply_small is =
      let made = next-fits link r is in
      ap (λ (l : List ℕ). after_front link (columns r.mark n link.number check r.reply_check l)) (append_assoc r.line (10 ∷ []) x)
      ∙ ap (with_length link r.mark) (column-read n (column n (column link.number (column check (column r.reply_check body)))) small)
      ∙ ap (with_again link r.mark n) (column-read n (column link.number (column check (column r.reply_check body))) small)
      ∙ (λ i. if eq-same n i then with_number link r.mark n (column_of (column link.number (column check (column r.reply_check body)))) else Damaged)
      ∙ ap (with_number link r.mark n) (column-read link.number (column check (column r.reply_check body)) is.number)
      ∙ (λ i. if eq-same link.number i then with_check link r.mark n (column_of (column check (column r.reply_check body))) else Damaged)
      ∙ ap (with_check link r.mark n) (column-read check (column r.reply_check body) made.check)
      ∙ ap (with_reply_check link r.mark n check) (column-read r.reply_check body reply_small)
      ∙ record-same

-- What is read was written

record RecordFound (link : Link) (mark n check reply_check : ℕ) (body : List ℕ) (r : LogRecord) (rest : List ℕ) : Type 0 where
  mark_is : mark ≡ r.mark
  size : n ≡ length r.line
  check_is : check ≡ record_check link r
  reply_is : reply_check ≡ r.reply_check
  split : body ≡ r.line ++ 10 ∷ rest

three-parts : (m l g c d : ℕ) → (nat_lt m l && (g == 10 && c == d)) ≡ true → (m < l) × (g ≡ 10) × (c ≡ d)
three-parts m l g c d is = (grind (arith, nat_tests), grind (arith, nat_tests), grind (arith, nat_tests))

record-by : (link : Link) (mark n check reply_check : ℕ) (body : List ℕ) (r : LogRecord) (after : Link) (rest : List ℕ) (v : Bool) → fits link mark n check reply_check body ≡ v
    → (if v then found link (record_by mark (take n body) reply_check) (drop (n + 1) body) else Damaged) ≡ Found r after rest
    → RecordFound link mark n check reply_check body r rest × (after ≡ link_after link r)
record-by link mark n check reply_check body r after rest false fit is = absurd (cc)
record-by link mark n check reply_check body r after rest true fit is =
    let made : LogRecord = record_by mark (take n body) reply_check in
    let r_is : made ≡ r = cc in
    let after_is : link_after link made ≡ after = cc in
    let rest_is : drop (n + 1) body ≡ rest = cc in
    let p = three-parts n (length body) (get_or body n 0) (record_check link made) check fit in
    let size : length (take n body) ≡ n = length-take-le n body (omega (arith, p.0)) in
    let split : body ≡ take n body ++ 10 ∷ drop (n + 1) body =
    sym (take-append-drop n body) ∙ ap (λ (l : List ℕ). take n body ++ l) (drop_more body n 0 p.0 ∙ ap (λ (k : ℕ). k ∷ drop (n + 1) body) p.1) in (
      subst (λ (q : LogRecord). RecordFound link mark n check reply_check body q rest) r_is
          (subst (λ (l : List ℕ). RecordFound link mark n check reply_check body (record_by mark (take n body) reply_check) l) rest_is
          (record { mark_is = refl; size = sym size; check_is = sym p.2; reply_is = refl; split = split })),
      sym after_is ∙ ap (link_after link) r_is,
    )

record-found : (link : Link) (mark n check reply_check : ℕ) (body : List ℕ) (r : LogRecord) (after : Link) (rest : List ℕ) → record_in link mark n check reply_check body ≡ Found r after rest
    → RecordFound link mark n check reply_check body r rest × (after ≡ link_after link r)
record-found link mark n check reply_check body r after rest is =
    record-by link mark n check reply_check body r after rest (fits link mark n check reply_check body) refl is

-- a column that stands there, and what is made of it
record ColumnThen (col : Column) (more : ℕ → List ℕ → Next) (result : Next) : Type 0 where
  n : ℕ
  behind : List ℕ
  is : col ≡ Number n behind
  then_is : more n behind ≡ result

reply-then : (link : Link) (mark n sum : ℕ) (col : Column) (result : Next) → (Damaged ≡ result → ⊥) → with_reply_check link mark n sum col ≡ result
    → ColumnThen col (λ k body. record_in link mark n sum k body) result
reply-then link mark n sum Absent result other is = absurd (other is)
reply-then link mark n sum (Number k behind) result other is = record { n = k; behind = behind; is = refl; then_is = is }

check-then : (link : Link) (mark n : ℕ) (col : Column) (result : Next) → (Damaged ≡ result → ⊥) → with_check link mark n col ≡ result
    → ColumnThen col (λ k body. with_reply_check link mark n k (column_of body)) result
check-then link mark n Absent result other is = absurd (other is)
check-then link mark n (Number k behind) result other is = record { n = k; behind = behind; is = refl; then_is = is }

number-then : (link : Link) (mark n : ℕ) (col : Column) (result : Next) → (Damaged ≡ result → ⊥) → with_number link mark n col ≡ result
    → ColumnThen col (λ k body. if k == link.number then with_check link mark n (column_of body) else Damaged) result
number-then link mark n Absent result other is = absurd (other is)
number-then link mark n (Number k behind) result other is = record { n = k; behind = behind; is = refl; then_is = is }

again-then : (link : Link) (mark n : ℕ) (col : Column) (result : Next) → (Damaged ≡ result → ⊥) → with_again link mark n col ≡ result
    → ColumnThen col (λ k body. if k == n then with_number link mark n (column_of body) else Damaged) result
again-then link mark n Absent result other is = absurd (other is)
again-then link mark n (Number k behind) result other is = record { n = k; behind = behind; is = refl; then_is = is }

length-then : (link : Link) (mark : ℕ) (col : Column) (result : Next) → (Damaged ≡ result → ⊥) → with_length link mark col ≡ result
    → ColumnThen col (λ k body. with_again link mark k (column_of body)) result
length-then link mark Absent result other is = absurd (other is)
length-then link mark (Number k behind) result other is = record { n = k; behind = behind; is = refl; then_is = is }

-- a column that has the number that it has to have
tested-by : (a b : ℕ) (x result : Next) (v : Bool) → (Damaged ≡ result → ⊥) → (a == b) ≡ v → (if v then x else Damaged) ≡ result → (a ≡ b) × (x ≡ result)
tested-by a b x result false other test is = absurd (other is)
tested-by a b x result true other test is = (grind (arith, nat_tests), is)

tested : (a b : ℕ) (x result : Next) → (Damaged ≡ result → ⊥) → (if a == b then x else Damaged) ≡ result → (a ≡ b) × (x ≡ result)
tested a b x result other is = tested-by a b x result (a == b) other refl is

-- a record that was read: it stands there as it is written
pub record FrontFound (link : Link) (bytes : List ℕ) (r : LogRecord) (after : Link) (rest : List ℕ) : Type 0 where
  pub split : bytes ≡ frame link r ++ rest
  pub small : length r.line < 2 ^ 32
  pub reply_small : r.reply_check < 2 ^ 32
  pub after_is : after ≡ link_after link r

columns-found : (link : Link) (mark : ℕ) (bytes : List ℕ) (r : LogRecord) (after : Link) (rest : List ℕ) → with_length link mark (column_of bytes) ≡ Found r after rest
    → FrontFound link (32 ∷ mark ∷ 32 ∷ bytes) r after rest
columns-found link mark bytes r after rest is =
    let result = Found r after rest in
    let other : Damaged ≡ result → ⊥ = λ same. cc in
    let one = length-then link mark (column_of bytes) result other is in
    let two = again-then link mark one.n (column_of one.behind) result other one.then_is in
    let twice = tested two.n one.n (with_number link mark one.n (column_of two.behind)) result other two.then_is in
    let three = number-then link mark one.n (column_of two.behind) result other twice.1 in
    let numbered = tested three.n link.number (with_check link mark one.n (column_of three.behind)) result other three.then_is in
    let four = check-then link mark one.n (column_of three.behind) result other numbered.1 in
    let five = reply-then link mark one.n four.n (column_of four.behind) result other four.then_is in
    let by = record-found link mark one.n four.n five.n five.behind r after rest five.then_is in
    let f = by.0 in
    let again_is : two.n ≡ length r.line = twice.0 ∙ f.size in
    let c1 = column-found bytes one.n one.behind one.is in
    let c2 = column-found one.behind two.n two.behind two.is in
    let c3 = column-found two.behind three.n three.behind three.is in
    let c4 = column-found three.behind four.n four.behind four.is in
    let c5 = column-found four.behind five.n five.behind five.is in
    record {
      split = ap (λ (l : List ℕ). 32 ∷ mark ∷ 32 ∷ l)
          (c1.is ∙ ap (column one.n) (c2.is ∙ ap (column two.n) (c3.is ∙ ap (column three.n) (c4.is ∙ ap (column four.n) (c5.is ∙ ap (column five.n) f.split)))))
          ∙ (λ i. 32 ∷ f.mark_is i ∷ 32 ∷ column (f.size i) (column (again_is i) (column (numbered.0 i) (column (f.check_is i) (column (f.reply_is i) (r.line ++ 10 ∷ rest))))))
          ∙ ap (λ (l : List ℕ). columns r.mark (length r.line) link.number (record_check link r) r.reply_check l) (sym (append_assoc r.line (10 ∷ []) rest));
      small = subst (λ (k : ℕ). k < 2 ^ 32) f.size c1.small;
      reply_small = subst (λ (k : ℕ). k < 2 ^ 32) f.reply_is c5.small;
      after_is = by.1;
    }

spaces : (a b : ℕ) → (a == 32 && b == 32) ≡ true → (a ≡ 32) × (b ≡ 32)
spaces a b is = (grind (arith, nat_tests), grind (arith, nat_tests))

front-by : (link : Link) (a mark b : ℕ) (bytes : List ℕ) (r : LogRecord) (after : Link) (rest : List ℕ) (v : Bool) → (a == 32 && b == 32) ≡ v
    → (if v then with_length link mark (column_of bytes) else Damaged) ≡ Found r after rest → FrontFound link (a ∷ mark ∷ b ∷ bytes) r after rest
front-by link a mark b bytes r after rest false test is = absurd (cc)
front-by link a mark b bytes r after rest true test is =
    let s = spaces a b test in
    subst (λ (l : List ℕ). FrontFound link l r after rest) (λ i. sym s.0 i ∷ mark ∷ sym s.1 i ∷ bytes) (columns-found link mark bytes r after rest is)

pub front-found : (link : Link) (bytes : List ℕ) (r : LogRecord) (after : Link) (rest : List ℕ) → after_front link bytes ≡ Found r after rest → FrontFound link bytes r after rest
front-found link [] r after rest is = absurd (cc)
front-found link (a ∷ mark ∷ b ∷ bytes) r after rest is = front-by link a mark b bytes r after rest (a == 32 && b == 32) refl is
front-found link bytes r after rest is = absurd (cc)

-- What stands behind an open gate is no end, but for nothing

record-not_end : (link : Link) (mark n check reply_check : ℕ) (body : List ℕ) → record_in link mark n check reply_check body ≡ End → ⊥
record-not_end link mark n check reply_check body =
    elim (fits link mark n check reply_check body) as (λ v. (if v then found link (record_by mark (take n body) reply_check) (drop (n + 1) body) else Damaged) ≡ End → ⊥) [
      | true ↦ λ is. cc
      | false ↦ λ is. cc
    ]

reply-not_end : (link : Link) (mark n check : ℕ) (col : Column) → with_reply_check link mark n check col ≡ End → ⊥
reply-not_end link mark n check Absent is = cc
reply-not_end link mark n check (Number k body) is = record-not_end link mark n check k body is

check-not_end : (link : Link) (mark n : ℕ) (col : Column) → with_check link mark n col ≡ End → ⊥
check-not_end link mark n Absent is = cc
check-not_end link mark n (Number k rest) is = reply-not_end link mark n k (column_of rest) is

number-not_end : (link : Link) (mark n : ℕ) (col : Column) → with_number link mark n col ≡ End → ⊥
number-not_end link mark n Absent is = cc
number-not_end link mark n (Number k rest) is =
    (elim (k == link.number) as (λ v. (if v then with_check link mark n (column_of rest) else Damaged) ≡ End → ⊥) [
      | true ↦ check-not_end link mark n (column_of rest)
      | false ↦ λ no. cc
    ]) is

again-not_end : (link : Link) (mark n : ℕ) (col : Column) → with_again link mark n col ≡ End → ⊥
again-not_end link mark n Absent is = cc
again-not_end link mark n (Number k rest) is =
    (elim (k == n) as (λ v. (if v then with_number link mark n (column_of rest) else Damaged) ≡ End → ⊥) [
      | true ↦ number-not_end link mark n (column_of rest)
      | false ↦ λ no. cc
    ]) is

length-not_end : (link : Link) (mark : ℕ) (col : Column) → with_length link mark col ≡ End → ⊥
length-not_end link mark Absent is = cc
length-not_end link mark (Number k rest) is = again-not_end link mark k (column_of rest) is

front-not_end : (link : Link) (a mark b : ℕ) (bytes : List ℕ) → after_front link (a ∷ mark ∷ b ∷ bytes) ≡ End → ⊥
front-not_end link a mark b bytes =
    elim (a == 32 && b == 32) as (λ v. (if v then with_length link mark (column_of bytes) else Damaged) ≡ End → ⊥) [
      | true ↦ length-not_end link mark (column_of bytes)
      | false ↦ λ is. cc
    ]

pub not-end : (link : Link) (x : ℕ) (rest : List ℕ) → after_front link (x ∷ rest) ≡ End → ⊥
not-end link a (mark ∷ b ∷ bytes) is = front-not_end link a mark b bytes is
not-end link a rest is = cc

-- behind an open gate
pub gate-reads : (link : Link) (a b c : ℕ) (x : List ℕ) → is_open a b c ≡ true → next link (a ∷ b ∷ c ∷ x) ≡ after_front link x
unfolding next
gate-reads link a b c x is = ap (λ (v : Bool). after_gate link (Behind v x)) is
