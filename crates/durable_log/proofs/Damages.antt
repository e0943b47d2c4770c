-- A file of records in which one byte was changed is refused, or has the same records.
use Rattle.std.proofs.Common.{◌≡◌, ◌⊎◌, inl, inr, ⊎_elim, ℕ, ◌<◌, ◌≤◌, ◌^◌, List, [], ◌∷◌, ◌++◌, length, get_or, take, drop, Bool, true, false, refl, sym, ◌∙◌, ap, subst, arith, append_assoc, length-append}
use Rattle.std.specs.Prelude.{◌==◌}
use Rattle.std.proofs.lemmas.List.{append-nil, take_at, drop_at}
use Rattle.durable_log.specs.declared.link.Link.{Link}
use Rattle.durable_log.specs.Format.{LogRecord, record_check, link_after, links_after, covered, digits, column, columns, Next, End, Damaged, Found, after_front, Reading, read, then_read, whole, with_record, prepended, blocks, frame}
use Rattle.durable_log.specs.Files.{header, first_link, is_known, version_of, StandsFor}
use Rattle.durable_log.specs.Logs.{AreSmall}
use Rattle.durable_log.specs.Damage.{OneOff, IsRefused}
use Rattle.durable_log.proofs.Numbers.{digits-same}
use Rattle.durable_log.proofs.Links.{IsLink, next-fits, behind-fits}
use Rattle.durable_log.proofs.Places.{front-found, not-end, gate-reads}
use Rattle.durable_log.proofs.Blocks.{read-step, read-blocks, read-end, next-few}
use Rattle.durable_log.proofs.One.{off-same, off-is, Off, split-off, changed-at, Opened, gate-off}

prefix-same : (xs ys us vs : List ℕ) → length xs ≡ length us → xs ++ ys ≡ us ++ vs → (xs ≡ us) × (ys ≡ vs)
prefix-same xs ys us vs size is = (
  sym (take_at xs ys (length xs) refl) ∙ ap (take (length xs)) is ∙ take_at us vs (length xs) (sym size),
  sym (drop_at xs ys (length xs) refl) ∙ ap (drop (length xs)) is ∙ drop_at us vs (length xs) (sym size),
)

-- two lists in which one byte differs, by a place in both
record Apart (front body front' body' : List ℕ) : Type 0 where
  front_off : OneOff front front'
  body_off : OneOff body body'
  one : (front' ≡ front) ⊎ (body' ≡ body)

apart : (front body front' body' : List ℕ) → length front' ≡ length front → OneOff (front ++ body) (front' ++ body') → Apart front body front' body'
apart front body front' body' size off =
    let s = split-off front body (front' ++ body') off in
    let same = prefix-same s.es s.rest front' body' (s.size ∙ sym size) (sym s.split) in
    record {
      front_off = subst (OneOff front) same.0 s.off;
      body_off = subst (OneOff body) same.1 s.rest_off;
      one = ⊎_elim (λ (is : s.es ≡ front). inl (sym same.0 ∙ is)) (λ (is : s.rest ≡ body). inr (sym same.1 ∙ is)) s.one;
    }

tail-off : (x : ℕ) (bytes changed : List ℕ) → OneOff (x ∷ bytes) (x ∷ changed) → OneOff bytes changed
tail-off x bytes changed (inl here) = off-is bytes changed (sym here.2)
tail-off x bytes changed (inr there) = there.1

-- with the same byte at the place
apart-at : (x : ℕ) (front body front' body' : List ℕ) → length front' ≡ length front → OneOff (front ++ x ∷ body) (front' ++ x ∷ body') → Apart front body front' body'
apart-at x front body front' body' size off =
    let a = apart front (x ∷ body) front' (x ∷ body') size off in
    record {
      front_off = a.front_off;
      body_off = tail-off x body body' a.body_off;
      one = ⊎_elim (λ (is : front' ≡ front). inl is) (λ (is : x ∷ body' ≡ x ∷ body). inr (ap (drop 1) is)) a.one;
    }

front-off : (front front' body : List ℕ) → OneOff front front' → OneOff (front ++ body) (front' ++ body)
front-off [] [] body off = off-same body
front-off [] (y ∷ front') body off = absurd off
front-off (x ∷ front) [] body off = absurd off
front-off (x ∷ front) (y ∷ front') body (inl here) = inl (here.0, here.1, ap (λ (l : List ℕ). l ++ body) here.2)
front-off (x ∷ front) (y ∷ front') body (inr there) = inr (there.0, front-off front front' body there.1)

body-off : (front body body' : List ℕ) → OneOff body body' → OneOff (front ++ body) (front ++ body')
body-off [] body body' off = off
body-off (x ∷ front) body body' off = inr (refl, body-off front body body' off)

join : (front body front' body' : List ℕ) → OneOff front front' → OneOff body body' → (front' ≡ front) ⊎ (body' ≡ body) → OneOff (front ++ body) (front' ++ body')
join front body front' body' f b (inl same) = subst (λ (l : List ℕ). OneOff (front ++ body) (l ++ body')) (sym same) (body-off front body body' b)
join front body front' body' f b (inr same) = subst (λ (l : List ℕ). OneOff (front ++ body) (front' ++ l)) (sym same) (front-off front front' body f)

-- columns that are the same have the same digits, and the same stands behind them
same-column : (n m : ℕ) (rest rest' : List ℕ) → column n rest ≡ column m rest' → (digits n ≡ digits m) × (rest ≡ rest')
same-column n m rest rest' is =
    let same = prefix-same (digits n) (32 ∷ rest) (digits m) (32 ∷ rest') refl is in
    (same.0, ap (drop 1) same.1)

-- two records as they are written in one place, of which one byte differs
module _ (link : Link) (r q : LogRecord) (rest more : List ℕ) (fits : IsLink link) (small : length r.line < 2 ^ 32) (reply_small : r.reply_check < 2 ^ 32) (small_q : length q.line < 2 ^ 32) (reply_small_q : q.reply_check < 2 ^ 32)
    (off : OneOff (columns r.mark (length r.line) link.number (record_check link r) r.reply_check (r.line ++ 10 ∷ rest)) (columns q.mark (length q.line) link.number (record_check link q) q.reply_check (q.line ++ 10 ∷ more))) where
  abbrev n : ℕ
  n = length r.line

  abbrev m : ℕ
  m = length q.line

  abbrev c : ℕ
  c = record_check link r

  abbrev d : ℕ
  d = record_check link q

  abbrev body : List ℕ
  body = r.line ++ 10 ∷ rest

  abbrev body_q : List ℕ
  body_q = q.line ++ 10 ∷ more

  abbrev at_reply : List ℕ
  at_reply = column r.reply_check body

  abbrev at_reply_q : List ℕ
  at_reply_q = column q.reply_check body_q

  abbrev at_number : List ℕ
  at_number = column link.number (column c at_reply)

  abbrev at_number_q : List ℕ
  at_number_q = column link.number (column d at_reply_q)

  at-mark : Apart (32 ∷ r.mark ∷ []) (column n (column n at_number)) (32 ∷ q.mark ∷ []) (column m (column m at_number_q))
  at-mark = apart-at 32 (32 ∷ r.mark ∷ []) (column n (column n at_number)) (32 ∷ q.mark ∷ []) (column m (column m at_number_q)) refl off

  at-length : Apart (digits n) (column n at_number) (digits m) (column m at_number_q)
  at-length = apart-at 32 (digits n) (column n at_number) (digits m) (column m at_number_q) refl at-mark.body_off

  at-again : Apart (digits n) at_number (digits m) at_number_q
  at-again = apart-at 32 (digits n) at_number (digits m) at_number_q refl at-length.body_off

  at-number : Apart (digits link.number) (column c at_reply) (digits link.number) (column d at_reply_q)
  at-number = apart-at 32 (digits link.number) (column c at_reply) (digits link.number) (column d at_reply_q) refl at-again.body_off

  at-check : Apart (digits c) at_reply (digits d) at_reply_q
  at-check = apart-at 32 (digits c) at_reply (digits d) at_reply_q refl at-number.body_off

  at-reply : Apart (digits r.reply_check) body (digits q.reply_check) body_q
  at-reply = apart-at 32 (digits r.reply_check) body (digits q.reply_check) body_q refl at-check.body_off

  length-same : m ≡ n
  length-same = digits-same m n small_q small (⊎_elim (λ (is : digits m ≡ digits n). is)
      (λ (is : column m at_number_q ≡ column n at_number). (same-column m n at_number_q at_number is).0) at-length.one)

  at-line : Apart r.line rest q.line more
  at-line = apart-at 10 r.line rest q.line more length-same at-reply.body_off

  line-in : body_q ≡ body → q.line ≡ r.line
  line-in is = (prefix-same q.line (10 ∷ more) r.line (10 ∷ rest) length-same is).0

  -- behind the check of the record
  covered-in : at_reply_q ≡ at_reply → (digits q.reply_check ++ q.line) ≡ digits r.reply_check ++ r.line
  covered-in is =
      let same = same-column q.reply_check r.reply_check body_q body is in
      let line = line-in same.1 in
      λ i. same.0 i ++ line i

  -- behind the mark
  behind-mark : column m (column m at_number_q) ≡ column n (column n at_number) → column d at_reply_q ≡ column c at_reply
  behind-mark is =
      let one = same-column m n (column m at_number_q) (column n at_number) is in
      let two = same-column m n at_number_q at_number one.1 in
      (same-column link.number link.number (column d at_reply_q) (column c at_reply) two.1).1

  covered-off : OneOff (covered r) (covered q)
  covered-off =
      let mark_off : OneOff (r.mark ∷ []) (q.mark ∷ []) = tail-off 32 (r.mark ∷ []) (q.mark ∷ []) at-mark.front_off in
      let reply_off : OneOff (digits r.reply_check ++ r.line) (digits q.reply_check ++ q.line) =
      join (digits r.reply_check) r.line (digits q.reply_check) q.line at-reply.front_off at-line.front_off
      (⊎_elim (λ (is : digits q.reply_check ≡ digits r.reply_check). inl is) (λ (is : body_q ≡ body). inr (line-in is)) at-reply.one) in
      join (r.mark ∷ []) (digits r.reply_check ++ r.line) (q.mark ∷ []) (digits q.reply_check ++ q.line) mark_off reply_off
      (⊎_elim (λ (is : 32 ∷ q.mark ∷ [] ≡ 32 ∷ r.mark ∷ []). inl (ap (drop 1) is))
      (λ (is : column m (column m at_number_q) ≡ column n (column n at_number)). inr (covered-in (same-column d c at_reply_q at_reply (behind-mark is)).1)) at-mark.one)

  by-check : digits d ≡ digits c → covered q ≡ covered r
  by-check is =
      changed-at link.check [] (covered r) (covered q) fits.check covered-off (digits-same d c (next-fits link q fits).check (next-fits link r fits).check is)

  covered-same : covered q ≡ covered r
  covered-same = ⊎_elim by-check
      (λ (same : at_reply_q ≡ at_reply). ⊎_elim
      (λ (is : 32 ∷ q.mark ∷ [] ≡ 32 ∷ r.mark ∷ []). ap (λ (l : List ℕ). l ++ (digits q.reply_check ++ q.line)) (ap (drop 1) is) ∙ ap (λ (l : List ℕ). r.mark ∷ l) (covered-in same))
      (λ (is : column m (column m at_number_q) ≡ column n (column n at_number)). by-check (same-column d c at_reply_q at_reply (behind-mark is)).0) at-mark.one) at-check.one

  record-same : q ≡ r
  record-same =
      let mark : q.mark ≡ r.mark = ap (λ (l : List ℕ). get_or l 0 0) covered-same in
      let behind : (digits q.reply_check ++ q.line) ≡ digits r.reply_check ++ r.line = ap (drop 1) covered-same in
      let same = prefix-same (digits q.reply_check) q.line (digits r.reply_check) r.line refl behind in
      let reply = digits-same q.reply_check r.reply_check reply_small_q reply_small same.0 in
      λ i. record { mark = mark i; line = same.1 i; reply_check = reply i }

  pub same-record : (q ≡ r) × OneOff rest more
  same-record = (record-same, at-line.body_off)

frame-off : (link : Link) (r q : LogRecord) (rest more : List ℕ) → IsLink link → length r.line < 2 ^ 32 → r.reply_check < 2 ^ 32 → length q.line < 2 ^ 32 → q.reply_check < 2 ^ 32
    → OneOff (frame link r ++ rest) (frame link q ++ more) → (q ≡ r) × OneOff rest more
frame-off link r q rest more fits small reply_small small_q reply_small_q off =
    same-record link r q rest more fits small reply_small small_q reply_small_q
    (subst (λ (l : List ℕ). OneOff (columns r.mark (length r.line) link.number (record_check link r) r.reply_check (r.line ++ 10 ∷ rest)) (columns q.mark (length q.line) link.number (record_check link q) q.reply_check l)) (append_assoc q.line (10 ∷ []) more)
    (subst (λ (l : List ℕ). OneOff (columns r.mark (length r.line) link.number (record_check link r) r.reply_check l) (frame link q ++ more)) (append_assoc r.line (10 ∷ []) rest) off))

-- the block's record was read, and what stands behind it may be changed
record BlockRead (link : Link) (r : LogRecord) (rest x : List ℕ) : Type 0 where
  behind : List ℕ
  off : OneOff rest behind
  reads : read link x ≡ with_record r (read (link_after link r) behind)

some-off : (link : Link) (x : ℕ) (bytes changed : List ℕ) → OneOff (x ∷ bytes) changed → after_front link changed ≡ End → ⊥
some-off link x bytes [] off = absurd off
some-off link x bytes (y ∷ changed) off = not-end link y changed

block-off : (link : Link) (r : LogRecord) (rest x : List ℕ) → IsLink link → length r.line < 2 ^ 32 → r.reply_check < 2 ^ 32 → OneOff (49 ∷ 49 ∷ 49 ∷ (frame link r ++ rest)) x
    → BlockRead link r rest x ⊎ ((read link x).sound ≡ false)
block-off link r rest x fits small reply_small off = by_next (after_front link s.rest) refl
  where
    s : Off (49 ∷ 49 ∷ 49 ∷ []) (frame link r ++ rest) x
    s = split-off (49 ∷ 49 ∷ 49 ∷ []) (frame link r ++ rest) x off

    g : Opened s.es
    g = gate-off s.es s.off

    step : read link x ≡ then_read read (after_front link s.rest)
    step = ap (read link) (s.split ∙ (λ i. g.is i ++ s.rest)) ∙ read-step link (g.a ∷ g.b ∷ g.c ∷ s.rest) ∙ ap (then_read read) (gate-reads link g.a g.b g.c s.rest g.opens)

    by_next : (v : Next) → after_front link s.rest ≡ v → BlockRead link r rest x ⊎ ((read link x).sound ≡ false)
    by_next End is = absurd (some-off link 32 _ s.rest s.rest_off is)
    by_next Damaged is = inr (ap (λ (q : Reading). q.sound) (step ∙ ap (then_read read) is))
    by_next (Found q after more) is =
        let f = front-found link s.rest q after more is in
        let both = frame-off link r q rest more fits small reply_small f.small f.reply_small (subst (λ (l : List ℕ). OneOff (frame link r ++ rest) l) f.split s.rest_off) in
        let link_is : after ≡ link_after link r = f.after_is ∙ ap (link_after link) both.0 in
        inl (record { behind = more; off = both.1; reads = step ∙ ap (then_read read) is ∙ (λ i. with_record (both.0 i) (read (link_is i) more)) })

blocks-off : (gate : List ℕ) → length gate ≡ 3 → (link : Link) (records : List LogRecord) (x : List ℕ) → IsLink link → AreSmall records → OneOff (blocks link records ++ gate) x → (read link x ≡ whole records) ⊎ ((read link x).sound ≡ false)
blocks-off gate three link [] x fits small off =
    let s = split-off gate [] x (subst (λ (l : List ℕ). OneOff l x) (sym (append-nil gate)) off) in
    let few : length x ≤ 3 = omega (arith, ap length s.split, length-append s.es s.rest, s.size, three, nil-length s.rest s.rest_off) in
    inl (read-end link x (next-few link x few))
  where
    nil-length : (l : List ℕ) → OneOff [] l → length l ≡ 0
    nil-length [] off = refl
    nil-length (y ∷ l) off = absurd off
blocks-off gate three link (r ∷ records) x fits small off = ⊎_elim
    (λ (b : BlockRead link r (blocks (link_after link r) records ++ gate) x). ⊎_elim
    (λ (is : read (link_after link r) b.behind ≡ whole records). inl (b.reads ∙ ap (with_record r) is))
    (λ (unsound : (read (link_after link r) b.behind).sound ≡ false). inr (ap (λ (q : Reading). q.sound) b.reads ∙ unsound))
    (blocks-off gate three (link_after link r) records b.behind (next-fits link r fits) small.2 b.off))
    (λ (unsound : (read link x).sound ≡ false). inr unsound)
    (block-off link r (blocks (link_after link r) records ++ gate) x fits small.0 small.1
    (subst (λ (l : List ℕ). OneOff (49 ∷ 49 ∷ 49 ∷ l) x) (append_assoc (frame link r) (blocks (link_after link r) records) gate) off))

-- the file whose header may be changed
head-off : (es body : List ℕ) (records : List LogRecord) → length es ≡ 8 → read first_link body ≡ whole records → StandsFor records (es ++ body) ⊎ IsRefused (es ++ body)
head-off (a ∷ b ∷ c ∷ d ∷ e ∷ f ∷ g ∷ h ∷ []) body records size is = by_tests (is_known a b c d e f h) (g == 49) (g == 50) refl refl refl
  where
    file : List ℕ
    file = a ∷ b ∷ c ∷ d ∷ e ∷ f ∷ g ∷ h ∷ body

    by_tests : (u v w : Bool) → is_known a b c d e f h ≡ u → (g == 49) ≡ v → (g == 50) ≡ w → StandsFor records file ⊎ IsRefused file
    by_tests false v w u_is v_is w_is = inr (inl (λ i. version_of (u_is i) (g == 49) (g == 50) body))
    by_tests true true w u_is v_is w_is = inr (inl (λ i. version_of (u_is i) (v_is i) (g == 50) body))
    by_tests true false false u_is v_is w_is = inr (inr (inl (λ i. version_of (u_is i) (v_is i) (w_is i) body)))
    by_tests true false true u_is v_is w_is = inl (body, (λ i. version_of (u_is i) (v_is i) (w_is i) body), is)
head-off (a ∷ b ∷ c ∷ d ∷ e ∷ f ∷ g ∷ h ∷ i ∷ es) body records size is = absurd (omega arith)
head-off es body records size is = absurd (omega arith)

pub file-off : (gate : List ℕ) → length gate ≡ 3 → (records : List LogRecord) (file : List ℕ) → AreSmall records → OneOff (header ++ (blocks first_link records ++ gate)) file → StandsFor records file ⊎ IsRefused file
file-off gate three records file small off =
    let body = blocks first_link records ++ gate in
    let s = split-off header body file off in
    let body_is : read first_link body ≡ whole records =
    read-blocks first_link records gate small (behind-fits []) ∙ ap (prepended records) (read-end (links_after first_link records) gate (next-few (links_after first_link records) gate (omega (arith, three)))) ∙ (λ i. whole (append-nil records i)) in
    subst (λ (l : List ℕ). StandsFor records l ⊎ IsRefused l) (sym s.split)
    (⊎_elim
    (λ (same : s.es ≡ header). subst (λ (l : List ℕ). StandsFor records (l ++ s.rest) ⊎ IsRefused (l ++ s.rest)) (sym same)
    (⊎_elim
    (λ (is : read first_link s.rest ≡ whole records). inl (s.rest, refl, is))
    (λ (unsound : (read first_link s.rest).sound ≡ false). inr (inr (inr (s.rest, refl, unsound))))
    (blocks-off gate three first_link records s.rest (behind-fits []) small s.rest_off)))
    (λ (same : s.rest ≡ body). subst (λ (l : List ℕ). StandsFor records (s.es ++ l) ⊎ IsRefused (s.es ++ l)) (sym same) (head-off s.es body records s.size body_is))
    s.one)
