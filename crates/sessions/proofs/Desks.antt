-- What a call leaves of a session.
use Rattle.std.proofs.Common.{◌≢◌, ◌≡◌, ◌⊎◌, ℕ, ◌≤◌, ◌<◌, nat_lt, if◌then◌else◌, Bool, true, false, List, [], ◌∷◌, ◌++◌, map, length, refl, ap, sym, ◌∙◌, subst, arith, inl, inr, append_assoc, length-append}
use mathlib.Core.List.{IsPrefix}
use Rattle.std.proofs.lemmas.Bool.Decides.{nat_tests}
use borrow.Author.Tests.{ltb-true}
use Rattle.batch_history.specs.declared.call.Entry.{Entry}
use Rattle.jsl_model.specs.Jobs.{JobTree}
use Rattle.seat_rules.specs.Places.{IsLegalLog}
use Rattle.seat_rules.specs.Steps.{met_one, met_other}
use Rattle.seat_rules.specs.Rule.{IsSessionOf}
use Rattle.batch_history.specs.Legal.{entries_by}
use Rattle.seat_rules.specs.Views.{Each, HasStop, informed, list_of, met, times}
use Rattle.sessions.specs.Sessions.{IsSession, Meets, one_of}
use Rattle.seat_rules.proofs.Prefixes.{prefix_shorter, prefix_whole, entries_between, entries_short}
use Rattle.seat_rules.specs.declared.view.SessionView.{SessionView}
use Rattle.seat_rules.proofs.Keeping.{stop_push}
use Rattle.seat_rules.proofs.Sums.{each-imp, times_own}

-- what the rule says of a session that sits alone
pub alone : (log : List Entry) (last : ℕ) (catalogue : List JobTree) (number front least accepted : ℕ) (seat : List SessionView) → IsSession catalogue number front least accepted seat → Each (IsSessionOf log last) seat → IsSessionOf log last (one_of seat)
alone log last catalogue number front least accepted seat s each = (subst (Each (IsSessionOf log last)) s.one each).0

pub few : (log : List Entry) (last : ℕ) (catalogue : List JobTree) (number front least accepted : ℕ) (seat : List SessionView) → IsSession catalogue number front least accepted seat → Each (IsSessionOf log last) seat → accepted ≤ length log
few log last catalogue number front least accepted seat s each =
    let p = (alone log last catalogue number front least accepted seat s each).mine in
    let a = s.accepted_is in
    let short = entries_short (one_of seat).number log in
    let same = ap length p in
    omega arith

-- the longer of two beginnings of one log
longer_cases : (g h : SessionView) (log : List Entry) (last : ℕ) → IsSessionOf log last g → IsSessionOf log last h → (b : Bool) → nat_lt (length g.seen) (length h.seen) ≡ b
    → (((if b then h.seen else g.seen) ≡ g.seen) × IsPrefix h.seen g.seen) ⊎ (((if b then h.seen else g.seen) ≡ h.seen) × IsPrefix g.seen h.seen)
longer_cases g h log last p q true is =
    let less : length g.seen < length h.seen = ltb-true (length g.seen) (length h.seen) is in
    inr (refl, prefix_shorter g.seen h.seen log p.seen q.seen (omega arith))
longer_cases g h log last p q false is =
    let more : length h.seen ≤ length g.seen = grind (arith, nat_tests) in
    inl (refl, prefix_shorter h.seen g.seen log q.seen p.seen more)

pub meets : (g h : SessionView) (log : List Entry) (last : ℕ) → IsSessionOf log last g → IsSessionOf log last h → Meets g h (met g h)
meets g h log last p q = record { number = refl; mine = refl; stops = refl; fresh = refl; least = refl; longer = longer_cases g h log last p q (nat_lt (length g.seen) (length h.seen)) refl }

same_by : (g h : SessionView) (log : List Entry) (last : ℕ) → IsSessionOf log last g → IsSessionOf log last h → (b d : Bool) → nat_lt (length g.seen) (length h.seen) ≡ b → nat_lt (length h.seen) (length g.seen) ≡ d
    → (if b then h.seen else g.seen) ≡ (if d then g.seen else h.seen)
same_by g h log last p q true true is is' =
    let less : length g.seen < length h.seen = ltb-true (length g.seen) (length h.seen) is in
    let more : length h.seen < length g.seen = ltb-true (length h.seen) (length g.seen) is' in
    absurd (omega arith)
same_by g h log last p q true false is is' = refl
same_by g h log last p q false true is is' = refl
same_by g h log last p q false false is is' =
    let more : length h.seen ≤ length g.seen = grind (arith, nat_tests) in
    let less : length g.seen ≤ length h.seen = grind (arith, nat_tests) in
    prefix_whole g.seen h.seen (prefix_shorter g.seen h.seen log p.seen q.seen less) more

pub met_same : (g h : SessionView) (log : List Entry) (last : ℕ) → IsSessionOf log last g → IsSessionOf log last h → (met g h).seen ≡ (met h g).seen
met_same g h log last p q = same_by g h log last p q (nat_lt (length g.seen) (length h.seen)) (nat_lt (length h.seen) (length g.seen)) refl refl

-- two sessions that sat on one seat and parted
pub record HaveMet (one other one_after other_after : SessionView) : Type 0 where
  pub one_meets : Meets one other one_after
  pub other_meets : Meets other one other_after
  pub same : one_after.seen ≡ other_after.seen
  pub apart : one.number ≢ other.number

two_numbers : (g h : SessionView) → ((n : ℕ) → times n (g ∷ h ∷ []) ≤ 1) → g.number ≢ h.number
two_numbers g h once e =
    let a = times_own g.number g refl in
    let b = times_own g.number h (sym e) in
    let o = once g.number in
    omega arith

pub have_met : (log : List Entry) (last : ℕ) (seat other both one_after other_after : List SessionView) → seat ≡ one_of seat ∷ [] → other ≡ one_of other ∷ []
    → both ≡ seat ++ other → Each (IsSessionOf log last) (seat ++ other) → ((n : ℕ) → times n (seat ++ other) ≤ 1)
    → one_after ≡ met_one both → other_after ≡ met_other both → HaveMet (one_of seat) (one_of other) (one_of one_after) (one_of other_after)
have_met log last seat other both one_after other_after one two both_is each once one_is other_is =
    let s = one_of seat in
    let t = one_of other in
    let pair : seat ++ other ≡ s ∷ t ∷ [] = λ i. one i ++ two i in
    let fine = subst (Each (IsSessionOf log last)) pair each in
    let one_now : one_of one_after ≡ met s t = ap one_of (one_is ∙ ap met_one (both_is ∙ pair)) in
    let other_now : one_of other_after ≡ met t s = ap one_of (other_is ∙ ap met_other (both_is ∙ pair)) in
    record {
      one_meets = subst (Meets s t) (sym one_now) (meets s t log last fine.0 fine.1.0);
      other_meets = subst (Meets t s) (sym other_now) (meets t s log last fine.1.0 fine.0);
      same = ap (λ (x : SessionView). x.seen) one_now ∙ (met_same s t log last fine.0 fine.1.0 ∙ sym (ap (λ (x : SessionView). x.seen) other_now));
      apart = two_numbers s t (subst (λ (gs : List SessionView). (n : ℕ) → times n gs ≤ 1) pair once);
    }

-- the calls that a session saw stopped stand in what it has seen after its next call
pub still_stopped : (log now : List Entry) (last : ℕ) (catalogue : List JobTree) (number front least accepted : ℕ) (seat : List SessionView) → IsSession catalogue number front least accepted seat → Each (IsSessionOf log last) seat → IsPrefix log now → Each (HasStop now (one_of seat).least) (one_of seat).stops
still_stopped log now last catalogue number front least accepted seat s each pre =
    let p = alone log last catalogue number front least accepted seat s each in
    let g = one_of seat in
    subst (λ (l : List Entry). Each (HasStop l g.least) g.stops) pre.1 (each-imp (HasStop log g.least) (HasStop (log ++ pre.0) g.least) g.stops (λ x y. stop_push log pre.0 g.least x y) p.stops)

-- a call that stands early in a log stands in each beginning that is as long
pub stop_within : (l log : List Entry) (n x : ℕ) → IsPrefix l log → n ≤ length l → HasStop log n x → HasStop l n x
stop_within l log n x p le h =
    let early = h.early in
    let short : length (h.before ++ h.stop ∷ []) ≤ length l = omega (arith, length-append h.before (h.stop ∷ [])) in
    let cut : IsPrefix (h.before ++ h.stop ∷ []) log = (h.after, append_assoc h.before (h.stop ∷ []) h.after ∙ sym h.cut) in
    let q = prefix_shorter (h.before ++ h.stop ∷ []) l log cut p short in
    record { before = h.before; stop = h.stop; after = q.0; cut = sym q.1 ∙ append_assoc h.before (h.stop ∷ []) q.0; asks = h.asks; early = h.early }

-- a session that has taken the list of a copy
pub record CaughtUp (g w : SessionView) : Type 0 where
  pub grows : IsPrefix g.seen w.seen
  pub own : entries_by w.number w.seen ≡ w.mine
  pub stops : Each (HasStop w.seen g.least) g.stops

pub catches_up : (log l : List Entry) (last : ℕ) (catalogue : List JobTree) (number front least accepted entries : ℕ) (seat now : List SessionView) (copy : List (List Entry)) (v : SessionView) → IsSession catalogue number front least accepted seat → Each (IsSessionOf log last) seat
    → Each (λ k. IsPrefix k log) copy → copy ≡ l ∷ [] → entries ≡ length l → one_of seat ≡ v → length v.seen ≤ entries → v.least ≤ entries → now ≡ map (informed (list_of copy)) seat → CaughtUp v (one_of now)
catches_up log l last catalogue number front least accepted entries seat now copy v s each prefixes copy_is n is le low now_is =
    let g = one_of seat in
    let h = alone log last catalogue number front least accepted seat s each in
    let p = (subst (Each (λ (k : List Entry). IsPrefix k log)) copy_is prefixes).0 in
    let le' : length g.seen ≤ length l = subst (λ (x : SessionView × ℕ). length x.0.seen ≤ x.1) (λ i. (sym is i, n i)) le in
    let low' : g.least ≤ length l = subst (λ (x : SessionView × ℕ). x.0.least ≤ x.1) (λ i. (sym is i, n i)) low in
    let pre = prefix_shorter g.seen l log h.seen p le' in
    let w : one_of now ≡ informed l g = ap one_of (now_is ∙ (λ i. map (informed (list_of (copy_is i))) (s.one i))) in
    subst (λ (x : SessionView × SessionView). CaughtUp x.0 x.1) (λ i. (is i, sym w i)) (record {
      grows = pre;
      own = entries_between g.number g.seen l log g.mine pre p h.all_seen h.mine;
      stops = each-imp (HasStop log g.least) (HasStop l g.least) g.stops (λ x y. stop_within l log g.least x p low' y) h.stops;
    })

pub read_is : (catalogue : List JobTree) (number front least accepted entries : ℕ) (l : List Entry) (seat now : List SessionView) → IsSession catalogue number front least accepted seat → now ≡ map (informed l) seat → entries ≡ length l → IsLegalLog catalogue l → IsSession catalogue number entries least accepted now
read_is catalogue number front least accepted entries l seat now s is n legal =
    subst (IsSession catalogue number entries least accepted) (sym (is ∙ ap (map (informed l)) s.one)) (record { one = refl; number_is = s.number_is; front_is = n; least_is = s.least_is; accepted_is = s.accepted_is; legal = legal })
