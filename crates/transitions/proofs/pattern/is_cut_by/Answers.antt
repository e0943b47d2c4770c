use Rattle.std.proofs.Common.{rules, ◌≡◌, ◌≢◌, [], length, true, false, inl, inr, refl, ap, ◌∙◌}
use Rattle.std.specs.Str.{chars}
use Rattle.std.proofs.lemmas.List.{nil_from_length}
use Rattle.std.proofs.lemmas.Str.{chars-nil}
use Rattle.transitions.proofs.Cuts.{length_from_no_chars}
use Rattle.transitions.specs.Patterns.{Matches}
use Rattle.transitions.proofs.Cuts.{Matches-at_end, differs, too_short, text_over}
use Rattle.transitions.proofs.Retries.{here, Kept-star, Kept-star_smaller, Kept-step, Kept-yes, Kept-no, Kept-last, Kept-again}
use Rattle.transitions.proofs.pattern.is_cut_by.Goals as goal
use Rattle.transitions.proofs.pattern.is_cut_by.Goals.{in-Some+else-wanted-eq-ANY_TEXT+in_default, in_default-via-in-None-1, in_default-via-in-Some-split_first_char+else-wanted-found, in_default+else-is_empty, Joined-split_first_char}

pub loop-wanted-init : goal.loop-wanted-init
loop-wanted-init c = (c.utf8.pattern, c.utf8.text, here)

pub loop-wanted-smaller-then-wanted-eq-ANY_TEXT : goal.loop-wanted-smaller-then-wanted-eq-ANY_TEXT
loop-wanted-smaller-then-wanted-eq-ANY_TEXT c =
    let i = c.loop-wanted.invariant.2 in
    let h = c.in-Some.ensures in
    let e = rw c.if-wanted-eq-ANY_TEXT.true at h in
    Kept-star_smaller (chars c.args.pattern.now) (chars c.args.text.now) c.loop-wanted.retry _ (chars c.loop-wanted.text_left.now) _ e i

pub loop-wanted-preserved-then-wanted-eq-ANY_TEXT : goal.loop-wanted-preserved-then-wanted-eq-ANY_TEXT
loop-wanted-preserved-then-wanted-eq-ANY_TEXT c =
    let i = c.loop-wanted.invariant.2 in
    let h = c.in-Some.ensures in
    let e = rw c.if-wanted-eq-ANY_TEXT.true at h in
    (search rules, search rules, Kept-star (chars c.args.pattern.now) (chars c.args.text.now) c.loop-wanted.retry _ _ _ e i)

pub loop-wanted-preserved-in-Some : goal.loop-wanted-preserved-in-Some
loop-wanted-preserved-in-Some c =
    let i = c.loop-wanted.invariant.2 in (
      search rules,
      search rules,
      Kept-step (chars c.args.pattern.now) (chars c.args.text.now) c.loop-wanted.retry _ _ _ _ _ _ c.in-Some.ensures c.in-Some-split_first_char.ensures
          c.if-wanted-eq-ANY_TEXT.false
          (elim c.if-wanted-found.either [ inl e ↦ inl e | inr e ↦ inr e.1 ])
          i,
    )

pub returns-then-is_empty : goal.returns-then-is_empty
returns-then-is_empty c =
    let i = c.loop-wanted.invariant.2 in
    let n : length c.loop-wanted.text_left.now ≡ 0 = search rules in
    let e = ap chars (nil_from_length c.loop-wanted.text_left.now n) ∙ chars-nil in (
      (λ _. Kept-yes (chars c.args.pattern.now) (chars c.args.text.now) c.loop-wanted.retry _ _ (Matches-at_end _ _ c.in_default.ensures e) i),
      (λ _. refl),
    )

-- where the loop goes back, what is left of the pattern does not match what is left of the text
stuck : (c : Joined-split_first_char) → Matches (chars c.loop-wanted.pattern_left.now) (chars c.loop-wanted.text_left.now) → ⊥
stuck c = elim c.match-split_first_char.branch [
  | in-Some+else-wanted-eq-ANY_TEXT+in_default w ↦ elim w.in_default.branch [
    | in_default-via-in-None-1 w' ↦ (let e : chars c.loop-wanted.text_left.now ≡ [] = search rules in
        too_short _ _ _ _ w.in-Some.ensures w.if-wanted-eq-ANY_TEXT.false e)
    | in_default-via-in-Some-split_first_char+else-wanted-found w' ↦ (let q : w.in-Some.wanted ≢ 63 = search rules in
        let k : w.in-Some.wanted ≢ w'.in-Some-split_first_char.found = search rules in
        differs _ _ _ _ _ _ w.in-Some.ensures w'.in-Some-split_first_char.ensures w.if-wanted-eq-ANY_TEXT.false q k)
  ]
  | in_default+else-is_empty w ↦ (let f : length c.loop-wanted.text_left.now ≢ 0 = search rules in
      text_over _ _ w.in_default.ensures (λ n. f (length_from_no_chars c.loop-wanted.text_left.now (search rules) n)))
]

pub returns-in_default-retry : goal.returns-in_default-retry
returns-in_default-retry c = (
  (λ e. absurd (let f : false ≡ true = e in cc)),
  (λ m. absurd (Kept-no (chars c.args.pattern.now) (chars c.args.text.now) c.loop-wanted.retry _ _ c.in_default-retry.is (stuck (goal.at.returns-in_default-retry c).Joined-split_first_char) c.loop-wanted.invariant.2 m)),
)

pub returns-in_default-split_first_char : goal.returns-in_default-split_first_char
returns-in_default-split_first_char c = (
  (λ e. absurd (let f : false ≡ true = e in cc)),
  (λ m. absurd (Kept-last (chars c.args.pattern.now) (chars c.args.text.now) c.loop-wanted.retry _ _ _ c.in-Some-retry.is c.in_default-split_first_char.ensures (stuck (goal.at.returns-in_default-split_first_char c).Joined-split_first_char) c.loop-wanted.invariant.2 m)),
)

pub loop-wanted-preserved : goal.loop-wanted-preserved
loop-wanted-preserved c = (
  search rules,
  search rules,
  Kept-again (chars c.args.pattern.now) (chars c.args.text.now) c.loop-wanted.retry _ _ _ _ _ c.in-Some-retry.is c.in-Some-split_first_char-2.ensures (stuck (goal.at.loop-wanted-preserved c).Joined-split_first_char) c.loop-wanted.invariant.2,
)
