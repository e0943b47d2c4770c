-- A page of the newest job instances, gathered from the oldest on.
use Rattle.std.proofs.Common.{◌≡◌, ℕ, zero, suc, ◌+◌, ◌-◌, ◌<◌, ◌≤◌, Bool, true, false, cond, nat_lt, List, [], ◌∷◌, ◌++◌, length, take, drop, reverse, refl, sym, ◌∙◌, ap, arith}
use Rattle.std.proofs.lemmas.Bool.{ltb-true, ltb-false}
use Rattle.std.proofs.lemmas.List.{append-nil, take-append-le, drop-append-le, length-append, length-drop, length-reverse, reverse-append}
use Rattle.batch_history.specs.declared.rows.JobInstance.{JobInstance}
use Rattle.batch_history.specs.Answers.{page}
use Rattle.seq_repository.specs.Searches.{is_on_page}

-- those that the page shows, the oldest first
abbrev pub on_page : ℕ → ℕ → List JobInstance → List JobInstance
on_page start count [] = []
on_page start count (row ∷ rest) = cond (is_on_page start count (length rest)) (row ∷ on_page start count rest) (on_page start count rest)

take-nothing : {A : Type 0} (n : ℕ) → take {A = A} n [] ≡ []
take-nothing zero = refl
take-nothing (suc n) = refl

drop-nothing : {A : Type 0} (n : ℕ) → drop {A = A} n [] ≡ []
drop-nothing zero = refl
drop-nothing (suc n) = refl

take-whole : {A : Type 0} (n : ℕ) (xs : List A) → length xs ≤ n → take n xs ≡ xs
take-whole n [] le = take-nothing n
take-whole zero (x ∷ xs) le = absurd (omega (arith, le))
take-whole (suc n) (x ∷ xs) le = ap (λ l. x ∷ l) (take-whole n xs (omega (arith, le)))

drop-whole : {A : Type 0} (n : ℕ) (xs : List A) → length xs ≤ n → drop n xs ≡ []
drop-whole n [] le = drop-nothing n
drop-whole zero (x ∷ xs) le = absurd (omega (arith, le))
drop-whole (suc n) (x ∷ xs) le = drop-whole n xs (omega (arith, le))

-- a page of so many and one that is older than they
older-left : (start count n : ℕ) (ys : List JobInstance) (x : JobInstance) → n ≡ length ys → nat_lt n start ≡ true → page start count (ys ++ x ∷ []) ≡ page start count ys ++ []
older-left start count n ys x is lt =
    let few : n < start = ltb-true n start lt in
    ap (take count) (drop-whole start (ys ++ x ∷ []) (omega (arith, few, is, length-append ys (x ∷ []))))
    ∙ (ap (take count) (sym (drop-whole start ys (omega (arith, few, is)))) ∙ sym (append-nil (page start count ys)))

older-shown : (start count n : ℕ) (ys : List JobInstance) (x : JobInstance) → n ≡ length ys → nat_lt n start ≡ false → nat_lt (n - start) count ≡ true
    → page start count (ys ++ x ∷ []) ≡ page start count ys ++ x ∷ []
older-shown start count n ys x is ge lt =
    let enough : start ≤ n = ltb-false n start ge in
    let room : n - start < count = ltb-true (n - start) count lt in
    let kept : List JobInstance = drop start ys in
    let short : length kept ≡ n - start = length-drop start ys ∙ ap (λ k. k - start) (sym is) in
    ap (take count) (drop-append-le start ys (x ∷ []) (omega (arith, enough, is)))
    ∙ (take-whole count (kept ++ x ∷ []) (omega (arith, room, short, length-append kept (x ∷ [])))
    ∙ ap (λ (l : List JobInstance). l ++ x ∷ []) (sym (take-whole count kept (omega (arith, room, short)))))

older-behind : (start count n : ℕ) (ys : List JobInstance) (x : JobInstance) → n ≡ length ys → nat_lt n start ≡ false → nat_lt (n - start) count ≡ false
    → page start count (ys ++ x ∷ []) ≡ page start count ys ++ []
older-behind start count n ys x is ge full =
    let enough : start ≤ n = ltb-false n start ge in
    let most : count ≤ n - start = ltb-false (n - start) count full in
    let kept : List JobInstance = drop start ys in
    let long : length kept ≡ n - start = length-drop start ys ∙ ap (λ k. k - start) (sym is) in
    ap (take count) (drop-append-le start ys (x ∷ []) (omega (arith, enough, is)))
    ∙ (take-append-le count kept (x ∷ []) (omega (arith, most, long)) ∙ sym (append-nil (page start count ys)))

-- whether one that so many are newer than is shown
abbrev shown-if : Bool → JobInstance → List JobInstance
shown-if true x = x ∷ []
shown-if false x = []

older-one : (start count n : ℕ) (ys : List JobInstance) (x : JobInstance) → n ≡ length ys
    → page start count (ys ++ x ∷ []) ≡ page start count ys ++ shown-if (is_on_page start count n) x
older-one start count n ys x is =
    (elim (nat_lt n start) as (λ b. nat_lt n start ≡ b
    → page start count (ys ++ x ∷ []) ≡ page start count ys ++ shown-if (cond b false (nat_lt (n - start) count)) x) [
      | true ↦ λ lt. older-left start count n ys x is lt
      | false ↦ λ ge.
          (elim (nat_lt (n - start) count) as (λ b. nat_lt (n - start) count ≡ b → page start count (ys ++ x ∷ []) ≡ page start count ys ++ shown-if b x) [
            | true ↦ λ lt. older-shown start count n ys x is ge lt
            | false ↦ λ full. older-behind start count n ys x is ge full
          ]) refl
    ]) refl

shown-turned : (b : Bool) (x : JobInstance) (xs : List JobInstance) → reverse (cond b (x ∷ xs) xs) ≡ reverse xs ++ shown-if b x
shown-turned true x xs = reverse-append (x ∷ []) xs
shown-turned false x xs = sym (append-nil (reverse xs))

-- the page, the newest first
pub page_turned : (start count : ℕ) (rows : List JobInstance) → reverse (on_page start count rows) ≡ page start count (reverse rows)
page_turned start count [] = sym (ap (take count) (drop-nothing start) ∙ take-nothing count)
page_turned start count (row ∷ rest) =
    shown-turned (is_on_page start count (length rest)) row (on_page start count rest)
    ∙ (ap (λ (l : List JobInstance). l ++ shown-if (is_on_page start count (length rest)) row) (page_turned start count rest)
    ∙ (sym (older-one start count (length rest) (reverse rest) row (sym (length-reverse rest)))
    ∙ ap (page start count) (sym (reverse-append (row ∷ []) rest))))

-- a page is a slice
pub on_slice : (start count : ℕ) (rows : List JobInstance)
    → on_page start count rows ≡ take (length rows - start - (length rows - start - count)) (drop (length rows - start - count) rows)
on_slice start count [] =
    let none : 0 - start - (0 - start - count) ≡ 0 = omega arith in
    let first : 0 - start - count ≡ 0 = omega arith in
    sym (ap (λ (k : ℕ). take k (drop (0 - start - count) [])) none)
on_slice start count (x ∷ rest) =
    let m : ℕ = length rest in
    let n : ℕ = length (x ∷ rest) in
    let one : n ≡ m + 1 = omega arith in
    let later : on_page start count rest ≡ take (m - start - (m - start - count)) (drop (m - start - count) rest) = on_slice start count rest in
    (elim (nat_lt m start) as (λ b. nat_lt m start ≡ b
    → cond (cond b false (nat_lt (m - start) count)) (x ∷ on_page start count rest) (on_page start count rest) ≡ take (n - start - (n - start - count)) (drop (n - start - count) (x ∷ rest))) [
      | true ↦ λ lt.
          let few : m < start = ltb-true m start lt in
          let none : m - start - (m - start - count) ≡ 0 = omega (arith, few) in
          let none_too : n - start - (n - start - count) ≡ 0 = omega (arith, few, one) in
          later ∙ (ap (λ (k : ℕ). take k (drop (m - start - count) rest)) none ∙ sym (ap (λ (k : ℕ). take k (drop (n - start - count) (x ∷ rest))) none_too))
      | false ↦ λ ge.
          let enough : start ≤ m = ltb-false m start ge in
          (elim (nat_lt (m - start) count) as (λ b. nat_lt (m - start) count ≡ b
          → cond b (x ∷ on_page start count rest) (on_page start count rest) ≡ take (n - start - (n - start - count)) (drop (n - start - count) (x ∷ rest))) [
            | true ↦ λ lt.
                let room : m - start < count = ltb-true (m - start) count lt in
                let no_drop : n - start - count ≡ 0 = omega (arith, room, one, enough) in
                let no_drop_later : m - start - count ≡ 0 = omega (arith, room) in
                let so_many : n - start - 0 ≡ suc (m - start) = omega (arith, one, enough) in
                let all : m - start - 0 ≡ m - start = omega arith in
                ap (λ l. x ∷ l) (later ∙ (ap (λ (k : ℕ). take (m - start - k) (drop k rest)) no_drop_later ∙ ap (λ (k : ℕ). take k rest) all))
                ∙ sym (ap (λ (k : ℕ). take (n - start - k) (drop k (x ∷ rest))) no_drop ∙ ap (λ (k : ℕ). take k (x ∷ rest)) so_many)
            | false ↦ λ full.
                let most : count ≤ m - start = ltb-false (m - start) count full in
                let further : n - start - count ≡ suc (m - start - count) = omega (arith, most, one, enough) in
                let as_many : n - start - suc (m - start - count) ≡ m - start - (m - start - count) = omega (arith, most, one, enough) in
                later ∙ sym (ap (λ (k : ℕ). take (n - start - k) (drop k (x ∷ rest))) further ∙ ap (λ (k : ℕ). take k (drop (m - start - count) rest)) as_many)
          ]) refl
    ]) refl
