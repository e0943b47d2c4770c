-- Rows in slots, where one is found, put, removed or added.
use Rattle.std.proofs.Common.{◌≡◌, ℕ, zero, suc, ◌+◌, ◌==◌, ◌<◌, ◌≤◌, Bool, true, false, not, cond, Option, None, Some, IfSome, is_some, List, [], ◌∷◌, ◌++◌, length, map, find, filter, take, position, set, get_or, slice_get, ◌-◌, subst, refl, sym, ◌∙◌, ap, arith}
use Rattle.std.specs.List.{cons_option}
use Rattle.std.proofs.lemmas.Bool.{eqb-true, ne_eqb}
use Rattle.std.proofs.lemmas.List.Elements.{filter_map-append}
use Rattle.std.proofs.lemmas.List.Quantifiers.{position-Some}
use Rattle.std.proofs.lemmas.List.{length-append}
use Rattle.std.proofs.Math.Seq.{take-append_seam}
use Rattle.std.proofs.lemmas.Option.{slice_get-get_or}
use Rattle.batch_history.specs.Lists.{change_first}
use Rattle.records.specs.Maps.{AreAbove, AreBelow, AreRising}
use Rattle.records.specs.Slots.{rows_in, slot_numbers, AreOwn, AreSlots}
use Rattle.records.specs.declared.row_list.Slot.{Slot}
use Rattle.record_lists.proofs.Numbers.{absent}
use Rattle.records.proofs.Numbered as numbered
use Rattle.records.proofs.Indexed.{flipped}

module _ {T : Type 0} (num : T → ℕ) where
  abbrev is_at : ℕ → Slot T → Bool
  is_at n slot = slot.number == n

  abbrev is_numbered : ℕ → T → Bool
  is_numbered n row = num row == n

  -- Behind a number

  above-own : (n : ℕ) (slot : Slot T) (row : T) → slot.row ≡ Some row → AreOwn num (slot ∷ []) → n < slot.number → n < num row
  above-own n slot row is own lt =
      let same : num row ≡ slot.number = subst (λ (r : Option T). IfSome r (λ row. num row ≡ slot.number)) is own.0 in
      omega (arith, same, lt)

  -- none of the rows behind a number has what only those up to it have
  pub none-behind : (p : T → Bool) (n : ℕ) (slots : List (Slot T)) → ((row : T) → n < num row → p row ≡ false) → AreAbove n (slot_numbers slots) → AreOwn num slots
      → filter p (rows_in slots) ≡ []
  none-behind p n [] off above own = refl
  none-behind p n (slot ∷ rest) off above own =
      let more : filter p (rows_in rest) ≡ [] = none-behind p n rest off above.1 own.1 in
      (elim slot.row as (λ r. slot.row ≡ r → filter p (cons_option r (rows_in rest)) ≡ []) [
        | None ↦ λ is. more
        | Some row ↦ λ is.
            ap (λ (b : Bool). cond b (row ∷ filter p (rows_in rest)) (filter p (rows_in rest))) (off row (above-own n slot row is (own.0, tt) above.0)) ∙ more
      ]) refl

  -- a number above which all others stand is not theirs
  not-behind : (n : ℕ) (row : T) → n < num row → is_numbered n row ≡ false
  not-behind n row lt = ne_eqb (num row) n (λ e. omega (arith, lt, e))

  unfound-behind : (n : ℕ) (slots : List (Slot T)) → AreAbove n (slot_numbers slots) → AreOwn num slots → find (is_numbered n) (rows_in slots) ≡ None
  unfound-behind n [] above own = refl
  unfound-behind n (slot ∷ rest) above own =
      let more : find (is_numbered n) (rows_in rest) ≡ None = unfound-behind n rest above.1 own.1 in
      (elim slot.row as (λ r. slot.row ≡ r → find (is_numbered n) (cons_option r (rows_in rest)) ≡ None) [
        | None ↦ λ is. more
        | Some row ↦ λ is.
            ap (λ (b : Bool). cond b (Some row) (find (is_numbered n) (rows_in rest))) (not-behind n row (above-own n slot row is (own.0, tt) above.0)) ∙ more
      ]) refl

  all-stay : (n : ℕ) (slots : List (Slot T)) → AreAbove n (slot_numbers slots) → AreOwn num slots
      → filter (λ row. not (is_numbered n row)) (rows_in slots) ≡ rows_in slots
  all-stay n [] above own = refl
  all-stay n (slot ∷ rest) above own =
      let others : List T = filter (λ row. not (is_numbered n row)) (rows_in rest) in
      let more : others ≡ rows_in rest = all-stay n rest above.1 own.1 in
      (elim slot.row as (λ r. slot.row ≡ r → filter (λ row. not (is_numbered n row)) (cons_option r (rows_in rest)) ≡ cons_option r (rows_in rest)) [
        | None ↦ λ is. more
        | Some row ↦ λ is.
            ap (λ (b : Bool). cond (not b) (row ∷ others) others) (not-behind n row (above-own n slot row is (own.0, tt) above.0)) ∙ ap (λ (l : List T). row ∷ l) more
      ]) refl

  -- The row of a number

  own-number : (n : ℕ) (slot : Slot T) (row : T) → slot.row ≡ Some row → AreOwn num (slot ∷ []) → is_numbered n row ≡ is_at n slot
  own-number n slot row is own =
      ap (λ (k : ℕ). k == n) (subst (λ (r : Option T). IfSome r (λ row. num row ≡ slot.number)) is own.0)

  abbrev row_of : Option (Slot T) → Option T
  row_of None = None
  row_of (Some slot) = slot.row

  pub found : (n : ℕ) (slots : List (Slot T)) → AreRising (slot_numbers slots) → AreOwn num slots
      → row_of (find (is_at n) slots) ≡ find (is_numbered n) (rows_in slots)
  found n [] rising own = refl
  found n (slot ∷ rest) rising own =
      let more : row_of (find (is_at n) rest) ≡ find (is_numbered n) (rows_in rest) = found n rest rising.1 own.1 in
      (elim (is_at n slot) as (λ b. is_at n slot ≡ b → row_of (cond b (Some slot) (find (is_at n) rest)) ≡ find (is_numbered n) (cons_option slot.row (rows_in rest))) [
        | true ↦ λ here.
            (elim slot.row as (λ r. slot.row ≡ r → r ≡ find (is_numbered n) (cons_option r (rows_in rest))) [
              | None ↦ λ is. sym (unfound-behind n rest (subst (λ (k : ℕ). AreAbove k (slot_numbers rest)) (eqb-true slot.number n here) rising.0) own.1)
              | Some row ↦ λ is. sym (ap (λ (b : Bool). cond b (Some row) (find (is_numbered n) (rows_in rest))) (own-number n slot row is (own.0, tt) ∙ here))
            ]) refl
        | false ↦ λ off.
            (elim slot.row as (λ r. slot.row ≡ r → row_of (find (is_at n) rest) ≡ find (is_numbered n) (cons_option r (rows_in rest))) [
              | None ↦ λ is. more
              | Some row ↦ λ is. more ∙ sym (ap (λ (b : Bool). cond b (Some row) (find (is_numbered n) (rows_in rest))) (own-number n slot row is (own.0, tt) ∙ off))
            ]) refl
      ]) refl

  -- A row in place of another

  abbrev with_slot : ℕ → Slot T → List (Slot T) → List (Slot T)
  with_slot n new slots = change_first (is_at n) (λ old. new) slots

  pub numbers-kept : (n : ℕ) (new : Slot T) (slots : List (Slot T)) → new.number ≡ n → slot_numbers (with_slot n new slots) ≡ slot_numbers slots
  numbers-kept n new [] same = refl
  numbers-kept n new (slot ∷ rest) same =
      (elim (is_at n slot) as (λ b. is_at n slot ≡ b → slot_numbers (cond b (new ∷ rest) (slot ∷ with_slot n new rest)) ≡ slot.number ∷ slot_numbers rest) [
        | true ↦ λ here. ap (λ (k : ℕ). k ∷ slot_numbers rest) (same ∙ sym (eqb-true slot.number n here))
        | false ↦ λ off. ap (λ (ns : List ℕ). slot.number ∷ ns) (numbers-kept n new rest same)
      ]) refl

  own-kept : (n : ℕ) (new : Slot T) (slots : List (Slot T)) → IfSome new.row (λ row. num row ≡ new.number) → AreOwn num slots → AreOwn num (with_slot n new slots)
  own-kept n new [] mine own = tt
  own-kept n new (slot ∷ rest) mine own =
      elim (is_at n slot) as (λ b. AreOwn num (cond b (new ∷ rest) (slot ∷ with_slot n new rest))) [
        | true ↦ (mine, own.1)
        | false ↦ (own.0, own-kept n new rest mine own.1)
      ]

  pub slots-kept : (n : ℕ) (new : Slot T) (slots : List (Slot T)) → new.number ≡ n → IfSome new.row (λ row. num row ≡ new.number) → AreSlots num slots
      → AreSlots num (with_slot n new slots)
  slots-kept n new slots same mine are =
      record {
        rising = subst AreRising (sym (numbers-kept n new slots same)) are.rising;
        own = own-kept n new slots mine are.own;
      }

  pub put : (n : ℕ) (new : Slot T) (row : T) (slots : List (Slot T)) → new.row ≡ Some row → AreRising (slot_numbers slots) → AreOwn num slots
      → is_some (find (is_numbered n) (rows_in slots)) ≡ true → rows_in (with_slot n new slots) ≡ change_first (is_numbered n) (λ old. row) (rows_in slots)
  put n new row [] is rising own there = refl
  put n new row (slot ∷ rest) is rising own there =
      (elim (is_at n slot) as (λ b. is_at n slot ≡ b → rows_in (cond b (new ∷ rest) (slot ∷ with_slot n new rest)) ≡ change_first (is_numbered n) (λ old. row) (cons_option slot.row (rows_in rest))) [
        | true ↦ λ here.
            ap (λ (r : Option T). cons_option r (rows_in rest)) is
            ∙ (elim slot.row as (λ r. slot.row ≡ r → row ∷ rows_in rest ≡ change_first (is_numbered n) (λ old. row) (cons_option r (rows_in rest))) [
              | None ↦ λ none.
                  let absent : find (is_numbered n) (rows_in rest) ≡ None =
                  unfound-behind n rest (subst (λ (k : ℕ). AreAbove k (slot_numbers rest)) (eqb-true slot.number n here) rising.0) own.1 in
                  let still : is_some (find (is_numbered n) (rows_in rest)) ≡ true =
                  subst (λ (r : Option T). is_some (find (is_numbered n) (cons_option r (rows_in rest))) ≡ true) none there in
                  let no : true ≡ false = sym still ∙ ap is_some absent in
                  cc
              | Some old ↦ λ some.
                  sym (ap (λ (b : Bool). cond b (row ∷ rows_in rest) (old ∷ change_first (is_numbered n) (λ gone. row) (rows_in rest))) (own-number n slot old some (own.0, tt) ∙ here))
            ]) refl
        | false ↦ λ off.
            (elim slot.row as (λ r. slot.row ≡ r → cons_option r (rows_in (with_slot n new rest)) ≡ change_first (is_numbered n) (λ old. row) (cons_option r (rows_in rest))) [
              | None ↦ λ none.
                  put n new row rest is rising.1 own.1 (subst (λ (r : Option T). is_some (find (is_numbered n) (cons_option r (rows_in rest))) ≡ true) none there)
              | Some old ↦ λ some.
                  let other : is_numbered n old ≡ false = own-number n slot old some (own.0, tt) ∙ off in
                  let still : is_some (find (is_numbered n) (rows_in rest)) ≡ true =
                  sym (ap (λ (b : Bool). is_some (cond b (Some old) (find (is_numbered n) (rows_in rest)))) other)
                  ∙ subst (λ (r : Option T). is_some (find (is_numbered n) (cons_option r (rows_in rest))) ≡ true) some there in
                  ap (λ (l : List T). old ∷ l) (put n new row rest is rising.1 own.1 still)
                  ∙ sym (ap (λ (b : Bool). cond b (row ∷ rows_in rest) (old ∷ change_first (is_numbered n) (λ gone. row) (rows_in rest))) other)
            ]) refl
      ]) refl

  -- A row that goes

  abbrev others : ℕ → List T → List T
  others n rows = filter (λ row. not (is_numbered n row)) rows

  -- the same by a test the other way round
  pub without : (n : ℕ) (rows : List T) → others n rows ≡ filter (λ row. not (n == num row)) rows
  without n rows k = filter (λ row. not (flipped (num row) n k)) rows

  pub removed : (n : ℕ) (new : Slot T) (slots : List (Slot T)) → new.row ≡ None → AreRising (slot_numbers slots) → AreOwn num slots
      → rows_in (with_slot n new slots) ≡ cond (is_some (find (is_at n) slots)) (others n (rows_in slots)) (rows_in slots)
  removed n new [] is rising own = refl
  removed n new (slot ∷ rest) is rising own =
      (elim (is_at n slot) as (λ b. is_at n slot ≡ b → rows_in (cond b (new ∷ rest) (slot ∷ with_slot n new rest))
      ≡ cond (is_some (cond b (Some slot) (find (is_at n) rest))) (others n (cons_option slot.row (rows_in rest))) (cons_option slot.row (rows_in rest))) [
        | true ↦ λ here.
            let stay : others n (rows_in rest) ≡ rows_in rest =
            all-stay n rest (subst (λ (k : ℕ). AreAbove k (slot_numbers rest)) (eqb-true slot.number n here) rising.0) own.1 in
            ap (λ (r : Option T). cons_option r (rows_in rest)) is
            ∙ (elim slot.row as (λ r. slot.row ≡ r → rows_in rest ≡ others n (cons_option r (rows_in rest))) [
              | None ↦ λ none. sym stay
              | Some old ↦ λ some.
                  sym stay ∙ sym (ap (λ (b : Bool). cond (not b) (old ∷ others n (rows_in rest)) (others n (rows_in rest))) (own-number n slot old some (own.0, tt) ∙ here))
            ]) refl
        | false ↦ λ off.
            let more : rows_in (with_slot n new rest) ≡ cond (is_some (find (is_at n) rest)) (others n (rows_in rest)) (rows_in rest) = removed n new rest is rising.1 own.1 in
            (elim slot.row as (λ r. slot.row ≡ r → cons_option r (rows_in (with_slot n new rest))
            ≡ cond (is_some (find (is_at n) rest)) (others n (cons_option r (rows_in rest))) (cons_option r (rows_in rest))) [
              | None ↦ λ none. more
              | Some old ↦ λ some.
                  let other : others n (old ∷ rows_in rest) ≡ old ∷ others n (rows_in rest) =
                  ap (λ (b : Bool). cond (not b) (old ∷ others n (rows_in rest)) (others n (rows_in rest))) (own-number n slot old some (own.0, tt) ∙ off) in
                  ap (λ (l : List T). old ∷ l) more
                  ∙ elim (is_some (find (is_at n) rest)) as (λ b. old ∷ cond b (others n (rows_in rest)) (rows_in rest) ≡ cond b (others n (old ∷ rows_in rest)) (old ∷ rows_in rest)) [
                    | true ↦ sym other
                    | false ↦ refl
                  ]
            ]) refl
      ]) refl

  pub none-removed : (n : ℕ) (slots : List (Slot T)) → find (is_at n) slots ≡ None → AreOwn num slots → others n (rows_in slots) ≡ rows_in slots
  none-removed n [] absent own = refl
  none-removed n (slot ∷ rest) absent own =
      (elim (is_at n slot) as (λ b. is_at n slot ≡ b → cond b (Some slot) (find (is_at n) rest) ≡ None → others n (cons_option slot.row (rows_in rest)) ≡ cons_option slot.row (rows_in rest)) [
        | true ↦ λ here some. cc
        | false ↦ λ off none.
            let more : others n (rows_in rest) ≡ rows_in rest = none-removed n rest none own.1 in
            (elim slot.row as (λ r. slot.row ≡ r → others n (cons_option r (rows_in rest)) ≡ cons_option r (rows_in rest)) [
              | None ↦ λ is. more
              | Some row ↦ λ is.
                  ap (λ (b : Bool). cond (not b) (row ∷ others n (rows_in rest)) (others n (rows_in rest))) (own-number n slot row is (own.0, tt) ∙ off)
                  ∙ ap (λ (l : List T). row ∷ l) more
            ]) refl
      ]) refl absent

  -- How many there are

  pub rows_few : (slots : List (Slot T)) → length (rows_in slots) ≤ length slots
  rows_few [] = omega arith
  rows_few (slot ∷ rest) =
      let few : length (rows_in rest) ≤ length rest = rows_few rest in
      elim slot.row as (λ r. length (cons_option r (rows_in rest)) ≤ length (slot ∷ rest)) [
        | None ↦ omega (arith, few)
        | Some row ↦ omega (arith, few)
      ]

  -- A row more

  pub pushed : (new : Slot T) (row : T) (slots : List (Slot T)) → new.row ≡ Some row → rows_in (slots ++ new ∷ []) ≡ rows_in slots ++ row ∷ []
  pushed new row slots is =
      filter_map-append (λ (slot : Slot T). slot.row) slots (new ∷ []) ∙ ap (λ (r : Option T). rows_in slots ++ cons_option r []) is

  own-pushed : (new : Slot T) (slots : List (Slot T)) → IfSome new.row (λ row. num row ≡ new.number) → AreOwn num slots → AreOwn num (slots ++ new ∷ [])
  own-pushed new [] mine own = (mine, tt)
  own-pushed new (slot ∷ rest) mine own = (own.0, own-pushed new rest mine own.1)

  above-pushed : (k n : ℕ) (ns : List ℕ) → AreAbove k ns → k < n → AreAbove k (ns ++ n ∷ [])
  above-pushed k n [] above lt = (lt, tt)
  above-pushed k n (m ∷ ns) above lt = (above.0, above-pushed k n ns above.1 lt)

  rising-pushed : (n : ℕ) (ns : List ℕ) → AreRising ns → AreBelow n ns → AreRising (ns ++ n ∷ [])
  rising-pushed n [] rising below = (tt, tt)
  rising-pushed n (m ∷ ns) rising below = (above-pushed m n ns rising.0 below.0, rising-pushed n ns rising.1 below.1)

  numbers-pushed : (new : Slot T) (slots : List (Slot T)) → slot_numbers (slots ++ new ∷ []) ≡ slot_numbers slots ++ new.number ∷ []
  numbers-pushed new [] = refl
  numbers-pushed new (slot ∷ rest) = ap (λ (ns : List ℕ). slot.number ∷ ns) (numbers-pushed new rest)

  pub slots_pushed : (new : Slot T) (slots : List (Slot T)) → IfSome new.row (λ row. num row ≡ new.number) → AreSlots num slots → AreBelow new.number (slot_numbers slots)
      → AreSlots num (slots ++ new ∷ [])
  slots_pushed new slots mine are below =
      record {
        rising = subst AreRising (sym (numbers-pushed new slots)) (rising-pushed new.number (slot_numbers slots) are.rising below);
        own = own-pushed new slots mine are.own;
      }

  -- The last slot

  below-last : (n : ℕ) (ns ms : List ℕ) → AreBelow n (ns ++ ms) → AreBelow n ms
  below-last n [] ms below = below
  below-last n (k ∷ ns) ms below = below-last n ns ms below.1

  own-last : (slots : List (Slot T)) (last : Slot T) → AreOwn num (slots ++ last ∷ []) → AreOwn num (last ∷ [])
  own-last [] last own = own
  own-last (slot ∷ rest) last own = own-last rest last own.1

  own-front : (slots : List (Slot T)) (last : Slot T) → AreOwn num (slots ++ last ∷ []) → AreOwn num slots
  own-front [] last own = tt
  own-front (slot ∷ rest) last own = (own.0, own-front rest last own.1)

  above-front : (k : ℕ) (ns ms : List ℕ) → AreAbove k (ns ++ ms) → AreAbove k ns
  above-front k [] ms above = tt
  above-front k (n ∷ ns) ms above = (above.0, above-front k ns ms above.1)

  rising-front : (ns ms : List ℕ) → AreRising (ns ++ ms) → AreRising ns
  rising-front [] ms rising = tt
  rising-front (n ∷ ns) ms rising = (above-front n ns ms rising.0, rising-front ns ms rising.1)

  pub slots_front : (front : List (Slot T)) (last : Slot T) → AreSlots num (front ++ last ∷ []) → AreSlots num front
  slots_front front last are =
      record {
        rising = rising-front (slot_numbers front) (last.number ∷ []) (subst AreRising (numbers-pushed last front) are.rising);
        own = own-front front last are.own;
      }

  rows-numbers : (row : T) (rows : List T) → map num (rows ++ row ∷ []) ≡ map num rows ++ num row ∷ []
  rows-numbers row [] = refl
  rows-numbers row (one ∷ rest) = ap (λ (ns : List ℕ). num one ∷ ns) (rows-numbers row rest)

  -- a slot from a number on is empty, where each row is below that
  pub empty_last : (n : ℕ) (front : List (Slot T)) (last : Slot T) → AreSlots num (front ++ last ∷ []) → AreBelow n (map num (rows_in (front ++ last ∷ [])))
      → n ≤ last.number → rows_in (front ++ last ∷ []) ≡ rows_in front
  empty_last n front last are below le =
      (elim last.row as (λ r. last.row ≡ r → rows_in (front ++ last ∷ []) ≡ rows_in front) [
        | None ↦ λ is.
            filter_map-append (λ (slot : Slot T). slot.row) front (last ∷ [])
            ∙ (ap (λ (r : Option T). rows_in front ++ cons_option r []) is ∙ append-none (rows_in front))
        | Some row ↦ λ is.
            let there : AreBelow n (map num (rows_in front) ++ num row ∷ []) =
            subst (AreBelow n) (ap (map num) (pushed last row front is) ∙ rows-numbers row (rows_in front)) below in
            let lt : num row < n = (below-last n (map num (rows_in front)) (num row ∷ []) there).0 in
            let same : num row ≡ last.number = subst (λ (r : Option T). IfSome r (λ row. num row ≡ last.number)) is (own-last front last are.own).0 in
            absurd (omega (arith, lt, same, le))
      ]) refl
    where
      append-none : (rows : List T) → rows ++ [] ≡ rows
      append-none [] = refl
      append-none (row ∷ rest) = ap (λ (l : List T). row ∷ l) (append-none rest)

  -- Up to a number

  pub through : (p : T → Bool) (n k : ℕ) (d : Slot T) (slots : List (Slot T)) → ((row : T) → n < num row → p row ≡ false) → AreRising (slot_numbers slots) → AreOwn num slots
      → k < length slots → (get_or slots k d).number ≡ n → filter p (rows_in (take (suc k) slots)) ≡ filter p (rows_in slots)
  through p n k d [] off rising own lt here = refl
  through p n zero d (slot ∷ rest) off rising own lt here =
      let none : filter p (rows_in rest) ≡ [] =
      none-behind p n rest off (subst (λ (m : ℕ). AreAbove m (slot_numbers rest)) here rising.0) own.1 in
      elim slot.row as (λ r. filter p (cons_option r []) ≡ filter p (cons_option r (rows_in rest))) [
        | None ↦ sym none
        | Some row ↦ elim (p row) as (λ b. cond b (row ∷ []) [] ≡ cond b (row ∷ filter p (rows_in rest)) (filter p (rows_in rest))) [
          | true ↦ ap (λ (l : List T). row ∷ l) (sym none)
          | false ↦ sym none
        ]
      ]
  through p n (suc k) d (slot ∷ rest) off rising own lt here =
      let more : filter p (rows_in (take (suc k) rest)) ≡ filter p (rows_in rest) = through p n k d rest off rising.1 own.1 (omega (arith, lt)) here in
      elim slot.row as (λ r. filter p (cons_option r (rows_in (take (suc k) rest))) ≡ filter p (cons_option r (rows_in rest))) [
        | None ↦ more
        | Some row ↦ elim (p row) as (λ b. cond b (row ∷ filter p (rows_in (take (suc k) rest))) (filter p (rows_in (take (suc k) rest))) ≡ cond b (row ∷ filter p (rows_in rest)) (filter p (rows_in rest))) [
          | true ↦ ap (λ (l : List T). row ∷ l) more
          | false ↦ more
        ]
      ]

  -- By the place of a slot

  number-at : (n k : ℕ) (old : Slot T) (slots : List (Slot T)) → Some k ≡ position (is_at n) slots → old ≡ get_or slots k old → old.number ≡ n
  number-at n k old slots at is =
      ap (λ (slot : Slot T). slot.number) is ∙ eqb-true (get_or slots k old).number n (position-Some (is_at n) slots k old (sym at)).1

  set-is : (n k : ℕ) (new : Slot T) (slots : List (Slot T)) → Some k ≡ position (is_at n) slots → set slots k new ≡ with_slot n new slots
  set-is n k new slots at = numbered.changed (λ (slot : Slot T). slot.number) (is_at n) slots k new (sym at)

  found-at : (n k : ℕ) (old : Slot T) (slots : List (Slot T)) → Some k ≡ position (is_at n) slots → old ≡ get_or slots k old → find (is_at n) slots ≡ Some old
  found-at n k old slots at is =
      sym (numbered.found (λ (slot : Slot T). slot.number) (is_at n) slots k (sym at))
      ∙ (slice_get-get_or slots k old (position-Some (is_at n) slots k old (sym at)).0 ∙ ap Some (sym is))

  -- what is searched for in a slice of the slots
  pub searched_in : (n : ℕ) (xs slots : List (Slot T)) (r : Option ℕ) → xs ≡ slots → AreSlots num slots → (AreRising (slot_numbers xs) → r ≡ position (is_at n) xs)
      → r ≡ position (is_at n) slots
  searched_in n xs slots r same are is = is (subst (λ (l : List (Slot T)). AreRising (slot_numbers l)) (sym same) are.rising) ∙ ap (position (is_at n)) same

  pub within : (n k : ℕ) (slots : List (Slot T)) → Some k ≡ position (is_at n) slots → k < length slots
  within n k [] is = absurd (let no : Some k ≡ None = is in cc)
  within n k (slot ∷ rest) is = (position-Some (is_at n) (slot ∷ rest) k slot (sym is)).0

  pub unplaced : (n : ℕ) (slots : List (Slot T)) → AreSlots num slots → None ≡ position (is_at n) slots → None ≡ find (is_numbered n) (rows_in slots)
  unplaced n slots are at =
      ap row_of (sym (absent (is_at n) slots (sym at))) ∙ found n slots are.rising are.own

  pub placed : (n k : ℕ) (old : Slot T) (slots : List (Slot T)) → AreSlots num slots → Some k ≡ position (is_at n) slots → old ≡ get_or slots k old
      → old.row ≡ find (is_numbered n) (rows_in slots)
  placed n k old slots are at is = ap row_of (sym (found-at n k old slots at is)) ∙ found n slots are.rising are.own

  pub put_slots : (n k : ℕ) (old new : Slot T) (row : T) (slots : List (Slot T)) → AreSlots num slots → Some k ≡ position (is_at n) slots → old ≡ get_or slots k old
      → new.number ≡ old.number → new.row ≡ Some row → num row ≡ n → AreSlots num (set slots k new)
  put_slots n k old new row slots are at is same some mine =
      let one : new.number ≡ n = same ∙ number-at n k old slots at is in
      subst (AreSlots num) (sym (set-is n k new slots at))
      (slots-kept n new slots one (subst (λ (r : Option T). IfSome r (λ row. num row ≡ new.number)) (sym some) (mine ∙ sym one)) are)

  pub put_rows : (n k : ℕ) (new : Slot T) (row : T) (slots : List (Slot T)) → AreSlots num slots → Some k ≡ position (is_at n) slots
      → new.row ≡ Some row → is_some (find (is_numbered n) (rows_in slots)) ≡ true
      → rows_in (set slots k new) ≡ change_first (is_numbered n) (λ old. row) (rows_in slots)
  put_rows n k new row slots are at some there = ap rows_in (set-is n k new slots at) ∙ put n new row slots some are.rising are.own there

  pub empty_slots : (n k : ℕ) (old new : Slot T) (slots : List (Slot T)) → AreSlots num slots → Some k ≡ position (is_at n) slots → old ≡ get_or slots k old
      → new.number ≡ old.number → new.row ≡ None → AreSlots num (set slots k new)
  empty_slots n k old new slots are at is same none =
      let one : new.number ≡ n = same ∙ number-at n k old slots at is in
      subst (AreSlots num) (sym (set-is n k new slots at))
      (slots-kept n new slots one (subst (λ (r : Option T). IfSome r (λ row. num row ≡ new.number)) (sym none) tt) are)

  pub empty_rows : (n k : ℕ) (old new : Slot T) (slots : List (Slot T)) → AreSlots num slots → Some k ≡ position (is_at n) slots → old ≡ get_or slots k old
      → new.row ≡ None → rows_in (set slots k new) ≡ others n (rows_in slots)
  empty_rows n k old new slots are at is none =
      ap rows_in (set-is n k new slots at)
      ∙ (removed n new slots none are.rising are.own
      ∙ ap (λ (s : Option (Slot T)). cond (is_some s) (others n (rows_in slots)) (rows_in slots)) (found-at n k old slots at is))

  pub absent_rows : (n : ℕ) (slots : List (Slot T)) → AreSlots num slots → None ≡ position (is_at n) slots → rows_in slots ≡ others n (rows_in slots)
  absent_rows n slots are at =
      sym (none-removed n slots (absent (is_at n) slots (sym at)) are.own)

  -- The last slot of a slice

  one-further : (slot next : Slot T) (rest : List (Slot T)) → suc (length (next ∷ rest) - 1) ≡ length (slot ∷ next ∷ rest) - 1
  one-further slot next rest = omega arith

  pub ends_in : (slots : List (Slot T)) (last : Slot T) → slice_get slots (length slots - 1) ≡ Some last → (front : List (Slot T)) × (slots ≡ front ++ last ∷ [])
  ends_in [] last is = cc
  ends_in (slot ∷ []) last is = ([], let same : slot ≡ last = cc in ap (λ (s : Slot T). s ∷ []) same)
  ends_in (slot ∷ next ∷ rest) last is =
      let more = ends_in (next ∷ rest) last (ap (slice_get (slot ∷ next ∷ rest)) (one-further slot next rest) ∙ is) in
      (slot ∷ more.0, ap (λ (l : List (Slot T)). slot ∷ l) more.1)

  pub ends_nowhere : (slots : List (Slot T)) → slice_get slots (length slots - 1) ≡ None → slots ≡ []
  ends_nowhere [] is = refl
  ends_nowhere (slot ∷ []) is = cc
  ends_nowhere (slot ∷ next ∷ rest) is =
      (let none = ends_nowhere (next ∷ rest) (ap (slice_get (slot ∷ next ∷ rest)) (one-further slot next rest) ∙ is) in cc)

  above-last : (k n : ℕ) (ns : List ℕ) → AreAbove k (ns ++ n ∷ []) → k < n
  above-last k n [] above = above.0
  above-last k n (m ∷ ns) above = above-last k n ns above.1

  below-by-last : (n m : ℕ) (ns : List ℕ) → AreRising (ns ++ m ∷ []) → m < n → AreBelow n (ns ++ m ∷ [])
  below-by-last n m [] rising lt = (lt, tt)
  below-by-last n m (k ∷ ns) rising lt = (omega (arith, above-last k m ns rising.0, lt), below-by-last n m ns rising.1 lt)

  pub below_last : (n : ℕ) (slots : List (Slot T)) (last : Slot T) → slice_get slots (length slots - 1) ≡ Some last → last.number < n → AreRising (slot_numbers slots)
      → AreBelow n (slot_numbers slots)
  below_last n slots last is lt rising =
      let ends = ends_in slots last is in
      let numbers : slot_numbers slots ≡ slot_numbers ends.0 ++ last.number ∷ [] = ap slot_numbers ends.1 ∙ numbers-pushed last ends.0 in
      subst (AreBelow n) (sym numbers) (below-by-last n last.number (slot_numbers ends.0) (subst AreRising numbers rising) lt)

  pub below_none : (n : ℕ) (slots : List (Slot T)) → slice_get slots (length slots - 1) ≡ None → AreBelow n (slot_numbers slots)
  below_none n slots is = subst (λ (l : List (Slot T)). AreBelow n (slot_numbers l)) (sym (ends_nowhere slots is)) tt

  pub popped : (xs front : List (Slot T)) (last : Slot T) (n : ℕ) → xs ≡ front ++ last ∷ [] → n ≡ length xs → take (n - 1) xs ≡ front
  popped xs front last n is all =
      let long : length xs ≡ length front + 1 = ap length is ∙ length-append front (last ∷ []) in
      let short : n - 1 ≡ length front = omega (arith, long, all) in
      ap (λ (k : ℕ). take k xs) short ∙ (ap (take (length front)) is ∙ take-append_seam front (last ∷ []))

  -- the slots without the last one, which is from a number on
  pub dropped_rows : (n : ℕ) (all xs front : List (Slot T)) (last : Slot T) → xs ≡ front ++ last ∷ [] → rows_in xs ≡ rows_in all → AreSlots num xs
      → AreBelow n (map num (rows_in all)) → n ≤ last.number → rows_in front ≡ rows_in all
  dropped_rows n all xs front last is same are below le =
      let rows : rows_in all ≡ rows_in (front ++ last ∷ []) = sym same ∙ ap rows_in is in
      sym (rows ∙ empty_last n front last (subst (AreSlots num) is are) (subst (λ (l : List T). AreBelow n (map num l)) rows below) le)

  -- a row with a number above those of all slots
  pub push_slots : (n : ℕ) (row : T) (xs slots : List (Slot T)) → xs ≡ slots ++ record { number = n; row = Some row } ∷ [] → num row ≡ n → AreSlots num slots
      → AreBelow n (slot_numbers slots) → AreSlots num xs
  push_slots n row xs slots is mine are below =
      subst (AreSlots num) (sym is) (slots_pushed record { number = n; row = Some row } slots mine are below)

  pub push_rows : (n : ℕ) (row : T) (xs slots : List (Slot T)) → xs ≡ slots ++ record { number = n; row = Some row } ∷ [] → rows_in xs ≡ rows_in slots ++ row ∷ []
  push_rows n row xs slots is = ap rows_in is ∙ pushed record { number = n; row = Some row } row slots refl

  -- the rows up to a number, by the place of its slot
  pub through_rows : (p : T → Bool) (n k j : ℕ) (slots : List (Slot T)) → ((row : T) → n < num row → p row ≡ false) → AreSlots num slots
      → Some k ≡ position (is_at n) slots → j ≡ suc k → filter p (rows_in (take j slots)) ≡ filter p (rows_in slots)
  through_rows p n k j slots off are at is =
      (elim slots as (λ l. l ≡ slots → filter p (rows_in (take j slots)) ≡ filter p (rows_in slots)) [
        | [] ↦ λ same. (let none : Some k ≡ None = at ∙ ap (position (is_at n)) (sym same) in cc)
        | d ∷ rest ↦ λ same.
            let there = position-Some (is_at n) slots k d (sym at) in
            ap (λ (i : ℕ). filter p (rows_in (take i slots))) is
            ∙ through p n k d slots off are.rising are.own there.0 (eqb-true (get_or slots k d).number n there.1)
      ]) refl
