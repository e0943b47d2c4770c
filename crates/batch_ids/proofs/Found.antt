-- What is found in a list, at its place.
use Rattle.std.proofs.Common.{◌≡◌, ℕ, ◌+◌, ◌<◌, Bool, true, false, cond, Some, List, length, find, drop, get_or, slice_get, refl, sym, ◌∙◌, ap}
use Rattle.std.proofs.lemmas.List.{at_drop_more}
use Rattle.std.proofs.lemmas.Option.{slice_get_read}

-- what passes the test at a place is found from that place on
pub find_at_place : {X : Type 0} (p : X → Bool) (xs : List X) (k : ℕ) (x : X) → k < length xs → x ≡ get_or xs k x → p x ≡ true
    → find p (drop k xs) ≡ slice_get xs k
find_at_place p xs k x lt is holds =
    let first = at_drop_more (find p) xs k x lt in
    let got = slice_get_read xs (length xs) k x refl lt is in
    let y : p (get_or xs k x) ≡ true = rw (← is) holds in
    let here : cond (p (get_or xs k x)) (Some (get_or xs k x)) (find p (drop (k + 1) xs)) ≡ Some (get_or xs k x) = rw y refl in
    first ∙ (here ∙ (ap Some (sym is) ∙ sym got))

-- what fails it is passed over
pub find_past : {X : Type 0} (p : X → Bool) (xs : List X) (k : ℕ) (d : X) → k < length xs → p (get_or xs k d) ≡ false
    → find p (drop (k + 1) xs) ≡ find p (drop k xs)
find_past p xs k d lt fails =
    let first = at_drop_more (find p) xs k d lt in
    let here : cond (p (get_or xs k d)) (Some (get_or xs k d)) (find p (drop (k + 1) xs)) ≡ find p (drop (k + 1) xs) = rw fails refl in
    sym (first ∙ here)

pub find_past_place : {X : Type 0} (p : X → Bool) (xs : List X) (k : ℕ) (x : X) → k < length xs → x ≡ get_or xs k x → p x ≡ false
    → find p (drop (k + 1) xs) ≡ find p (drop k xs)
find_past_place p xs k x lt is fails = find_past p xs k x lt (rw (← is) fails)
