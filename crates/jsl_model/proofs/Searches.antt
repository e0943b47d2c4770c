-- Looking for the first element of an id in what several values hold, one after another.
use Rattle.std.proofs.Common.{◌≡◌, ℕ, ◌+◌, ◌<◌, Bool, true, false, Bor, option_copied, cond, Option, None, Some, is_some, List, ◌∷◌, ◌++◌, length, drop, get_or, find, refl, sym, ◌∙◌, ap}
use Rattle.std.specs.Option.{option_or}
use Rattle.std.specs.List.{flat_map}
use Rattle.std.proofs.lemmas.List.{at_drop_more}
use Rattle.std.proofs.lemmas.List.Folds.{find-append}

-- an answer that is there stands for both
or_there : {X : Type 0} (found later : Option X) → is_some found ≡ true → option_or found later ≡ found
or_there None later some = cc
or_there (Some x) later some = refl

-- an answer that is not there leaves the later one
or_later : {X : Type 0} (found later : Option X) → is_some found ≡ false → option_or found later ≡ later
or_later None later none = refl
or_later (Some x) later none = cc

-- what is found from this place on is found in what its value holds, or further on
from_here : {X Y : Type 0} (test : Y → Bool) (held : X → List Y) (xs : List X) (i : ℕ) (x : X)
    → i < length xs → x ≡ get_or xs i x
    → find test (flat_map held (drop i xs)) ≡ option_or (find test (held x)) (find test (flat_map held (drop (i + 1) xs)))
from_here test held xs i x lt is =
    at_drop_more (λ ys. find test (flat_map held ys)) xs i x lt
    ∙ (ap (λ y. find test (held y ++ flat_map held (drop (i + 1) xs))) (sym is)
    ∙ find-append test (held x) (flat_map held (drop (i + 1) xs)))

-- what the value at this place holds has it
pub found_here : {X Y : Type 0} (test : Y → Bool) (held : X → List Y) (xs : List X) (i : ℕ) (x : X) (found whole : Option Y)
    → i < length xs → x ≡ get_or xs i x → found ≡ find test (held x) → is_some found ≡ true
    → find test (flat_map held (drop i xs)) ≡ whole → found ≡ whole
found_here {Y = Y} test held xs i x found whole lt is told some left =
    sym (or_there found (find test (flat_map held (drop (i + 1) xs))) some)
    ∙ (ap (λ (o : Option Y). option_or o (find test (flat_map held (drop (i + 1) xs)))) told
    ∙ (sym (from_here test held xs i x lt is) ∙ left))

-- what the value at this place holds has it not
pub found_later : {X Y : Type 0} (test : Y → Bool) (held : X → List Y) (xs : List X) (i : ℕ) (x : X) (found whole : Option Y)
    → i < length xs → x ≡ get_or xs i x → found ≡ find test (held x) → is_some found ≡ false
    → find test (flat_map held (drop i xs)) ≡ whole → find test (flat_map held (drop (i + 1) xs)) ≡ whole
found_later {Y = Y} test held xs i x found whole lt is told none left =
    sym (or_later found (find test (flat_map held (drop (i + 1) xs))) none)
    ∙ (ap (λ (o : Option Y). option_or o (find test (flat_map held (drop (i + 1) xs)))) told
    ∙ (sym (from_here test held xs i x lt is) ∙ left))

-- the first of some is the one
pub first_is : {Y : Type 0} (test : Y → Bool) (y : Y) (ys : List Y) → test y ≡ true → Some y ≡ find test (y ∷ ys)
first_is test y ys holds = sym (ap (λ b. cond b (Some y) (find test ys)) holds)

-- the first of some is not the one
pub first_is_not : {Y : Type 0} (test : Y → Bool) (y : Y) (ys : List Y) (found : Option Y) → test y ≡ false → found ≡ find test ys → found ≡ find test (y ∷ ys)
first_is_not test y ys found fails told = told ∙ sym (ap (λ b. cond b (Some y) (find test ys)) fails)

-- a borrowed answer is there just where its copy is
pub copied_there : {Y : Type 0} (found : Option (Bor Y)) (there : Bool) → is_some found ≡ there → is_some (option_copied found) ≡ there
copied_there None there same = same
copied_there (Some y) there same = same
