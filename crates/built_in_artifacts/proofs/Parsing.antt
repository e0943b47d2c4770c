-- A text of 1 to 9 digits, and what `parse` makes of it.
use Rattle.std.proofs.Common.{ℕ, ◌≡◌, ◌≤◌, ◌<◌, ◌^◌, sym, subst, length, get_or, ◌≢◌, List, Option, Result, Ok, Err, MatchOption, arith}
use Rattle.std.specs.Result.{OkIff, result_ok}
use Rattle.std.specs.Str.Parse.{AllDigits, digits_value, ParsesUnsigned}
use Rattle.std.proofs.lemmas.Str.Parse.{IsNumeralModel, numerals_by_value, tells_digits, parse_plain, digits_value_short}
use Rattle.built_in_artifacts.specs.Names.{IsNumber}

own : IsNumeralModel (AllDigits 10) (digits_value 10)
own = numerals_by_value (AllDigits 10) tells_digits

-- whether a text is a number, and which
abbrev pub Numbered : List ℕ → Option ℕ → Type 0
Numbered bs o = MatchOption o ((n : ℕ) → ¬ IsNumber bs n) (λ n. IsNumber bs n)

fits : (bs : List ℕ) → length bs ≤ 9 → AllDigits 10 bs → digits_value 10 bs < 2 ^ 32
fits bs few digits = let short : digits_value 10 bs < 10 ^ 9 = digits_value_short own bs 9 digits few in omega (arith, short)

numbered : {E : Type 0} (bs : List ℕ) (r : Result ℕ E) → length bs ≤ 9 → OkIff r (AllDigits 10 bs × (0 < length bs) × (digits_value 10 bs < 2 ^ 32)) (digits_value 10 bs) → Numbered bs (result_ok r)
numbered bs (Ok n) few h = record { digits = (h.0.1, h.0.0); few = few; value = h.1 }
numbered bs (Err e) few h = λ n is. h (is.digits.1, is.digits.0, fits bs few is.digits.1)

pub parsed : {E : Type 0} (bs : List ℕ) (r : Result ℕ E) (o : Option ℕ) → o ≡ result_ok r → length bs ≤ 9 → get_or bs 0 0 ≢ 43 → ParsesUnsigned 32 10 bs r → Numbered bs o
parsed bs r o e few plain h = let P : Option ℕ → Type 0 = Numbered bs in subst P (sym e) (numbered bs r few (parse_plain own 32 bs r h plain))
