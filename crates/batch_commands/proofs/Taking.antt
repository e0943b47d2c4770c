-- The words that ask for a script, a run or a check are words that the command takes.
use Rattle.std.proofs.Common.{◌≡◌, ◌∙◌, ◌⊎◌, inl, inr, ℕ, zero, suc, ◌+◌, ◌-◌, ◌^◌, ◌<◌, ◌≤◌, ◌==◌, ◌&&◌, List, [], ◌∷◌, ◌++◌, Bool, true, false, Bor, Option, Some, None, cond, drop, refl, sym, ap, ap₂, subst, codes, arith, lt-ltb, le-leb, ltb-false, ltb-true, eqb-true}
use Rattle.std.specs.Prelude.{nat_le, nat_lt}
use Rattle.std.specs.List.{list_all}
use Rattle.std.specs.Char.{digit_value}
use Rattle.std.specs.Str.Parse.{AllDigits, digits_value, without_leading_plus}
use Rattle.clap.specs.Words.{takes}
use Rattle.clap.specs.ValueTests.{is_unsigned_in}
use Rattle.clap.proofs.OnLiterals.{clap_on_literals}
use Rattle.batch_commands.specs.Asked.{IsAsked, IsLogName, IsNumberText, AsksFor, HasFlag, HasFlags, HasOptions, NamesFile, NamesLog}
use Rattle.clap.specs.declared.error.kind.ErrorKind.{ErrorKind}
use Rattle.clap.specs.declared.error.kind.ErrorKind.TheVariants.{DisplayHelp, DisplayVersion, OutOfMemory}
use Rattle.batch_commands.specs.Commands.{batchctl_app}
use Rattle.batch_commands.specs.declared.asked.Arguments.{Arguments}
use Rattle.batch_commands.specs.declared.asked.Arguments.TheVariants.{Script, LoggedScript, Run, Check}

-- ---- Numbers

all_digits : (ds : List ℕ) → AllDigits 10 ds → list_all (λ d. nat_lt (digit_value d) 10) ds ≡ true
all_digits [] h = refl
all_digits (d ∷ ds) h = ap₂ (λ a b. a && b) (lt-ltb _ _ h.0) (all_digits ds h.1)

within : (n : ℕ) → 1 ≤ n → n ≤ 16 → (nat_lt n (2 ^ 64) && (nat_le 1 n && nat_le n 16)) ≡ true
within n some few =
    let short : n < 2 ^ 64 = omega arith in
    ap₂ (λ a b. a && b) (lt-ltb _ _ short) (ap₂ (λ a b. a && b) (le-leb _ _ some) (le-leb _ _ few))

-- the text of a number of workers is one that the option takes
unsigned_in : (text : List ℕ) (n : ℕ) → IsNumberText text n → 1 ≤ n → n ≤ 16 → is_unsigned_in 1 16 text ≡ true
unsigned_in text n h some few =
    let value : digits_value 10 (without_leading_plus text) ≡ n = sym h.1 in
    let low : 1 ≤ digits_value 10 (without_leading_plus text) = subst (λ m. 1 ≤ m) (sym value) some in
    let high : digits_value 10 (without_leading_plus text) ≤ 16 = subst (λ m. m ≤ 16) (sym value) few in
    ap₂ (λ a b. a && b) (ap₂ (λ a b. a && b) (lt-ltb _ _ h.0.0) (all_digits (without_leading_plus text) h.0.1)) (within _ low high)

not_digit : (c : ℕ) → 58 ≤ c → (a b d e : Bool) → nat_lt c 65 ≡ a → nat_lt c 91 ≡ b → nat_lt c 97 ≡ d → nat_lt c 123 ≡ e → 10 ≤ cond a 36 (cond b (c - 55) (cond d 36 (cond e (c - 87) 36)))
not_digit c h true b d e p q r s = omega arith
not_digit c h false true d e p q r s = let low = ltb-false c 65 p in omega (arith, low)
not_digit c h false false true e p q r s = omega arith
not_digit c h false false false true p q r s = let low = ltb-false c 97 r in omega (arith, low)
not_digit c h false false false false p q r s = omega arith

digit_by : (c : ℕ) (low high : Bool) → nat_lt c 48 ≡ low → nat_lt c 58 ≡ high → cond low 36 (cond high (c - 48) (cond (nat_lt c 65) 36 (cond (nat_lt c 91) (c - 55) (cond (nat_lt c 97) 36 (cond (nat_lt c 123) (c - 87) 36))))) < 10 → (48 ≤ c) × (c < 58)
digit_by c true high p q h = absurd (omega (arith, h))
digit_by c false true p q h = (ltb-false c 48 p, ltb-true c 58 q)
digit_by c false false p q h = let much = not_digit c (ltb-false c 58 q) _ _ _ _ refl refl refl refl in absurd (omega (arith, much, h))

-- a digit is one of ten
digit_is : (c : ℕ) → digit_value c < 10 → (48 ≤ c) × (c < 58)
digit_is c h = digit_by c (nat_lt c 48) (nat_lt c 58) refl refl h

-- ---- Words

pub takes_script : takes batchctl_app (codes "script" ∷ []) ≡ true
unfolding clap_on_literals
takes_script = refl

takes_run : takes batchctl_app (codes "run" ∷ []) ≡ true
unfolding clap_on_literals
takes_run = refl

takes_run_end : takes batchctl_app (codes "run" ∷ codes "--" ∷ []) ≡ true
unfolding clap_on_literals
takes_run_end = refl

takes_one : (ds : List ℕ) → is_unsigned_in 1 16 ds ≡ true → takes batchctl_app (codes "run" ∷ (codes "--workers=" ++ ds) ∷ []) ≡ true
unfolding clap_on_literals
takes_one ds e = rw e refl

takes_one_end : (ds : List ℕ) → is_unsigned_in 1 16 ds ≡ true → takes batchctl_app (codes "run" ∷ (codes "--workers=" ++ ds) ∷ codes "--" ∷ []) ≡ true
unfolding clap_on_literals
takes_one_end ds e = rw e refl

-- the number of workers is a word of its own, which begins with this byte
abbrev TakesTwo : ℕ → Type 0
TakesTwo c = (ds : List ℕ) → is_unsigned_in 1 16 (c ∷ ds) ≡ true
    → (takes batchctl_app (codes "run" ∷ codes "--workers" ∷ (c ∷ ds) ∷ []) ≡ true) × (takes batchctl_app (codes "run" ∷ codes "--workers" ∷ (c ∷ ds) ∷ codes "--" ∷ []) ≡ true)

takes_two_43 : TakesTwo 43
unfolding clap_on_literals
takes_two_43 ds e = (rw e refl, rw e refl)

takes_two_48 : TakesTwo 48
unfolding clap_on_literals
takes_two_48 ds e = (rw e refl, rw e refl)

takes_two_49 : TakesTwo 49
unfolding clap_on_literals
takes_two_49 ds e = (rw e refl, rw e refl)

takes_two_50 : TakesTwo 50
unfolding clap_on_literals
takes_two_50 ds e = (rw e refl, rw e refl)

takes_two_51 : TakesTwo 51
unfolding clap_on_literals
takes_two_51 ds e = (rw e refl, rw e refl)

takes_two_52 : TakesTwo 52
unfolding clap_on_literals
takes_two_52 ds e = (rw e refl, rw e refl)

takes_two_53 : TakesTwo 53
unfolding clap_on_literals
takes_two_53 ds e = (rw e refl, rw e refl)

takes_two_54 : TakesTwo 54
unfolding clap_on_literals
takes_two_54 ds e = (rw e refl, rw e refl)

takes_two_55 : TakesTwo 55
unfolding clap_on_literals
takes_two_55 ds e = (rw e refl, rw e refl)

takes_two_56 : TakesTwo 56
unfolding clap_on_literals
takes_two_56 ds e = (rw e refl, rw e refl)

takes_two_57 : TakesTwo 57
unfolding clap_on_literals
takes_two_57 ds e = (rw e refl, rw e refl)

at_digit : (k : ℕ) → k < 10 → TakesTwo (48 + k)
at_digit zero h = takes_two_48
at_digit (suc zero) h = takes_two_49
at_digit (suc (suc zero)) h = takes_two_50
at_digit (suc (suc (suc zero))) h = takes_two_51
at_digit (suc (suc (suc (suc zero)))) h = takes_two_52
at_digit (suc (suc (suc (suc (suc zero))))) h = takes_two_53
at_digit (suc (suc (suc (suc (suc (suc zero)))))) h = takes_two_54
at_digit (suc (suc (suc (suc (suc (suc (suc zero))))))) h = takes_two_55
at_digit (suc (suc (suc (suc (suc (suc (suc (suc zero)))))))) h = takes_two_56
at_digit (suc (suc (suc (suc (suc (suc (suc (suc (suc zero))))))))) h = takes_two_57
at_digit (suc (suc (suc (suc (suc (suc (suc (suc (suc (suc k)))))))))) h = absurd (omega (arith, h))

takes_two_digit : (c : ℕ) → digit_value c < 10 → TakesTwo c
takes_two_digit c h =
    let at = digit_is c h in
    let is : 48 + (c - 48) ≡ c = omega (arith, at.0, at.1) in
    let few : c - 48 < 10 = omega (arith, at.1) in
    subst TakesTwo is (at_digit (c - 48) few)

takes_two_by : (c : ℕ) (ds : List ℕ) (plus : Bool) → (c == 43) ≡ plus → AllDigits 10 (drop (cond plus 1 0) (c ∷ ds)) → TakesTwo c
takes_two_by c ds true e h = subst TakesTwo (sym (eqb-true c 43 e)) takes_two_43
takes_two_by c ds false e h = takes_two_digit c h.0

-- a number of workers in a word of its own
takes_two : (text : List ℕ) (n : ℕ) → IsNumberText text n → 1 ≤ n → n ≤ 16
    → (takes batchctl_app (codes "run" ∷ codes "--workers" ∷ text ∷ []) ≡ true) × (takes batchctl_app (codes "run" ∷ codes "--workers" ∷ text ∷ codes "--" ∷ []) ≡ true)
takes_two [] n h some few = absurd (omega (arith, h.0.0))
takes_two (c ∷ ds) n h some few = takes_two_by c ds (c == 43) refl h.0.1 ds (unsigned_in (c ∷ ds) n h some few)

-- the options of a run, with or without a last `--`
takes_options : (workers : ℕ) (options : List (List ℕ)) → 1 ≤ workers → workers ≤ 16 → AsksFor workers options
    → (takes batchctl_app (codes "run" ∷ options) ≡ true) × (takes batchctl_app (codes "run" ∷ (options ++ codes "--" ∷ [])) ≡ true)
takes_options workers [] some few asks = (takes_run, takes_run_end)
takes_options workers (word ∷ []) some few (text, is, number) =
    let value = unsigned_in text workers number some few in (
      ap (λ (w : List ℕ). takes batchctl_app (codes "run" ∷ w ∷ [])) is ∙ takes_one text value,
      ap (λ (w : List ℕ). takes batchctl_app (codes "run" ∷ w ∷ codes "--" ∷ [])) is ∙ takes_one_end text value,
    )
takes_options workers (word ∷ text ∷ []) some few (is, number) =
    let both = takes_two text workers number some few in (
      ap (λ (w : List ℕ). takes batchctl_app (codes "run" ∷ w ∷ text ∷ [])) is ∙ both.0,
      ap (λ (w : List ℕ). takes batchctl_app (codes "run" ∷ w ∷ text ∷ codes "--" ∷ [])) is ∙ both.1,
    )
takes_options workers (word ∷ text ∷ other ∷ others) some few asks = absurd asks

takes_rest : (workers : ℕ) (rest options : List (List ℕ)) → 1 ≤ workers → workers ≤ 16 → HasOptions options rest → AsksFor workers options → takes batchctl_app (codes "run" ∷ rest) ≡ true
takes_rest workers rest options some few (inl is) asks = ap (λ (ws : List (List ℕ)). takes batchctl_app (codes "run" ∷ ws)) is ∙ (takes_options workers options some few asks).0
takes_rest workers rest options some few (inr is) asks = ap (λ (ws : List (List ℕ)). takes batchctl_app (codes "run" ∷ ws)) is ∙ (takes_options workers options some few asks).1

-- the words behind `script` are taken
abbrev IsTaken : List (List ℕ) → Type 0
IsTaken words = takes batchctl_app (codes "script" ∷ words) ≡ true

-- with a flag before or behind them
abbrev AreTakenWith : List ℕ → List (List ℕ) → Type 0
AreTakenWith flag words = IsTaken (flag ∷ words) × IsTaken (words ++ flag ∷ [])

-- with two flags, this one outside
abbrev AreTakenIn : List ℕ → List ℕ → List (List ℕ) → Type 0
AreTakenIn outside inside words = AreTakenWith outside (inside ∷ words) × AreTakenWith outside (words ++ inside ∷ [])

-- a script with a log, and with `--tags` and `--compact` before or behind it
abbrev AreTaken : List (List ℕ) → Type 0
AreTaken options =
    IsTaken options × AreTakenWith (codes "--tags") options × AreTakenWith (codes "--compact") options
    × AreTakenIn (codes "--tags") (codes "--compact") options × AreTakenIn (codes "--compact") (codes "--tags") options

takes_log_one : (first : ℕ) (rest : List ℕ) → AreTaken ((codes "--log=" ++ first ∷ rest) ∷ [])
unfolding clap_on_literals
takes_log_one first rest = (refl, (refl, refl), (refl, refl), ((refl, refl), (refl, refl)), ((refl, refl), (refl, refl)))

takes_log_two : (first : ℕ) (rest : List ℕ) → (first == 45) ≡ false → AreTaken (codes "--log" ∷ (first ∷ rest) ∷ [])
unfolding clap_on_literals
takes_log_two first rest e = (simp e, (simp e, simp e), (simp e, simp e), ((simp e, simp e), (simp e, simp e)), ((simp e, simp e), (simp e, simp e)))

takes_log : (name : List ℕ) (options : List (List ℕ)) → IsLogName name → NamesLog name options → AreTaken options
takes_log name options (first, rest, is, e) (inl by) = subst AreTaken (sym by) (subst (λ (n : List ℕ). AreTaken ((codes "--log=" ++ n) ∷ [])) (sym is) (takes_log_one first rest))
takes_log name options (first, rest, is, e) (inr by) = subst AreTaken (sym by) (subst (λ (n : List ℕ). AreTaken (codes "--log" ∷ n ∷ [])) (sym is) (takes_log_two first rest e))

takes_flag : (flag : List ℕ) (set : Bool) (options words : List (List ℕ)) → HasFlag flag set options words → IsTaken options → AreTakenWith flag options → IsTaken words
takes_flag flag false options words is none with_it = subst IsTaken (sym is) none
takes_flag flag true options words (inl is) none with_it = subst IsTaken (sym is) with_it.0
takes_flag flag true options words (inr is) none with_it = subst IsTaken (sym is) with_it.1

takes_inside : (outside inside : List ℕ) (set : Bool) (options words : List (List ℕ)) → HasFlag inside set options words → AreTakenWith outside options → AreTakenIn outside inside options
    → AreTakenWith outside words
takes_inside outside inside false options words is none both = subst (AreTakenWith outside) (sym is) none
takes_inside outside inside true options words (inl is) none both = subst (AreTakenWith outside) (sym is) both.0
takes_inside outside inside true options words (inr is) none both = subst (AreTakenWith outside) (sym is) both.1

takes_flags : (tags compact : Bool) (options words : List (List ℕ)) → HasFlags tags compact options words → AreTaken options → IsTaken words
takes_flags tags compact options words (inl (others, outside, inside)) taken =
    takes_flag (codes "--tags") tags others words outside (takes_flag (codes "--compact") compact options others inside taken.0 taken.2)
    (takes_inside (codes "--tags") (codes "--compact") compact options others inside taken.1 taken.3)
takes_flags tags compact options words (inr (others, outside, inside)) taken =
    takes_flag (codes "--compact") compact others words outside (takes_flag (codes "--tags") tags options others inside taken.0 taken.1)
    (takes_inside (codes "--compact") (codes "--tags") tags options others inside taken.2 taken.4)

-- ---- A check

takes_check : takes batchctl_app (codes "check" ∷ []) ≡ true
unfolding clap_on_literals
takes_check = refl

takes_check_input : takes batchctl_app (codes "check" ∷ codes "-" ∷ []) ≡ true
unfolding clap_on_literals
takes_check_input = refl

takes_check_file : (first : ℕ) (rest : List ℕ) → (first == 45) ≡ false → takes batchctl_app (codes "check" ∷ (first ∷ rest) ∷ []) ≡ true
unfolding clap_on_literals
takes_check_file first rest e = simp e

takes_file : (file : Option (Bor (List ℕ))) (words : List (List ℕ)) → NamesFile file words → takes batchctl_app (codes "check" ∷ words) ≡ true
takes_file None words (inl is) = ap (λ (ws : List (List ℕ)). takes batchctl_app (codes "check" ∷ ws)) is ∙ takes_check
takes_file None words (inr is) = ap (λ (ws : List (List ℕ)). takes batchctl_app (codes "check" ∷ ws)) is ∙ takes_check_input
takes_file (Some file) words ((first, rest, is, e), by) =
    ap (λ (ws : List (List ℕ)). takes batchctl_app (codes "check" ∷ ws)) by
    ∙ ap (λ (name : List ℕ). takes batchctl_app (codes "check" ∷ name ∷ [])) is
    ∙ takes_check_file first rest e

-- THE WORDS that ask for a script, a run or a check are taken
pub asked_taken : (arguments : Arguments) (words : List (List ℕ)) → IsAsked arguments words → takes batchctl_app words ≡ true
asked_taken Script words is = ap (takes batchctl_app) is ∙ takes_script
asked_taken (LoggedScript log tags compact) words (named, (rest, options, is, has, names)) = ap (takes batchctl_app) is ∙ takes_flags tags compact options rest has (takes_log log.now options named names)
asked_taken (Run workers) words (some, few, (rest, options, is, has, asks)) = ap (takes batchctl_app) is ∙ takes_rest workers rest options some few has asks
asked_taken (Check file) words (rest, is, names) = ap (takes batchctl_app) is ∙ takes_file file rest names

-- want of memory is no text that the words ask for
pub not_shown : (kind : ErrorKind) → kind ≡ OutOfMemory → (kind ≡ DisplayHelp) ⊎ (kind ≡ DisplayVersion) → ⊥
not_shown kind memory (inl help) = absurd (cc (sym memory ∙ help))
not_shown kind memory (inr version) = absurd (cc (sym memory ∙ version))
