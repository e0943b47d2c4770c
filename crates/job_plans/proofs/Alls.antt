-- What holds of all of a list, of a part of it.
use Rattle.std.proofs.Common.{◌≡◌, ◌||◌, ◌<◌, ◌≤◌, ◌+◌, ℕ, zero, suc, Bool, true, false, List, [], ◌∷◌, ◌++◌, length, drop, get_or, sym, ◌∙◌, ap, subst, arith}
use Rattle.std.specs.List.{All, Contains, flat_map, list_any}
use Rattle.std.proofs.lemmas.List.{at_drop_more, drop_all}
use Rattle.std.proofs.lemmas.List.Elements.{All-head, All-cons, All-nil}

pub All-tail : {X : Type 0} (P : X → Type 0) (x : X) (xs : List X) → All P (x ∷ xs) → All P xs
All-tail P x xs h k d lt = h (suc k) d (omega arith)

pub All-left : {X : Type 0} (P : X → Type 0) (xs ys : List X) → All P (xs ++ ys) → All P xs
All-left P [] ys h = All-nil P
All-left P (x ∷ xs) ys h = All-cons P x xs (All-head P x (xs ++ ys) h) (All-left P xs ys (All-tail P x (xs ++ ys) h))

pub All-right : {X : Type 0} (P : X → Type 0) (xs ys : List X) → All P (xs ++ ys) → All P ys
All-right P [] ys h = h
All-right P (x ∷ xs) ys h = All-right P xs ys (All-tail P x (xs ++ ys) h)

-- what holds of all that some elements hold, holds of all that one of them holds
pub All-held : {X Y : Type 0} (P : Y → Type 0) (held : X → List Y) (xs : List X) (x : X) → All P (flat_map held xs) → Contains xs x → All P (held x)
All-held P held [] x h (k, lt, e) = absurd (omega (arith, lt))
All-held P held (y ∷ ys) x h (zero, lt, e) = subst (λ z. All P (held z)) e (All-left P (held y) (flat_map held ys) h)
All-held P held (y ∷ ys) x h (suc k, lt, e) = All-held P held ys x (All-right P (held y) (flat_map held ys) h) (k, omega (arith, lt), e)

-- ---- Whether something holds of one of a list, looked at one by one

any-there : {X : Type 0} (p : X → Bool) (xs : List X) (i : ℕ) (x : X) (b whole : Bool) → i < length xs → x ≡ get_or xs i x → p x ≡ b
    → list_any p (drop i xs) ≡ whole → (b || list_any p (drop (i + 1) xs)) ≡ whole
any-there p xs i x b whole lt is here rest =
    ap (λ h. h || list_any p (drop (i + 1) xs)) (sym here ∙ ap p is) ∙ (sym (at_drop_more (list_any p) xs i x lt) ∙ rest)

pub any-here : {X : Type 0} (p : X → Bool) (xs : List X) (i : ℕ) (x : X) (whole : Bool) → i < length xs → x ≡ get_or xs i x → p x ≡ true
    → list_any p (drop i xs) ≡ whole → true ≡ whole
any-here p xs i x whole lt is on rest = any-there p xs i x true whole lt is on rest

pub any-later : {X : Type 0} (p : X → Bool) (xs : List X) (i : ℕ) (x : X) (whole : Bool) → i < length xs → x ≡ get_or xs i x → p x ≡ false
    → list_any p (drop i xs) ≡ whole → list_any p (drop (i + 1) xs) ≡ whole
any-later p xs i x whole lt is off rest = any-there p xs i x false whole lt is off rest

pub any-nowhere : {X : Type 0} (p : X → Bool) (xs : List X) (i : ℕ) (whole : Bool) → length xs ≤ i → list_any p (drop i xs) ≡ whole → false ≡ whole
any-nowhere p xs i whole past rest = ap (list_any p) (sym (drop_all i xs past)) ∙ rest
