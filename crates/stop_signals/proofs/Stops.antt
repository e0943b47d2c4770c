-- What a stop word tells.
use Rattle.std.proofs.Common.{◌≡◌, ◌≢◌, ℕ, zero, suc, List, ◌∷◌, ◌++◌, ap, sym}
use Rattle.seat_rules.specs.Views.{fresh_with}

-- a job execution that was found is the first of those that were found
pub found_first : (found x : ℕ) (fresh stops : List ℕ) → found ≡ x → x ≢ 0 → (rest : List ℕ) × (fresh_with found fresh ++ stops ≡ x ∷ rest)
found_first zero x fresh stops e n = absurd (n (sym e))
found_first (suc found) x fresh stops e n = (fresh ++ stops, ap (λ (k : ℕ). k ∷ (fresh ++ stops)) e)
