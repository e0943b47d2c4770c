-- The beginnings of a log, one after the other.
use Rattle.std.proofs.Common.{◌≡◌, ℕ, suc, ◌+◌, ◌<◌, Some, List, [], ◌∷◌, ◌++◌, length, take, slice_get, ◌∙◌, ap, arith}
use Rattle.std.proofs.Math.Seq.{take-suc}
use Rattle.std.proofs.lemmas.Option.{get_or_from_slice_get, slice_get_within}

-- a beginning with the entry behind it is the next beginning
pub take-next : {A : Type 0} (log : List A) (n : ℕ) (e : A) → slice_get log n ≡ Some e → take (n + 1) log ≡ take n log ++ e ∷ []
take-next log n e there =
    let next : n + 1 ≡ suc n = omega arith in
    let within : n < length log = slice_get_within log n e there in
    ap (λ k. take k log) next ∙ (take-suc log n e within ∙ ap (λ x. take n log ++ x ∷ []) (get_or_from_slice_get log n e e there))
