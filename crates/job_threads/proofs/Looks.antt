-- Looks for a stop, and how many found one.
use Rattle.std.proofs.Common.{◌≡◌, ◌∙◌, ℕ, Bool, true, false, cond, ap}
use Rattle.job_threads.specs.Ports.{one_more}

-- after a look that found nothing
pub found_none : (found : Bool) (before after : ℕ) → after ≡ cond found (one_more before) before → found ≡ false → after ≡ before
found_none found before after looked none = looked ∙ ap (λ f. cond f (one_more before) before) none

-- after a look that found a stop
pub found_one : (found : Bool) (before after : ℕ) → after ≡ cond found (one_more before) before → found ≡ true → after ≡ one_more before
found_one found before after looked one = looked ∙ ap (λ f. cond f (one_more before) before) one
