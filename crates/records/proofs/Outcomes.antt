-- What holds on an outcome.
use Rattle.std.proofs.Common.{◌≡◌, Bool, true, false, Result, Ok, Err, sym, subst}
use Rattle.std.specs.Bool.{OnTrue}
use Rattle.std.specs.Result.{OnOk, OnErr, is_ok}

pub when_true : (b : Bool) (P : Type 0) → b ≡ true → OnTrue b P → P
when_true true P is holds = holds
when_true false P is holds = absurd (let no : false ≡ true = is in cc)

pub on_true : (b : Bool) (P : Type 0) → P → OnTrue b P
on_true true P holds = holds
on_true false P holds = tt

module _ {A E : Type 0} where
  -- it holds whatever comes
  pub on_ok : (r : Result A E) (P : Type 0) → P → OnOk r P
  on_ok (Ok a) P holds = holds
  on_ok (Err e) P holds = tt

  pub on_err : (r : Result A E) (P : Type 0) → P → OnErr r P
  on_err (Ok a) P holds = tt
  on_err (Err e) P holds = holds

  pub true_where_ok : (r : Result A E) (b : Bool) (P : Type 0) → b ≡ is_ok r → OnOk r P → OnTrue b P
  true_where_ok (Ok a) b P is holds = on_true b P holds
  true_where_ok (Err e) b P is holds = subst (λ c. OnTrue c P) (sym is) tt
