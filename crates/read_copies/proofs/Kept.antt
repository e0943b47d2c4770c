-- What a copy is after it was brought.
use Rattle.std.proofs.Common.{◌≡◌, ℕ, ◌≤◌, List, [], ◌∷◌, take, length, refl, sym, subst, arith}
use Rattle.std.proofs.lemmas.List.{length-take-le}
use mathlib.Core.List.{IsPrefix}
use Rattle.batch_history.proofs.Legal.{legal-nothing}
use Rattle.batch_history.specs.Legal.{most_operations}
use Rattle.batch_history.specs.declared.call.Entry.{Entry}
use Rattle.jsl_model.specs.Jobs.{JobTree}
use Rattle.seat_rules.specs.Places.{IsLegalLog}
use Rattle.seat_rules.proofs.Prefixes.{prefix_take, prefix_shorter, legal_prefix}
use Rattle.seat_rules.specs.Views.{Each, list_of}
use Rattle.read_copies.specs.Copies.{IsCopied}

pub copied_new : (stands : List JobTree → List Entry → Type 0) (catalogue : List JobTree) (seat : List (List Entry)) → seat ≡ [] ∷ [] → stands catalogue [] → IsCopied stands catalogue 0 seat
copied_new stands catalogue seat is s = subst (IsCopied stands catalogue 0) (sym is) (record { one = refl; entries_is = refl; legal = legal-nothing most_operations catalogue; stood = s })

pub copied_is : (stands : List JobTree → List Entry → Type 0) (catalogue : List JobTree) (entries : ℕ) (seat : List (List Entry)) (log : List Entry) → seat ≡ take entries log ∷ [] → entries ≤ length log → IsLegalLog catalogue log → stands catalogue (take entries log) → IsCopied stands catalogue entries seat
copied_is stands catalogue entries seat log is le legal s =
    subst (IsCopied stands catalogue entries) (sym is) (record { one = refl; entries_is = sym (length-take-le entries log le); legal = legal_prefix catalogue (take entries log) log (prefix_take entries log) legal; stood = s })

pub kept_is : (log before : List Entry) (entries entries' : ℕ) (seat now : List (List Entry)) → Each (λ l. IsPrefix l log) seat → seat ≡ list_of seat ∷ [] → list_of seat ≡ before → entries ≡ length (list_of seat) → entries ≤ entries' → entries' ≤ length log → now ≡ take entries' log ∷ []
    → IsPrefix before (list_of now) × IsPrefix (list_of now) log
kept_is log before entries entries' seat now each one view n le short is =
    let p = (subst (Each (λ (l : List Entry). IsPrefix l log)) one each).0 in
    let long = length-take-le entries' log short in
    let a = prefix_shorter (list_of seat) (take entries' log) log p (prefix_take entries' log) (omega arith) in
    subst (λ (x : List Entry × List (List Entry)). IsPrefix x.0 (list_of x.1) × IsPrefix (list_of x.1) log) (λ i. (view i, sym is i)) (a, prefix_take entries' log)
