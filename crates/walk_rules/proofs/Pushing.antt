-- One partition further.
use Rattle.std.proofs.Common.{◌≡◌, ℕ, ◌+◌, List, [], ◌∷◌, ◌++◌, map, sym, ◌∙◌, ap, arith}
use Rattle.std.proofs.lemmas.List.{map-append}
use Rattle.std.proofs.lemmas.List.FromFn.{map-range_with_len_more}
use Rattle.walk_rules.specs.declared.facts.Fact.{Fact}
use Rattle.walk_rules.specs.declared.facts.Known.{Known}
use Rattle.walk_rules.specs.declared.work_key.WorkKey.{WorkKey}
use Rattle.walk_rules.specs.Keys.{key_of, numbers_to}
use Rattle.walk_rules.specs.Walk.{known_of}

-- what is known of one partition more
pub known-more : (facts : WorkKey → Fact) (id : List ℕ) (n : ℕ)
    → known_of facts (map (key_of id) (numbers_to (n + 1))) ≡ known_of facts (map (key_of id) (numbers_to n)) ++ known_of facts (key_of id n ∷ [])
known-more facts id n =
    ap (known_of facts) (map-range_with_len_more (key_of id) 0 n n (omega arith))
    ∙ map-append (λ (key : WorkKey). record { key = key; fact = facts key }) (map (key_of id) (numbers_to n)) (key_of id n ∷ [])

-- what is pushed is known of the partition
pub partition-pushed : (facts : WorkKey → Fact) (id : List ℕ) (n : ℕ) (before after : List Known) (key : WorkKey) (fact : Fact)
    → before ≡ known_of facts (map (key_of id) (numbers_to n)) → after ≡ before ++ record { key = key; fact = fact } ∷ [] → key ≡ key_of id n → fact ≡ facts (key_of id n)
    → after ≡ known_of facts (map (key_of id) (numbers_to (n + 1)))
partition-pushed facts id n before after key fact was pushed named says =
    pushed
    ∙ (ap (λ k. before ++ record { key = k; fact = fact } ∷ []) named
    ∙ (ap (λ f. before ++ record { key = key_of id n; fact = f } ∷ []) says
    ∙ (ap (λ ks. ks ++ known_of facts (key_of id n ∷ [])) was ∙ sym (known-more facts id n))))
