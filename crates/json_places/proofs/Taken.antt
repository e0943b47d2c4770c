-- The tokens that a reading of the grammar takes are those of the value that it gives.
use Rattle.std.proofs.Common.{◌≡◌, ℕ, zero, suc, List, [], ◌∷◌, ◌++◌, length, Option, Some, None, option_and_then, refl, sym, ap, ◌∙◌, subst, append_assoc}
use Rattle.json.specs.Token.{Token}
use Rattle.json.specs.Json.{Json, array, object, Items, item, Members, member, Parse, parse_map, after_end_array, read_key, items_step, members_step, items, members, value_with, value}
use Rattle.json.specs.Tree.{json_tokens, items_tokens, members_tokens}
use Rattle.json.proofs.Grammar.{closed_array, read_key_is}

abbrev Took : {A : Type 0} → (A → List Token) → List Token → Option (A × List Token) → Type 0
Took f ts None = Unit {0}
Took f ts (Some p) = ts ≡ f p.0 ++ p.1

abbrev Takes : {A : Type 0} → (A → List Token) → Parse A → Type 0
Takes f p = (ts : List Token) → Took f ts (p ts)

more_items : (ts us : List Token) (j : Json) (o : Option (Items × List Token)) → ts ≡ json_tokens j ++ us → Took items_tokens us o → Took items_tokens ts (parse_map (item j) o)
more_items ts us j None h g = tt
more_items ts us j (Some p) h g = h ∙ ap (λ l. json_tokens j ++ l) g ∙ sym (append_assoc (json_tokens j) (items_tokens p.0) p.1)

more_members : (ts us : List Token) (k : List ℕ) (j : Json) (o : Option (Members × List Token)) → ts ≡ json_tokens j ++ us → Took members_tokens us o → Took members_tokens (Token.key k ∷ ts) (parse_map (member k j) o)
more_members ts us k j None h g = tt
more_members ts us k j (Some p) h g = ap (λ l. Token.key k ∷ l) (h ∙ ap (λ l. json_tokens j ++ l) g ∙ sym (append_assoc (json_tokens j) (members_tokens p.0) p.1))

then_items : (ts : List Token) (more : Parse Items) (o : Option (Json × List Token)) → Takes items_tokens more → Took json_tokens ts o → Took items_tokens ts (option_and_then (λ q. parse_map (item q.0) (more q.1)) o)
then_items ts more None h g = tt
then_items ts more (Some p) h g = more_items ts p.1 p.0 (more p.1) g (h p.1)

then_members : (ts : List Token) (k : List ℕ) (more : Parse Members) (o : Option (Json × List Token)) → Takes members_tokens more → Took json_tokens ts o
    → Took members_tokens (Token.key k ∷ ts) (option_and_then (λ q. parse_map (member k q.0) (more q.1)) o)
then_members ts k more None h g = tt
then_members ts k more (Some p) h g = more_members ts p.1 k p.0 (more p.1) g (h p.1)

module _ (p : Parse Json) (takes : Takes json_tokens p) where
  item_turn : (more : Parse Items) → Takes items_tokens more → (ts : List Token) (o : Option (List Token)) → after_end_array ts ≡ o → Took items_tokens ts (items_step p more ts o)
  item_turn more h ts (Some r) is = closed_array ts r is
  item_turn more h ts None is = then_items ts more (p ts) h (takes ts)

  takes_items : (n : ℕ) → Takes items_tokens (items p n)
  unfolding items
  takes_items zero ts = tt
  takes_items (suc n) ts = item_turn (items p n) (takes_items n) ts (after_end_array ts) refl

  member_turn : (more : Parse Members) → Takes members_tokens more → (ts : List Token) (o : Option (Option (List ℕ) × List Token)) → read_key ts ≡ o
      → Took members_tokens ts (option_and_then (λ q. members_step p more q.0 q.1) o)
  member_turn more h ts None is = tt
  member_turn more h ts (Some (None, r)) is = read_key_is ts None r is
  member_turn more h ts (Some (Some k, r)) is =
      subst (λ l. Took members_tokens l (option_and_then (λ q. parse_map (member k q.0) (more q.1)) (p r))) (sym (read_key_is ts (Some k) r is))
      (then_members r k more (p r) h (takes r))

  takes_members : (n : ℕ) → Takes members_tokens (members p n)
  unfolding members
  takes_members zero ts = tt
  takes_members (suc n) ts = member_turn (members p n) (takes_members n) ts (read_key ts) refl

of_array : (ts : List Token) (o : Option (Items × List Token)) → Took items_tokens ts o → Took json_tokens (Token.begin_array ∷ ts) (parse_map array o)
of_array ts None h = tt
of_array ts (Some p) h = ap (λ l. Token.begin_array ∷ l) h

of_object : (ts : List Token) (o : Option (Members × List Token)) → Took members_tokens ts o → Took json_tokens (Token.begin_object ∷ ts) (parse_map object o)
of_object ts None h = tt
of_object ts (Some p) h = ap (λ l. Token.begin_object ∷ l) h

takes_with : (a : Parse Items) (o : Parse Members) → Takes items_tokens a → Takes members_tokens o → Takes json_tokens (value_with a o)
takes_with a o h g [] = tt
takes_with a o h g (Token.begin_object ∷ ts) = of_object ts (o ts) (g ts)
takes_with a o h g (Token.end_object ∷ ts) = tt
takes_with a o h g (Token.begin_array ∷ ts) = of_array ts (a ts) (h ts)
takes_with a o h g (Token.end_array ∷ ts) = tt
takes_with a o h g (Token.key s ∷ ts) = tt
takes_with a o h g (Token.string s ∷ ts) = refl
takes_with a o h g (Token.number s ∷ ts) = refl
takes_with a o h g (Token.boolean b ∷ ts) = refl
takes_with a o h g (Token.null ∷ ts) = refl
takes_with a o h g (Token.bad ∷ ts) = tt

takes_value : (d : ℕ) → Takes json_tokens (value d)
unfolding value
takes_value zero = takes_with (λ ts. None) (λ ts. None) (λ ts. tt) (λ ts. tt)
takes_value (suc d) =
    takes_with (λ ts. items (value d) (length ts) ts) (λ ts. members (value d) (length ts) ts)
    (λ ts. takes_items (value d) (takes_value d) (length ts) ts) (λ ts. takes_members (value d) (takes_value d) (length ts) ts)

-- the tokens of a value, and those after it
pub taken : (d : ℕ) (ts : List Token) (j : Json) (rest : List Token) → value d ts ≡ Some (j, rest) → ts ≡ json_tokens j ++ rest
taken d ts j rest e = subst (Took json_tokens ts) e (takes_value d ts)
