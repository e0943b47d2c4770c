-- What is read of the tokens of a text, one member after another.
use Rattle.std.proofs.Common.{◌≡◌, ℕ, zero, suc, ◌-◌, ◌<◌, ◌≤◌, List, [], ◌∷◌, length, Option, Some, None, option_map, Result, Ok, Err, IfOk, refl, sym, ap, ◌∙◌, arith}
use Rattle.std.proofs.lemmas.Option.{none-some}
use Rattle.std.specs.Option.{option_and_then}
use Rattle.json.specs.Token.{Token}
use Rattle.json.specs.Lex.{tokens}
use Rattle.json.specs.Json as json
use Rattle.json.specs.Json.{Json, members, value, value_with, read_key, members_step, parse_map}
use Rattle.json.proofs.Grammar.{value-begin_object, value_is, read_key-shorter}
use Rattle.serde_json.specs.Data.{Num, Data, number, unsigned, negative, float, object, Members, no_members, put}
use Rattle.serde_json.specs.Read.{of_json, of_members, converted, number_of, read}
use Rattle.serde_json.specs.Find.{as_u64}
use Rattle.lent_json.specs.Flat.{count_in}
use Rattle.lent_json.specs.Reads.{members_read, value_read, scalar_of}

counted : (o : Option Num) (d : Data) → Some d ≡ option_map (λ n. number (unsigned n)) (option_and_then as_u64 o) → option_map number o ≡ Some d
counted None d h = sym h
counted (Some (unsigned n)) d h = sym h
counted (Some (negative z)) d h = absurd (none-some d (sym h))
counted (Some (float x)) d h = absurd (none-some d (sym h))

number-counted : (s : List ℕ) (d : Data) → Some d ≡ scalar_of (Token.number s) → of_json (json.number s) ≡ Some d
unfolding count_in
number-counted s d h = counted (number_of s) d h

-- a token that is a scalar begins a value
pub scalar-begins : (depth : ℕ) (t : Token) (d : Data) (rest : List Token) → Some d ≡ scalar_of t → value_read depth (t ∷ rest) ≡ Some (d, rest)
scalar-begins depth Token.begin_object d rest h = absurd (none-some d (sym h))
scalar-begins depth Token.end_object d rest h = absurd (none-some d (sym h))
scalar-begins depth Token.begin_array d rest h = absurd (none-some d (sym h))
scalar-begins depth Token.end_array d rest h = absurd (none-some d (sym h))
scalar-begins depth (Token.key s) d rest h = absurd (none-some d (sym h))
scalar-begins depth (Token.string s) d rest h = ap (converted of_json) (value_is depth (Token.string s ∷ rest)) ∙ ap (option_map (λ (b : Data). (b, rest))) (sym h)
scalar-begins depth (Token.number s) d rest h = ap (converted of_json) (value_is depth (Token.number s ∷ rest)) ∙ ap (option_map (λ (b : Data). (b, rest))) (number-counted s d h)
scalar-begins depth (Token.boolean b) d rest h = ap (converted of_json) (value_is depth (Token.boolean b ∷ rest)) ∙ ap (option_map (λ (b : Data). (b, rest))) (sym h)
scalar-begins depth Token.null d rest h = ap (converted of_json) (value_is depth (Token.null ∷ rest)) ∙ ap (option_map (λ (b : Data). (b, rest))) (sym h)
scalar-begins depth Token.bad d rest h = absurd (none-some d (sym h))

-- no value begins with a token that is none, or where no token stands
pub bad-value : (depth : ℕ) (ts : List Token) → value_read depth (Token.bad ∷ ts) ≡ None
bad-value depth ts = ap (converted of_json) (value_is depth (Token.bad ∷ ts))

pub empty-value : (depth : ℕ) → value_read depth [] ≡ None
empty-value depth = ap (converted of_json) (value_is depth [])

-- ---- One member

none-and : {A B : Type 0} → (o : Option A) → None ≡ option_and_then {U = B} (λ a. None) o
none-and None = refl
none-and (Some a) = refl

map-and : {A B C : Type 0} → (o : Option A) (f : B → C) (g : A → Option B) → option_map f (option_and_then g o) ≡ option_and_then (λ a. option_map f (g a)) o
map-and None f g = refl
map-and (Some a) f g = refl

and-map : {A B C : Type 0} → (o : Option A) (f : A → B) (g : B → Option C) → option_and_then (λ a. g (f a)) o ≡ option_and_then g (option_map f o)
and-map None f g = refl
and-map (Some a) f g = refl

-- members behind a member, by what the member stands for
behind : (k : List ℕ) (j : Json) (found : Members) (m : Option (json.Members × List Token))
    → converted (λ js. of_members js found) (parse_map (json.member k j) m) ≡ option_and_then (λ d. converted (λ js. of_members js (put k d found)) m) (of_json j)
behind k j found None = none-and (of_json j)
behind k j found (Some (js, ts)) = map-and (of_json j) (λ (b : Members). (b, ts)) (λ d. of_members js (put k d found))

turn : (k : List ℕ) (found : Members) (more : List Token → Option (json.Members × List Token)) (r : Option (Json × List Token))
    → converted (λ js. of_members js found) (option_and_then (λ q. parse_map (json.member k q.0) (more q.1)) r)
    ≡ option_and_then (λ p. converted (λ js. of_members js (put k p.0 found)) (more p.1)) (converted of_json r)
turn k found more None = refl
turn k found more (Some (j, ts)) =
    behind k j found (more ts) ∙ and-map (of_json j) (λ (d : Data). (d, ts)) (λ p. converted (λ js. of_members js (put k p.0 found)) (more p.1))

-- the members from a name on
from-name : (depth n : ℕ) (found : Members) (k : List ℕ) (ts first : List Token) → read_key ts ≡ Some (Some k, first)
    → members_read depth (suc n) found ts ≡ option_and_then (λ p. members_read depth n (put k p.0 found) p.1) (value_read depth first)
unfolding members
from-name depth n found k ts first named =
    ap (λ p. converted (λ js. of_members js found) (option_and_then (λ q. members_step (value depth) (members (value depth) n) q.0 q.1) p)) named
    ∙ turn k found (members (value depth) n) (value depth first)

no-turn : (a b : ℕ) → a ≤ 0 → b < a → ⊥
no-turn a b few short = omega arith

one-less : (m : ℕ) → m ≡ suc m - 1
one-less m = omega arith

-- what stands behind a name and its value is read into the members with it
pub one-member : (depth turns : ℕ) (found : Members) (k : List ℕ) (ts first rest : List Token) (d : Data) → length ts ≤ turns
    → read_key ts ≡ Some (Some k, first) → value_read depth first ≡ Some (d, rest) → members_read depth turns found ts ≡ members_read depth (turns - 1) (put k d found) rest
one-member depth zero found k ts first rest d few named is = absurd (no-turn (length ts) (length first) few (read_key-shorter ts (Some k) first named))
one-member depth (suc n) found k ts first rest d few named is =
    from-name depth n found k ts first named ∙ ap (option_and_then (λ p. members_read depth n (put k p.0 found) p.1)) is
    ∙ ap (λ m. members_read depth m (put k d found) rest) (one-less n)

-- the end of an object
pub last-member : (depth turns : ℕ) (found : Members) (ts rest : List Token) → length ts ≤ turns → read_key ts ≡ Some (None, rest) → members_read depth turns found ts ≡ Some (found, rest)
unfolding members
last-member depth zero found ts rest few named = absurd (no-turn (length ts) (length rest) few (read_key-shorter ts None rest named))
last-member depth (suc n) found ts rest few named =
    ap (λ p. converted (λ js. of_members js found) (option_and_then (λ q. members_step (value depth) (members (value depth) n) q.0 q.1) p)) named

-- no object goes on where no name stands
pub no-name : (depth turns : ℕ) (found : Members) (ts : List Token) → read_key ts ≡ None → members_read depth turns found ts ≡ None
unfolding members
no-name depth zero found ts named = refl
no-name depth (suc n) found ts named =
    ap (λ p. converted (λ js. of_members js found) (option_and_then (λ q. members_step (value depth) (members (value depth) n) q.0 q.1) p)) named

-- nor where a name has no value
pub no-value : (depth turns : ℕ) (found : Members) (k : List ℕ) (ts first : List Token) → read_key ts ≡ Some (Some k, first) → value_read depth first ≡ None → members_read depth turns found ts ≡ None
unfolding members
no-value depth zero found k ts first named none = refl
no-value depth (suc n) found k ts first named none =
    from-name depth n found k ts first named ∙ ap (option_and_then (λ p. members_read depth n (put k p.0 found) p.1)) none

-- ---- An object

-- an object of these members, before the same tokens
abbrev pub as_object : Members × List Token → Data × List Token
as_object p = (object p.0, p.1)

named-object : (r : Option (json.Members × List Token))
    → converted of_json (parse_map json.object r) ≡ option_map as_object (converted (λ js. of_members js no_members) r)
named-object None = refl
named-object (Some (js, ts)) = of-members (of_members js no_members) ts where
  of-members : (o : Option Members) (ts : List Token)
      → option_map (λ (b : Data). (b, ts)) (option_map object o) ≡ option_map as_object (option_map (λ (b : Members). (b, ts)) o)
  of-members None ts = refl
  of-members (Some ms) ts = refl

-- an object is what its members are
pub object-begins : (depth : ℕ) (ts : List Token) → 0 < depth
    → value_read depth (Token.begin_object ∷ ts) ≡ option_map as_object (members_read (depth - 1) (length ts) no_members ts)
object-begins depth ts deep = ap (converted of_json) (value-begin_object depth ts deep) ∙ named-object (members (value (depth - 1)) (length ts) ts)

-- a value behind which nothing stands
abbrev pub if_alone : Data → List Token → Option Data
if_alone d [] = Some d
if_alone d (t ∷ ts) = None

alone-at : (j : Json) (ts : List Token) (o : Option Data) → of_json j ≡ o
    → option_and_then of_json (json.if_last j ts) ≡ option_and_then (λ (p : Data × List Token). if_alone p.0 p.1) (option_map (λ (b : Data). (b, ts)) o)
alone-at j [] None is = is
alone-at j [] (Some d) is = is
alone-at j (t ∷ ts) None is = refl
alone-at j (t ∷ ts) (Some d) is = refl

alone : (r : Option (Json × List Token)) → option_and_then of_json (option_and_then (λ p. json.if_last p.0 p.1) r) ≡ option_and_then (λ (p : Data × List Token). if_alone p.0 p.1) (converted of_json r)
alone None = refl
alone (Some (j, ts)) = alone-at j ts (of_json j) refl

-- the value that a text is
pub read-is : (text : List ℕ) → read text ≡ option_and_then (λ (p : Data × List Token). if_alone p.0 p.1) (value_read 127 (tokens text))
read-is text = alone (value 127 (tokens text))

pub if-ok : {A E : Type 0} {P Q : A → Type 0} → (r : Result A E) → ((a : A) → P a → Q a) → IfOk r P → IfOk r Q
if-ok (Ok a) f h = f a h
if-ok (Err e) f h = h
