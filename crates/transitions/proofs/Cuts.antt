-- Cuts of a text: how a pattern's first character meets the text.
use Rattle.std.proofs.Common.{◌≡◌, ◌≢◌, ℕ, List, [], ◌∷◌, ◌++◌, length, ◌⊎◌, ◌↔◌, inl, inr, refl, sym, ap, ◌∙◌, arith}
use Rattle.std.proofs.lemmas.Bool.Decides.{eqb_tells}
use Rattle.std.specs.List.{concat, AllZip}
use Rattle.transitions.specs.Patterns.{Faces, Matches}
use Rattle.std.specs.Str.{chars, IsUtf8}
use Rattle.std.proofs.lemmas.Str.{encodes-chars}
use lib.Utf8.{encodes}

-- the pattern's character takes the one character d
abbrev pub Takes : ℕ → ℕ → Type 0
Takes c d = (c ≡ 63) ⊎ (c ≡ d)

pub Matches-nil : Matches [] []
unfolding Matches
Matches-nil = ([], refl, tt)

nil_pieces : (text : List ℕ) (pieces : List (List ℕ)) → concat pieces ≡ text → AllZip Faces [] pieces → text ≡ []
nil_pieces text [] e z = sym e
nil_pieces text (x ∷ xs) e z = absurd z

pub nil_from_Matches : (text : List ℕ) → Matches [] text → text ≡ []
unfolding Matches
nil_from_Matches text m = nil_pieces text m.0 m.1 m.2

pub add_piece : (c : ℕ) (cs piece rest : List ℕ) → Faces c piece → Matches cs rest → Matches (c ∷ cs) (piece ++ rest)
unfolding Matches
add_piece c cs piece rest f m = (piece ∷ m.0, ap (λ r. piece ++ r) m.1, (f, m.2))

cons_pieces : (c : ℕ) (cs text : List ℕ) (pieces : List (List ℕ)) → concat pieces ≡ text → AllZip Faces (c ∷ cs) pieces
    → (piece : List ℕ) × (rest : List ℕ) × (piece ++ rest ≡ text) × Faces c piece × Matches cs rest
unfolding Matches
cons_pieces c cs text [] e z = absurd z
cons_pieces c cs text (x ∷ xs) e z = (x, concat xs, e, z.0, (xs, refl, z.1))

pub first_piece : (c : ℕ) (cs text : List ℕ) → Matches (c ∷ cs) text
    → (piece : List ℕ) × (rest : List ℕ) × (piece ++ rest ≡ text) × Faces c piece × Matches cs rest
unfolding Matches
first_piece c cs text m = cons_pieces c cs text m.0 m.1 m.2

-- one character
single : (piece : List ℕ) → length piece ≡ 1 → (d : ℕ) × (piece ≡ d ∷ [])
single [] e = absurd (omega arith)
single (d ∷ []) e = (d, refl)
single (d ∷ x ∷ xs) e = absurd (omega arith)

piece_of_one : (c : ℕ) (piece : List ℕ) → c ≢ 42 → Faces c piece → (d : ℕ) × (piece ≡ d ∷ []) × Takes c d
piece_of_one c piece n f = elim f [
  | inl e ↦ absurd (n e)
  | inr g ↦ elim g [
    | inl h ↦ (let s = single piece h.1 in (s.0, s.1, inl h.0))
    | inr h ↦ (c, h.2, inr refl)
  ]
]

Faces-one : (c d : ℕ) → c ≢ 42 → Takes c d → Faces c (d ∷ [])
Faces-one c d n k = elim (eqb_tells c 63) [
  | inl h ↦ inr (inl (h.1, refl))
  | inr h ↦ inr (inr (n, h.1, elim k [ inl e ↦ absurd (h.1 e) | inr e ↦ ap (λ x. x ∷ []) (sym e) ]))
]

Faces-star : (piece : List ℕ) → Faces 42 piece
Faces-star piece = inl refl

-- a character that is no star takes the text's first character, and the rest matches the rest
pub one_from_Matches : (c : ℕ) (cs text : List ℕ) → c ≢ 42 → Matches (c ∷ cs) text
    → (d : ℕ) × (rest : List ℕ) × (text ≡ d ∷ rest) × Takes c d × Matches cs rest
one_from_Matches c cs text n m =
    let f = first_piece c cs text m in
    let o = piece_of_one c f.0 n f.3 in
    (o.0, f.1, sym f.2 ∙ ap (λ p. p ++ f.1) o.1, o.2, f.4)

pub Matches-one : (c d : ℕ) (cs rest : List ℕ) → c ≢ 42 → Takes c d → Matches cs rest → Matches (c ∷ cs) (d ∷ rest)
Matches-one c d cs rest n k m = add_piece c cs (d ∷ []) rest (Faces-one c d n k) m

-- a star takes any front of the text
pub star_from_Matches : (cs text : List ℕ) → Matches (42 ∷ cs) text
    → (front : List ℕ) × (rest : List ℕ) × (front ++ rest ≡ text) × Matches cs rest
star_from_Matches cs text m = let f = first_piece 42 cs text m in (f.0, f.1, f.2, f.4)

pub Matches-star : (cs front rest : List ℕ) → Matches cs rest → Matches (42 ∷ cs) (front ++ rest)
Matches-star cs front rest m = add_piece 42 cs front rest (Faces-star front) m

-- a star takes nothing, or the text's first character and then what it may
front_cases : (cs front rest : List ℕ) → Matches cs rest
    → Matches cs (front ++ rest) ⊎ ((d : ℕ) × (tail : List ℕ) × (front ++ rest ≡ d ∷ tail) × Matches (42 ∷ cs) tail)
front_cases cs [] rest m = inl m
front_cases cs (d ∷ ds) rest m = inr (d, ds ++ rest, refl, Matches-star cs ds rest m)

-- the same, of lists that are known by equations
pub Matches-at_end : (pattern text : List ℕ) → pattern ≡ [] → text ≡ [] → Matches pattern text
Matches-at_end pattern text p t = rw (p, t) Matches-nil

pub none_left : (pattern text : List ℕ) (d : ℕ) (ds : List ℕ) → pattern ≡ [] → text ≡ d ∷ ds → Matches pattern text → ⊥
none_left pattern text d ds p t m = let n = nil_from_Matches text (rw p at m) in cc

pub too_short : (pattern text : List ℕ) (c : ℕ) (cs : List ℕ) → pattern ≡ c ∷ cs → c ≢ 42 → text ≡ [] → Matches pattern text → ⊥
too_short pattern text c cs p n t m = let o = one_from_Matches c cs text n (rw p at m) in let e = o.2 in cc

pub differs : (pattern text : List ℕ) (c d : ℕ) (cs ds : List ℕ) → pattern ≡ c ∷ cs → text ≡ d ∷ ds → c ≢ 42 → c ≢ 63 → c ≢ d → Matches pattern text → ⊥
differs pattern text c d cs ds p t n q k m =
    let o = one_from_Matches c cs text n (rw p at m) in
    let e = o.2 in
    elim o.3 [ inl h ↦ q h | inr h ↦ (let same : d ≡ o.0 = cc in k (h ∙ sym same)) ]

pub step_iff : (pattern text : List ℕ) (c d : ℕ) (cs ds : List ℕ) → pattern ≡ c ∷ cs → text ≡ d ∷ ds → c ≢ 42 → Takes c d
    → (Matches pattern text ↔ Matches cs ds)
step_iff pattern text c d cs ds p t n k = (
  (λ m. let o = one_from_Matches c cs text n (rw p at m) in
      let e = o.2 in
      let same : o.1 ≡ ds = cc in
      let h = o.4 in rw same at h),
  (λ m. rw (p, t) (Matches-one c d cs ds n k m)),
)

-- what follows a star is tried at the text, and then the star at the rest of the text
pub star_iff : (cs text : List ℕ) (d : ℕ) (ds : List ℕ) → text ≡ d ∷ ds → (Matches cs text → ⊥) → (Matches (42 ∷ cs) text ↔ Matches (42 ∷ cs) ds)
star_iff cs text d ds t n = (
  (λ m. let f = star_from_Matches cs text m in
      elim (front_cases cs f.0 f.1 f.3) [
        | inl h ↦ absurd (n (rw f.2 at h))
        | inr h ↦ (let e : h.1 ≡ ds = let p = h.2 in let q = f.2 in cc in let k = h.3 in rw e at k)
      ]),
  (λ m. let f = star_from_Matches cs ds m in
      let e : (d ∷ f.0) ++ f.1 ≡ text = ap (λ r. d ∷ r) f.2 ∙ sym t in
      rw (← e) (Matches-star cs (d ∷ f.0) f.1 f.3)),
)

pub star_at_end : (cs text : List ℕ) → text ≡ [] → (Matches cs text → ⊥) → Matches (42 ∷ cs) text → ⊥
star_at_end cs text t n m =
    let f = star_from_Matches cs text m in
    elim (front_cases cs f.0 f.1 f.3) [
      | inl h ↦ n (rw f.2 at h)
      | inr h ↦ (let p = h.2 in let q = f.2 in cc)
    ]

pub star_here : (cs text : List ℕ) → Matches cs text → Matches (42 ∷ cs) text
star_here cs text m = Matches-star cs [] text m

pub text_over : (pattern text : List ℕ) → pattern ≡ [] → text ≢ [] → Matches pattern text → ⊥
text_over pattern text p n m = n (nil_from_Matches text (rw p at m))

-- a text with no characters is empty
pub length_from_no_chars : (bs : List ℕ) → IsUtf8 bs → chars bs ≡ [] → length bs ≡ 0
length_from_no_chars bs u e = ap length (sym (encodes-chars bs u) ∙ ap encodes e)
