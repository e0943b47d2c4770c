-- What a loop has gathered so far, and what is still to come of the items that are left.
use Rattle.std.proofs.Common.{◌≡◌, List, [], ◌∷◌, ◌++◌, append_assoc, sym, ◌∙◌, ap}
use Rattle.std.proofs.lemmas.List.{append-nil}

module _ {A B : Type 0} (come : List A → List B) where
  -- the next item brings something
  pub one_more : (so_far brought now all : List B) (x : A) (left rest : List A) → left ≡ x ∷ rest → come (x ∷ rest) ≡ brought ++ come rest → now ≡ so_far ++ brought
      → so_far ++ come left ≡ all → now ++ come rest ≡ all
  one_more so_far brought now all x left rest first brings more whole =
      ap (λ (l : List B). l ++ come rest) more
      ∙ (append_assoc so_far brought (come rest)
      ∙ (ap (λ (l : List B). so_far ++ l) (sym brings) ∙ (ap (λ (l : List A). so_far ++ come l) (sym first) ∙ whole)))

  -- it brings nothing
  pub passed_over : (so_far all : List B) (x : A) (left rest : List A) → left ≡ x ∷ rest → come (x ∷ rest) ≡ come rest → so_far ++ come left ≡ all → so_far ++ come rest ≡ all
  passed_over so_far all x left rest first nothing whole =
      ap (λ (l : List B). so_far ++ l) (sym nothing) ∙ (ap (λ (l : List A). so_far ++ come l) (sym first) ∙ whole)

  -- none is left
  pub none_left : (so_far all : List B) (left : List A) → left ≡ [] → come [] ≡ [] → so_far ++ come left ≡ all → so_far ≡ all
  none_left so_far all left none nothing whole =
      sym (append-nil so_far) ∙ (ap (λ (l : List B). so_far ++ l) (sym nothing) ∙ (ap (λ (l : List A). so_far ++ come l) (sym none) ∙ whole))
