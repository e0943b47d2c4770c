-- What a reader lost and a writer gained, one call after another.
use Rattle.std.proofs.Common.{◌∙◌, ℕ, List, [], ◌++◌, Option, Some, None, refl, sym, ap, subst, append_assoc}
use Rattle.std.proofs.lemmas.List.{append-nil}
use Rattle.std.specs.Io.KnownBytes.{Consumes, Appends}
use Rattle.script_lines.specs.Device.{Told, Held, Tells, Takes}

consumes-more : (a b c : Option (List ℕ)) (xs ys : List ℕ) → Consumes a b xs → Consumes b c ys → Consumes a c (xs ++ ys)
consumes-more None b c xs ys h k = tt
consumes-more (Some zs) None c xs ys h k = absurd h
consumes-more (Some zs) (Some bs) None xs ys h k = absurd k
consumes-more (Some zs) (Some bs) (Some cs) xs ys h k = h ∙ ap (λ r. xs ++ r) k ∙ sym (append_assoc xs ys cs)

consumes-none : (a : Option (List ℕ)) → Consumes a a []
consumes-none None = tt
consumes-none (Some xs) = refl

appends-more : (a b c : Option (List ℕ)) (xs ys : List ℕ) → Appends a b xs → Appends b c ys → Appends a c (xs ++ ys)
appends-more None b c xs ys h k = tt
appends-more (Some zs) None c xs ys h k = absurd h
appends-more (Some zs) (Some bs) None xs ys h k = absurd k
appends-more (Some zs) (Some bs) (Some cs) xs ys h k = k ∙ ap (λ r. r ++ ys) h ∙ append_assoc zs xs ys

appends-none : (a : Option (List ℕ)) → Appends a a []
appends-none None = tt
appends-none (Some xs) = sym (append-nil xs)

-- before the first call
pub tells_nothing : (t : Told) → Tells t t []
tells_nothing t = record { bytes = sym (append-nil t.bytes); lost = consumes-none t.left; roomy = refl }

pub tells_more : (a b c : Told) (xs ys : List ℕ) → Tells a b xs → Tells b c ys → Tells a c (xs ++ ys)
tells_more a b c xs ys h k = record {
  bytes = k.bytes ∙ ap (λ r. r ++ ys) h.bytes ∙ append_assoc a.bytes xs ys;
  lost = consumes-more a.left b.left c.left xs ys h.lost k.lost;
  roomy = k.roomy ∙ h.roomy;
}

pub tells_no_more : (a b c : Told) (xs : List ℕ) → Tells a b xs → Tells b c [] → Tells a c xs
tells_no_more a b c xs h k = subst (λ r. Tells a c r) (append-nil xs) (tells_more a b c xs [] h k)

-- before the first call
pub takes_nothing : (w : Held) → Takes w w []
takes_nothing w = record { bytes = sym (append-nil w.bytes); gained = appends-none w.contents }

pub takes_more : (a b c : Held) (xs ys : List ℕ) → Takes a b xs → Takes b c ys → Takes a c (xs ++ ys)
takes_more a b c xs ys h k = record {
  bytes = k.bytes ∙ ap (λ r. r ++ ys) h.bytes ∙ append_assoc a.bytes xs ys;
  gained = appends-more a.contents b.contents c.contents xs ys h.gained k.gained;
}
