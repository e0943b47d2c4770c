-- A reader that counts: where an open goes on, and what a read leaves.
use Rattle.std.proofs.Common.{ℕ, zero, suc, ◌≡◌, ◌+◌, ◌-◌, ◌<◌, refl, sym, ap, nat_lt, cond, Bool, true, false, List, [], ◌∷◌, map, Option, Some, None, Result, Ok, Err, String, string_bytes, arith}
use Rattle.std.specs.declared.alloc.Global.{Global}
use Rattle.std.specs.Fmt.{decimal}
use Rattle.job_threads.specs.declared.artifact.ArtifactFault.{ArtifactFault}
use Rattle.job_threads.specs.declared.artifact.ArtifactFault.TheVariants.{Failed}
use Rattle.built_in_artifacts.specs.declared.built_in.BuiltIn.{BuiltIn}
use Rattle.built_in_artifacts.specs.declared.built_in.BuiltIn.TheVariants.{Complete, Fail, Exit, Count, Odd, Sink}
use Rattle.job_threads.specs.Calls.{Reading, opened}
use Rattle.job_threads.specs.Past.{Past}
use Rattle.built_in_artifacts.specs.Means.{means, coming, up_to, numbers_after, number_at}
use Rattle.built_in_artifacts.specs.Uses.{StartsAs, ReadsAs}

-- the first number after this one
numbers-next : (at n : ℕ) → 0 < n → map coming (numbers_after at n) ≡ coming (suc at) ∷ map coming (numbers_after (suc at) (n - 1))
numbers-next at zero some = absurd (omega arith)
numbers-next at (suc n) some = let e : suc n - 1 ≡ n = omega arith in rw e refl

pub up_to-next : (last at : ℕ) → at < last → up_to last at ≡ coming (at + 1) ∷ up_to last (at + 1)
up_to-next last at lt =
    let e : (last - at) - 1 ≡ last - suc at = omega arith in
    let s : at + 1 ≡ suc at = omega arith in
    rw s (rw (sym e) (numbers-next at (last - at) (omega arith)))

counted : (last to : ℕ) (cp : Option (List ℕ)) (at : ℕ) (past : Past) → to ≡ number_at cp → (mark : List ℕ) × (means (Count last) to past ≡ opened cp mark (means (Count last) at past))
counted last to cp at past e =
    (decimal to, ap (λ (k : ℕ). record (means (Count last) at past) { left = up_to last k; mark = decimal to }) e)

-- an open that goes on after this number
pub opened-at : (b : BuiltIn) (cp : Option (List ℕ)) (at to : ℕ) (past : Past) → StartsAs b cp (Some to) → (mark : List ℕ) × (means b to past ≡ opened cp mark (means b at past))
opened-at Complete cp at to past h = absurd (let no : Some to ≡ None = h in cc)
opened-at Fail cp at to past h = absurd (let no : Some to ≡ None = h in cc)
opened-at (Exit exit) cp at to past h = absurd (let no : Some to ≡ None = h in cc)
opened-at (Count last) None at to past h = counted last to None at past (let is : Some to ≡ Some 0 = h in cc)
opened-at (Count last) (Some mark) at to past h = counted last to (Some mark) at past h.value
opened-at Odd cp at to past h = absurd (let no : Some to ≡ None = h in cc)
opened-at Sink cp at to past h = ([], refl)

next-some : (last at : ℕ) (b : Bool) → nat_lt at last ≡ b → (x : List ℕ) → Some x ≡ cond b (Some (decimal (at + 1))) None → (at < last) × (decimal (at + 1) ≡ x)
next-some last at true lt x e = (grind (arith, lt), cc)
next-some last at false lt x e = absurd (let no : Some x ≡ None = e in cc)

read-count : (last at : ℕ) (past : Past) (x : String Global) → (at < last) × (decimal (at + 1) ≡ string_bytes x) → Reading (Ok (Some x)) (means (Count last) at past) (means (Count last) (at + 1) past)
read-count last at past x h = (coming (at + 1), up_to last (at + 1), up_to-next last at h.0, h.1, refl)

no-answer : (x : String Global) → ◌≡◌ {A = Result (Option (String Global)) ArtifactFault} (Ok (Some x)) (Err Failed) → ⊥
no-answer x e = cc

-- a read of an item
pub read-on : (b : BuiltIn) (at : ℕ) (past : Past) (x : String Global) → ReadsAs b at (Ok (Some x)) → Reading (Ok (Some x)) (means b at past) (means b (at + 1) past)
read-on Complete at past x h = absurd (no-answer x h)
read-on Fail at past x h = absurd (no-answer x h)
read-on (Exit exit) at past x h = absurd (no-answer x h)
read-on (Count last) at past x h = read-count last at past x (next-some last at (nat_lt at last) refl (string_bytes x) h)
read-on Odd at past x h = absurd (no-answer x h)
read-on Sink at past x h = absurd (no-answer x h)
