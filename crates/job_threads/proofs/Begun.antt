-- A chunk's artifacts are told of the partition.
use Rattle.std.proofs.Common.{◌≡◌, ℕ, ◌<◌, List, length, refl, sym, ap, ◌∙◌, subst, arith, Option, Some, None, Result, Ok, Err, inl, inr}
use Rattle.job_threads.specs.declared.artifact.ArtifactFault.{ArtifactFault}
use Rattle.job_threads.specs.declared.kit.Roles.{Roles}
use Rattle.job_threads.specs.Meaning.{Meaning, Known, begun, means_at, put_at}
use Rattle.job_threads.specs.Calls.{Turned, Beginning, Running}
use Rattle.job_threads.specs.Kits.{HoldsSame, IsWithin, AreWithin, OpenFaultAt, OpenFaultIn, begun_at, begun_in, begun_roles}
use Rattle.job_threads.specs.Items.{BeginsIn, BeginsRoles, FoundWithin, RunsBegun}
use Rattle.job_threads.proofs.Turns.{keep, put-there, put-size}

-- what a begin leaves at every place
begun-open : (p : Option ℕ) (i : ℕ) (ks : List Known) (k : ℕ) → (means_at k (begun_at p i ks)).open_faults ≡ (means_at k ks).open_faults
begun-open p i ks k = keep (λ (n : Meaning). n.open_faults) i (begun p (means_at i ks)) ks refl k

begun-holds : (p : Option ℕ) (i : ℕ) (ks : List Known) → HoldsSame ks (begun_at p i ks)
begun-holds p i ks k = keep (λ (n : Meaning). n.holds) i (begun p (means_at i ks)) ks refl k

in-open : (p o : Option ℕ) (ks : List Known) (k : ℕ) → (means_at k (begun_in p o ks)).open_faults ≡ (means_at k ks).open_faults
in-open p None ks k = refl
in-open p (Some i) ks k = begun-open p i ks k

in-holds : (p o : Option ℕ) (ks : List Known) → HoldsSame ks (begun_in p o ks)
in-holds p None ks k = refl
in-holds p (Some i) ks k = begun-holds p i ks k

in-size : (p o : Option ℕ) (ks : List Known) → length (begun_in p o ks) ≡ length ks
in-size p None ks = refl
in-size p (Some i) ks = put-size i (begun p (means_at i ks)) ks

-- one begin
pub began : (p : Option ℕ) (i : ℕ) (a b : List Known) → Turned i (Beginning p (Ok tt)) a b → b ≡ begun_at p i a
began p i a b t = t.2 ∙ ap (λ (m : Meaning). put_at i m a) t.1

pub unbegun : (p : Option ℕ) (i : ℕ) (e : ArtifactFault) (a b : List Known) → i < length a → Turned i (Beginning p (Err e)) a b → OpenFaultAt i a b × HoldsSame a b
unbegun p i e a b lt t =
    let P : List Known → Type 0 = λ ks. OpenFaultAt i a ks × HoldsSame a ks in
    let more = t.1.counted in
    subst P (sym t.2) (omega (arith, ap (λ (n : Meaning). n.open_faults) (put-there i t.0 a lt)), keep (λ (n : Meaning). n.holds) i t.0 a t.1.holds)

pub began-in : (p : Option ℕ) (i : ℕ) (result : Result (Unit {0}) ArtifactFault) (a b : List Known) → i < length a → Turned i (Beginning p result) a b → BeginsIn p (Some i) result a b
began-in p i (Ok u) a b lt t = began p i a b t
began-in p i (Err e) a b lt t = unbegun p i e a b lt t

-- the same places are within
pub within-begun : (p o : Option ℕ) (ks : List Known) (i : ℕ) → i < length ks → i < length (begun_in p o ks)
within-begun p o ks i lt = omega (arith, in-size p o ks)

-- an artifact, if one is named
pub begins-some : (p place : Option ℕ) (i : ℕ) (result : Result (Unit {0}) ArtifactFault) (a b : List Known) → place ≡ Some i → IsWithin place a → Turned i (Beginning p result) a b → BeginsIn p place result a b
begins-some p None i result a b is within t = cc
begins-some p (Some j) i result a b is within t =
    let same : i ≡ j = cc in
    began-in p j result a b within (subst (λ (k : ℕ). Turned k (Beginning p result) a b) same t)

-- what the begins of all three leave at every place
roles-open : (p : Option ℕ) (roles : Roles) (a : List Known) (k : ℕ) → (means_at k (begun_roles p roles a)).open_faults ≡ (means_at k a).open_faults
roles-open p roles a k =
    begun-open p roles.writer (begun_in p roles.processor (begun_at p roles.reader a)) k
    ∙ (in-open p roles.processor (begun_at p roles.reader a) k ∙ begun-open p roles.reader a k)

roles-holds : (p : Option ℕ) (roles : Roles) (a : List Known) → HoldsSame a (begun_roles p roles a)
roles-holds p roles a k =
    begun-holds p roles.writer (begun_in p roles.processor (begun_at p roles.reader a)) k
    ∙ (in-holds p roles.processor (begun_at p roles.reader a) k ∙ begun-holds p roles.reader a k)

-- the reader faulted
pub roles-first : (p : Option ℕ) (roles : Roles) (e : ArtifactFault) (a b : List Known) → roles.reader < length a → Turned roles.reader (Beginning p (Err e)) a b → BeginsRoles p roles (Err e) a b
roles-first p roles e a b lt t =
    let f = unbegun p roles.reader e a b lt t in
    (inl (omega (arith, f.0, roles-open p roles a roles.reader)), λ k. f.1 k ∙ sym (roles-holds p roles a k))

in-from : (p : Option ℕ) (roles : Roles) (o : Option ℕ) (a b c : List Known) → b ≡ begun_at p roles.reader a → OpenFaultIn o b c → OpenFaultIn o (begun_roles p roles a) c
in-from p roles None a b c is f = f
in-from p roles (Some i) a b c is f =
    omega (arith, f, roles-open p roles a i, ap (λ (ks : List Known). (means_at i ks).open_faults) is, begun-open p roles.reader a i)

-- the processor did
pub roles-second : (p : Option ℕ) (roles : Roles) (e : ArtifactFault) (a b c : List Known) → b ≡ begun_at p roles.reader a → BeginsIn p roles.processor (Err e) b c → BeginsRoles p roles (Err e) a c
roles-second p roles e a b c is f = (
  inr (inl (in-from p roles roles.processor a b c is f.0)),
  λ k. f.1 k ∙ (ap (λ (ks : List Known). (means_at k ks).holds) is ∙ (begun-holds p roles.reader a k ∙ sym (roles-holds p roles a k))),
)

-- the writer did, or none
pub roles-third : (p : Option ℕ) (roles : Roles) (result : Result (Unit {0}) ArtifactFault) (a b c d : List Known) → roles.writer < length c → b ≡ begun_at p roles.reader a → c ≡ begun_in p roles.processor b
    → Turned roles.writer (Beginning p result) c d → BeginsRoles p roles result a d
roles-third p roles (Ok u) a b c d lt first second t =
    began p roles.writer c d t ∙ ap (begun_at p roles.writer) (second ∙ ap (begun_in p roles.processor) first)
roles-third p roles (Err e) a b c d lt first second t =
    let f = unbegun p roles.writer e c d lt t in
    let there : c ≡ begun_in p roles.processor (begun_at p roles.reader a) = second ∙ ap (begun_in p roles.processor) first in (
      inr (inr (omega (arith, f.0, roles-open p roles a roles.writer, ap (λ (ks : List Known). (means_at roles.writer ks).open_faults) there, in-open p roles.processor (begun_at p roles.reader a) roles.writer, begun-open p roles.reader a roles.writer))),
      λ k. f.1 k ∙ (ap (λ (ks : List Known). (means_at k ks).holds) there ∙ (in-holds p roles.processor (begun_at p roles.reader a) k ∙ (begun-holds p roles.reader a k ∙ sym (roles-holds p roles a k)))),
    )

-- the places of the roles stay within
at-size : (p : Option ℕ) (i : ℕ) (ks : List Known) → length (begun_at p i ks) ≡ length ks
at-size p i ks = put-size i (begun p (means_at i ks)) ks

pub in-within : (p o : Option ℕ) (i : ℕ) (a b : List Known) → b ≡ begun_at p i a → IsWithin o a → IsWithin o b
in-within p None i a b is w = w
in-within p (Some k) i a b is w = omega (arith, ap (λ (ks : List Known). length ks) is, at-size p i a)

pub writer-within : (p o : Option ℕ) (r w : ℕ) (a b c : List Known) → b ≡ begun_at p r a → c ≡ begun_in p o b → w < length a → w < length c
writer-within p o r w a b c first second lt =
    omega (arith, ap (λ (ks : List Known). length ks) first, at-size p r a, ap (λ (ks : List Known). length ks) second, in-size p o b)

same-within : (o : Option ℕ) (a b : List Known) → length b ≡ length a → IsWithin o a → IsWithin o b
same-within None a b size w = w
same-within (Some i) a b size w = omega (arith, size, w)

pub roles-within : (p : Option ℕ) (roles : Roles) (a b : List Known) → b ≡ begun_roles p roles a → AreWithin roles a → AreWithin roles b
roles-within p roles a b is w =
    let size : length b ≡ length a =
    ap (λ (ks : List Known). length ks) is
    ∙ (at-size p roles.writer (begun_in p roles.processor (begun_at p roles.reader a)) ∙ (in-size p roles.processor (begun_at p roles.reader a) ∙ at-size p roles.reader a)) in
    record {
      reader = omega (arith, size, w.reader);
      processor = same-within roles.processor a b size w.processor;
      writer = omega (arith, size, w.writer);
    }

-- a batchlet or decider that was told could not run
pub unran : (p : Option ℕ) (i : ℕ) (e : ArtifactFault) (a b : List Known) → i < length a → Turned i (Beginning p (Err e)) a b → RunsBegun p i (Err e) a b
unran p i e a b lt t = inl (unbegun p i e a b lt t).0

pub begun-within : (p : Option ℕ) (i : ℕ) (a b : List Known) → i < length a → b ≡ begun_at p i a → i < length b
begun-within p i a b lt is = omega (arith, lt, ap (λ (ks : List Known). length ks) is, at-size p i a)

pub ran : (p : Option ℕ) (i : ℕ) (result : Result (Option (List ℕ)) ArtifactFault) (a b c : List Known) → i < length a → b ≡ begun_at p i a → Turned i (Running result) b c → RunsBegun p i result a c
ran p i (Ok exit) a b c lt first t =
    let there : means_at i b ≡ begun p (means_at i a) = ap (means_at i) first ∙ put-there i (begun p (means_at i a)) a lt in
    let after : means_at i c ≡ t.0 = ap (means_at i) t.2 ∙ put-there i t.0 b (begun-within p i a b lt first) in (
      t.1.0 ∙ ap (λ (m : Meaning). m.exit) there,
      ap (λ (m : Meaning). m.faults) after ∙ (t.1.1 ∙ ap (λ (m : Meaning). m.faults) there),
      ap (λ (m : Meaning). m.open_faults) after ∙ (t.1.2 ∙ ap (λ (m : Meaning). m.open_faults) there),
    )
ran p i (Err e) a b c lt first t =
    let there : means_at i b ≡ begun p (means_at i a) = ap (means_at i) first ∙ put-there i (begun p (means_at i a)) a lt in
    let after : means_at i c ≡ t.0 = ap (means_at i) t.2 ∙ put-there i t.0 b (begun-within p i a b lt first) in
    let more = t.1 in
    inr (omega (arith, ap (λ (m : Meaning). m.faults) after, ap (λ (m : Meaning). m.faults) there))

pub some-within : (found : Option Roles) (roles : Roles) (ks : List Known) → found ≡ Some roles → FoundWithin found ks → AreWithin roles ks
some-within found roles ks is w = subst (λ (o : Option Roles). FoundWithin o ks) is w
