-- What a call at one place of a kit does at every place.
use Rattle.std.proofs.Common.{◌≡◌, ℕ, zero, suc, ◌<◌, ◌≤◌, ◌+◌, ◌++◌, List, [], ◌∷◌, map, length, length-append, append_assoc, append-nil, refl, sym, ap, ◌∙◌, subst, arith, Option, Some, None, Result, Ok, Err, String, string_bytes, inl, inr, true, false}
use Rattle.std.proofs.lemmas.List.{map-append}
use Rattle.std.specs.declared.alloc.Global.{Global}
use Rattle.job_threads.specs.declared.artifact.ArtifactFault.{ArtifactFault}
use Rattle.job_threads.specs.declared.kit.Roles.{Roles}
use Rattle.job_threads.specs.declared.group.Group.{Group}
use Rattle.job_threads.specs.declared.group.ItemRead.TheVariants.{End, Dropped, Kept}
use Rattle.job_threads.specs.Meaning.{Coming, Meaning, Known, means_at, put_at}
use Rattle.job_threads.specs.Calls.{Turned, Reading, Processing, Writing, Faulted, passed, taken}
use Rattle.job_threads.specs.Groups.{mark_from, kept, listed, grown}
use Rattle.job_threads.specs.Kits.{Calm, HoldsSame, Read, Written, FaultAt, FaultIn, FaultOf, IsWithin, AreWithin, work_of}
use Rattle.job_threads.specs.Steps.{Processes, Writes, ReadsItem, ReadsGroup, IsRead, Reached, bytes_of}

-- what a call leaves of its artifact is left at every place
pub keep : {A : Type 0} (φ : Meaning → A) (at : ℕ) (m : Meaning) (ks : List Known) → φ m ≡ φ (means_at at ks) → (i : ℕ) → φ (means_at i (put_at at m ks)) ≡ φ (means_at i ks)
keep φ at m [] same i = refl
keep φ zero m (k ∷ ks) same zero = same
keep φ zero m (k ∷ ks) same (suc i) = refl
keep φ (suc at) m (k ∷ ks) same zero = refl
keep φ (suc at) m (k ∷ ks) same (suc i) = keep φ at m ks same i

pub put-there : (at : ℕ) (m : Meaning) (ks : List Known) → at < length ks → means_at at (put_at at m ks) ≡ m
put-there at m [] lt = absurd (omega arith)
put-there zero m (k ∷ ks) lt = refl
put-there (suc at) m (k ∷ ks) lt = put-there at m ks (omega arith)

pub put-same : (at : ℕ) (ks : List Known) → put_at at (means_at at ks) ks ≡ ks
put-same at [] = refl
put-same zero (k ∷ ks) = refl
put-same (suc at) (k ∷ ks) = ap (λ (xs : List Known). k ∷ xs) (put-same at ks)

pub put-size : (at : ℕ) (m : Meaning) (ks : List Known) → length (put_at at m ks) ≡ length ks
put-size at m [] = refl
put-size zero m (k ∷ ks) = refl
put-size (suc at) m (k ∷ ks) = ap suc (put-size at m ks)

pub calm-refl : (ks : List Known) → Calm ks ks
calm-refl ks = record { gives = λ i. refl; faults = λ i. refl; open_faults = λ i. refl; size = refl }

pub calm-trans : (a b c : List Known) → Calm a b → Calm b c → Calm a c
calm-trans a b c p q = record {
  gives = λ i. q.gives i ∙ p.gives i;
  faults = λ i. q.faults i ∙ p.faults i;
  open_faults = λ i. q.open_faults i ∙ p.open_faults i;
  size = q.size ∙ p.size;
}

pub calm-put : (at : ℕ) (m : Meaning) (ks : List Known) → m.gives ≡ (means_at at ks).gives → m.faults ≡ (means_at at ks).faults → m.open_faults ≡ (means_at at ks).open_faults → Calm ks (put_at at m ks)
calm-put at m ks a b c = record {
  gives = keep (λ (n : Meaning). n.gives) at m ks a;
  faults = keep (λ (n : Meaning). n.faults) at m ks b;
  open_faults = keep (λ (n : Meaning). n.open_faults) at m ks c;
  size = put-size at m ks;
}

pub work-same : (p : Option ℕ) (a b : List Known) → Calm a b → work_of p b ≡ work_of p a
work-same None a b calm = refl
work-same (Some i) a b calm = calm.gives i

pub work-calm : (p : Option ℕ) (a b : List Known) → Calm a b → (x : List ℕ) → work_of p b x ≡ work_of p a x
work-calm p a b calm x = ap (λ (f : List ℕ → Option (List ℕ)). f x) (work-same p a b calm)

pub holds-trans : (a b c : List Known) → HoldsSame a b → HoldsSame b c → HoldsSame a c
holds-trans a b c p q i = q i ∙ p i

pub fault-at : (i : ℕ) (a b c : List Known) → Calm a b → FaultAt i b c → FaultAt i a c
fault-at i a b c calm f = omega (arith, calm.faults i)

pub fault-in : (p : Option ℕ) (a b c : List Known) → Calm a b → FaultIn p b c → FaultIn p a c
fault-in None a b c calm f = f
fault-in (Some i) a b c calm f = fault-at i a b c calm f

pub fault-of : (roles : Roles) (a b c : List Known) → Calm a b → FaultOf roles b c → FaultOf roles a c
fault-of roles a b c calm (inl f) = inl (fault-at roles.reader a b c calm f)
fault-of roles a b c calm (inr (inl f)) = inr (inl (fault-in roles.processor a b c calm f))
fault-of roles a b c calm (inr (inr f)) = inr (inr (fault-at roles.writer a b c calm f))

-- a call that faulted
pub faulted : (at : ℕ) (ks after : List Known) → at < length ks → Turned at Faulted ks after → FaultAt at ks after × HoldsSame ks after
faulted at ks after lt t =
    let P : List Known → Type 0 = λ xs. FaultAt at ks xs × HoldsSame ks xs in
    let there = put-there at t.0 ks lt in
    let more = t.1.counted in
    subst P (sym t.2) (omega (arith, ap (λ (n : Meaning). n.faults) there), keep (λ (n : Meaning). n.holds) at t.0 ks t.1.holds)

pub mark-append : (m : List ℕ) (g h : List Coming) → mark_from m (g ++ h) ≡ mark_from (mark_from m g) h
mark-append m [] h = refl
mark-append m (c ∷ g) h = mark-append c.mark g h

pub read-none : (r : ℕ) (ks : List Known) → Read r ks ks [] (means_at r ks).left
read-none r ks = record { items = refl; left = refl; mark = refl; calm = calm-refl ks; holds = λ i. refl }

pub read-then : (r : ℕ) (a b c : List Known) (g h rest left : List Coming) → Read r a b g rest → Read r b c h left → Read r a c (g ++ h) left
read-then r a b c g h rest left p q = record {
  items = p.items ∙ (ap (λ (xs : List Coming). g ++ xs) (sym p.left ∙ q.items) ∙ sym (append_assoc g h left));
  left = q.left;
  mark = q.mark ∙ (ap (λ (m : List ℕ). mark_from m h) p.mark ∙ sym (mark-append (means_at r a).mark g h));
  calm = calm-trans a b c p.calm q.calm;
  holds = holds-trans a b c p.holds q.holds;
}

-- an item was read
pub read-one : (r : ℕ) (ks after : List Known) (c : Coming) (rest : List Coming) → r < length ks → (means_at r ks).left ≡ c ∷ rest → (n : Meaning) → n ≡ passed rest c.mark (means_at r ks) → after ≡ put_at r n ks → Read r ks after (c ∷ []) rest
read-one r ks after c rest lt left n is put =
    let to : Meaning = passed rest c.mark (means_at r ks) in
    let P : List Known → Type 0 = λ xs. Read r ks xs (c ∷ []) rest in
    let there = put-there r to ks lt in
    subst P (sym (put ∙ ap (λ (m : Meaning). put_at r m ks) is)) record {
      items = left;
      left = ap (λ (m : Meaning). m.left) there;
      mark = ap (λ (m : Meaning). m.mark) there;
      calm = calm-put r to ks refl refl refl;
      holds = keep (λ (m : Meaning). m.holds) r to ks refl;
    }

pub item-end : (roles : Roles) (ks after : List Known) → Turned roles.reader (Reading (Ok None)) ks after → ReadsItem roles (Ok End) ks after
item-end roles ks after t = (t.1.0, t.2 ∙ (ap (λ (m : Meaning). put_at roles.reader m ks) t.1.1 ∙ put-same roles.reader ks))

pub item-unread : (roles : Roles) (e : ArtifactFault) (ks after : List Known) → roles.reader < length ks → Turned roles.reader (Reading (Err e)) ks after → ReadsItem roles (Err e) ks after
item-unread roles e ks after lt t = let f = faulted roles.reader ks after lt t in (inl f.0, f.1)

pub item-dropped : (roles : Roles) (x : String Global) (a b c : List Known) → roles.reader < length a → Turned roles.reader (Reading (Ok (Some x))) a b → Processes roles.processor (string_bytes x) (Ok None) b c → ReadsItem roles (Ok Dropped) a c
item-dropped roles x a b c lt t p =
    let q = t.1 in
    let r = read-one roles.reader a b q.0 q.1 lt q.2 t.0 q.4 t.2 in
    let P : List Known → Type 0 = λ xs. Read roles.reader a xs (q.0 ∷ []) q.1 in
    (q.0, q.1, subst P (sym p.1) r, ap (work_of roles.processor a) q.3 ∙ (sym (work-calm roles.processor a b r.calm (string_bytes x)) ∙ sym p.0))

pub item-kept : (roles : Roles) (x y : String Global) (a b c : List Known) → roles.reader < length a → Turned roles.reader (Reading (Ok (Some x))) a b → Processes roles.processor (string_bytes x) (Ok (Some y)) b c → ReadsItem roles (Ok (Kept y)) a c
item-kept roles x y a b c lt t p =
    let q = t.1 in
    let r = read-one roles.reader a b q.0 q.1 lt q.2 t.0 q.4 t.2 in
    let P : List Known → Type 0 = λ xs. Read roles.reader a xs (q.0 ∷ []) q.1 in
    (q.0, q.1, subst P (sym p.1) r, ap (work_of roles.processor a) q.3 ∙ (sym (work-calm roles.processor a b r.calm (string_bytes x)) ∙ sym p.0))

pub item-unprocessed : (roles : Roles) (x : String Global) (e : ArtifactFault) (a b c : List Known) → roles.reader < length a → Turned roles.reader (Reading (Ok (Some x))) a b → Processes roles.processor (string_bytes x) (Err e) b c → ReadsItem roles (Err e) a c
item-unprocessed roles x e a b c lt t p =
    let q = t.1 in
    let r = read-one roles.reader a b q.0 q.1 lt q.2 t.0 q.4 t.2 in
    (inr (inl (fault-in roles.processor a b c r.calm p.0)), holds-trans a b c r.holds p.1)

listed-append : (o : Option (List ℕ)) (xs ys : List (List ℕ)) → listed o (xs ++ ys) ≡ listed o xs ++ ys
listed-append None xs ys = refl
listed-append (Some x) xs ys = refl

pub kept-snoc : (f : List ℕ → Option (List ℕ)) (g : List Coming) (c : Coming) → kept f (g ++ c ∷ []) ≡ kept f g ++ listed (f c.item) []
kept-snoc f [] c = refl
kept-snoc f (d ∷ g) c = ap (listed (f d.item)) (kept-snoc f g c) ∙ listed-append (f d.item) (kept f g) (listed (f c.item) [])

different : true ≡ false → ⊥
different e = cc

pub grown-none : (h : Option (List (List (List ℕ)))) → grown [] h ≡ h
grown-none None = refl
grown-none (Some gs) = ap Some (append-nil gs)

pub group-begin : (roles : Roles) (n : ℕ) (ks : List Known) → IsRead roles n 0 [] ks ks [] (means_at roles.reader ks).left
group-begin roles n ks = record { read = read-none roles.reader ks; count = refl; keeps = refl; fewer = omega arith; most = omega arith }

pub group-dropped : (roles : Roles) (n k : ℕ) (bs : List (List ℕ)) (a b c : List Known) → Reached roles n k bs a b → k < n → ReadsItem roles (Ok Dropped) b c → Reached roles n (k + 1) bs a c
group-dropped roles n k bs a b c so lt item =
    let r = so.2 in let g = so.0 in let d = item.0 in
    let none = sym (work-calm roles.processor a b r.read.calm d.item) ∙ item.3 in (
      g ++ d ∷ [],
      item.1,
      record {
        read = read-then roles.reader a b c g (d ∷ []) so.1 item.1 r.read item.2;
        count = omega (arith, r.count, length-append g (d ∷ []));
        keeps = r.keeps ∙ (sym (append-nil (kept (work_of roles.processor a) g)) ∙ (ap (λ (o : Option (List ℕ)). kept (work_of roles.processor a) g ++ listed o []) (sym none) ∙ sym (kept-snoc (work_of roles.processor a) g d)));
        fewer = omega (arith, r.fewer);
        most = omega arith;
      },
    )

pub group-kept : (roles : Roles) (n k : ℕ) (x : String Global) (xs ys : List (String Global)) (a b c : List Known) → Reached roles n k (map string_bytes xs) a b → k < n → ReadsItem roles (Ok (Kept x)) b c → ys ≡ xs ++ x ∷ [] → Reached roles n (k + 1) (map string_bytes ys) a c
group-kept roles n k x xs ys a b c so lt item grew =
    let r = so.2 in let g = so.0 in let d = item.0 in
    let some = sym (work-calm roles.processor a b r.read.calm d.item) ∙ item.3 in
    let bytes = ap (map string_bytes) grew ∙ map-append string_bytes xs (x ∷ []) in (
      g ++ d ∷ [],
      item.1,
      record {
        read = read-then roles.reader a b c g (d ∷ []) so.1 item.1 r.read item.2;
        count = omega (arith, r.count, length-append g (d ∷ []));
        keeps = bytes ∙ (ap (λ (bs : List (List ℕ)). bs ++ string_bytes x ∷ []) r.keeps ∙ (ap (λ (o : Option (List ℕ)). kept (work_of roles.processor a) g ++ listed o []) (sym some) ∙ sym (kept-snoc (work_of roles.processor a) g d)));
        fewer = omega (arith, r.fewer, ap length bytes, length-append (map string_bytes xs) (string_bytes x ∷ []));
        most = omega arith;
      },
    )

pub group-end : (roles : Roles) (n : ℕ) (group : Group) (a b c : List Known) → Reached roles n group.read (bytes_of group) a b → ReadsItem roles (Ok End) b c → group.ended ≡ true → ReadsGroup roles n (Ok group) a c
group-end roles n group a b c so item ended =
    let P : List Known → Type 0 = λ xs. IsRead roles n group.read (bytes_of group) a xs so.0 so.1 in
    (so.0, so.1, subst P (sym item.1) so.2, (λ _. sym so.2.read.left ∙ item.0), λ not. absurd (different (sym ended ∙ not)))

pub group-full : (roles : Roles) (n : ℕ) (group : Group) (a b : List Known) → Reached roles n group.read (bytes_of group) a b → n ≤ group.read → group.ended ≡ false → ReadsGroup roles n (Ok group) a b
group-full roles n group a b so le ended = (so.0, so.1, so.2, (λ is. absurd (different (sym is ∙ ended))), λ _. omega (arith, so.2.most))

pub group-fault : (roles : Roles) (n k : ℕ) (bs : List (List ℕ)) (e : ArtifactFault) (a b c : List Known) → Reached roles n k bs a b → ReadsItem roles (Err e) b c → FaultOf roles a c × HoldsSame a c
group-fault roles n k bs e a b c so item = (fault-of roles a b c so.2.read.calm item.0, holds-trans a b c so.2.read.holds item.1)

pub group-memory : (roles : Roles) (n k : ℕ) (bs : List (List ℕ)) (x : String Global) (a b c : List Known) → Reached roles n k bs a b → ReadsItem roles (Ok (Kept x)) b c → HoldsSame a c
group-memory roles n k bs x a b c so item = holds-trans a b c so.2.read.holds item.2.holds

pub processed-some : (q : Option ℕ) (p : ℕ) (x y : List ℕ) (result : Result (Option (String Global)) ArtifactFault) (a b : List Known) → q ≡ Some p → y ≡ x → IsWithin q a → Turned p (Processing y result) a b → Processes q x result a b
processed-some None p x y result a b is same lt t = cc
processed-some (Some i) p x y (Ok r) a b is same lt t =
    let j : i ≡ p = cc in
    let P : ℕ → Type 0 = λ k. Processes (Some k) x (Ok r) a b in
    subst P (sym j) (t.1.0 ∙ ap (means_at p a).gives same, t.2 ∙ (ap (λ (m : Meaning). put_at p m a) t.1.1 ∙ put-same p a))
processed-some (Some i) p x y (Err e) a b is same lt t =
    let j : i ≡ p = cc in
    let P : ℕ → Type 0 = λ k. Processes (Some k) x (Err e) a b in
    subst P (sym j) (faulted p a b (omega arith) t)

pub wrote-none : (w : ℕ) (ks : List Known) → Written w ks ks []
wrote-none w ks = record { holds = sym (grown-none (means_at w ks).holds); left = λ i. refl; mark = λ i. refl; calm = calm-refl ks }

pub writes-none : (w : ℕ) (gs : List (List ℕ)) (ks : List Known) → length gs ≡ 0 → Writes w gs (Ok tt) ks ks
writes-none w [] ks none = wrote-none w ks
writes-none w (x ∷ xs) ks none = absurd (omega arith)

pub writes : (w : ℕ) (gs : List (List ℕ)) (result : Result (Unit {0}) ArtifactFault) (ks after : List Known) → w < length ks → 0 < length gs → Turned w (Writing gs result) ks after → Writes w gs result ks after
writes w gs (Err e) ks after lt some t = faulted w ks after lt t
writes w [] (Ok u) ks after lt some t = absurd (omega arith)
writes w (x ∷ xs) (Ok u) ks after lt some t =
    let to : Meaning = taken (x ∷ xs) (means_at w ks) in
    let P : List Known → Type 0 = λ ys. Written w ks ys ((x ∷ xs) ∷ []) in
    subst P (sym (t.2 ∙ ap (λ (m : Meaning). put_at w m ks) t.1)) record {
      holds = ap (λ (m : Meaning). m.holds) (put-there w to ks lt);
      left = keep (λ (m : Meaning). m.left) w to ks refl;
      mark = keep (λ (m : Meaning). m.mark) w to ks refl;
      calm = calm-put w to ks refl refl refl;
    }

pub within-turned : (p : Option ℕ) (at : ℕ) (R : Meaning → Meaning → Type 0) (a b : List Known) → Turned at R a b → IsWithin p a → IsWithin p b
within-turned None at R a b t w = tt
within-turned (Some i) at R a b t w = omega (arith, ap length t.2, put-size at t.0 a)

within-calm : (p : Option ℕ) (a b : List Known) → Calm a b → IsWithin p a → IsWithin p b
within-calm None a b calm w = tt
within-calm (Some i) a b calm w = omega (arith, calm.size)

pub roles-calm : (roles : Roles) (a b : List Known) → Calm a b → AreWithin roles a → AreWithin roles b
roles-calm roles a b calm w = record {
  reader = omega (arith, calm.size, w.reader);
  processor = within-calm roles.processor a b calm w.processor;
  writer = omega (arith, calm.size, w.writer);
}
