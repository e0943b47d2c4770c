-- Places of ids, and the graph that they make.
use Rattle.std.proofs.Common.{◌≡◌, ℕ, ◌+◌, ◌<◌, ◌≤◌, ◌||◌, Bool, true, false, cond, Option, Some, None, unwrap_or, Bor, Vec, Global, List, [], ◌∷◌, ◌++◌, length, map, drop, take, get_or, bytes_eq, arith, refl, sym, ◌∙◌, ap, subst}
use Rattle.std.specs.List.{All, filter_map, cons_option, list_any, position_from}
use Rattle.std.proofs.lemmas.Iterator.Adapters.{position_from-zero}
use Rattle.std.proofs.lemmas.List.{drop_more, take_more, take_all, length-map, length-take, map-append}
use Rattle.std.proofs.lemmas.List.Elements.{All-nil, All-cons, All-push, All-map}
use Rattle.std.proofs.lemmas.List.Quantifiers.{position-Some}
use Rattle.target_graph.specs.Graph.{IsGraph}
use Rattle.jsl_model.specs.declared.element.Element.{Element}
use Rattle.jsl_model.specs.Targets.{Item, item_of, outline, ids, place_in, graph_of, HasRanks}
use Rattle.jsl_model.proofs.Among.{texts}
use Rattle.jsl_model.proofs.InnerLists.{outlines}

-- ---- The place of an id

-- the place that was found, or else the one that follows
abbrev first_of : Option ℕ → Option ℕ → Option ℕ
first_of (Some place) later = Some place
first_of None later = later

first_of-cond : (b : Bool) (i : ℕ) (o later : Option ℕ) → cond b (Some i) (first_of o later) ≡ first_of (cond b (Some i) o) later
first_of-cond true i o later = refl
first_of-cond false i o later = refl

position-push : (test : List ℕ → Bool) (i : ℕ) (xs : List (List ℕ)) (x : List ℕ)
    → position_from test i (xs ++ x ∷ []) ≡ first_of (position_from test i xs) (cond (test x) (Some (i + length xs)) None)
position-push test i [] x = ap (λ (k : ℕ). cond (test x) (Some k) None) (omega arith)
position-push test i (y ∷ xs) x =
    let same : (i + 1) + length xs ≡ i + length (y ∷ xs) = omega arith in
    ap (λ (o : Option ℕ). cond (test y) (Some i) o) (position-push test (i + 1) xs x
    ∙ ap (λ (k : ℕ). first_of (position_from test (i + 1) xs) (cond (test x) (Some k) None)) same)
    ∙ first_of-cond (test y) i (position_from test (i + 1) xs) (cond (test x) (Some (i + length (y ∷ xs))) None)

-- the next id takes its place only where it has none
place-push : (ids : List (List ℕ)) (id q : List ℕ) → place_in (ids ++ id ∷ []) q ≡ first_of (place_in ids q) (cond (bytes_eq id q) (Some (length ids)) None)
place-push ids id q =
    position_from-zero (λ held. bytes_eq held q) (ids ++ id ∷ [])
    ∙ (position-push (λ held. bytes_eq held q) 0 ids id
    ∙ (ap (λ (o : Option ℕ). first_of o (cond (bytes_eq id q) (Some (0 + length ids)) None)) (sym (position_from-zero (λ held. bytes_eq held q) ids))
    ∙ ap (λ (k : ℕ). first_of (place_in ids q) (cond (bytes_eq id q) (Some k) None)) (omega arith)))

first_of-kept : (b : Bool) (o : Option ℕ) (i : ℕ) → cond b (Some (unwrap_or o i)) o ≡ first_of o (cond b (Some i) None)
first_of-kept true None i = refl
first_of-kept true (Some place) i = refl
first_of-kept false None i = refl
first_of-kept false (Some place) i = refl

-- one more element, whose id was put where it was not there
pub place-more : (es : List Element) (i : ℕ) (e : Element) (q : List ℕ) (old new : Option ℕ) → i < length es → e ≡ get_or es i e
    → old ≡ place_in (ids (outline (take i es))) q → new ≡ cond (bytes_eq e.id q) (Some (unwrap_or old i)) old
    → new ≡ place_in (ids (outline (take (i + 1) es))) q
place-more es i e q old new h is before put =
    let held : List (List ℕ) = ids (outline (take i es)) in
    let many : length held ≡ i = omega (arith, h, length-map (outline (take i es)) (λ (x : Item). x.id), length-map (take i es) item_of, length-take i es) in
    let more : ids (outline (take (i + 1) es)) ≡ held ++ e.id ∷ [] =
    ap (λ (xs : List Element). ids (outline xs)) (take_more es i e h)
    ∙ (ap ids (map-append item_of (take i es) (get_or es i e ∷ []))
    ∙ (map-append (λ (x : Item). x.id) (outline (take i es)) (item_of (get_or es i e) ∷ [])
    ∙ ap (λ (x : Element). held ++ x.id ∷ []) (sym is))) in
    put
    ∙ (first_of-kept (bytes_eq e.id q) old i
    ∙ (ap (λ (o : Option ℕ). first_of o (cond (bytes_eq e.id q) (Some i) None)) before
    ∙ (ap (λ (k : ℕ). first_of (place_in held q) (cond (bytes_eq e.id q) (Some k) None)) (sym many)
    ∙ (sym (place-push held e.id q) ∙ ap (λ (xs : List (List ℕ)). place_in xs q) (sym more)))))

-- ---- The graph

-- the places that an item's targets have
abbrev pub places_among : List (List ℕ) → Item → List ℕ
places_among held item = filter_map (place_in held) item.targets

-- the places of borrowed names are those of their texts
places-of_texts : (place : List ℕ → Option ℕ) (held : List (List ℕ)) → ((q : List ℕ) → place q ≡ place_in held q) → (names : List (Bor (List ℕ)))
    → filter_map (λ name. place name.now) names ≡ filter_map (place_in held) (texts names)
places-of_texts place held same [] = refl
places-of_texts place held same (name ∷ names) =
    ap (λ (o : Option ℕ). cons_option o (filter_map (λ (n : Bor (List ℕ)). place n.now) names)) (same name.now)
    ∙ ap (λ (ws : List ℕ). cons_option (place_in held name.now) ws) (places-of_texts place held same names)

-- the lists of targets, as lists
abbrev pub lists_in : List (Vec ℕ Global) → List (List ℕ)
lists_in graph = map (λ list. list.items) graph

-- the targets of one more element
pub graph-more : (es : List Element) (i : ℕ) (e : Element) (place : List ℕ → Option ℕ) (names : List (Bor (List ℕ))) (graph new : List (Vec ℕ Global)) (found : Vec ℕ Global)
    → i < length es → e ≡ get_or es i e → ((q : List ℕ) → place q ≡ place_in (ids (outline es)) q) → texts names ≡ (item_of e).targets
    → found.items ≡ filter_map (λ name. place name.now) names → new ≡ graph ++ found ∷ []
    → lists_in graph ≡ map (places_among (ids (outline es))) (outline (take i es))
    → lists_in new ≡ map (places_among (ids (outline es))) (outline (take (i + 1) es))
graph-more es i e place names graph new found h is same named gives pushed before =
    let held : List (List ℕ) = ids (outline es) in
    let here : found.items ≡ places_among held (item_of e) = gives ∙ (places-of_texts place held same names ∙ ap (filter_map (place_in held)) named) in
    let more : map (places_among held) (outline (take (i + 1) es)) ≡ map (places_among held) (outline (take i es)) ++ places_among held (item_of e) ∷ [] =
    ap (λ (xs : List Element). map (places_among held) (outline xs)) (take_more es i e h)
    ∙ (ap (map (places_among held)) (map-append item_of (take i es) (get_or es i e ∷ []))
    ∙ (map-append (places_among held) (outline (take i es)) (item_of (get_or es i e) ∷ [])
    ∙ ap (λ (x : Element). map (places_among held) (outline (take i es)) ++ places_among held (item_of x) ∷ []) (sym is))) in
    let put : lists_in new ≡ lists_in graph ++ found.items ∷ [] = ap lists_in pushed ∙ map-append (λ (list : Vec ℕ Global). list.items) graph (found ∷ []) in
    cc

-- the targets of all elements
pub graph-all : (es : List Element) (i : ℕ) (graph : List (List ℕ)) → length es ≤ i → graph ≡ map (places_among (ids (outline es))) (outline (take i es)) → graph ≡ graph_of (outline es)
graph-all es i graph h before = before ∙ ap (λ (xs : List Element). map (places_among (ids (outline es))) (outline xs)) (take_all i es h)

place-put : (n : ℕ) (rest : List ℕ) (found : Option ℕ) → ((w : ℕ) → found ≡ Some w → w < n) → All (λ w. w < n) rest → All (λ w. w < n) (cons_option found rest)
place-put n rest None below others = others
place-put n rest (Some w) below others = All-cons (λ w. w < n) w rest (below w refl) others

all-places : (held : List (List ℕ)) (n : ℕ) → length held ≤ n → (names : List (List ℕ)) → All (λ w. w < n) (filter_map (place_in held) names)
all-places held n h [] = All-nil (λ w. w < n)
all-places held n h (name ∷ names) = place-put n (filter_map (place_in held) names) (place_in held name)
    (λ w e. omega (arith, h, (position-Some (λ (id : List ℕ). bytes_eq id name) held w [] e).0)) (all-places held n h names)

-- each target of the graph is a vertex
pub graph-vertices : (items : List Item) → IsGraph (graph_of items)
graph-vertices items =
    let vertices : length (ids items) ≤ length (graph_of items) = omega (arith, length-map items (λ (x : Item). x.id), length-map items (places_among (ids items))) in
    All-map (All (λ w. w < length (graph_of items))) (places_among (ids items)) items
    (λ k d h. all-places (ids items) (length (graph_of items)) vertices (get_or items k d).targets)

-- ---- Lists that are gone over one by one

-- the next list fails the test
pub any-next : (test : List Item → Bool) (lists : List (Bor (List Element))) (i : ℕ) (list : Bor (List Element)) → i < length lists → list ≡ get_or lists i list
    → test (outline list.now) ≡ false → list_any test (outlines (drop (i + 1) lists)) ≡ list_any test (outlines (drop i lists))
any-next test lists i list h is fails =
    sym (ap (λ (ls : List (Bor (List Element))). list_any test (outlines ls)) (drop_more lists i list h)
    ∙ (ap (λ (l : Bor (List Element)). test (outline l.now) || list_any test (outlines (drop (i + 1) lists))) (sym is)
    ∙ ap (λ (b : Bool). b || list_any test (outlines (drop (i + 1) lists))) fails))

-- the next list has ranks too
pub ranks-next : (lists : List (Bor (List Element))) (i : ℕ) (list : Bor (List Element)) → i < length lists → list ≡ get_or lists i list
    → All HasRanks (outlines (take i lists)) → HasRanks (outline list.now) → All HasRanks (outlines (take (i + 1) lists))
ranks-next lists i list h is before here =
    let more : outlines (take (i + 1) lists) ≡ outlines (take i lists) ++ outline list.now ∷ [] =
    ap outlines (take_more lists i list h)
    ∙ (map-append (λ (l : Bor (List Element)). outline l.now) (take i lists) (get_or lists i list ∷ [])
    ∙ ap (λ (l : Bor (List Element)). outlines (take i lists) ++ outline l.now ∷ []) (sym is)) in
    subst (All HasRanks) (sym more) (All-push HasRanks (outlines (take i lists)) (outline list.now) before here)

-- all lists have ranks
pub ranks-all : (lists : List (Bor (List Element))) (i : ℕ) → length lists ≤ i → All HasRanks (outlines (take i lists)) → All HasRanks (outlines lists)
ranks-all lists i h ranked = subst (λ (ls : List (Bor (List Element))). All HasRanks (outlines ls)) (take_all i lists h) ranked
