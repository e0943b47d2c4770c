-- What a lent object of texts gives as parameters.
use Rattle.std.proofs.Common.{◌≡◌, ◌&&◌, ℕ, List, [], ◌∷◌, true, false, Bool, unwrap_or, refl, sym, ap, ◌∙◌, true≢false, Bor, Ordering, Less, Equal, Greater, nat_cmp, is_eq}
use Rattle.std.specs.Ordering.{match_ordering, ordering_reverse}
use Rattle.std.specs.Cmp.Lexicographic.{slice_cmp, nat_list_cmp_total}
use Rattle.std.proofs.lemmas.Map.Text.{is_eq-slice_cmp}
use Rattle.std.proofs.lemmas.Slice.Eq.{bytes_eq-Decides}
use Rattle.serde_json.specs.Data.{Data, string, Members, no_members, member, put}
use Rattle.serde_json.specs.Find.{as_str}
use Rattle.batch_ids.specs.Parameters.{Pair, by_order, with_pair, with_all, parameters_of}
use Rattle.lent_json.specs.Flat.{put_all, scalar_data, scalars_data}
use Rattle.lent_json.specs.Kinds.{is_text, text_of, all_texts}
use Rattle.lent_json.specs.declared.flat.Scalar.{Scalar}
use Rattle.lent_json.specs.declared.flat.Scalar.TheVariants.{Null, Truth, Count, Text}
use Rattle.script_text.specs.Parameters.{text_pairs, given_pairs}
use Rattle.script_text.specs.LentParameters.{lent_pairs}

both : (a b : Bool) → (a && b) ≡ true → (a ≡ true) × (b ≡ true)
both true b h = (refl, h)
both false b h = absurd (true≢false (sym h))

put-pair_at : (o : Ordering) (k v l : List ℕ) (e : Data) (ms : Members) → slice_cmp nat_cmp k l ≡ o → text_pairs (put k (string v) ms) ≡ with_pair (text_pairs ms) (k, v)
    → text_pairs (match_ordering o (member k (string v) (member l e ms)) (member l (string v) ms) (member l e (put k (string v) ms)))
    ≡ by_order (ordering_reverse o) ((l, unwrap_or (as_str e) []) ∷ with_pair (text_pairs ms) (k, v)) ((k, v) ∷ text_pairs ms) ((k, v) ∷ (l, unwrap_or (as_str e) []) ∷ text_pairs ms)
put-pair_at Less k v l e ms is later = refl
put-pair_at Equal k v l e ms is later =
    let same : l ≡ k = sym ((bytes_eq-Decides k l).0 (sym (is_eq-slice_cmp k l) ∙ ap is_eq is)) in
    ap (λ name. (name, v) ∷ text_pairs ms) same
put-pair_at Greater k v l e ms is later = ap (λ rest. (l, unwrap_or (as_str e) []) ∷ rest) later

put-pair : (k v : List ℕ) (ms : Members) → text_pairs (put k (string v) ms) ≡ with_pair (text_pairs ms) (k, v)
put-pair k v no_members = refl
put-pair k v (member l e ms) =
    let held : Pair = (l, unwrap_or (as_str e) []) in
    put-pair_at (slice_cmp nat_cmp k l) k v l e ms refl (put-pair k v ms)
    ∙ ap (λ o. by_order o (held ∷ with_pair (text_pairs ms) (k, v)) ((k, v) ∷ text_pairs ms) ((k, v) ∷ held ∷ text_pairs ms)) (sym (nat_list_cmp_total.antisymm l k))

text-is : (s : Scalar) → is_text s ≡ true → scalar_data s ≡ string (text_of s)
text-is Null h = absurd (true≢false (sym h))
text-is (Truth b) h = absurd (true≢false (sym h))
text-is (Count n) h = absurd (true≢false (sym h))
text-is (Text text) h = refl

-- texts are put into an object as their pairs are put among rising keys
put-texts : (ms : List (Bor (List ℕ) × Scalar)) (found : Members) → all_texts ms ≡ true → with_all (text_pairs found) (lent_pairs ms) ≡ text_pairs (put_all scalar_data ms found)
put-texts [] found h = refl
put-texts (m ∷ ms) found h =
    let parts = both (is_text m.1) (all_texts ms) h in
    ap (λ held. with_all held (lent_pairs ms)) (sym (put-pair m.0.now (text_of m.1) found) ∙ ap (λ d. text_pairs (put m.0.now d found)) (sym (text-is m.1 parts.0)))
    ∙ put-texts ms (put m.0.now (scalar_data m.1) found) parts.1

-- the parameters of a lent object of texts
pub lent-given : (ms : List (Bor (List ℕ) × Scalar)) → all_texts ms ≡ true → parameters_of (lent_pairs ms) ≡ given_pairs (scalars_data ms)
lent-given ms h = put-texts ms no_members h
