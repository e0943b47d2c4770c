-- Objects of texts, and objects of whole numbers, which are none.
use Rattle.std.proofs.Common.{◌≡◌, ◌&&◌, ℕ, List, [], ◌∷◌, Bool, true, false, not, nat_eq, length, map, is_some, option_map, unwrap_or, String, Global, Some, None, Bor, refl, sym, ap, ◌∙◌, true≢false, cond, Ordering, Less, Equal, Greater, nat_cmp}
use Rattle.std.proofs.lemmas.Option.{none-some}
use Rattle.std.specs.List.{list_all}
use Rattle.std.specs.Ordering.{match_ordering}
use Rattle.std.specs.Cmp.Lexicographic.{slice_cmp}
use Rattle.serde_json.specs.Data.{Data, object, Members, no_members, member, put}
use Rattle.serde_json.specs.Find.{as_str, as_number, as_object}
use Rattle.serde_json.specs.View.{view, members_view}
use Rattle.serde_json.specs.declared.value.Value.{Value}
use Rattle.lent_json.specs.Flat.{put_all, scalar_data, scalars_data}
use Rattle.lent_json.specs.Kinds.{is_text, is_count, all_texts, are_counts}
use Rattle.lent_json.specs.TextObjects.{are_texts, has_texts, as_texts_value}
use Rattle.lent_json.specs.declared.flat.Scalar.{Scalar}
use Rattle.lent_json.specs.declared.flat.Scalar.TheVariants.{Null, Truth, Count, Text}

both : (a b : Bool) → (a && b) ≡ true → (a ≡ true) × (b ≡ true)
both true b h = (refl, h)
both false b h = absurd (true≢false (sym h))

-- ---- Texts

-- all values are texts exactly where all members are
pub texts-by-values : (entries : List (String Global × Value)) → list_all (λ value. is_some (as_str (view value))) (map (λ entry. entry.1) entries) ≡ are_texts (members_view entries)
texts-by-values [] = refl
texts-by-values (e ∷ es) = ap (λ rest. is_some (as_str (view e.1)) && rest) (texts-by-values es)

text-shown : (s : Scalar) → is_text s ≡ true → is_some (as_str (scalar_data s)) ≡ true
text-shown Null h = h
text-shown (Truth b) h = h
text-shown (Count n) h = h
text-shown (Text text) h = refl

texts-put_at : (o : Ordering) (k l : List ℕ) (d e : Data) (ms : Members) → is_some (as_str d) ≡ true → are_texts (member l e ms) ≡ true → are_texts (put k d ms) ≡ true
    → are_texts (match_ordering o (member k d (member l e ms)) (member l d ms) (member l e (put k d ms))) ≡ true
texts-put_at Less k l d e ms is h later = ap (λ b. b && are_texts (member l e ms)) is ∙ h
texts-put_at Equal k l d e ms is h later = ap (λ b. b && are_texts ms) is ∙ (both (is_some (as_str e)) (are_texts ms) h).1
texts-put_at Greater k l d e ms is h later = ap (λ b. b && are_texts (put k d ms)) (both (is_some (as_str e)) (are_texts ms) h).0 ∙ later

-- a text that is put among texts leaves texts
pub texts-put : (k : List ℕ) (d : Data) (ms : Members) → is_some (as_str d) ≡ true → are_texts ms ≡ true → are_texts (put k d ms) ≡ true
texts-put k d no_members is h = ap (λ b. b && true) is
texts-put k d (member l e ms) is h =
    texts-put_at (slice_cmp nat_cmp k l) k l d e ms is h (texts-put k d ms is (both (is_some (as_str e)) (are_texts ms) h).1)

texts-all : (ms : List (Bor (List ℕ) × Scalar)) (found : Members) → all_texts ms ≡ true → are_texts found ≡ true → are_texts (put_all scalar_data ms found) ≡ true
texts-all [] found h all = all
texts-all (m ∷ ms) found h all =
    let parts = both (is_text m.1) (all_texts ms) h in
    texts-all ms (put m.0.now (scalar_data m.1) found) parts.1 (texts-put m.0.now (scalar_data m.1) found (text-shown m.1 parts.0) all)

-- texts are an object of texts
pub texts-are : (ms : List (Bor (List ℕ) × Scalar)) → all_texts ms ≡ true → Some (scalars_data ms) ≡ as_texts_value (scalars_data ms)
texts-are ms h = sym (ap (λ b. cond b (Some (scalars_data ms)) None) (texts-all ms no_members h refl))

-- ---- Whole numbers

abbrev all_numbers : Members → Bool
all_numbers no_members = true
all_numbers (member name d ms) = is_some (as_number d) && all_numbers ms

abbrev is_there : Members → Bool
is_there no_members = false
is_there (member name d ms) = true

count-shown : (s : Scalar) → is_count s ≡ true → is_some (as_number (scalar_data s)) ≡ true
count-shown Null h = h
count-shown (Truth b) h = h
count-shown (Count n) h = refl
count-shown (Text text) h = h

numbers-put_at : (o : Ordering) (k l : List ℕ) (d e : Data) (ms : Members) → is_some (as_number d) ≡ true → all_numbers (member l e ms) ≡ true → all_numbers (put k d ms) ≡ true
    → all_numbers (match_ordering o (member k d (member l e ms)) (member l d ms) (member l e (put k d ms))) ≡ true
numbers-put_at Less k l d e ms is rest later = ap (λ b. b && all_numbers (member l e ms)) is ∙ rest
numbers-put_at Equal k l d e ms is rest later = ap (λ b. b && all_numbers ms) is ∙ (both (is_some (as_number e)) (all_numbers ms) rest).1
numbers-put_at Greater k l d e ms is rest later = ap (λ b. b && all_numbers (put k d ms)) (both (is_some (as_number e)) (all_numbers ms) rest).0 ∙ later

numbers-put : (k : List ℕ) (d : Data) (ms : Members) → is_some (as_number d) ≡ true → all_numbers ms ≡ true → all_numbers (put k d ms) ≡ true
numbers-put k d no_members is h = ap (λ b. b && true) is
numbers-put k d (member l e ms) is h =
    numbers-put_at (slice_cmp nat_cmp k l) k l d e ms is h (numbers-put k d ms is (both (is_some (as_number e)) (all_numbers ms) h).1)

there-put_at : (o : Ordering) (k l : List ℕ) (d e : Data) (ms : Members) → is_there (match_ordering o (member k d (member l e ms)) (member l d ms) (member l e (put k d ms))) ≡ true
there-put_at Less k l d e ms = refl
there-put_at Equal k l d e ms = refl
there-put_at Greater k l d e ms = refl

there-put : (k : List ℕ) (d : Data) (ms : Members) → is_there (put k d ms) ≡ true
there-put k d no_members = refl
there-put k d (member l e ms) = there-put_at (slice_cmp nat_cmp k l) k l d e ms

numbers-all : (ms : List (Bor (List ℕ) × Scalar)) (found : Members) → list_all (λ m. is_count m.1) ms ≡ true → all_numbers found ≡ true → all_numbers (put_all scalar_data ms found) ≡ true
numbers-all [] found h all = all
numbers-all (m ∷ ms) found h all =
    let parts = both (is_count m.1) (list_all (λ n. is_count n.1) ms) h in
    numbers-all ms (put m.0.now (scalar_data m.1) found) parts.1 (numbers-put m.0.now (scalar_data m.1) found (count-shown m.1 parts.0) all)

there-all : (ms : List (Bor (List ℕ) × Scalar)) (found : Members) → is_there found ≡ true → is_there (put_all scalar_data ms found) ≡ true
there-all [] found h = h
there-all (m ∷ ms) found h = there-all ms (put m.0.now (scalar_data m.1) found) (there-put m.0.now (scalar_data m.1) found)

no-text : (d : Data) → is_some (as_number d) ≡ true → is_some (as_str d) ≡ false
no-text Data.null h = refl
no-text (Data.boolean b) h = refl
no-text (Data.number n) h = refl
no-text (Data.string s) h = absurd (true≢false (sym h))
no-text (Data.array ds) h = refl
no-text (object ms) h = refl

no-texts : (ms : Members) → is_there ms ≡ true → all_numbers ms ≡ true → are_texts ms ≡ false
no-texts no_members there all = absurd (true≢false (sym there))
no-texts (member name d ms) there all = ap (λ b. b && are_texts ms) (no-text d (both (is_some (as_number d)) (all_numbers ms) all).0)

-- whole numbers are no object of texts
pub counts-are-none : (ms : List (Bor (List ℕ) × Scalar)) → are_counts ms ≡ true → None ≡ as_texts_value (scalars_data ms)
counts-are-none [] h = absurd (true≢false (sym h))
counts-are-none (m ∷ ms) h =
    let all = (both (not (nat_eq (length (m ∷ ms)) 0)) (list_all (λ n. is_count n.1) (m ∷ ms)) h).1 in
    let there = there-all ms (put m.0.now (scalar_data m.1) no_members) (there-put m.0.now (scalar_data m.1) no_members) in
    sym (ap (λ b. cond b (Some (scalars_data (m ∷ ms))) None) (no-texts (put_all scalar_data (m ∷ ms) no_members) there (numbers-all (m ∷ ms) no_members all refl)))

pub scalar-none : (s : Scalar) → None ≡ as_texts_value (scalar_data s)
scalar-none Null = refl
scalar-none (Truth b) = refl
scalar-none (Count n) = refl
scalar-none (Text text) = refl

-- ---- Objects with memory of their own

object-of : (d : Data) (ms : Members) → Some ms ≡ as_object d → object ms ≡ d
object-of Data.null ms h = absurd (none-some ms (sym h))
object-of (Data.boolean b) ms h = absurd (none-some ms (sym h))
object-of (Data.number n) ms h = absurd (none-some ms (sym h))
object-of (Data.string s) ms h = absurd (none-some ms (sym h))
object-of (Data.array ds) ms h = absurd (none-some ms (sym h))
object-of (object found) ms h = ap (λ o. object (unwrap_or o found)) h

texts-seen : (d : Data) (ms : Members) → Some ms ≡ as_object d → are_texts ms ≡ has_texts d
texts-seen d ms h = ap (λ o. unwrap_or (option_map are_texts o) false) h

pub own-texts : (d : Data) (ms : Members) → Some ms ≡ as_object d → are_texts ms ≡ true → Some (object ms) ≡ as_texts_value d
own-texts d ms h all = ap Some (object-of d ms h) ∙ sym (ap (λ b. cond b (Some d) None) (sym (texts-seen d ms h) ∙ all))

pub own-others : (d : Data) (ms : Members) → Some ms ≡ as_object d → are_texts ms ≡ false → None ≡ as_texts_value d
own-others d ms h all = sym (ap (λ b. cond b (Some d) None) (sym (texts-seen d ms h) ∙ all))
