-- No reply depends on a tag.
use Rattle.std.proofs.Common.{◌≡◌, ◌∙◌, ◌≤◌, ◌+◌, ◌==◌, ◌&&◌, ℕ, suc, Bool, true, false, cond, not, List, [], ◌∷◌, ◌++◌, length, drop, map, Some, None, refl, ap, arith, lt-ltb, ltb-true}
use Rattle.std.specs.Prelude.{nat_lt, position}
use Rattle.std.specs.List.{list_all, position_or_len}
use Rattle.std.proofs.Math.Seq.{drop-append-add}
use Rattle.std.proofs.lemmas.Bool.{false≢true}
use Rattle.std.proofs.lemmas.List.{length-append, map-append}
use Rattle.script_lines.specs.declared.line.TheConstants.{MAX_LINE}
use Rattle.script_log.specs.Runs.{History, after, replies}
use Rattle.logged_script.specs.Histories.{is_kept, reply_at}
use Rattle.logged_script.specs.Tags.{IsTag, begins_object, command_of}
use Rattle.logged_script.specs.declared.tags.TheConstants.{MAX_TAG}

-- ---- What stands behind a tag

tab-by : (tab : Bool) (others : Bool) (later n : ℕ) → (not tab && others) ≡ true → (others ≡ true → later ≡ n) → cond (not tab) (1 + later) 0 ≡ suc n
tab-by true others later n all is = absurd (false≢true all)
tab-by false others later n all is = let same = is all in omega (arith, same)

-- the first tab behind a text without one
tab-behind : (text rest : List ℕ) → list_all (λ byte. not (byte == 9)) text ≡ true → position_or_len (λ byte. byte == 9) (text ++ 9 ∷ rest) ≡ length text
tab-behind [] rest all = refl
tab-behind (byte ∷ text) rest all = tab-by (byte == 9) (list_all (λ byte. not (byte == 9)) text) (position_or_len (λ byte. byte == 9) (text ++ 9 ∷ rest)) (length text) all (tab-behind text rest)

object-by : (tag rest : List ℕ) → begins_object tag ≡ false → begins_object (tag ++ 9 ∷ rest) ≡ false
object-by [] rest plain = refl
object-by (byte ∷ tag) rest plain = plain

below-false : (a b : ℕ) (over : Bool) → nat_lt a b ≡ over → b ≤ a → over ≡ false
below-false a b true e le = let lt = ltb-true a b e in absurd (omega (arith, lt, le))
below-false a b false e le = refl

-- THE COMMAND BEHIND A TAG and a tab is what stands there
pub tagged-command : (tag command : List ℕ) → IsTag tag → length (tag ++ 9 ∷ command) ≤ MAX_LINE → command_of (tag ++ 9 ∷ command) ≡ command
tagged-command tag command is fits =
    let size : length (tag ++ 9 ∷ command) ≡ length tag + suc (length command) = length-append tag (9 ∷ command) in
    let inside : nat_lt (length tag) (length (tag ++ 9 ∷ command)) ≡ true = lt-ltb (length tag) (length (tag ++ 9 ∷ command)) (omega (arith, size)) in
    let few : nat_lt MAX_LINE (length (tag ++ 9 ∷ command)) ≡ false = below-false MAX_LINE (length (tag ++ 9 ∷ command)) _ refl fits in
    let first = tab-behind tag command is.no_tab in
    let place : position (λ byte. byte == 9) (tag ++ 9 ∷ command) ≡ Some (length tag) = ap (λ (n : ℕ). cond (nat_lt n (length (tag ++ 9 ∷ command))) (Some n) None) first ∙ ap (λ (b : Bool). cond b (Some (length tag)) None) inside in
    let short : nat_lt MAX_TAG (length tag) ≡ false = below-false MAX_TAG (length tag) _ refl is.short in
    let behind : drop (length tag + 1) (tag ++ 9 ∷ command) ≡ command = drop-append-add tag (9 ∷ command) 1 in
    rw (few, object-by tag command is.no_object, place, short) behind

-- ---- Replies

-- a history without its tags
abbrev pub without_tags : History → History
without_tags h = record h { lines = map command_of h.lines }

after_by : (h : History) (line : List ℕ) (kept : Bool)
    → without_tags (cond kept record h { lines = h.lines ++ line ∷ [] } h)
    ≡ cond kept record h { lines = map command_of h.lines ++ command_of line ∷ [] } (without_tags h)
after_by h line true = ap (λ (lines : List (List ℕ)). record h { lines = lines }) (map-append command_of h.lines (line ∷ []))
after_by h line false = refl

-- one line more
after-tagged : (h : History) (line : List ℕ) → without_tags (after (is_kept true) h line) ≡ after (is_kept false) (without_tags h) (command_of line)
after-tagged h line = after_by h line (is_kept true h line)

-- A LINE WITH A TAG IS KEPT exactly if its command is
pub kept-alike : (h : History) (line : List ℕ) → is_kept true h line ≡ is_kept false (without_tags h) (command_of line)
kept-alike h line = refl

-- THE REPLIES TO LINES WITH TAGS are those to their commands, after a history without tags
pub replies-alike : (h : History) (lines : List (List ℕ)) → replies (is_kept true) (reply_at true) h lines ≡ replies (is_kept false) (reply_at false) (without_tags h) (map command_of lines)
replies-alike h [] = refl
replies-alike h (line ∷ lines) =
    ap (λ (l : List ℕ). reply_at true h line ++ l) (replies-alike (after (is_kept true) h line) lines
    ∙ ap (λ (now : History). replies (is_kept false) (reply_at false) now (map command_of lines)) (after-tagged h line))
