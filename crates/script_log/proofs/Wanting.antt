-- The lines that are left if memory is refused.
use Rattle.std.proofs.Common.{◌≡◌, ℕ, ◌<◌, ◌≤◌, List, [], ◌∷◌, ◌++◌, ◌||◌, ◌==◌, Bool, true, false, cond, length, nat_lt, refl, sym, ◌∙◌, ap, arith}
use Rattle.std.proofs.Math.Bool.{or-true, or-false}
use Rattle.std.proofs.lemmas.Bool.{or_parts}
use Rattle.std.proofs.lemmas.Bool.Decides.{nat_tests}
use Rattle.std.proofs.lemmas.List.{append-nil}
use Rattle.script_lines.specs.Cut.{lines_of, grow_whole, whole_lines, has_feed}
use Rattle.script_lines.specs.Device.{Told, Tells}
use Rattle.script_lines.specs.Unread.{Unread}
use Rattle.script_lines.specs.Lines.{told_since, has_told_end, complete_lines, lines_since}
use Rattle.script_lines.proofs.CutLaws.{whole_lines-none}
use Rattle.script_lines.proofs.Telling.{tells_nothing, tells_more}
use Rattle.script_lines.proofs.Following.{Following, told_is}
use Rattle.script_log.specs.Outcomes.{AreLastOf}

-- lines, with a part before the first if there is one
abbrev grow_all : List ℕ → List (List ℕ) → List (List ℕ)
grow_all part [] = []
grow_all part (line ∷ lines) = (part ++ line) ∷ lines

none-grown : (lines : List (List ℕ)) → grow_all [] lines ≡ lines
none-grown [] = refl
none-grown (line ∷ lines) = refl

one-grown : (b : ℕ) (part : List ℕ) (lines : List (List ℕ)) → grow_whole b (grow_all part lines) ≡ grow_all (b ∷ part) lines
one-grown b part [] = refl
one-grown b part (line ∷ lines) = refl

whole-by : (b : ℕ) (bytes : List ℕ) → (b == 10) ≡ false → whole_lines (b ∷ bytes) ≡ grow_whole b (whole_lines bytes)
unfolding whole_lines
whole-by b bytes clean = ap (λ t. cond t ([] ∷ whole_lines bytes) (grow_whole b (whole_lines bytes))) clean

part-lines : (part bytes : List ℕ) → has_feed part ≡ false → whole_lines (part ++ bytes) ≡ grow_all part (whole_lines bytes)
part-lines [] bytes clean = sym (none-grown (whole_lines bytes))
part-lines (b ∷ part) bytes clean =
    let p = or_parts (b == 10) (has_feed part) clean in
    whole-by b (part ++ bytes) p.0 ∙ ap (grow_whole b) (part-lines part bytes p.1) ∙ one-grown b part (whole_lines bytes)

-- at most one line begins in the part; the others are at hand
pub record IsLeft (part bytes : List ℕ) : Type 0 where
  pub wants : List (List ℕ)
  pub one : length wants ≤ 1
  pub others : List (List ℕ)
  pub whole : whole_lines (part ++ bytes) ≡ wants ++ others
  pub last : AreLastOf others (whole_lines bytes)

left-by : (part bytes : List ℕ) (lines : List (List ℕ)) → whole_lines bytes ≡ lines → whole_lines (part ++ bytes) ≡ grow_all part lines → IsLeft part bytes
left-by part bytes [] is whole = record { wants = []; one = omega arith; others = []; whole = whole; last = ([], sym is) }
left-by part bytes (line ∷ lines) is whole = record { wants = (part ++ line) ∷ []; one = omega arith; others = lines; whole = whole; last = (line ∷ [], sym is) }

pub left-lines : (part bytes : List ℕ) → has_feed part ≡ false → IsLeft part bytes
left-lines part bytes clean = left-by part bytes (whole_lines bytes) refl (part-lines part bytes clean)

told-end : (start next : Told) (before : Unread) → start.ends < next.ends → has_told_end start next before ≡ true
told-end start next before told =
    let yes : nat_lt start.ends next.ends ≡ true = grind (arith, nat_tests) in
    ap (λ b. before.ended || b) yes ∙ or-true before.ended

no-end : (start next : Told) (before : Unread) → before.ended ≡ false → next.ends ≡ start.ends → has_told_end start next before ≡ false
no-end start next before begun same =
    let clean : nat_lt start.ends next.ends ≡ false = grind (arith, nat_tests) in
    ap (λ b. b || nat_lt start.ends next.ends) begun ∙ clean

lines-are : (start next : Told) (before : Unread) (input : List ℕ) (ended : Bool) → Tells start next input → has_told_end start next before ≡ ended → lines_since start next before ≡ complete_lines ended (before.bytes ++ input)
lines-are start next before input ended told e =
    ap (λ b. complete_lines b (before.bytes ++ told_since start next)) e ∙ ap (λ x. complete_lines ended (before.bytes ++ x)) (told_is start next input told)

hand-by : (start now : Told) (before p : Unread) (done : List (List ℕ)) (ended : Bool) → p.ended ≡ ended → Following start now before p done → lines_since start now before ≡ done ++ complete_lines ended p.bytes
hand-by start now before p done true e C =
    let later : start.ends < now.ends = omega (arith, (C.ends e).0) in
    lines-are start now before C.input true C.read (told-end start now before later) ∙ ap (λ x. lines_of (before.bytes ++ x)) (sym (append-nil C.input))
    ∙ C.lines [] (λ _. refl) ∙ ap (λ x. done ++ lines_of x) (append-nil p.bytes)
hand-by start now before p done false e C =
    lines-are start now before C.input false C.read (no-end start now before C.begun (C.going e)) ∙ ap (λ x. whole_lines (before.bytes ++ x)) (sym (append-nil C.input))
    ∙ C.whole e [] ∙ ap (λ x. done ++ whole_lines x) (append-nil p.bytes)

-- between two lines: those that are done, and those at hand
pub lines-at-hand : (start now : Told) (before p : Unread) (done : List (List ℕ)) → Following start now before p done → lines_since start now before ≡ done ++ complete_lines p.ended p.bytes
lines-at-hand start now before p done C = hand-by start now before p done p.ended refl C

-- while a line is read: those that are done, and the whole lines of the bytes since then
pub lines-so-far : (start now next : Told) (before p : Unread) (done : List (List ℕ)) (more : List ℕ) → Following start now before p done → Tells now next more → p.ended ≡ false → next.ends ≡ now.ends
    → lines_since start next before ≡ done ++ whole_lines (p.bytes ++ more)
lines-so-far start now next before p done more C told running same =
    lines-are start next before (C.input ++ more) false (tells_more start now next C.input more C.read told) (no-end start next before C.begun (same ∙ C.going running)) ∙ C.whole running more

-- none of them is whole
pub lines-done-yet : (start now next : Told) (before p : Unread) (done : List (List ℕ)) (more : List ℕ) → Following start now before p done → Tells now next more → p.ended ≡ false → next.ends ≡ now.ends
    → has_feed (p.bytes ++ more) ≡ false → lines_since start next before ≡ done
lines-done-yet start now next before p done more C told running same clean =
    lines-so-far start now next before p done more C told running same ∙ ap (λ (ls : List (List ℕ)). done ++ ls) (whole_lines-none (p.bytes ++ more) clean) ∙ append-nil done

begun-by : (t : Told) (p : Unread) (ended : Bool) → p.ended ≡ ended → lines_since t t p ≡ complete_lines ended p.bytes
begun-by t p ended e =
    let none : nat_lt t.ends t.ends ≡ false = grind (arith, nat_tests) in
    lines-are t t p [] ended (tells_nothing t) (ap (λ b. p.ended || b) none ∙ or-false p.ended ∙ e) ∙ ap (λ x. complete_lines ended x) (append-nil p.bytes)

-- nothing was delivered
pub lines-begun : (t : Told) (p : Unread) → lines_since t t p ≡ complete_lines p.ended p.bytes
lines-begun t p = begun-by t p p.ended refl
