-- Texts that are put one behind another.
use Rattle.std.proofs.Common.{◌≡◌, ◌∙◌, ℕ, ◌<◌, List, [], ◌++◌, take, drop, refl, sym, ap, subst, append_assoc}
use Rattle.std.proofs.lemmas.List.{append-nil, append_cancel_left, take-append-drop}
use Rattle.script_lines.specs.Device.{Held, Takes}
use Rattle.script_lines.proofs.Telling.{takes_nothing, takes_more}
use Rattle.batch_commands.specs.Putting.{Grows, Breaks}

-- nothing is put
pub put_nothing : (w : Held) (waited : List ℕ) → Grows w waited w waited []
put_nothing w waited = record { sent = []; written = takes_nothing w; whole = sym (append-nil waited); failures = refl }

pub unchanged : (w w' : Held) (waited waits : List ℕ) → w' ≡ w → waits ≡ waited → Grows w waited w' waits []
unchanged w w' waited waits e f = subst (λ (v : Held). Grows w waited v waits []) (sym e) (subst (λ b. Grows w waited w b []) (sym f) (put_nothing w waited))

-- a text is put, as an output buffer says it
pub put_behind : (w w' : Held) (waited waits text : List ℕ) → w'.bytes ++ waits ≡ (w.bytes ++ waited) ++ text → (sent : List ℕ) × Takes w w' sent → w'.failures ≡ w.failures → Grows w waited w' waits text
put_behind w w' waited waits text e more quiet =
    let both : w.bytes ++ (more.0 ++ waits) ≡ w.bytes ++ (waited ++ text) =
    sym (append_assoc w.bytes more.0 waits) ∙ ap (λ b. b ++ waits) (sym more.1.bytes) ∙ e ∙ append_assoc w.bytes waited text in
    record { sent = more.0; written = more.1; whole = append_cancel_left w.bytes (more.0 ++ waits) (waited ++ text) both; failures = quiet }

-- the writer took all that waited
pub flushed : (w w' : Held) (waited waits : List ℕ) → Takes w w' waited → waits ≡ [] → w'.failures ≡ w.failures → Grows w waited w' waits []
flushed w w' waited waits taken none quiet = record { sent = waited; written = taken; whole = ap (λ b. waited ++ b) none; failures = quiet }

-- the writer failed, and took a front of it
pub broken : (w w' : Held) (waited text : List ℕ) → (n : ℕ) × Takes w w' (take n (waited ++ text)) → w.failures < w'.failures → Breaks w waited w' text
broken w w' waited text (n, taken) failed = record {
  front = take n (waited ++ text);
  rest = drop n (waited ++ text);
  written = taken;
  both = take-append-drop n (waited ++ text);
  failures = failed;
}

pub flush_broken : (w w' : Held) (waited : List ℕ) → (n : ℕ) × Takes w w' (take n waited) → w.failures < w'.failures → Breaks w waited w' []
flush_broken w w' waited (n, taken) failed = record {
  front = take n waited;
  rest = drop n waited;
  written = taken;
  both = take-append-drop n waited ∙ sym (append-nil waited);
  failures = failed;
}

-- two texts are put
pub grows_on : (a b c : Held) (x y z first second : List ℕ) → Grows a x b y first → Grows b y c z second → Grows a x c z (first ++ second)
grows_on a b c x y z first second G H = record {
  sent = G.sent ++ H.sent;
  written = takes_more a b c G.sent H.sent G.written H.written;
  whole = append_assoc G.sent H.sent z ∙ ap (λ t. G.sent ++ t) H.whole ∙ sym (append_assoc G.sent y second) ∙ ap (λ t. t ++ second) G.whole ∙ append_assoc x first second;
  failures = H.failures ∙ G.failures;
}

-- and the writer fails at the second
pub grows_broken : (a b c : Held) (x y first second : List ℕ) → Grows a x b y first → Breaks b y c second → Breaks a x c (first ++ second)
grows_broken a b c x y first second G B = record {
  front = G.sent ++ B.front;
  rest = B.rest;
  written = takes_more a b c G.sent B.front G.written B.written;
  both = append_assoc G.sent B.front B.rest ∙ ap (λ t. G.sent ++ t) B.both ∙ sym (append_assoc G.sent y second) ∙ ap (λ t. t ++ second) G.whole ∙ append_assoc x first second;
  failures = subst (λ n. n < c.failures) G.failures B.failures;
}

-- with no text behind it
pub grows_no_more : (a b c : Held) (x y z text : List ℕ) → Grows a x b y text → Grows b y c z [] → Grows a x c z text
grows_no_more a b c x y z text G H = subst (λ t. Grows a x c z t) (append-nil text) (grows_on a b c x y z text [] G H)

pub broken_no_more : (a b c : Held) (x y text : List ℕ) → Grows a x b y text → Breaks b y c [] → Breaks a x c text
broken_no_more a b c x y text G B = subst (λ t. Breaks a x c t) (append-nil text) (grows_broken a b c x y text [] G B)
