-- What an accepted operation leaves of a book, of its seat and of the session that made it.
use Rattle.std.proofs.Common.{◌≡◌, ℕ, ◌+◌, Bool, false, if◌then◌else◌, Result, Ok, List, [], ◌∷◌, ◌++◌, map, length, refl, sym, ◌∙◌, ap, subst, arith, length-append}
use Rattle.std.specs.Prelude.{IfOk}
use Rattle.batch_history.specs.Legal.{after_call, grown}
use Rattle.batch_history.specs.Replies.{is_nothing}
use Rattle.batch_history.specs.Rows.{History}
use Rattle.batch_history.specs.declared.call.Call.{Call}
use Rattle.batch_history.specs.declared.call.Entry.{Entry}
use Rattle.batch_history.specs.declared.call.Reply.{Reply}
use Rattle.batch_ids.specs.declared.refusal.Refusal.{Refusal}
use Rattle.jsl_model.specs.Jobs.{JobTree}
use Rattle.seat_rules.specs.Places.{IsLegalLog, Known, known}
use Rattle.seat_rules.specs.Views.{informed, with_entry}
use Rattle.seat_rules.specs.declared.view.SessionView.{SessionView}
use Rattle.sessions.specs.Answered.{operation}
use Rattle.sessions.specs.Sessions.{IsSession, one_of}

-- the book has one operation more
pub book_after : (h new : History) (who : ℕ) (call : Call) (at : ℕ) (result : Result Reply Refusal) (r : Reply) → IfOk result (λ given. new ≡ after_call h who call at given)
    → result ≡ Ok r → is_nothing r ≡ false → new ≡ grown h (operation who call at r)
book_after h new who call at result r after is n =
    subst (λ (x : Result Reply Refusal). IfOk x (λ given. new ≡ after_call h who call at given)) is after
    ∙ ap (λ (b : Bool). if b then h else grown h (operation who call at r)) n

-- the log that the seat knew grows by it
pub log_after : (h new : History) (seat host : Known) (sessions : List SessionView) (last : ℕ) (e : Entry) → new ≡ grown h e
    → seat ≡ known h.log last [] seat.copies → host ≡ known seat.log seat.last sessions [] → new.log ≡ host.log ++ e ∷ []
log_after h new seat host sessions last e new_is seat_is host_is =
    ap (λ (x : History). x.log) new_is
    ∙ ap (λ (l : List Entry). l ++ e ∷ []) (sym (ap (λ (k : Known). k.log) host_is ∙ ap (λ (k : Known). k.log) seat_is))

-- the session leaves the seat with it
pub seat_after : (k host after : Known) (seat other : List SessionView) (e : Entry) → host ≡ known k.log k.last seat [] → seat ≡ one_of seat ∷ []
    → after ≡ known (host.log ++ e ∷ []) host.last (map (with_entry (host.log ++ e ∷ []) e) host.sessions) host.copies
    → other ≡ map (informed after.log) after.sessions → other ≡ with_entry (k.log ++ e ∷ []) e (one_of seat) ∷ []
seat_after k host after seat other e host_is one after_is other_is =
    let now : List Entry = k.log ++ e ∷ [] in
    other_is
    ∙ ((λ i. map (informed (after_is i).log) (after_is i).sessions)
    ∙ ((λ i. map (informed ((host_is i).log ++ e ∷ [])) (map (with_entry ((host_is i).log ++ e ∷ []) e) (host_is i).sessions))
    ∙ ap (λ (xs : List SessionView). map (informed now) (map (with_entry now e) xs)) one))

-- and keeps its counts
pub entered_is : (catalogue : List JobTree) (number front least accepted front' : ℕ) (seat other : List SessionView) (now log : List Entry) (e : Entry)
    → IsSession catalogue number front least accepted seat → other ≡ with_entry now e (one_of seat) ∷ [] → log ≡ now → front' ≡ length log
    → IsLegalLog catalogue log → IsSession catalogue number front' least (accepted + 1) other
entered_is catalogue number front least accepted front' seat other now log e s other_is log_is front_is legal =
    subst (IsSession catalogue number front' least (accepted + 1)) (sym other_is) (record {
      one = refl;
      number_is = s.number_is;
      front_is = front_is ∙ ap length log_is;
      least_is = s.least_is;
      accepted_is = omega (arith, s.accepted_is, length-append (one_of seat).mine (e ∷ []));
      legal = subst (IsLegalLog catalogue) log_is legal;
    })
