-- What a crash leaves of a file that goes on as it was read.
use Rattle.std.proofs.Common.{◌≡◌, inl, inr, ℕ, zero, suc, ◌+◌, ◌≤◌, List, [], ◌∷◌, ◌++◌, length, take, drop, Bool, true, false, if◌then◌else◌, refl, sym, ◌∙◌, ap, subst, arith, append_assoc, length-append, length-drop}
use Rattle.std.proofs.lemmas.List.{length-take-le, take_at, drop_at}
use Rattle.log_host.specs.Host.{Holds, Torn}
use Rattle.log_host.specs.Past.{Call, leaves_after}
use Rattle.file_host.specs.Calls.{is_file_call, file_calls}
use Rattle.file_host.specs.Making.{AtEachMomentOf, IsOpening}

-- the file as it was
torn-same : (at n : ℕ) (file : List ℕ) → Torn at n file file
torn-same at n file = record { before = refl; after = refl; no_shorter = omega arith; no_longer = omega arith }

-- the file with all of the bytes
torn-held : (at : ℕ) (bytes file c : List ℕ) → at + length bytes ≤ length file → Holds file at bytes c → Torn at (length bytes) file c
torn-held at bytes file c within holds =
    let front : length (take at file) ≡ at = length-take-le at file (omega (arith, within)) in
    let behind = drop (at + length bytes) file in
    let long : length c ≡ length file = omega (arith, within, front, ap length holds, length-append (take at file ++ bytes) behind, length-append (take at file) bytes, length-drop (at + length bytes) file) in
    record {
      before = ap (take at) holds ∙ take-front front;
      after = ap (drop (at + length bytes)) holds ∙ drop_at (take at file ++ bytes) behind (at + length bytes) (omega (arith, front, length-append (take at file) bytes));
      no_shorter = omega (arith, long);
      no_longer = omega (arith, long);
    }
  where
    take-front : length (take at file) ≡ at → take at (take at file ++ bytes ++ drop (at + length bytes) file) ≡ take at file
    take-front front = ap (take at) (append_assoc (take at file) bytes (drop (at + length bytes) file)) ∙ take_at (take at file) (bytes ++ drop (at + length bytes) file) at front

module _ (file : List ℕ) (at : ℕ) (bytes : List ℕ) where
  abbrev P : List ℕ → Type 0
  P = Torn at (length bytes) file

  abbrev since : List Call → Type 0
  since calls = AtEachMomentOf file calls P

  no-more : (call : Call) (calls : List Call) → file_calls (call ∷ calls) ≡ [] → file_calls calls ≡ []
  no-more call calls none = by (is_file_call call.0) none
    where
      by : (b : Bool) → (if b then call ∷ file_calls calls else file_calls calls) ≡ [] → file_calls calls ≡ []
      by true is = absurd (cc)
      by false is = is

  -- before a call of the file
  pub at-reading : (calls : List Call) → file_calls calls ≡ [] → since calls
  at-reading [] none = torn-same at (length bytes) file
  at-reading (call ∷ calls) none =
      ((λ c left. let is : leaves_after file [] c [] = subst (λ (l : List Call). leaves_after file l c []) none left in subst P (sym is.0) (torn-same at (length bytes) file)), at-reading calls (no-more call calls none))

  module _ (within : at + length bytes ≤ length file) (old : List Call) (opening : IsOpening old) where
    written : (w : ℕ) (c : List ℕ) → leaves_after file ((0, (at, (bytes, w))) ∷ []) c [] → P c
    written w c (inl torn) = subst (λ (l : List ℕ). Torn at (length bytes) l c) torn.1.0 torn.2
    written zero c (inr is) = subst P (sym is.0) (torn-same at (length bytes) file)
    written (suc w) c (inr is) = torn-held at bytes file c within is.0

    pub after-write : (w : ℕ) (now : List Call) → now ≡ (0, (at, (bytes, w))) ∷ old → since now
    after-write w now is = subst since (sym is)
        ((λ c left. written w c (subst (λ (l : List Call). leaves_after file ((0, (at, (bytes, w))) ∷ l) c []) opening.no_bytes left)), at-reading old opening.no_bytes)

    synced : (k : ℕ) (c : List ℕ) → leaves_after file ((1, (0, ([], k))) ∷ (0, (at, (bytes, 1))) ∷ []) c [] → P c
    synced zero c (inl left) = written 1 c left
    synced (suc k) c (inl left) = written 1 c left.0
    synced zero c (inr is) = torn-held at bytes file c within is.0
    synced (suc k) c (inr is) = torn-held at bytes file c within is.0

    pub after-sync : (k : ℕ) (mid now : List Call) → mid ≡ (0, (at, (bytes, 1))) ∷ old → now ≡ (1, (0, ([], k))) ∷ mid → since now
    after-sync k mid now mid_is is = subst since (sym (is ∙ ap (λ (l : List Call). (1, (0, ([], k))) ∷ l) mid_is))
        ((λ c left. synced k c (subst (λ (l : List Call). leaves_after file ((1, (0, ([], k))) ∷ (0, (at, (bytes, 1))) ∷ l) c []) opening.no_bytes left)), after-write 1 ((0, (at, (bytes, 1))) ∷ old) refl)

    -- and its folder was synced, or not
    pub after-folder : (name : List ℕ) (f : ℕ) (mid last now : List Call) → mid ≡ (0, (at, (bytes, 1))) ∷ old → last ≡ (1, (0, ([], 1))) ∷ mid → now ≡ (9, (0, (name, f))) ∷ last → since now
    after-folder name f mid last now mid_is last_is is = subst since (sym (is ∙ ap (λ (l : List Call). (9, (0, (name, f))) ∷ l) (last_is ∙ ap (λ (l : List Call). (1, (0, ([], 1))) ∷ l) mid_is)))
        ((λ c left. synced 1 c (subst (λ (l : List Call). leaves_after file ((1, (0, ([], 1))) ∷ (0, (at, (bytes, 1))) ∷ l) c []) opening.no_bytes left)), after-sync 1 ((0, (at, (bytes, 1))) ∷ old) ((1, (0, ([], 1))) ∷ (0, (at, (bytes, 1))) ∷ old) refl refl)

  -- and after the sync it has all of them
  pub holds-all : (name : List ℕ) (old mid last now : List Call) → IsOpening old → mid ≡ (0, (at, (bytes, 1))) ∷ old → last ≡ (1, (0, ([], 1))) ∷ mid → now ≡ (9, (0, (name, 1))) ∷ last → (c : List ℕ) → leaves_after file (file_calls now) c [] → Holds file at bytes c
  holds-all name old mid last now opening mid_is last_is is c left =
      let all : file_calls now ≡ (1, (0, ([], 1))) ∷ (0, (at, (bytes, 1))) ∷ [] =
      ap file_calls (is ∙ ap (λ (l : List Call). (9, (0, (name, 1))) ∷ l) (last_is ∙ ap (λ (l : List Call). (1, (0, ([], 1))) ∷ l) mid_is)) ∙ ap (λ (l : List Call). (1, (0, ([], 1))) ∷ (0, (at, (bytes, 1))) ∷ l) opening.no_bytes in
      by (subst (λ (l : List Call). leaves_after file l c []) all left)
    where
      by : leaves_after file ((1, (0, ([], 1))) ∷ (0, (at, (bytes, 1))) ∷ []) c [] → Holds file at bytes c
      by (inl left) = left.1 refl
      by (inr is) = is.0
