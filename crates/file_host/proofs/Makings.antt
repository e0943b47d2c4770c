-- What a crash leaves of a name while its file is made anew.
use Rattle.std.proofs.Common.{◌≡◌, inl, inr, ℕ, zero, suc, ◌+◌, List, [], ◌∷◌, ◌++◌, length, take, drop, Bool, true, false, ◌||◌, if◌then◌else◌, refl, sym, ◌∙◌, ap, subst}
use Rattle.std.proofs.lemmas.Bool.{false≢true}
use Rattle.std.proofs.lemmas.List.{append-nil}
use Rattle.log_host.specs.Past.{Call, leaves_after}
use Rattle.file_host.specs.Calls.{is_file_call, file_calls}
use Rattle.file_host.specs.Making.{Named, AsBefore, Draft, named, is_rename, was_renamed, is_certain, AtEachMoment, IsBeforeOrWhole, IsOpening}

abbrev nothing : List ℕ
nothing = []

drop-nothing : (n : ℕ) → drop n nothing ≡ nothing
drop-nothing zero = refl
drop-nothing (suc n) = refl

-- the draft after its one write
all-written : (bytes : List ℕ) → take 0 nothing ++ bytes ++ drop (0 + length bytes) nothing ≡ bytes
all-written bytes = ap (λ (l : List ℕ). bytes ++ l) (drop-nothing (0 + length bytes)) ∙ append-nil bytes

or-false : (a b : Bool) → a || b ≡ false → b ≡ false
or-false true b is = absurd (false≢true (sym is))
or-false false b is = is

-- an opening goes on with a call that makes no draft
pub opens : (call : Call) (calls now : List Call) → now ≡ call ∷ calls → is_file_call call.0 ≡ false → is_rename call ≡ false → IsOpening calls → IsOpening now
opens call calls now is file rename opening = record {
  no_bytes = ap file_calls is ∙ ap (λ (b : Bool). if b then call ∷ file_calls calls else file_calls calls) file ∙ opening.no_bytes;
  no_rename = ap was_renamed is ∙ ap (λ (b : Bool). b || was_renamed calls) rename ∙ opening.no_rename;
}

module _ (bytes : List ℕ) where
  abbrev Fine : Named → Type 0
  Fine = IsBeforeOrWhole bytes

  -- before a rename a name stands for what it stood for
  unnamed : (calls : List Call) → was_renamed calls ≡ false → (n : Named) → named calls n → Fine n
  unnamed calls none AsBefore is = tt
  unnamed calls none (Draft left) is = absurd (false≢true (sym none ∙ is.0))

  -- a draft that was written whole and synced has all bytes
  synced : (left : List ℕ) → leaves_after [] ((1, (0, ([], 1))) ∷ (0, (0, (bytes, 1))) ∷ []) left [] → left ≡ bytes
  synced left (inl is) = is.1 refl ∙ all-written bytes
  synced left (inr is) = is.0 ∙ all-written bytes

  at-all : (calls : List Call) → was_renamed calls ≡ false → AtEachMoment calls Fine
  at-all [] none = unnamed [] none
  at-all (call ∷ calls) none = (unnamed (call ∷ calls) none, at-all calls (or-false (is_rename call) (was_renamed calls) none))

  -- at each moment of an opening
  pub at-opening : (calls : List Call) → IsOpening calls → AtEachMoment calls Fine
  at-opening calls opening = at-all calls opening.no_rename

  module _ (old : List Call) (opening : IsOpening old) where
    abbrev since : List Call → Type 0
    since calls = AtEachMoment calls Fine

    pub at-begin : since old
    at-begin = at-all old opening.no_rename

    -- a call before the rename
    further : (call : Call) (calls now : List Call) → now ≡ call ∷ calls → was_renamed (call ∷ calls) ≡ false → since calls → since now
    further call calls now is none before = subst since (sym is) (unnamed (call ∷ calls) none, before)

    module _ (name : List ℕ) (d : ℕ) (now1 : List Call) (is1 : now1 ≡ (7, (0, (name, d))) ∷ old) where
      quiet1 : was_renamed now1 ≡ false
      quiet1 = ap was_renamed is1 ∙ opening.no_rename

      -- the draft was made, or not
      pub after-draft : since now1
      after-draft = further (7, (0, (name, d))) old now1 is1 opening.no_rename at-begin

      module _ (w : ℕ) (now2 : List Call) (is2 : now2 ≡ (0, (0, (bytes, w))) ∷ now1) where
        quiet2 : was_renamed now2 ≡ false
        quiet2 = ap was_renamed is2 ∙ quiet1

        -- it was written, or not
        pub after-write : since now2
        after-write = further (0, (0, (bytes, w))) now1 now2 is2 quiet1 after-draft

        -- it was synced, or not
        pub after-sync : (k : ℕ) (now3 : List Call) → now3 ≡ (1, (0, ([], k))) ∷ now2 → since now3
        after-sync k now3 is3 = further (1, (0, ([], k))) now2 now3 is3 quiet2 after-write

      module _ (now2 now3 : List Call) (is2 : now2 ≡ (0, (0, (bytes, 1))) ∷ now1) (is3 : now3 ≡ (1, (0, ([], 1))) ∷ now2) where
        on-disk : file_calls now3 ≡ (1, (0, ([], 1))) ∷ (0, (0, (bytes, 1))) ∷ []
        on-disk = ap file_calls is3 ∙ ap (λ (l : List Call). (1, (0, ([], 1))) ∷ l)
            (ap file_calls is2 ∙ ap (λ (l : List Call). (0, (0, (bytes, 1))) ∷ l) (ap file_calls is1 ∙ opening.no_bytes))

        whole : (calls : List Call) → file_calls calls ≡ file_calls now3 → (n : Named) → named calls n → Fine n
        whole calls same AsBefore is = tt
        whole calls same (Draft left) is = synced left (subst (λ (l : List Call). leaves_after [] l left []) (same ∙ on-disk) is.1)

        -- it has the name, or not
        pub after-rename : (r : ℕ) (now4 : List Call) → now4 ≡ (8, (0, (name, r))) ∷ now3 → since now4
        after-rename r now4 is4 = subst since (sym is4) (whole ((8, (0, (name, r))) ∷ now3) refl, after-sync 1 now2 is2 1 now3 is3)

        -- and its folder was synced, or not
        pub after-folder : (r f : ℕ) (now4 now5 : List Call) → now4 ≡ (8, (0, (name, r))) ∷ now3 → now5 ≡ (9, (0, (name, f))) ∷ now4 → since now5
        after-folder r f now4 now5 is4 is5 = subst since (sym is5) (whole ((9, (0, (name, f))) ∷ now4) (ap file_calls is4), after-rename r now4 is4)

        -- after the sync of the folder the name stands for the draft for certain
        pub stands-for : (now4 now5 : List Call) → now4 ≡ (8, (0, (name, 1))) ∷ now3 → now5 ≡ (9, (0, (name, 1))) ∷ now4 → (n : Named) → named now5 n → n ≡ Draft bytes
        stands-for now4 now5 is4 is5 AsBefore is =
            absurd (false≢true (sym is ∙ ap is_certain (is5 ∙ ap (λ (l : List Call). (9, (0, (name, 1))) ∷ l) is4)))
        stands-for now4 now5 is4 is5 (Draft left) is = ap Draft (whole now5 (ap file_calls is5 ∙ ap file_calls is4) (Draft left) is)
