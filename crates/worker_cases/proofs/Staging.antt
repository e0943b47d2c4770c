-- The items that an artifact has left, and its mark.
use Rattle.std.proofs.Common.{ℕ, zero, suc, ◌≡◌, ◌∙◌, ◌+◌, ◌-◌, ◌<◌, refl, sym, ap, List, ◌∷◌, map, drop, Some, Ok, String, string_bytes, arith}
use Rattle.std.proofs.Math.Seq.{drop-cons}
use Rattle.std.proofs.lemmas.Option.{slice_get_within, get_or_from_slice_get}
use Rattle.std.specs.List.{slice_get}
use Rattle.std.specs.declared.alloc.Global.{Global}
use Rattle.job_threads.specs.Calls.{Reading}
use Rattle.job_threads.specs.Past.{Past}
use Rattle.worker_cases.specs.Staged.{coming, mark_of, mark_at, staged}

-- behind the first item
pub mark_behind : (items : List (String Global)) (at : ℕ) → 0 < at → mark_at items at ≡ mark_of (slice_get items (at - 1))
mark_behind items zero some = absurd (omega arith)
mark_behind items (suc before) some = let e : suc before - 1 ≡ before = omega arith in rw e refl

drop-next : (items : List (String Global)) (at : ℕ) (x : String Global) → slice_get items at ≡ Some x → drop at items ≡ x ∷ drop (suc at) items
drop-next items at x there =
    drop-cons items at x (slice_get_within items at x there)
    ∙ ap (λ (y : String Global). y ∷ drop (suc at) items) (get_or_from_slice_get items at x x there)

-- a read of the next item
pub read-next : (items : List (String Global)) (at : ℕ) (past : Past) (x copy : String Global) → slice_get items at ≡ Some x → string_bytes copy ≡ string_bytes x
    → Reading (Ok (Some copy)) (staged items at past) (staged items (at + 1) past)
read-next items at past x copy there same =
    let s : at + 1 ≡ suc at = omega arith in
    rw s (
      coming x,
      map coming (drop (suc at) items),
      ap (map coming) (drop-next items at x there),
      sym same,
      ap (λ (mark : List ℕ). record (staged items at past) { left = map coming (drop (suc at) items); mark = mark }) (ap mark_of there),
    )
