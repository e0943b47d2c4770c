-- A read of an artifact that takes no memory.
use Rattle.std.proofs.Common.{ℕ, zero, suc, ◌≡◌, ◌-◌, [], Some, Ok, String, string_bytes, replicate, refl, sym, arith}
use Rattle.std.specs.declared.alloc.Global.{Global}
use Rattle.job_threads.specs.Calls.{Reading}
use Rattle.program_calls.specs.Quiet.{empty_item, quiet}

-- if items are left, the next one is empty, and one less is left
pub read-next : (items left : ℕ) (item : String Global) → ¬ (left ≡ 0) → string_bytes item ≡ [] → Reading (Ok (Some item)) (quiet items left) (quiet items (left - 1))
read-next items zero item some empty = absurd (some refl)
read-next items (suc left) item some empty =
    let less : suc left - 1 ≡ left = omega arith in
    rw less (empty_item, replicate left empty_item, refl, sym empty, refl)
