-- The value of bytes, by the facts that a reader of them gives.
use Rattle.std.proofs.Common.{◌≡◌, ℕ, List, Bool, true, false, cond, Some, None, refl}
use Rattle.std.specs.Str.{IsUtf8, is_utf8}
use Rattle.std.proofs.lemmas.Str.{IsUtf8-from_is_utf8, is_utf8-from_IsUtf8}
use Rattle.serde_json.specs.Data.{Data}
use Rattle.serde_json.specs.Read.{read}
use Rattle.json_members.specs.Members.{data_of}

-- text that was read has the value that was read
pub data_of-of_text : (bytes : List ℕ) (d : Data) → IsUtf8 bytes → read bytes ≡ Some d → data_of bytes ≡ Some d
unfolding data_of
data_of-of_text bytes d text found = rw (is_utf8-from_IsUtf8 bytes text) found

unread : (bytes : List ℕ) (is_text : Bool) → is_utf8 bytes ≡ is_text → (IsUtf8 bytes → read bytes ≡ None) → cond is_text (read bytes) None ≡ None
unread bytes true same nothing = nothing (IsUtf8-from_is_utf8 bytes same)
unread bytes false same nothing = refl

-- bytes that are read as nothing where they are text have no value
pub data_of-of_none : (bytes : List ℕ) → (IsUtf8 bytes → read bytes ≡ None) → data_of bytes ≡ None
unfolding data_of
data_of-of_none bytes nothing = unread bytes (is_utf8 bytes) refl nothing
