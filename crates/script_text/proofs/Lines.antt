-- The command of a line, by the text that its bytes are.
use Rattle.std.proofs.Common.{◌≡◌, ℕ, List, Some, None, option_map, unwrap_or, sym, ap, ◌∙◌, refl}
use Rattle.std.specs.Str.{IsUtf8, is_utf8}
use Rattle.std.proofs.lemmas.Str.{is_utf8-from_IsUtf8}
use Rattle.serde_json.specs.Read.{read}
use Rattle.json_members.specs.Members.{data_of}
use Rattle.json_members.proofs.ByteLemmas.{data_of-of_none}
use Rattle.script_text.specs.Commands.{command_of, command_of_data}
use Rattle.script_text.specs.RawCommands.{command_of_read}
use Rattle.script_text.specs.declared.command.Command.{Command}
use Rattle.script_text.specs.declared.command.Command.TheVariants.{BadLine}

text-data : (line : List ℕ) → IsUtf8 line → read line ≡ data_of line
unfolding data_of
text-data line utf8 = rw (is_utf8-from_IsUtf8 line utf8) refl

-- a line that is a text is the text's command
pub of-text : (line text : List ℕ) → text ≡ line → IsUtf8 line → command_of_read (read text) ≡ command_of line
unfolding command_of
of-text line text same utf8 = ap (λ bytes. command_of_read (read bytes)) same ∙ ap command_of_read (text-data line utf8)

-- a line that is no text is none
pub of-bytes : (line : List ℕ) → (IsUtf8 line → ⊥) → BadLine ≡ command_of line
unfolding command_of
of-bytes line no_text = sym (ap command_of_read (data_of-of_none line (λ text. absurd (no_text text))))
