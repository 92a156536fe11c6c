-- As many commands as lines that are not skipped.
use Rattle.std.proofs.Common.{◌≡◌, ℕ, ◌+◌, true, false, cond, List, [], ◌∷◌, length, Option, Some, None, refl, sym, ap, ◌∙◌, eq-eqb, arith}
use Rattle.std.specs.List.{AllZip}
use Rattle.std.proofs.lemmas.Bool.{eqb-true}
use Rattle.script_words.specs.Lines.{lines_of}
use Rattle.script_words.specs.Grammar.{IsLine, IsScript, IsSkipped, command_lines, commands_of, is_skipped}
use Rattle.script_words.specs.declared.command.Command.{Command}
use Rattle.script_words.specs.declared.form.Form.{Form}
use Rattle.script_words.proofs.OneCommand.{skipped_has_none}

skips : (text : List ℕ) → IsSkipped text → is_skipped text ≡ true
skips [] is = refl
skips (byte ∷ bytes) is = eq-eqb byte 35 is

is_so : (text : List ℕ) → is_skipped text ≡ true → IsSkipped text
is_so [] is = tt
is_so (byte ∷ bytes) is = eqb-true byte 35 is

one_more : (text : List ℕ) (rest : List ℕ) (n k : ℕ) → (is_skipped text ≡ true → ⊥) → k ≡ length rest
    → k + 1 ≡ length (cond (is_skipped text) rest (n ∷ rest))
one_more text rest n k not e =
    elim (is_skipped text) as (λ b. (b ≡ true → ⊥) → k + 1 ≡ length (cond b rest (n ∷ rest))) [
      | true ↦ λ no. absurd (no refl)
      | false ↦ λ no. omega (arith, e)
    ] not

pub as_many : (form : Form) (n : ℕ) (texts : List (List ℕ)) (lines : List (Option Command)) → AllZip (IsLine form) texts lines
    → length (commands_of lines) ≡ length (command_lines n texts)
as_many form n [] [] each = refl
as_many form n [] (line ∷ lines) each = absurd each
as_many form n (text ∷ texts) [] each = absurd each
as_many form n (text ∷ texts) (None ∷ lines) each =
    as_many form (n + 1) texts lines each.1
    ∙ ap (λ b. length (cond b (command_lines (n + 1) texts) (n ∷ command_lines (n + 1) texts))) (sym (skips text each.0))
as_many form n (text ∷ texts) (Some command ∷ lines) each =
    let e = as_many form (n + 1) texts lines each.1 in
    let m = one_more text (command_lines (n + 1) texts) n (length (commands_of lines)) (λ is. skipped_has_none text command (is_so text is) each.0.0) e in
    omega (arith, m)

pub numbered_so : (form : Form) (bytes : List ℕ) (commands : List Command) → IsScript form bytes commands
    → length commands ≡ length (command_lines 1 (lines_of bytes))
numbered_so form bytes commands s = ap (λ (l : List Command). length l) s.gives ∙ as_many form 1 (lines_of bytes) s.lines s.whole.each
