-- Lines of a form, one after the other.
use Rattle.std.proofs.Common.{◌≡◌, refl, sym, ap, ap₂, ◌∙◌, ⊎_elim, inl, inr, subst, ℕ, zero, suc, ◌+◌, ◌-◌, ◌^◌, ◌<◌, ◌≤◌, List, [], ◌∷◌, ◌++◌, length, get_or, take, drop, map, arith, append_assoc, length-append}
use Rattle.std.specs.Prelude.{Option, Some, None, Result, Ok, Err, IfOk, MatchResult, Vec}
use Rattle.std.specs.List.{AllZip}
use Rattle.std.proofs.lemmas.List.{append-nil, take_at, take-append-le, take-append-drop, get_or-take, length-take, take-take}
use Rattle.std.proofs.lemmas.Bool.{cases_lt}
use Rattle.std.specs.declared.alloc.Global.{Global}
use Rattle.script_words.specs.declared.command.Command.{Command}
use Rattle.script_words.specs.declared.form.Form.{Form}
use Rattle.script_words.specs.declared.form.Form.TheVariants.{Exact, Alone, Rowless}
use Rattle.script_words.specs.declared.fault.ScriptFault.{ScriptFault}
use Rattle.script_words.specs.declared.fault.ScriptFault.TheVariants as fault
use Rattle.script_words.specs.Faults.{IsAtLine, IsFormFault, IsScriptFault}
use Rattle.script_words.specs.Lines.{lines_of, closed_part}
use Rattle.script_words.specs.Grammar.{IsLine, IsForm, IsScript, BreaksAt, BreaksBy, IsFirstOutside, Reads, FitsAfter, AreLengthsOf, AreEqual, AllAre, lengths_of, commands_of, places_in}
use Rattle.script_words.proofs.OneCommand.{one_line}

module _ (form : Form) where
  -- the number of places of a line's value, where it has one
  abbrev lengths_at : Option Command → List ℕ
  lengths_at None = []
  lengths_at (Some command) = places_in command ∷ []

  one_length : (text : List ℕ) (a b : Option Command) → IsLine form text a → IsLine form text b → lengths_at a ≡ lengths_at b
  one_length text a b fa fb = ap lengths_at (one_line form text a b fa fb)

  -- ---- one line more

  lengths-append : (ls ms : List (Option Command)) → lengths_of (ls ++ ms) ≡ lengths_of ls ++ lengths_of ms
  lengths-append [] ms = refl
  lengths-append (None ∷ ls) ms = lengths-append ls ms
  lengths-append (Some c ∷ ls) ms = ap (λ (ns : List ℕ). places_in c ∷ ns) (lengths-append ls ms)

  lengths-one : (l : Option Command) → lengths_of (l ∷ []) ≡ lengths_at l
  lengths-one None = refl
  lengths-one (Some c) = refl

  commands-append : (ls ms : List (Option Command)) → commands_of (ls ++ ms) ≡ commands_of ls ++ commands_of ms
  commands-append [] ms = refl
  commands-append (None ∷ ls) ms = commands-append ls ms
  commands-append (Some c ∷ ls) ms = ap (λ (cs : List Command). c ∷ cs) (commands-append ls ms)

  lengths-commands : (ls : List (Option Command)) → map places_in (commands_of ls) ≡ lengths_of ls
  lengths-commands [] = refl
  lengths-commands (None ∷ ls) = lengths-commands ls
  lengths-commands (Some c ∷ ls) = ap (λ (ns : List ℕ). places_in c ∷ ns) (lengths-commands ls)

  zip_more : (texts : List (List ℕ)) (ls : List (Option Command)) (text : List ℕ) (l : Option Command) → AllZip (IsLine form) texts ls → IsLine form text l → AllZip (IsLine form) (texts ++ text ∷ []) (ls ++ l ∷ [])
  zip_more [] [] text l each is = (is, tt)
  zip_more [] (m ∷ ls) text l each is = absurd each
  zip_more (t ∷ texts) [] text l each is = absurd each
  zip_more (t ∷ texts) (m ∷ ls) text l each is = (each.0, zip_more texts ls text l each.1 is)

  -- what stands at the end of lines
  record Ends (texts : List (List ℕ)) (text : List ℕ) (others : List (Option Command)) : Type 0 where
    before : List (Option Command)
    last : Option Command
    each : AllZip (IsLine form) texts before
    is_line : IsLine form text last
    parts : others ≡ before ++ last ∷ []

  ends_of : (texts : List (List ℕ)) (text : List ℕ) (others : List (Option Command)) → AllZip (IsLine form) (texts ++ text ∷ []) others → Ends texts text others
  ends_of [] text [] each = absurd each
  ends_of [] text (o ∷ []) each = record { before = []; last = o; each = tt; is_line = each.0; parts = refl }
  ends_of [] text (o ∷ p ∷ others) each = absurd each.1
  ends_of (t ∷ texts) text [] each = absurd each
  ends_of (t ∷ texts) text (o ∷ others) each =
      let rest = ends_of texts text others each.1 in
      record { before = o ∷ rest.before; last = rest.last; each = (each.0, rest.each); is_line = rest.is_line; parts = ap (λ (l : List (Option Command)). o ∷ l) rest.parts }

  same_lengths : (texts : List (List ℕ)) (ls ms : List (Option Command)) → AllZip (IsLine form) texts ls → AllZip (IsLine form) texts ms → lengths_of ls ≡ lengths_of ms
  same_lengths [] [] [] el em = refl
  same_lengths [] [] (m ∷ ms) el em = absurd em
  same_lengths [] (l ∷ ls) ms el em = absurd el
  same_lengths (t ∷ texts) [] ms el em = absurd el
  same_lengths (t ∷ texts) (l ∷ ls) [] el em = absurd em
  same_lengths (t ∷ texts) (l ∷ ls) (m ∷ ms) el em =
      lengths-append (l ∷ []) ls ∙ ap₂ (λ (us vs : List ℕ). us ++ vs) (lengths-one l ∙ one_length t l m el.0 em.0 ∙ sym (lengths-one m)) (same_lengths texts ls ms el.1 em.1)
      ∙ sym (lengths-append (m ∷ []) ms)

  all_more : (n : ℕ) (ms : List ℕ) (m : ℕ) → AllAre n ms → m ≡ n → AllAre n (ms ++ m ∷ [])
  all_more n [] m all is = (is, tt)
  all_more n (k ∷ ms) m all is = (all.0, all_more n ms m all.1 is)

  all_last : (n : ℕ) (ms : List ℕ) (m : ℕ) → AllAre n (ms ++ m ∷ []) → m ≡ n
  all_last n [] m all = all.0
  all_last n (k ∷ ms) m all = all_last n ms m all.1

  lengths_more : (f : Form) (ns : List ℕ) (m : ℕ) → AreLengthsOf f ns → FitsAfter f ns m → AreLengthsOf f (ns ++ m ∷ [])
  lengths_more Exact [] m all fits = tt
  lengths_more Exact (n ∷ ns) m all fits = all_more n ns m all fits
  lengths_more Alone ns m all fits = tt
  lengths_more Rowless ns m all fits = tt

  lengths_last : (f : Form) (ns : List ℕ) (m : ℕ) → AreLengthsOf f (ns ++ m ∷ []) → FitsAfter f ns m
  lengths_last Exact [] m all = tt
  lengths_last Exact (n ∷ ns) m all = all_last n ns m all
  lengths_last Alone ns m all = tt
  lengths_last Rowless ns m all = tt

  lengths_none : (f : Form) → AreLengthsOf f []
  lengths_none Exact = tt
  lengths_none Alone = tt
  lengths_none Rowless = tt

  long_more : (texts : List (List ℕ)) (text : List ℕ) → length (texts ++ text ∷ []) ≡ length texts + 1
  long_more texts text = length-append texts (text ∷ [])

  pub reads_none : (texts : List (List ℕ)) → texts ≡ [] → (commands : List Command) → commands ≡ [] → Reads form texts commands 1
  reads_none texts is commands none = record {
    lines = [];
    whole = record { each = subst (λ (ts : List (List ℕ)). AllZip (IsLine form) ts []) (sym is) tt; one_length = lengths_none form };
    gives = none;
    counted = sym (ap (λ (ts : List (List ℕ)). length ts + 1) is);
  }

  -- a line that is skipped
  pub reads_skipped : (texts : List (List ℕ)) (text : List ℕ) (commands : List Command) (count : ℕ) → Reads form texts commands count → IsLine form text None → Reads form (texts ++ text ∷ []) commands (count + 1)
  reads_skipped texts text commands count reads is = record {
    lines = reads.lines ++ None ∷ [];
    whole = record {
      each = zip_more texts reads.lines text None reads.whole.each is;
      one_length = subst (AreLengthsOf form) (sym (lengths-append reads.lines (None ∷ []) ∙ append-nil (lengths_of reads.lines))) reads.whole.one_length;
    };
    gives = reads.gives ∙ sym (commands-append reads.lines (None ∷ []) ∙ append-nil (commands_of reads.lines));
    counted = ap (λ (n : ℕ). n + 1) (reads.counted ∙ sym (long_more texts text));
  }

  fits_lengths : (lines : List (Option Command)) (commands : List Command) (m : ℕ) → commands ≡ commands_of lines → FitsAfter form (map places_in commands) m → FitsAfter form (lengths_of lines) m
  fits_lengths lines commands m is fits = subst (λ (ns : List ℕ). FitsAfter form ns m) (ap (λ (cs : List Command). map places_in cs) is ∙ lengths-commands lines) fits

  -- a command whose value has the length of the first
  pub reads_command : (texts : List (List ℕ)) (text : List ℕ) (commands new : List Command) (count : ℕ) (command : Command) → Reads form texts commands count → IsLine form text (Some command)
      → FitsAfter form (map places_in commands) (places_in command) → new ≡ commands ++ command ∷ [] → Reads form (texts ++ text ∷ []) new (count + 1)
  reads_command texts text commands new count command reads is fits pushed = record {
    lines = reads.lines ++ Some command ∷ [];
    whole = record {
      each = zip_more texts reads.lines text (Some command) reads.whole.each is;
      one_length =
          subst (AreLengthsOf form) (sym (lengths-append reads.lines (Some command ∷ [])))
          (lengths_more form (lengths_of reads.lines) (places_in command) reads.whole.one_length (fits_lengths reads.lines commands (places_in command) reads.gives fits));
    };
    gives = pushed ∙ ap (λ (cs : List Command). cs ++ command ∷ []) reads.gives ∙ sym (commands-append reads.lines (Some command ∷ []));
    counted = ap (λ (n : ℕ). n + 1) (reads.counted ∙ sym (long_more texts text));
  }

  -- a text that is no line
  pub text_outside : (texts : List (List ℕ)) (text : List ℕ) → ((line : Option Command) → IsLine form text line → ⊥) → (others : List (Option Command)) → IsForm form (texts ++ text ∷ []) others → ⊥
  text_outside texts text none others whole = let ends = ends_of texts text others whole.each in none ends.last ends.is_line

  -- a value of another length than the first
  pub length_outside : (texts : List (List ℕ)) (text : List ℕ) (commands : List Command) (count : ℕ) (command : Command) → Reads form texts commands count → IsLine form text (Some command)
      → (FitsAfter form (map places_in commands) (places_in command) → ⊥) → (others : List (Option Command)) → IsForm form (texts ++ text ∷ []) others → ⊥
  length_outside texts text commands count command reads is unfit others whole =
      let ends = ends_of texts text others whole.each in
      let all : AreLengthsOf form (lengths_of ends.before ++ lengths_of (ends.last ∷ [])) = subst (AreLengthsOf form) (ap lengths_of ends.parts ∙ lengths-append ends.before (ends.last ∷ [])) whole.one_length in
      let last : lengths_of (ends.last ∷ []) ≡ places_in command ∷ [] = lengths-one ends.last ∙ one_length text ends.last (Some command) ends.is_line is in
      let before : lengths_of ends.before ≡ map places_in commands =
      same_lengths texts ends.before reads.lines ends.each reads.whole.each ∙ sym (lengths-commands reads.lines) ∙ ap (λ (cs : List Command). map places_in cs) (sym reads.gives) in
      unfit (lengths_last form (map places_in commands) (places_in command) (subst (AreLengthsOf form) (ap₂ (λ (us vs : List ℕ). us ++ vs) before last) all))

  -- a text that was refused by the number behind these texts
  pub line_refused : (texts : List (List ℕ)) (text : List ℕ) (commands : List Command) (next : ℕ) (why : ScriptFault) → Reads form texts commands next → IsAtLine next ((line : Option Command) → IsLine form text line → ⊥) why
      → IsAtLine (length texts + 1) ((others : List (Option Command)) → IsForm form (texts ++ text ∷ []) others → ⊥) why
  line_refused texts text commands next fault.Memory reads bad = tt
  line_refused texts text commands next (fault.Line k) reads bad = (bad.0 ∙ reads.counted, text_outside texts text bad.1)

  pub counted_more : (texts : List (List ℕ)) (text : List ℕ) (commands new : List Command) (count more : ℕ) → Reads form texts commands count → Reads form (texts ++ text ∷ []) new more → more ≡ count + 1
  counted_more texts text commands new count more reads goes = goes.counted ∙ ap (λ (n : ℕ). n + 1) (long_more texts text ∙ sym reads.counted)

  -- ---- the whole text

  -- a text that does not go on is where the text breaks
  pub breaks : (bytes rest : List ℕ) (texts : List (List ℕ)) (text : List ℕ) (commands : List Command) (count : ℕ) (why : ScriptFault) → Reads form texts commands count → lines_of bytes ≡ texts ++ text ∷ lines_of rest
      → IsAtLine (length texts + 1) ((others : List (Option Command)) → IsForm form (texts ++ text ∷ []) others → ⊥) why → IsFormFault form (lines_of bytes) why
  breaks bytes rest texts text commands count fault.Memory reads is bad = tt
  breaks bytes rest texts text commands count (fault.Line k) reads is bad =
      let above : k - 1 ≡ length texts = omega (arith, bad.0) in
      let front : take (k - 1) (lines_of bytes) ≡ texts =
      ap (λ (l : List (List ℕ)). take (k - 1) l) is ∙ take_at texts (text ∷ lines_of rest) (k - 1) (sym above) in
      let longer : lines_of bytes ≡ (texts ++ text ∷ []) ++ lines_of rest = is ∙ sym (append_assoc texts (text ∷ []) (lines_of rest)) in
      let front_and : take k (lines_of bytes) ≡ texts ++ text ∷ [] =
      ap (λ (l : List (List ℕ)). take k l) longer ∙ take_at (texts ++ text ∷ []) (lines_of rest) k (long_more texts text ∙ sym bad.0) in
      let size : length (lines_of bytes) ≡ length texts + suc (length (lines_of rest)) = ap (λ (l : List (List ℕ)). length l) is ∙ length-append texts (text ∷ lines_of rest) in
      record {
        lines = reads.lines;
        counted = omega (arith, bad.0);
        within = omega (arith, size, bad.0);
        before = subst (λ (ts : List (List ℕ)). IsForm form ts reads.lines) (sym front) reads.whole;
        broken = λ others whole. bad.1 others (subst (λ (ts : List (List ℕ)). IsForm form ts others) front_and whole);
      }

  -- one line more was read
  pub goes_on : (bytes rest after : List ℕ) (texts : List (List ℕ)) (text : List ℕ) → lines_of bytes ≡ texts ++ lines_of rest → lines_of rest ≡ text ∷ lines_of after
      → lines_of bytes ≡ texts ++ text ∷ lines_of after
  goes_on bytes rest after texts text so_far first = so_far ∙ ap (λ (l : List (List ℕ)). texts ++ l) first

  pub regrouped : (bytes after : List ℕ) (texts : List (List ℕ)) (text : List ℕ) → lines_of bytes ≡ texts ++ text ∷ lines_of after → lines_of bytes ≡ (texts ++ text ∷ []) ++ lines_of after
  regrouped bytes after texts text is = is ∙ sym (append_assoc texts (text ∷ []) (lines_of after))

  -- no line is left
  pub ends : (bytes rest : List ℕ) (texts : List (List ℕ)) (commands : List Command) (count : ℕ) → Reads form texts commands count → lines_of bytes ≡ texts ++ lines_of rest → length rest ≡ 0 → Reads form (lines_of bytes) commands count
  ends bytes [] texts commands count reads is none = subst (λ (ts : List (List ℕ)). Reads form ts commands count) (sym (is ∙ append-nil texts)) reads
  ends bytes (b ∷ rest) texts commands count reads is none = absurd (omega (arith, none))

  pub script_from : (bytes : List ℕ) (commands : List Command) (count : ℕ) → length bytes ≤ 2 ^ 28 → Reads form (lines_of bytes) commands count → IsScript form bytes commands
  script_from bytes commands count few reads = record { lines = reads.lines; few = few; whole = reads.whole; gives = reads.gives }

  pub short_refused : (bytes : List ℕ) (why : ScriptFault) → length bytes ≤ 2 ^ 28 → IsFormFault form (lines_of bytes) why → IsScriptFault form bytes why
  short_refused bytes fault.Memory few bad = tt
  short_refused bytes (fault.Line k) few bad = inl (few, bad)

  pub long_refused : (bytes front : List ℕ) (why : ScriptFault) → 2 ^ 28 < length bytes → front ≡ closed_part (take (2 ^ 28) bytes) → IsFormFault form (lines_of front) why → IsScriptFault form bytes why
  long_refused bytes front fault.Memory many is bad = tt
  long_refused bytes front (fault.Line k) many is bad = inr (many, inl (subst (λ (l : List ℕ). BreaksAt form (lines_of l) k) is bad))

  pub past_refused : (bytes front : List ℕ) (commands : List Command) (count : ℕ) → 2 ^ 28 < length bytes → front ≡ closed_part (take (2 ^ 28) bytes) → Reads form (lines_of front) commands count
      → IsScriptFault form bytes (fault.Line count)
  past_refused bytes front commands count many is reads =
      inr (many, inr (reads.counted ∙ ap (λ (l : List ℕ). length (lines_of l) + 1) is, (reads.lines, subst (λ (l : List ℕ). IsForm form (lines_of l) reads.lines) is reads.whole)))

  -- the values of a script's commands have one length
  pub script_lengths : (bytes : List ℕ) (commands : List Command) → IsScript form bytes commands → AreLengthsOf form (map places_in commands)
  script_lengths bytes commands script =
      subst (AreLengthsOf form) (sym (ap (λ (cs : List Command). map places_in cs) script.gives ∙ lengths-commands script.lines)) script.whole.one_length

  all_at : (n k : ℕ) (commands : List Command) (d : Command) → AllAre n (map places_in commands) → k < length commands → places_in (get_or commands k d) ≡ n
  all_at n k [] d all within = absurd (omega (arith, within))
  all_at n zero (c ∷ commands) d all within = all.0
  all_at n (suc k) (c ∷ commands) d all within = all_at n k commands d all.1 (omega (arith, within))

  first_at : (k : ℕ) (c : Command) (commands : List Command) (d : Command) → AreEqual (map places_in (c ∷ commands)) → k < length (c ∷ commands) → places_in (get_or (c ∷ commands) k d) ≡ places_in c
  first_at zero c commands d all within = refl
  first_at (suc k) c commands d all within = all_at (places_in c) k commands d all (omega (arith, within))

  -- any two commands of a script
  pub equal_at : (commands : List Command) (j k : ℕ) (d e : Command) → AreEqual (map places_in commands) → j < length commands → k < length commands → places_in (get_or commands j d) ≡ places_in (get_or commands k e)
  equal_at [] j k d e all wj wk = absurd (omega (arith, wj))
  equal_at (c ∷ commands) j k d e all wj wk = first_at j c commands d all wj ∙ sym (first_at k c commands e all wk)

  -- ---- bytes behind them

  pub outside_front : (bytes rest : List ℕ) (k : ℕ) → 2 ^ 28 < length bytes → IsFirstOutside form bytes k → IsFirstOutside form (bytes ++ rest) k
  outside_front bytes rest k many (inl short) = absurd (let few = short.0 in omega (arith, many, few))
  outside_front bytes rest k many (inr long) =
      let front : take (2 ^ 28) (bytes ++ rest) ≡ take (2 ^ 28) bytes = take-append-le (2 ^ 28) bytes rest (omega (arith, many)) in
      inr (omega (arith, many, length-append bytes rest), subst (λ (l : List ℕ). BreaksBy form (lines_of (closed_part l)) k) (sym front) long.1)

  pub same_length_above : (commands : List Command) (at k : ℕ) (d command : Command) → AreEqual (map places_in commands) → at < length commands → k < length (take at commands) → command ≡ get_or commands at command
      → places_in (get_or (take at commands) k d) ≡ places_in command
  same_length_above commands at k d command all inside within is =
      let below : k < at = omega (arith, within, length-take at commands) in
      ap places_in (get_or-take at commands k d below) ∙ equal_at commands k at d command all (omega (arith, below, inside)) inside ∙ ap places_in (sym is)

  pub read_lengths : (bytes : List ℕ) (result : Result (Vec Command Global) ScriptFault) → MatchResult result (λ commands. IsScript form bytes commands.items) (IsScriptFault form bytes)
      → IfOk result (λ commands. AreLengthsOf form (map places_in commands.items))
  read_lengths bytes (Ok commands) is = script_lengths bytes commands.items is
  read_lengths bytes (Err why) is = tt

  -- ---- a script has no line outside

  all_front : (n : ℕ) (us vs : List ℕ) → AllAre n (us ++ vs) → AllAre n us
  all_front n [] vs all = tt
  all_front n (u ∷ us) vs all = (all.0, all_front n us vs all.1)

  lengths_front : (f : Form) (us vs : List ℕ) → AreLengthsOf f (us ++ vs) → AreLengthsOf f us
  lengths_front Exact [] vs all = tt
  lengths_front Exact (u ∷ us) vs all = all_front u us vs all
  lengths_front Alone us vs all = tt
  lengths_front Rowless us vs all = tt

  zip_front : (n : ℕ) (texts : List (List ℕ)) (lines : List (Option Command)) → AllZip (IsLine form) texts lines → AllZip (IsLine form) (take n texts) (take n lines)
  zip_front zero texts lines each = tt
  zip_front (suc n) [] [] each = tt
  zip_front (suc n) [] (l ∷ lines) each = absurd each
  zip_front (suc n) (t ∷ texts) [] each = absurd each
  zip_front (suc n) (t ∷ texts) (l ∷ lines) each = (each.0, zip_front n texts lines each.1)

  form_front : (n : ℕ) (texts : List (List ℕ)) (lines : List (Option Command)) → IsForm form texts lines → IsForm form (take n texts) (take n lines)
  form_front n texts lines whole = record {
    each = zip_front n texts lines whole.each;
    one_length =
        lengths_front form (lengths_of (take n lines)) (lengths_of (drop n lines))
        (subst (AreLengthsOf form) (ap lengths_of (sym (take-append-drop n lines)) ∙ lengths-append (take n lines) (drop n lines)) whole.one_length);
  }

  pub no_line_outside : (bytes : List ℕ) (commands : List Command) (k : ℕ) → IsScript form bytes commands → IsFirstOutside form bytes k → ⊥
  no_line_outside bytes commands k script (inl short) = short.1.broken (take k script.lines) (form_front k (lines_of bytes) script.lines script.whole)
  no_line_outside bytes commands k script (inr long) = let few = script.few in let many = long.0 in absurd (omega (arith, few, many))

  -- ---- at most one line is the first outside

  -- texts that break at a place are of the form before it, and at no earlier place do they break
  not_before : (texts : List (List ℕ)) (j k : ℕ) → BreaksAt form texts j → BreaksAt form texts k → j < k → ⊥
  not_before texts j k first later less =
      let short : j ≤ k - 1 = omega (arith, less) in
      first.broken (take j later.lines) (subst (λ (ts : List (List ℕ)). IsForm form ts (take j later.lines)) (take-take j (k - 1) texts short) (form_front j (take (k - 1) texts) later.lines later.before))

  one_break : (texts : List (List ℕ)) (j k : ℕ) → BreaksAt form texts j → BreaksAt form texts k → j ≡ k
  one_break texts j k a b = ⊎_elim (λ less. absurd (not_before texts j k a b less)) (λ more. ⊎_elim (λ less. absurd (not_before texts k j b a less)) (λ other. omega (arith, more, other)) (cases_lt k j)) (cases_lt j k)

  -- texts of the form do not break
  no_break : (texts : List (List ℕ)) (k : ℕ) (lines : List (Option Command)) → IsForm form texts lines → BreaksAt form texts k → ⊥
  no_break texts k lines whole at = at.broken (take k lines) (form_front k texts lines whole)

  one_break_by : (texts : List (List ℕ)) (j k : ℕ) → BreaksBy form texts j → BreaksBy form texts k → j ≡ k
  one_break_by texts j k (inl a) (inl b) = one_break texts j k a b
  one_break_by texts j k (inl a) (inr b) = absurd (no_break texts j b.1.0 b.1.1 a)
  one_break_by texts j k (inr a) (inl b) = absurd (no_break texts k a.1.0 a.1.1 b)
  one_break_by texts j k (inr a) (inr b) = a.0 ∙ sym b.0

  pub one_outside : (bytes : List ℕ) (a b : ℕ) → IsFirstOutside form bytes a → IsFirstOutside form bytes b → a ≡ b
  one_outside bytes a b (inl short) (inl other) = one_break (lines_of bytes) a b short.1 other.1
  one_outside bytes a b (inl short) (inr long) = let few = short.0 in let many = long.0 in absurd (omega (arith, few, many))
  one_outside bytes a b (inr long) (inl short) = let few = short.0 in let many = long.0 in absurd (omega (arith, few, many))
  one_outside bytes a b (inr long) (inr other) = one_break_by (lines_of (closed_part (take (2 ^ 28) bytes))) a b long.1 other.1

  -- ---- one reading

  one_form : (texts : List (List ℕ)) (ls ms : List (Option Command)) → AllZip (IsLine form) texts ls → AllZip (IsLine form) texts ms → ls ≡ ms
  one_form [] [] [] el em = refl
  one_form [] [] (m ∷ ms) el em = absurd em
  one_form [] (l ∷ ls) ms el em = absurd el
  one_form (t ∷ texts) [] ms el em = absurd el
  one_form (t ∷ texts) (l ∷ ls) [] el em = absurd em
  one_form (t ∷ texts) (l ∷ ls) (m ∷ ms) el em =
      ap₂ (λ (x : Option Command) (xs : List (Option Command)). x ∷ xs) (one_line form t l m el.0 em.0) (one_form texts ls ms el.1 em.1)

  pub one_script : (bytes : List ℕ) (a b : List Command) → IsScript form bytes a → IsScript form bytes b → a ≡ b
  one_script bytes a b fa fb = fa.gives ∙ ap commands_of (one_form (lines_of bytes) fa.lines fb.lines fa.whole.each fb.whole.each) ∙ sym fb.gives
