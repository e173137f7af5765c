-- Reading line by line is reading the whole list of lines.
use Rattle.std.proofs.Common.{◌≡◌, ℕ, suc, ◌+◌, ◌<◌, ◌≤◌, true, if◌then◌else◌, List, [], ◌∷◌, ◌++◌, length, filter, Option, None, ap, sym, All, ◌∙◌, arith, append_assoc, add-one, refl}
use Rattle.std.proofs.lemmas.List.Elements.{All-nil}
use Rattle.definitions.specs.Words.{Extent}
use Rattle.spellings.specs.Lines.{lines_of, is_content}
use Rattle.watches.specs.declared.interval.Interval.{Interval}
use Rattle.watches.specs.Watches.{IsInterval}
use Rattle.script_reader.specs.declared.command.Command.{Command}
use Rattle.script_reader.specs.declared.fault.Reason.{Reason}
use Rattle.script_reader.specs.declared.tally.Tally.{Tally}
use Rattle.script_reader.specs.Limits.{named, nothing_said, with_said}
use Rattle.script_reader.specs.Lines.{said_in, tally, reason_of, reason_after}
use Rattle.script_reader.specs.Script.{ScriptValue, script_with, script_of, bad_or, first_bad, IsCommand}
use Rattle.script_reader.specs.Reading.{Keeps, Takes}
use Rattle.script_reader.proofs.Tallies.{tally_takes, script_takes, extent_takes}
use Rattle.script_reader.proofs.Kept.{keeps_next}

-- after so many lines, with this rest: what is still to be found out, and what the lines before say
pub record IsReading (bytes : List ℕ) (number : ℕ) (rest : List ℕ) (t : Tally) (sessions : List (List Command)) (watches : List Interval) : Type 0 where
  -- the content lines before the rest
  pub earlier : List (List ℕ)
  -- the first bad line of all is the first one of the rest, after these lines
  pub first : first_bad 0 [] (lines_of bytes) ≡ first_bad number earlier (lines_of rest)
  -- all content lines are these, then those of the rest
  pub content : filter is_content (lines_of bytes) ≡ earlier ++ filter is_content (lines_of rest)
  -- what they say comes to this tally
  pub tallied : tally earlier ≡ t
  -- they say these sessions and these watches, and the shape in the tally
  pub scripted : script_of earlier ≡ record { extent = named t.shape; sessions = sessions; watches = watches }
  -- the tally, the sessions and the watches keep what is kept while a script is read
  pub kept : Keeps t sessions watches
  -- each line before the rest took one byte at least
  pub passed : number + length rest ≤ length bytes

-- before the first line
pub begins : (bytes : List ℕ) (t : Tally) (sessions : List (List Command)) (watches : List Interval) → t ≡ nothing_said → sessions ≡ [] → watches ≡ [] → IsReading bytes 0 bytes t sessions watches
begins bytes t sessions watches e e' e'' = rw (e, e', e'') (record {
  earlier = [];
  first = refl;
  content = refl;
  tallied = refl;
  scripted = refl;
  kept = record {
    tally_kept = record { shape_first = λ h. absurd (omega (arith, h)); queries_within = omega arith; few_commands = omega arith; few_watches = omega arith };
    counted = refl;
    few_sessions = omega arith;
    commands_counted = refl;
    shaped = tt;
    commands = All-nil (All (IsCommand (named None)));
    watches_counted = refl;
    watches_kept = All-nil IsInterval;
  };
  passed = omega arith;
})

-- a line is passed over, or judged
bad_judges : (number : ℕ) (earlier : List (List ℕ)) (line : List ℕ) (lines : List (List ℕ)) (due : Option Reason) → is_content line ≡ true → reason_of earlier line ≡ due → first_bad number earlier (line ∷ lines) ≡ bad_or (number + 1) due (first_bad (number + 1) (earlier ++ line ∷ []) lines)
bad_judges number earlier line lines due content is =
    ap (λ t. if t then bad_or (suc number) (reason_of earlier line) (first_bad (suc number) (earlier ++ line ∷ []) lines) else first_bad (suc number) earlier lines) content
    ∙ ap (λ r. bad_or (suc number) r (first_bad (suc number) (earlier ++ line ∷ []) lines)) is
    ∙ ap (λ n. bad_or n due (first_bad n (earlier ++ line ∷ []) lines)) (sym (add-one number))

-- the content lines, from one on
filter_takes : (line : List ℕ) (lines : List (List ℕ)) → is_content line ≡ true → filter is_content (line ∷ lines) ≡ line ∷ filter is_content lines
filter_takes line lines content = ap (λ t. if t then line ∷ filter is_content lines else filter is_content lines) content

-- a script is its three parts
script_is : {extent extent' : Extent} {sessions sessions' : List (List Command)} {watches watches' : List Interval} → extent ≡ extent' → sessions ≡ sessions' → watches ≡ watches'
    → ◌≡◌ {A = ScriptValue} (record { extent = extent; sessions = sessions; watches = watches }) (record { extent = extent'; sessions = sessions'; watches = watches' })
script_is a b c = cc

-- a good content line is taken
pub takes_line : (bytes : List ℕ) (number : ℕ) (rest : List ℕ) (t : Tally) (sessions : List (List Command)) (watches : List Interval) (line after : List ℕ) (t' : Tally) (sessions' : List (List Command)) (watches' : List Interval) → IsReading bytes number rest t sessions watches → lines_of rest ≡ line ∷ lines_of after → length after < length rest → is_content line ≡ true → reason_after t line ≡ None → Takes t sessions watches line t' sessions' watches' → IsReading bytes (number + 1) after t' sessions' watches'
takes_line bytes number rest t sessions watches line after t' sessions' watches' r e shorter content good took =
    record {
      earlier = r.earlier ++ line ∷ [];
      first =
          r.first ∙ ap (first_bad number r.earlier) e
          ∙ bad_judges number r.earlier line (lines_of after) None content (ap (λ b. reason_after b line) r.tallied ∙ good);
      content =
          r.content ∙ ap (λ ls. r.earlier ++ filter is_content ls) e ∙ ap (λ ls. r.earlier ++ ls) (filter_takes line (lines_of after) content)
          ∙ sym (append_assoc r.earlier (line ∷ []) (filter is_content (lines_of after)));
      tallied = tally_takes r.earlier line took.said (ap (λ b. said_in (named b.shape) line) r.tallied ∙ took.good.says) ∙ ap (λ b. with_said b took.said) r.tallied ∙ sym took.tallied;
      scripted =
          script_takes r.earlier line took.said (ap (λ s. said_in s.extent line) r.scripted ∙ took.good.says)
          ∙ ap (λ s. script_with s took.said) r.scripted
          ∙ script_is (sym (extent_takes t took.said) ∙ ap (λ b. named b.shape) (sym took.tallied)) (sym took.added) (sym took.watched);
      kept = rw (took.tallied, took.added, took.watched) (keeps_next t sessions watches took.said r.kept took.good.next took.good.within);
      passed = omega (arith, r.passed, shorter);
    }
