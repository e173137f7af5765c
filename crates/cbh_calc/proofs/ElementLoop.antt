-- Reading a list of elements line by line is reading the whole list of lines.
use Rattle.std.proofs.Common.{◌≡◌, ℕ, suc, ◌+◌, ◌<◌, ◌≤◌, true, if◌then◌else◌, List, [], ◌∷◌, ◌++◌, length, filter, Option, Some, None, refl, ap, ap₂, sym, ◌∙◌, arith, append_assoc, add-one}
use Rattle.std.proofs.lemmas.List.{map_push}
use Rattle.definitions.specs.Words.{Extent}
use Rattle.definitions.specs.Moves.{Parts}
use Rattle.spellings.specs.Lines.{lines_of, words_in, is_content}
use Rattle.script_reader.specs.declared.fault.Reason.{Reason}
use Rattle.script_reader.specs.Forms.{extent_of}
use Rattle.script_reader.specs.Script.{bad_or}
use Rattle.cbh_calc.specs.Elements.{extent_in, move_in, moves_of, reason_after, reason_of, first_bad}
use Rattle.cbh_calc.specs.ElementReading.{extent_with, moves_with}

-- ---- one line more
extent-more : (earlier : List (List ℕ)) (line : List ℕ) → extent_in (earlier ++ line ∷ []) ≡ Some (extent_with (extent_in earlier) line)
extent-more [] line = refl
extent-more (first ∷ lines) line = refl

moves-more : (earlier : List (List ℕ)) (line : List ℕ) → moves_of (earlier ++ line ∷ []) ≡ moves_with (extent_in earlier) (moves_of earlier) line
moves-more [] line = refl
moves-more (first ∷ lines) line = map_push (move_in (extent_of (words_in first))) lines line

-- ---- line by line
-- after so many lines, with this rest: what is still to be found out, and what the lines before say
pub record IsReading (bytes : List ℕ) (number : ℕ) (rest : List ℕ) (extent : Option Extent) (moves : List Parts) : Type 0 where
  -- the content lines before the rest
  pub earlier : List (List ℕ)
  -- the first bad line of all is the first one of the rest, after these lines
  pub first : first_bad 0 [] (lines_of bytes) ≡ first_bad number earlier (lines_of rest)
  -- all content lines are these, then those of the rest
  pub content : filter is_content (lines_of bytes) ≡ earlier ++ filter is_content (lines_of rest)
  -- the shape that they name
  pub extent_is : extent_in earlier ≡ extent
  -- the elements that they spell
  pub moves_are : moves_of earlier ≡ moves
  -- each line before the rest took one byte at least
  pub passed : number + length rest ≤ length bytes

-- a content line is judged
judges_line : (bytes : List ℕ) (number : ℕ) (rest : List ℕ) (extent : Option Extent) (moves : List Parts) (line after : List ℕ) (due : Option Reason) (r : IsReading bytes number rest extent moves) → lines_of rest ≡ line ∷ lines_of after
    → is_content line ≡ true → reason_after extent (length moves) line ≡ due
    → first_bad 0 [] (lines_of bytes) ≡ bad_or (number + 1) due (first_bad (number + 1) (r.earlier ++ line ∷ []) (lines_of after))
judges_line bytes number rest extent moves line after due r e content is =
    let same : reason_of r.earlier line ≡ due = ap₂ (λ x ms. reason_after x (length ms) line) r.extent_is r.moves_are ∙ is in
    r.first ∙ ap (first_bad number r.earlier) e
    ∙ ap (λ t. if t then bad_or (suc number) (reason_of r.earlier line) (first_bad (suc number) (r.earlier ++ line ∷ []) (lines_of after)) else first_bad (suc number) r.earlier (lines_of after)) content
    ∙ ap (λ x. bad_or (suc number) x (first_bad (suc number) (r.earlier ++ line ∷ []) (lines_of after))) same
    ∙ ap (λ n. bad_or n due (first_bad n (r.earlier ++ line ∷ []) (lines_of after))) (sym (add-one number))

-- a good content line is taken
pub takes_line : (bytes : List ℕ) (number : ℕ) (rest : List ℕ) (extent : Option Extent) (moves : List Parts) (line after : List ℕ) (extent' : Option Extent) (moves' : List Parts) → IsReading bytes number rest extent moves
    → lines_of rest ≡ line ∷ lines_of after → length after < length rest → is_content line ≡ true → reason_after extent (length moves) line ≡ None → extent' ≡ Some (extent_with extent line) → moves' ≡ moves_with extent moves line
    → IsReading bytes (number + 1) after extent' moves'
takes_line bytes number rest extent moves line after extent' moves' r e shorter content good extent_is moves_is = record {
  earlier = r.earlier ++ line ∷ [];
  first = judges_line bytes number rest extent moves line after None r e content good;
  content =
      r.content ∙ ap (λ ls. r.earlier ++ filter is_content ls) e
      ∙ ap (λ t. r.earlier ++ (if t then line ∷ filter is_content (lines_of after) else filter is_content (lines_of after))) content
      ∙ sym (append_assoc r.earlier (line ∷ []) (filter is_content (lines_of after)));
  extent_is = extent-more r.earlier line ∙ ap (λ x. Some (extent_with x line)) r.extent_is ∙ sym extent_is;
  moves_are = moves-more r.earlier line ∙ ap₂ (λ x ms. moves_with x ms line) r.extent_is r.moves_are ∙ sym moves_is;
  passed = omega (arith, r.passed, shorter);
}
