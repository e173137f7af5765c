-- The first line of a text, and the first word of a line.
use Rattle.std.proofs.Common.{◌≡◌, ℕ, ◌+◌, ◌-◌, ◌<◌, ◌==◌, Bool, true, false, not, cond, suc, map, ◌≤◌, ◌≢◌, length-drop, length-take, List, [], ◌∷◌, length, get_or, take, drop, arith, refl, ap, sym, ◌∙◌, if◌then◌else◌}
use Rattle.std.specs.List.{list_any, prefix_len, position_or_len, before_first, after_first}
use Rattle.std.proofs.lemmas.Bool.{false≢true}
use Rattle.std.proofs.lemmas.Grind.{common_steps}
use Rattle.std.proofs.lemmas.List.{drop-drop, take-take}
use Rattle.std.proofs.Math.Seq.{drop-length}
use Rattle.std.proofs.Math.ListN.{drop_of_length-le}
use Rattle.spellings.proofs.Places.{any_before_end}
use Rattle.spellings.specs.Lines.{onto_first, pieces_of, lines_of, without_return, is_blank, starts_word, words_in, after_blanks}

-- up to the first line feed
piece_before_feed : (bytes : List ℕ) → list_any (λ c. c == 10) bytes ≡ true → pieces_of bytes ≡ before_first (λ c. c == 10) bytes ∷ pieces_of (after_first (λ c. c == 10) bytes)
piece_before_feed [] has = grind arith
piece_before_feed (c ∷ bytes) has = grind (arith, common_steps, piece_before_feed bytes)

-- up to the end
piece_before_end : (c : ℕ) (bytes : List ℕ) → list_any (λ c. c == 10) (c ∷ bytes) ≡ false → pieces_of (c ∷ bytes) ≡ (c ∷ bytes) ∷ []
piece_before_end c [] none = grind (arith, common_steps)
piece_before_end c (d ∷ bytes) none = grind (arith, common_steps, piece_before_end d bytes)

-- whether there is a carriage return to drop, the last byte says
return_at_end : (c : ℕ) (line : List ℕ) → without_return (c ∷ line) ≡ (if get_or (c ∷ line) (length line) 0 == 13 then take (length line) (c ∷ line) else c ∷ line)
return_at_end c [] = refl
return_at_end c (d ∷ line) = grind (arith, common_steps, return_at_end d line)

-- a carriage return as the last byte
pub return_dropped : (line : List ℕ) (last : ℕ) → length line ≡ suc last → get_or line last 0 ≡ 13 → take last line ≡ without_return line
return_dropped [] last len is = absurd (omega arith)
return_dropped (c ∷ line) last len is =
    let e : last ≡ length line = omega arith in
    grind (arith, return_at_end c line)

-- another byte as the last
pub return_absent : (line : List ℕ) (last : ℕ) → length line ≡ suc last → get_or line last 0 ≢ 13 → line ≡ without_return line
return_absent [] last len is = absurd (omega arith)
return_absent (c ∷ line) last len is =
    let e : last ≡ length line = omega arith in
    grind (arith, return_at_end c line)

-- a line is the front of its piece
without_return-front : (piece : List ℕ) → (take (length (without_return piece)) piece ≡ without_return piece) × (length (without_return piece) ≤ length piece)
without_return-front [] = (refl, omega arith)
without_return-front (c ∷ []) =
    elim (c == 13) as (λ b. (take (length (if b then [] else c ∷ [])) (c ∷ []) ≡ (if b then [] else c ∷ [])) × (length (if b then [] else c ∷ []) ≤ 1)) [
      | true ↦ (refl, omega arith)
      | false ↦ (refl, omega arith)
    ]
without_return-front (c ∷ d ∷ piece) =
    let front = without_return-front (d ∷ piece) in
    (ap (λ l. c ∷ l) front.0, omega (arith, front.1))

-- where a line ends, and where what follows it begins
pub record HasPlaces (bytes : List ℕ) (from place : ℕ) (line after : List ℕ) : Type 0 where
  -- the line stands from this place on
  pub line_is : take (from + length line - from) (drop from bytes) ≡ line
  -- after its end the rest begins
  pub after_is : drop place bytes ≡ after
  -- the line ends before the place after it
  pub ends : from + length line ≤ place
  -- which is later than where it began
  pub shorter : from < place

-- of a line that a line feed ends
pub places_before_feed : (bytes : List ℕ) (from : ℕ) (rest piece line after : List ℕ) → from ≤ length bytes → rest ≡ drop from bytes → list_any (λ c. c == 10) rest ≡ true
    → piece ≡ before_first (λ c. c == 10) rest → after ≡ after_first (λ c. c == 10) rest → line ≡ without_return piece → HasPlaces bytes from (length bytes - length after) line after
places_before_feed bytes from rest piece line after within rest_is has piece_is after_is line_is =
    let feed : ℕ = position_or_len (λ c. c == 10) rest in
    let early : feed < length rest = grind (arith, common_steps, any_before_end (λ c. c == 10) rest) in
    let long : length rest ≡ length bytes - from = ap length rest_is ∙ length-drop from bytes in
    let front = without_return-front piece in
    let few : length line ≤ feed = omega (arith, ap length line_is, front.1, ap length piece_is, length-take feed rest) in
    let left : length after ≡ length rest - (feed + 1) = ap length after_is ∙ length-drop (feed + 1) rest in
    let place : length bytes - length after ≡ from + (feed + 1) = omega (arith, left, long, early, within) in
    let width : from + length line - from ≡ length line = omega arith in
    let whole : take (length line) rest ≡ line =
    sym (take-take (length line) feed rest few) ∙ ap (take (length line)) (sym piece_is) ∙ ap (λ l. take (length l) piece) line_is ∙ front.0 ∙ sym line_is in
    record {
      line_is = ap (λ n. take n (drop from bytes)) width ∙ ap (take (length line)) (sym rest_is) ∙ whole;
      after_is = ap (λ n. drop n bytes) place ∙ sym (drop-drop (feed + 1) from bytes) ∙ ap (drop (feed + 1)) (sym rest_is) ∙ sym after_is;
      ends = omega (arith, place, few);
      shorter = omega (arith, place);
    }

-- of a line that the end of the text ends
pub places_before_end : (bytes : List ℕ) (from : ℕ) (rest line : List ℕ) → rest ≡ drop from bytes → line ≡ without_return rest → 0 < length rest → HasPlaces bytes from (length bytes) line []
places_before_end bytes from rest line rest_is line_is some =
    let long : length rest ≡ length bytes - from = ap length rest_is ∙ length-drop from bytes in
    let front = without_return-front rest in
    let few : length line ≤ length rest = omega (arith, ap length line_is, front.1) in
    let width : from + length line - from ≡ length line = omega arith in
    record {
      line_is = ap (λ n. take n (drop from bytes)) width ∙ ap (take (length line)) (sym rest_is) ∙ ap (λ l. take (length l) rest) line_is ∙ front.0 ∙ sym line_is;
      after_is = drop-length bytes;
      ends = omega (arith, few, long, some);
      shorter = omega (arith, long, some);
    }

-- without a line feed nothing follows
pub none_after : (rest : List ℕ) → list_any (λ c. c == 10) rest ≡ false → after_first (λ c. c == 10) rest ≡ []
none_after rest none =
    let late : length rest ≤ position_or_len (λ c. c == 10) rest + 1 = grind (arith, common_steps, any_before_end (λ c. c == 10) rest) in
    drop_of_length-le rest late

-- a line up to the first line feed, and what follows it
pub line_before_feed : (bytes piece line rest : List ℕ) → list_any (λ c. c == 10) bytes ≡ true → piece ≡ before_first (λ c. c == 10) bytes → rest ≡ after_first (λ c. c == 10) bytes →
    line ≡ without_return piece → 0 < length bytes → (lines_of bytes ≡ line ∷ lines_of rest) × (length rest < length bytes)
line_before_feed bytes piece line rest has piece_is rest_is line_is some =
    let pieces : pieces_of bytes ≡ piece ∷ pieces_of rest = rw (piece_is, rest_is) (piece_before_feed bytes has) in
    let lines : lines_of bytes ≡ without_return piece ∷ lines_of rest = ap (map without_return) pieces in
    (rw line_is lines, omega (arith, ap length rest_is, length-drop (position_or_len (λ c. c == 10) bytes + 1) bytes))

-- a line up to the end
pub line_before_end : (bytes line : List ℕ) → list_any (λ c. c == 10) bytes ≡ false → line ≡ without_return bytes → 0 < length bytes → lines_of bytes ≡ line ∷ []
line_before_end [] line none line_is some = absurd (omega arith)
line_before_end (c ∷ bytes) line none line_is some = rw line_is (ap (map without_return) (piece_before_end c bytes none))

-- the blank bytes at the front belong to no word
words_after_blanks : (line : List ℕ) → words_in (after_blanks line) ≡ words_in line
words_after_blanks [] = refl
words_after_blanks (c ∷ line) = grind (arith, common_steps, words_after_blanks line)

-- what stands after the blank bytes at the front
pub after_blanks_is : (line : List ℕ) → after_blanks line ≡ drop (prefix_len is_blank line) line
after_blanks_is [] = refl
after_blanks_is (c ∷ line) =
    elim (is_blank c) as (λ b. cond b (after_blanks line) (c ∷ line) ≡ drop (cond b (1 + prefix_len is_blank line) 0) (c ∷ line)) [
      | true ↦ let one_more : 1 + prefix_len is_blank line ≡ suc (prefix_len is_blank line) = omega arith in rw one_more (after_blanks_is line)
      | false ↦ refl
    ]

-- where no word starts, none goes on
no_word : (line : List ℕ) → starts_word line ≡ false → prefix_len (λ c. not (is_blank c)) line ≡ 0
no_word [] none = refl
no_word (c ∷ line) none = grind (arith, common_steps)

-- a byte in front of a line of which n bytes go on with the word, if any
word_step : (goes_on : Bool) (c n : ℕ) (line : List ℕ) → (goes_on ≡ true → words_in line ≡ take n line ∷ words_in (drop n line)) → (goes_on ≡ false → n ≡ 0) →
    cond goes_on (onto_first c (words_in line)) ((c ∷ []) ∷ words_in line) ≡ take (1 + n) (c ∷ line) ∷ words_in (drop (1 + n) (c ∷ line))
word_step true c n line first none = let one_more : 1 + n ≡ suc n = omega arith in rw one_more (ap (onto_first c) (first refl))
word_step false c n line first none = let zero_more : n ≡ 0 = none refl in rw zero_more refl

-- a word goes up to the next blank byte or the end
word_before_blank : (line : List ℕ) → starts_word line ≡ true → words_in line ≡ take (prefix_len (λ c. not (is_blank c)) line) line ∷ words_in (drop (prefix_len (λ c. not (is_blank c)) line) line)
word_before_blank [] starts = grind arith
word_before_blank (c ∷ line) starts =
    let n = prefix_len (λ d. not (is_blank d)) line in
    elim (is_blank c) as (λ b. not b ≡ true → cond b (words_in line) (cond (starts_word line) (onto_first c (words_in line)) ((c ∷ []) ∷ words_in line)) ≡ take (cond (not b) (1 + n) 0) (c ∷ line) ∷ words_in (drop (cond (not b) (1 + n) 0) (c ∷ line))) [
      | true ↦ λ h. absurd (false≢true h)
      | false ↦ λ h. word_step (starts_word line) c n line (word_before_blank line) (no_word line)
    ] starts

-- after the blank bytes at the front stands a word, or nothing
word_after_blanks : (line : List ℕ) → 0 < length (after_blanks line) → starts_word (after_blanks line) ≡ true
word_after_blanks [] some = absurd (omega arith)
word_after_blanks (c ∷ line) some = grind (arith, common_steps, word_after_blanks line)

-- a word has a byte
word_has_byte : (line : List ℕ) → starts_word line ≡ true → 0 < prefix_len (λ c. not (is_blank c)) line
word_has_byte [] starts = grind arith
word_has_byte (c ∷ line) starts = grind (arith, common_steps)

-- the first word of a line, and what follows it
pub first_word : (line rest : List ℕ) (n : ℕ) → rest ≡ after_blanks line → 0 < length rest → n ≡ prefix_len (λ c. not (is_blank c)) rest → (words_in line ≡ take n rest ∷ words_in (drop n rest)) × (length (drop n rest) < length line)
first_word line rest n rest_is some n_is =
    let starts : starts_word rest ≡ true = rw rest_is (word_after_blanks line (rw rest_is at some)) in
    let words : words_in line ≡ words_in rest = sym (words_after_blanks line) ∙ ap words_in (sym rest_is) in
    let cut : words_in rest ≡ take n rest ∷ words_in (drop n rest) = rw n_is (word_before_blank rest starts) in
    let positive : 0 < n = rw n_is (word_has_byte rest starts) in
    let dropped : rest ≡ drop (prefix_len is_blank line) line = rest_is ∙ after_blanks_is line in
    let shorter : length rest ≤ length line = omega (arith, ap length dropped, length-drop (prefix_len is_blank line) line) in
    (words ∙ cut, omega (arith, length-drop n rest))

-- what follows blank bytes is no longer
pub after_blanks-short : (line : List ℕ) (from : ℕ) (tail rest : List ℕ) → tail ≡ drop from line → rest ≡ after_blanks tail → length rest ≤ length line
after_blanks-short line from tail rest tail_is rest_is =
    omega (arith, ap length (rest_is ∙ after_blanks_is tail), length-drop (prefix_len is_blank tail) tail, ap length tail_is, length-drop from line)

-- where the first word from a place on begins, and where it ends
pub record HasWord (line : List ℕ) (from start n : ℕ) : Type 0 where
  -- the word stands between these two places, and the other words after it
  pub word : words_in (drop from line) ≡ take (start + n - start) (drop start line) ∷ words_in (drop (start + n) line)
  -- it begins no earlier than the search
  pub after : from ≤ start
  -- it has a byte at least
  pub some : start < start + n
  -- it ends within the line
  pub within : start + n ≤ length line

-- the word after the blanks has these places
pub word_place : (line : List ℕ) (from : ℕ) (tail rest : List ℕ) (n : ℕ) → from ≤ length line → tail ≡ drop from line → rest ≡ after_blanks tail → 0 < length rest → n ≡ prefix_len (λ c. not (is_blank c)) rest → n ≤ length rest
    → HasWord line from (length line - length rest) n
word_place line from tail rest n within tail_is rest_is some n_is few =
    let blanks : ℕ = prefix_len is_blank tail in
    let first = first_word tail rest n rest_is some n_is in
    let starts : starts_word rest ≡ true = rw rest_is (word_after_blanks tail (rw rest_is at some)) in
    let positive : 0 < n = rw n_is (word_has_byte rest starts) in
    let dropped : rest ≡ drop (from + blanks) line = rest_is ∙ after_blanks_is tail ∙ ap (drop blanks) tail_is ∙ drop-drop blanks from line in
    let left : length rest ≡ length line - (from + blanks) = ap length dropped ∙ length-drop (from + blanks) line in
    let place : length line - length rest ≡ from + blanks = omega (arith, left, some) in
    let here : drop (length line - length rest) line ≡ rest = ap (λ k. drop k line) place ∙ sym dropped in
    let width : length line - length rest + n - (length line - length rest) ≡ n = omega arith in
    let past : drop n rest ≡ drop (length line - length rest + n) line = ap (drop n) (sym here) ∙ drop-drop n (length line - length rest) line in
    record {
      word =
          ap words_in (sym tail_is) ∙ first.0 ∙ ap (λ l. take n rest ∷ words_in l) past
          ∙ ap (λ l. l ∷ words_in (drop (length line - length rest + n) line)) (ap (take n) (sym here) ∙ ap (λ k. take k (drop (length line - length rest) line)) (sym width));
      after = omega (arith, place);
      some = omega (arith, positive);
      within = omega (arith, few, place, left, some);
    }

-- of blank bytes alone there is no word
pub no_words : (line rest : List ℕ) → rest ≡ after_blanks line → length rest ≡ 0 → words_in line ≡ []
no_words line [] rest_is none = sym (words_after_blanks line) ∙ ap words_in (sym rest_is)
no_words line (c ∷ rest) rest_is none = absurd (omega arith)
