-- What the program prints for 01's site, for one that contradicts itself, for panels that disagree, for no bytes and for one, by computing. Assumes nothing.
use mathlib.Core.Path.{◌≡◌, refl}
use mathlib.Core.List.{List, [], ◌∷◌, ◌++◌, flat_map}
use Prim.Native.Nat.{ℕ}
use Rattle.rules.specs.Relations.{relations, has, set_to, set_of, full, meet, join, complement, within, size, opposite, converse, singles, composed, compose}
use Rattle.rules.specs.Expressions.{codes, code, follow, evaluate, expression}
use Rattle.rules.specs.Descriptions.{relation_line, kind_line, section, boards_before, after_numbers, after_offsets, relation_lines, kind_lines, meant, disagrees, first_disagreeing, kind_words, agreed, read}
use Rattle.rules.specs.Tables.{emptied, total}
use Rattle.rules.specs.Closing.{reaches, agree, bound6, bound6', bound7, bound7', rules1, rules2, rules3, rules4, rules5, rules6, rules7, rules, strike, sweep, sweeps, closing}
use Rattle.rules.specs.Search.{attempt, choose, places, search, cap}
use Rattle.rules.specs.Calls.{well_formed, admitted, searching}
use Rattle.words.specs.Words.{words}
use Rattle.puts.specs.Decimals.{digits, decimal}
use Rattle.listing.specs.Listings.{boards_text, tries_text, refused_text, input_line, sign, refusal_line, heading, pair_line, told, solved, listing}

-- words below 256, low byte first
abbrev bytes : List ℕ → List ℕ
bytes ws = flat_map (λ w. w ∷ 0 ∷ []) ws

-- words 3, 0, 1, 6, 6, 11, 0, 5, 2, 1, 2: `boards 3 tries 0`, `0 < 1`, `0 < 2`, `1 | 2`
pub panel_printed : listing (bytes (3 ∷ 0 ∷ 1 ∷ 6 ∷ 6 ∷ 11 ∷ 0 ∷ 5 ∷ 2 ∷ 1 ∷ 2 ∷ []))
    ≡ boards_text ++ (51 ∷ []) ++ tries_text ++ (48 ∷ 10 ∷ [])
    ++ (48 ∷ 32 ∷ 60 ∷ 32 ∷ 49 ∷ 10 ∷ []) ++ (48 ∷ 32 ∷ 60 ∷ 32 ∷ 50 ∷ 10 ∷ []) ++ (49 ∷ 32 ∷ 124 ∷ 32 ∷ 50 ∷ 10 ∷ [])
unfolding relations has set_to set_of full meet join complement within size opposite converse singles composed compose codes code
    follow evaluate expression relation_line kind_line section boards_before after_numbers after_offsets relation_lines kind_lines meant disagrees first_disagreeing kind_words agreed read emptied
    total reaches agree bound6 bound6' bound7 bound7' rules1 rules2 rules3 rules4 rules5 rules6 rules7 rules strike sweep
    sweeps closing attempt choose places search cap well_formed admitted searching flat_map words digits decimal sign refusal_line heading pair_line told solved listing
panel_printed = refl

-- 0 above 1 and 1 above 0: `refused 8`, since the search says none; 7 is told by an opening or a closing alone
pub contradiction_printed : listing (bytes (2 ∷ 2 ∷ 0 ∷ 6 ∷ 14 ∷ 14 ∷ 0 ∷ 1 ∷ 1 ∷ 1 ∷ 1 ∷ 0 ∷ 1 ∷ 1 ∷ [])) ≡ refused_text ++ (56 ∷ 10 ∷ [])
unfolding relations has set_to set_of full meet join complement within size opposite converse singles composed compose codes code
    follow evaluate expression relation_line kind_line section boards_before after_numbers after_offsets relation_lines kind_lines meant disagrees first_disagreeing kind_words agreed read emptied
    total reaches agree bound6 bound6' bound7 bound7' rules1 rules2 rules3 rules4 rules5 rules6 rules7 rules strike sweep
    sweeps closing attempt choose places search cap well_formed admitted searching flat_map words digits decimal sign refusal_line heading pair_line told solved listing
contradiction_printed = refl

-- two panels of code 5, with one way and with two: `refused 11`
pub disagreeing_printed : listing (bytes (2 ∷ 0 ∷ 2 ∷ 6 ∷ 6 ∷ 15 ∷ 0 ∷ 5 ∷ 1 ∷ 1 ∷ 1 ∷ 5 ∷ 2 ∷ 0 ∷ 0 ∷ [])) ≡ refused_text ++ (49 ∷ 49 ∷ 10 ∷ [])
unfolding kind_line section boards_before after_numbers after_offsets relation_lines kind_lines meant disagrees first_disagreeing kind_words agreed read admitted searching
    flat_map words digits decimal refusal_line told solved listing
disagreeing_printed = refl

-- no bytes: `refused 1`
pub nothing_printed : listing [] ≡ refused_text ++ (49 ∷ 10 ∷ [])
unfolding relations set_to set_of full after_numbers after_offsets meant read admitted searching words digits decimal refusal_line told solved listing
nothing_printed = refl

-- one byte: `input`
pub one_byte_printed : listing (0 ∷ []) ≡ input_line
unfolding listing
one_byte_printed = refl
