use Rattle.std.proofs.Common.{◌≡◌, ◌*◌, ◌≤◌, take, true, sum_by}
use Rattle.std.specs.List.{list_all}
use Rattle.hall_symbol.specs.Spelling.{is_letter, letters_shift, letter_x, letter_y, letter_z}
use Rattle.hall_symbol.proofs.part.letters_of.Given as goal

abbrev pub invariant-letters : goal.invariant-letters
invariant-letters l = (list_all is_letter (take l.letter-index l.text) ≡ true)
    × (l.sum ≡ letters_shift (take l.letter-index l.text))
    × (sum_by letter_x (take l.letter-index l.text) ≤ 6 * l.letter-index)
    × (sum_by letter_y (take l.letter-index l.text) ≤ 6 * l.letter-index)
    × (sum_by letter_z (take l.letter-index l.text) ≤ 6 * l.letter-index)
