-- The letters that a word holds, and the text that spells it.
use Rattle.std.specs.Prelude.{◌≡◌, ℕ, ◌≤◌, List, map, length, Result, Ok, Err, ◌≢◌}
use Rattle.fold.specs.Words.{Letters, code, letters}
use Rattle.fold.specs.declared.letters.Letter.{Letter}
use Rattle.fold.specs.declared.letters.Letters.{Letters as Unread}
use Rattle.fold.specs.declared.letters.UnknownLetter.{UnknownLetter}
use Rattle.fold.specs.declared.word.NotAWord.{NotAWord}
use Rattle.fold.specs.declared.word.Word.{Word}

-- What a character is read as: the letter that it is, or an error that holds it where it is none.
abbrev pub Decodes : ℕ → Result Letter UnknownLetter → Type 0
Decodes c (Ok letter) = code letter ≡ c
Decodes c (Err e) = (e.0 ≡ c) × ((letter : Letter) → code letter ≢ c)

abbrev pub spelled : Word → Letters
spelled w = letters w.len w.mask

-- The letters that are still to come of an iterator.
abbrev pub unread : Unread → Letters
unread l = letters l.left l.mask

abbrev pub text_of : Letters → List ℕ
text_of w = map code w

-- What reading a text answers: the word that it spells, or an error where it spells no word of one to four letters.
abbrev pub Reads : List ℕ → Result Word NotAWord → Type 0
Reads text (Ok w) = text ≡ text_of (spelled w)
Reads text (Err e) = (u : Letters) → 1 ≤ length u → length u ≤ 4 → text ≢ text_of u
