-- A whole book as one file.
use Rattle.std.specs.Prelude.{◌≡◌, ℕ, ◌≤◌, List, ◌++◌, map, length}
use Rattle.std.specs.List.{range_with_len, flat_map}
use Rattle.fold.specs.Words.{Letters}
use Rattle.pages.specs.Meaning.{Lawful, Meaning, size_of}
use Rattle.layers.specs.declared.extent.Extent.{Extent}
use Rattle.signature.specs.Imposing.{positions, side_size, sides_of}
use Rattle.sides.specs.Laws.{Accepted}
use Rattle.sides.specs.Texts.{position_text, showpage}
use Rattle.dsc.specs.Bounds.{longest}
use Rattle.dsc.specs.Printed.{Shows}
use Rattle.books.specs.Books.{book_text}

-- a side without its Page line
abbrev pub body_of : Letters → ℕ → Meaning → ℕ → List ℕ
body_of u k m s = flat_map (position_text m) (positions u k (size_of m) s) ++ showpage

-- what the scan of such a file finds
abbrev pub BooksReadBack : Type 0
BooksReadBack = (u : Letters) (k : ℕ) (m : Meaning) → Lawful m → (x : Extent) → Accepted u k m x → x.size ≡ side_size u (size_of m)
    → length (book_text u k m) ≤ longest
    → Shows (side_size u (size_of m)).width (side_size u (size_of m)).height (m.ink 0) (map (body_of u k m) (range_with_len 1 (sides_of u k m.pages))) (book_text u k m)
