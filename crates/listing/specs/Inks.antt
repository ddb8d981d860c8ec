-- The ink of a listed page: its lines in Courier, from the top.
use Rattle.std.specs.Prelude.{ℕ, ◌+◌, ◌-◌, ◌*◌, Bool, cond, ◌||◌, List, [], ◌∷◌, ◌++◌, codes, decimal, ◌==◌}
use Rattle.listing.specs.Pages.{cut}
use Rattle.listing.specs.Places.{line_feed}

-- The bytes that have a meaning in a PostScript string: parentheses and the backslash.
abbrev pub special : ℕ → Bool
special b = b == 40 || (b == 41 || b == 92)

-- A backslash before each of them.
abbrev pub escape : ℕ → List ℕ
escape b = cond (special b) (92 ∷ b ∷ []) (b ∷ [])

abbrev pub escaped : List ℕ → List ℕ
escaped [] = []
escaped (b ∷ bs) = escape b ++ escaped bs

-- How high a line stands, in points; lines count from 0.
abbrev pub baseline : ℕ → ℕ
baseline i = 748 - 11 * i

-- One line, with its line feed.
unfoldable pub shown_line : ℕ → List ℕ → List ℕ
shown_line i l = codes "36 " ++ (decimal (baseline i) ++ (codes " moveto (" ++ (escaped l ++ (codes ") show" ++ 10 ∷ []))))

abbrev pub shown_lines : ℕ → List (List ℕ) → List ℕ
shown_lines i [] = []
shown_lines i (l ∷ ls) = shown_line i l ++ shown_lines (i + 1) ls

abbrev pub font : List ℕ
font = codes "/Courier findfont 6 scalefont setfont" ++ 10 ∷ []

abbrev pub ink_of : List ℕ → List ℕ
ink_of page = font ++ shown_lines 0 (cut line_feed page)
