-- Lines, their texts, and the form of an ink.
use Rattle.std.specs.Prelude.{◌≡◌, ℕ, ◌-◌, Bool, true, false, cond, not, ◌&&◌, ◌||◌, ◌⊎◌, List, [], ◌∷◌, ◌++◌, length, take, codes, ◌==◌, slice_index}
use Rattle.std.specs.Str.{bytes_eq}
use Rattle.pages.specs.Pieces.{Piece, Cutter, Inked, fresh, pieces}

-- the last byte; 0 where there is none
abbrev pub last_byte : List ℕ → ℕ
last_byte bs = slice_index bs (length bs - 1)

-- all bytes but the last
abbrev pub shorter : List ℕ → List ℕ
shorter bs = take (length bs - 1) bs

-- bytes without the carriage return (13) at their end, if there is one
abbrev pub uncarried : List ℕ → List ℕ
uncarried bs = cond (last_byte bs == 13) (shorter bs) bs

-- a line's text leaves out its line feed (10), and a carriage return just before that
abbrev pub text_of : List ℕ → List ℕ
text_of l = cond (last_byte l == 10) (uncarried (shorter l)) l

-- a text that no line of an ink has: it begins with `%%Page:` or is `%%Trailer`
abbrev pub forbidden : List ℕ → Bool
forbidden t = bytes_eq (take 7 t) (codes "%%Page:") || bytes_eq t (codes "%%Trailer")

-- what a line stands in: so far always the page itself
pub data Context : Type 0 where
  plain : Context

-- bytes cut into lines: each ends with its line feed
abbrev pub lines : Cutter Context
lines = record {
  outside = plain;
  whole = λ p. (last_byte p.bytes == 10);
  behind = λ p. plain;
  calm = λ p. not (forbidden (text_of p.bytes));
}

-- the form of an ink: whole lines, none of them forbidden
abbrev pub Ink : List ℕ → Type 0
Ink bs = Inked lines bs

-- The same in other words: lines as bytes without a line feed.

-- no line feed among the bytes
abbrev pub unbroken : List ℕ → Bool
unbroken [] = true
unbroken (b ∷ bs) = not (b == 10) && unbroken bs

-- one line as a piece of the bytes
abbrev pub line : List ℕ → Piece Context
line l = record { context = plain; bytes = l }

abbrev pub lines_of : List ℕ → List (Piece Context)
lines_of bs = pieces lines (fresh plain) bs

-- a line runs to its line feed, or to the end of the bytes
abbrev pub ReadsLine : Type 0
ReadsLine = (l rest : List ℕ) → unbroken l ≡ true → lines_of (l ++ 10 ∷ rest) ≡ line (l ++ 10 ∷ []) ∷ lines_of rest

abbrev pub ReadsLast : Type 0
ReadsLast = (b : ℕ) (bs : List ℕ) → unbroken (b ∷ bs) ≡ true → lines_of (b ∷ bs) ≡ line (b ∷ bs) ∷ []

-- lines with a line feed behind each
abbrev pub fed : List (List ℕ) → List ℕ
fed [] = []
fed (l ∷ ls) = l ++ 10 ∷ fed ls

-- lines that an ink may have
abbrev pub AllAllowed : List (List ℕ) → Type 0
AllAllowed [] = Unit {0}
AllAllowed (l ∷ ls) = ((unbroken l ≡ true) × (forbidden (uncarried l) ≡ false)) × AllAllowed ls

pub record Allowed (bs : List ℕ) : Type 0 where
  pub parts : List (List ℕ)
  pub whole : bs ≡ fed parts
  pub each : AllAllowed parts

-- an ink is lines that are allowed, with a line feed behind each, and is nothing else
pub record InksAreLines : Type 0 where
  pub ink_lines : (bs : List ℕ) → Ink bs → Allowed bs
  pub lines_ink : (bs : List ℕ) → Allowed bs → Ink bs
  pub ends : (bs : List ℕ) → Ink bs → (bs ≡ []) ⊎ (last_byte bs ≡ 10)
