-- The text of a printed book: an opening, its sides one after another, and an ending. Every line ends in a line feed.
use Rattle.std.specs.Prelude.{ℕ, ◌*◌, cond, List, [], ◌∷◌, ◌++◌, ℤ, pos, codes, decimal, nat_le}
use Rattle.std.specs.Fmt.{signed_decimal}
use Rattle.std.specs.List.{flat_map}
use Rattle.fold.specs.Words.{Letters}
use Rattle.pages.specs.Maps.{followed}
use Rattle.pages.specs.Meaning.{Meaning, size_of}
use Rattle.pages.specs.declared.maps.Map.{Map}
use Rattle.pages.specs.declared.maps.Placement.{Placement}
use Rattle.layers.specs.Layering.{Parts, part_shown}
use Rattle.layers.specs.declared.parts.Part.{Part}
use Rattle.signature.specs.Imposing.{positions}

-- a text and the line feed that ends it
abbrev pub line : List ℕ → List ℕ
line text = text ++ 10 ∷ []

-- ---- a block: one placement of a leaf

-- `Z D div`: a whole number over another, as PostScript says it
unfoldable pub quotient : ℤ → ℕ → List ℕ
quotient z d = signed_decimal z ++ (codes " " ++ (decimal d ++ codes " div"))

-- what stands before the ink: the leaf's own showpage is switched off, and the map moves, turns and scales it
unfoldable pub placing : Map → List ℕ
placing t =
    line (codes "save")
    ++ (line (codes "/showpage { } def")
    ++ (line (quotient t.x t.den ++ (codes " " ++ (quotient t.y t.den ++ codes " translate")))
    ++ (line (decimal (90 * t.turn) ++ codes " rotate")
    ++ line (quotient (pos t.num) t.den ++ codes " dup scale"))))

unfoldable pub block : Map → List ℕ → List ℕ
block t ink = placing t ++ (ink ++ line (codes "restore"))

-- ---- a side

unfoldable pub page_line : ℕ → List ℕ
page_line s = line (codes "%%Page: " ++ (decimal s ++ (codes " " ++ decimal s)))

abbrev pub showpage : List ℕ
showpage = line (codes "showpage")

-- side s with the blocks that it shows
abbrev pub side_of_blocks : ℕ → List ℕ → List ℕ
side_of_blocks s blocks = page_line s ++ (blocks ++ showpage)

-- a position of a side: for each placement of its page, in order, a block under the placement's map followed by the position's
abbrev pub position_text : Meaning → Part → List ℕ
position_text m x = flat_map (λ p. block (followed p.map x.map) (m.ink p.leaf)) (m.page x.page)

-- side s of the book that signatures of k sheets, folded by the word u, make of the source m: position by position
abbrev pub side_text : Letters → ℕ → Meaning → ℕ → List ℕ
side_text u k m s = side_of_blocks s (flat_map (position_text m) (positions u k (size_of m) s))

-- ---- before and after the sides

-- the head of a book of so many sides, w by h
unfoldable pub head_text : ℕ → ℕ → ℕ → List ℕ
head_text w h sides =
    line (codes "%!PS-Adobe-3.0")
    ++ (line (codes "%%BoundingBox: 0 0 " ++ (decimal w ++ (codes " " ++ decimal h)))
    ++ (line (codes "%%Pages: " ++ decimal sides)
    ++ line (codes "%%EndComments")))

-- the opening of a book whose sides are the pages of m: the head, then the preamble
abbrev pub opening_of : Meaning → List ℕ
opening_of m = head_text m.width m.height m.pages ++ m.ink 0

abbrev pub ending_text : List ℕ
ending_text = line (codes "%%Trailer") ++ line (codes "%%EOF")

-- ---- the same over parts of any layer
--
-- No type can say that the parts of a layer were accepted over what lies below, so the text of parts is total, as the
-- meaning of a layer is: a leaf that there is not has no ink, a page that is not below shows nothing, and a map that would
-- leave its bounds is not applied. `SidesAsShown` says that none of this happens to a layer whose order was accepted.

abbrev pub ink_of : Meaning → ℕ → List ℕ
ink_of m l = cond (nat_le l m.leaves) (m.ink l) []

abbrev pub block_of : Meaning → Placement → List ℕ
block_of m p = block p.map (ink_of m p.leaf)

abbrev pub blocks_of : Meaning → List Placement → List ℕ
blocks_of m ps = flat_map (block_of m) ps

abbrev pub part_text : Meaning → Part → List ℕ
part_text m x = blocks_of m (part_shown m x)

abbrev pub parts_text : Meaning → ℕ → Parts → List ℕ
parts_text m s xs = side_of_blocks s (flat_map (part_text m) xs)

-- ---- no text is longer

-- bytes of a block, and of a position
abbrev pub max_block : ℕ
max_block = 16777480

abbrev pub max_position : ℕ
max_position = 1073758720
