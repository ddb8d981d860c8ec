-- The values of a comment lie in their ranges.
use Rattle.std.proofs.Common.{◌≡◌, ℕ, ◌≤◌, List, [], ◌∷◌, Some, None, Option, refl, subst}
use Rattle.pages.specs.declared.maps.Size.{Size}
use Rattle.pages.specs.Limits.{max_pages, max_side}
use Rattle.pages.specs.Pieces.{Piece}
use Rattle.pages.specs.Inks.{Context, text_of}
use Rattle.dsc.specs.Comments.{Kind, end_comments, trailer, pages, box, page, other, kind}
use Rattle.dsc.specs.Scans.{kind_of}
use Rattle.dsc.specs.Documents.{pages_or, size_or, first_pages, first_size}
use Rattle.dsc.proofs.Grammars.{pages_are, box_are}

pub record Sides (z : Size) : Type 0 where
  pub wide : (1 ≤ z.width) × (z.width ≤ max_side)
  pub high : (1 ≤ z.height) × (z.height ≤ max_side)

abbrev Few : Option ℕ → Type 0
Few None = Unit {0}
Few (Some n) = n ≤ max_pages

abbrev Sided : Option Size → Type 0
Sided None = Unit {0}
Sided (Some z) = Sides z

abbrev InRange : Kind → Type 0
InRange end_comments = Unit {0}
InRange trailer = Unit {0}
InRange (pages v) = Few v
InRange (box v) = Sided v
InRange (page l o) = Unit {0}
InRange other = Unit {0}

kind_in : (t : List ℕ) → InRange (kind t)
kind_in t = by (kind t) refl
  where
    by : (k : Kind) → kind t ≡ k → InRange k
    by end_comments e = tt
    by trailer e = tt
    by (pages None) e = tt
    by (pages (Some n)) e = (pages_are t n e).few
    by (box None) e = tt
    by (box (Some z)) e = let p = box_are t z e in record { wide = p.wide; high = p.high }
    by (page l o) e = tt
    by other e = tt

pages_or_few : (k : Kind) (v : Option ℕ) → InRange k → Few v → Few (pages_or k v)
pages_or_few end_comments v r f = f
pages_or_few trailer v r f = f
pages_or_few (pages n) v r f = r
pages_or_few (box z) v r f = f
pages_or_few (page l o) v r f = f
pages_or_few other v r f = f

size_or_sided : (k : Kind) (v : Option Size) → InRange k → Sided v → Sided (size_or k v)
size_or_sided end_comments v r f = f
size_or_sided trailer v r f = f
size_or_sided (pages n) v r f = f
size_or_sided (box z) v r f = r
size_or_sided (page l o) v r f = f
size_or_sided other v r f = f

first_few : (ps : List (Piece Context)) → Few (first_pages ps)
first_few [] = tt
first_few (p ∷ ps) = pages_or_few (kind_of p) (first_pages ps) (kind_in (text_of p.bytes)) (first_few ps)

first_sided : (ps : List (Piece Context)) → Sided (first_size ps)
first_sided [] = tt
first_sided (p ∷ ps) = size_or_sided (kind_of p) (first_size ps) (kind_in (text_of p.bytes)) (first_sided ps)

pub announced_few : (ps : List (Piece Context)) (n : ℕ) → first_pages ps ≡ Some n → n ≤ max_pages
announced_few ps n e = subst Few e (first_few ps)

pub announced_sides : (ps : List (Piece Context)) (z : Size) → first_size ps ≡ Some z → Sides z
announced_sides ps z e = subst Sided e (first_sided ps)
