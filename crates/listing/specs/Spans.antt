-- Where pages lie in a file, from a place of it on.
use Rattle.std.specs.Prelude.{ℕ, ◌+◌, List, [], ◌∷◌, length}
use Rattle.pages.specs.declared.spans.Span.{Span}
use Rattle.listing.specs.Pages.{cut}
use Rattle.listing.specs.declared.page_spans.PageSpans.{PageSpans}

-- Each page begins after the one before it and a form feed.
abbrev pub spans_from : ℕ → List (List ℕ) → List Span
spans_from at [] = []
spans_from at (p ∷ ps) = record { offset = at; length = length p } ∷ spans_from (at + length p + 1) ps

-- Those of the pages that are left.
abbrev pub spans_left : PageSpans → List Span
spans_left s = spans_from s.at (cut s.pages.separator s.pages.rest.now)
