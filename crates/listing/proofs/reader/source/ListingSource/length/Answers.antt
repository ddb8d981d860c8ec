use Rattle.std.proofs.Common.{◌≡◌, ℕ, ◌-◌, ◌^◌, ◌<◌, ◌≤◌, List, length, min, Some, None, Ok, Option, ap, arith}
use Rattle.std.specs.Borrow.{Bor}
use Rattle.std.specs.Option.{MatchOption}
use Rattle.listing.specs.declared.reader.Listing.{Listing}
use Rattle.listing.specs.Inks.{ink_of}
use Rattle.listing.specs.Pages.{cut}
use Rattle.listing.specs.Sources.{PageOf}
use Rattle.listing.proofs.Inking.{ink_page}
use Rattle.listing.proofs.reader.source.ListingSource.length.Goals as goal

short : (s : Listing) (leaf n : ℕ) (page : Option (Bor (List ℕ))) → PageOf s.file.now s.leaves leaf (Ok page) → MatchOption page (n ≡ 0) (λ p. n ≡ min (length (ink_of p.now)) (2 ^ 64 - 1)) → n < 2 ^ 32
short s leaf n None p e = omega (arith, e)
short s leaf n (Some b) p e =
    let h : leaf ≤ length (cut 12 s.file.now) = omega (arith, s.counted, p.1) in
    omega (arith, e, s.lawful.inked leaf h, ap length (ink_page s.file.now leaf p.0), ap (λ t. length (ink_of t)) p.2)

pub overflow_cast-result : goal.overflow_cast-result
overflow_cast-result c = omega (arith, short c.args.self.now _ c.map_or.result c.in_ok-page.field-0 c.in_ok-page.ensures c.map_or.ensures)
