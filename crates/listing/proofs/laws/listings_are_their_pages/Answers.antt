use Rattle.listing.proofs.Bounds.{bounds}
use Rattle.listing.proofs.Parting.{parted}
use Rattle.listing.proofs.laws.listings_are_their_pages.Goals as goal

pub returns : goal.returns
returns c = λ file good. record {
  pages = parted 12 file;
  lines = parted 10;
  many = (bounds file good.clean).0;
  shapes = (bounds file good.clean).1;
}
