use Rattle.pages.proofs.Composing.{maps_compose}
use Rattle.pages.proofs.maps.maps_compose.Goals as goal

pub returns : goal.returns
returns c = maps_compose
