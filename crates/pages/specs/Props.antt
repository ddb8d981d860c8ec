-- That pieces are calm is shown in one way only, so a reader may hold that its meaning is lawful.
use Rattle.std.specs.Prelude.{true, List, [], ◌∷◌}
use Rattle.std.specs.Coded.{×_prop, Unit-prop, Coded-set, coded_bool}
use Rattle.pages.specs.Pieces.{Piece, AllCalm}
use Rattle.pages.specs.Inks.{Context, lines}

pub AllCalm-prop : (ps : List (Piece Context)) → IsProp (AllCalm lines ps)
AllCalm-prop [] = Unit-prop
AllCalm-prop (p ∷ ps) = ×_prop (Coded-set coded_bool (lines.calm p) true) (AllCalm-prop ps)
