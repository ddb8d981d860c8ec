-- How maps and sizes are printed.
use Rattle.std.specs.Prelude.{ℕ, List, ◌++◌, codes, decimal}
use Rattle.std.specs.Fmt.{signed_decimal}
use Rattle.pages.specs.declared.maps.Map.{Map}
use Rattle.pages.specs.declared.maps.Size.{Size}

-- TURN NUM DEN X Y
abbrev pub map_text : Map → List ℕ
map_text m = decimal m.turn ++ (codes " " ++ (decimal m.num ++ (codes " " ++ (decimal m.den ++ (codes " " ++ (signed_decimal m.x ++ (codes " " ++ signed_decimal m.y)))))))

-- WIDTH HEIGHT
abbrev pub size_text : Size → List ℕ
size_text s = decimal s.width ++ (codes " " ++ decimal s.height)
