-- The bytes of a text, and where it ends in a buffer.
use Rattle.std.specs.Prelude.{ℕ, ◌+◌, cond, List, length, Some, None, decimal, Option, nat_le}
use Rattle.std.specs.Fmt.{signed_decimal}
use Rattle.std.specs.List.{flat_map}
use Rattle.text.specs.declared.Piece.{Piece}
use Rattle.text.specs.declared.Piece.TheVariants.{Bytes, Number, Signed}

abbrev pub spelled : Piece → List ℕ
spelled (Bytes bs) = bs.now
spelled (Number n) = decimal n
spelled (Signed z) = signed_decimal z

abbrev pub spelled_all : List Piece → List ℕ
spelled_all ps = flat_map spelled ps

-- The place after a text that is written from a place of a buffer of n bytes; none where it does not fit.
abbrev pub place_after : List ℕ → ℕ → ℕ → Option ℕ
place_after text n at = cond (nat_le (at + length text) n) (Some (at + length text)) None
